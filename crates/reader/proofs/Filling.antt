-- The second pass, turn by turn: what is left of the text has the words that are left of the table. Assumes nothing.
use mathlib.Core.Path.{◌≡◌, refl, sym, ◌∙◌, ap}
use mathlib.Core.List.{List, [], ◌∷◌, ◌++◌}
use Prim.Native.Nat.{ℕ, zero, suc, ◌+◌, ◌*◌, ◌≤◌, ◌<◌}
use native.Mathlib.Omega.{arith}
use lib.ListN.{length, get_or, length-append}
use lib.Seq.{sets, length-sets}
use Rattle.three.specs.Lists.{over}
use Rattle.circuit.specs.declared.Counts.{Counts}
use Rattle.circuit.specs.RulesInCode.{Passed, Bounded}
use Rattle.circuit.specs.Table.{top, Kind, several, row_tests, literal_tests, operand_tests}
use Rattle.circuit.proofs.Refusals.{passes, passed_append}
use Rattle.text.proofs.Spelling.{words_below}
use Rattle.text.specs.Outcome.{Outcome, accepted, refused, onward, leaves}
use Rattle.text.specs.OutcomeInCode.{after}
use Rattle.text.specs.Text.{words, line_tests, Lines}
use Rattle.text.proofs.Outcomes.{accepted_same, refused_accepted}
use Rattle.lines.specs.declared.read_line.ReadLine.{ReadLine}
use Rattle.lines.specs.LinesInCode.{from, numbers_of}
use Rattle.reader.specs.ReaderInCode.{Reads, LineShown, WordsFit, lines_of, body_words, Stand, stand, Fillable, Filled}
use Rattle.text.proofs.Steps.{line_numbered}
use Rattle.text.proofs.Stores.{sets_append, sets_front}
use Rattle.text.proofs.Tables.{lines_from, lines_first, lines_next, lines_last}

-- words that nothing refuses have 16 bits
pub words_small : (most : ℕ) (k : Kind) (ns : List ℕ) → most < 65536 → Passed (line_tests most k ns) → (i : ℕ) → get_or (words k ns) i 0 < 65536
unfolding line_tests row_tests
words_small most k ns h p = words_below 65536 most k ns (omega arith) h (passed_append (literal_tests most k (words k ns)) (operand_tests k (words k ns)) p.1.1).0

-- ---- a line, and those behind it

-- A line that was read in front of others gives these words, and the others stand behind it
pub record Turn (read : Reads) (text : List ℕ) (k : Kind) (ks : List Kind) (at next : ℕ) (ws : List ℕ) : Type 0 where
  pub within : next ≤ length text
  pub small : (i : ℕ) → get_or ws i 0 < 65536
  pub accepts : read ks (from text next) ≡ accepted (lines_of read ks (from text next))
  pub gives : ws ++ body_words read ks (from text next) ≡ body_words read (k ∷ ks) (from text at)

after_accepted : {A : Type 0} (n : ℕ) {o : Outcome A} {a : A} → after n o ≡ accepted a → (0 ≡ n) × (o ≡ accepted a)
after_accepted zero e = (refl, e)
after_accepted (suc n) e = absurd (refused_accepted e)

onward_accepted : {A B : Type 0} (f : A → B) (o : Outcome A) {b : B} → onward f o ≡ accepted b → (a : A) × (o ≡ accepted a) × (f a ≡ b)
unfolding onward
onward_accepted f (accepted a) e = (a, refl, accepted_same e)
onward_accepted f (refused n) e = absurd (refused_accepted e)

pub line_turn : {read : ℕ → Reads} {text : List ℕ} {at : ℕ} {l : ReadLine} {ws : List ℕ} (c : Counts) (k : Kind) (ks : List Kind) → Bounded c → LineShown read text at k l → ws ≡ words k (numbers_of l)
    → read (top c) (k ∷ ks) (from text at) ≡ accepted (lines_of (read (top c)) (k ∷ ks) (from text at)) → Turn (read (top c)) text k ks at l.next ws
unfolding lines_of leaves
line_turn {read} {text} {at} {l} {ws} c k ks b f w accepts =
    let p = after_accepted _ (sym (f.says (top c) ks) ∙ accepts) in
    let others = onward_accepted f.adds _ p.1 in
    let on : read (top c) ks (from text l.next) ≡ accepted others.0 = others.1 in
    let same : lines_of (read (top c)) ks (from text l.next) ≡ others.0 = ap (leaves (λ (l : Lines). l) _) on in
    rw w (record {
      within = f.within;
      small = words_small (top c) k (numbers_of l) (omega arith) (passes _ (line_numbered (top c) k (numbers_of l)) p.0);
      accepts = on ∙ ap accepted (sym same);
      gives = ap (λ (o : Lines). words k (numbers_of l) ++ o.words) same ∙ sym (f.words others.0) ∙ ap (λ (o : Lines). o.words) others.2;
    })

module _ {read : Reads} {text : List ℕ} {k : Kind} {ks : List Kind} {at next : ℕ} {ws : List ℕ} (t : Turn read text k ks at next ws) {p : ℕ} {table : List ℕ} (f : Fillable read text (stand (k ∷ ks) at p table)) where
  turn_long : length ws + length (body_words read ks (from text next)) ≡ length (body_words read (k ∷ ks) (from text at))
  turn_long = sym (length-append ws _) ∙ ap length t.gives

  turn_fits : WordsFit ws p table
  turn_fits = record { small = t.small; room = omega (arith, turn_long, f.room) }

  turn_filled : {table' : List ℕ} → table' ≡ sets table p ws → Filled read text (stand (k ∷ ks) at p table) (stand ks next (p + length ws) table')
  turn_filled {table'} e =
      let long : length table' ≡ length table = ap length e ∙ length-sets table p ws in
      record {
        left = record { within = t.within; accepts = t.accepts; room = omega (arith, turn_long, f.room) };
        long = long;
        same = rw e (sym (sets_append table p ws _) ∙ ap (sets table p) t.gives);
      }

-- ---- a pass, and another behind it

pub filled_none : {read : Reads} {text : List ℕ} {s : Stand} → Fillable read text s → Filled read text s s
filled_none f = record { left = f; long = refl; same = refl }

pub filled_then : {read : Reads} {text : List ℕ} {s t u : Stand} → Filled read text s t → Filled read text t u → Filled read text s u
filled_then a b = record { left = b.left; long = b.long ∙ a.long; same = b.same ∙ a.same }

pub filled_over : {read : Reads} {text : List ℕ} {ks : List Kind} {at next p : ℕ} {table table' : List ℕ} → ((t : List ℕ) → [] ≡ body_words read [] t) → Fillable read text (stand ks at 0 table)
    → Filled read text (stand ks at 0 table) (stand [] next p table') → table' ≡ over (body_words read ks (from text at)) table
filled_over {p = p} {table = table} {table' = table'} none f a = ap (sets table' p) (none _) ∙ a.same ∙ sets_front table _ (omega (arith, f.room))

-- ---- lines of one kind, of which i are stored

pub record Filling (read : Reads) (text : List ℕ) (kind : ℕ → Kind) (own n : ℕ) (ks : List Kind) (s : Stand) (next p i : ℕ) (table : List ℕ) : Type 0 where
  pub few : i ≤ n
  pub on : Filled read text s (stand (lines_from kind own n ks i) next p table)

module _ {read : Reads} {text : List ℕ} {kind : ℕ → Kind} {own n : ℕ} {ks : List Kind} where
  pub filling_first : {at p q : ℕ} {table : List ℕ} → Fillable read text (stand (several kind own n ks) at p table) → q ≡ p
      → Filling read text kind own n ks (stand (several kind own n ks) at p table) at q 0 table
  filling_first {at} {p} {q} {table} f e = record { few = omega arith; on = rw (e, ← (lines_first kind own n ks)) (filled_none f) }

  module _ {s : Stand} {next p i : ℕ} {table : List ℕ} (f : Filling read text kind own n ks s next p i table) where
    module _ (h : i < n) where
      here : Filled read text s (stand (kind (own + 2 * i) ∷ lines_from kind own n ks (i + 1)) next p table)
      here = rw (lines_next kind own n ks i h) at f.on

      -- the next line is read in front of the others
      pub filling_accepts : read (kind (own + 2 * i) ∷ lines_from kind own n ks (i + 1)) (from text next) ≡ accepted (lines_of read (kind (own + 2 * i) ∷ lines_from kind own n ks (i + 1)) (from text next))
      filling_accepts = here.left.accepts

      module _ {to : ℕ} {ws : List ℕ}
          (turn : read (kind (own + 2 * i) ∷ lines_from kind own n ks (i + 1)) (from text next) ≡ accepted (lines_of read (kind (own + 2 * i) ∷ lines_from kind own n ks (i + 1)) (from text next))
          → Turn read text (kind (own + 2 * i)) (lines_from kind own n ks (i + 1)) next to ws) where
        pub filling_fits : WordsFit ws p table
        filling_fits = turn_fits (turn here.left.accepts) here.left

        pub filling_next : {table' : List ℕ} {q : ℕ} → table' ≡ sets table p ws → q ≡ p + length ws → Filling read text kind own n ks s to q (i + 1) table'
        filling_next {table'} {q} t r = record { few = omega arith; on = rw r (filled_then here (turn_filled (turn here.left.accepts) here.left t)) }

    pub filling_last : {q : ℕ} → n ≤ i → q ≡ p → Filled read text s (stand ks next q table)
    filling_last h e = rw (e, ← (lines_last kind own n ks i h)) f.on
