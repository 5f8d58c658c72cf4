-- What is written is read back with each gate's larger operand first; so equal bytes are equal circuits, and what is read is a legal and ordered table. Assumes nothing.
use mathlib.Core.Path.{◌≡◌, sym, ◌∙◌, ap}
use mathlib.Core.List.{List, [], ◌++◌, append_assoc, append-nil}
use Prim.Native.Nat.{ℕ, ◌≤◌}
use native.Mathlib.Omega.{arith}
use lib.ListN.{length, take, drop}
use lib.Seq.{take-length, take-append_seam}
use Rattle.three.specs.Lists.{over}
use Rattle.circuit.specs.declared.Counts.{Counts}
use Rattle.circuit.specs.Refusal.{refusal, left_by as afterwards}
use Rattle.circuit.specs.Table.{top, table_length, kinds, circuit_tests}
use Rattle.text.specs.Line.{newline}
use Rattle.text.specs.Outcome.{accepted}
use Rattle.text.specs.Text.{head_numbers, write_rows, write_opened, Content}
use Rattle.text.proofs.Outcomes.{accepted_same}
use Rattle.text.proofs.Tables.{owned_kinds, Taken, taken, taken_refusal}
use Rattle.text.proofs.Heads.{written_heads}
use Rattle.text.proofs.Grammar.{Closing, done}
use Rattle.text.proofs.Answers.{read_fits, reading_accepted, write_legal}
use Rattle.binary.specs.Binary.{row_bytes, write_binary, read_binary}
use Rattle.binary.specs.Ordered.{ordered, Ordered}
use Rattle.binary.specs.Calls.{BinaryReading, BinaryWriting}
use Rattle.binary.proofs.Describing.{BinaryDescribes, described_read, written_says}
use Rattle.binary.proofs.OrderedRows.{ordered_rows_lem, ordered_rules}
use Rattle.binary.proofs.Ordering.{length_ordered, ordered_stays}
use Rattle.binary.proofs.Bound.{binary_bound}
use Rattle.binary.proofs.ReadRows.{BinaryRead, binary_read}

-- ---- what is written is read back

-- what the bytes of a table say: its counts, and its words in order
abbrev pub orderly : Counts → List ℕ → Content
orderly c table = record { counts = c; words = ordered c table }

module _ (c : Counts) (table : List ℕ) (legal : 0 ≡ refusal (circuit_tests c table)) where
  -- with any proper end behind it
  pub written_describes : (tail : List ℕ) → Closing newline tail → length (write_binary c table ++ tail) ≤ 60000 → BinaryDescribes (write_binary c table ++ tail) (orderly c table)
  unfolding write_opened
  written_describes tail e short =
      let k : Taken c table = taken c table legal in
      record {
        short = short;
        legal = taken_refusal (record { bounded = k.bounded; long = omega (arith, length_ordered c table k.long); rules = ordered_rules c table k });
        whole = length_ordered c table k.long;
        head = head_numbers c;
        heads = written_heads c;
        body = write_rows row_bytes (kinds c) table ++ tail;
        text = simp append_assoc;
        rest = tail;
        says = rw (← (ordered_rows_lem c table k.long)) (written_says (top c) (kinds c) table tail (owned_kinds c) k.rules);
        closes = e;
      }

  pub round_trip : read_binary (write_binary c table) ≡ accepted (orderly c table)
  round_trip =
      let e : write_binary c table ++ [] ≡ write_binary c table = append-nil (write_binary c table) in
      rw e at (described_read (written_describes [] done (rw e (omega (arith, binary_bound c table legal)))))

-- ---- equal bytes are equal circuits

pub bytes_determine : (c d : Counts) (t u : List ℕ) → 0 ≡ refusal (circuit_tests c t) → 0 ≡ refusal (circuit_tests d u) → Ordered c t → Ordered d u
    → write_binary c t ≡ write_binary d u → (c ≡ d) × (take (table_length c) t ≡ take (table_length d) u)
bytes_determine c d t u lc ld oc od e =
    let same : orderly c t ≡ orderly d u = accepted_same (sym (round_trip c t lc) ∙ ap read_binary e ∙ round_trip d u ld) in
    let k : Taken c t = taken c t lc in
    let j : Taken d u = taken d u ld in
    (ap (λ (x : Content). x.counts) same, sym (ordered_stays c t k.long oc) ∙ ap (λ (x : Content). x.words) same ∙ ordered_stays d u j.long od)

-- ---- what was read reads the same from the bytes that are written of it

pub read_again : (t : List ℕ) {c : Content} → read_binary t ≡ accepted c → read_binary (write_binary c.counts c.words) ≡ accepted c
read_again t {c} a =
    let r : BinaryRead c = binary_read t a in
    let long : table_length c.counts ≤ length c.words = omega (arith, r.whole) in
    let e : take (table_length c.counts) c.words ≡ c.words = rw (← r.whole) (take-length c.words) in
    round_trip c.counts c.words r.legal ∙ ap (λ (ws : List ℕ). accepted (record { counts = c.counts; words = ws })) (ordered_stays c.counts c.words long r.larger ∙ e)

-- the reader, given the bytes that the writer wrote and a table that is long enough
pub read_back : {c : Counts} {table buffer : List ℕ} {bytes : ℕ} {buffer' : List ℕ} → BinaryWriting c table buffer 0 bytes buffer'
    → (lent : List ℕ) → table_length c ≤ length lent → BinaryReading (take bytes buffer') lent 0 c (over (ordered c table) lent)
unfolding afterwards over
read_back {c} {table} {buffer} w lent h =
    let text : List ℕ = write_binary c table in
    let e = round_trip c table (write_legal c table text buffer w.answers) in
    rw (w.returns, w.fills, take-append_seam text (drop (length text) buffer)) (reading_accepted lent (read_fits lent e h))
