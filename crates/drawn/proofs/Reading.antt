-- What is accepted: the first line, then line by line, then 20, 21, 22 and 9. Assumes nothing.
use mathlib.Core.Path.{◌≡◌, ap, ◌∙◌}
use mathlib.Core.List.{List, [], ◌∷◌, ◌++◌}
use Prim.Native.Nat.{ℕ, zero, suc, ◌≤◌, ◌<◌}
use native.Mathlib.Omega.{arith}
use borrow.Author.Tests.{le-leb, leb-true}
use lib.Dec.{leb}
use lib.ListN.{length, get_or}
use Rattle.circuit.specs.RulesInCode.{Passed, Bounded}
use Rattle.circuit.specs.declared.Counts.{Counts}
use Rattle.circuit.specs.Refusal.{Test, ◌or◌}
use Rattle.circuit.specs.Table.{variables, ceiling_tests, Kind, input, latch, literal, gate, literal_tests}
use Rattle.circuit.proofs.Refusals.{Numbered, past, none, passed_append, passed_refusal}
use Rattle.text.specs.Part.{got}
use Rattle.text.specs.Outcome.{accepted, tested, further, onward}
use Rattle.text.specs.Text.{words, Lines, read_lines, header, counts_of, count_tests}
use Rattle.text.proofs.Parts.{by_part}
use Rattle.text.proofs.Outcomes.{accepted_same, tested_past, refused_accepted, tested_accepted, further_accepted, onward_accepted}
use Rattle.text.proofs.Heads.{counts_passed}
use Rattle.text.proofs.Steps.{line_accepted}
use Rattle.drawn.specs.Drawing.{Drawing, drawing_tests}
use Rattle.text.proofs.Spelling.{words_below}
use Rattle.drawn.specs.Lines.{any_tests, any_header_tests, body_of, drawing, after_tests, read_drawing, read_any_ended}

pub any_numbered : (most : ℕ) (k : Kind) (ns : List ℕ) → Numbered (any_tests most k ns)
unfolding any_tests literal_tests
any_numbered most (input own) ns = omega arith
any_numbered most (latch own) ns = omega arith
any_numbered most (gate own) ns = omega arith
any_numbered most literal ns = omega arith

-- ---- a text

-- words that nothing refuses are small
pub words_small : (most : ℕ) (k : Kind) (ns : List ℕ) → most < 8192 → Passed (any_tests most k ns) → (i : ℕ) → get_or (words k ns) i 0 < 8192
unfolding any_tests
words_small most k ns h p = words_below 8192 most k ns (omega arith) h p.1

pub accepted_small : (ending : List ℕ) (most : ℕ) (ks : List Kind) (t : List ℕ) {l : Lines} → most < 8192 → read_lines ending (any_tests most) ks t ≡ accepted l → (i : ℕ) → get_or l.words i 0 < 8192
unfolding read_lines
accepted_small ending most [] t h a i = rw (← (accepted_same a)) (omega arith)
accepted_small ending most (k ∷ ks) t h a i =
    let f = line_accepted ending (any_tests most) k ks t (any_numbered most k) a in
    rw (← f.gives) (either (words k f.numbers) f.others.words (words_small most k f.numbers h f.passes) (accepted_small ending most ks f.behind h f.on) i)
  where
    either : (xs ys : List ℕ) → ((i : ℕ) → get_or xs i 0 < 8192) → ((i : ℕ) → get_or ys i 0 < 8192) → (i : ℕ) → get_or (xs ++ ys) i 0 < 8192
    either [] ys p q i = q i
    either (x ∷ xs) ys p q zero = p 0
    either (x ∷ xs) ys p q (suc i) = either xs ys (λ j. p (suc j)) q i

-- Lines that are read, and nothing behind them refused
module _ (ending : List ℕ) (most : ℕ) (c : Counts) (rest : List ℕ) where
  abbrev tests : Lines → List Test
  tests l = after_tests ending (drawing most c l) l.rest

  after_numbered : (l : Lines) → Numbered (tests l)
  unfolding after_tests drawing_tests
  after_numbered l = omega arith

  pub drawing_accepted : {d : Drawing} → read_drawing ending most c rest ≡ accepted d → (l : Lines) × (body_of ending most c rest ≡ accepted l) × Passed (tests l) × (drawing most c l ≡ d)
  unfolding read_drawing
  drawing_accepted a =
      let q = onward_accepted (drawing most c) (further tests (body_of ending most c rest)) a in
      let f = further_accepted tests (body_of ending most c rest) after_numbered q.1 in
      (q.0, f.0, f.1, q.2)

  module _ {l : Lines} (on : body_of ending most c rest ≡ accepted l) where
    -- what is left of reading once the lines are read
    pub drawing_lines : read_drawing ending most c rest ≡ onward (drawing most c) (tested (tests l) (accepted l))
    unfolding read_drawing further
    drawing_lines = rw on

    pub drawing_fits : Passed (tests l) → read_drawing ending most c rest ≡ accepted (drawing most c l)
    unfolding onward
    drawing_fits q = drawing_lines ∙ ap (onward (drawing most c)) (tested_past (tests l) (accepted l) (passed_refusal _ q))

-- A text that is read: its first line, and what the lines behind it make
pub record TextRead (ending t : List ℕ) (d : Drawing) : Type 0 where
  pub numbers : List ℕ
  pub rest : List ℕ
  pub split : header ending t ≡ got numbers rest
  pub passes : Passed (any_header_tests numbers)
  pub on : read_drawing ending (get_or numbers 0 0) (counts_of numbers) rest ≡ accepted d

pub text_accepted : (ending t : List ℕ) {d : Drawing} → read_any_ended ending t ≡ accepted d → TextRead ending t d
unfolding read_any_ended any_header_tests count_tests ceiling_tests
text_accepted ending t a =
    let s = tested_accepted (leb (length t) 60000 or 1 ∷ []) _ (omega arith) a in
    by_part (header ending t)
    (λ ns rest e.
    let p = tested_accepted (any_header_tests ns) _ (omega arith) (rw e at s.1) in
    record { numbers = ns; rest = rest; split = e; passes = p.0; on = p.1 })
    (λ e. absurd (refused_accepted (rw e at s.1)))

pub text_fits : (ending t : List ℕ) {ns rest : List ℕ} → length t ≤ 60000 → header ending t ≡ got ns rest → Passed (any_header_tests ns)
    → read_any_ended ending t ≡ read_drawing ending (get_or ns 0 0) (counts_of ns) rest
unfolding read_any_ended
text_fits ending t {ns} short e p =
    tested_past _ _ (past _ [] (le-leb (length t) 60000 short) none)
    ∙ rw e (tested_past (any_header_tests ns) _ (passed_refusal _ p))

-- what 2 and 3 leave of a first line
pub any_header : (ns : List ℕ) → Passed (any_header_tests ns) → Bounded (counts_of ns) × (get_or ns 0 0 ≤ 4095) × (variables (counts_of ns) ≤ get_or ns 0 0)
unfolding any_header_tests
any_header ns p =
    let q = passed_append (count_tests ns) _ p in
    ((counts_passed ns q.0).3, leb-true (get_or ns 0 0) 4095 q.1.0, leb-true (variables (counts_of ns)) (get_or ns 0 0) q.1.1.0)
