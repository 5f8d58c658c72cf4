-- A refusal has a number: no text is refused by 0, so that 0 always says what was read. Assumes nothing.
use mathlib.Core.List.{List, [], ◌∷◌}
use Prim.Native.Nat.{ℕ, zero, suc, ◌≤◌}
use native.Mathlib.Omega.{arith}
use Rattle.circuit.specs.declared.Counts.{Counts}
use Rattle.circuit.specs.Refusal.{Test, refusal}
use Rattle.circuit.specs.Table.{Kind, kinds}
use Rattle.text.specs.Line.{read_line}
use Rattle.text.specs.Outcome.{Outcome, accepted, refused, tested, further, onward}
use Rattle.text.specs.OutcomeInCode.{after}
use Rattle.text.specs.Text.{read_lines, first_line, counts_of, read_opened, read_text}
use Rattle.text.proofs.Parts.{by_part}
use Rattle.text.proofs.Steps.{Read}

abbrev pub HasNumber : {A : Type 0} → Outcome A → Type 0
HasNumber (accepted a) = Unit {0}
HasNumber (refused n) = 1 ≤ n

pub tested_numbered : {A : Type 0} (ts : List Test) (o : Outcome A) → HasNumber o → HasNumber (tested ts o)
unfolding tested
tested_numbered ts o h = go (refusal ts)
  where
    go : (k : ℕ) → HasNumber (after k o)
    go zero = h
    go (suc k) = omega arith

pub onward_numbered : {A B : Type 0} (f : A → B) (o : Outcome A) → HasNumber o → HasNumber (onward f o)
unfolding onward
onward_numbered f (accepted a) h = tt
onward_numbered f (refused n) h = h

further_numbered : {A : Type 0} (ts : A → List Test) (o : Outcome A) → HasNumber o → HasNumber (further ts o)
unfolding further
further_numbered ts (accepted a) h = tested_numbered (ts a) (accepted a) tt
further_numbered ts (refused n) h = h

lines_numbered : (ending : List ℕ) (tests : Kind → List ℕ → List Test) (ks : List Kind) (t : List ℕ) → HasNumber (read_lines ending tests ks t)
unfolding read_lines
lines_numbered ending tests [] t = tt
lines_numbered ending tests (k ∷ ks) t = by_part (read_line ending t)
    (λ ns rest e. rw (read_lines, e) (tested_numbered _ _ (onward_numbered _ _ (lines_numbered ending tests ks rest))))
    (λ e. rw (read_lines, e) (omega arith))

pub opened_numbered : (opening ending : List ℕ) (read : Read) → ((c : Counts) (t : List ℕ) → HasNumber (read c (kinds c) t)) → (t : List ℕ) → HasNumber (read_opened opening ending read t)
unfolding read_opened
opened_numbered opening ending read h t = by_part (first_line opening ending t)
    (λ ns rest e. rw (read_opened, e) (tested_numbered _ _ (tested_numbered _ _ (onward_numbered _ _ (further_numbered _ _ (h (counts_of ns) rest))))))
    (λ e. rw (read_opened, e) (tested_numbered _ (refused 2) (omega arith)))

pub read_numbered : (t : List ℕ) → HasNumber (read_text t)
unfolding read_text
read_numbered t = opened_numbered _ _ _ (λ c r. lines_numbered _ _ (kinds c) r) t
