-- From what the writer's functions answer to its contract, refusal by refusal. Assumes nothing.
use mathlib.Core.Path.{◌≡◌, refl, sym, ap, ◌∙◌}
use mathlib.Core.List.{List}
use Prim.Native.Nat.{ℕ, zero, suc, ◌+◌, ◌*◌, ◌-◌, ◌/◌, ◌≤◌, ◌<◌}
use native.Mathlib.Nat.{zero-add}
use native.Mathlib.Omega.{arith}
use borrow.Author.Tests.{ltb-true, ltb-false}
use lib.Dec.{ltb}
use lib.ListN.{length, get_or}
use Rattle.std.specs.Prelude.{Result, IsErrAnd}
use Rattle.std.proofs.lemmas.Result.{err_from_is_err_and}
use Rattle.circuit.specs.declared.Counts.{Counts}
use Rattle.circuit.specs.declared.Refusal.{Refusal}
use Rattle.circuit.specs.Answer.{number_of, answered, answer_or}
use Rattle.circuit.proofs.Answering.{numbered}
use Rattle.circuit.specs.Refusal.{refusal}
use Rattle.circuit.specs.Table.{circuit_tests, table_length, literals_at, gates_at}
use Rattle.circuit.specs.RulesInCode.{Legal}
use Rattle.text.specs.Text.{write_text}
use Rattle.text.specs.Calls.{WrittenBy}
use Rattle.putting.specs.PutInCode.{Put}
use Rattle.writer.specs.WriterInCode.{SmallWords, Writable}
use Rattle.circuit.proofs.Legality.{legal}
use Rattle.three.proofs.Lists.{by_test}
use Rattle.text.proofs.Bound.{text_bound}
use Rattle.text.proofs.Answers.{write_stops, write_short, write_fits, writing_refused, writing_accepted}
use Rattle.putting.proofs.Putting.{put_over}

-- 3, 10 for the table, 11
written_stops : (c : Counts) (table written buffer : List ℕ) (n : ℕ) → n ≡ refusal (circuit_tests c table) → (n ≡ 0 → ⊥) → WrittenBy c table written buffer n 0 buffer
written_stops c table written buffer zero e f = absurd (f refl)
written_stops c table written buffer (suc k) e f = writing_refused c table written buffer (write_stops c table written buffer (sym e))

-- the same, as the answer of `?`
pub written_turned : (c : Counts) (table written buffer : List ℕ) (r : Result ℕ Refusal) (e : Refusal) → IsErrAnd r (λ x. x ≡ e) → number_of e ≡ refusal (circuit_tests c table)
    → WrittenBy c table written buffer (answered r) (answer_or 0 r) buffer
written_turned c table written buffer r e made same =
    let (x, was, is) = err_from_is_err_and r made in
    rw was (written_stops c table written buffer (number_of x) (ap number_of is ∙ same) (numbered x))

-- ---- a legal table's words have at most four digits

-- of two words beside each other
either_small : (words : List ℕ) (first k : ℕ) → first ≤ k → k < first + 2 → get_or words first 0 < 10000 → get_or words (first + 1) 0 < 10000 → get_or words k 0 < 10000
either_small words first k l h a b = by_test (ltb first k)
    (λ e. let p : k ≡ first + 1 = omega (arith, ltb-true first k e) in rw p b)
    (λ e. let p : k ≡ first = omega (arith, ltb-false first k e) in rw p a)

legal_small : {c : Counts} {table : List ℕ} → Legal c table → SmallWords table (table_length c)
legal_small {c} {table} l k h = by_test (ltb k (literals_at c))
    (λ e. let i : ℕ = k / 2 in
    let p : i < c.latches = omega (arith, ltb-true k (literals_at c) e) in
    either_small table (2 * i) k (omega arith) (omega arith) (omega (arith, l.bounded, l.next i p)) (omega (arith, l.reset i p)))
    (λ e. by_test (ltb k (gates_at c))
    (λ f. let i : ℕ = k - literals_at c in
    let p : k ≡ literals_at c + i = omega (arith, ltb-false k (literals_at c) e) in
    rw p (omega (arith, l.bounded, l.literal i (omega (arith, ltb-true k (gates_at c) f)))))
    (λ f. let i : ℕ = (k - gates_at c) / 2 in
    let g : gates_at c ≤ k = ltb-false k (gates_at c) f in
    either_small table (gates_at c + 2 * i) k (omega arith) (omega arith) (omega (arith, l.bounded, l.left i (omega arith))) (omega (arith, l.bounded, l.right i (omega arith)))))

-- what the passes may assume
pub written_ready : (c : Counts) (table : List ℕ) → 0 ≡ refusal (circuit_tests c table) → Writable c table
written_ready c table nothing =
    let l : Legal c table = legal c table nothing in
    record { bounded = l.bounded; long = l.long; small = legal_small l; below = λ i h. (omega (arith, l.left i h), omega (arith, l.right i h)) }

-- ---- the call

module _ (c : Counts) (table written : List ℕ) (nothing : 0 ≡ refusal (circuit_tests c table)) where
  -- 10 for the bytes
  pub written_short : (buffer : List ℕ) → length buffer < length written → WrittenBy c table written buffer 10 0 buffer
  written_short buffer h = writing_refused c table written buffer (write_short c table written buffer nothing h)

  pub written_accepted : {buffer buffer' : List ℕ} {bytes : ℕ} → length written ≤ length buffer → Put buffer 0 written buffer' bytes → WrittenBy c table written buffer 0 bytes buffer'
  written_accepted {buffer} h p = rw (p.after, zero-add, put_over p h) (writing_accepted c table written buffer (write_fits c table written buffer nothing h))

-- a written text has as many bytes as the passes may count
pub text_within : (c : Counts) (table : List ℕ) → 0 ≡ refusal (circuit_tests c table) → length (write_text c table) ≤ 60000
text_within c table h = omega (arith, text_bound c table h)
