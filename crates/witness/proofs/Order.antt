-- The order of the refusals by example, computed: whatever number the contracts of tick, chain, judge and writer allow for a row is the row's. Assumes nothing.
use mathlib.Core.Path.{◌≡◌, refl, sym, ◌∙◌}
use mathlib.Core.Bool.{true}
use mathlib.Core.List.{List, [], ◌∷◌}
use Prim.Native.Nat.{ℕ, zero, suc}
use borrow.Author.Tests.{eqb-true}
use lib.Dec.{eqb}
use Rattle.three.specs.Record.{pairs, bad, leftover, sound}
use Rattle.three.specs.Lists.{every}
use Rattle.three.proofs.Lists.{and_parts}
use Rattle.circuit.specs.Refusal.{left_by}
use Rattle.tick.specs.Tick.{record_tests, tick_result_tests, TickGiven, tick_tests}
use Rattle.text.specs.Decimal.{digits, decimal}
use Rattle.text.specs.Line.{ended_line}
use Rattle.text.specs.Text.{head_numbers, further_numbers, shown, numbers, write_rows, line_of, write_opened}
use Rattle.text.specs.Calls.{putting_tests}
use Rattle.cubes.specs.Chain.{outcome_number, ChainGiven, refused_by, outcome_in}
use Rattle.cubes.specs.Judge.{JudgeGiven}
use Rattle.cubes.specs.Examples.{answered}
use Rattle.witness.specs.Computed.{computed}
use Rattle.witness.specs.Order.{Row, AsNumbered, numbered, TickAllows, tick_number, ChainAllows, else_outcome, chain_number, JudgeAllows, judge_number, WriteGiven, WriteAllows, write_number, ticks, chains, judges, writes}

all_numbered : {G : Type 0} {Allows : G → ℕ → Type 0} (f : G → ℕ) → ((call : G) (number : ℕ) → Allows call number → number ≡ f call)
    → (rows : List (Row G)) → numbered f rows ≡ true → AsNumbered Allows rows
unfolding numbered
all_numbered f is [] e = tt
all_numbered f is (x ∷ xs) e =
    let p = and_parts (eqb (f x.call) x.number) _ e in
    (λ number allows. is x.call number allows ∙ eqb-true _ _ p.0, all_numbered f is xs p.1)

-- ---- tick

ticks_number : (g : TickGiven) (number : ℕ) → TickAllows g number → number ≡ tick_number g
unfolding tick_number
ticks_number g number allows = allows.ticked.answers

ticks_computed : numbered tick_number ticks ≡ true
unfolding computed numbered tick_number ticks tick_tests record_tests tick_result_tests sound every bad pairs leftover
ticks_computed = refl

pub tick_order : AsNumbered TickAllows ticks
tick_order = all_numbered tick_number ticks_number ticks ticks_computed

-- ---- chain

else_outcome_lem : (g : ChainGiven) (k : ℕ) → left_by k (outcome_number (outcome_in g)) k ≡ else_outcome g k
unfolding left_by else_outcome
else_outcome_lem g zero = refl
else_outcome_lem g (suc k) = refl

chains_number : (g : ChainGiven) (number : ℕ) → ChainAllows g number → number ≡ chain_number g
unfolding chain_number
chains_number g number allows = sym allows.same ∙ allows.chained.answers ∙ else_outcome_lem g (refused_by g)

chains_computed : numbered chain_number chains ≡ true
unfolding computed numbered chain_number else_outcome chains
chains_computed = refl

pub chain_order : AsNumbered ChainAllows chains
chain_order = all_numbered chain_number chains_number chains chains_computed

-- ---- judge

judges_number : (g : JudgeGiven) (number : ℕ) → JudgeAllows g number → number ≡ judge_number g
unfolding judge_number
judges_number g number allows = sym allows.same ∙ allows.judged.answers

judges_computed : numbered judge_number judges ≡ true
unfolding computed answered numbered judge_number judges
judges_computed = refl

pub judge_order : AsNumbered JudgeAllows judges
judge_order = all_numbered judge_number judges_number judges judges_computed

-- ---- writer

writes_number : (g : WriteGiven) (number : ℕ) → WriteAllows g number → number ≡ write_number g
unfolding write_number
writes_number g number allows = allows.writing.answers

writes_computed : numbered write_number writes ≡ true
unfolding computed numbered write_number writes putting_tests write_opened head_numbers ended_line decimal digits write_rows line_of numbers shown further_numbers
writes_computed = refl

pub write_order : AsNumbered WriteAllows writes
write_order = all_numbered write_number writes_number writes writes_computed
