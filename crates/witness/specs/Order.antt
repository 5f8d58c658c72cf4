-- The order of the refusals by example (specification, 7.2), for tick, chain, judge and writer: each row has one
-- fault and others that come later in the order, the next among them, and gives the first one's number. The reader's stand with
-- its texts. Assumes nothing.
use Rattle.std.specs.Prelude.{◌≡◌, Bool, true, ◌&&◌, List, [], ◌∷◌, ℕ, zero, suc, eqb, length, replicate}
use Rattle.circuit.specs.declared.Counts.{Counts}
use Rattle.circuit.specs.Table.{plain_counts}
use Rattle.circuit.specs.Refusal.{refusal}
use Rattle.tick.specs.Tick.{tick_tests, TickGiven, Ticked}
use Rattle.text.specs.Calls.{write_tests, Writing}
use Rattle.cubes.specs.declared.ChainAnswer.{ChainAnswer}
use Rattle.cubes.specs.declared.JudgeAnswer.{JudgeAnswer}
use Rattle.cubes.specs.Chain.{outcome_number, ChainGiven, refused_by, outcome_in, Chained}
use Rattle.cubes.specs.Judge.{JudgeGiven, judge_tests, Judged}

-- ---- rows

-- a call and its number
pub record Row (G : Type 0) : Type 0 where
  pub call : G
  pub number : ℕ

infix 68 ◌gives◌
abbrev pub ◌gives◌ : {G : Type 0} → G → ℕ → Row G
call gives number = record { call = call; number = number }

-- whatever number the contract allows for the call of a row is the row's
abbrev pub AsNumbered : {G : Type 0} → (G → ℕ → Type 0) → List (Row G) → Type 0
AsNumbered Allows [] = Unit {0}
AsNumbered Allows (x ∷ xs) = ((number : ℕ) → Allows x.call number → number ≡ x.number) × AsNumbered Allows xs

-- the same by a function that computes the number
unfoldable pub numbered : {G : Type 0} → (G → ℕ) → List (Row G) → Bool
numbered f [] = true
numbered f (x ∷ xs) = eqb (f x.call) x.number && numbered f xs

-- ---- tick

-- some buffers at exit go with the number
pub record TickAllows (g : TickGiven) (number : ℕ) : Type 0 where
  pub next : List ℕ
  pub lamps : List ℕ
  pub ticked : Ticked g number next lamps

unfoldable pub tick_number : TickGiven → ℕ
tick_number g = refusal (tick_tests g.counts g.table g.state g.switches (length g.next) (length g.lamps))

-- ---- chain

pub record ChainAllows (g : ChainGiven) (number : ℕ) : Type 0 where
  pub answer : ChainAnswer
  pub cubes : List ℕ
  pub chained : Chained g answer cubes
  pub same : answer.number ≡ number

-- the refusal before 15, and only without one the outcome's number
unfoldable pub else_outcome : ChainGiven → ℕ → ℕ
else_outcome g zero = outcome_number (outcome_in g)
else_outcome g (suc k) = suc k

unfoldable pub chain_number : ChainGiven → ℕ
chain_number g = else_outcome g (refused_by g)

-- ---- judge

pub record JudgeAllows (g : JudgeGiven) (number : ℕ) : Type 0 where
  pub answer : JudgeAnswer
  pub verdict : List ℕ
  pub settled : List ℕ
  pub judged : Judged g answer verdict settled
  pub same : answer.number ≡ number

unfoldable pub judge_number : JudgeGiven → ℕ
judge_number g = refusal (judge_tests g)

-- ---- writer

-- What the writer is given: counts, table, and the buffer as it is lent
pub record WriteGiven : Type 0 where
  pub counts : Counts
  pub table : List ℕ
  pub buffer : List ℕ

pub record WriteAllows (g : WriteGiven) (number : ℕ) : Type 0 where
  pub bytes : ℕ
  pub buffer' : List ℕ
  pub writing : Writing g.counts g.table g.buffer number bytes buffer'

unfoldable pub write_number : WriteGiven → ℕ
write_number g = refusal (write_tests g.counts g.table g.buffer)

-- ---- the calls: E of the bench circuits, with one switch more

abbrev fair : Counts
fair = plain_counts 1 1 1 0

-- 257 inputs
abbrev many : Counts
many = plain_counts 257 1 1 0

-- no lamp
abbrev dark : Counts
dark = plain_counts 1 1 0 0

-- 257 inputs, and no lamp
abbrev many_dark : Counts
many_dark = plain_counts 257 1 0 0

-- so many lamps, bad states and constraints
abbrev further : ℕ → ℕ → ℕ → Counts
further o b c = record { inputs = 1; latches = 1; lamps = o; gates = 0; bads = b; constraints = c }

-- next literal 1 and reset 0, lamp literal 4
abbrev good : List ℕ
good = 1 ∷ 0 ∷ 4 ∷ []

-- the same for a lamp and four bad states: five verdicts
abbrev five : List ℕ
five = 1 ∷ 0 ∷ 4 ∷ 4 ∷ 4 ∷ 4 ∷ 4 ∷ []

-- a lamp, and the constraint that the latch is 0
abbrev ending : List ℕ
ending = 1 ∷ 0 ∷ 4 ∷ 5 ∷ []

-- reset 3
abbrev broken : List ℕ
broken = 1 ∷ 3 ∷ 4 ∷ []

-- the same, and a word short
abbrev short : List ℕ
short = 1 ∷ 3 ∷ []

-- a record with 0 in its field, one with the pair 11, and one with a leftover bit set
abbrev off : List ℕ
off = 0x40 ∷ []

abbrev bad : List ℕ
bad = 0xC0 ∷ []

abbrev spilt : List ℕ
spilt = 0x41 ∷ []

-- a cube with a mark of 00, and one with a mark of 11
abbrev unmarked : List ℕ
unmarked = 0x10 ∷ []

abbrev overmarked : List ℕ
overmarked = 0xD0 ∷ []

abbrev one : List ℕ
one = 0xFF ∷ []

abbrev tick : Counts → List ℕ → List ℕ → List ℕ → List ℕ → List ℕ → TickGiven
tick c table state switches next lamps = record { counts = c; table = table; state = state; switches = switches; next = next; lamps = lamps }

abbrev chain : Counts → List ℕ → ℕ → List ℕ → ChainGiven
chain c table w cubes = record { counts = c; table = table; w = w; cubes = cubes }

abbrev judge : Counts → List ℕ → List ℕ → ℕ → ℕ → List ℕ → List ℕ → JudgeGiven
judge c table cubes n j verdict settled = record { counts = c; table = table; cubes = cubes; n = n; j = j; verdict = verdict; settled = settled }

-- its chain: 0, then 1 for ever
abbrev made : List ℕ
made = 0x50 ∷ 0x60 ∷ []

abbrev write : Counts → List ℕ → List ℕ → WriteGiven
write c table buffer = record { counts = c; table = table; buffer = buffer }

-- "Tick: 3, 10 for the table, 11, 10 for given records, 14, 10 for results"
unfoldable pub ticks : List (Row TickGiven)
ticks =
    tick many short [] [] [] [] gives 3
    ∷ tick fair short [] [] [] [] gives 10
    ∷ tick fair broken [] bad [] [] gives 11
    ∷ tick fair good [] bad [] [] gives 10
    ∷ tick fair good bad [] [] [] gives 10
    ∷ tick fair good bad off [] [] gives 14
    ∷ tick fair good off spilt [] [] gives 14
    ∷ tick fair good off off [] one gives 10
    ∷ tick fair good off off one [] gives 10
    ∷ tick fair good off off one one gives 0
    ∷ tick dark good off off one one gives 0
    ∷ tick (further 0 65 0) short [] [] [] [] gives 3
    ∷ tick (further 0 0 65) short [] [] [] [] gives 3
    ∷ tick (further 1 4 0) five off off one one gives 0
    ∷ []

-- "Chain: 3, 16, 10 for the table, 11, 12, 13, 15"; 16 where O + B is 0, and a run that ends needs no more room
unfoldable pub chains : List (Row ChainGiven)
chains =
    chain many_dark [] 1001 [] gives 3
    ∷ chain dark [] 1001 [] gives 16
    ∷ chain dark broken 1001 [] gives 16
    ∷ chain dark good 0 (replicate 2 0) gives 16
    ∷ chain fair short 1001 [] gives 10
    ∷ chain fair broken 1001 [] gives 11
    ∷ chain fair good 1001 [] gives 12
    ∷ chain fair good 1001 (replicate 65537 0) gives 12
    ∷ chain fair good 1000 [] gives 13
    ∷ chain fair good 1000 (replicate 65537 0) gives 13
    ∷ chain fair good 0 one gives 15
    ∷ chain fair good 0 (replicate 2 0) gives 0
    ∷ chain (further 0 65 0) [] 1001 [] gives 3
    ∷ chain (further 0 0 65) [] 1001 [] gives 3
    ∷ chain (further 0 0 64) [] 1001 [] gives 16
    ∷ chain (further 0 64 0) [] 1001 [] gives 10
    ∷ chain (further 0 1 0) good 0 one gives 15
    ∷ chain (further 0 1 0) good 0 (replicate 2 0) gives 0
    ∷ chain (further 1 0 1) ending 0 one gives 0
    ∷ []

-- "Judge: 3, 16, 10 for the table, 11, 10 for the cubes, 14, 19, 10 for results"
unfoldable pub judges : List (Row JudgeGiven)
judges =
    judge many_dark [] [] 1 1 [] [] gives 3
    ∷ judge dark [] [] 1 1 [] [] gives 16
    ∷ judge fair short [] 1 1 [] [] gives 10
    ∷ judge fair broken [] 1 1 [] [] gives 11
    ∷ judge fair good bad 2 2 [] [] gives 10
    ∷ judge fair good bad 1 1 [] [] gives 14
    ∷ judge fair good spilt 1 1 [] [] gives 14
    ∷ judge fair good unmarked 1 1 [] [] gives 14
    ∷ judge fair good overmarked 1 1 [] [] gives 14
    ∷ judge fair good made 0 0 [] [] gives 19
    ∷ judge fair good made 2 2 [] [] gives 19
    ∷ judge fair good made 2 0 [] [] gives 19
    ∷ judge fair good made 2 1 [] one gives 10
    ∷ judge fair good made 2 1 one [] gives 10
    ∷ judge fair good made 2 1 one one gives 0
    ∷ judge (further 0 65 0) [] [] 1 1 [] [] gives 3
    ∷ judge (further 0 0 65) [] [] 1 1 [] [] gives 3
    ∷ judge (further 0 0 64) [] [] 1 1 [] [] gives 16
    ∷ judge (further 0 1 0) good made 1 1 [] [] gives 19
    ∷ judge (further 0 1 0) good made 2 1 one one gives 0
    ∷ judge (further 1 4 0) five made 2 1 one one gives 10
    ∷ judge (further 1 4 0) five made 2 1 (replicate 2 0) one gives 0
    ∷ judge (further 1 0 1) ending made 0 0 [] [] gives 19
    ∷ judge (further 1 0 1) ending made 1 1 [] one gives 10
    ∷ judge (further 1 0 1) ending made 1 1 one one gives 0
    ∷ []

-- "Writer: 3, 10 for the table, 11, 10 for the text"; the text of `good` has 22 bytes, and 24 with a bad state for the lamp
unfoldable pub writes : List (Row WriteGiven)
writes =
    write many short [] gives 3
    ∷ write fair short [] gives 10
    ∷ write fair broken [] gives 11
    ∷ write fair good (replicate 21 0) gives 10
    ∷ write fair good (replicate 22 0) gives 0
    ∷ write dark good (replicate 20 0) gives 0
    ∷ write (further 1 65 0) short [] gives 3
    ∷ write (further 1 0 65) short [] gives 3
    ∷ write (further 0 1 0) good (replicate 23 0) gives 10
    ∷ write (further 0 1 0) good (replicate 24 0) gives 0
    ∷ []
