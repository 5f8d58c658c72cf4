-- The AIGER report's examples in free order, loops, and the order of the new refusals. Assumes nothing.
use Rattle.std.specs.Prelude.{◌≡◌, refl, List, [], ◌∷◌, map, ℕ}
use Prim.Native.String.{String}
use Rattle.three.specs.Lists.{every, tabulate, first}
use Rattle.circuit.specs.Table.{literal_tests}
use Rattle.text.specs.Outcome.{Outcome, accepted, refused, onward, further}
use Rattle.text.specs.Text.{shown_own}
use Rattle.text.specs.Bench.{bytes, outcome_of}
use Rattle.drawn.specs.Numbers.{pick, by_key, pairs}
use Rattle.drawn.specs.Depth.{depth, deep, loopless, order}
use Rattle.drawn.specs.Drawing.{gate_of, source, gate_order, once, defined, all_defined, drawing_tests, line_at, place, name, renumbered, rename, table}
use Rattle.drawn.specs.Lines.{any_tests, any_header_tests, after_tests, read_drawing, read_any_ended, read_any}

-- What a drawing is made into: the table, and old variable to new
pub record Made : Type 0 where
  pub words : List ℕ
  pub names : List ℕ

-- a text's outcome, all of it open to computation
unfoldable pub made_of : String → Outcome Made
unfolding outcome_of bytes further first pick by_key pairs depth deep loopless order gate_of source gate_order once defined all_defined drawing_tests line_at place name renumbered rename table shown_own literal_tests any_tests any_header_tests after_tests read_drawing read_any_ended read_any
made_of t = onward (λ d. record { words = table d; names = renumbered d }) (read_any (bytes t))

abbrev made : List ℕ → List ℕ → Outcome Made
made ws ns = accepted (record { words = ws; names = ns })

pub half_adder : made_of "aag 7 2 0 2 3/2/4/6/12/6 13 15/12 2 4/14 3 5/"
    ≡ made (10 ∷ 6 ∷ 2 ∷ 4 ∷ 3 ∷ 5 ∷ 7 ∷ 9 ∷ []) (0 ∷ 1 ∷ 2 ∷ 5 ∷ 0 ∷ 0 ∷ 3 ∷ 4 ∷ [])
unfolding made_of every tabulate
half_adder = refl

pub toggle : made_of "aag 7 2 1 2 4/2/4/6 8/6/7/8 4 10/10 13 15/12 2 6/14 3 7/"
    ≡ made (14 ∷ 0 ∷ 6 ∷ 7 ∷ 2 ∷ 6 ∷ 3 ∷ 7 ∷ 9 ∷ 11 ∷ 4 ∷ 12 ∷ []) (0 ∷ 1 ∷ 2 ∷ 3 ∷ 7 ∷ 6 ∷ 4 ∷ 5 ∷ [])
unfolding made_of every tabulate
toggle = refl

-- a latch in between is no loop
pub through_a_latch : made_of "aag 9 0 1 1 1/18 6/7/6 18 19/" ≡ made (4 ∷ 0 ∷ 5 ∷ 2 ∷ 3 ∷ []) (0 ∷ 0 ∷ 0 ∷ 2 ∷ 0 ∷ 0 ∷ 0 ∷ 0 ∷ 0 ∷ 1 ∷ [])
unfolding made_of every tabulate
through_a_latch = refl

-- no start value is the own literal as written, whatever its new number
pub no_start : made_of "aag 3 0 2 1 0/6 2 6/2 7 1/3/" ≡ made (4 ∷ 2 ∷ 3 ∷ 1 ∷ 5 ∷ []) (0 ∷ 2 ∷ 0 ∷ 1 ∷ [])
unfolding made_of every tabulate
no_start = refl

-- a lamp, a bad state and a constraint
pub guarded : made_of "aag 3 1 1 1 0 1 1/6/2 6/3/7/2/" ≡ made (2 ∷ 0 ∷ 5 ∷ 3 ∷ 4 ∷ []) (0 ∷ 2 ∷ 0 ∷ 1 ∷ [])
unfolding made_of every tabulate
guarded = refl

-- lines that end with bytes 13 and 10
pub office : made_of "aag 2 1 0 1 1\r/4\r/3\r/2 4 5\r/c\r/any/thing" ≡ made (5 ∷ 2 ∷ 3 ∷ []) (0 ∷ 2 ∷ 1 ∷ [])
unfolding made_of every tabulate
office = refl

-- A text, and the number it is refused with
pub record Refusal : Type 0 where
  pub text : String
  pub number : ℕ

infix 68 ◌gives◌
abbrev ◌gives◌ : String → ℕ → Refusal
t gives n = record { text = t; number = n }

-- each new refusal, and which comes first where two would do
pub refusals : List Refusal
refusals =
    "aag 4096 0 0 0 0/" gives 3
    ∷ "aag 1 1 0 0 1/2/4 2 2/" gives 3
    ∷ "aag 0 0 0 0 0 65/" gives 3
    ∷ "aag 0 0 0 0 0 0 0 0 1/" gives 3
    ∷ "aag 2 1 0 0 0/3 4/" gives 4
    ∷ "aag 2 0 1 0 0/3 6 2/" gives 6
    ∷ "aag 2 0 1 0 0/3 4 2/" gives 8
    ∷ "aag 2 0 1 0 0/3 4 3/" gives 20
    ∷ "aag 1 0 0 0 0/c" gives 9
    ∷ "aag 1 1 0 0 0\r/2/" gives 4
    ∷ "aag 1 0 0 0 0\r/c/" gives 9
    ∷ "aag 2 1 0 0 0/3/" gives 20
    ∷ "aag 2 1 0 0 0/0/" gives 20
    ∷ "aag 2 1 0 0 0/6/" gives 20
    ∷ "aag 3 1 0 1 1/4/2/4 4 4/" gives 20
    ∷ "aag 3 1 0 1 1/4/2/6 6 6/" gives 21
    ∷ "aag 2 0 1 0 0/4 2/" gives 21
    ∷ "aag 2 1 0 0 0 1/2/4/" gives 21
    ∷ "aag 2 1 0 0 0 0 1/2/5/" gives 21
    ∷ "aag 2 1 0 0 1/2/4 3 5/x" gives 22
    ∷ "aag 3 1 0 0 2/2/4 6 2/6 2 5/" gives 22
    ∷ "aag 3 1 0 0 2/2/4 2 2/6 7 0/" gives 22
    ∷ "aag 3 1 0 0 2/2/4 2 2/6 9 6/" gives 6
    ∷ "aag 4 1 0 0 2/2/4 2 2/6 8 6/" gives 21
    ∷ "aag 3 1 0 1 1/6/6/2 6 6/x" gives 9
    ∷ []

pub refused_so : map (λ (r : Refusal). made_of r.text) refusals ≡ map (λ (r : Refusal). refused r.number) refusals
unfolding made_of every tabulate refusals
refused_so = refl
