-- A case in the way of the specification (9): a text, its run, and what is said of every result that the contracts of reader
-- and run allow. The lent buffers have the stated lengths and any content. Assumes nothing.
use Rattle.std.specs.Prelude.{◌≡◌, Bool, true, false, ◌&&◌, List, [], ◌∷◌, ℕ, ◌≤◌, eqb, leb, length, replicate}
use Prim.Native.String.{String}
use Rattle.three.specs.Lists.{over}
use Rattle.circuit.specs.declared.Counts.{Counts}
use Rattle.circuit.specs.Table.{table_length}
use Rattle.text.specs.Outcome.{Outcome, accepted, refused}
use Rattle.text.specs.Text.{Content, read_text}
use Rattle.text.specs.Calls.{zeros, Reading}
use Rattle.text.specs.Bench.{bytes}
use Rattle.witness.specs.Answer.{RunGiven, RunAnswer, Runs, Answer, answer_in, Sized, zeroed}

-- ---- what is said

-- a list is the bytes written at the front of that buffer, none where it is left as it was
pub data Claim : Type 0 where
  number n j s : ℕ → Claim
  cubes verdict settled : List ℕ → Claim

pub data Case : Type 0 where
  -- the reader refuses the text with this number
  refuses : String → ℕ → Case
  -- the text is read; the run at w with a cube buffer of so many bytes
  runs : String → ℕ → ℕ → List Claim → Case

-- ---- what it means

module _ (g : RunGiven) (r : RunAnswer) (cubes' verdict' settled' : List ℕ) where
  abbrev pub Says : Claim → Type 0
  Says (number x) = r.number ≡ x
  Says (n x) = r.cubes ≡ x
  Says (j x) = r.back ≡ x
  Says (s x) = r.settled ≡ x
  Says (cubes xs) = cubes' ≡ over xs g.cubes
  Says (verdict xs) = verdict' ≡ over xs g.verdict
  Says (settled xs) = settled' ≡ over xs g.settled

  abbrev pub SaysAll : List Claim → Type 0
  SaysAll [] = Unit {0}
  SaysAll (x ∷ xs) = Says x × SaysAll xs

-- whatever the reader may leave is this refusal
abbrev pub RefusedAs : List ℕ → ℕ → Type 0
RefusedAs text m =
    (table : List ℕ) (number : ℕ) (counts : Counts) (table' : List ℕ) → Reading text table number counts table'
    → (number ≡ m) × (counts ≡ zeros) × (table' ≡ table)

-- the reader accepts, and whatever the run of what it leaves may leave is as said
abbrev pub RanAs : List ℕ → ℕ → ℕ → List Claim → Type 0
RanAs text w size says =
    (table : List ℕ) → 16 ≤ length table → (number : ℕ) (g : RunGiven) → Reading text table number g.counts g.table
    → g.w ≡ w → Sized size g → (r : RunAnswer) (cubes verdict settled : List ℕ) → Runs g r cubes verdict settled
    → (number ≡ 0) × SaysAll g r cubes verdict settled says

abbrev pub Meant : Case → Type 0
Meant (refuses text m) = RefusedAs (bytes text) m
Meant (runs text w size says) = RanAs (bytes text) w size says

abbrev pub MeantAll : List Case → Type 0
MeantAll [] = Unit {0}
MeantAll (x ∷ xs) = Meant x × MeantAll xs

-- ---- what is computed: the same over buffers of zeros

unfoldable pub same : List ℕ → List ℕ → Bool
same [] [] = true
same [] (y ∷ ys) = false
same (x ∷ xs) [] = false
same (x ∷ xs) (y ∷ ys) = eqb x y && same xs ys

unfoldable pub holds : Answer → Claim → Bool
holds a (number x) = eqb a.number x
holds a (n x) = eqb a.n x
holds a (j x) = eqb a.j x
holds a (s x) = eqb a.s x
holds a (cubes xs) = same a.cubes xs
holds a (verdict xs) = same a.verdict xs
holds a (settled xs) = same a.settled xs

unfoldable pub hold_all : Answer → List Claim → Bool
hold_all a [] = true
hold_all a (x ∷ xs) = holds a x && hold_all a xs

-- the words that were read in a table of 16
abbrev pub table_of : Content → List ℕ
table_of c = over c.words (replicate 16 0)

unfoldable pub refused_with : ℕ → Outcome Content → Bool
refused_with m (accepted c) = false
refused_with m (refused k) = eqb k m

unfoldable pub ran_as : ℕ → ℕ → List Claim → Outcome Content → Bool
ran_as w size says (accepted c) = leb (table_length c.counts) 16 && hold_all (answer_in (zeroed c.counts (table_of c) w size)) says
ran_as w size says (refused k) = false

unfoldable pub passes : Case → Bool
passes (refuses text m) = refused_with m (read_text (bytes text))
passes (runs text w size says) = ran_as w size says (read_text (bytes text))

unfoldable pub all_pass : List Case → Bool
all_pass [] = true
all_pass (x ∷ xs) = passes x && all_pass xs
