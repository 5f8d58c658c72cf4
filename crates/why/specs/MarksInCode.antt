-- The marks that following leaves, as the code holds them: one for each variable, set where its value was asked about. Nothing here has to be believed. Assumes nothing.
use Rattle.std.specs.Prelude.{◌≡◌, Bool, true, false, not, ◌&&◌, ◌⊎◌, List, ℕ, suc, ◌+◌, ◌*◌, ◌-◌, ◌/◌, ◌<◌, leb, length, get_or, set}
use Rattle.three.specs.Lists.{tabulate, over}
use Rattle.three.specs.Value.{Three, decode, low, both, ternary}
use Rattle.three.specs.Cube.{Cube, blank}
use Rattle.three.specs.Record.{pair_at, pack}
use Rattle.circuit.specs.declared.Counts.{Counts}
use Rattle.circuit.specs.Circuit.{value}
use Rattle.circuit.specs.Refusal.{refusal, left_by}
use Rattle.pass.specs.ValuesInCode.{values_of, Working, Gateable}
use Rattle.asked.specs.Follow.{followed}
use Rattle.why.specs.declared.Gates.{Gates}
use Rattle.asked.specs.AskedInCode.{Leads, Asked, gate_in}
use Rattle.asked.specs.Call.{answer_tests, why_fields}

-- variable u is marked
unfoldable pub marked : List Bool → ℕ → Bool
marked marks u = get_or marks u false

-- ---- marks and what is followed

module _ (follows : ℕ → List ℕ) where
  -- of the variables below b, each that is marked has what it leads to marked
  abbrev pub Closed : ℕ → (ℕ → Bool) → Type 0
  Closed b m = (v w : ℕ) → v < b → m v ≡ true → Leads follows v w → m w ≡ true

  -- What asking about x does to the marks: none is taken away, none above x is set, x is marked,
  -- what is marked up to x is followed to the end, and only what asking about x reaches is marked besides.
  pub record Followed (m m' : ℕ → Bool) (x : ℕ) : Type 0 where
    pub keeps : (u : ℕ) → m u ≡ true → m' u ≡ true
    pub above : (u : ℕ) → x < u → m' u ≡ m u
    pub has : m' x ≡ true
    pub closed : Closed (suc x) m'
    pub only : (u : ℕ) → m' u ≡ true → (m u ≡ true) ⊎ Asked follows x u

  -- marks from which x can be asked about: those that are being followed lie above it
  pub record Ready (x : ℕ) (marks : List Bool) : Type 0 where
    pub long : length marks ≡ 4096
    pub closed : Closed (suc x) (marked marks)

  -- the marks that asking about x leaves
  pub record FollowedMarks (marks marks' : List Bool) (x : ℕ) : Type 0 where
    pub long : length marks' ≡ 4096
    pub followed_from : Followed (marked marks) (marked marks') x

-- ---- over the words and the working table

abbrev pub followed_in : List ℕ → ℕ → ℕ → List ℕ → ℕ → List ℕ
followed_in words at first values = followed first (gate_in words at) (values_of values)

-- It can be asked why literal x has value a: the gates up to its variable are there and settled, and it has that value.
pub record Askable (words : List ℕ) (at first : ℕ) (values : List ℕ) (x : ℕ) (a : Three) : Type 0 where
  pub gates : Gateable words at first (suc (x / 2) - first)
  pub working : Working values
  pub settled : (i : ℕ) → i < suc (x / 2) - first
      → get_or (values_of values) (first + i) low ≡ both (value ternary (values_of values) (get_or words (at + 2 * i) 0)) (value ternary (values_of values) (get_or words (at + 2 * i + 1) 0))
  pub reads : value ternary (values_of values) x ≡ a

-- the same, of the gates as the code hands them on
abbrev pub follows : Gates → ℕ → List ℕ
follows g = followed_in g.table.now g.at g.first g.values.now.bytes

abbrev pub AskableOf : Gates → ℕ → Three → Type 0
AskableOf g x a = Askable g.table.now g.at g.first g.values.now.bytes x a

-- the fields of a record whose variables are marked, the first of them variable `first`; the others are X
unfoldable pub marked_fields : List Bool → List ℕ → ℕ → ℕ → Cube
marked_fields marks bytes first count = tabulate count (λ i. blank (decode (pair_at bytes i)) (not (marked marks (first + i))))

-- what marking a variable answers, whether it is a gate that was not yet followed, and leaves: so none is followed twice
pub record Begun (first v : ℕ) (marks marks' : List Bool) (r : Bool) : Type 0 where
  pub answers : r ≡ (not (marked marks v) && leb first v)
  pub sets : marks' ≡ set marks v true

-- the number and the result's buffer behind 23, for a lamp of a legal circuit
pub record Answered (c : Counts) (table state : List ℕ) (lamp : ℕ) (why : List ℕ) (number : ℕ) (why' : List ℕ) : Type 0 where
  pub number_is : number ≡ refusal (answer_tests c table state lamp (length why))
  pub fills : why' ≡ left_by number (over (pack (why_fields c table state lamp)) why) why
