-- What a drawing means: a Boolean system over the text's own variables, from its lines alone (specification, 4.14). Assumes nothing.
use Rattle.std.specs.Prelude.{◌≡◌, Bool, false, ◌&&◌, ◌⊎◌, List, ℕ, suc, ◌+◌, ◌*◌, ◌/◌, ◌%◌, ◌<◌, get_or}
use Rattle.three.specs.Lists.{tabulate}
use Rattle.three.specs.Value.{boolean}
use Rattle.circuit.specs.Circuit.{Circuit, signed, next, lamps, bads, constraints}
use Rattle.circuit.specs.Table.{circuit_of, verdicts}
use Rattle.drawn.specs.Drawing.{Drawing, leaves, own, next_literal, single, left, right, table}

-- a literal under an assignment of the variables
unfoldable pub literal : (ℕ → Bool) → ℕ → Bool
literal v x = signed boolean (x % 2) (v (x / 2))

-- What is read at a tick beside the next state: each lamp, bad state and constraint, by position in the file
pub record Shown : Type 0 where
  pub lamps : List Bool
  pub bads : List Bool
  pub constraints : List Bool

-- what a circuit shows
unfoldable pub shown_by : Circuit → List Bool → List Bool → Shown
shown_by c switches state = record {
  lamps = lamps boolean c switches state;
  bads = bads boolean c switches state;
  constraints = constraints boolean c switches state;
}

module _ (d : Drawing) where
  -- An assignment that meets every line, for these switches and this state, both by position in the file
  pub record Solves (switches state : List Bool) (v : ℕ → Bool) : Type 0 where
    pub constant : v 0 ≡ false
    pub inputs : (i : ℕ) → i < d.counts.inputs → v (own d i / 2) ≡ get_or switches i false
    pub latches : (i : ℕ) → i < d.counts.latches → v (own d (d.counts.inputs + i) / 2) ≡ get_or state i false
    pub gates : (i : ℕ) → i < d.counts.gates → v (own d (leaves d + i) / 2) ≡ (literal v (left d i) && literal v (right d i))

  -- the next state under an assignment, and n lines of one literal, the first of them number k
  unfoldable pub next_under : (ℕ → Bool) → List Bool
  next_under v = tabulate d.counts.latches (λ i. literal v (next_literal d i))

  unfoldable pub singles_under : (ℕ → Bool) → ℕ → ℕ → List Bool
  singles_under v k n = tabulate n (λ i. literal v (single d (k + i)))

  -- lamps, bad states and constraints
  unfoldable pub shown_under : (ℕ → Bool) → Shown
  shown_under v = record {
    lamps = singles_under v 0 d.counts.lamps;
    bads = singles_under v d.counts.lamps d.counts.bads;
    constraints = singles_under v (verdicts d.counts) d.counts.constraints;
  }

  -- What the text does at one tick: some solution gives the next state and what is shown
  pub record Does (switches state next : List Bool) (shown : Shown) : Type 0 where
    pub values : ℕ → Bool
    pub solves : Solves switches state values
    pub next_is : next ≡ next_under values
    pub shown_is : shown ≡ shown_under values

  -- What the text does under a sequence of switch settings: states and what is shown, tick by tick
  abbrev pub Behaves : (ℕ → List Bool) → (ℕ → List Bool) → (ℕ → Shown) → Type 0
  Behaves switches states shows = (t : ℕ) → Does (switches t) (states t) (states (suc t)) (shows t)

  -- What the table does under the same
  pub record Follows (switches states : ℕ → List Bool) (shows : ℕ → Shown) : Type 0 where
    pub state : (t : ℕ) → states (suc t) ≡ next boolean (circuit_of d.counts (table d)) (switches t) (states t)
    pub shown : (t : ℕ) → shows t ≡ shown_by (circuit_of d.counts (table d)) (switches t) (states t)

  -- ---- loops

  -- gate i has gate k's variable in an operand
  abbrev pub Uses : ℕ → ℕ → Type 0
  Uses i k = (k < d.counts.gates) × ((own d (leaves d + k) ≡ 2 * (left d i / 2)) ⊎ (own d (leaves d + k) ≡ 2 * (right d i / 2)))

  -- gate i uses gate k, or a gate that uses one that .. uses gate k
  pub data Leads : ℕ → ℕ → Type 0 where
    uses : {i k : ℕ} → Uses i k → Leads i k
    through : {i j k : ℕ} → Uses i j → Leads j k → Leads i k

  -- some gate leads to itself
  abbrev pub Looped : Type 0
  Looped = (k : ℕ) × (k < d.counts.gates) × Leads k k
