-- The depths of gates as the code finds them: down from each gate to operands whose depths are not known yet, and back. Assumes nothing.
use Rattle.std.specs.Prelude.{◌≡◌, Bool, true, false, List, ℕ, zero, suc, ◌+◌, ◌*◌, ◌-◌, ◌<◌, ◌≤◌, length, get_or}
use Rattle.drawn.specs.Depth.{Source, leaf, gate, depth, deep, loopless}
use Rattle.drawn.specs.DepthInCode.{Reads}

-- an operand in the arrays: 0 for a leaf, 1 + i for gate i
unfoldable pub source_of : ℕ → Source
source_of zero = leaf
source_of (suc i) = gate i

abbrev pub operand : List ℕ → ℕ → Source
operand xs i = source_of (get_or xs i 0)

-- an operand's depth; 0 for a leaf, and for a gate whose depth is not known
unfoldable pub depth_at : List ℕ → ℕ → ℕ
depth_at depths zero = 0
depth_at depths (suc i) = get_or depths i 0

-- its depth is not known yet
unfoldable pub waiting : List ℕ → ℕ → Bool
waiting depths zero = false
waiting depths (suc i) = elim (get_or depths i 0) [ zero ↦ true | suc d ↦ false ]

-- so many of the first n depths are not known
unfoldable pub blank : ℕ → ℕ
blank zero = 1
blank (suc d) = 0

unfoldable pub blanks : ℕ → List ℕ → ℕ
blanks zero depths = 0
blanks (suc n) depths = blanks n depths + blank (get_or depths n 0)

-- no depth is known
abbrev pub Blank : ℕ → List ℕ → Type 0
Blank count depths = (i : ℕ) → i < count → get_or depths i 0 ≡ 0

-- Two operands for each of `count` gates
pub record Operands (left right : List ℕ) (count : ℕ) : Type 0 where
  pub few : count ≤ 3327
  pub left_long : count ≤ length left
  pub right_long : count ≤ length right
  pub lefts : (i : ℕ) → i < count → get_or left i 0 ≤ count
  pub rights : (i : ℕ) → i < count → get_or right i 0 ≤ count

module _ (left right : List ℕ) where
  -- the whole depth of a source: followed one step further it is the same
  abbrev pub Whole : Source → ℕ → Type 0
  Whole s d = depth (operand left) (operand right) (suc d) s ≡ d

  -- Where the walk stands: the gates before `passed` have their depths, and `height` gates lead from one to the next, each waiting for the next
  pub record Walking (count passed : ℕ) (stack : List ℕ) (height : ℕ) (depths : List ℕ) : Type 0 where
    pub within : passed ≤ count
    pub low : height ≤ suc count
    pub stack_long : length stack ≡ 4096
    pub depths_long : length depths ≡ 4096
    pub known : (i : ℕ) → i < passed → 0 < get_or depths i 0
    pub whole : (i : ℕ) → i < count → 0 < get_or depths i 0 → Whole (gate i) (get_or depths i 0)
    pub small : (i : ℕ) → i < count → get_or depths i 0 + blanks count depths ≤ count
    pub gates : (k : ℕ) → k < height → get_or stack k 0 < count
    pub waits : (k : ℕ) → k < height → get_or depths (get_or stack k 0) 0 ≡ 0
    pub steps : (k : ℕ) → suc k < height → Reads (operand left) (operand right) (get_or stack k 0) (get_or stack (suc k) 0)

  -- The last gate that waits, and its operands
  pub record Last (count : ℕ) (stack : List ℕ) (height last : ℕ) : Type 0 where
    pub some : 0 < height
    pub low : height ≤ count
    pub is : last ≡ get_or stack (height - 1) 0
    pub few : last < count
    pub left_small : get_or left last 0 ≤ count
    pub right_small : get_or right last 0 ≤ count

  -- what is left to do
  unfoldable pub to_do : ℕ → ℕ → ℕ → List ℕ → ℕ
  to_do count passed height depths = (count - passed) + 2 * blanks count depths + (suc count - height)

  -- One turn of the walk
  pub record Turned (count passed : ℕ) (stack : List ℕ) (height : ℕ) (depths : List ℕ) (passed' : ℕ) (stack' : List ℕ) (height' : ℕ) (depths' : List ℕ) : Type 0 where
    pub walking : Walking count passed' stack' height' depths'
    pub less : to_do count passed' height' depths' < to_do count passed height depths

  -- The answer: whether no gates loop, and then every gate's depth
  pub record Found (count : ℕ) (r : Bool) (depths : List ℕ) : Type 0 where
    pub answers : r ≡ loopless (operand left) (operand right) count
    pub fills : r ≡ true → (i : ℕ) → i < count → get_or depths i 0 ≡ deep (operand left) (operand right) count i
