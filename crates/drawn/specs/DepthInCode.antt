-- Paths through gates, and the order of the gates by rounds, for the laws about both; nothing here has to be believed. Assumes nothing.
use Rattle.std.specs.Prelude.{◌≡◌, Bool, true, false, not, ◌&&◌, ◌⊎◌, List, [], ◌∷◌, ◌++◌, ℕ, zero, suc, eqb}
use Rattle.drawn.specs.Numbers.{pick}
use Rattle.drawn.specs.Depth.{Source, leaf, gate}

-- the operands of gate i
module _ (left right : ℕ → Source) where
  -- gate i has gate k as an operand
  abbrev pub Reads : ℕ → ℕ → Type 0
  Reads i k = (left i ≡ gate k) ⊎ (right i ≡ gate k)

  -- gate i has gate k as an operand, or as an operand of an operand, and so on
  pub data Path : ℕ → ℕ → Type 0 where
    one : {i k : ℕ} → Reads i k → Path i k
    more : {i j k : ℕ} → Reads i j → Path j k → Path i k

  -- ---- the same by rounds

  -- i is one of these
  unfoldable pub among : ℕ → List ℕ → Bool
  among i [] = false
  among i (k ∷ ks) = elim (eqb i k) [ true ↦ true | false ↦ among i ks ]

  -- a leaf has a number from the start, a gate after the round that numbered it
  unfoldable pub numbered : List ℕ → Source → Bool
  numbered done leaf = true
  numbered done (gate k) = among k done

  -- a round numbers, in file order, the gates left whose operands were numbered before it began
  unfoldable pub round : ℕ → List ℕ → List ℕ
  round count done = done ++ pick count (λ i. not (among i done) && (numbered done (left i) && numbered done (right i)))

  unfoldable pub rounds : ℕ → ℕ → List ℕ
  rounds count zero = []
  rounds count (suc n) = round count (rounds count n)
