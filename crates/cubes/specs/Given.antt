-- Cubes that a caller gives, n of them (specification, 5.11 and 5.12): sound records; no legal execution leaves them; a chain, closed or ended. Assumes nothing.
use Rattle.std.specs.Prelude.{Bool, true, not, cond, ◌&&◌, ◌||◌, List, [], ◌∷◌, ℕ, suc, leb, ltb}
use Rattle.three.specs.Lists.{every, first}
use Rattle.three.specs.Cube.{Cube, subsumes}
use Rattle.circuit.specs.declared.Counts.{Counts}
use Rattle.circuit.specs.Circuit.{Circuit}
use Rattle.circuit.specs.Refusal.{Test, ◌or◌}
use Rattle.cubes.specs.Run.{next_cube, blocked, start, at, nowhere, search}
use Rattle.cubes.specs.Buffer.{sound_in}
use Rattle.cubes.specs.Chain.{room_in}

-- 10 for n cubes, 14; bytes beyond the n cubes are not looked at
unfoldable pub cube_tests : Counts → List ℕ → ℕ → List Test
cube_tests c buffer n = leb n (room_in c buffer) or 10 ∷ every n (sound_in c.latches buffer) or 14 ∷ []

module _ (c : Circuit) (cubes : ℕ → Cube) (n : ℕ) where
  -- b lies inside one of the cubes, or needs no cover, a constraint being 0 in it
  unfoldable pub covered : Cube → Bool
  covered b = elim (search cubes n b) [ at k ↦ true | nowhere ↦ blocked c b ]

  -- the next state of cube number k is covered
  unfoldable pub next_covered : ℕ → Bool
  next_covered k = covered (next_cube c (cubes k))

  -- 17, 18: the start is, and every next state
  unfoldable pub cover_tests : List Test
  cover_tests = covered (start c) or 17 ∷ every n next_covered or 18 ∷ []

  -- the number of the first cube whose next state is not
  unfoldable pub first_uncovered : ℕ
  first_uncovered = first n (λ k. not (next_covered k))

-- two cubes are the same: each lies inside the other
unfoldable pub same : Cube → Cube → Bool
same a b = subsumes a b && subsumes b a

-- the number that comes after k in a chain of n cubes: the following one, and j after the last
unfoldable pub onward : ℕ → ℕ → ℕ → ℕ
onward n j k = cond (ltb (suc k) n) (suc k) j

module _ (c : Circuit) (cubes : ℕ → Cube) (n : ℕ) where
  -- b lies inside cube number k, where there is one, or needs no cover, a constraint being 0 in it
  unfoldable pub goes_to : ℕ → Cube → Bool
  goes_to k b = (ltb k n && subsumes (cubes k) b) || blocked c b

  -- cube 0 is the resets, or a constraint is 0 in them
  unfoldable pub starts_chain : Bool
  starts_chain = (ltb 0 n && same (cubes 0) (start c)) || blocked c (start c)

module _ (c : Circuit) (cubes : ℕ → Cube) (n j : ℕ) where
  -- the next state of cube number k goes to the cube that comes after it; there is none after the last where j = n
  unfoldable pub goes_on : ℕ → Bool
  goes_on k = goes_to c cubes n (onward n j k) (next_cube c (cubes k))

  -- 19: j is at most n, cube 0 is the resets, and each next state goes on
  unfoldable pub is_chain : Bool
  is_chain = leb j n && (starts_chain c cubes n && every n goes_on)
