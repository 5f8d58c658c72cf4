-- Circuits with a constraint, computed: runs that end, what is judged of them, and cubes that are given. Assumes nothing.
use Rattle.std.specs.Prelude.{◌≡◌, refl, Bool, true, false, [], ◌∷◌, ℕ}
use Rattle.three.specs.Lists.{adjust, every}
use Rattle.three.specs.Value.{unknown, low, high, code, both, inverse, ternary}
use Rattle.three.specs.Cube.{Cube, alike, allows, subsumes, blank}
use Rattle.circuit.specs.Circuit.{Circuit, signed, value, pass, settle, readings}
use Rattle.circuit.specs.Refusal.{refusal}
use Rattle.cubes.specs.Run.{hold, differing, due, switches_unknown, next_cube, watched, watched_in, some_low, blocked, start_field, resets, start, reached, widened, store, search, Ending, stops, stepped, stage, cube_at, back, run, merge, merge_from, verdict, settled}
use Rattle.cubes.specs.Given.{covered, next_covered, cover_tests, same, onward, goes_to, goes_on, starts_chain, is_chain}

-- one latch that goes to 1, with this reset, a lamp on it, a bad state where it is 0, and the constraint that it is 0
abbrev rising : ℕ → Circuit
rising reset = record { inputs = 0; latches = record { next = 1; reset = reset } ∷ []; lamps = 2 ∷ []; gates = []; bads = 3 ∷ []; constraints = 3 ∷ [] }

-- a latch without a start value that stays as it is, and the constraint that it is 0: X is not 0
abbrev staying : Circuit
staying = record { inputs = 0; latches = record { next = 2; reset = 2 } ∷ []; lamps = 2 ∷ []; gates = []; bads = []; constraints = 3 ∷ [] }

-- the run of w = 0 with room for four cubes
unfoldable pub ran : Circuit → Ending
unfolding adjust code both inverse ternary alike allows subsumes blank signed value pass settle readings hold differing due switches_unknown next_cube some_low blocked start_field resets start reached widened store search stepped stage cube_at back run
ran c = run c 0 4

-- from 0 one cube; from 1 none; from any state one, the constraint being X in cube 0 and 0 in its next state; an X alone ends nothing
pub ends : (ran (rising 0) ≡ stops 1 1) × (ran (rising 1) ≡ stops 0 0) × (ran (rising 2) ≡ stops 1 1) × (ran staying ≡ stops 1 0)
unfolding ran
ends = (refl, refl, refl, refl)

-- while it is legal the lamp is dark and the state is bad; with no cube both are never; nothing is settled
pub judged_ended : (verdict (rising 0) (cube_at (rising 0) 0) 1 ≡ low ∷ high ∷ []) × (verdict (rising 1) (cube_at (rising 1) 0) 0 ≡ low ∷ low ∷ []) × (settled (rising 0) (cube_at (rising 0) 0) 1 1 ≡ unknown ∷ [])
unfolding adjust code both inverse ternary alike signed value pass settle readings switches_unknown watched watched_in start_field resets start stage cube_at merge merge_from verdict settled
judged_ended = (refl, refl, refl)

-- cubes that are all X
abbrev blur : ℕ → Cube
blur k = unknown ∷ []

unfoldable pub chains : Circuit → ℕ → ℕ → Bool
unfolding code both inverse ternary alike allows subsumes signed value pass settle readings switches_unknown next_cube some_low blocked start_field resets start every same onward goes_to goes_on starts_chain is_chain
chains c n j = is_chain c blur n j

-- one such cube is a chain where the start is X, ended and closed alike; not where the start is 0; where a constraint is 0 in the start cube 0 need not be the resets
pub given_chains : (chains (rising 2) 1 1 ≡ true) × (chains (rising 2) 1 0 ≡ true) × (chains (rising 0) 1 1 ≡ false) × (chains (rising 1) 1 1 ≡ true)
unfolding chains
given_chains = (refl, refl, refl, refl)

-- none are one where a constraint is 0 in the start; j = n needs one that is 0 in the last next state, and j is never above n
pub no_chains : (chains (rising 1) 0 0 ≡ true) × (chains (rising 0) 0 0 ≡ false) × (chains staying 1 1 ≡ false) × (chains staying 1 0 ≡ true) × (chains (rising 2) 1 2 ≡ false)
unfolding chains
no_chains = (refl, refl, refl, refl, refl)

unfoldable pub covers : Circuit → ℕ → ℕ
unfolding code both inverse ternary alike allows subsumes signed value pass settle readings switches_unknown next_cube some_low blocked start_field resets start search every covered next_covered cover_tests refusal
covers c n = refusal (cover_tests c (λ k. low ∷ []) n)

-- the cube 0: its next state needs no cover; neither does a start of 1, and then no cube does; a start that is X does
pub given_covers : (covers (rising 0) 1 ≡ 0) × (covers (rising 1) 1 ≡ 0) × (covers (rising 1) 0 ≡ 0) × (covers (rising 0) 0 ≡ 17) × (covers (rising 2) 1 ≡ 17)
unfolding covers
given_covers = (refl, refl, refl, refl, refl)
