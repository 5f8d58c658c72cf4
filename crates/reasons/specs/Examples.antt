-- Lines that the specification (6) shows, computed. Assumes nothing.
use Rattle.std.specs.Prelude.{◌≡◌, refl, [], ◌∷◌, ℕ, get_or}
use Rattle.three.specs.Value.{unknown, low, high, code}
use Rattle.three.specs.Cube.{Cube, alike, allows, subsumes}
use Rattle.text.specs.Decimal.{decimal, digits}
use Rattle.text.specs.Bench.{bytes}
use Rattle.cubes.specs.Given.{same}
use Rattle.rows.specs.Rows.{item, said}
use Rattle.reasons.specs.Reasons.{is_known, link, forced, latches, named, line, told, told_from}

-- the explanations of five cubes: two alike, one with a latch more, two that need none
abbrev five : ℕ → Cube
five k = get_or ((high ∷ unknown ∷ []) ∷ (high ∷ unknown ∷ []) ∷ (high ∷ low ∷ []) ∷ (unknown ∷ unknown ∷ []) ∷ (unknown ∷ unknown ∷ []) ∷ []) k []

pub shown : (told_from five 5 0 ≡ bytes "cubes 0 to 1: latch 0 = 1/cube 2: latch 0 = 1, latch 1 = 0/cubes 3 to 4: no latch: the gates alone/")
    × (told_from five 5 4 ≡ bytes "cube 4: no latch: the gates alone/")
    × (told_from five 5 5 ≡ [])
unfolding code alike allows subsumes decimal digits bytes same item said is_known link forced latches named line told told_from
shown = (refl, refl, refl)
