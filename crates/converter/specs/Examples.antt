-- S of the bench circuits (specification, 9) from its binary form, operands in the other order, and refusals: computed from bytes to bytes. Assumes nothing.
use Rattle.std.specs.Prelude.{◌≡◌, refl, [], ◌∷◌, ◌++◌}
use Rattle.text.specs.Decimal.{digits, decimal}
use Rattle.text.specs.Line.{ended_line}
use Rattle.text.specs.Text.{numbers, line_of}
use Rattle.text.specs.Bench.{bytes}
use Rattle.binary.specs.Examples.{outcome_of, written}
use Rattle.rows.specs.Rows.{item}
use Rattle.reporting.specs.Reporting.{refusing}
use Rattle.converter.specs.Converter.{converted}

pub shown_text : (converted (bytes "aig 3 0 2 1 1/4/2 1/6/" ++ (2 ∷ 2 ∷ [])) ≡ bytes "aag 3 0 2 1 1/2 4/4 2 1/6/6 4 2/")
    × (converted (bytes "aig 3 0 2 1 1/4/2 1/6/" ++ (2 ∷ [])) ≡ bytes "refused 26/")
    × (converted (bytes "aag 3 0 2 1 1/2 4/4 2 1/6/6 4 2/") ≡ bytes "refused 2/")
unfolding bytes outcome_of written numbers line_of ended_line decimal digits item refusing converted
shown_text = (refl, refl, refl)
