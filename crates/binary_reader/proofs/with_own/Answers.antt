-- `binary_reader::with_own` meets its contract: each number moves one place back. Assumes nothing.
use mathlib.Core.Path.{refl}
use Rattle.binary_reader.proofs.OwnLine.{own_numbers_lem}
use Rattle.binary_reader.proofs.with_own.Goals as goal

pub returns : goal.returns
returns c = (own_numbers_lem c.args.found _ _ c.requires, refl)
