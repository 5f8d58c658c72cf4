-- `pass::Values::get` meets its contract: a field is the code of its variable's value. Assumes nothing.
use mathlib.Core.Path.{◌∙◌}
use Rattle.pass.proofs.WorkingTable.{variable_value}
use Rattle.pass.proofs.Values.get.Goals as goal

pub returns : goal.returns
returns c = c.field.ensures ∙ variable_value _ _ c.requires c.args.self.now.working
