-- `pass::Values::put` meets its contract: a field that is replaced in its byte is the value that is put. Assumes nothing.
use Rattle.pass.proofs.WorkingTable.{put_works, put_holds}
use Rattle.pass.proofs.Values.put.Goals as goal

pub invariant_of-self : goal.invariant_of-self
invariant_of-self c = record { working = put_works _ _ _ _ _ c.requires.0 c.requires.1 c.args.self.now.working c.put_field.ensures }

pub returns : goal.returns
returns c = put_holds _ _ _ _ c.requires.0 c.requires.1 c.args.self.now.working c.put_field.ensures
