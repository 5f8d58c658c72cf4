-- `three::known` meets its contract: the table's entries are the rule's answers, which antt computes and compares. Assumes nothing.
use native.Mathlib.Omega.{arith}
use Rattle.three.specs.Lists.{tabulate}
use Rattle.three.specs.Record.{pairs, bad}
use Rattle.three.specs.RecordInCode.{known_pairs, judged}
use Rattle.three.proofs.Table.{entry}
use Rattle.three.proofs.known.Goals as goal

pub returns : goal.returns
unfolding tabulate judged known_pairs bad pairs
returns c = entry 0 judged 256 c.args.byte (omega arith)
