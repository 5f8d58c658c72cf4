-- `reader::judge_lines` meets its contract: each line is judged in turn, as `Turns` says. Assumes nothing.
use Rattle.text.specs.KindsInCode.{coded}
use Rattle.reader.proofs.Bodies.{Turns}
use Rattle.reader.proofs.judge_lines.Given as goal

abbrev pub invariant-loop-i : goal.invariant-loop-i
invariant-loop-i g l = Turns (g.F.Form.reads l.form l.most) l.text l.at (coded l.kind) l.own l.count l.next l.i
