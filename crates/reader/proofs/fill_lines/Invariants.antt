-- `reader::fill_lines` meets its contract: the words of each line in turn, as `Filling` says. Assumes nothing.
use Rattle.circuit.specs.Table.{top, several}
use Rattle.text.specs.KindsInCode.{coded}
use Rattle.reader.specs.ReaderInCode.{stand, KindFillable}
use Rattle.reader.proofs.Filling.{Filling}
use Rattle.reader.proofs.fill_lines.Given as goal

abbrev pub invariant-loop-i : goal.invariant-loop-i
invariant-loop-i g l =
    (f : KindFillable (λ c. g.F.Form.reads l.form (top c)) l.text (coded l.kind) l.own l.count (record { at = l.initial.at; word = l.initial.word }) l.initial.table)
    → Filling (g.F.Form.reads l.form (top f.counts)) l.text (coded l.kind) l.own l.count f.behind (stand (several (coded l.kind) l.own l.count f.behind) l.initial.at l.initial.word l.initial.table) l.at l.word l.i l.table
