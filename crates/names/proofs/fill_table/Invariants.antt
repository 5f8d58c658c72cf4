-- `names::fill_table` meets its contract: its words are stored in turn. Assumes nothing.
use Rattle.three.proofs.Loops.{Stored}
use Rattle.circuit.specs.Table.{table_length}
use Rattle.names.specs.Tabling.{table_by}
use Rattle.names.proofs.fill_table.Given as goal

abbrev pub invariant-loop-k : goal.invariant-loop-k
invariant-loop-k l = Stored l.initial.word-items 0 (table_by l.fn.counts l.words l.names l.order) (table_length l.fn.counts) l.word-items l.k
