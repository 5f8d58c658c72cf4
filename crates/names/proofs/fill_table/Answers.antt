use Rattle.names.proofs.Tabling.{table_long, fill_next, fill_last}
use Rattle.names.proofs.fill_table.Goals as goal

pub loop-k-preserved : goal.loop-k-preserved
loop-k-preserved c = fill_next _ _ _ _ c.table_length.ensures c.requires.1 (table_long _ _ _ _) _ _ c.loop-k.invariant _ c.loop-k-test.true c.word_at.ensures

pub returns : goal.returns
returns c = fill_last _ _ _ _ c.table_length.ensures c.requires.1 (table_long _ _ _ _) _ _ c.loop-k.invariant c.loop-k-test.false
