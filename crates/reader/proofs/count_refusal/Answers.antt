-- `reader::count_refusal` meets its contract: its tests are made in the order of the list. Assumes nothing.
use native.Mathlib.Omega.{arith}
use Rattle.reader.proofs.FirstLine.{count_few, count_justice, count_fairness, count_ceilings}
use Rattle.reader.proofs.count_refusal.Goals as goal

pub returns-then-first-lt5 : goal.returns-then-first-lt5
returns-then-first-lt5 c = count_few _ (omega arith)

pub returns-then-entry-ne0 : goal.returns-then-entry-ne0
returns-then-entry-ne0 c = count_justice _ (omega arith) c.entry.ensures c.if-entry-ne0.true

pub returns-then-entry-ne0-2 : goal.returns-then-entry-ne0-2
returns-then-entry-ne0-2 c = count_fairness _ (omega arith) c.entry.ensures c.if-entry-ne0.false c.entry-2.ensures c.if-entry-ne0-2.true

pub returns : goal.returns
returns c =
    count_ceilings _ (omega arith) c.entry.ensures c.if-entry-ne0.false
    c.entry-2.ensures c.if-entry-ne0-2.false c.counts_of.ensures c.ceiling_refusal.ensures
