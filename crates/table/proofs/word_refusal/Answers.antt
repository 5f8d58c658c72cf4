-- `table::word_refusal` meets its contract: its tests are made in the order of the list. Assumes nothing.
use mathlib.Core.Path.{sym, ◌∙◌}
use native.Mathlib.Omega.{arith}
use Rattle.circuit.proofs.Legality.{table_short, rules_broken, words_pass}
use Rattle.table.proofs.word_refusal.Goals as goal

pub returns-then-table-table_length : goal.returns-then-table-table_length
returns-then-table-table_length c = table_short _ _ (omega arith)

pub returns-then-not-rules_kept : goal.returns-then-not-rules_kept
returns-then-not-rules_kept c = rules_broken _ _ (omega arith) (sym c.rules_kept.ensures ∙ c.if-not-rules_kept.true)

pub returns : goal.returns
returns c = words_pass _ _ (omega arith) (sym c.rules_kept.ensures ∙ c.if-not-rules_kept.false)
