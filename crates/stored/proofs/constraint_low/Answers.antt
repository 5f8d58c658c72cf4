-- `stored::constraint_low` meets its contract: each constraint's literal is read in turn. Assumes nothing.
use borrow.Author.Tests.{tests}
use Rattle.std.proofs.Common.{rules}
use Rattle.std.proofs.lemmas.Iterator.{cases_from_any, YieldsList-from_slice}
use Rattle.std.proofs.lemmas.Iterator.Adapters.{serves_from_places}
use Rattle.pass.specs.ValuesInCode.{values_of}
use Rattle.stored.proofs.Constraining.{constraint_word, is_low, any_low}
use Rattle.stored.proofs.constraint_low.Goals as goal

pub any-requires-clause-callable : goal.any-requires-clause-callable
any-requires-clause-callable c =
    serves_from_places (YieldsList-from_slice _ cc) (λ x q k. search rules)
    (λ x k h e. let small = constraint_word _ _ c.args.board.now.legal c.constraints_at-first.ensures k h e in search (rules, small))

pub returns : goal.returns
returns c =
    let values = values_of c.args.values.now.bytes in
    any_low _ _ c.args.board.now.legal c.constraints_at-first.ensures values _
    (cases_from_any c.any.new.self _ _ (is_low values) (λ x. is_low values x → ⊥) c.any.ensures.ran (YieldsList-from_slice _ cc) (λ x q k. search (rules, tests)) (λ x q k. search (rules, tests)))
