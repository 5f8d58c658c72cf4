-- `judged::is_chain` meets its contract: j, cube 0, and each next state. Assumes nothing.
use Rattle.judged.proofs.Finding.{beyond_found, start_found, none_walked, walked_found}
use native.Mathlib.Omega.{arith}
use Rattle.judged.proofs.is_chain.Goals as goal

pub returns-then-j-n : goal.returns-then-j-n
returns-then-j-n c = beyond_found _ _ _ _ _ (omega arith) _

pub returns-then-not-starts_chain : goal.returns-then-not-starts_chain
returns-then-not-starts_chain c = start_found _ _ _ _ _ (omega arith) c.starts_chain.ensures c.if-not-starts_chain.true _

pub returns-then-n-eq0 : goal.returns-then-n-eq0
returns-then-n-eq0 c =
    none_walked _ _ _ _ _ (omega arith) c.starts_chain.ensures c.if-not-starts_chain.false c.if-n-eq0.true _ c.verdicts.ensures c.fill_record.ensures

pub returns : goal.returns
returns c = walked_found _ _ _ _ _ (omega arith) c.starts_chain.ensures c.if-not-starts_chain.false _ c.all_go_on.ensures
