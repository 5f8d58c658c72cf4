-- `lines::may_grow` meets its contract: its tests are those of `may_grow`. Assumes nothing.
use Rattle.lines.proofs.Numbers.{grow_zero, grow_other}
use Rattle.lines.proofs.may_grow.Goals as goal

pub returns-then-value-eq0 : goal.returns-then-value-eq0
returns-then-value-eq0 c = grow_zero _ c.if-value-eq0.true

pub returns : goal.returns
returns c = grow_other _ c.if-value-eq0.false
