-- `table::rules_kept` meets its contract: the table is checked kind by kind, in the order of its words. Assumes nothing.
use mathlib.Core.Path.{◌≡◌}
use Prim.Native.Nat.{◌+◌, ◌*◌}
use native.Mathlib.Omega.{arith}
use Rattle.circuit.proofs.Rules.{latches_break, literals_break, gates_decide}
use Rattle.table.proofs.rules_kept.Goals as goal

pub returns-then-not-latches_kept : goal.returns-then-not-latches_kept
returns-then-not-latches_kept c = latches_break c.args.counts _ (rw c.top-most.ensures at c.latches_kept.ensures) c.if-not-latches_kept.true

pub returns-then-not-literals_kept : goal.returns-then-not-literals_kept
returns-then-not-literals_kept c =
    let latches = rw c.top-most.ensures at c.latches_kept.ensures in
    let kept = rw (c.top-most.ensures, c.literals_at.ensures, c.literals.ensures) at c.literals_kept.ensures in
    literals_break c.args.counts _ latches c.if-not-latches_kept.false kept c.if-not-literals_kept.true

pub returns : goal.returns
returns c =
    let latches = rw c.top-most.ensures at c.latches_kept.ensures in
    let kept = rw (c.top-most.ensures, c.literals_at.ensures, c.literals.ensures) at c.literals_kept.ensures in
    let own : c.first_gate-own.result ≡ 2 * (1 + c.args.counts.inputs + c.args.counts.latches) = omega (arith, c.first_gate-own.ensures) in
    gates_decide c.args.counts _ latches c.if-not-latches_kept.false kept c.if-not-literals_kept.false (rw (own, c.gates_at.ensures) at c.gates_kept.ensures)
