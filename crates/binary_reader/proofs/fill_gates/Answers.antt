use mathlib.Core.Path.{refl}
use native.Mathlib.Omega.{arith}
use Rattle.reader.proofs.Filling.{filling_accepts, filling_fits, filling_next, filling_last}
use Rattle.binary_reader.proofs.Filling.{gate_read, gate_turn}
use Rattle.binary_reader.proofs.fill_gates.Goals as goal

pub unwrap-row-requires : goal.unwrap-row-requires
unwrap-row-requires c =
    let f = c.requires.1 in
    gate_read _ _ f.counts _ c.gate_row.ensures (filling_accepts (c.loop-i.invariant f) c.loop-i-test.true)

pub fill_gate-word-requires : goal.fill_gate-word-requires
fill_gate-word-requires c =
    let f = c.requires.1 in
    let row = rw c.unwrap-row.ensures at c.gate_row.ensures in
    let fits = filling_fits (c.loop-i.invariant f) c.loop-i-test.true (gate_turn f.counts _ (omega arith) row) in
    (omega (arith, row.left), omega (arith, row.right), fits.room)

pub loop-i-preserved : goal.loop-i-preserved
loop-i-preserved c =
    let words = c.fill_gate-word.ensures in
    let row = rw c.unwrap-row.ensures at c.gate_row.ensures in
    λ f. filling_next (c.loop-i.invariant f) c.loop-i-test.true (gate_turn f.counts _ (omega arith) row) words.0 words.1

pub returns : goal.returns
returns c = λ f. filling_last (c.loop-i.invariant f) c.loop-i-test.false refl
