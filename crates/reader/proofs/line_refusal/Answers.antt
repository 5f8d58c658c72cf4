-- `reader::line_refusal` meets its contract: each kind has its own tests. Assumes nothing.
use Rattle.text.proofs.Coding.{coded_input, coded_latch, coded_lamp, coded_gate}
use Rattle.reader.proofs.line_refusal.Goals as goal

pub returns-in-Input : goal.returns-in-Input
returns-in-Input c = rw (coded_input c.args.own c.in-Input.is) (c.input_refusal.ensures _)

pub returns-in-Latch : goal.returns-in-Latch
returns-in-Latch c = rw (coded_latch c.args.own c.in-Latch.is) c.latch_refusal.ensures

pub returns-in-Lamp : goal.returns-in-Lamp
returns-in-Lamp c = rw (coded_lamp c.args.own c.in-Lamp.is) c.lamp_refusal.ensures

pub returns-in-Gate : goal.returns-in-Gate
returns-in-Gate c = rw (coded_gate c.args.own c.in-Gate.is) c.gate_refusal.ensures
