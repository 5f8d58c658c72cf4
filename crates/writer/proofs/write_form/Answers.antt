-- `writer::write_form` meets its contract: its tests are made in the order of the list. Assumes nothing.
use Rattle.circuit.proofs.Answering.{went_on}
use Rattle.writer.proofs.WrittenAnswers.{written_turned, written_ready, written_short, written_accepted}
use Rattle.writer.proofs.WrittenText.{opened_length}
use native.Mathlib.Omega.{arith}
use Rattle.writer.proofs.write_form.Goals as goal

pub returns-in_err-circuit_refusal : goal.returns-in_err-circuit_refusal
returns-in_err-circuit_refusal g c = written_turned _ _ _ _ _ _ c.from_residual.ensures.1 c.in_err-circuit_refusal.ensures

pub text_length-requires : goal.text_length-requires
text_length-requires g c =
    let nothing = went_on _ c.in_ok-circuit_refusal.was c.circuit_refusal.ensures in
    (written_ready _ _ nothing, omega (arith, opened_length c.args.magic.now g.F.Form.each c.args.counts c.args.table.now (omega arith), c.requires nothing))

pub returns-then-text-text_length : goal.returns-then-text-text_length
returns-then-text-text_length g c =
    written_short _ _ _ (went_on _ c.in_ok-circuit_refusal.was c.circuit_refusal.ensures) _ (omega (arith, opened_length c.args.magic.now g.F.Form.each c.args.counts c.args.table.now (omega arith)))

pub put_text-requires : goal.put_text-requires
put_text-requires g c =
    (written_ready _ _ (went_on _ c.in_ok-circuit_refusal.was c.circuit_refusal.ensures), omega (arith, opened_length c.args.magic.now g.F.Form.each c.args.counts c.args.table.now (omega arith)))

pub returns : goal.returns
returns g c =
    written_accepted _ _ _ (went_on _ c.in_ok-circuit_refusal.was c.circuit_refusal.ensures) (omega (arith, opened_length c.args.magic.now g.F.Form.each c.args.counts c.args.table.now (omega arith))) c.put_text.ensures
