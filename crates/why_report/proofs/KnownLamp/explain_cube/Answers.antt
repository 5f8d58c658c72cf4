-- `why_report::KnownLamp::explain_cube` meets its contract: `why` refuses nothing here, and answers the explanation. Assumes nothing.
use native.Mathlib.Omega.{arith}
use Rattle.circuit.proofs.Legality.{legal}
use Rattle.reporting.proofs.Running.{answers_ok}
use Rattle.why_report.proofs.Explaining.{ready_below, stands, stored_cube, never_refused, explained_in}
use Rattle.why_report.proofs.KnownLamp.explain_cube.Goals as goal

pub cube_bytes-requires : goal.cube_bytes-requires
cube_bytes-requires c = (legal _ _ c.args.self.now.ready.are.accepts).bounded.latches

pub overflow_mul-at : goal.overflow_mul-at
overflow_mul-at c =
    let ready = ready_below _ _ _ _ _ _ c.args.self.now.ready c.requires.0 in
    omega (arith, stands _ _ _ _ _ ready _ c.cube_bytes.ensures, c.well_formed)

pub store_latches-requires : goal.store_latches-requires
store_latches-requires c =
    let size = c.cube_bytes.ensures in
    let ready = ready_below _ _ _ _ _ _ c.args.self.now.ready c.requires.0 in
    let bounded = (legal _ _ ready.are.accepts).bounded in
    (bounded.latches, omega (arith, stands _ _ _ _ _ ready _ size), stored_cube _ _ _ _ _ ready _ size, omega (arith, bounded.latches))

pub unwrap-requires : goal.unwrap-requires
unwrap-requires c =
    answers_ok _ (never_refused _ _ _ _ _ (ready_below _ _ _ _ _ _ c.args.self.now.ready c.requires.0) _ c.cube_bytes.ensures _ c.store_latches.ensures _ _ _ c.requires.1 c.why.ensures.0)

pub returns : goal.returns
returns c =
    explained_in _ _ _ _ _ (ready_below _ _ _ _ _ _ c.args.self.now.ready c.requires.0) _ c.cube_bytes.ensures _ c.store_latches.ensures _ _ _ c.requires.1 c.why.ensures.0
