-- `merging::merge` meets its contract: refused at one of its numbers, or merged. Assumes nothing.
use mathlib.Core.Path.{refl}
use Rattle.std.proofs.lemmas.Result.{err_from_is_err_and}
use Rattle.circuit.proofs.Answering.{numbered}
use Rattle.merging.proofs.Refusing.{accepted}
use Rattle.merging.proofs.Left.{refused, done, promises}
use Rattle.merging.proofs.merge.Goals as goal

pub returns-in_err-merge_refusal : goal.returns-in_err-merge_refusal
returns-in_err-merge_refusal c =
    let refusal = err_from_is_err_and c.from_residual.result c.from_residual.ensures.1 in
    rw (refusal.1, refusal.2)
    (let merging = refused _ c.in_err-merge_refusal.ensures (numbered _) in (merging, promises _ _ _ merging))

pub store_common-requires : goal.store_common-requires
store_common-requires c =
    let ok = accepted _ _ _ _ c.in_ok-merge_refusal.ensures in
    (ok.first, ok.second, ok.room)

pub returns : goal.returns
returns c =
    let merging = done _ c.in_ok-merge_refusal.ensures refl c.store_common.ensures in
    (merging, promises _ _ _ merging)
