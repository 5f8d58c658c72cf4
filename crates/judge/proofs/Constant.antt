-- A record whose fields all have one value: the verdict over no cube, and the settled record of an ended chain. Assumes nothing.
use mathlib.Core.Path.{◌≡◌, sym, ap, ◌∙◌}
use Prim.Native.Nat.{ℕ, ◌<◌}
use lib.ListN.{get_or, replicate, get_or-replicate}
use Rattle.three.specs.Value.{unknown, code, decode}
use Rattle.three.proofs.Bytes.{code_decode}

pub filled : (fields value i : ℕ) {r : ℕ} → value < 3 → i < fields → r ≡ value → r ≡ code (get_or (replicate fields (decode value)) i unknown)
filled fields value i small h e = e ∙ sym (code_decode value small) ∙ ap code (sym (get_or-replicate fields i (decode value) unknown h))
