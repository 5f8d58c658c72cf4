-- `stored::cube_bytes` meets its contract: a stored cube is a record of its mark and its latches. Assumes nothing.
use mathlib.Core.Path.{sym, ap, ◌∙◌}
use Prim.Native.Nat.{ℕ}
use native.Mathlib.Numerals.{add-one}
use Rattle.three.specs.Record.{bytes_for}
use Rattle.cubes.proofs.StoredCube.{cube_bytes_lem}
use Rattle.stored.proofs.cube_bytes.Goals as goal

pub returns : goal.returns
returns c = c.record_length.ensures ∙ ap (λ (n : ℕ). bytes_for n) (add-one _) ∙ sym (cube_bytes_lem _)
