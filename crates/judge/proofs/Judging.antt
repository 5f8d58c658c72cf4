-- The settled record as the code makes it: a record, its known fields, and that of the circuit. Assumes nothing.
use mathlib.Core.Path.{◌≡◌, sym, ap, ◌∙◌}
use mathlib.Core.List.{List}
use Prim.Native.Nat.{ℕ, ◌-◌, ◌≤◌}
use native.Mathlib.Omega.{arith}
use lib.ListN.{length, replicate, length-replicate}
use Rattle.three.specs.Lists.{over}
use Rattle.three.specs.Value.{unknown, decode}
use Rattle.three.specs.Cube.{Cube, known_fields}
use Rattle.three.specs.Record.{bytes_for, pack, unpack}
use Rattle.three.specs.RecordInCode.{IsRecord}
use Rattle.three.proofs.Pack.{unpack_over}
use Rattle.three.proofs.Soundness.{record_over}
use Rattle.circuit.specs.declared.Counts.{Counts}
use Rattle.circuit.specs.Table.{circuit_of}
use Rattle.cubes.specs.Run.{merge_from, settled}
use Rattle.cubes.specs.Buffer.{cube_in}
use Rattle.cubes.proofs.StoredCube.{cube_in_sized}
use Rattle.judge.specs.JudgeInCode.{settled_from}
use Rattle.cubes.proofs.Wider.{merge_from_sized}
use Rattle.cubes.proofs.Buffered.{latches_counted}
use Rattle.cubes.proofs.Ending.{blank_known}

module _ (latches : ℕ) (cubes : List ℕ) (n j : ℕ) (entry : List ℕ) {exit : List ℕ} (left : exit ≡ over (pack (settled_from latches cubes n j)) entry) where
  settled_sized : length (settled_from latches cubes n j) ≡ latches
  unfolding settled_from
  settled_sized = merge_from_sized _ _ latches (cube_in_sized latches cubes) j (length-replicate latches unknown) (n - j)

  pub settled_record_of : bytes_for latches ≤ length entry → IsRecord latches exit
  settled_record_of room = rw left (record_over latches _ entry settled_sized room)

  pub settled_known : {s : ℕ} → s ≡ known_fields (unpack latches exit) → s ≡ known_fields (settled_from latches cubes n j)
  settled_known es = es ∙ ap (λ (l : List ℕ). known_fields (unpack latches l)) left ∙ ap known_fields (unpack_over latches _ entry settled_sized)

-- where j = n nothing is settled
module _ (latches : ℕ) (cubes : List ℕ) {n j : ℕ} (ended : j ≡ n) where
  settled_blank : settled_from latches cubes n j ≡ replicate latches unknown
  unfolding settled_from merge_from
  settled_blank = let none : n - j ≡ 0 = omega arith in rw none

  pub settled_none : (entry : List ℕ) {exit : List ℕ} → exit ≡ over (pack (replicate latches (decode 0))) entry → exit ≡ over (pack (settled_from latches cubes n j)) entry
  unfolding decode
  settled_none entry e = e ∙ ap (λ (v : Cube). over (pack v) entry) (sym settled_blank)

  pub none_known : 0 ≡ known_fields (settled_from latches cubes n j)
  none_known = sym (ap known_fields settled_blank ∙ blank_known latches)

pub settled_of : (c : Counts) (words cubes : List ℕ) (n j : ℕ) → settled_from c.latches cubes n j ≡ settled (circuit_of c words) (cube_in c.latches cubes) n j
unfolding settled_from settled
settled_of c words cubes n j = ap (λ (l : ℕ). merge_from (replicate l unknown) (cube_in c.latches cubes) j (n - j)) (sym (latches_counted c words))
