-- How the code keeps a run: held latches, one cube more, the chain; nothing here has to be believed. Assumes nothing.
use Rattle.std.specs.Prelude.{◌≡◌, Bool, true, false, cond, Option, Some, None, Result, Ok, Err, List, ℕ, ◌+◌, ◌*◌, ◌≤◌, ltb, length, get_or, replicate}
use Rattle.std.specs.Int.Bits.{bit_or}
use Rattle.std.proofs.Math.Seq.{paste}
use Rattle.three.specs.Lists.{tabulate, over}
use Rattle.three.specs.Value.{code, known}
use Rattle.three.specs.Record.{pack}
use Rattle.circuit.specs.declared.Counts.{Counts}
use Rattle.chain.specs.declared.Progress.{Progress}
use Rattle.circuit.specs.Table.{circuit_of}
use Rattle.cubes.specs.declared.Chain.{Chain}
use Rattle.cubes.specs.declared.NoRoom.{NoRoom}
use Rattle.cubes.specs.Run.{blocked, start, cube_at, run}
use Rattle.cubes.specs.Buffer.{cube_bytes, pack_cube, pack_cubes, marked}
use Rattle.cubes.specs.BufferInCode.{longest_cube}
use Rattle.cubes.specs.HeldInCode.{differing_byte}
use Rattle.cubes.specs.Chain.{room_in, stored_cubes, back_to}
use Rattle.stored.specs.CubesInCode.{start_fields, raised_bytes, kept_bytes}
use Rattle.cubes.specs.OutcomesInCode.{has_stopped}

-- the held latches of len bytes, with those added whose value in a and b differs
unfoldable pub widened_bytes : ℕ → List ℕ → List ℕ → List ℕ → List ℕ
widened_bytes len held a b = tabulate len (λ i. bit_or (get_or held i 0) (differing_byte (get_or a i 0) (get_or b i 0)))

-- the held bytes once b is stored, due (true) or not
unfoldable pub held_after : Bool → ℕ → List ℕ → List ℕ → List ℕ → List ℕ
held_after true len held a b = paste held 0 (widened_bytes len held a b) len
held_after false len held a b = held

-- One cube more: the count, the held latches, b with these set to X as the last cube, and the buffer with its record, marked as due or not, behind the cubes
pub record Advanced (d : Bool) (len : ℕ) (before : Progress) (cubes b : List ℕ) (after : Progress) (cubes' : List ℕ) : Type 0 where
  pub counts : after.count ≡ before.count + 1
  pub holds : after.held ≡ held_after d len before.held before.last b
  pub keeps : after.last ≡ paste before.last 0 (kept_bytes len after.held b) len
  pub stores : cubes' ≡ paste cubes (before.count * len) (raised_bytes len (code (known d)) after.last) len

-- where b goes back to after n cubes, j being the first of them that covers it: to n, an end, where a constraint is 0 in it, and nowhere where none covers it
unfoldable pub gone_to : Bool → ℕ → ℕ → Option ℕ
gone_to d n j = cond d (Some n) (cond (ltb j n) (Some j) None)

-- what a chain answers: whether it stopped, with how many cubes, and back to which, 0 where it did not stop
abbrev pub made_stopped : Result Chain NoRoom → Bool
made_stopped (Ok r) = true
made_stopped (Err full) = false

abbrev pub made_cubes : Result Chain NoRoom → ℕ
made_cubes (Ok r) = r.cubes
made_cubes (Err full) = full.cubes

abbrev pub made_back : Result Chain NoRoom → ℕ
made_back (Ok r) = r.back
made_back (Err full) = 0

-- a chain that is made in a buffer: what it answers, and the cubes in front of what stood there
pub record ChainMade (c : Counts) (words : List ℕ) (w : ℕ) (buffer : List ℕ) (r : Result Chain NoRoom) (cubes : List ℕ) : Type 0 where
  pub closes : made_stopped r ≡ has_stopped (run (circuit_of c words) w (room_in c buffer))
  pub counts : made_cubes r ≡ stored_cubes (room_in c buffer) (run (circuit_of c words) w (room_in c buffer))
  pub goes_back : made_back r ≡ back_to (run (circuit_of c words) w (room_in c buffer))
  pub fills : cubes ≡ over (pack_cubes (marked w) (cube_at (circuit_of c words) w) (made_cubes r)) buffer

-- cube 0, in which no constraint is 0, stands in a buffer of a size that 13 does not refuse
pub record Followable (c : Counts) (words : List ℕ) (len room : ℕ) (start₀ cubes : List ℕ) : Type 0 where
  pub free : blocked (circuit_of c words) (start (circuit_of c words)) ≡ false
  pub size : len ≡ cube_bytes c.latches
  pub has_room : room ≡ room_in c cubes
  pub one : cube_bytes c.latches ≤ length cubes
  pub small : length cubes ≤ 65536
  pub starts : start₀ ≡ over (pack (start_fields words c.latches)) (replicate longest_cube 0)
  pub begun : cubes ≡ over (pack_cube false (start_fields words c.latches)) cubes
