-- A run that does not widen closes or ends within 3 to the power L cubes: while it goes on no two of its cubes are the same. Assumes nothing.
use mathlib.Core.Path.{◌≡◌, refl, sym, ◌∙◌}
use mathlib.Core.Bool.{true≢false}
use Prim.Native.Nat.{ℕ, suc, ◌^◌, ◌<◌, ◌≤◌}
use native.Mathlib.Decide.{dec_lt}
use native.Mathlib.Omega.{arith}
use lib.ListN.{length}
use Rattle.three.proofs.Merge.{subsumes_self}
use Rattle.three.proofs.Numbered.{repeats}
use Rattle.circuit.specs.Circuit.{Circuit}
use Rattle.cubes.specs.Run.{cube_at, Ending, stops, full, run}
use Rattle.cubes.proofs.Steps.{none_at_all, nothing_found, Ran, dead, begun, stays, closes, goes_on, ran}
use Rattle.cubes.proofs.Wider.{cube_sized}
use Rattle.cubes.proofs.Closes.{ClosesWithin}
use Rattle.cubes.proofs.Exact.{plain_reached, plain_next}

module _ (c : Circuit) where
  all_different : {k : ℕ} → Ran c 0 k full → (i j : ℕ) → i < j → j ≤ k → cube_at c 0 i ≡ cube_at c 0 j → ⊥
  all_different (begun free) i j order within same = omega arith
  all_different (goes_on {k = k} past looked) i j order within same = go (dec_lt j (suc k)) (λ h. all_different past i j order h same)
    where
      go : Dec (j < suc k) → (j ≤ k → ⊥) → ⊥
      go (yes early) before = before (omega arith)
      go (no late) before =
          let last : j ≡ suc k = omega arith in
          let is_next = rw last at same ∙ plain_next c k ∙ sym (plain_reached c k) in
          true≢false (sym (subsumes_self (cube_at c 0 i)) ∙ rw (← is_next) at (none_at_all (nothing_found c 0 looked) i (omega arith)))

  still_open : {k : ℕ} → Ran c 0 k full → k < 3 ^ length c.latches
  still_open {k} r = go (dec_lt k (3 ^ length c.latches))
    where
      go : Dec (k < 3 ^ length c.latches) → k < 3 ^ length c.latches
      go (yes early) = early
      go (no late) =
          let t = repeats (length c.latches) (cube_at c 0) (cube_sized c 0) in
          absurd (all_different r t.i t.j t.order (omega (arith, t.within)) t.same)

  few_cubes : {room n j : ℕ} → Ran c 0 room (stops n j) → n ≤ 3 ^ length c.latches
  few_cubes (dead e) = omega arith
  few_cubes (stays past) = few_cubes past
  few_cubes (closes past l) = still_open past

  pub plain_closes : (room : ℕ) → 3 ^ length c.latches ≤ room → ClosesWithin (3 ^ length c.latches) (run c 0 room)
  plain_closes room enough = go (run c 0 room) (ran c 0 room)
    where
      go : (o : Ending) → Ran c 0 room o → ClosesWithin (3 ^ length c.latches) o
      go (stops n j) r = record { n = n; j = j; is_closed = refl; few = few_cubes r }
      go full r = absurd (omega (arith, still_open r))
