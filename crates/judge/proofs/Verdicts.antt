-- The judge's first loop: what gets a verdict merged over all cubes. Assumes nothing.
use mathlib.Core.Path.{◌≡◌, sym, ap, ◌∙◌}
use mathlib.Core.List.{List}
use Prim.Native.Nat.{ℕ, ◌+◌, ◌*◌, ◌<◌, ◌≤◌}
use native.Mathlib.Nat.{zero-mul, sub-zero}
use native.Mathlib.Omega.{arith}
use lib.ListN.{length, drop, replicate}
use Rattle.three.specs.Lists.{over}
use Rattle.three.specs.Value.{low}
use Rattle.three.specs.Cube.{Cube, merged}
use Rattle.three.specs.Record.{bytes_for, pack, unpack}
use Rattle.three.specs.RecordInCode.{IsRecord}
use Rattle.three.proofs.Pack.{length_pack, unpack_over}
use Rattle.three.proofs.Soundness.{record_over}
use Rattle.circuit.specs.declared.Counts.{Counts}
use Rattle.circuit.specs.Circuit.{Circuit}
use Rattle.circuit.specs.Table.{verdicts, circuit_of}
use Rattle.cubes.specs.Run.{watched, watched_in, merge_from, verdict}
use Rattle.cubes.specs.BufferInCode.{IsCube}
use Rattle.cubes.specs.Buffer.{cube_of, cube_in}
use Rattle.cubes.proofs.StoredCube.{cube_at_lem}
use Rattle.cubes.proofs.Storing.{cube_place}
use Rattle.judge.specs.JudgeInCode.{Judgeable}
use Rattle.cubes.proofs.Merging.{length_over, Merged, merged_first, merged_next, merged_last}
use Rattle.cubes.proofs.Buffered.{watched_counted}

module _ (c : Counts) (words cubes : List ℕ) where
  -- the lamps and bad states in cube number k
  abbrev pub watched_of : ℕ → Cube
  watched_of k = watched_in (circuit_of c words) (cube_in c.latches cubes k)

  pub watched_sized : (k : ℕ) → length (watched_of k) ≡ verdicts c
  watched_sized k = watched_counted c words _

  -- the loop's invariant, from what the buffer held where it begins
  abbrev pub Judged : List ℕ → List ℕ → ℕ → Type 0
  Judged begun e k = Merged (verdicts c) watched_of watched_sized 0 begun e k

module _ (c : Counts) (words : List ℕ) (len n : ℕ) (cubes : List ℕ) (j : Judgeable c words len n cubes) where
  pub first_cube : IsCube c.latches cubes
  first_cube = rw zero-mul at (j.cube 0 j.some)

  pub few_verdicts : bytes_for (verdicts c) ≤ 32
  few_verdicts = omega (arith, j.legal.bounded)

  pub verdict_place : (k : ℕ) → k < n → k * len ≤ length cubes
  verdict_place k h = omega (arith, cube_place n len k (length cubes) h j.fits)

  abbrev circuit : Circuit
  circuit = circuit_of c words

  abbrev watched_at : ℕ → Cube
  watched_at = watched_of c words cubes

  module _ (k : ℕ) (seen₀ : List ℕ) {seen₁ : List ℕ} (wide : length seen₀ ≡ 32) (read : seen₁ ≡ over (pack (watched_in circuit (cube_of c.latches (drop (k * len) cubes)))) seen₀) where
    read_of : seen₁ ≡ over (pack (watched_at k)) seen₀
    read_of = read ∙ ap (λ (v : Cube). over (pack (watched_in circuit v)) seen₀) (cube_at_lem _ j.size cubes k)

    pub watched_record : IsRecord (verdicts c) seen₁
    watched_record = rw read_of (record_over (verdicts c) (watched_at k) seen₀ (watched_sized c words cubes k) (omega (arith, few_verdicts)))

    pub watched_length : length seen₁ ≡ 32
    watched_length = ap length read_of ∙ length_over _ seen₀ (rw (length_pack, watched_sized c words cubes k) (omega (arith, few_verdicts))) ∙ wide

    pub judged_next : {begun e e' : List ℕ} → Judged c words cubes begun e k → e' ≡ over (pack (merged (unpack (verdicts c) e) (unpack (verdicts c) seen₁))) e → Judged c words cubes begun e' (k + 1)
    judged_next m ee = merged_next _ _ _ _ _ m (rw read_of (unpack_over (verdicts c) (watched_at k) seen₀ (watched_sized c words cubes k))) ee

  module _ (entry : List ℕ) (room : bytes_for (verdicts c) ≤ length entry) {begun : List ℕ} (first : begun ≡ over (pack (watched_in circuit (cube_of c.latches cubes))) entry) where
    begun_with : begun ≡ over (pack (watched_at 0)) entry
    begun_with = first ∙ ap (λ (v : Cube). over (pack (watched_in circuit v)) entry) (ap (λ (m : ℕ). cube_of c.latches (drop m cubes)) (sym (zero-mul len)) ∙ cube_at_lem _ j.size cubes 0)

    pub judged_first : Judged c words cubes begun begun 1
    judged_first = merged_first _ _ _ _ _ entry room begun_with

    pub judged_last : {e : List ℕ} {k : ℕ} → Judged c words cubes begun e k → k ≡ n → e ≡ over (pack (verdict circuit (cube_in c.latches cubes) n)) entry
    unfolding verdict
    judged_last m h = merged_last _ _ _ _ _ entry room begun_with _ n m h ∙ ap (λ (i : ℕ). over (pack (merge_from (replicate (length (watched circuit)) low) watched_at 0 i)) entry) (sub-zero n)
