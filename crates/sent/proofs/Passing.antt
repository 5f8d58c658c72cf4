-- The walk through the cubes, whose test is that the next state of a cube is covered: the first that fails it is named; where there is no cube each verdict is never. Assumes nothing.
use mathlib.Core.Path.{◌≡◌, sym, ap, ◌∙◌}
use mathlib.Core.Bool.{Bool, false}
use mathlib.Core.List.{List}
use Rattle.std.specs.Prelude.{Some, None}
use Rattle.std.proofs.lemmas.Option.{none-some}
use Prim.Native.Nat.{ℕ, ◌*◌, ◌<◌, ◌≤◌}
use native.Mathlib.Nat.{zero-mul, not-suc-le-zero}
use native.Mathlib.Omega.{arith}
use lib.ListN.{length, drop, replicate, length-replicate}
use Rattle.three.specs.Lists.{over}
use Rattle.three.specs.Value.{decode}
use Rattle.three.specs.Cube.{Cube}
use Rattle.three.specs.Record.{bytes_for, pack}
use Rattle.three.proofs.Pack.{length_pack}
use Rattle.circuit.specs.declared.Counts.{Counts}
use Rattle.circuit.specs.Circuit.{Circuit}
use Rattle.circuit.specs.Table.{verdicts, circuit_of}
use Rattle.cubes.specs.Run.{next_cube, watched_in, verdict as verdict_of}
use Rattle.cubes.specs.Buffer.{cube_of, cube_in}
use Rattle.cubes.specs.Given.{covered, next_covered}
use Rattle.cubes.proofs.StoredCube.{cube_at_lem}
use Rattle.cubes.proofs.Merging.{length_over}
use Rattle.cubes.proofs.Buffered.{verdicts_counted}
use Rattle.cubes.proofs.Ending.{never_all}
use Rattle.cubes.proofs.Covering.{uncovered_at, uncovered_none}
use Rattle.judge.specs.JudgeInCode.{Judgeable}
use Rattle.judge.proofs.Passing.{Passing, all_passed, all_judged}
use Rattle.sent.specs.SentInCode.{Sendable, Walked}

-- no cube: the code stores a record whose fields are all never
pub never_long : (entry : List ℕ) (fields : ℕ) {verdict : List ℕ} → verdict ≡ over (pack (replicate fields (decode 1))) entry → bytes_for fields ≤ length entry → length verdict ≡ length entry
never_long entry fields stored fits = ap length stored ∙ length_over _ entry (rw (length_pack, length-replicate) fits)

module _ (c : Counts) (words : List ℕ) (n : ℕ) (cubes : List ℕ) {fields : ℕ} (many : fields ≡ verdicts c) where
  never : n ≡ 0 → replicate fields (decode 1) ≡ verdict_of (circuit_of c words) (cube_in c.latches cubes) n
  unfolding decode
  never none = rw (none, many, never_all (circuit_of c words) (cube_in c.latches cubes), verdicts_counted c words)

  pub walked_nothing : n ≡ 0 → (entry : List ℕ) {verdict : List ℕ} → verdict ≡ over (pack (replicate fields (decode 1))) entry → Walked c words cubes n entry None verdict
  walked_nothing none entry stored = record {
    names = uncovered_none _ _ n (λ m l. absurd (omega arith));
    within = tt;
    judges = λ z. stored ∙ ap (λ (v : Cube). over (pack v) entry) (never none);
  }

module _ (c : Counts) (words : List ℕ) (len n : ℕ) (cubes : List ℕ) where
  abbrev circuit : Circuit
  circuit = circuit_of c words

  -- the next state of cube number k is covered
  abbrev pub covered_at : ℕ → Bool
  covered_at k = next_covered circuit (cube_in c.latches cubes) n k

  pub judgeable : Sendable c words len n cubes → 1 ≤ n → Judgeable c words len n cubes
  judgeable s some = record { legal = s.legal; size = s.stand.size; some = some; fits = s.stand.fits; cube = s.stand.cube }

  module _ (j : Judgeable c words len n cubes) where
    -- as the code asks it, at the byte where the cube stands
    pub asked : (k : ℕ) {r : Bool} → r ≡ covered circuit (cube_in c.latches cubes) n (next_cube circuit (cube_of c.latches (drop (k * len) cubes))) → r ≡ covered_at k
    unfolding next_covered
    asked k e = e ∙ ap (λ v. covered circuit (cube_in c.latches cubes) n (next_cube circuit v)) (cube_at_lem c.latches j.size cubes k)

    pub asked_first : {r : Bool} → r ≡ covered circuit (cube_in c.latches cubes) n (next_cube circuit (cube_of c.latches cubes)) → r ≡ covered_at 0
    asked_first e = asked 0 (rw zero-mul e)

    pub walked_none : {r : Bool} → r ≡ covered_at 0 → r ≡ false → (entry : List ℕ) {verdict : List ℕ} → Walked c words cubes n entry (Some 0) verdict
    walked_none e f entry = record { names = uncovered_at _ _ n 0 j.some (λ m l. absurd (not-suc-le-zero l)) (sym e ∙ f); within = j.some; judges = λ z. absurd (none-some _ (sym z)) }

  module _ (entry : List ℕ) (fits : bytes_for (verdicts c) ≤ length entry) (begun : List ℕ) (first : begun ≡ over (pack (watched_in circuit (cube_of c.latches cubes))) entry)
      {verdict values seen : List ℕ} {k : ℕ} (p : Passing c words len n cubes covered_at begun verdict values seen k) where
    pub walked_all : n ≤ k → Walked c words cubes n entry None verdict
    walked_all h = record { names = uncovered_none _ _ n (all_passed c words len n cubes covered_at entry fits begun first p h); within = tt; judges = λ z. all_judged c words len n cubes covered_at entry fits begun first p h }

    pub walked_part : k < n → {r : Bool} → r ≡ covered_at k → r ≡ false → {verdict' : List ℕ} → Walked c words cubes n entry (Some k) verdict'
    walked_part h e f = record { names = uncovered_at _ _ n k h p.passed (sym e ∙ f); within = h; judges = λ z. absurd (none-some _ (sym z)) }
