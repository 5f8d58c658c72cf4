-- A loop that walks through given cubes with one test for each: k of them are passed, their test holds, and what gets a verdict in them is merged. Assumes nothing.
use mathlib.Core.Path.{◌≡◌, sym, ap, ◌∙◌}
use mathlib.Core.Bool.{Bool, true}
use mathlib.Core.List.{List}
use Prim.Native.Nat.{ℕ, ◌+◌, ◌*◌, ◌<◌, ◌≤◌}
use native.Mathlib.Nat.{not-suc-le-zero}
use native.Mathlib.Omega.{arith}
use borrow.Author.Count.{below_more}
use lib.ListN.{length, drop}
use Rattle.three.specs.Lists.{over}
use Rattle.three.specs.Cube.{merged}
use Rattle.three.specs.Record.{bytes_for, pack, unpack}
use Rattle.three.specs.RecordInCode.{IsRecord}
use Rattle.three.proofs.Pack.{length_pack}
use Rattle.circuit.specs.declared.Counts.{Counts}
use Rattle.circuit.specs.Circuit.{Circuit}
use Rattle.circuit.specs.Table.{verdicts, circuit_of}
use Rattle.cubes.specs.Run.{watched_in, verdict}
use Rattle.cubes.specs.Buffer.{cube_of, cube_in}
use Rattle.cubes.proofs.Merging.{merged_record, merged_length, length_over}
use Rattle.cubes.proofs.Buffered.{watched_counted}
use Rattle.stored.specs.CubesInCode.{SwitchesX}
use Rattle.judge.specs.JudgeInCode.{Judgeable}
use Rattle.judge.proofs.Verdicts.{Judged, judged_first, judged_next, judged_last, watched_record, watched_length}

-- the lamps and bad states of the first cube were put into the buffer
pub begun_long : (c : Counts) (words cubes entry : List ℕ) → bytes_for (verdicts c) ≤ length entry → {begun : List ℕ} → begun ≡ over (pack (watched_in (circuit_of c words) (cube_of c.latches cubes))) entry
    → length begun ≡ length entry
begun_long c words cubes entry fits first = ap length first ∙ length_over _ entry (rw (length_pack, watched_counted) fits)

module _ (c : Counts) (words : List ℕ) (len n : ℕ) (cubes : List ℕ) (test : ℕ → Bool) where
  abbrev circuit : Circuit
  circuit = circuit_of c words

  -- the loop's invariant, from what the verdict's buffer held where it begins
  pub record Passing (begun verdict' values seen : List ℕ) (k : ℕ) : Type 0 where
    pub given : Judgeable c words len n cubes
    pub ready : SwitchesX c values
    pub judged : Judged c words cubes begun verdict' k
    pub long : length seen ≡ 32
    pub within : k ≤ n
    pub passed : (m : ℕ) → m < k → test m ≡ true

  module _ (entry : List ℕ) (fits : bytes_for (verdicts c) ≤ length entry) (begun : List ℕ) (first : begun ≡ over (pack (watched_in circuit (cube_of c.latches cubes))) entry) where
    pub passing_first : (j : Judgeable c words len n cubes) {r : Bool} → r ≡ test 0 → r ≡ true → (values seen : List ℕ) → SwitchesX c values → length seen ≡ 32 → Passing begun begun values seen 1
    passing_first j e f values seen ready long = record {
      given = j;
      ready = ready;
      judged = judged_first c words len n cubes j entry fits first;
      long = long;
      within = j.some;
      passed = below_more _ 0 (λ m l. absurd (not-suc-le-zero l)) (sym e ∙ f);
    }

    module _ {verdict' values seen : List ℕ} {k : ℕ} (p : Passing begun verdict' values seen k) where
      abbrev j : Judgeable c words len n cubes
      j = p.given

      pub verdict_long : length verdict' ≡ length entry
      verdict_long = merged_length _ _ _ _ _ p.judged ∙ begun_long c words cubes entry fits first

      -- all cubes are passed
      pub all_passed : n ≤ k → (m : ℕ) → m < n → test m ≡ true
      all_passed h m l = p.passed m (omega arith)

      pub all_judged : n ≤ k → verdict' ≡ over (pack (verdict circuit (cube_in c.latches cubes) n)) entry
      all_judged h = let whole : k ≡ n = omega (arith, p.within) in judged_last c words len n cubes j entry fits first p.judged whole

      -- one cube more
      module _ (h : k < n) (seen' : List ℕ) (read : seen' ≡ over (pack (watched_in circuit (cube_of c.latches (drop (k * len) cubes)))) seen) where
        pub watched_long : length seen' ≡ 32
        watched_long = watched_length c words len n cubes j k seen p.long read

        pub both_records : IsRecord (verdicts c) verdict' × IsRecord (verdicts c) seen'
        both_records = (merged_record _ _ _ _ _ p.judged, watched_record c words len n cubes j k seen p.long read)

        pub passing_next : {r : Bool} → r ≡ test k → r ≡ true → (verdict'' values' : List ℕ) → verdict'' ≡ over (pack (merged (unpack (verdicts c) verdict') (unpack (verdicts c) seen'))) verdict' → SwitchesX c values'
            → Passing begun verdict'' values' seen' (k + 1)
        passing_next e f verdict'' values' merges ready = record {
          given = j;
          ready = ready;
          judged = judged_next c words len n cubes j k seen p.long read p.judged merges;
          long = watched_long;
          within = omega arith;
          passed = below_more _ k p.passed (sym e ∙ f);
        }
