-- The public judge: what it answers and leaves where it is refused, at each of its numbers, and where it is accepted. Assumes nothing.
use mathlib.Core.Path.{◌≡◌, refl, sym, ap, ap₂, ◌∙◌}
use mathlib.Core.Bool.{Bool, true, false}
use mathlib.Core.List.{List, ◌++◌}
use Prim.Native.Nat.{ℕ, ◌<◌, ◌≤◌}
use native.Mathlib.Omega.{arith}
use lib.ListN.{length, take, drop}
use lib.Seq.{take_at}
use Rattle.three.specs.Lists.{over}
use Rattle.three.specs.Cube.{Cube, known_fields}
use Rattle.three.specs.Record.{bytes_for, pack}
use Rattle.three.proofs.Pack.{length_pack}
use Rattle.circuit.specs.Refusal.{refusal}
use Rattle.circuit.specs.Table.{verdicts}
use Rattle.circuit.proofs.Refusals.{refused_old, accepted_new}
use Rattle.cubes.specs.Given.{is_chain}
use Rattle.cubes.specs.GivenInCode.{given_tests}
use Rattle.cubes.specs.Judge.{JudgeGiven, circuit_in, cubes_in, judge_tests, verdict_fields, settled_fields, Judged}
use Rattle.cubes.proofs.Buffered.{verdict_sized}
use Rattle.cubes.proofs.Chains.{chain_parts}
use Rattle.cubes.proofs.Judging.{cubes_refuse, no_chain, verdict_short, settled_short, judge_passes}
use Rattle.judge.specs.JudgeInCode.{settled_from}
use Rattle.judge.proofs.Judging.{settled_of}
use Rattle.judged.specs.JudgedInCode.{ChainFound, Written}

module _ (g : JudgeGiven) where
  refused : {k : ℕ} → k ≡ refusal (judge_tests g) → (k ≡ 0 → ⊥) → Judged g (record { number = k; settled = 0 }) g.verdict g.settled
  refused {k} e h = record { answers = e; settles = refused_old k _ _ h; fills_verdict = refused_old k _ _ h; fills_settled = refused_old k _ _ h }

  module _ {k : ℕ} (is : k ≡ refusal (given_tests g.counts g.table g.cubes g.n)) where
    pub given_refused : (k ≡ 0 → ⊥) → Judged g (record { number = k; settled = 0 }) g.verdict g.settled
    given_refused h = refused (cubes_refuse g k is h) h

    module _ (ok : k ≡ 0) where
      passed : 0 ≡ refusal (given_tests g.counts g.table g.cubes g.n)
      passed = sym ok ∙ is

      module _ {r : Bool} {seen seen' : List ℕ} (found : ChainFound g.counts g.table g.cubes g.n g.j seen r seen') where
        decided : r ≡ is_chain (circuit_in g) (cubes_in g) g.n g.j
        unfolding circuit_in cubes_in
        decided = found.decides

        pub chain_refused : r ≡ false → Judged g (record { number = 19; settled = 0 }) g.verdict g.settled
        chain_refused f = refused (no_chain g passed (sym decided ∙ f)) (λ z. omega arith)

        module _ (holds : r ≡ true) where
          chain : is_chain (circuit_in g) (cubes_in g) g.n g.j ≡ true
          chain = sym decided ∙ holds

          pub chain_within : g.j ≤ g.n
          chain_within = (chain_parts _ _ _ _ chain).0

          pub verdict_refused : length g.verdict < bytes_for (verdicts g.counts) → Judged g (record { number = 10; settled = 0 }) g.verdict g.settled
          verdict_refused h = refused (verdict_short g passed chain h) (λ z. omega arith)

          module _ (fits : bytes_for (verdicts g.counts) ≤ length g.verdict) where
            pub settled_refused : length g.settled < bytes_for g.counts.latches → Judged g (record { number = 10; settled = 0 }) g.verdict g.settled
            settled_refused h = refused (settled_short g passed chain fits h) (λ z. omega arith)

            -- ---- accepted

            seen_are : seen' ≡ over (pack (verdict_fields g)) seen
            unfolding verdict_fields circuit_in cubes_in
            seen_are = found.judges holds

            packed : length (pack (verdict_fields g)) ≡ bytes_for (verdicts g.counts)
            unfolding verdict_fields circuit_in
            packed = rw (length_pack, verdict_sized g.counts g.table (cubes_in g) g.n)

            latches_are : settled_from g.counts.latches g.cubes g.n g.j ≡ settled_fields g
            unfolding settled_fields circuit_in cubes_in
            latches_are = settled_of g.counts g.table g.cubes g.n g.j

            pub accepted : bytes_for g.counts.latches ≤ length g.settled → {s : ℕ} {verdict settled : List ℕ} → Written g.counts g.cubes g.n g.j seen' g.verdict g.settled s verdict settled
                → Judged g (record { number = 0; settled = s }) verdict settled
            unfolding over
            accepted room written = record {
              answers = judge_passes g passed chain fits room;
              settles = written.counts ∙ ap known_fields latches_are ∙ accepted_new 0 _ _ refl;
              fills_verdict =
                  let front : take (bytes_for (verdicts g.counts)) seen' ≡ pack (verdict_fields g) = ap (take (bytes_for (verdicts g.counts))) seen_are ∙ take_at (pack (verdict_fields g)) _ _ packed in
                  written.copies ∙ ap₂ (λ (x : List ℕ) (m : ℕ). x ++ drop m g.verdict) front (sym packed) ∙ accepted_new 0 _ _ refl;
              fills_settled = written.settles ∙ ap (λ (v : Cube). over (pack v) g.settled) latches_are ∙ accepted_new 0 _ _ refl;
            }
