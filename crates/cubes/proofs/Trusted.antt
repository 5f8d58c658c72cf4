-- What a chain that does not widen promises of a board on which nothing is unknown; judged, its open lamps can be trusted too. Assumes nothing.
use mathlib.Core.Path.{◌≡◌, sym, ap, ◌∙◌}
use mathlib.Core.Bool.{true, false}
use mathlib.Core.List.{List}
use Prim.Native.Nat.{ℕ, ◌<◌}
use lib.ListN.{get_or}
use Rattle.three.specs.Value.{unknown}
use Rattle.three.specs.Cube.{known_fields}
use Rattle.three.specs.Record.{unpack}
use Rattle.cubes.specs.declared.ChainAnswer.{ChainAnswer}
use Rattle.cubes.specs.declared.JudgeAnswer.{JudgeAnswer}
use Rattle.cubes.specs.Run.{cube_at}
use Rattle.cubes.specs.Buffer.{cube_in}
use Rattle.cubes.specs.Chain.{ChainGiven, room_in, outcome_in, Chained, circuit_in as board_in}
use Rattle.cubes.specs.Judge.{JudgeGiven, circuit_in, Judged}
use Rattle.cubes.specs.Execution.{Execution, state_after, lamps_after}
use Rattle.cubes.specs.Exact.{Certain, Exact, Sometimes, Singles}
use Rattle.cubes.proofs.Whole.{state_whole}
use Rattle.cubes.proofs.Blocking.{counted_none}
use Rattle.cubes.proofs.StoredCube.{cube_in_sized}
use Rattle.cubes.proofs.Promise.{run_chain}
use Rattle.cubes.proofs.Chaining.{outcome_is, cube_is}
use Rattle.cubes.proofs.Promising.{promises}
use Rattle.cubes.proofs.Exact.{chain_exact, plain_whole}

-- ---- chain

module _ (g : ChainGiven) (r : ChainAnswer) (cubes : List ℕ) (chained : Chained g r cubes) where
  own_exact : r.number ≡ 0 → g.w ≡ 0 → Certain (board_in g) → (e : Execution (board_in g)) → Exact (cube_in g.counts.latches cubes) r.cubes e
  unfolding outcome_in
  own_exact done plain certain e =
      let exact : Exact (cube_at (board_in g) g.w) r.cubes e =
      chain_exact (run_chain (board_in g) g.w (room_in g.counts g.cubes) _ _ (outcome_is g r cubes chained done)) certain.unconstrained (λ k h. ap (λ (w : ℕ). known_fields (cube_at (board_in g) w k)) plain ∙ plain_whole (board_in g) certain e k) e in
      record {
        occurs = λ k h. sym (cube_is g r cubes chained done k h) ∙ exact.occurs k h;
        stored = λ t. let s = exact.stored t in (s.0, s.1, sym (cube_is g r cubes chained done s.0 s.1) ∙ s.2);
      }

  pub singles : Singles g r cubes
  singles = record { exact = own_exact }

-- ---- where they meet: a chain's cubes, judged

-- exact cubes have no X
exact_no_x : (g : ChainGiven) (cubes : List ℕ) (n : ℕ) (e : Execution (board_in g)) → Exact (cube_in g.counts.latches cubes) n e
    → (k : ℕ) → k < n → known_fields (cube_in g.counts.latches cubes k) ≡ g.counts.latches
exact_no_x g cubes n e exact k h = rw (← exact.occurs k h) at (state_whole (state_after e k)) ∙ cube_in_sized g.counts.latches cubes k

module _ (g : ChainGiven) (r : ChainAnswer) (cubes : List ℕ) (chained : Chained g r cubes) (done : r.number ≡ 0) (plain : g.w ≡ 0) (certain : Certain (board_in g)) where
  abbrev judging : List ℕ → List ℕ → JudgeGiven
  judging verdict settled = record { counts = g.counts; table = g.table; cubes = cubes; n = r.cubes; j = r.back; verdict = verdict; settled = settled }

  -- without widening, on a board without switches and constraints and with start values: an open lamp is lit at some tick and dark at another
  pub open_trusted : (verdict settled : List ℕ) (s : JudgeAnswer) (verdict' settled' : List ℕ) → Judged (judging verdict settled) s verdict' settled' → s.number ≡ 0
      → (e : Execution (board_in g)) (i : ℕ) → i < g.counts.lamps → get_or (unpack g.counts.lamps verdict') i unknown ≡ unknown
      → Sometimes r.cubes (lamps_after e) i true × Sometimes r.cubes (lamps_after e) i false
  unfolding circuit_in board_in
  open_trusted verdict settled s verdict' settled' judged accepted e i h is =
      (promises (judging verdict settled) s verdict' settled' judged).opens.opens accepted
      (counted_none g.counts g.table certain.unconstrained)
      (exact_no_x g cubes r.cubes e ((singles g r cubes chained).exact done plain certain e)) certain.switchless e i h is
