-- What a chain leaves, closed or ended, is never refused by the judge, given room for the results: with the table that made it, and with any that differs in
-- its lamps and bad states alone; verdict and settled record are then those of that circuit's run. Assumes nothing.
use mathlib.Core.Path.{◌≡◌, refl, sym, ap, ◌∙◌}
use mathlib.Core.Bool.{true}
use mathlib.Core.List.{List}
use Prim.Native.Nat.{ℕ, ◌<◌, ◌≤◌}
use lib.ListN.{length}
use Rattle.three.specs.Record.{bytes_for}
use Rattle.circuit.specs.declared.Counts.{Counts}
use Rattle.circuit.specs.Circuit.{Circuit, Latch}
use Rattle.circuit.specs.Refusal.{refusal}
use Rattle.circuit.specs.Table.{verdicts, circuit_of, board_tests}
use Rattle.circuit.proofs.Refusals.{none_append, none_past}
use Rattle.circuit.proofs.Legality.{board_numbered}
use Rattle.cubes.specs.declared.ChainAnswer.{ChainAnswer}
use Rattle.cubes.specs.Run.{cube_at, verdict, settled}
use Rattle.cubes.specs.Buffer.{cube_in}
use Rattle.cubes.specs.Chain.{room_in, chain_tests, ChainGiven, refused_by, outcome_in, Chained, circuit_in as board_in}
use Rattle.cubes.specs.Given.{is_chain}
use Rattle.cubes.specs.GivenInCode.{given_tests}
use Rattle.cubes.specs.Judge.{JudgeGiven, circuit_in, cubes_in, result_tests, judge_tests, verdict_fields, settled_fields}
use Rattle.cubes.proofs.Given.{cubes_pass}
use Rattle.cubes.proofs.Buffered.{latches_counted, verdict_same, settled_same}
use Rattle.cubes.proofs.Chains.{chain_same, run_is_chain, Relit, cube_relit, chain_relit}
use Rattle.cubes.proofs.Chaining.{says, outcome_is, cube_is, own_few, own_sound}
use Rattle.cubes.proofs.Judging.{past_chain, judge_passes}

pub relit_self : (c : Circuit) → Relit c c
relit_self c = record { inputs = refl; latches = refl; gates = refl; constraints = refl }

module _ (g : ChainGiven) (r : ChainAnswer) (cubes : List ℕ) (chained : Chained g r cubes) (closed : r.number ≡ 0) where
  -- the table that made it passes its own tests again
  pub own_board : 0 ≡ refusal (board_tests g.counts g.table)
  unfolding refused_by chain_tests
  own_board = (none_append (board_tests g.counts g.table) _ (board_numbered g.counts g.table) (sym (says g r cubes chained closed).0)).0

  module _ (c : Counts) (table : List ℕ) (board : 0 ≡ refusal (board_tests c table)) (relit : Relit (board_in g) (circuit_of c table)) where
    latches_same : g.counts.latches ≡ c.latches
    unfolding board_in
    latches_same = sym (latches_counted g.counts g.table) ∙ ap (λ (ls : List Latch). length ls) relit.latches ∙ latches_counted c table

    pub own_cube : (k : ℕ) → k < r.cubes → cube_at (circuit_of c table) g.w k ≡ cube_in c.latches cubes k
    own_cube k h = sym (cube_relit relit g.w k) ∙ cube_is g r cubes chained closed k h ∙ ap (λ (l : ℕ). cube_in l cubes k) latches_same

    pub own_given : 0 ≡ refusal (given_tests c table cubes r.cubes)
    unfolding room_in
    own_given =
        none_past (board_tests c table) _ (board_numbered c table) board
        (cubes_pass c cubes r.cubes
        (rw (← latches_same) (own_few g r cubes chained closed))
        (rw (← latches_same) (own_sound g r cubes chained closed)))

    own_chain : is_chain (circuit_of c table) (cube_in c.latches cubes) r.cubes r.back ≡ true
    unfolding outcome_in
    own_chain =
        sym (chain_relit relit _ r.cubes r.back)
        ∙ chain_same (board_in g) (cube_at (board_in g) g.w) _ r.cubes r.back
        (λ k h. cube_relit relit g.w k ∙ own_cube k h)
        (run_is_chain (board_in g) g.w (room_in g.counts g.cubes) r.cubes r.back (outcome_is g r cubes chained closed))

    module _ (verdict₀ settled₀ : List ℕ) where
      -- what is left, given to the judge
      abbrev pub given : JudgeGiven
      given = record { counts = c; table = table; cubes = cubes; n = r.cubes; j = r.back; verdict = verdict₀; settled = settled₀ }

      -- of its tests those of the results are left
      pub own_decided : refusal (result_tests given) ≡ refusal (judge_tests given)
      own_decided = past_chain given own_given (unfold circuit_in cubes_in in own_chain) refl

      pub own_accepted : bytes_for (verdicts c) ≤ length verdict₀ → bytes_for c.latches ≤ length settled₀ → 0 ≡ refusal (judge_tests given)
      own_accepted fits room = judge_passes given own_given (unfold circuit_in cubes_in in own_chain) fits room

      pub own_verdict : verdict_fields given ≡ verdict (circuit_of c table) (cube_at (circuit_of c table) g.w) r.cubes
      unfolding verdict_fields circuit_in cubes_in
      own_verdict = verdict_same (circuit_of c table) _ _ r.cubes (λ k h. sym (own_cube k h))

      pub own_settled : settled_fields given ≡ settled (circuit_of c table) (cube_at (circuit_of c table) g.w) r.cubes r.back
      unfolding settled_fields circuit_in cubes_in
      own_settled = settled_same (circuit_of c table) _ _ r.cubes (λ k h. sym (own_cube k h)) r.back
