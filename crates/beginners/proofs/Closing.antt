-- A beginners' run that is not refused always closes: 13 leaves room for all cubes that there are. Assumes nothing.
use mathlib.Core.Path.{◌≡◌, sym, ap₂, ◌∙◌}
use mathlib.Core.List.{List}
use Prim.Native.Nat.{ℕ, ◌^◌, ◌≤◌}
use native.Mathlib.Nat.{le-div_iff_mul-le}
use native.Mathlib.Omega.{arith}
use borrow.Author.Tests.{le-leb, leb-true}
use lib.ListN.{length}
use Rattle.circuit.specs.declared.Counts.{Counts}
use Rattle.circuit.specs.Refusal.{refusal}
use Rattle.circuit.specs.RulesInCode.{Legal}
use Rattle.circuit.specs.Table.{board_tests}
use Rattle.circuit.proofs.Refusals.{past, none, passes, none_past, none_append, accepted_new}
use Rattle.circuit.proofs.Legality.{board_numbered, board_legal}
use Rattle.cubes.specs.declared.ChainAnswer.{ChainAnswer}
use Rattle.cubes.specs.Run.{Ending, stops}
use Rattle.cubes.specs.Buffer.{cube_bytes}
use Rattle.cubes.specs.Chain.{room_in, stored_cubes, back_to, outcome_number, chain_tests, circuit_in, outcome_in, cubes_in, back_in, Chained, refused_by as chain_refused_by}
use Rattle.cubes.proofs.StoredCube.{some_bytes, few_bytes, all_fit}
use Rattle.cubes.proofs.Buffered.{latches_counted}
use Rattle.cubes.proofs.Closes.{ClosesWithin}
use Rattle.cubes.proofs.Chaining.{closing}
use Rattle.cubes.proofs.Unwidened.{plain_closes}
use Rattle.beginners.specs.Rules.{beginners_tests}
use Rattle.beginners.specs.RulesInCode.{Small}
use Rattle.beginners.specs.Calls.{buffer_tests, chain_beginners_tests, BoardGiven, refused_by, unwidened, ChainedBeginners}
use Rattle.beginners.specs.Promise.{AlwaysCloses}
use Rattle.beginners.proofs.Rules.{beginners_numbered, beginners_small}

-- what holds where nothing is refused
pub record Accepted (c : Counts) (table : List ℕ) (n : ℕ) : Type 0 where
  pub board : 0 ≡ refusal (board_tests c table)
  pub legal : Legal c table
  pub small : Small c
  pub room : 19683 ≤ n
  pub most : n ≤ 65536

pub accepted_board : (c : Counts) (table : List ℕ) (n : ℕ) → 0 ≡ refusal (chain_beginners_tests c table n) → Accepted c table n
unfolding chain_beginners_tests buffer_tests
accepted_board c table n e =
    let p = none_append (board_tests c table) _ (board_numbered c table) e in
    let q = none_append (beginners_tests c table) _ (beginners_numbered c table) p.1 in
    let b = passes _ (omega arith) q.1 in
    record { board = p.0; legal = board_legal c table p.0; small = beginners_small c table q.0; room = omega (arith, leb-true); most = omega (arith, leb-true) }

-- one cube fits, and as many as there are
pub one_fits : {c : Counts} {n : ℕ} → Small c → 19683 ≤ n → cube_bytes c.latches ≤ n
one_fits {c} s room = let few : c.latches ≤ 512 = omega (arith, s.latches) in omega (arith, few_bytes few)

all_stand : (c : Counts) (cubes : List ℕ) → Small c → 19683 ≤ length cubes → 3 ^ c.latches ≤ room_in c cubes
unfolding room_in
all_stand c cubes s room = (le-div_iff_mul-le (some_bytes c.latches)).1 (omega (arith, all_fit c.latches s.latches))

stopped : (room : ℕ) (o : Ending) {n j : ℕ} → o ≡ stops n j → (stored_cubes room o ≡ n) × (back_to o ≡ j) × (outcome_number o ≡ 0)
unfolding stored_cubes back_to outcome_number
stopped room o e = (rw e, rw e, rw e)

module _ (g : BoardGiven) (r : ChainAnswer) (cubes : List ℕ) (chained : ChainedBeginners g r cubes) where
  module _ (ok : refused_by g ≡ 0) where
    accepted : Accepted g.counts g.table (length g.cubes)
    unfolding refused_by
    accepted = accepted_board _ _ _ (sym ok)

    latches : length (circuit_in (unwidened g)).latches ≡ g.counts.latches
    unfolding circuit_in
    latches = latches_counted g.counts g.table

    within : ClosesWithin (3 ^ g.counts.latches) (outcome_in (unwidened g))
    unfolding outcome_in
    within = rw latches at (plain_closes (circuit_in (unwidened g)) (room_in g.counts g.cubes) (rw latches (all_stand _ _ accepted.small accepted.room)))

    says : (cubes_in (unwidened g) ≡ within.n) × (back_in (unwidened g) ≡ within.j) × (outcome_number (outcome_in (unwidened g)) ≡ 0)
    unfolding cubes_in back_in
    says = stopped _ (outcome_in (unwidened g)) within.is_closed

    n_is : r.cubes ≡ cubes_in (unwidened g)
    n_is = chained.counts ∙ sym (accepted_new (refused_by g) _ _ ok)

    j_is : r.back ≡ back_in (unwidened g)
    j_is = chained.goes_back ∙ sym (accepted_new (refused_by g) _ _ ok)

    -- the call chain refuses nothing either
    not_refused : chain_refused_by (unwidened g) ≡ 0
    unfolding chain_refused_by chain_tests
    not_refused =
        sym (none_past (board_tests g.counts g.table) _ (board_numbered _ _) accepted.board
        (past _ _ (le-leb 0 1000 (omega arith))
        (past _ _ (le-leb (cube_bytes g.counts.latches) (length g.cubes) (one_fits accepted.small accepted.room))
        (past _ _ (le-leb (length g.cubes) 65536 accepted.most) none))))

    is_chain : Chained (unwidened g) r cubes
    is_chain = record {
      answers = chained.answers ∙ ok ∙ sym says.2 ∙ accepted_new (chain_refused_by (unwidened g)) _ _ not_refused;
      counts = n_is ∙ accepted_new (chain_refused_by (unwidened g)) _ _ not_refused;
      goes_back = j_is ∙ accepted_new (chain_refused_by (unwidened g)) _ _ not_refused;
      fills_cubes = chained.fills_cubes ∙ sym (accepted_new (refused_by g) _ _ ok) ∙ accepted_new (chain_refused_by (unwidened g)) _ _ not_refused;
    }

  pub always_closes : AlwaysCloses g r cubes
  always_closes = record {
    closes = λ ok. (within ok).is_closed ∙ ap₂ stops (sym (n_is ok ∙ (says ok).0)) (sym (j_is ok ∙ (says ok).1));
    never_ends = λ ok. (closing (unwidened g) r cubes (is_chain ok)).closed (chained.answers ∙ ok) (accepted ok).small.constraints;
    few = λ ok. omega (arith, n_is ok ∙ (says ok).0, (within ok).few);
    chains = is_chain;
  }
