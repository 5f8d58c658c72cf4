-- Tick by tick the table behaves as the text does. Assumes nothing.
use mathlib.Core.Path.{◌≡◌, sym, ap, ◌∙◌}
use mathlib.Core.Bool.{Bool}
use mathlib.Core.List.{List}
use mathlib.Core.Logic.{◌↔◌}
use Prim.Native.Nat.{ℕ, zero, suc}
use lib.ListN.{length}
use Rattle.three.specs.Value.{boolean}
use Rattle.three.proofs.Lists.{length_tabulate}
use Rattle.circuit.specs.Circuit.{Circuit, next}
use Rattle.circuit.specs.Table.{circuit_of}
use Rattle.circuit.proofs.Pass.{next_sized}
use Rattle.drawn.specs.Drawing.{Drawing, table}
use Rattle.drawn.specs.Meaning.{Shown, shown_by, next_under, Does, Behaves, Follows}
use Rattle.drawn.proofs.Proper.{Proper}
use Rattle.drawn.proofs.Same.{next_same, shown_same, solution, solution_solves}

module _ (d : Drawing) (p : Proper d) where
  abbrev circuit : Circuit
  circuit = circuit_of d.counts (table d)

  -- what the text does at a tick is what the table does, and nothing else
  module _ (r s : List Bool) (inputs_long : length r ≡ d.counts.inputs) (latches_long : length s ≡ d.counts.latches) (next' : List Bool) (shown' : Shown) where
    pub does : Does d r s next' shown' ↔ ((next' ≡ next boolean circuit r s) × (shown' ≡ shown_by circuit r s))
    does = (
      λ (t : Does d r s next' shown'). (t.next_is ∙ sym (next_same d p r s inputs_long latches_long t.values t.solves), t.shown_is ∙ sym (shown_same d p r s inputs_long latches_long t.values t.solves)),
      λ (e : (next' ≡ next boolean circuit r s) × (shown' ≡ shown_by circuit r s)). record {
        values = solution d p r s inputs_long latches_long;
        solves = solution_solves d p r s inputs_long latches_long;
        next_is = e.0 ∙ next_same d p r s inputs_long latches_long _ (solution_solves d p r s inputs_long latches_long);
        shown_is = e.1 ∙ shown_same d p r s inputs_long latches_long _ (solution_solves d p r s inputs_long latches_long);
      },
    )

  next_long : (r s : List Bool) → length (next boolean circuit r s) ≡ d.counts.latches
  unfolding circuit_of
  next_long r s = next_sized boolean circuit r s ∙ length_tabulate d.counts.latches _

  -- ---- every sequence of switch settings

  module _ (switches states : ℕ → List Bool) (shows : ℕ → Shown) (set : (t : ℕ) → length (switches t) ≡ d.counts.inputs) (begins : length (states 0) ≡ d.counts.latches) where
    state_long : Behaves d switches states shows → (t : ℕ) → length (states t) ≡ d.counts.latches
    unfolding next_under
    state_long b zero = begins
    state_long b (suc t) = ap length (b t).next_is ∙ length_tabulate d.counts.latches _

    pub behaves_follows : Behaves d switches states shows → Follows d switches states shows
    behaves_follows b = record {
      state = λ t. ((does (switches t) (states t) (set t) (state_long b t) (states (suc t)) (shows t)).0 (b t)).0;
      shown = λ t. ((does (switches t) (states t) (set t) (state_long b t) (states (suc t)) (shows t)).0 (b t)).1;
    }

    follows_long : Follows d switches states shows → (t : ℕ) → length (states t) ≡ d.counts.latches
    follows_long f zero = begins
    follows_long f (suc t) = ap length (f.state t) ∙ next_long (switches t) (states t)

    pub follows_behaves : Follows d switches states shows → Behaves d switches states shows
    follows_behaves f t = (does (switches t) (states t) (set t) (follows_long f t) (states (suc t)) (shows t)).1 (f.state t, f.shown t)

    pub behaviour : Behaves d switches states shows ↔ Follows d switches states shows
    behaviour = (behaves_follows, follows_behaves)
