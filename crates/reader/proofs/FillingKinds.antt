-- The second pass over the four kinds of line in turn: when none is left the table is the whole. Assumes nothing.
use mathlib.Core.Path.{◌≡◌, refl}
use mathlib.Core.List.{List, []}
use Rattle.three.specs.Lists.{over}
use Prim.Native.Nat.{ℕ, ◌+◌, ◌*◌}
use Rattle.circuit.specs.declared.Counts.{Counts}
use Rattle.circuit.specs.RulesInCode.{Bounded}
use Rattle.circuit.specs.Table.{kinds, literals}
use Rattle.text.specs.Outcome.{leaves}
use Rattle.text.specs.Text.{read_lines, circuit_lines}
use Rattle.text.specs.declared.LineKind.TheVariants.{Input, Latch, Lamp, Gate}
use Rattle.text.specs.KindsInCode.{coded}
use Rattle.lines.specs.LinesInCode.{from}
use Rattle.reader.specs.declared.Place.{Place}
use Rattle.reader.specs.ReaderInCode.{Reads, lines_of, body_words, stand, Fillable, KindFillable, KindFilled}
use Rattle.reader.proofs.Filling.{filled_then, filled_over}

pub no_words : (ending : List ℕ) (c : Counts) (t : List ℕ) → [] ≡ body_words (circuit_lines ending c) [] t
unfolding lines_of leaves read_lines
no_words ending c t = refl

module _ {read : Counts → Reads} {text : List ℕ} {c : Counts} {at : ℕ} {table : List ℕ} (b : Bounded c) (f : Fillable (read c) text (stand (kinds c) at 0 table)) where
  unfoldable pub inputs_due : KindFillable read text (coded Input) 2 c.inputs (record { at = at; word = 0 }) table
  unfolding coded kinds
  inputs_due = record { counts = c; bounded = b; behind = _; all = f }

  module _ {p : Place} {t : List ℕ} (inputs : KindFilled read text (coded Input) 2 c.inputs (record { at = at; word = 0 }) table p t) where
    unfoldable pub latches_due : KindFillable read text (coded Latch) (2 + 2 * c.inputs) c.latches p t
    unfolding coded inputs_due
    latches_due = record { counts = c; bounded = b; behind = _; all = (inputs inputs_due).left }

    module _ {q : Place} {u : List ℕ} (latches : KindFilled read text (coded Latch) (2 + 2 * c.inputs) c.latches p t q u) where
      unfoldable pub lamps_due : KindFillable read text (coded Lamp) 0 (literals c) q u
      unfolding coded inputs_due latches_due
      lamps_due = record { counts = c; bounded = b; behind = _; all = (latches latches_due).left }

      module _ {r : Place} {v : List ℕ} (lamps : KindFilled read text (coded Lamp) 0 (literals c) q u r v) where
        unfoldable pub gates_due : KindFillable read text (coded Gate) (2 + 2 * c.inputs + 2 * c.latches) c.gates r v
        unfolding coded inputs_due latches_due lamps_due
        gates_due = record { counts = c; bounded = b; behind = _; all = (lamps lamps_due).left }

        pub filled_whole : ((d : Counts) (t : List ℕ) → [] ≡ body_words (read d) [] t) → {s : Place} {w : List ℕ} → KindFilled read text (coded Gate) (2 + 2 * c.inputs + 2 * c.latches) c.gates r v s w → w ≡ over (body_words (read c) (kinds c) (from text at)) table
        unfolding coded inputs_due latches_due lamps_due gates_due
        filled_whole none gates = filled_over (none c) f (filled_then (filled_then (filled_then (inputs inputs_due) (latches latches_due)) (lamps lamps_due)) (gates gates_due))
