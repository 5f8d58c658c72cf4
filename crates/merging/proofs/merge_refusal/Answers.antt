-- `merging::merge_refusal` meets its contract: its tests are made in the order of the list. Assumes nothing.
use mathlib.Core.Path.{sym, ◌∙◌}
use native.Mathlib.Omega.{arith}
use Rattle.merging.proofs.Refusing.{many_fields, a_short, b_short, a_bad, b_bad, merged_short, merge_passes}
use Rattle.merging.proofs.merge_refusal.Goals as goal

pub returns-then-fields-gt-MOST_FIELDS : goal.returns-then-fields-gt-MOST_FIELDS
returns-then-fields-gt-MOST_FIELDS c = many_fields _ _ _ _ (omega arith)

pub returns-then-a-len : goal.returns-then-a-len
returns-then-a-len c = a_short _ _ _ _ (omega arith) (omega arith)

pub returns-then-b-len : goal.returns-then-b-len
returns-then-b-len c = b_short _ _ _ _ (omega arith) (omega arith) (omega arith)

pub returns-then-not-sound : goal.returns-then-not-sound
returns-then-not-sound c = a_bad _ _ _ _ (omega arith) (omega arith) (omega arith) (sym c.sound.ensures ∙ c.if-not-sound.true)

pub returns-then-not-sound-2 : goal.returns-then-not-sound-2
returns-then-not-sound-2 c =
    b_bad _ _ _ _ (omega arith) (omega arith) (omega arith) (sym c.sound.ensures ∙ c.if-not-sound.false)
    (sym c.sound-2.ensures ∙ c.if-not-sound-2.true)

pub returns-then-merged-len : goal.returns-then-merged-len
returns-then-merged-len c =
    merged_short _ _ _ _ (omega arith)
    (record { fits = omega arith; good = sym c.sound.ensures ∙ c.if-not-sound.false })
    (record { fits = omega arith; good = sym c.sound-2.ensures ∙ c.if-not-sound-2.false })
    (omega arith)

pub returns : goal.returns
returns c =
    merge_passes _ _ _ _ (omega arith)
    (record { fits = omega arith; good = sym c.sound.ensures ∙ c.if-not-sound.false })
    (record { fits = omega arith; good = sym c.sound-2.ensures ∙ c.if-not-sound-2.false })
    (omega arith)
