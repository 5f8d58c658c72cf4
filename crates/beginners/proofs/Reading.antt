-- The beginners' reader: its contract from what is decided, in the order of the refusals; a text that it accepts is accepted by the call read. Assumes nothing.
use mathlib.Core.Path.{◌≡◌, refl, sym, ap, ◌∙◌}
use mathlib.Core.List.{List}
use Prim.Native.Nat.{ℕ, zero, suc}
use native.Mathlib.Omega.{arith}
use Rattle.three.specs.Lists.{over}
use Rattle.circuit.specs.declared.Counts.{Counts}
use Rattle.circuit.specs.Refusal.{Test, refusal}
use Rattle.text.specs.Outcome.{Outcome, accepted, refused, number_of, tested, further, leaves}
use Rattle.text.specs.OutcomeInCode.{after}
use Rattle.text.specs.Text.{Content}
use Rattle.text.specs.Calls.{read_into, zeros}
use Rattle.text.proofs.Outcomes.{tested_stops, tested_past}
use Rattle.text.proofs.Answers.{reading_refused, reading_accepted}
use Rattle.beginners.specs.Rules.{beginners_tests}
use Rattle.beginners.specs.Calls.{read_beginners, ReadingBeginners}
use Rattle.beginners.specs.Promise.{AlsoRead}

module _ (text table : List ℕ) where
  -- 1 to 10
  pub beginners_stops : {n : ℕ} → read_into text table ≡ refused n → ReadingBeginners text table n zeros table
  unfolding read_beginners further
  beginners_stops e = reading_refused table (ap (further _) e)

  module _ {c : Content} (e : read_into text table ≡ accepted c) where
    pub beginners_outside : (k : ℕ) → k ≡ refusal (beginners_tests c.counts c.words) → (k ≡ 0 → ⊥) → ReadingBeginners text table k zeros table
    unfolding read_beginners further
    beginners_outside zero h z = absurd (z refl)
    beginners_outside (suc k) h z = reading_refused table (ap (further _) e ∙ tested_stops _ (accepted c) h)

    pub beginners_accepted : 0 ≡ refusal (beginners_tests c.counts c.words) → ReadingBeginners text table 0 c.counts (over c.words table)
    unfolding read_beginners further
    beginners_accepted h = reading_accepted table (ap (further _) e ∙ tested_past _ (accepted c) h)

-- ---- accepted here, accepted by the call read

-- further tests that refuse nothing leave the outcome
further_same : {A : Type 0} (ts : A → List Test) (o : Outcome A) → number_of (further ts o) ≡ 0 → further ts o ≡ o
unfolding further tested number_of
further_same ts (refused n) z = refl
further_same {A} ts (accepted a) z = go (refusal (ts a)) z
  where
    go : (k : ℕ) → number_of (after k (accepted a)) ≡ 0 → after k (accepted a) ≡ accepted a
    go zero e = refl
    go (suc k) e = absurd (omega arith)

pub also_read : {text table : List ℕ} {n : ℕ} {c : Counts} {table' : List ℕ} → ReadingBeginners text table n c table' → AlsoRead text table n c table'
unfolding read_beginners
also_read {text} {table} {n} r = record {
  reads = λ z.
      let same = further_same (λ (d : Content). beginners_tests d.counts d.words) (read_into text table) (sym r.answers ∙ z) in
      record { answers = r.answers ∙ ap number_of same; returns = r.returns ∙ ap (leaves _ zeros) same; fills = r.fills ∙ ap (leaves _ table) same };
}
