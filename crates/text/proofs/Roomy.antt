-- What a reader answers where the lent table has room for any circuit: the refusal of its text alone, or a table that opens with the circuit. Assumes nothing.
use mathlib.Core.Path.{◌≡◌, refl, ap, sym, ◌∙◌}
use mathlib.Core.List.{List}
use Prim.Native.Nat.{ℕ, ◌≤◌}
use native.Mathlib.Omega.{arith}
use lib.ListN.{length}
use Rattle.circuit.specs.declared.Counts.{Counts}
use Rattle.circuit.specs.Table.{table_length}
use Rattle.text.specs.Outcome.{Outcome, accepted, refused, number_of, leaves}
use Rattle.text.specs.Text.{Content}
use Rattle.text.specs.Calls.{into_table, zeros, ReadBy}
use Rattle.text.proofs.Answers.{read_stops, read_fits}
use Rattle.text.proofs.Tables.{taken}
use Rattle.text.proofs.Numbers.{HasNumber}
use Rattle.text.proofs.RoundTrip.{Kept, Carries, kept_carries}

-- the words of the largest circuit: 2 for each latch, 1 for each lamp, 2 for each gate
abbrev pub most_words : ℕ
most_words = 7870

-- An outcome that is a circuit, and a table that opens with it
pub record Read (o : Outcome Content) (counts : Counts) (table : List ℕ) : Type 0 where
  pub content : Content
  pub is : o ≡ accepted content
  pub counts_are : counts ≡ content.counts
  pub carries : Carries content table

module _ (o : Outcome Content) (numbered : HasNumber o) (kept : (c : Content) → o ≡ accepted c → Kept c) (table : List ℕ) (room : most_words ≤ length table) where
  words_fit : {c : Content} → o ≡ accepted c → table_length c.counts ≤ length table
  words_fit {c} e = omega (arith, room, (taken c.counts c.words (kept c e).legal).bounded)

  fits : {c : Content} → o ≡ accepted c → into_table table o ≡ accepted c
  fits e = read_fits table e (words_fit e)

  module _ {number : ℕ} {counts : Counts} {table' : List ℕ} (reading : ReadBy (into_table table o) table number counts table') where
    pub roomy_refused : (number ≡ 0 → ⊥) → o ≡ refused number
    unfolding number_of
    roomy_refused h = go o refl
      where
        go : (p : Outcome Content) → o ≡ p → o ≡ refused number
        go (accepted c) e = absurd (h (reading.answers ∙ ap number_of (fits e)))
        go (refused n) e = e ∙ ap refused (sym (reading.answers ∙ ap number_of (read_stops table e)))

    pub roomy_accepted : number ≡ 0 → Read o counts table'
    unfolding number_of leaves
    roomy_accepted z = go o refl
      where
        go : (p : Outcome Content) → o ≡ p → Read o counts table'
        go (accepted c) e = record {
          content = c;
          is = e;
          counts_are = reading.returns ∙ ap (leaves _ zeros) (fits e);
          carries = rw (reading.fills ∙ ap (leaves _ table) (fits e)) (kept_carries (kept c e) table (words_fit e));
        }
        go (refused n) e =
            let some : 1 ≤ n = rw e at numbered in
            absurd (omega (arith, some, z, reading.answers ∙ ap number_of (read_stops table e)))
