-- From what is decided, in the order of the refusals, to the contracts of the two calls. Assumes nothing.
use mathlib.Core.Path.{◌≡◌, refl, sym, ap, ◌∙◌}
use mathlib.Core.List.{List, []}
use Prim.Native.Nat.{ℕ, suc, ◌≤◌, ◌<◌}
use borrow.Author.Tests.{le-leb, lt-leb}
use lib.ListN.{length}
use Rattle.three.specs.Lists.{over}
use Rattle.circuit.specs.declared.Counts.{Counts}
use Rattle.circuit.specs.Refusal.{refusal, left_by as afterwards}
use Rattle.circuit.specs.Table.{table_length, circuit_tests}
use Rattle.circuit.proofs.Refusals.{none_past, none_append, stops, past, none, refusal_append}
use Rattle.text.specs.Outcome.{Outcome, accepted, refused, number_of, further, leaves}
use Rattle.text.specs.Text.{Content}
use Rattle.text.specs.Calls.{into_table, zeros, ReadBy, putting_tests, WrittenBy}
use Rattle.text.proofs.Outcomes.{tested_stops, tested_past}
use Rattle.circuit.proofs.Legality.{circuit_numbered}

-- ---- the reader

module _ (table : List ℕ) where
  pub read_stops : {o : Outcome Content} {n : ℕ} → o ≡ refused n → into_table table o ≡ refused n
  unfolding into_table further
  read_stops e = ap (further _) e

  pub read_short : {o : Outcome Content} {c : Content} → o ≡ accepted c → length table < table_length c.counts → into_table table o ≡ refused 10
  unfolding into_table further
  read_short {c = c} e h = ap (further _) e ∙ tested_stops _ (accepted c) (stops _ [] (lt-leb _ _ h))

  pub read_fits : {o : Outcome Content} {c : Content} → o ≡ accepted c → table_length c.counts ≤ length table → into_table table o ≡ accepted c
  unfolding into_table further
  read_fits {c = c} e h = ap (further _) e ∙ tested_past _ (accepted c) (past _ [] (le-leb _ _ h) none)

  pub reading_refused : {o : Outcome Content} {n : ℕ} → o ≡ refused n → ReadBy o table n zeros table
  unfolding number_of leaves
  reading_refused e = record { answers = ap number_of (sym e); returns = ap (leaves _ zeros) (sym e); fills = ap (leaves _ table) (sym e) }

  pub reading_accepted : {o : Outcome Content} {c : Content} → o ≡ accepted c → ReadBy o table 0 c.counts (over c.words table)
  unfolding number_of leaves
  reading_accepted e = record { answers = ap number_of (sym e); returns = ap (leaves _ zeros) (sym e); fills = ap (leaves _ table) (sym e) }

-- ---- the writer of some bytes

module _ (c : Counts) (table written buffer : List ℕ) where
  pub write_stops : {k : ℕ} → refusal (circuit_tests c table) ≡ suc k → suc k ≡ refusal (putting_tests c table written buffer)
  unfolding putting_tests
  write_stops e = refusal_append (circuit_tests c table) _ e

  module _ (legal : 0 ≡ refusal (circuit_tests c table)) where
    pub write_short : length buffer < length written → 10 ≡ refusal (putting_tests c table written buffer)
    unfolding putting_tests
    write_short h = none_past (circuit_tests c table) _ (circuit_numbered c table) legal (stops _ [] (lt-leb _ _ h))

    pub write_fits : length written ≤ length buffer → 0 ≡ refusal (putting_tests c table written buffer)
    unfolding putting_tests
    write_fits h = none_past (circuit_tests c table) _ (circuit_numbered c table) legal (past _ [] (le-leb _ _ h) none)

  pub write_legal : 0 ≡ refusal (putting_tests c table written buffer) → 0 ≡ refusal (circuit_tests c table)
  unfolding putting_tests
  write_legal e = (none_append (circuit_tests c table) _ (circuit_numbered c table) e).0

  pub writing_refused : {k : ℕ} → suc k ≡ refusal (putting_tests c table written buffer) → WrittenBy c table written buffer (suc k) 0 buffer
  unfolding afterwards
  writing_refused e = record { answers = e; returns = refl; fills = refl }

  pub writing_accepted : 0 ≡ refusal (putting_tests c table written buffer) → WrittenBy c table written buffer 0 (length written) (over written buffer)
  unfolding afterwards
  writing_accepted e = record { answers = e; returns = refl; fills = refl }
