-- The lamp's value as the working table has it, and the call behind 23. Assumes nothing.
use mathlib.Core.Path.{◌≡◌, refl, sym, ap, ◌∙◌}
use mathlib.Core.List.{List}
use Prim.Native.Nat.{ℕ, ◌+◌, ◌/◌, ◌<◌, ◌≤◌}
use native.Mathlib.Omega.{arith}
use lib.ListN.{length, get_or}
use Rattle.three.specs.Lists.{over}
use Rattle.three.specs.Value.{unknown, low, code, ternary}
use Rattle.three.specs.Record.{bytes_for, pack, unpack}
use Rattle.three.proofs.GateRule.{code_unknown}
use Rattle.three.proofs.Pack.{length_unpack}
use Rattle.circuit.specs.declared.Counts.{Counts}
use Rattle.circuit.specs.Circuit.{value}
use Rattle.circuit.specs.Refusal.{refusal}
use Rattle.circuit.specs.Table.{top, literals_at, circuit_of, circuit_tests}
use Rattle.circuit.specs.RulesInCode.{Legal}
use Rattle.circuit.proofs.LiteralValue.{value_unknown as literal_unknown, value_known as literal_known}
use Rattle.circuit.proofs.Refusals.{refused_old, accepted_new}
use Rattle.pass.specs.ValuesInCode.{values_of, Begins}
use Rattle.asked.specs.Follow.{values_in, forcing}
use Rattle.asked.specs.Call.{lamp_in, lamp_literal, given_tests, why_fields, WhyGiven, Explained}
use Rattle.asked.proofs.Circuits.{literal_word, lamp_read}
use Rattle.asked.proofs.Refusing.{value_unknown, why_short, answer_passes, answer_decides}
use Rattle.why.specs.MarksInCode.{Answered}
use Rattle.why.proofs.Explaining.{value_at}

module _ (c : Counts) (table : List ℕ) (lamp : ℕ) (legal : Legal c table) (h : lamp < c.lamps) (at : ℕ) (place : at ≡ literals_at c) (x : ℕ) (read : x ≡ get_or table (at + lamp) 0) where
  literal_is : lamp_literal (circuit_of c table) lamp ≡ x
  literal_is = literal_word c table lamp h ∙ ap (λ n. get_or table (n + lamp) 0) (sym place) ∙ sym read

  pub lamp_within : x ≤ top c
  lamp_within = rw (read, place) (legal.literal lamp (omega arith))

  pub lamp_small : x < 8192
  lamp_small = omega (arith, lamp_within, legal.bounded)

  module _ (state values : List ℕ) (begins : Begins values (values_in (circuit_of c table) (unpack c.latches state))) where
    lamp_value : lamp_in (circuit_of c table) (unpack c.latches state) lamp ≡ value ternary (values_of values) x
    lamp_value =
        lamp_read c table lamp h (unpack c.latches state)
        ∙ ap (value ternary (values_in (circuit_of c table) (unpack c.latches state))) literal_is
        ∙ sym (value_at c table legal (unpack c.latches state) (length_unpack c.latches state) values begins x lamp_within)

    module _ (v : ℕ) (e : v ≡ code (get_or (values_of values) (x / 2) low)) where
      pub lamp_known : (v ≡ 0 → ⊥) → value ternary (values_of values) x ≡ unknown → ⊥
      unfolding code
      lamp_known d u = d (e ∙ ap code (literal_known (values_of values) x u))

      module _ (why : List ℕ) where
        pub answer_unknown : v ≡ 0 → Answered c table state lamp why 24 why
        answer_unknown z = record {
          number_is = value_unknown c table state lamp (length why) (lamp_value ∙ literal_unknown (values_of values) x (code_unknown _ (sym e ∙ z)));
          fills = refused_old 24 _ _ (λ q. omega arith);
        }

        pub answer_short : (v ≡ 0 → ⊥) → length why < bytes_for c.latches → Answered c table state lamp why 10 why
        answer_short d l = record {
          number_is = why_short c table state lamp (length why) (λ u. lamp_known d (sym lamp_value ∙ u)) l;
          fills = refused_old 10 _ _ (λ q. omega arith);
        }

        pub answer_done : (v ≡ 0 → ⊥) → bytes_for c.latches ≤ length why → {why' : List ℕ} → why' ≡ over (pack (forcing (circuit_of c table) (unpack c.latches state) x)) why
            → Answered c table state lamp why 0 why'
        unfolding why_fields
        answer_done d l same = record {
          number_is = answer_passes c table state lamp (length why) (λ u. lamp_known d (sym lamp_value ∙ u)) l;
          fills = same ∙ ap (λ (y : ℕ). over (pack (forcing (circuit_of c table) (unpack c.latches state) y)) why) (sym literal_is) ∙ accepted_new 0 _ _ refl;
        }

pub answered : (g : WhyGiven) → 0 ≡ refusal (circuit_tests g.counts g.table) → 0 ≡ refusal (given_tests g.counts g.state g.lamp)
    → {k : ℕ} {why : List ℕ} → Answered g.counts g.table g.state g.lamp g.why k why → Explained g k why
answered g circuit_passes given_passes a = record { answers = answer_decides g circuit_passes given_passes a.number_is; fills = a.fills }
