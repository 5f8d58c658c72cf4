-- The binary reader's differences and gates: what each return says of the text from a position on. Assumes nothing.
use mathlib.Core.Path.{◌≡◌, ◌∙◌}
use mathlib.Core.Bool.{false}
use mathlib.Core.List.{List}
use Prim.Native.Nat.{ℕ, ◌+◌, ◌*◌, ◌-◌, ◌≤◌, ◌<◌}
use native.Mathlib.Omega.{arith}
use borrow.Author.Tests.{le-leb, lt-leb, lt-ltb, le-ltb}
use lib.ListN.{length, get_or}
use Rattle.three.proofs.Lists.{by_test}
use Rattle.circuit.specs.Refusal.{refusal}
use Rattle.circuit.proofs.Refusals.{stops, past, none}
use Rattle.text.specs.Part.{got, ill}
use Rattle.text.proofs.Outcomes.{tested_stops, tested_past}
use Rattle.lines.specs.LinesInCode.{from}
use Rattle.lines.proofs.Numbers.{from_end, from_byte}
use Rattle.binary.specs.Difference.{last_group, read_second, read_difference}
use Rattle.binary.specs.Gate.{read_gate, gate_tests, operands}
use Rattle.binary.specs.Binary.{read_gate_row}
use Rattle.binary.proofs.Differences.{last_bounds, bounds_last, difference_none, difference_one, difference_more, second_none, second_last, second_other}
use Rattle.binary.proofs.Gates.{first_ill, second_ill, both_read}
use Rattle.std.specs.Prelude.{Some, None, Ok, Err}
use Rattle.circuit.specs.declared.Refusal.TheVariants.{OperandNotBelow, Difference}
use Rattle.lines.specs.declared.Number.{Number}
use Rattle.binary_reader.specs.declared.ReadGate.{ReadGate}
use Rattle.binary_reader.specs.BinaryReaderInCode.{difference_part, difference_end, DifferenceFound, gate_part, gate_end, GateFound, RowFound}

-- ---- a difference

module _ (text : List ℕ) (at : ℕ) where
  ill_found : read_difference (from text at) ≡ ill → DifferenceFound text (read_difference (from text at)) None
  unfolding difference_part difference_end
  ill_found e = record { reads = e; within = omega arith }

  pub found_beyond : length text ≤ at → DifferenceFound text (read_difference (from text at)) None
  found_beyond h = ill_found (rw (from_end text at h) difference_none)

  module _ (h : at < length text) where
    pub found_one : get_or text at 0 < 128 → DifferenceFound text (read_difference (from text at)) (Some (record { value = get_or text at 0; next = at + 1 }))
    unfolding difference_part difference_end
    found_one b = record { reads = rw (from_byte text at h) (difference_one _ _ b); within = omega arith }

    module _ (b : 128 ≤ get_or text at 0) where
      more : read_difference (from text at) ≡ read_second (get_or text at 0 - 128) (from text (at + 1))
      more = rw (from_byte text at h) (difference_more _ _ b)

      pub found_cut : length text ≤ at + 1 → DifferenceFound text (read_difference (from text at)) None
      found_cut k = ill_found (more ∙ rw (from_end text (at + 1) k) (second_none _))

      module _ (k : at + 1 < length text) where
        not_last : last_group (get_or text (at + 1) 0) ≡ false → DifferenceFound text (read_difference (from text at)) None
        not_last e = ill_found (more ∙ rw (from_byte text (at + 1) k) (second_other _ _ _ e))

        pub found_zero : get_or text (at + 1) 0 ≡ 0 → DifferenceFound text (read_difference (from text at)) None
        found_zero z = not_last (by_test (last_group (get_or text (at + 1) 0)) (λ e. absurd (omega (arith, last_bounds (get_or text (at + 1) 0) e))) (λ e. e))

        pub found_long : 128 ≤ get_or text (at + 1) 0 → DifferenceFound text (read_difference (from text at)) None
        found_long l = not_last (by_test (last_group (get_or text (at + 1) 0)) (λ e. absurd (omega (arith, last_bounds (get_or text (at + 1) 0) e))) (λ e. e))

        pub found_two : (get_or text (at + 1) 0 ≡ 0 → ⊥) → get_or text (at + 1) 0 < 128
            → DifferenceFound text (read_difference (from text at)) (Some (record { value = get_or text at 0 - 128 + get_or text (at + 1) 0 * 128; next = at + 2 }))
        unfolding difference_part difference_end
        found_two z l =
            let e : at + 1 + 1 ≡ at + 2 = omega arith in
            record { reads = more ∙ rw (from_byte text (at + 1) k, second_last (get_or text at 0 - 128) (get_or text (at + 1) 0) (from text (at + 1 + 1)) (bounds_last _ (omega arith) l), e); within = omega arith }

-- ---- a gate: both differences

module _ (text : List ℕ) (at : ℕ) where
  pub gate_none : DifferenceFound text (read_difference (from text at)) None → GateFound text (read_gate (from text at)) None
  unfolding difference_part gate_part gate_end
  gate_none f = record { reads = first_ill _ f.reads; within = omega arith }

  module _ {first : Number} (f : DifferenceFound text (read_difference (from text at)) (Some first)) where
    one : read_difference (from text at) ≡ got first.value (from text first.next)
    unfolding difference_part
    one = f.reads

    pub gate_half : DifferenceFound text (read_difference (from text first.next)) None → GateFound text (read_gate (from text at)) None
    unfolding difference_part gate_part gate_end
    gate_half g = record { reads = second_ill _ one g.reads; within = omega arith }

    pub gate_both : {second : Number} → DifferenceFound text (read_difference (from text first.next)) (Some second)
        → GateFound text (read_gate (from text at)) (Some (record { first = first.value; second = second.value; next = second.next }))
    unfolding difference_part difference_end gate_part gate_end
    gate_both g = record { reads = both_read _ one g.reads; within = g.within }

-- ---- a gate: 26, then 7

module _ (text : List ℕ) (at own : ℕ) where
  pub row_ill : GateFound text (read_gate (from text at)) None → RowFound text own (read_gate_row own (from text at)) (Err Difference)
  unfolding gate_part read_gate_row
  row_ill f = record { reads = rw (read_gate_row, f.reads); within = omega arith; left = omega arith; right = omega arith }

  module _ {g : ReadGate} (f : GateFound text (read_gate (from text at)) (Some g)) where
    both : read_gate (from text at) ≡ got (record { first = g.first; second = g.second }) (from text g.next)
    unfolding gate_part
    both = f.reads

    stopped : 7 ≡ refusal (gate_tests own (record { first = g.first; second = g.second })) → RowFound text own (read_gate_row own (from text at)) (Err OperandNotBelow)
    unfolding read_gate_row
    stopped h = record { reads = rw (read_gate_row, both) (tested_stops (gate_tests own (record { first = g.first; second = g.second })) _ h); within = omega arith; left = omega arith; right = omega arith }

    pub row_zero : g.first ≡ 0 → RowFound text own (read_gate_row own (from text at)) (Err OperandNotBelow)
    unfolding gate_tests
    row_zero z = stopped (stops _ _ (le-ltb 0 g.first (omega arith)))

    pub row_over : (g.first ≡ 0 → ⊥) → own < g.first → RowFound text own (read_gate_row own (from text at)) (Err OperandNotBelow)
    unfolding gate_tests
    row_over z o = stopped (past _ _ (lt-ltb 0 g.first (omega arith)) (stops _ _ (lt-leb g.first own o)))

    pub row_second : (g.first ≡ 0 → ⊥) → g.first ≤ own → own - g.first < g.second → RowFound text own (read_gate_row own (from text at)) (Err OperandNotBelow)
    unfolding gate_tests
    row_second z o s = stopped (past _ _ (lt-ltb 0 g.first (omega arith)) (past _ _ (le-leb g.first own o) (stops _ _ (lt-leb g.second (own - g.first) s))))

    pub row_given : (g.first ≡ 0 → ⊥) → g.first ≤ own → g.second ≤ own - g.first
        → RowFound text own (read_gate_row own (from text at)) (Ok (record { left = own - g.first; right = own - g.first - g.second; next = g.next }))
    unfolding read_gate_row gate_tests operands gate_end
    row_given z o s = record {
      reads = rw (read_gate_row, both) (tested_past (gate_tests own (record { first = g.first; second = g.second })) _
          (past _ _ (lt-ltb 0 g.first (omega arith)) (past _ _ (le-leb g.first own o) (past _ _ (le-leb g.second (own - g.first) s) none))));
      within = f.within;
      left = omega arith;
      right = omega arith;
    }
