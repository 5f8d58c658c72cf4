-- The tick's table of truth: on one circuit whatever the contract allows is, for all values of two switches x and y and a latch z, the gate rule of what the literals
-- name. So a constant is no X, each operand is read, odd literals invert, switches and latches have their own places, and X with its inverse is not 0. Assumes nothing.
use mathlib.Core.Path.{◌≡◌, refl, sym, ap, ap₂, ◌∙◌}
use mathlib.Core.List.{List, [], ◌∷◌}
use Prim.Native.Nat.{ℕ, ◌≤◌}
use native.Mathlib.Omega.{arith}
use lib.ListN.{length, get_or}
use Rattle.three.specs.Lists.{tabulate, over}
use Rattle.three.specs.Value.{Three, unknown, low, high, both, inverse, ternary}
use Rattle.three.specs.Cube.{Cube}
use Rattle.three.specs.Record.{pack, unpack}
use Rattle.three.specs.RecordInCode.{IsRecord}
use Rattle.three.proofs.Pack.{length_pack, unpack_pack, unpack_over}
use Rattle.three.proofs.Soundness.{sound_pack}
use Rattle.circuit.specs.declared.Counts.{Counts}
use Rattle.circuit.specs.Circuit.{signed, value, pass, settle, next, lamps, readings}
use Rattle.circuit.specs.Refusal.{refusal}
use Rattle.circuit.specs.Table.{plain_counts, circuit_of, circuit_tests}
use Rattle.circuit.proofs.Refusals.{accepted_new}
use Rattle.circuit.proofs.Legality.{legal}
use Rattle.tick.specs.Tick.{next_fields, lamp_fields, TickGiven, Ticked}
use Rattle.witness.specs.Computed.{computed}
use Rattle.witness.proofs.Accepted.{tick_accepted}

-- x and not y; z and not that, which z becomes; x and not x. As a text: aag 6 2 1 5 3/2/4/6 10/8/11/12/0/1/8 2 5/10 6 9/12 2 3/
abbrev counts : Counts
counts = plain_counts 2 1 5 3

abbrev words : List ℕ
words = 10 ∷ 0 ∷ 8 ∷ 11 ∷ 12 ∷ 0 ∷ 1 ∷ 2 ∷ 5 ∷ 6 ∷ 9 ∷ 2 ∷ 3 ∷ []

abbrev given : Three → Three → Three → List ℕ → List ℕ → TickGiven
given x y z next lamps = record { counts = counts; table = words; state = pack (z ∷ []); switches = pack (x ∷ y ∷ []); next = next; lamps = lamps }

circuit_taken : 0 ≡ refusal (circuit_tests counts words)
unfolding computed
circuit_taken = refl

packed : (fields : Cube) → IsRecord (length fields) (pack fields)
packed fields = record { fits = omega (arith, length_pack fields); good = sound_pack fields }

module _ (x y z : Three) where
  abbrev gate : Three
  gate = both x (inverse y)

  abbrev lamp_values : Cube
  lamp_values = gate ∷ inverse (both z (inverse gate)) ∷ both x (inverse x) ∷ low ∷ high ∷ []

  next_values : next_fields counts words (pack (z ∷ [])) (pack (x ∷ y ∷ [])) ≡ both z (inverse gate) ∷ []
  unfolding next_fields tabulate ternary signed value pass settle readings circuit_of
  next_values = ap₂ (λ (s t : Cube). next ternary (circuit_of counts words) s t) (unpack_pack (x ∷ y ∷ [])) (unpack_pack (z ∷ []))

  lamp_values_lem : lamp_fields counts words (pack (z ∷ [])) (pack (x ∷ y ∷ [])) ≡ lamp_values
  unfolding lamp_fields tabulate inverse ternary signed value pass settle readings circuit_of
  lamp_values_lem = ap₂ (λ (s t : Cube). lamps ternary (circuit_of counts words) s t) (unpack_pack (x ∷ y ∷ [])) (unpack_pack (z ∷ []))

  module _ (next₀ lamps₀ : List ℕ) (one : 1 ≤ length next₀) (two : 2 ≤ length lamps₀) {number : ℕ} {next' lamps' : List ℕ}
      (ticked : Ticked (given x y z next₀ lamps₀) number next' lamps') where
    pub taken : number ≡ 0
    taken = (tick_accepted (given x y z next₀ lamps₀) ticked).1 (record {
      legal_circuit = legal counts words circuit_taken;
      given_state = packed (z ∷ []);
      given_switches = packed (x ∷ y ∷ []);
      next_fits = one;
      lamps_fit = two;
    })

    pub next_by_the_rule : next' ≡ over (pack (both z (inverse gate) ∷ [])) next₀
    next_by_the_rule = ticked.fills_next ∙ sym (accepted_new number _ _ taken) ∙ ap (λ (v : Cube). over (pack v) next₀) next_values

    pub lamps_by_the_rule : lamps' ≡ over (pack lamp_values) lamps₀
    lamps_by_the_rule = ticked.fills_lamps ∙ sym (accepted_new number _ _ taken) ∙ ap (λ (v : Cube). over (pack v) lamps₀) lamp_values_lem

-- X with its inverse
pub not_dark : (y z : Three) (next₀ lamps₀ : List ℕ) → 1 ≤ length next₀ → 2 ≤ length lamps₀ → {number : ℕ} {next' lamps' : List ℕ}
    → Ticked (given unknown y z next₀ lamps₀) number next' lamps' → get_or (unpack 5 lamps') 2 low ≡ unknown
unfolding both inverse
not_dark y z next₀ lamps₀ one two ticked =
    ap (λ (l : List ℕ). get_or (unpack 5 l) 2 low) (lamps_by_the_rule unknown y z next₀ lamps₀ one two ticked)
    ∙ ap (λ (v : Cube). get_or v 2 low) (unpack_over 5 (lamp_values unknown y z) lamps₀ refl)
