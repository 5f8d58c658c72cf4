-- A lamp that is judged never or always is known in every cube. Assumes nothing.
use mathlib.Core.Path.{◌≡◌, refl, sym, ap, ◌∙◌}
use mathlib.Core.Bool.{true, false≢true}
use mathlib.Core.List.{List, map, map-append}
use Prim.Native.Nat.{ℕ, zero, suc, ◌<◌}
use native.Mathlib.Omega.{arith}
use lib.ListN.{length, get_or, length-map, get_or-append}
use Rattle.three.specs.Value.{Three, unknown, low, high, code, decode, ternary}
use Rattle.three.specs.Cube.{Cube, alike, allows, subsumes}
use Rattle.three.proofs.Lists.{every_at}
use Rattle.three.proofs.Merge.{subsumes_every}
use Rattle.circuit.specs.declared.Counts.{Counts}
use Rattle.circuit.specs.Circuit.{Circuit, value, settle, readings}
use Rattle.circuit.specs.Table.{verdicts, circuit_of}
use Rattle.cubes.specs.Run.{switches_unknown, lamps_in, watched, watched_in, verdict}
use Rattle.cubes.proofs.Wider.{merge_from_covers}
use Rattle.cubes.proofs.Buffered.{literals_counted, watched_counted, verdict_sized}
use Rattle.asked.specs.Call.{lamp_in}
use Rattle.reasons.specs.Reasons.{is_known}

pub known_field : (field : ℕ) → (field ≡ 0 → ⊥) → is_known (decode field) ≡ true
unfolding is_known alike code decode
known_field zero h = absurd (h refl)
known_field (suc zero) h = refl
known_field (suc (suc n)) h = refl

not_unknown : (v : Three) → is_known v ≡ true → v ≡ unknown → ⊥
unfolding is_known alike code
not_unknown v t e = false≢true (rw e at t)

allows_unknown : (v : Three) → allows v unknown ≡ true → v ≡ unknown
unfolding allows alike code
allows_unknown unknown t = refl
allows_unknown low t = absurd (false≢true t)
allows_unknown high t = absurd (false≢true t)

-- a lamp's value in a cube, among all that get verdicts
lamp_among : (c : Circuit) (a : Cube) (i : ℕ) → i < length c.lamps → get_or (watched_in c a) i unknown ≡ lamp_in c a i
unfolding lamp_in lamps_in watched_in watched readings
lamp_among c a i h =
    let read : ℕ → Three = value ternary (settle ternary c (switches_unknown c) a) in
    ap (λ (v : Cube). get_or v i unknown) (map-append read c.lamps c.bads)
    ∙ get_or-append (map read c.lamps) (map read c.bads) unknown i (rw length-map h)

module _ (counts : Counts) (table : List ℕ) (cubes : ℕ → Cube) (n lamp : ℕ) (is_lamp : lamp < counts.lamps) where
  abbrev c : Circuit
  c = circuit_of counts table

  -- a lamp that is judged never or always is known in every cube
  pub known_in : is_known (get_or (verdict c cubes n) lamp unknown) ≡ true → (k : ℕ) → k < n → lamp_in c (cubes k) lamp ≡ unknown → ⊥
  unfolding verdict
  known_in t k h e =
      let sized : length (verdict c cubes n) ≡ verdicts counts = verdict_sized counts table cubes n in
      let covers : subsumes (verdict c cubes n) (watched_in c (cubes k)) ≡ true = merge_from_covers _ (λ i. watched_in c (cubes i)) _ (λ i. watched_counted counts table (cubes i)) 0 n k (omega arith) (omega arith) in
      let each = sym (subsumes_every (verdict c cubes n) (watched_in c (cubes k)) (sized ∙ sym (watched_counted counts table (cubes k)))) ∙ covers in
      let here = lamp_among c (cubes k) lamp (rw (literals_counted counts table) is_lamp) in
      not_unknown _ t (allows_unknown _ (rw (here ∙ e) at (every_at _ _ each lamp (omega (arith, sized)))))
