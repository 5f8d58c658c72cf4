-- The five wrong versions that the specification (8.2) names: the contracts of chain and judge allow none of them on the
-- witness circuit, over a cube buffer of 64 bytes and buffers of two for verdict and settled record, each of any content. Assumes nothing.
use mathlib.Core.Path.{◌≡◌, refl, sym, ap, ◌∙◌}
use mathlib.Core.List.{List, [], ◌∷◌}
use Prim.Native.Nat.{ℕ}
use native.Mathlib.Omega.{arith}
use lib.ListN.{get_or}
use Rattle.three.specs.Lists.{tabulate, over}
use Rattle.three.specs.Value.{Three, unknown, code, decode}
use Rattle.three.specs.Cube.{Cube}
use Rattle.three.specs.Record.{pairs, pair_at, unpack}
use Rattle.cubes.specs.Buffer.{cube_bytes, cube_of, cube_in}
use Rattle.witness.specs.Answer.{RunAnswer, Runs, answer_in, Sized, zeroed}
use Rattle.witness.specs.Computed.{computed}
use Rattle.witness.specs.Witness.{counts, words, witness, other, right, right_other}
use Rattle.witness.proofs.Answers.{Answers, runs_answers, answer_zeroed}

-- ---- what the contract gives, computed over zeros

witness_answer : answer_in (zeroed counts (words 6 7 4) 0 64) ≡ right
unfolding computed
witness_answer = refl

other_answer : answer_in (zeroed counts (words 4 6 7) 0 64) ≡ right_other
unfolding computed
other_answer = refl

abbrev first_byte : List ℕ → ℕ
first_byte buffer = get_or buffer 0 0

-- ---- over any buffers of those lengths

module _ {cubes₀ verdict₀ settled₀ : List ℕ} (sized : Sized 64 (witness cubes₀ verdict₀ settled₀)) where
  module _ {r : RunAnswer} {cubes verdict settled : List ℕ} (runs : Runs (witness cubes₀ verdict₀ settled₀) r cubes verdict settled) where
    pub as_right : Answers (witness cubes₀ verdict₀ settled₀) r cubes verdict settled right
    as_right = rw (answer_zeroed 64 (witness cubes₀ verdict₀ settled₀) sized ∙ witness_answer) at (runs_answers runs)

    -- "one refusing everything": a number other than 0
    pub refuses_everything : (r.number ≡ 0 → ⊥) → ⊥
    refuses_everything h = h as_right.number

    -- "one returning a constant verdict": the same for each lamp
    pub constant_verdict : (v : Three) → unpack 3 verdict ≡ v ∷ v ∷ v ∷ [] → ⊥
    unfolding unpack tabulate pair_at pairs decode code over
    constant_verdict v e =
        let lamp : (i : ℕ) → code (get_or (unpack 3 (over (0x60 ∷ []) verdict₀)) i unknown) ≡ code (get_or (v ∷ v ∷ v ∷ []) i unknown) =
        λ i. ap (λ (l : Cube). code (get_or l i unknown)) (ap (unpack 3) (sym as_right.verdict) ∙ e) in
        let never : 1 ≡ code v = lamp 0 in
        let always : 2 ≡ code v = lamp 1 in
        omega arith

    -- or the same byte for this circuit and for another
    pub constant_byte : {cubes₁ verdict₁ settled₁ : List ℕ} → Sized 64 (other cubes₁ verdict₁ settled₁)
        → {r' : RunAnswer} {cubes' verdict' settled' : List ℕ} → Runs (other cubes₁ verdict₁ settled₁) r' cubes' verdict' settled'
        → first_byte verdict ≡ first_byte verdict' → ⊥
    unfolding over
    constant_byte {cubes₁} {verdict₁} {settled₁} sized₁ {r'} {cubes'} {verdict'} {settled'} runs' e =
        let as_other : Answers (other cubes₁ verdict₁ settled₁) r' cubes' verdict' settled' right_other =
        rw (answer_zeroed 64 (other cubes₁ verdict₁ settled₁) sized₁ ∙ other_answer) at (runs_answers runs') in
        let one : first_byte verdict ≡ 0x60 = ap first_byte as_right.verdict in
        let two : first_byte verdict' ≡ 0x18 = ap first_byte as_other.verdict in
        omega arith

    -- "one writing nothing": a buffer is left as it was, and did not hold the right byte before
    pub writes_no_cube : (first_byte cubes₀ ≡ 0x55 → ⊥) → cubes ≡ cubes₀ → ⊥
    unfolding over
    writes_no_cube h e = h (ap first_byte (sym e ∙ as_right.cubes))

    pub writes_no_verdict : (first_byte verdict₀ ≡ 0x60 → ⊥) → verdict ≡ verdict₀ → ⊥
    unfolding over
    writes_no_verdict h e = h (ap first_byte (sym e ∙ as_right.verdict))

    pub writes_no_settled : (first_byte settled₀ ≡ 0x86 → ⊥) → settled ≡ settled₀ → ⊥
    unfolding over
    writes_no_settled h e = h (ap first_byte (sym e ∙ as_right.settled))

    -- "one that computes cube 1 and then repeats it": cube 2 is cube 1
    pub repeats_cube_1 : cube_in 4 cubes 2 ≡ cube_in 4 cubes 1 → ⊥
    unfolding cube_in cube_of cube_bytes unpack tabulate pair_at pairs decode code over
    repeats_cube_1 e =
        let latch_1 : Cube → ℕ = λ l. code (get_or l 1 unknown) in
        let off : latch_1 (cube_in 4 cubes 2) ≡ 1 = ap (λ (l : List ℕ). latch_1 (cube_in 4 l 2)) as_right.cubes in
        let on : latch_1 (cube_in 4 cubes 1) ≡ 2 = ap (λ (l : List ℕ). latch_1 (cube_in 4 l 1)) as_right.cubes in
        let same : latch_1 (cube_in 4 cubes 2) ≡ latch_1 (cube_in 4 cubes 1) = ap latch_1 e in
        omega arith

    -- "one inventing n, j or s"
    pub invents_n : (r.cubes ≡ 4 → ⊥) → ⊥
    invents_n h = h as_right.n

    pub invents_j : (r.back ≡ 2 → ⊥) → ⊥
    invents_j h = h as_right.j

    pub invents_s : (r.settled ≡ 3 → ⊥) → ⊥
    invents_s h = h as_right.s
