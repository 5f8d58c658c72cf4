-- Marks do not count: cubes that differ in their marks alone pass the same tests, and the judge answers the same. Assumes nothing.
use mathlib.Core.Path.{◌≡◌, refl, sym, ap, ap₂, ◌∙◌}
use mathlib.Core.Bool.{Bool, true, false, not}
use mathlib.Core.List.{List, [], ◌∷◌, ◌++◌}
use Prim.Native.Nat.{ℕ, zero, suc, ◌/◌, ◌<◌}
use native.Mathlib.Omega.{arith}
use lib.Dec.{leb}
use Rattle.three.specs.Cube.{Cube, subsumes}
use Rattle.three.proofs.First.{first_ext}
use Rattle.three.proofs.Lists.{iff, every_ext}
use Rattle.circuit.specs.declared.Counts.{Counts}
use Rattle.circuit.specs.Circuit.{Circuit}
use Rattle.circuit.specs.Refusal.{Test, ◌or◌, refusal}
use Rattle.circuit.specs.Table.{board_tests}
use Rattle.cubes.specs.declared.JudgeAnswer.{JudgeAnswer}
use Rattle.cubes.specs.Run.{blocked, next_cube, start, Found, at, nowhere, search}
use Rattle.cubes.specs.Buffer.{cube_bytes, Remarked}
use Rattle.cubes.specs.Chain.{room_in}
use Rattle.cubes.specs.Given.{cube_tests, covered, next_covered, cover_tests, first_uncovered, is_chain}
use Rattle.cubes.specs.Judge.{JudgeGiven, circuit_in, cubes_in, result_tests, judge_tests, verdict_fields, settled_fields, Judged}
use Rattle.cubes.proofs.Buffered.{verdict_same, settled_same}
use Rattle.cubes.proofs.Chains.{chain_same}

pub cube_tests_unmarked : (c : Counts) {n : ℕ} {buffer other : List ℕ} → Remarked c.latches n buffer other → cube_tests c buffer n ≡ cube_tests c other n
unfolding cube_tests room_in
cube_tests_unmarked c {n} alike = λ i. leb n (alike.long i / cube_bytes c.latches) or 10 ∷ alike.good i or 14 ∷ []

-- ---- a cover looks at the first n cubes alone

search_same : (f f' : ℕ → Cube) (b : Cube) (n : ℕ) → ((k : ℕ) → k < n → f k ≡ f' k) → search f n b ≡ search f' n b
unfolding search
search_same f f' b zero same = refl
search_same f f' b (suc n) same =
    ap₂ (λ (s : Found) (t : Bool). elim s [ at j ↦ at j | nowhere ↦ elim t [ true ↦ at n | false ↦ nowhere ] ])
    (search_same f f' b n (λ k h. same k (omega arith)))
    (ap (λ (v : Cube). subsumes v b) (same n (omega arith)))

module _ (c : Circuit) (f f' : ℕ → Cube) (n : ℕ) (same : (k : ℕ) → k < n → f k ≡ f' k) where
  covered_same : (b : Cube) → covered c f n b ≡ covered c f' n b
  unfolding covered
  covered_same b = ap (λ (s : Found). elim s [ at k ↦ true | nowhere ↦ blocked c b ]) (search_same f f' b n same)

  next_covered_same : (k : ℕ) → k < n → next_covered c f n k ≡ next_covered c f' n k
  unfolding next_covered
  next_covered_same k h = covered_same (next_cube c (f k)) ∙ ap (λ (v : Cube). covered c f' n (next_cube c v)) (same k h)

  pub cover_tests_same : cover_tests c f n ≡ cover_tests c f' n
  unfolding cover_tests
  cover_tests_same =
      ap₂ (λ (s t : Bool). s or 17 ∷ t or 18 ∷ []) (covered_same (start c)) (every_ext n (next_covered c f n) (next_covered c f' n) next_covered_same)

  pub uncovered_same : first_uncovered c f n ≡ first_uncovered c f' n
  unfolding first_uncovered
  uncovered_same = first_ext n _ _ (λ k h. ap not (next_covered_same k h))

-- ---- the judge

module _ (g : JudgeGiven) (other : List ℕ) (alike : Remarked g.counts.latches g.n g.cubes other) where
  abbrev pub remarked : JudgeGiven
  remarked = record { counts = g.counts; table = g.table; cubes = other; n = g.n; j = g.j; verdict = g.verdict; settled = g.settled }

  chain_unmarked : is_chain (circuit_in g) (cubes_in g) g.n g.j ≡ is_chain (circuit_in remarked) (cubes_in remarked) g.n g.j
  unfolding circuit_in cubes_in
  chain_unmarked = iff _ _ (chain_same _ _ _ g.n g.j alike.same) (chain_same _ _ _ g.n g.j (λ k h. sym (alike.same k h)))

  tests_unmarked : judge_tests g ≡ judge_tests remarked
  unfolding judge_tests result_tests
  tests_unmarked = ap₂ (λ (ts : List Test) (t : Bool). board_tests g.counts g.table ++ (ts ++ (t or 19 ∷ result_tests g))) (cube_tests_unmarked g.counts alike) chain_unmarked

  verdict_unmarked : verdict_fields g ≡ verdict_fields remarked
  unfolding verdict_fields circuit_in cubes_in
  verdict_unmarked = verdict_same _ _ _ g.n alike.same

  settled_unmarked : settled_fields g ≡ settled_fields remarked
  unfolding settled_fields circuit_in cubes_in
  settled_unmarked = settled_same _ _ _ g.n alike.same g.j

  pub judge_unmarked : {r r' : JudgeAnswer} {verdict verdict' settled settled' : List ℕ} → Judged g r verdict settled → Judged remarked r' verdict' settled'
      → (r.number ≡ r'.number) × (r.settled ≡ r'.settled) × (verdict ≡ verdict') × (settled ≡ settled')
  judge_unmarked s t =
      let number = s.answers ∙ ap refusal tests_unmarked ∙ sym t.answers in
      (number, cc (number, settled_unmarked, s.settles, t.settles), cc (number, verdict_unmarked, s.fills_verdict, t.fills_verdict), cc (number, settled_unmarked, s.fills_settled, t.fills_settled))
