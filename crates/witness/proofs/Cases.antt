-- A case that is computed over zeros holds of every result that the contracts of reader and run allow. Assumes nothing.
use mathlib.Core.Path.{◌≡◌, refl, sym, ap, ap₂, ◌∙◌}
use mathlib.Core.Bool.{true, false≢true}
use mathlib.Core.List.{List, [], ◌∷◌}
use Prim.Native.Nat.{ℕ, ◌≤◌}
use native.Mathlib.Omega.{arith}
use borrow.Author.Tests.{eqb-true, leb-true}
use lib.Dec.{eqb, leb}
use lib.ListN.{length, replicate}
use Rattle.three.specs.Lists.{over}
use Rattle.three.proofs.Lists.{and_parts}
use Rattle.circuit.specs.declared.Counts.{Counts}
use Rattle.circuit.specs.Table.{table_length, circuit_of}
use Rattle.circuit.proofs.Beyond.{circuit_front}
use Rattle.text.specs.Outcome.{Outcome, accepted, refused}
use Rattle.text.specs.Text.{Content, read_text}
use Rattle.text.specs.Bench.{bytes}
use Rattle.text.proofs.Answers.{read_stops, read_fits, reading_refused, reading_accepted}
use Rattle.text.proofs.RoundTrip.{Carries, read_carries}
use Rattle.text.proofs.Determined.{reading_determined}
use Rattle.witness.specs.Answer.{RunGiven, RunAnswer, Answer, answer_in, zeroed}
use Rattle.witness.specs.Case.{Claim, number, n, j, s, cubes, verdict, settled, Case, refuses, runs, Says, SaysAll, RefusedAs, RanAs, Meant, MeantAll, same, holds, hold_all, table_of, refused_with, ran_as, passes, all_pass}
use Rattle.witness.specs.Computed.{computed}
use Rattle.witness.proofs.Answers.{Answers, runs_answers, answer_zeroed, answer_tables}
use Rattle.circuit.proofs.Legality.{board_decides}

-- ---- a claim that is computed

same_equal : (xs ys : List ℕ) → same xs ys ≡ true → xs ≡ ys
unfolding same
same_equal [] [] e = refl
same_equal [] (y ∷ ys) e = absurd (false≢true e)
same_equal (x ∷ xs) [] e = absurd (false≢true e)
same_equal (x ∷ xs) (y ∷ ys) e = let p = and_parts (eqb x y) _ e in ap₂ ◌∷◌ (eqb-true x y p.0) (same_equal xs ys p.1)

module _ {g : RunGiven} {r : RunAnswer} {cubes' verdict' settled' : List ℕ} {a : Answer} (answers : Answers g r cubes' verdict' settled' a) where
  claim_says : (x : Claim) → holds a x ≡ true → Says g r cubes' verdict' settled' x
  unfolding holds
  claim_says (number x) e = answers.number ∙ eqb-true _ _ e
  claim_says (n x) e = answers.n ∙ eqb-true _ _ e
  claim_says (j x) e = answers.j ∙ eqb-true _ _ e
  claim_says (s x) e = answers.s ∙ eqb-true _ _ e
  claim_says (cubes xs) e = answers.cubes ∙ ap (λ (l : List ℕ). over l g.cubes) (same_equal _ _ e)
  claim_says (verdict xs) e = answers.verdict ∙ ap (λ (l : List ℕ). over l g.verdict) (same_equal _ _ e)
  claim_says (settled xs) e = answers.settled ∙ ap (λ (l : List ℕ). over l g.settled) (same_equal _ _ e)

  claims_say : (xs : List Claim) → hold_all a xs ≡ true → SaysAll g r cubes' verdict' settled' xs
  unfolding hold_all
  claims_say [] e = tt
  claims_say (x ∷ xs) e = let p = and_parts (holds a x) _ e in (claim_says x p.0, claims_say xs p.1)

-- ---- a circuit that was read, into whatever table

module _ (text : List ℕ) {c : Content} (read : read_text text ≡ accepted c) where
  module _ (lent : List ℕ) (room : table_length c.counts ≤ length lent) where
    carries : Carries c (over c.words lent)
    carries = read_carries text read lent room

    pub circuit_read : circuit_of c.counts (over c.words lent) ≡ circuit_of c.counts c.words
    circuit_read = sym (circuit_front c.counts (over c.words lent)) ∙ ap (circuit_of c.counts) carries.front

  -- a table of 16 zeros does as well
  answer_read : (lent : List ℕ) → table_length c.counts ≤ 16 → 16 ≤ length lent → (w size : ℕ)
      → answer_in (zeroed c.counts (over c.words lent) w size) ≡ answer_in (zeroed c.counts (table_of c) w size)
  answer_read lent fits room w size =
      let enough : table_length c.counts ≤ length lent = omega arith in
      let zeros : List ℕ = replicate 16 0 in
      answer_tables c.counts (over c.words lent) (table_of c) w size (sym (board_decides _ _ (carries lent enough).legal) ∙ board_decides _ _ (carries zeros fits).legal)
      (circuit_read lent enough ∙ sym (circuit_read zeros fits))

-- ---- a case

refused_meant : (text : List ℕ) (m : ℕ) (o : Outcome Content) → read_text text ≡ o → refused_with m o ≡ true → RefusedAs text m
unfolding refused_with
refused_meant text m (accepted c) e h = absurd (false≢true h)
refused_meant text m (refused k) e h = λ table number counts table' reading.
    let is = reading_determined reading (reading_refused table (read_stops table e)) in
    (is.0 ∙ eqb-true k m h, is.1, is.2)

ran_meant : (text : List ℕ) (w size : ℕ) (says : List Claim) (o : Outcome Content) → read_text text ≡ o → ran_as w size says o ≡ true → RanAs text w size says
unfolding ran_as
ran_meant text w size says (refused k) e h = absurd (false≢true h)
ran_meant text w size says (accepted c) e h = λ table room number g reading same_w sized r cubes' verdict' settled' runs.
    let parts = and_parts (leb (table_length c.counts) 16) _ h in
    let fits = leb-true (table_length c.counts) 16 parts.0 in
    let is = reading_determined reading (reading_accepted table (read_fits table e (omega arith))) in
    let same_run = ap₂ (λ (k : Counts) (t : List ℕ). answer_in (zeroed k t g.w size)) is.1 is.2 in
    let answers = rw (answer_zeroed size g sized ∙ same_run ∙ answer_read text e table fits room g.w size) at (runs_answers runs) in
    (is.0, claims_say answers says (rw same_w parts.1))

meant : (x : Case) → passes x ≡ true → Meant x
unfolding passes
meant (refuses text m) = refused_meant (bytes text) m (read_text (bytes text)) refl
meant (runs text w size says) = ran_meant (bytes text) w size says (read_text (bytes text)) refl

all_meant : (xs : List Case) → all_pass xs ≡ true → MeantAll xs
unfolding all_pass
all_meant [] e = tt
all_meant (x ∷ xs) e = let p = and_parts (passes x) _ e in (meant x p.0, all_meant xs p.1)

pub proved : (xs : List Case) → computed xs ≡ true → MeantAll xs
unfolding computed
proved xs e = all_meant xs e
