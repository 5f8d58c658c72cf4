-- The public cover: what it answers and leaves where it is refused, at each of its numbers, and where it is accepted. Assumes nothing.
use mathlib.Core.Path.{◌≡◌, refl, sym, ap, ap₂, ◌∙◌}
use mathlib.Core.Bool.{Bool, true, false, cond}
use mathlib.Core.List.{List, [], ◌∷◌, ◌++◌}
use Rattle.std.specs.Prelude.{Some, None}
use Prim.Native.Nat.{ℕ, ◌<◌, ◌≤◌}
use native.Mathlib.Omega.{arith}
use borrow.Author.Tests.{ne_eqb}
use lib.Dec.{eqb}
use lib.ListN.{length, take, drop}
use lib.Seq.{take_at}
use Rattle.three.specs.Lists.{every, over}
use Rattle.three.specs.Record.{bytes_for, pack}
use Rattle.three.proofs.Lists.{by_test}
use Rattle.three.proofs.Pack.{length_pack}
use Rattle.circuit.specs.Refusal.{Test, refusal}
use Rattle.circuit.specs.Table.{ceiling_tests, word_tests, board_tests, verdicts, circuit_of, lamp_tests}
use Rattle.circuit.proofs.Refusals.{refused_old, accepted_new}
use Rattle.cubes.specs.Run.{start}
use Rattle.cubes.specs.Buffer.{cube_in}
use Rattle.cubes.specs.Given.{cube_tests, covered, next_covered, first_uncovered}
use Rattle.cubes.proofs.Buffered.{verdict_sized}
use Rattle.cubes.proofs.Covering.{uncovered_fails, uncovered_passes}
use Rattle.sent.specs.Call.{SentGiven, circuit_in, cubes_in, sent_tests, verdict_fields, Sent}
use Rattle.cubes.specs.GivenInCode.{given_tests}
use Rattle.sent.specs.SentInCode.{Walked}
use Rattle.sent.proofs.Refusing.{given_refuses, start_outside, next_outside, verdict_short, sent_passes}

-- ---- 18 is no number of the tests before it

abbrev Under : ℕ → List Test → Type 0
Under m [] = Unit {0}
Under m (t ∷ ts) = (t.number < m) × Under m ts

refusal_under : (m : ℕ) (ts : List Test) → 0 < m → Under m ts → refusal ts < m
unfolding refusal
refusal_under m [] pos u = pos
refusal_under m (t ∷ ts) pos u = by_test t.holds (λ e. rw (refusal, e) (refusal_under m ts pos u.1)) (λ e. rw (refusal, e) u.0)

module _ (g : SentGiven) where
  abbrev uncovered : ℕ
  uncovered = first_uncovered (circuit_in g) (cubes_in g) g.n

  given_under : refusal (given_tests g.counts g.table g.cubes g.n) < 17
  unfolding board_tests ceiling_tests lamp_tests word_tests cube_tests
  given_under = refusal_under 17 (given_tests g.counts g.table g.cubes g.n) (omega arith) (omega arith)

  -- ---- refusals

  refused : {k cube : ℕ} → k ≡ refusal (sent_tests g) → (k ≡ 0 → ⊥) → cube ≡ cond (eqb k 18) uncovered 0 → Sent g (record { number = k; cube = cube }) g.verdict
  refused {k} e h names = record { answers = e; names = names; fills_verdict = refused_old k _ _ h }

  module _ {k : ℕ} (is : k ≡ refusal (given_tests g.counts g.table g.cubes g.n)) where
    pub given_refused : (k ≡ 0 → ⊥) → Sent g (record { number = k; cube = 0 }) g.verdict
    given_refused h =
        let other : eqb k 18 ≡ false = ne_eqb k 18 (λ z. absurd (omega (arith, given_under))) in
        refused (given_refuses g k is h) h (rw other)

    module _ (ok : k ≡ 0) where
      passed : 0 ≡ refusal (given_tests g.counts g.table g.cubes g.n)
      passed = sym ok ∙ is

      -- the start, as the code found it
      module _ {r : Bool} (found : r ≡ covered (circuit_of g.counts g.table) (cube_in g.counts.latches g.cubes) g.n (start (circuit_of g.counts g.table))) where
        pub start_refused : r ≡ false → Sent g (record { number = 17; cube = 0 }) g.verdict
        unfolding circuit_in cubes_in
        start_refused h = refused (start_outside g passed (sym found ∙ h)) (λ z. omega arith) refl

      module _ {r : Bool} (found : r ≡ covered (circuit_of g.counts g.table) (cube_in g.counts.latches g.cubes) g.n (start (circuit_of g.counts g.table))) (inside : r ≡ true) where
        starts : covered (circuit_of g.counts g.table) (cube_in g.counts.latches g.cubes) g.n (start (circuit_of g.counts g.table)) ≡ true
        starts = sym found ∙ inside

        -- a next state is in no cube
        module _ {cube : ℕ} {seen seen' : List ℕ} (walked : Walked g.counts g.table g.cubes g.n seen (Some cube) seen') where
          cube_is : cube ≡ uncovered
          unfolding circuit_in cubes_in
          cube_is = walked.names

          pub next_refused : Sent g (record { number = 18; cube = cube }) g.verdict
          unfolding circuit_in cubes_in
          next_refused = refused (next_outside g passed starts (uncovered_fails _ _ g.n (rw cube_is at walked.within))) (λ z. omega arith) cube_is

        -- each is in some
        module _ {seen seen' : List ℕ} (walked : Walked g.counts g.table g.cubes g.n seen None seen') where
          follows : every g.n (next_covered (circuit_in g) (cubes_in g) g.n) ≡ true
          unfolding circuit_in cubes_in
          follows = uncovered_passes _ _ g.n (omega (arith, walked.names))

          pub verdict_refused : length g.verdict < bytes_for (verdicts g.counts) → Sent g (record { number = 10; cube = 0 }) g.verdict
          unfolding circuit_in cubes_in
          verdict_refused h = refused (verdict_short g passed starts follows h) (λ z. omega arith) refl

          -- ---- accepted

          pub seen_are : seen' ≡ over (pack (verdict_fields g)) seen
          unfolding verdict_fields circuit_in cubes_in
          seen_are = walked.judges refl

          packed : length (pack (verdict_fields g)) ≡ bytes_for (verdicts g.counts)
          unfolding verdict_fields circuit_in
          packed = rw (length_pack, verdict_sized g.counts g.table (cubes_in g) g.n)

          pub accepted : {len : ℕ} {front : List ℕ} → len ≡ bytes_for (verdicts g.counts) → bytes_for (verdicts g.counts) ≤ length g.verdict → front ≡ take len seen'
              → Sent g (record { number = 0; cube = 0 }) (front ++ drop len g.verdict)
          unfolding circuit_in cubes_in over
          accepted {len} e fits copied = record {
            answers = sent_passes g passed starts follows fits;
            names = refl;
            fills_verdict =
                let whole = copied ∙ ap (take len) seen_are ∙ take_at (pack (verdict_fields g)) _ len (packed ∙ sym e) in
                ap₂ (λ (x : List ℕ) (m : ℕ). x ++ drop m g.verdict) whole (e ∙ sym packed) ∙ accepted_new 0 _ _ refl;
          }
