-- Which first lines show counts (specification, 4.4): several do, since a number that is 0 may be left off at the end; the written one is the shortest. Assumes nothing.
use mathlib.Core.Path.{◌≡◌, refl, ap₂}
use mathlib.Core.List.{List, [], ◌∷◌}
use Prim.Native.Nat.{ℕ, zero, suc, ◌≤◌, ◌<◌}
use native.Mathlib.Omega.{arith}
use borrow.Author.Tests.{eqb-true, eq-eqb, leb-true, le-leb}
use lib.ListN.{length, get_or}
use Rattle.circuit.specs.declared.Counts.{Counts}
use Rattle.circuit.specs.RulesInCode.{Passed, Bounded}
use Rattle.circuit.specs.Table.{variables}
use Rattle.circuit.proofs.Refusals.{passed_append}
use Rattle.circuit.proofs.Legality.{passed_bounded, bounded_passed}
use Rattle.text.specs.Text.{further_numbers, head_numbers, counts_of, count_tests, header_tests}
use Rattle.text.proofs.Outcomes.{append_passed}
use Rattle.text.proofs.Lines.{Short}

-- the numbers behind A: B, C, J and F, of which the last are 0 and may be left off there
pub data Further : ℕ → ℕ → List ℕ → Type 0 where
  five : Further 0 0 []
  six : {b : ℕ} → Further b 0 (b ∷ [])
  seven : {b c : ℕ} → Further b c (b ∷ c ∷ [])
  eight : {b c : ℕ} → Further b c (b ∷ c ∷ 0 ∷ [])
  nine : {b c : ℕ} → Further b c (b ∷ c ∷ 0 ∷ 0 ∷ [])

-- The numbers of a first line that shows these counts
pub data Heads (c : Counts) : List ℕ → Type 0 where
  shows : {more : List ℕ} → Further c.bads c.constraints more → Heads c (variables c ∷ c.inputs ∷ c.latches ∷ c.lamps ∷ c.gates ∷ more)

-- ---- what shows counts is read as them

record Reads (b c : ℕ) (more : List ℕ) : Type 0 where
  few : length more ≤ 4
  short : b < 100000 → c < 100000 → Short more
  bads : get_or more 0 0 ≡ b
  constraints : get_or more 1 0 ≡ c
  justice : get_or more 2 0 ≡ 0
  fairness : get_or more 3 0 ≡ 0

further_reads : {b c : ℕ} {more : List ℕ} → Further b c more → Reads b c more
further_reads five = record { few = omega arith; short = λ p q. tt; bads = refl; constraints = refl; justice = refl; fairness = refl }
further_reads six = record { few = omega arith; short = λ p q. (p, tt); bads = refl; constraints = refl; justice = refl; fairness = refl }
further_reads seven = record { few = omega arith; short = λ p q. (p, (q, tt)); bads = refl; constraints = refl; justice = refl; fairness = refl }
further_reads eight = record { few = omega arith; short = λ p q. omega arith; bads = refl; constraints = refl; justice = refl; fairness = refl }
further_reads nine = record { few = omega arith; short = λ p q. omega arith; bads = refl; constraints = refl; justice = refl; fairness = refl }

-- Such numbers as the reader takes them
pub record HeadFits (c : Counts) (ns : List ℕ) : Type 0 where
  pub some : 0 < length ns
  pub few : length ns ≤ 9
  pub short : Short ns
  pub counts : counts_of ns ≡ c
  pub passes : Passed (header_tests ns)

heads_counts : {c : Counts} {ns : List ℕ} → Heads c ns → counts_of ns ≡ c
unfolding counts_of
heads_counts {c} (shows f) =
    let r = further_reads f in
    ap₂ (λ (b k : ℕ). record { inputs = c.inputs; latches = c.latches; lamps = c.lamps; gates = c.gates; bads = b; constraints = k }) r.bads r.constraints

heads_passed : {c : Counts} {ns : List ℕ} → Heads c ns → Bounded c → Passed (header_tests ns)
unfolding header_tests count_tests
heads_passed {c} {ns} (shows {more = more} f) b =
    let r = further_reads f in
    let same : counts_of ns ≡ c = heads_counts (shows f) in
    append_passed (count_tests ns) _
    (le-leb 5 (length ns) (omega arith), (eq-eqb _ 0 r.justice, (eq-eqb _ 0 r.fairness, rw same (bounded_passed c b))))
    (rw same (eq-eqb (variables c) (variables c) refl), tt)

pub heads_fit : {c : Counts} {ns : List ℕ} → Heads c ns → Bounded c → HeadFits c ns
heads_fit {c} (shows f) b =
    let r = further_reads f in
    record {
      some = omega arith;
      few = omega (arith, r.few);
      short = (omega arith, (omega arith, (omega arith, (omega arith, (omega arith, r.short (omega arith) (omega arith))))));
      counts = heads_counts (shows f);
      passes = heads_passed (shows f) b;
    }

-- ---- what is read shows the counts

module _ (ns : List ℕ) where
  pub counts_passed : Passed (count_tests ns) → (5 ≤ length ns) × (get_or ns 7 0 ≡ 0) × (get_or ns 8 0 ≡ 0) × Bounded (counts_of ns)
  unfolding count_tests
  counts_passed p = (leb-true 5 (length ns) p.0, eqb-true (get_or ns 7 0) 0 p.1.0, eqb-true (get_or ns 8 0) 0 p.1.1.0, passed_bounded (counts_of ns) p.1.1.1)

  pub head_passed : Passed (header_tests ns) → Passed (count_tests ns) × (get_or ns 0 0 ≡ variables (counts_of ns))
  unfolding header_tests
  head_passed p = let q = passed_append (count_tests ns) _ p in (q.0, eqb-true (get_or ns 0 0) (variables (counts_of ns)) q.1.0)

  pub head_bounded : Passed (header_tests ns) → Bounded (counts_of ns)
  head_bounded p = (counts_passed (head_passed p).0).3

further : (more : List ℕ) → length more ≤ 4 → get_or more 2 0 ≡ 0 → get_or more 3 0 ≡ 0 → Further (get_or more 0 0) (get_or more 1 0) more
further [] h j f = five
further (b ∷ []) h j f = six
further (b ∷ c ∷ []) h j f = seven
further (b ∷ c ∷ d ∷ []) h j f = rw j eight
further (b ∷ c ∷ d ∷ e ∷ []) h j f = rw (j, f) nine
further (b ∷ c ∷ d ∷ e ∷ x ∷ more) h j f = absurd (omega arith)

read_heads : (ns : List ℕ) → length ns ≤ 9 → 5 ≤ length ns → get_or ns 7 0 ≡ 0 → get_or ns 8 0 ≡ 0 → get_or ns 0 0 ≡ variables (counts_of ns) → Heads (counts_of ns) ns
unfolding counts_of
read_heads (m ∷ i ∷ l ∷ o ∷ a ∷ more) h k j f e = rw e (shows (further more (omega arith) j f))
read_heads (m ∷ i ∷ l ∷ o ∷ []) h k j f e = absurd (omega arith)
read_heads (m ∷ i ∷ l ∷ []) h k j f e = absurd (omega arith)
read_heads (m ∷ i ∷ []) h k j f e = absurd (omega arith)
read_heads (m ∷ []) h k j f e = absurd (omega arith)
read_heads [] h k j f e = absurd (omega arith)

pub head_shows : (ns : List ℕ) → length ns ≤ 9 → Passed (header_tests ns) → Heads (counts_of ns) ns
head_shows ns h p =
    let q = head_passed ns p in
    let r = counts_passed ns q.0 in
    read_heads ns h r.0 r.1 r.2 q.1

-- ---- what is written

further_written : (b c : ℕ) → Further b c (further_numbers b c)
unfolding further_numbers
further_written zero zero = five
further_written (suc b) zero = six
further_written zero (suc c) = seven
further_written (suc b) (suc c) = seven

pub written_heads : (c : Counts) → Heads c (head_numbers c)
unfolding head_numbers
written_heads c = shows (further_written c.bads c.constraints)

-- B and C stand there only up to the last that is not 0: no first line that shows the counts has fewer numbers
further_few : (b c : ℕ) → length (further_numbers b c) ≤ 2
unfolding further_numbers
further_few zero zero = omega arith
further_few (suc b) zero = omega arith
further_few zero (suc c) = omega arith
further_few (suc b) (suc c) = omega arith

further_shortest : {b c : ℕ} {more : List ℕ} → Further b c more → length (further_numbers b c) ≤ length more
unfolding further_numbers
further_shortest five = omega arith
further_shortest (six {b = zero}) = omega arith
further_shortest (six {b = suc b}) = omega arith
further_shortest (seven {b = b} {c = c}) = further_few b c
further_shortest (eight {b = b} {c = c}) = omega (arith, further_few b c)
further_shortest (nine {b = b} {c = c}) = omega (arith, further_few b c)

pub shortest : {c : Counts} {ns : List ℕ} → Heads c ns → length (head_numbers c) ≤ length ns
unfolding head_numbers
shortest (shows f) = omega (arith, further_shortest f)
