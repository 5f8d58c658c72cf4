-- 22 is given exactly where the text's gates loop and neither 20 nor 21 is given. Assumes nothing.
use mathlib.Core.Path.{◌≡◌, sym, ◌∙◌}
use mathlib.Core.Bool.{true, false}
use mathlib.Core.Logic.{inl, inr, ◌↔◌}
use mathlib.Core.List.{[]}
use Prim.Native.Nat.{ℕ, ◌/◌, ◌<◌}
use native.Mathlib.Omega.{arith}
use Rattle.three.specs.Lists.{every}
use Rattle.three.proofs.Lists.{by_test}
use Rattle.circuit.specs.Refusal.{◌or◌, refusal}
use Rattle.circuit.proofs.Refusals.{stops, past, none}
use Rattle.drawn.specs.Depth.{Source, gate, loopless}
use Rattle.drawn.specs.DepthInCode.{Reads, Path, one, more}
use Rattle.drawn.specs.Drawing.{Drawing, lines, left, right, left_source, right_source, once, all_defined, drawing_tests}
use Rattle.drawn.specs.Meaning.{Uses, Leads, uses, through, Looped}
use Rattle.drawn.proofs.Loops.{loop_refused, refused_loop}
use Rattle.drawn.proofs.Proper.{Owned, owned_holds, source_below, source_gate, source_own}

module _ (d : Drawing) where
  abbrev ls : ℕ → Source
  ls = left_source d

  abbrev rs : ℕ → Source
  rs = right_source d

  -- ---- the text's own paths, and those of the sources

  reads_uses : (i k : ℕ) → Reads ls rs i k → Uses d i k
  reads_uses i k (inl e) = (source_below d (left d i / 2) k e, inl (source_own d (left d i / 2) k e))
  reads_uses i k (inr e) = (source_below d (right d i / 2) k e, inr (source_own d (right d i / 2) k e))

  uses_reads : Owned d → (i k : ℕ) → Uses d i k → Reads ls rs i k
  uses_reads o i k (h, inl e) = inl (source_gate d o (left d i / 2) k h e)
  uses_reads o i k (h, inr e) = inr (source_gate d o (right d i / 2) k h e)

  path_leads : {i k : ℕ} → Path ls rs i k → Leads d i k
  path_leads (one {i = i} {k = k} r) = uses (reads_uses i k r)
  path_leads (more {i = i} {j = j} r p) = through (reads_uses i j r) (path_leads p)

  leads_path : Owned d → {i k : ℕ} → Leads d i k → Path ls rs i k
  leads_path o (uses {i = i} {k = k} u) = one (uses_reads o i k u)
  leads_path o (through {i = i} {j = j} u l) = more (uses_reads o i j u) (leads_path o l)

  below_left : (i k : ℕ) → i < d.counts.gates → ls i ≡ gate k → k < d.counts.gates
  below_left i k h e = source_below d (left d i / 2) k e

  below_right : (i k : ℕ) → i < d.counts.gates → rs i ≡ gate k → k < d.counts.gates
  below_right i k h e = source_below d (right d i / 2) k e

  pub looped : loopless ls rs d.counts.gates ≡ false → Looped d
  looped e = let l = refused_loop ls rs d.counts.gates below_left below_right e in (l.0, l.1, path_leads l.2)

  pub loops_refused : Owned d → Looped d → loopless ls rs d.counts.gates ≡ false
  loops_refused o (k, h, l) = loop_refused ls rs d.counts.gates below_left below_right (k, h, leads_path o l)

  -- ---- 22

  pub gives_22 : (refusal (drawing_tests d) ≡ 22) ↔ ((every (lines d) (once d) ≡ true) × (all_defined d ≡ true) × Looped d)
  unfolding drawing_tests
  gives_22 = (given, gives)
    where
      given : refusal (drawing_tests d) ≡ 22 → (every (lines d) (once d) ≡ true) × (all_defined d ≡ true) × Looped d
      given e =
          by_test (every (lines d) (once d))
          (λ a. by_test (all_defined d)
          (λ b. by_test (loopless ls rs d.counts.gates)
          (λ c. absurd (let z = past (every (lines d) (once d) or 20) _ a (past (all_defined d or 21) _ b (past (loopless ls rs d.counts.gates or 22) [] c none)) ∙ e in omega (arith, z)))
          (λ c. (a, b, looped c)))
          (λ b. absurd (let z = past (every (lines d) (once d) or 20) _ a (stops (all_defined d or 21) _ b) ∙ e in omega (arith, z))))
          (λ a. absurd (let z = stops (every (lines d) (once d) or 20) _ a ∙ e in omega (arith, z)))

      gives : (every (lines d) (once d) ≡ true) × (all_defined d ≡ true) × Looped d → refusal (drawing_tests d) ≡ 22
      gives (a, b, l) = sym (past (every (lines d) (once d) or 20) _ a (past (all_defined d or 21) _ b (stops (loopless ls rs d.counts.gates or 22) [] (loops_refused (owned_holds d a) l))))
