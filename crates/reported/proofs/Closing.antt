-- The report on an accepted text with a lamp or bad state and at most 503 latches is on a run that stopped, and without constraints on one that closed; so without
-- either too it is never `refused 15`: 65,536 bytes have room for as many cubes as a run with w = 16 takes. Assumes nothing.
use mathlib.Core.Path.{◌≡◌, refl, sym, ap, ◌∙◌}
use mathlib.Core.Bool.{Bool, false}
use mathlib.Core.List.{List}
use Prim.Native.Nat.{ℕ, zero, suc, ◌/◌, ◌≤◌, ◌<◌}
use native.Mathlib.Omega.{arith}
use borrow.Author.Tests.{leb-true}
use lib.Dec.{leb, eqb}
use lib.ListN.{length, get_or}
use Rattle.three.specs.Lists.{every}
use Rattle.three.specs.Cube.{Cube}
use Rattle.three.proofs.Lists.{by_test, every_at}
use Rattle.circuit.specs.Circuit.{Circuit}
use Rattle.circuit.specs.Table.{verdicts, circuit_of}
use Rattle.text.specs.Outcome.{accepted}
use Rattle.text.specs.Text.{Content, read_text}
use Rattle.text.specs.Decimal.{digits, decimal}
use Rattle.text.specs.Bench.{bytes}
use Rattle.cubes.specs.Buffer.{cube_bytes}
use Rattle.cubes.specs.Run.{cube_at, run, verdict, settled}
use Rattle.cubes.specs.Promise.{most_cubes}
use Rattle.cubes.proofs.Buffered.{latches_counted}
use Rattle.cubes.proofs.Blocking.{none_counted}
use Rattle.cubes.proofs.Closes.{ClosesWithin, run_closes}
use Rattle.cubes.proofs.Promise.{run_closed}
use Rattle.rows.specs.Rows.{item}
use Rattle.reported.specs.Report.{closing, ending, opening, stop_report, run_report, report_of}
use Rattle.reporting.specs.Reporting.{refusing}
use Rattle.reported.proofs.Lamps.{without_lamp, with_lamp}

-- the buffer has room for the most cubes that a run of so many latches takes
unfoldable pub enough : ℕ → Bool
enough latches = leb (most_cubes 16 latches) (65536 / cube_bytes latches)

enough_room : (latches : ℕ) → latches ≤ 503 → most_cubes 16 latches ≤ 65536 / cube_bytes latches
unfolding enough every most_cubes cube_bytes
enough_room latches few = leb-true _ _ (every_at 504 enough refl latches (omega arith))

-- at 504 the bound says nothing: 520 cubes, and room for 516
pub no_further : enough 504 ≡ false
unfolding enough most_cubes cube_bytes
no_further = refl

-- n and j of a run that stopped, and the report on it; without constraints it closed
pub record ReportsStop (text : List ℕ) (t : Content) : Type 0 where
  pub n : ℕ
  pub j : ℕ
  pub few : n ≤ most_cubes 16 t.counts.latches
  pub says : let c : Circuit = circuit_of t.counts t.words in report_of text ≡ stop_report n j (length c.lamps) (verdict c (cube_at c 16) n) (settled c (cube_at c 16) n j)
  pub closed : t.counts.constraints ≡ 0 → j < n

pub reports_stop : (text : List ℕ) (t : Content) → read_text text ≡ accepted t → 1 ≤ verdicts t.counts → t.counts.latches ≤ 503 → ReportsStop text t
unfolding run_report
reports_stop text t e some few =
    let c : Circuit = circuit_of t.counts t.words in
    let sized = latches_counted t.counts t.words in
    let r : ClosesWithin (most_cubes 16 t.counts.latches) (run c 16 (65536 / cube_bytes t.counts.latches)) =
    rw sized at (run_closes c 16 (65536 / cube_bytes t.counts.latches) (omega arith) (rw sized (enough_room t.counts.latches few))) in
    record {
      n = r.n;
      j = r.j;
      few = r.few;
      says = with_lamp text t e some ∙ ap (run_report c) r.is_closed;
      closed = λ none. run_closed c 16 _ _ _ r.is_closed (none_counted t.counts t.words none);
    }

-- a report on a stop opens with `c`, a refusal with `r`; and 16 is not 15
opens : (n j lamps : ℕ) (v s : Cube) → get_or (stop_report n j lamps v s) 0 0 ≡ 99
unfolding stop_report opening closing ending item bytes
opens n j lamps v s = by_test (eqb j n) (λ end. rw end) (λ closed. rw closed)

pub never_15 : (text : List ℕ) (t : Content) → read_text text ≡ accepted t → t.counts.latches ≤ 503 → report_of text ≡ refusing 15 → ⊥
unfolding refusing item decimal digits bytes
never_15 text t e few same = go (verdicts t.counts) refl
  where
    go : (verdicts' : ℕ) → verdicts t.counts ≡ verdicts' → ⊥
    go zero none =
        let last : ◌≡◌ {A = ℕ} 54 53 = ap (λ (report : List ℕ). get_or report 9 0) (sym (without_lamp text t e none) ∙ same) in
        absurd (omega (arith, last))
    go (suc n) some =
        let stop = reports_stop text t e (omega arith) few in
        let first : ◌≡◌ {A = ℕ} 99 114 = sym (opens stop.n stop.j _ _ _) ∙ ap (λ (report : List ℕ). get_or report 0 0) (sym stop.says ∙ same) in
        absurd (omega (arith, first))
