-- What `why` answers for a stored cube in which the lamp is known, and the group that a cube begins. Assumes nothing.
use mathlib.Core.Path.{◌≡◌, refl, sym, ap, ◌∙◌}
use mathlib.Core.Bool.{Bool}
use mathlib.Core.List.{List, ◌++◌}
use Prim.Native.Nat.{ℕ, suc, ◌+◌, ◌*◌, ◌≤◌, ◌<◌}
use native.Mathlib.Omega.{arith}
use native.Mathlib.Nat.{suc-mul}
use native.Mathlib.Numerals.{add-one}
use lib.Dec.{eqb}
use lib.ListN.{length, drop, replicate}
use Rattle.three.specs.Lists.{every, over}
use Rattle.three.specs.Value.{unknown}
use Rattle.three.specs.Cube.{Cube}
use Rattle.three.specs.Record.{bytes_for, pack, pair_at, unpack}
use Rattle.three.specs.RecordInCode.{IsRecord}
use Rattle.three.proofs.Lists.{length_tabulate}
use Rattle.three.proofs.Pack.{length_pack, unpack_over}
use Rattle.three.proofs.Soundness.{record_over}
use Rattle.circuit.specs.declared.Counts.{Counts}
use Rattle.circuit.specs.Refusal.{left_by}
use Rattle.circuit.specs.Table.{circuit_of}
use Rattle.circuit.proofs.Legality.{legal}
use Rattle.cubes.specs.Buffer.{cube_bytes, cube_of, cube_in}
use Rattle.cubes.specs.Given.{same}
use Rattle.cubes.proofs.StoredCube.{cube_of_sized, cube_record, cube_at_lem, cube_in_sized}
use Rattle.cubes.proofs.Storing.{cube_place}
use Rattle.cubes.proofs.Merging.{length_over}
use Rattle.asked.specs.Follow.{forcing}
use Rattle.asked.specs.Call.{lamp_in, why_fields, Explained}
use Rattle.asked.proofs.Refusing.{given_passes, answer_passes, answer_decides}
use Rattle.putting.specs.PutInCode.{Put}
use Rattle.reasons.specs.Reasons.{line}
use Rattle.reasons.proofs.Groups.{Ends, same_pairs}
use Rattle.reporting.specs.Reporting.{Piece}
use Rattle.why_report.specs.WhyReport.{explanation}
use Rattle.why_report.specs.WhyReportInCode.{explanation_in, lines_from, Explains, Ready, GroupEnds}
use Rattle.why_report.proofs.Pieces.{put_piece}

module _ (counts : Counts) (table cubes : List ℕ) (lamp : ℕ) where
  pub ready_below : (n k : ℕ) → Ready counts table cubes lamp n → k < n → Ready counts table cubes lamp (k + 1)
  ready_below n k r h = record {
    are = record {
      accepts = r.are.accepts;
      stand = record {
        size = refl;
        fits = rw (add-one, suc-mul) (omega (arith, cube_place n (cube_bytes counts.latches) k (length cubes) h r.are.stand.fits));
        cube = λ i l. r.are.stand.cube i (omega arith);
      };
    };
    is_lamp = r.is_lamp;
    known = λ i l. r.known i (omega arith);
  }

  explained_sized : (k : ℕ) → length (explanation_in counts table cubes lamp k) ≡ counts.latches
  unfolding explanation_in explanation forcing
  explained_sized k = length_tabulate _ _ ∙ cube_in_sized counts.latches cubes k

  module _ (k : ℕ) (ready : Ready counts table cubes lamp (k + 1)) (len : ℕ) (size : len ≡ cube_bytes counts.latches) where
    pub stands : k * len + len ≤ length cubes
    stands = cube_place (k + 1) len k (length cubes) (omega arith) (rw size ready.are.stand.fits)

    pub stored_cube : IsRecord (suc counts.latches) (drop (k * len) cubes)
    stored_cube = rw size (cube_record _ _ (ready.are.stand.cube k (omega arith)))

    few : bytes_for counts.latches ≤ 128
    few = omega (arith, (legal counts table ready.are.accepts).bounded.latches)

    -- its latches were stored as a state
    module _ (state : List ℕ) (stored : state ≡ over (pack (cube_of counts.latches (drop (k * len) cubes))) (replicate 128 0)) where
      is_record : IsRecord counts.latches state
      is_record = rw stored (record_over counts.latches _ (replicate 128 0) (cube_of_sized counts.latches _) (omega (arith, few)))

      fields_are : unpack counts.latches state ≡ cube_in counts.latches cubes k
      fields_are = rw stored (unpack_over counts.latches _ (replicate 128 0) (cube_of_sized counts.latches _)) ∙ cube_at_lem counts.latches size cubes k

      -- nothing is refused
      pub never_refused : (out out' : List ℕ) (number : ℕ) → length out ≡ 128 → Explained (record { counts = counts; table = table; state = state; lamp = lamp; why = out }) number out' → number ≡ 0
      never_refused out out' number room y =
          let known : lamp_in (circuit_of counts table) (unpack counts.latches state) lamp ≡ unknown → ⊥ = rw fields_are (ready.known k (omega arith)) in
          y.answers ∙ sym (answer_decides (record { counts = counts; table = table; state = state; lamp = lamp; why = out }) ready.are.accepts
          (given_passes counts _ lamp is_record.fits is_record.good ready.is_lamp)
          (answer_passes counts table _ lamp (length out) known (omega (arith, room, few))))

      -- and the answer is the explanation
      pub explained_in : (out out' : List ℕ) (number : ℕ) → length out ≡ 128 → Explained (record { counts = counts; table = table; state = state; lamp = lamp; why = out }) number out'
          → (out' ≡ over (pack (explanation_in counts table cubes lamp k)) out) × (length out' ≡ 128)
      unfolding left_by why_fields explanation_in explanation
      explained_in out out' number room y =
          let passes = never_refused out out' number room y in
          let filled : out' ≡ over (pack (explanation_in counts table cubes lamp k)) out = rw (passes, fields_are) at y.fills in
          (filled, ap (λ (l : List ℕ). length l) filled ∙ length_over _ out (omega (arith, room, length_pack (explanation_in counts table cubes lamp k), explained_sized k, few)) ∙ room)

  -- ---- groups

  pub same_bytes : (i k : ℕ) (a b : List ℕ) (r : Bool) → Explains counts table cubes lamp i a → (rest : List ℕ) → b ≡ over (pack (explanation_in counts table cubes lamp k)) rest
      → r ≡ every counts.latches (λ f. eqb (pair_at a f) (pair_at b f)) → r ≡ same (explanation_in counts table cubes lamp i) (explanation_in counts table cubes lamp k)
  same_bytes i k a b r x rest y e = (rw (x.is, y) at e) ∙ same_pairs counts.latches _ _ x.rest rest (explained_sized i) (explained_sized k)

  pub group_is : (n from k : ℕ) → Ends (explanation_in counts table cubes lamp) n from k → GroupEnds counts table cubes lamp n from k
  group_is n from k e = record { after = e.after; below = e.below; rest = e.rest }

  -- the line of a group, put: what is left after it are the lines from the next cube on
  pub group_piece : (n from k : ℕ) (why : List ℕ) {out out' : List ℕ} {bytes : ℕ} → GroupEnds counts table cubes lamp n from k → Explains counts table cubes lamp from why
      → Put out 0 (line from k (unpack counts.latches why)) out' bytes × (bytes ≤ length out)
      → Piece (lines_from counts table cubes lamp n from) (lines_from counts table cubes lamp n (k + 1)) out bytes out'
  group_piece n from k why g x p = put_piece (g.rest ∙ ap (λ (v : Cube). line from k v ++ lines_from counts table cubes lamp n (k + 1)) (sym (rw x.is (unpack_over counts.latches _ x.rest (explained_sized from))))) p
