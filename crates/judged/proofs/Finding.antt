-- The test of a chain, part by part as the code makes it. Assumes nothing.
use mathlib.Core.Path.{◌≡◌, refl, sym, ap, ap₂, ◌∙◌}
use mathlib.Core.Bool.{Bool, true, false, ◌&&◌, ◌||◌, false≢true}
use mathlib.Core.List.{List}
use Prim.Native.Nat.{ℕ, ◌<◌, ◌≤◌}
use native.Mathlib.Nat.{zero-mul}
use borrow.Author.Tests.{lt-leb, le-leb}
use lib.Dec.{ltb}
use lib.ListN.{drop, replicate}
use Rattle.three.specs.Lists.{every, over}
use Rattle.three.specs.Value.{low, decode}
use Rattle.three.specs.Record.{pack}
use Rattle.circuit.specs.declared.Counts.{Counts}
use Rattle.circuit.specs.Circuit.{Circuit}
use Rattle.circuit.specs.Table.{verdicts, circuit_of}
use Rattle.three.specs.Cube.{Cube}
use Rattle.cubes.specs.Run.{blocked, start, merge_from, verdict}
use Rattle.cubes.specs.Buffer.{cube_bytes, cube_of, cube_in}
use Rattle.cubes.specs.BufferInCode.{IsCube, Cubes}
use Rattle.cubes.specs.Given.{same, goes_on, starts_chain, is_chain}
use Rattle.cubes.proofs.StoredCube.{cube_at_lem}
use Rattle.cubes.proofs.Buffered.{verdicts_counted}
use Rattle.judged.specs.JudgedInCode.{and_then, Walked, ChainFound}

-- cube 0 stands at the front
pub first_cube : (latches n : ℕ) (cubes : List ℕ) → Cubes latches (cube_bytes latches) n cubes → 1 ≤ n → IsCube latches cubes
first_cube latches n cubes are some = rw zero-mul at (are.cube 0 some)

module _ (c : Counts) (words : List ℕ) (n j : ℕ) (cubes : List ℕ) where
  abbrev circuit : Circuit
  circuit = circuit_of c words

  abbrev given : ℕ → Cube
  given = cube_in c.latches cubes

  none_found : {r : Bool} → r ≡ is_chain circuit given n j → r ≡ false → (entry : List ℕ) {verdict : List ℕ} → ChainFound c words cubes n j entry r verdict
  none_found e f entry = record { decides = e; judges = λ z. absurd (false≢true (sym f ∙ z)) }

  pub beyond_found : n < j → (entry : List ℕ) {verdict : List ℕ} → ChainFound c words cubes n j entry false verdict
  unfolding is_chain
  beyond_found h = none_found (rw (lt-leb j n h)) refl

  -- ---- cube 0

  module _ {s : Bool} (starts : s ≡ and_then (ltb 0 n) (same (cube_of c.latches cubes) (start circuit))) where
    starts_as : s ≡ (ltb 0 n && same (given 0) (start circuit))
    unfolding and_then
    starts_as =
        starts
        ∙ ap (λ (v : Cube). ltb 0 n && same v (start circuit)) (ap (λ (m : ℕ). cube_of c.latches (drop m cubes)) (sym (zero-mul (cube_bytes c.latches))) ∙ cube_at_lem c.latches refl cubes 0)

    pub same_start : s ≡ true → true ≡ starts_chain circuit given n
    unfolding starts_chain
    same_start e = ap (λ (b : Bool). b || blocked circuit (start circuit)) (sym e ∙ starts_as)

    pub other_start : s ≡ false → {r : Bool} → r ≡ blocked circuit (start circuit) → r ≡ starts_chain circuit given n
    unfolding starts_chain
    other_start e is = is ∙ ap (λ (b : Bool). b || blocked circuit (start circuit)) (sym e ∙ starts_as)

  -- ---- the whole test

  module _ (within : j ≤ n) {s : Bool} (starts : s ≡ starts_chain circuit given n) where
    pub start_found : s ≡ false → (entry : List ℕ) {verdict : List ℕ} → ChainFound c words cubes n j entry false verdict
    unfolding is_chain
    start_found f = let not_started : starts_chain circuit given n ≡ false = sym starts ∙ f in none_found (rw (le-leb j n within, not_started)) refl

    module _ (begun : s ≡ true) where
      pub walked_found : (entry : List ℕ) {r : Bool} {verdict : List ℕ} → Walked c words cubes n j entry r verdict → ChainFound c words cubes n j entry r verdict
      unfolding is_chain
      walked_found entry walked = record {
        decides = walked.follows ∙ sym (ap₂ (λ (a b : Bool). a && (b && every n (goes_on circuit given n j))) (le-leb j n within) (sym starts ∙ begun));
        judges = walked.judges;
      }

      -- with no cube each verdict is never
      pub none_walked : n ≡ 0 → (entry : List ℕ) {fields : ℕ} {verdict : List ℕ} → fields ≡ verdicts c → verdict ≡ over (pack (replicate fields (decode 1))) entry → ChainFound c words cubes n j entry true verdict
      unfolding verdict merge_from every decode
      none_walked none entry {fields} many e = walked_found entry (record {
        follows = rw none;
        judges = λ z. e ∙ ap (λ (l : ℕ). over (pack (replicate l low)) entry) (many ∙ sym (verdicts_counted c words)) ∙ ap (λ (k : ℕ). over (pack (verdict circuit given k)) entry) (sym none);
      })
