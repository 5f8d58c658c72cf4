-- Merges of two records, computed: each number, and a result's buffer that held the bytes 255 and 7. Assumes nothing.
use Rattle.std.specs.Prelude.{◌≡◌, refl, List, [], ◌∷◌, ℕ, length}
use Rattle.three.specs.Lists.{tabulate, every, adjust, over}
use Rattle.three.specs.Value.{code, decode}
use Rattle.three.specs.Cube.{alike, blank, agree, merged}
use Rattle.three.specs.Record.{byte_of, byte_at, pack, pairs, pair_at, unpack, bad, leftover, sound}
use Rattle.circuit.specs.Refusal.{refusal, left_by}
use Rattle.merging.specs.Call.{merge_tests, MergeGiven, merged_fields}

abbrev merges : ℕ → List ℕ → List ℕ → List ℕ → MergeGiven
merges f a b out = record { fields = f; a = a; b = b; merged = out }

unfoldable pub answered : MergeGiven → List ℕ
unfolding tabulate every adjust over code decode alike blank agree merged byte_of byte_at pack pairs pair_at unpack bad leftover sound refusal left_by merge_tests merged_fields
answered g =
    let number : ℕ = refusal (merge_tests g.fields g.a g.b (length g.merged)) in
    number ∷ left_by number (over (pack (merged_fields g)) g.merged) g.merged

-- one field agrees, the other does not; a record with itself; all X with any; five fields, and bytes beyond a record; no field
pub accepts : (answered (merges 2 (0x60 ∷ []) (0x50 ∷ []) (255 ∷ 7 ∷ [])) ≡ 0 ∷ 0x40 ∷ 7 ∷ [])
    × (answered (merges 2 (0x60 ∷ []) (0x60 ∷ []) (255 ∷ 7 ∷ [])) ≡ 0 ∷ 0x60 ∷ 7 ∷ [])
    × (answered (merges 2 (0x00 ∷ []) (0x60 ∷ []) (255 ∷ 7 ∷ [])) ≡ 0 ∷ 0x00 ∷ 7 ∷ [])
    × (answered (merges 5 (0x69 ∷ 0x80 ∷ 255 ∷ []) (0x6A ∷ 0x80 ∷ []) (255 ∷ 7 ∷ [])) ≡ 0 ∷ 0x68 ∷ 0x80 ∷ [])
    × (answered (merges 0 (0x00 ∷ []) (0x00 ∷ []) (255 ∷ 7 ∷ [])) ≡ 0 ∷ 0x00 ∷ 7 ∷ [])
unfolding answered
accepts = (refl, refl, refl, refl, refl)

-- 513 fields; a given record without its byte, before the other's pair 11; a pair 11 and a leftover bit in either; 14 before the result's 10, which nine fields give
pub refuses : (answered (merges 513 [] [] (255 ∷ 7 ∷ [])) ≡ 3 ∷ 255 ∷ 7 ∷ [])
    × (answered (merges 2 (0xC0 ∷ []) [] (255 ∷ 7 ∷ [])) ≡ 10 ∷ 255 ∷ 7 ∷ [])
    × (answered (merges 2 (0xC0 ∷ []) (0x40 ∷ []) (255 ∷ 7 ∷ [])) ≡ 14 ∷ 255 ∷ 7 ∷ [])
    × (answered (merges 2 (0x40 ∷ []) (0x44 ∷ []) (255 ∷ 7 ∷ [])) ≡ 14 ∷ 255 ∷ 7 ∷ [])
    × (answered (merges 9 (0x40 ∷ 0 ∷ 0 ∷ []) (0xC0 ∷ 0 ∷ 0 ∷ []) (255 ∷ 7 ∷ [])) ≡ 14 ∷ 255 ∷ 7 ∷ [])
    × (answered (merges 9 (0x40 ∷ 0 ∷ 0 ∷ []) (0x40 ∷ 0 ∷ 0 ∷ []) (255 ∷ 7 ∷ [])) ≡ 10 ∷ 255 ∷ 7 ∷ [])
unfolding answered
refuses = (refl, refl, refl, refl, refl, refl)
