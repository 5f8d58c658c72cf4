-- What gets a verdict: lamp i is entry i, bad state i is entry O + i, at each tick and in the verdict's record. Assumes nothing.
use mathlib.Core.Path.{◌≡◌, sym, ap, ◌∙◌}
use mathlib.Core.Bool.{Bool, true, false}
use mathlib.Core.List.{List, ◌++◌, map-append}
use Prim.Native.Nat.{ℕ, ◌+◌, ◌<◌}
use native.Mathlib.Decide.{dec_lt}
use native.Mathlib.Omega.{arith}
use lib.ListN.{length, get_or, length-map, get_or-append}
use lib.Seq.{get_or-append-add}
use Rattle.three.specs.Value.{unknown, known, code}
use Rattle.three.specs.Record.{unpack}
use Rattle.three.proofs.Lists.{get_or_tabulate, get_or_beyond}
use Rattle.circuit.specs.Circuit.{Circuit, readings}
use Rattle.cubes.specs.Run.{watched}
use Rattle.cubes.specs.Execution.{Execution, read_after, lamps_after, bads_after, watched_after}

module _ {c : Circuit} (e : Execution c) (t : ℕ) where
  read_length : (literals : List ℕ) → length (read_after e literals t) ≡ length literals
  unfolding read_after readings
  read_length literals = length-map literals _

  read_watched : watched_after e t ≡ lamps_after e t ++ bads_after e t
  unfolding read_after readings watched
  read_watched = map-append _ c.lamps c.bads

  pub lamp_watched : (i : ℕ) → i < length c.lamps → get_or (watched_after e t) i false ≡ get_or (lamps_after e t) i false
  lamp_watched i h = ap (λ (bits : List Bool). get_or bits i false) read_watched ∙ get_or-append (lamps_after e t) (bads_after e t) false i (rw (read_length c.lamps) h)

  pub bad_watched : (i : ℕ) → get_or (watched_after e t) (length c.lamps + i) false ≡ get_or (bads_after e t) i false
  bad_watched i =
      let behind = get_or-append-add (lamps_after e t) (bads_after e t) i false in
      ap (λ (bits : List Bool). get_or bits (length c.lamps + i) false) read_watched ∙ (rw (read_length c.lamps) at behind)

-- ---- the first fields of a record

pub fewer_fields : (f more : ℕ) (bytes : List ℕ) (i : ℕ) → i < f → get_or (unpack f bytes) i unknown ≡ get_or (unpack (f + more) bytes) i unknown
unfolding unpack
fewer_fields f more bytes i h = get_or_tabulate f _ i unknown h ∙ sym (get_or_tabulate (f + more) _ i unknown (omega arith))

-- a field that is known is one of them
pub unknown_known : (v : Bool) → unknown ≡ known v → ⊥
unfolding known code
unknown_known false e = let z : ◌≡◌ {A = ℕ} 0 1 = ap code e in omega arith
unknown_known true e = let z : ◌≡◌ {A = ℕ} 0 2 = ap code e in omega arith

pub known_below : (f : ℕ) (bytes : List ℕ) (i : ℕ) (v : Bool) → get_or (unpack f bytes) i unknown ≡ known v → i < f
unfolding unpack
known_below f bytes i v is = go (dec_lt i f)
  where
    go : Dec (i < f) → i < f
    go (yes h) = h
    go (no h) = absurd (unknown_known v (sym (get_or_beyond f _ i unknown (omega arith)) ∙ is))
