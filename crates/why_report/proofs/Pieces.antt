-- A piece that is put from the front of a buffer. Assumes nothing.
use mathlib.Core.Path.{◌≡◌, refl, sym}
use mathlib.Core.List.{List, [], ◌++◌, append-nil}
use Prim.Native.Nat.{ℕ, ◌≤◌}
use lib.ListN.{length}
use Rattle.std.specs.Prelude.{None}
use Rattle.putting.specs.PutInCode.{Put}
use Rattle.reporting.proofs.Reading.{put_front}
use Rattle.reporting.specs.Reporting.{Piece}
use Rattle.why_report.specs.declared.Begun.{Begun}
use Rattle.why_report.specs.WhyReportInCode.{Begins}

pub put_piece : {before after out out' piece : List ℕ} {r : ℕ} → before ≡ piece ++ after → Put out 0 piece out' r × (r ≤ length out) → Piece before after out r out'
put_piece {piece = piece} e p = let is = put_front {whole = piece} refl p in record { piece = piece; returns = is.0; fills = is.1; fits = is.2; left = e }

-- one that is the whole
pub put_whole : {whole out out' : List ℕ} {r : ℕ} → Put out 0 whole out' r × (r ≤ length out) → Piece whole [] out r out'
put_whole p = put_piece (sym (append-nil _)) p

-- after which no cube follows
pub only_piece : (table cubes : List ℕ) (lamp : ℕ) (b : Begun) {whole whole' out out' : List ℕ} → whole ≡ whole' → Piece whole [] out b.bytes out' → b.following ≡ None
    → Begins table cubes whole' lamp out b out'
only_piece table cubes lamp b e p z = record { piece = rw (z, ← e) p; ready = rw z tt }

-- the same for a whole by another name
pub begins_as : (table cubes : List ℕ) (lamp : ℕ) (b : Begun) {whole whole' out out' : List ℕ} → whole ≡ whole' → Begins table cubes whole lamp out b out' → Begins table cubes whole' lamp out b out'
begins_as table cubes lamp b e begins = rw (← e) begins
