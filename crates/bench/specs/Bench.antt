-- The bench circuits (specification, 9) as one table of cases, each a text with what is said of its reading and its run. Assumes nothing.
use Rattle.std.specs.Prelude.{List, [], ◌∷◌, ℕ}
use Prim.Native.String.{String}
use Rattle.witness.specs.Case.{Claim, number, n, j, s, cubes, verdict, settled, Case, refuses, runs}

-- a run at w that closes or ends; the document names no cube buffer, and 100 bytes are ample
abbrev stops : String → ℕ → List Claim → Case
stops text w says = runs text w 100 (number 0 ∷ says)

abbrev T· : String
T· = "aag 1 0 1 1 0/2 3/2/"

abbrev H· : String
H· = "aag 3 1 1 1 1/2/4 7/4/6 3 5/"

abbrev pub K· : String
K· = "aag 2 1 0 1 1/2/4/4 2 3/"

abbrev S· : String
S· = "aag 3 0 2 1 1/2 4/4 2 1/6/6 4 2/"

abbrev E· : String
E· = "aag 1 0 1 1 0/2 1/2/"

abbrev C· : String
C· = "aag 5 0 2 1 3/2 3/4 11/10/6 4 3/8 5 2/10 9 7/"

-- a first latch without a start value, which the second and its lamp follow
abbrev U· : String
U· = "aag 2 0 2 1 0/2 0 2/4 2/4/"

-- in the document's order; all but the case of no counts, U and the refusal 6 are starred. Of a text without lamps the reading is said, and its run is refused (request 2).
-- Cubes stand with their marks in front (request 8). The four behind U have a constraint (request 9), and the first three of them end.
unfoldable pub cases : List Case
cases =
    stops T· 0 (cubes (0x50 ∷ 0x60 ∷ []) ∷ n 2 ∷ j 0 ∷ s 0 ∷ verdict (0x00 ∷ []) ∷ [])
    ∷ stops T· 1 (cubes (0x50 ∷ 0x80 ∷ []) ∷ n 2 ∷ j 1 ∷ [])
    ∷ stops H· 0 (cubes (0x50 ∷ 0x40 ∷ []) ∷ n 2 ∷ j 1 ∷ verdict (0x00 ∷ []) ∷ [])
    ∷ stops K· 0 (cubes (0x40 ∷ []) ∷ n 1 ∷ j 0 ∷ verdict (0x00 ∷ []) ∷ [])
    ∷ stops S· 0 (cubes (0x58 ∷ 0x64 ∷ []) ∷ n 2 ∷ j 0 ∷ verdict (0x40 ∷ []) ∷ [])
    ∷ stops S· 1 (cubes (0x58 ∷ 0x80 ∷ []) ∷ n 2 ∷ j 1 ∷ verdict (0x00 ∷ []) ∷ [])
    ∷ stops E· 0 (cubes (0x50 ∷ 0x60 ∷ []) ∷ n 2 ∷ j 1 ∷ s 1 ∷ settled (0x80 ∷ []) ∷ verdict (0x00 ∷ []) ∷ [])
    ∷ runs E· 0 1 (number 15 ∷ n 1 ∷ j 0 ∷ s 0 ∷ cubes (0x50 ∷ []) ∷ verdict [] ∷ settled [] ∷ [])
    ∷ stops C· 0 (cubes (0x54 ∷ 0x64 ∷ 0x58 ∷ 0x68 ∷ []) ∷ n 4 ∷ j 0 ∷ [])
    ∷ stops C· 2 (cubes (0x54 ∷ 0x64 ∷ 0x80 ∷ []) ∷ n 3 ∷ j 2 ∷ [])
    ∷ stops C· 3 (cubes (0x54 ∷ 0x64 ∷ 0x58 ∷ 0x88 ∷ 0x40 ∷ []) ∷ n 5 ∷ j 4 ∷ [])
    ∷ runs "aag 0 0 0 0 0/" 0 100 (number 16 ∷ n 0 ∷ j 0 ∷ s 0 ∷ cubes [] ∷ verdict [] ∷ settled [] ∷ [])
    ∷ runs "aag 1 0 1 0 0/2 2 2/" 0 100 (number 16 ∷ n 0 ∷ j 0 ∷ s 0 ∷ cubes [] ∷ verdict [] ∷ settled [] ∷ [])
    ∷ stops U· 0 (cubes (0x44 ∷ 0x50 ∷ []) ∷ n 2 ∷ j 0 ∷ s 0 ∷ verdict (0x00 ∷ []) ∷ [])
    ∷ stops "aag 1 0 1 1 0 1 1/2 1/2/3/3/" 0 (cubes (0x50 ∷ []) ∷ n 1 ∷ j 1 ∷ s 0 ∷ verdict (0x60 ∷ []) ∷ settled (0x00 ∷ []) ∷ [])
    ∷ stops "aag 1 0 1 1 0 1 1/2 1 1/2/3/3/" 0 (cubes [] ∷ n 0 ∷ j 0 ∷ verdict (0x50 ∷ []) ∷ [])
    ∷ stops "aag 1 0 1 1 0 1 1/2 1 2/2/3/3/" 0 (cubes (0x40 ∷ []) ∷ n 1 ∷ j 1 ∷ verdict (0x00 ∷ []) ∷ [])
    ∷ stops "aag 1 0 1 1 0 0 1/2 2 2/2/3/" 0 (cubes (0x40 ∷ []) ∷ n 1 ∷ j 0 ∷ verdict (0x00 ∷ []) ∷ [])
    ∷ refuses "aag 2 1 0 0 1/2/4 4 2/" 7
    ∷ refuses "aag 2 1 0 0 1/2/4 6 2/" 6
    ∷ []
