-- What the reading of numbers and lines answers: positions in place of the texts that are left, numbers in an array in place of lists; nothing here has to be believed. Assumes nothing.
use Rattle.std.specs.Prelude.{◌≡◌, true, false, List, [], ◌∷◌, ℕ, zero, suc, ◌-◌, ◌≤◌, length, take, drop, Option, Some, None}
use Rattle.lines.specs.declared.Number.{Number}
use Rattle.lines.specs.declared.Ending.{Ending}
use Rattle.lines.specs.declared.Ending.TheVariants.{Newline, OfficeNewline}
use Rattle.lines.specs.declared.InLine.{InLine}
use Rattle.lines.specs.declared.InLine.TheVariants.{Last, More}
use Rattle.lines.specs.declared.read_line.ReadLine.{ReadLine}
use Rattle.text.specs.Part.{Part, got, ill}
use Rattle.text.specs.Decimal.{is_digit}
use Rattle.text.specs.Line.{newline, office_newline, strip, prepend, split_line}

-- the text from a position on
unfoldable pub from : List ℕ → ℕ → List ℕ
from text at = drop at text

-- the digit that a text opens with
unfoldable pub leading : List ℕ → Option ℕ
leading [] = None
leading (b ∷ t) = elim (is_digit b) [ true ↦ Some (b - 48) | false ↦ None ]

-- a number, and the text behind the position after it
unfoldable pub number_part : List ℕ → Option Number → Part ℕ
number_part text (Some n) = got n.value (from text n.next)
number_part text None = ill

-- that position
unfoldable pub number_end : Option Number → ℕ
number_end (Some n) = n.next
number_end None = 0

-- A number of a text, read as p
pub record NumberFound (text : List ℕ) (p : Part ℕ) (n : Option Number) : Type 0 where
  pub reads : p ≡ number_part text n
  pub within : number_end n ≤ length text

-- the ending that the code means
abbrev pub ending_bytes : Ending → List ℕ
ending_bytes Newline = newline
ending_bytes OfficeNewline = office_newline

-- its first byte, and how many bytes stand in front of byte 10
abbrev pub first_byte : Ending → ℕ
first_byte Newline = 10
first_byte OfficeNewline = 13

abbrev pub lead_bytes : Ending → ℕ
lead_bytes Newline = 0
lead_bytes OfficeNewline = 1

-- the text behind an ending
unfoldable pub stripped : List ℕ → Option ℕ → Part (Unit {0})
stripped text (Some next) = got tt (from text next)
stripped text None = ill

-- the position behind it
unfoldable pub ending_end : Option ℕ → ℕ
ending_end (Some next) = next
ending_end None = 0

-- The ending of a line of a text, at a position
pub record EndingAt (ending text : List ℕ) (at : ℕ) (n : Option ℕ) : Type 0 where
  pub reads : strip ending (from text at) ≡ stripped text n
  pub within : ending_end n ≤ length text

-- a number in a line, and at most `most` more behind it
unfoldable pub line_part : List ℕ → List ℕ → ℕ → Option InLine → Part (List ℕ)
line_part ending text most (Some (Last n)) = got (n.value ∷ []) (from text n.next)
line_part ending text most (Some (More n)) = prepend n.value (split_line ending most (from text n.next))
line_part ending text most None = ill

-- the position after that number and what stands behind it
unfoldable pub line_end : Option InLine → ℕ
line_end (Some (Last n)) = n.next
line_end (Some (More n)) = n.next
line_end None = 0

-- A number in a line of a text, found at the front of t
pub record FoundInLine (ending text t : List ℕ) (n : Option InLine) : Type 0 where
  pub reads : (most : ℕ) → split_line ending (suc most) t ≡ line_part ending text most n
  pub within : line_end n ≤ length text

-- so many of these numbers; a line has at least one
unfoldable pub counted : ℕ → List ℕ → List ℕ → Part (List ℕ)
counted zero ns r = ill
counted (suc n) ns r = got (take (suc n) ns) r

-- the numbers of a line
unfoldable pub numbers_of : ReadLine → List ℕ
numbers_of l = take l.count l.numbers

-- A line of a text, read as p
pub record LineFound (text : List ℕ) (p : Part (List ℕ)) (l : ReadLine) : Type 0 where
  pub reads : p ≡ counted l.count l.numbers (from text l.next)
  pub within : l.next ≤ length text
