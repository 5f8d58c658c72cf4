-- The reader and the writer of the binary form (specification, 4.17 and 4.18): their contracts. Assumes nothing.
use Rattle.std.specs.Prelude.{List, ℕ}
use Rattle.circuit.specs.declared.Counts.{Counts}
use Rattle.text.specs.Outcome.{Outcome}
use Rattle.text.specs.Text.{Content}
use Rattle.text.specs.Calls.{into_table, ReadBy, WrittenBy}
use Rattle.binary.specs.Binary.{read_binary, write_binary}

-- reader: 1 to 9 and 26 as the text has it, then 10 where the lent table is too short for the words
abbrev pub read_binary_into : List ℕ → List ℕ → Outcome Content
read_binary_into text table = into_table table (read_binary text)

-- The contract of the reader: its number, the counts, and the table at exit. A refusal changes no word; words beyond stay.
abbrev pub BinaryReading : (text table : List ℕ) (number : ℕ) (counts : Counts) (table' : List ℕ) → Type 0
BinaryReading text table number counts table' = ReadBy (read_binary_into text table) table number counts table'

-- The contract of the writer (3, 10 for the table, 11, 10 for the bytes): its number, the count of bytes written, and the buffer at exit.
-- A refusal changes no byte; bytes beyond stay.
abbrev pub BinaryWriting : (c : Counts) (table buffer : List ℕ) (number bytes : ℕ) (buffer' : List ℕ) → Type 0
BinaryWriting c table buffer number bytes buffer' = WrittenBy c table (write_binary c table) buffer number bytes buffer'
