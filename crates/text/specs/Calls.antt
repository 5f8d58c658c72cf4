-- The reader and the writer (specification, 4.9 and 4.10): their refusals in order, and what they leave. Assumes nothing.
use Rattle.std.specs.Prelude.{◌≡◌, List, [], ◌∷◌, ◌++◌, ℕ, leb, length}
use Rattle.three.specs.Lists.{over}
use Rattle.circuit.specs.declared.Counts.{Counts}
use Rattle.circuit.specs.Refusal.{Test, ◌or◌, refusal, left_by}
use Rattle.circuit.specs.Table.{plain_counts, table_length, circuit_tests}
use Rattle.text.specs.Outcome.{Outcome, number_of, further, leaves}
use Rattle.text.specs.Text.{Content, read_text, write_text}

-- what a reader makes of a text, then 10 where the lent table is too short for the words
unfoldable pub into_table : List ℕ → Outcome Content → Outcome Content
into_table table o = further (λ c. leb (table_length c.counts) (length table) or 10 ∷ []) o

-- reader: 1 to 9 as the text has it, then 10
abbrev pub read_into : List ℕ → List ℕ → Outcome Content
read_into text table = into_table table (read_text text)

-- a refusal returns zeros beside its number
abbrev pub zeros : Counts
zeros = plain_counts 0 0 0 0

-- What a reader leaves by an outcome: its number, the counts, and the table at exit. A refusal changes no word; words beyond stay.
pub record ReadBy (o : Outcome Content) (table : List ℕ) (number : ℕ) (counts : Counts) (table' : List ℕ) : Type 0 where
  pub answers : number ≡ number_of o
  pub returns : counts ≡ leaves (λ c. c.counts) zeros o
  pub fills : table' ≡ leaves (λ c. over c.words table) table o

-- The contract of the reader
abbrev pub Reading : (text table : List ℕ) (number : ℕ) (counts : Counts) (table' : List ℕ) → Type 0
Reading text table number counts table' = ReadBy (read_into text table) table number counts table'

-- writer: 3, 10 for the table, 11, 10 for the bytes that are written
unfoldable pub putting_tests : Counts → List ℕ → List ℕ → List ℕ → List Test
putting_tests c table written buffer = circuit_tests c table ++ (leb (length written) (length buffer) or 10 ∷ [])

-- the same for the text
abbrev pub write_tests : Counts → List ℕ → List ℕ → List Test
write_tests c table buffer = putting_tests c table (write_text c table) buffer

-- What a writer of these bytes leaves: its number, the count of bytes written, and the buffer at exit. A refusal changes no byte; bytes beyond stay.
pub record WrittenBy (c : Counts) (table written buffer : List ℕ) (number bytes : ℕ) (buffer' : List ℕ) : Type 0 where
  pub answers : number ≡ refusal (putting_tests c table written buffer)
  pub returns : bytes ≡ left_by number (length written) 0
  pub fills : buffer' ≡ left_by number (over written buffer) buffer

-- The contract of the writer
abbrev pub Writing : (c : Counts) (table buffer : List ℕ) (number bytes : ℕ) (buffer' : List ℕ) → Type 0
Writing c table buffer number bytes buffer' = WrittenBy c table (write_text c table) buffer number bytes buffer'
