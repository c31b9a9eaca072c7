-- What a job is over, and what it asks of the text of its program: whether the ports of its memories are judged.
use Rattle.std.specs.Prelude.{ℕ, Bool, true, false, List, [], Option, Some, None, slice_index_or}
use Rattle.dh_app.specs.declared.words.Job.{Job}
use Rattle.dh_app.specs.declared.words.Job.TheVariants.{Check, Lower, Interpret, Simulate}

-- what a check asks, and the compiler
abbrev pub checked : Bool
checked = true

-- what the interpreter asks: with `--unchecked` it does not ask for the ports
abbrev pub interpreted : (unchecked : Bool) → Bool
interpreted false = checked
interpreted true = false

-- what a job asks
abbrev pub asked_by : Job → Bool
asked_by (Check file) = checked
asked_by (Lower file) = checked
asked_by (Interpret file data_ steps unchecked) = interpreted unchecked
asked_by (Simulate file data_ clocks) = checked

-- the position of the word that names the file of its program
abbrev pub file_at : Job → ℕ
file_at (Check file) = file
file_at (Lower file) = file
file_at (Interpret file data_ steps unchecked) = file
file_at (Simulate file data_ clocks) = file

-- and of its data, where it has them
abbrev pub data_at : Job → Option ℕ
data_at (Check file) = None
data_at (Lower file) = None
data_at (Interpret file data_ steps unchecked) = Some data_
data_at (Simulate file data_ clocks) = Some data_

-- the word at a position
abbrev pub argument_word : (words : List (List ℕ)) → ℕ → List ℕ
argument_word words k = slice_index_or words k []
