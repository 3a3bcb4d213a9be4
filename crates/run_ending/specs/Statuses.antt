-- How a run ends: the number and the line of each status.
use Rattle.std.specs.Prelude.{ℕ, List, codes}
use Rattle.run_ending.specs.declared.status.Status.{Status}
use Rattle.run_ending.specs.declared.status.Status.TheVariants as status

abbrev pub status_number : Status → ℕ
status_number status.Done = 0
status_number status.WordsRefused = 2
status_number status.InputRefused = 3
status_number status.ReadFailed = 4
status_number status.WriteFailed = 5
status_number (status.NoMemory _) = 6

abbrev pub words_line : List ℕ
words_line = codes "ccp: words refused\n"

abbrev pub read_line : List ℕ
read_line = codes "ccp: read fault\n"

abbrev pub write_line : List ℕ
write_line = codes "ccp: write fault\n"

abbrev pub memory_line : List ℕ
memory_line = codes "ccp: no memory\n"
