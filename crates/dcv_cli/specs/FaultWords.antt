-- How clauses see the words of a fault.
--     words_in words    what is written of them
use Rattle.std.specs.Prelude.{ℕ, List, ◌++◌, Option, None, Some}
use Rattle.std.specs.Fmt.{decimal}
use Rattle.dcv_cli.specs.Refusal.{fault_words}
use Rattle.dcv_cli.specs.declared.faults.FaultWords.{FaultWords}

abbrev pub words_by : List ℕ → Option ℕ → List ℕ
words_by word None = fault_words word
words_by word (Some number) = fault_words word ++ decimal number

abbrev pub words_in : FaultWords → List ℕ
words_in words = words_by words.word.now words.number
