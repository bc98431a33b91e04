-- For the proofs: the numbers of the entries.
--     AreNumbersOf file numbers      for each entry the least that no suffix tells from it
use Rattle.std.specs.Prelude.{◌≡◌, ℕ, List, length}
use Rattle.dcv_automaton_text.specs.File.{AutomatonFile}
use Rattle.dcv_automaton_text.specs.Meaning.{table_of, suffix_words_of}
use Rattle.dcv_certify.specs.Alike.{entries_of, AreLeastAlike}

pub record AreNumbersOf (file : AutomatonFile) (numbers : List ℕ) : Type 0 where
  pub count : length numbers ≡ entries_of file
  pub least : AreLeastAlike (table_of file) (suffix_words_of file) numbers
