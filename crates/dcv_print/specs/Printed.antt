-- The file that is printed of an automaton: its node lines, its states with their rows, how its access words and the suffixes are spelled,
-- and what the steps took of which it was built.
--     printed_file raw names access suffixes counts    the file, of version 2
use Rattle.std.specs.Prelude.{ℕ, List, Some, map}
use Rattle.std.specs.List.{enumerate_from}
use Rattle.dcv_language.specs.declared.count.Count.{Count}
use Rattle.dcv_dfa.specs.Raw.{RawValue}
use Rattle.dcv_language.specs.declared.certificate.Access.{Access as CodeAccess}
use Rattle.dcv_language.specs.declared.certificate.Suffix.{Suffix as CodeSuffix}
pub use Rattle.dcv_automaton_file.specs.File.{texts_of, node_line, state_line}
unfoldable pub use Rattle.dcv_automaton_file.specs.File.{file_of}
use Rattle.dcv_automaton_read.specs.File.{access_from, suffix_from, step_part}
use Rattle.dcv_automaton_text.specs.File.{AccessLine, SuffixLine, AutomatonFile}

-- ---- lines, of what has a number

abbrev pub access_line : ℕ × CodeAccess → AccessLine
access_line numbered = record { number = numbered.0; access = access_from numbered.1 }

abbrev pub suffix_line : ℕ × CodeSuffix → SuffixLine
suffix_line numbered = record { number = numbered.0; suffix = suffix_from numbered.1 }

-- ---- the file

abbrev pub printed_file : RawValue → List (List ℕ) → List CodeAccess → List CodeSuffix → List Count → AutomatonFile
printed_file raw names access suffixes counts =
    record (file_of raw names (map access_line (enumerate_from 0 access)) (map suffix_line (enumerate_from 0 suffixes)))
    { steps = Some (step_part counts) }
