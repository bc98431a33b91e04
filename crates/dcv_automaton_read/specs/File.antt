-- How clauses see an automaton that was read.
--     access_from, suffix_from                   how words are spelled, as plain data
--     node_line names numbered ..                the line of what has this number
--     file_from names nodes ..                   the plain data of a text
--     row_of line                                what the line of a state says
--     count_of line, counts_of part              what the lines of steps say
--     counts_in steps                            what the steps took, where it is said
--     IsNarrow, IsNarrowSuffix                   its letter has 32 values at most
--     IsRead file nodes                          the file keeps the rules, and these are its nodes
--     IsKept file nodes at                       and its step part begins at this offset of its text
--     accesses_of file, suffixes_of file         how the words of a file are spelled
use Rattle.std.specs.Prelude.{◌≡◌, ℕ, ◌≤◌, List, [], Option, length, map, option_map, slice_index_or, Vec}
use Rattle.std.specs.List.{enumerate_from}
use Rattle.dcv_automaton_text.specs.File.{NodeLine, StateLine, Access, EmptyAccess, StartAccess, AfterAccess, AccessLine}
use Rattle.dcv_automaton_text.specs.File.{Suffix, EmptySuffix, ThenSuffix, SuffixLine, StepLine, StepPart, AutomatonFile}
use Rattle.dcv_automaton_text.specs.Rules.{IsGood}
use Rattle.dcv_automaton_text.specs.Spelled.{spelled_front}
use Rattle.dcv_automaton_lines.specs.declared.lines.StateLine.{StateLine as CodeLine}
use Rattle.dcv_automaton_lines.specs.declared.lines.StepLine.{StepLine as CodeStepLine}
use Rattle.dcv_automaton_lines.specs.declared.lines.StepPart.{StepPart as CodeStepPart}
use Rattle.dcv_automaton_read.specs.Seen.{node_of}
use Rattle.dcv_automaton_read.specs.declared.nodes.Node.{Node}
use Rattle.dcv_automaton_read.specs.declared.file.Row.{Row}
use Rattle.dcv_language.specs.declared.count.Count.{Count}
use Rattle.dcv_language.specs.declared.certificate.Access.{Access as ReadAccess}
use Rattle.dcv_language.specs.declared.certificate.Access.TheVariants.{Empty as NoLetter, Start, After}
use Rattle.dcv_language.specs.declared.certificate.Suffix.{Suffix as ReadSuffix}
use Rattle.dcv_language.specs.declared.certificate.Suffix.TheVariants.{Empty, Then}

abbrev pub access_from : ReadAccess → Access
access_from NoLetter = EmptyAccess
access_from (Start letter) = StartAccess letter
access_from (After state letter) = AfterAccess state letter

abbrev pub suffix_from : ReadSuffix → Suffix
suffix_from Empty = EmptySuffix
suffix_from (Then letter suffix) = ThenSuffix letter suffix

abbrev pub node_line : List (List ℕ) → ℕ × Node → NodeLine
node_line names (number, node) =
    record { number = number; name = slice_index_or names node.slot []; hi = node.hi; lo = node.lo }

abbrev pub state_line : ℕ × Row → StateLine
state_line (number, row) = record { number = number; accepting = row.accepting; row = row.next }

abbrev pub access_line : ℕ × Access → AccessLine
access_line (number, access) = record { number = number; access = access }

abbrev pub suffix_line : ℕ × Suffix → SuffixLine
suffix_line (number, suffix) = record { number = number; suffix = suffix }

abbrev pub step_line : ℕ × Count → StepLine
step_line (number, count) = record { number = number; at = count.at; states = count.states; nodes = count.nodes }

abbrev pub step_part : List Count → StepPart
step_part counts = record { count = length counts; lines = map step_line (enumerate_from 0 counts) }

-- lines have their places as numbers
abbrev pub file_from : List (List ℕ) → List Node → List Row → List ReadAccess → List ReadSuffix
    → Option (List Count) → AutomatonFile
file_from names nodes rows access suffixes steps =
    record {
      names = names;
      states = length rows;
      node_lines = map (node_line names) (enumerate_from 0 nodes);
      state_lines = map state_line (enumerate_from 0 rows);
      access_lines = map access_line (enumerate_from 0 (map access_from access));
      suffix_lines = map suffix_line (enumerate_from 0 (map suffix_from suffixes));
      steps = option_map step_part steps;
    }

pub record IsRead (file : AutomatonFile) (nodes : List Node) : Type 0 where
  pub good : IsGood file
  pub nodes_are : nodes ≡ map (node_of file.names) file.node_lines

-- the offset is that of the last line where there is no step part
pub record IsKept (file : AutomatonFile) (nodes : List Node) (steps_at : ℕ) : Type 0 where
  pub read : IsRead file nodes
  pub front : steps_at ≡ length (spelled_front file)

abbrev pub accesses_of : AutomatonFile → List Access
accesses_of file = map (λ (line : AccessLine). line.access) file.access_lines

abbrev pub suffixes_of : AutomatonFile → List Suffix
suffixes_of file = map (λ (line : SuffixLine). line.suffix) file.suffix_lines

abbrev pub row_of : CodeLine → Row
row_of line = record { accepting = line.accepting; next = line.row }

abbrev pub count_of : CodeStepLine → Count
count_of line = record { at = line.at; states = line.states; nodes = line.nodes }

abbrev pub counts_of : CodeStepPart → List Count
counts_of part = map count_of part.lines.items

abbrev pub counts_in : {Z : Type 0} → Option (Vec Count Z) → Option (List Count)
counts_in {Z} steps = option_map (λ (counts : Vec Count Z). counts.items) steps

abbrev pub IsNarrow : Access → Type 0
IsNarrow EmptyAccess = Unit {0}
IsNarrow (StartAccess letter) = length letter ≤ 32
IsNarrow (AfterAccess state letter) = length letter ≤ 32

abbrev pub IsNarrowSuffix : Suffix → Type 0
IsNarrowSuffix EmptySuffix = Unit {0}
IsNarrowSuffix (ThenSuffix letter suffix) = length letter ≤ 32
