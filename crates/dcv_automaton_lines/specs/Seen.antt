-- How clauses see lines of the code.
--     letter_of digits        the letter that is spelled so, as in a trace
--     file_of lines           the lines as plain data
--     IsFaultIn text answer   where the answer is a syntax fault, it is that of the text
use Rattle.std.specs.Prelude.{ℕ, Bool, nat_eq, if◌then◌else◌, List, [], ◌∷◌, map, Result, Err}
use Rattle.std.specs.Option.{option_map}
use Rattle.std.specs.Str.{byte}
use Rattle.dcv_automaton_text.specs.File.{NodeLine as FileNodeLine, StateLine as FileStateLine}
use Rattle.dcv_automaton_text.specs.File.{Access, EmptyAccess, StartAccess, AfterAccess, AccessLine as FileAccessLine}
use Rattle.dcv_automaton_text.specs.File.{Suffix, EmptySuffix, ThenSuffix, SuffixLine as FileSuffixLine}
use Rattle.dcv_automaton_text.specs.File.{StepLine as FileStepLine, StepPart as FileStepPart, AutomatonFile}
use Rattle.dcv_automaton_text.specs.Form.{IsSyntaxFault}
use Rattle.dcv_language.specs.declared.child.Child.{Child}
use Rattle.dcv_language.specs.declared.child.Child.TheVariants.{State, Node}
use Rattle.dcv_automaton_lines.specs.declared.lines.NodeLine.{NodeLine}
use Rattle.dcv_automaton_lines.specs.declared.lines.StateLine.{StateLine}
use Rattle.dcv_automaton_lines.specs.declared.lines.AccessWord.{AccessWord}
use Rattle.dcv_automaton_lines.specs.declared.lines.AccessWord.TheVariants.{Empty as EmptyWord, Start, After}
use Rattle.dcv_automaton_lines.specs.declared.lines.AccessLine.{AccessLine}
use Rattle.dcv_automaton_lines.specs.declared.lines.SuffixWord.{SuffixWord}
use Rattle.dcv_automaton_lines.specs.declared.lines.SuffixWord.TheVariants.{Empty, Then}
use Rattle.dcv_automaton_lines.specs.declared.lines.SuffixLine.{SuffixLine}
use Rattle.dcv_automaton_lines.specs.declared.lines.StepLine.{StepLine}
use Rattle.dcv_automaton_lines.specs.declared.lines.StepPart.{StepPart}
use Rattle.dcv_automaton_lines.specs.declared.lines.Lines.{Lines}
use Rattle.dcv_automaton_lines.specs.declared.reading.LinesFault.{LinesFault}
use Rattle.dcv_automaton_lines.specs.declared.reading.LinesFault.TheVariants.{Syntax}

-- a digit for each variable, and a dash where there is none
abbrev pub letter_of : List ℕ → List Bool
letter_of [] = []
letter_of (digit ∷ []) = if nat_eq digit (byte "-") then [] else nat_eq digit (byte "1") ∷ []
letter_of (first ∷ second ∷ digits) = map (nat_eq (byte "1")) (first ∷ second ∷ digits)

abbrev pub node_line_of : NodeLine → FileNodeLine
node_line_of line = record { number = line.number; name = line.name.now; hi = line.hi; lo = line.lo }

abbrev pub state_line_of : StateLine → FileStateLine
state_line_of line = record { number = line.number; accepting = line.accepting; row = line.row }

abbrev pub access_of : AccessWord → Access
access_of EmptyWord = EmptyAccess
access_of (Start letter) = StartAccess (letter_of letter.now)
access_of (After state letter) = AfterAccess state (letter_of letter.now)

abbrev pub access_line_of : AccessLine → FileAccessLine
access_line_of line = record { number = line.number; access = access_of line.access }

abbrev pub suffix_of : SuffixWord → Suffix
suffix_of Empty = EmptySuffix
suffix_of (Then letter suffix) = ThenSuffix (letter_of letter.now) suffix

abbrev pub suffix_line_of : SuffixLine → FileSuffixLine
suffix_line_of line = record { number = line.number; suffix = suffix_of line.suffix }

abbrev pub step_line_of : StepLine → FileStepLine
step_line_of line = record { number = line.number; at = line.at; states = line.states; nodes = line.nodes }

abbrev pub step_part_of : StepPart → FileStepPart
step_part_of part = record { count = part.count; lines = map step_line_of part.lines.items }

abbrev pub file_of : Lines → AutomatonFile
file_of lines =
    record {
      names = map (λ name. name.now) lines.names.items;
      states = lines.states;
      node_lines = map node_line_of lines.node_lines.items;
      state_lines = map state_line_of lines.state_lines.items;
      access_lines = map access_line_of lines.access_lines.items;
      suffix_lines = map suffix_line_of lines.suffix_lines.items;
      steps = option_map step_part_of lines.steps;
    }

abbrev pub IsFaultIn : List ℕ → Result Lines LinesFault → Type 0
IsFaultIn text (Err (Syntax at)) = IsSyntaxFault text at
IsFaultIn text _ = Unit {0}
