-- Both versions of a text: version 2 says what the steps took, and version 1 does not.
--     version_of file         the version of a file's text
--     first_version file      the file without its step part
--     second_version file     the file with its step part, of no steps where it has none
--     steps_of file           the lines of its steps
use Rattle.std.specs.Prelude.{ℕ, List, [], Option, None, Some}
use Rattle.dcv_automaton_text.specs.File.{StepLine, StepPart, AutomatonFile}

abbrev pub version_by : Option StepPart → ℕ
version_by None = 1
version_by (Some part) = 2

abbrev pub version_of : AutomatonFile → ℕ
version_of file = version_by file.steps

abbrev pub first_version : AutomatonFile → AutomatonFile
first_version file = record file { steps = None }

abbrev pub part_or_none : Option StepPart → StepPart
part_or_none None = record { count = 0; lines = [] }
part_or_none (Some part) = part

abbrev pub second_version : AutomatonFile → AutomatonFile
second_version file = record file { steps = Some (part_or_none file.steps) }

abbrev pub lines_in : Option StepPart → List StepLine
lines_in None = []
lines_in (Some part) = part.lines

abbrev pub steps_of : AutomatonFile → List StepLine
steps_of file = lines_in file.steps
