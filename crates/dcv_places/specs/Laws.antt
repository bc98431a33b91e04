-- Where names and steps stand.
use Rattle.std.specs.Prelude.{◌≡◌, ℕ, ◌<◌, List, length, map, Some, slice_get}
use Rattle.std.specs.List.Sorted.{IsStrictlyIncreasing}
use Rattle.dcv_syntax.specs.Plain.{PlainFile}
use Rattle.dcv_reader.specs.Spelling.{Spells}
use Rattle.dcv_core.specs.Steps.{PlainStep, steps_of}
use Rattle.dcv_scope.specs.Names.{occurrences_in_file}
use Rattle.dcv_scope.specs.CoreOf.{core_of_file}

-- the names of a file that a text spells occur in the order of their offsets, so the first fault among them is that at the least
abbrev pub NamesAscend : Type 0
NamesAscend = (text : List ℕ) (file : PlainFile) → Spells text file
    → IsStrictlyIncreasing (map (λ o. o.name.span.start) (occurrences_in_file file))

-- each step of the core of a file that a text spells begins in the text
abbrev pub StepsBeginInText : Type 0
StepsBeginInText = (text : List ℕ) (file : PlainFile) → Spells text file → (number : ℕ) (step : PlainStep)
    → slice_get (steps_of (length file.variables) (core_of_file file)) number ≡ Some step → step.span.start < length text
