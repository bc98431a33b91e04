use Rattle.std.proofs.Common.{◌≡◌, ℕ, List, ◌++◌, length, map}
use Rattle.std.specs.List.{All, flat_map}
use Rattle.dcv_automaton_text.specs.Form.{IsStepLine}
use Rattle.dcv_automaton_text.specs.Spelled.{step_words, spelled_line}
use Rattle.dcv_automaton_lines.specs.Pieces.{IsFaultAt}
use Rattle.dcv_automaton_lines.specs.Parts.{StepTail}
use Rattle.dcv_automaton_lines.specs.Seen.{step_line_of}
use Rattle.dcv_automaton_lines.proofs.steps.step_lines.Given as goal

abbrev pub invariant-loop-rest : goal.invariant-loop-rest
invariant-loop-rest l =
    record {
      form : All IsStepLine (map step_line_of l.lines.items);
      spelled : l.text ≡ flat_map spelled_line (map step_words (map step_line_of l.lines.items)) ++ l.rest;
      fault : (left : List ℕ) → IsFaultAt StepTail l.rest left → IsFaultAt StepTail l.text left;
    }

abbrev pub decreases-loop-rest : goal.decreases-loop-rest
decreases-loop-rest l = length l.rest
