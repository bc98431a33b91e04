use Rattle.std.proofs.Common.{◌≡◌, ℕ, List, ◌++◌, length, map}
use Rattle.std.specs.List.{flat_map}
use Rattle.dcv_automaton_text.specs.Spelled.{spelled_line}
use Rattle.dcv_automaton_lines.specs.Pieces.{IsFaultAt}
use Rattle.dcv_automaton_lines.specs.Parts.{Tail, After}
use Rattle.dcv_automaton_lines.specs.Gathered.{section_words, closed_by, IsOpen, HasLines}
use Rattle.dcv_automaton_lines.specs.Seen.{file_of}
use Rattle.dcv_automaton_lines.specs.declared.sections.Kind.TheVariants.{Node}
use Rattle.dcv_automaton_lines.proofs.sections.sections.Given as goal

abbrev pub invariant-loop-version : goal.invariant-loop-version
invariant-loop-version l =
    record {
      names : (file_of l.lines).names ≡ map (λ name. name.now) l.fn.names.items;
      states : l.lines.states ≡ l.fn.states;
      begun : IsOpen l.first (file_of l.lines);
      form : HasLines (file_of l.lines);
      spelled : l.text ≡ flat_map spelled_line (section_words (file_of l.lines)) ++ closed_by l.fn.version l.first l.rest;
      fault : (left : List ℕ) → IsFaultAt (After l.fn.version l.first) l.rest left → IsFaultAt (Tail l.fn.version Node) l.text left;
    }

abbrev pub decreases-loop-version : goal.decreases-loop-version
decreases-loop-version l = length l.rest
