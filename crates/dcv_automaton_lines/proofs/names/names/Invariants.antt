use Rattle.std.proofs.Common.{◌≡◌, ℕ, ◌<◌, true, false, List, length, map}
use Rattle.std.specs.List.{All}
use Rattle.dcv_automaton_text.specs.Form.{IsNameWord}
use Rattle.dcv_automaton_lines.specs.Pieces.{IsStuckIn}
use Rattle.dcv_automaton_lines.specs.Parts.{Words}
use Rattle.dcv_automaton_lines.proofs.NameSets.{read_so_far}
use Rattle.dcv_automaton_lines.proofs.names.names.Given as goal

abbrev pub invariant-loop-is_open : goal.invariant-loop-is_open
invariant-loop-is_open l =
    record {
      form : All IsNameWord (map (λ word. word.now) l.words.items);
      some : l.is_open ≡ false → 0 < length l.words.items;
      spelled : l.text ≡ read_so_far l.is_open (map (λ word. word.now) l.words.items) l.rest;
      fault : l.is_open ≡ true → (left : List ℕ) → IsStuckIn Words l.rest left → IsStuckIn Words l.text left;
    }

abbrev pub decreases-loop-is_open : goal.decreases-loop-is_open
decreases-loop-is_open l = length l.rest
