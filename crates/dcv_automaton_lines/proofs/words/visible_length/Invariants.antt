use Rattle.std.proofs.Common.{◌≡◌, true, take}
use Rattle.std.specs.List.{list_all}
use Rattle.dcv_automaton_text.specs.Form.{is_visible}
use Rattle.dcv_automaton_lines.proofs.words.visible_length.Given as goal

abbrev pub invariant-loop-place : goal.invariant-loop-place
invariant-loop-place l = list_all is_visible (take l.place l.text) ≡ true
