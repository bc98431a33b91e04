use Rattle.std.proofs.Common.{append_assoc, ◌++◌, ap, ◌∙◌, codes, List, ℕ}
use Rattle.std.specs.Fmt.{decimal}
use Rattle.dcv_automaton_text.specs.Spelled.{target_word}
use Rattle.dcv_io.proofs.Putting.{puts_same, puts_both}
use Rattle.dcv_print.proofs.automaton_lines.put_state.Goals as goal

pub returns : goal.returns
returns g c =
    puts_same _ _ _ _ (puts_both _ _ _ _ _ (puts_both _ _ _ _ _ c.put_state_head.ensures c.put_child.ensures) c.put.ensures)
    (ap (λ (answer : List ℕ). ((codes "state " ++ (decimal c.args.state ++ (codes " " ++ (answer ++ codes " ")))) ++ target_word c.args.row) ++ codes "\n") c.answer.ensures ∙ simp append_assoc)
