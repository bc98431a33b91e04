use Rattle.std.proofs.Common.{ℕ, List}
use Rattle.dcv_c.specs.Seen.{seen_statement}
use Rattle.dcv_synth.specs.Units.{next_choice, output_choice}
use Rattle.dcv_synth.proofs.UnitMade.{both_pushed}
use Rattle.dcv_synth.proofs.statements.push_row.Goals as goal

pub returns : goal.returns
returns c = λ (all names : List (List ℕ)) (count : ℕ) has next output.
    let row = c.args.row in
    both_pushed (seen_statement all) c.args.statements.now.items c.push.new.self.items c.push-2.new.self.items c.next_choice.result c.output_choice.result
    (next_choice row.state row.next) (output_choice row.state row.output) c.in_ok-push.ensures.items c.in_ok-push-2.ensures.items
    (c.next_choice.ensures all names count has next) (c.output_choice.ensures all names count has output)
