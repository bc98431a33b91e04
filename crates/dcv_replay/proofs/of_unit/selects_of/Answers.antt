use Rattle.std.proofs.Common.{◌∙◌, ◌++◌, map, ap}
use Rattle.dcv_replay.specs.Selecting.{most_names}
use Rattle.dcv_replay.specs.OfUnit.{statement_select, returned_selects}
use Rattle.dcv_replay.proofs.UnitReplays.{code_placed, returned_placed}
use Rattle.dcv_replay.proofs.of_unit.selects_of.Goals as goal

pub push_statements-requires : goal.push_statements-requires
push_statements-requires c = code_placed c.args.unit.now c.keeps_the_rules.ensures.form most_names c.requires c.step-step.result.now.statements.items c.step-step.ensures.statements

pub push_returned-requires : goal.push_returned-requires
push_returned-requires c = returned_placed c.args.unit.now c.keeps_the_rules.ensures.form most_names c.requires c.step-step.result.now.returned c.step-step.ensures.returned

pub returns : goal.returns
returns c = record {
  code = c.step-step.result.now.statements.items;
  same = c.step-step.ensures.statements;
  returned = c.step-step.result.now.returned;
  same_returned = c.step-step.ensures.returned;
  all =
      c.in_ok-push_returned.ensures
      ∙ ap (λ front. front ++ returned_selects c.args.answer c.step-step.result.now.returned)
      (c.in_ok-push_statements.ensures ∙ ap (λ front. front ++ map statement_select c.step-step.result.now.statements.items) c.new-selects.ensures.items);
}
