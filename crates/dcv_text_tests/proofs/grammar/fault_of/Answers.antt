use Rattle.std.proofs.Common.{IfOk, map, sym, subst}
use Rattle.dcv_grammar.specs.Grammar.{IsVerdict}
use Rattle.dcv_grammar.specs.Predictive.{IsPredictive}
use Rattle.dcv_text_tests.proofs.ListExample.{predictive, itself, tables_are}
use Rattle.dcv_text_tests.proofs.grammar.fault_of.Goals as goal

pub first_fault-requires : goal.first_fault-requires
first_fault-requires c =
    let same = tables_are c.item_rules.result.now c.list_rules.result.now c.item_rules.ensures c.list_rules.ensures in
    subst IsPredictive (sym same) predictive

pub returns : goal.returns
returns c =
    let same = tables_are c.item_rules.result.now c.list_rules.result.now c.item_rules.ensures c.list_rules.ensures in
    subst (λ g. IfOk c.first_fault.result (IsVerdict g (map itself c.args.tokens.now))) same c.first_fault.ensures.verdict
