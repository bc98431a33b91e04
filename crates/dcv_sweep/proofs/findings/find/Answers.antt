use Rattle.std.proofs.Common.{Err, ap, ◌∙◌, arith}
use Rattle.std.proofs.lemmas.Result.{IfErr-at_err}
use Rattle.dcv_explore.specs.Budget.{TooManyStates, TooManyNodes}
use Rattle.dcv_sweep.proofs.findings.find.Goals as goal

pub returns-in-Err-States : goal.returns-in-Err-States
returns-in-Err-States c = record {
  finding = λ tree of. record {
    kind = TooManyStates;
    number = _;
    is_over = (IfErr-at_err _ (c.in-Err-States.is ∙ ap Err c.in-Err-States.field-0-is) (c.build.ensures.over tree of)).1;
  };
  few = omega arith;
}

pub returns-in-Err-Nodes : goal.returns-in-Err-Nodes
returns-in-Err-Nodes c = record {
  finding = λ tree of. record {
    kind = TooManyNodes;
    number = _;
    is_over = (IfErr-at_err _ (c.in-Err-Nodes.is ∙ ap Err c.in-Err-Nodes.field-0-is) (c.build.ensures.over tree of)).1;
  };
  few = omega arith;
}
