-- What the reader and the builder of cores say is what is right for the text.
use Rattle.dcv_cli.proofs.Common.{Vec, Global, ap, refl, err_from_is_err_and, Name}
use Rattle.dcv_syntax.specs.Views.{plain_file}
use Rattle.dcv_cli.proofs.Budgets.{is_core_of}
use Rattle.dcv_cli.proofs.Outcomes.{explains_reading, explains_scope}
use Rattle.dcv_scope.specs.CoreOf.{core_of_file}
use Rattle.dcv_cli.proofs.formula_file.FormulaFile.of_text.Goals as goal

pub returns-in_err-file-clause-refused : goal.returns-in_err-file-clause-refused
returns-in_err-file-clause-refused c =
    let p = err_from_is_err_and c.from_residual.result c.from_residual.ensures.1 in
    rw (p.1, p.2) (explains_reading c.args.text.now c.in_err-file.field-0.0 c.requires c.in_err-file.ensures.fault)

pub returns-in_err-core-clause-refused : goal.returns-in_err-core-clause-refused
returns-in_err-core-clause-refused c =
    let p = err_from_is_err_and c.from_residual-in_err-core.result c.from_residual-in_err-core.ensures.1 in
    rw (p.1, p.2) (explains_scope c.args.text.now (plain_file c.in_ok-file.file) c.in_err-core.field-0.0
    (record { fits = c.requires; no_fault = c.in_ok-file.ensures.no_fault; spelled = c.in_ok-file.ensures.spelled }) c.in_err-core.ensures.fault)

pub returns-clause-read : goal.returns-clause-read
returns-clause-read c =
    let file = plain_file c.in_ok-file.file in
    let built = c.in_ok-core.ensures in (
      file,
      record {
        spelled = record {
          sentence = record { fits = c.requires; no_fault = c.in_ok-file.ensures.no_fault; spelled = c.in_ok-file.ensures.spelled };
          has_core = built.no_fault;
        };
        names = ap (λ (names : Vec Name Global). names.items) c.names_of-names.ensures;
        declared = built.declared;
        steps = built.steps;
        goal = refl;
        core = record { tree = core_of_file file; is = is_core_of file c.in_ok-core.core built.declared built.steps };
      },
    )
