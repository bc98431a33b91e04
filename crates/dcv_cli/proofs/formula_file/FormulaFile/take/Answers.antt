-- A text that is too long, or has a fault, is no formula file.
use Rattle.dcv_cli.proofs.Common.{List, ℕ, subst, IfErr, OnTrue, IsRefused, status_of}
use Rattle.dcv_cli.proofs.Common.{is_determined}
use Rattle.dcv_cli.proofs.ThreeEnds.{refused_held}
use Rattle.dcv_cli.proofs.formula_file.FormulaFile.take.Goals as goal

pub returns-clause-refused : goal.returns-clause-refused
returns-clause-refused g c =
    refused_held (g.F.Files.told c.args.files.now) c.args.name.now c.in_ok-text.text.items (λ refusal text. IsRefused text refusal) c.of_text.result c.in_ok-text.ensures.ok
    (subst (λ (text : List ℕ). IfErr c.of_text.result (λ refusal. OnTrue (is_determined (status_of refusal)) (IsRefused text refusal))) c.deref.ensures.value c.of_text.ensures.refused)
