-- A text that is too long, or has a fault, is no observer's.
use Rattle.dcv_cli.proofs.Common.{List, ℕ, subst, IfErr, OnTrue, IsRefusedObserver, status_of}
use Rattle.dcv_cli.proofs.Common.{is_determined}
use Rattle.dcv_cli.proofs.ThreeEnds.{refused_held}
use Rattle.dcv_cli.proofs.replay.observer_file.Goals as goal

pub returns-clause-refused : goal.returns-clause-refused
returns-clause-refused g c =
    let text = subst (λ (text : List ℕ). IfErr c.observer_of.result (λ refusal. OnTrue (is_determined (status_of refusal)) (IsRefusedObserver c.args.subset text refusal)))
    c.deref.ensures.value c.observer_of.ensures.refused in
    refused_held (g.F.Files.told c.args.files.now) c.args.name.now c.in_ok-text.text.items (λ refusal text. IsRefusedObserver c.args.subset text refusal) c.observer_of.result
    c.in_ok-text.ensures.ok text
