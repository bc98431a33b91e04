use Rattle.std.proofs.Common.{◌≡◌, ◌++◌, map, sym, ap, ◌∙◌, append-nil}
use Rattle.std.specs.List.{zip}
use Rattle.std.proofs.lemmas.Slice.Zip.{either_empty_from_Zip}
use Rattle.dcv_syntax.specs.declared.names.Name.{Name}
use Rattle.dcv_scope.specs.CoreOf.{declared_slots}
use Rattle.dcv_scope.specs.Names.{texts}
use Rattle.dcv_core.specs.TruthViews.{plain_truth}
use Rattle.dcv_scope.specs.Expansions.{names_of, top_sight_of}
use Rattle.dcv_scope.proofs.InSight.{no_pairs, top-truths}
use Rattle.dcv_scope.proofs.expansion.Called.inside.Goals as goal

pub returns-clause-sight : goal.returns-clause-sight
returns-clause-sight c =
    let self = c.args.self.now in
    let top = top_sight_of self.variables.now self.macros.now in
    let parameters = zip (texts self.defined.now.parameters.items) (map plain_truth c.args.arguments.now) in
    let locals : names_of c.loop-parameter.names.items ≡ parameters =
    sym (append-nil _)
    ∙ ap (λ pairs. names_of c.loop-parameter.names.items ++ pairs)
    (sym (no_pairs (λ (p : Name). p.text) plain_truth _ _ (either_empty_from_Zip c.loop-parameter.parameter-iterator c.next.new.self c.next.result c.in-None.is c.next.ensures.steps)))
    ∙ c.loop-parameter.invariant in
    let truths : names_of c.in_ok-with_variables.field-0.items ≡ parameters ++ top.truths =
    c.in_ok-with_variables.ensures
    ∙ ap (λ names. names ++ declared_slots 0 self.variables.now) locals
    ∙ ap (λ names. parameters ++ names) (sym (top-truths self.variables.now self.macros.now)) in
    λ i. record { slots = c.args.slots; truths = truths i; macros = top.macros }
