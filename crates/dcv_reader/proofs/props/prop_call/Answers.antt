use Rattle.std.proofs.Common.{map, ap, ◌∙◌}
use Rattle.dcv_syntax.specs.Plain.{PropCall, arguments_of}
use Rattle.dcv_syntax.specs.Views.{plain_prop}
use Rattle.dcv_syntax.proofs.PlainRows.{plain_call}
use Rattle.dcv_reader.specs.Nodes.{bare_prop}
use Rattle.dcv_reader.proofs.Listed.{if_ok}
use Rattle.dcv_reader.proofs.props.prop_call.Goals as goal

pub returns : goal.returns
returns c =
    let arguments = arguments_of (map plain_prop c.args.arguments.props.items) in
    if_ok c.boxed_prop.result
    (λ p is. is ∙ ap (λ kind. bare_prop kind c.call_span-span.result) (plain_call c.in_ok-name.name c.args.arguments.props)
    ∙ ap (λ name. bare_prop (PropCall name arguments) c.call_span-span.result) c.in_ok-name.ensures
    ∙ ap (bare_prop _) c.call_span-span.ensures)
    c.boxed_prop.ensures
