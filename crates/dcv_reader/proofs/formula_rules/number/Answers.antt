use Rattle.std.proofs.Common.{◌≡◌, List, subst, arith}
use Rattle.dcv_translation.specs.Taken.{Begins}
use Rattle.dcv_tokens.specs.Classes as classes
use Rattle.dcv_tokens.specs.Decimal.{value_of}
use Rattle.dcv_tokens.specs.Reading.{seen}
use Rattle.dcv_tokens.proofs.ClassLaws.{number_class}
use Rattle.dcv_reader.specs.Nodes.{token_class}
use Rattle.dcv_reader.specs.Actions.{Part}
use Rattle.dcv_reader.specs.Parts.{IsNumber}
use Rattle.dcv_reader.proofs.formula_rules.number.Goals as goal

pub value-requires : goal.value-requires
value-requires c =
    let token = c.token.result.token in
    number_class token.bytes.now token.is_a_token (subst (λ (parts : List Part). Begins IsNumber parts) c.token.ensures c.requires)

pub returns : goal.returns
returns c =
    let token = c.token.result.token in
    let is : token_class (seen token) ≡ classes.number = subst (λ (parts : List Part). Begins IsNumber parts) c.token.ensures c.requires in
    let small = c.token.result.small is in
    let value : c.value.result ≡ value_of token.bytes.now = omega (arith, c.value.ensures, small) in
    let span = c.span.ensures in
    (seen token, c.token.ensures, cc)
