-- The nodes of plain trees as a text spells them: which node, and from where to where it stands.
--     token_class token                        what a token is to the grammar
--     name_of, number_of, relation_of token    the name, number or relation that a token is
--     bracket_of, .., quantifier_of token      which of its forms a token begins
--     bare_prop kind span, bare kind span      a proposition or formula without parentheses of its own
--     prop_list, formula_list kind first more  one operand stands for itself, and more are a list
use Rattle.std.specs.Prelude.{ℕ, ◌==◌, List, [], ◌∷◌, Option, Some, None, if◌then◌else◌}
use Rattle.dcv_syntax.specs.declared.names.Name.{Name}
use Rattle.dcv_syntax.specs.declared.names.Span.{Span}
use Rattle.dcv_syntax.specs.Spans.{covering}
use Rattle.dcv_syntax.specs.declared.formulas.Number.{Number}
use Rattle.dcv_syntax.specs.declared.formulas.Relation.{Relation}
use Rattle.dcv_syntax.specs.declared.formulas.Relation.TheVariants.{Equal, Less, AtMost, Greater, AtLeast}
use Rattle.dcv_syntax.specs.declared.formulas.Bracket.{Bracket}
use Rattle.dcv_syntax.specs.declared.formulas.Bracket.TheVariants as brackets
use Rattle.dcv_syntax.specs.declared.formulas.Count.{Count}
use Rattle.dcv_syntax.specs.declared.formulas.Count.TheVariants as counts
use Rattle.dcv_syntax.specs.declared.formulas.Unary.{Unary}
use Rattle.dcv_syntax.specs.declared.formulas.Unary.TheVariants as unary
use Rattle.dcv_syntax.specs.declared.formulas.Quantifier.{Quantifier}
use Rattle.dcv_syntax.specs.declared.formulas.Quantifier.TheVariants as quantifiers
use Rattle.dcv_syntax.specs.declared.propositions.Connective.{Connective}
use Rattle.dcv_syntax.specs.declared.propositions.Direction.{Direction}
use Rattle.dcv_syntax.specs.declared.propositions.Direction.TheVariants as directions
use Rattle.dcv_syntax.specs.Plain.{PlainPropKind, PropConstant, PropCall, PropNot, PropJoined, PropImplies, PropShifted, PlainProp, PlainPropOperand}
use Rattle.dcv_syntax.specs.Plain.{arguments_of, prop_operands_of}
use Rattle.dcv_syntax.specs.Plain.{PlainFormulaKind, FormulaConstant, FormulaPt, FormulaExt, FormulaBracketed, FormulaCounted}
use Rattle.dcv_syntax.specs.Plain.{FormulaCall, FormulaApplied, FormulaImplies, FormulaQuantified}
use Rattle.dcv_syntax.specs.Plain.{PlainFormulaOperands, PlainFormulaOperand, formula_operands_of}
use Rattle.dcv_tokens.specs.Tokens.{Token, span_of, span_over}
use Rattle.dcv_tokens.specs.Decimal.{value_of}
use Rattle.dcv_tokens.specs.Classes as classes
use Rattle.dcv_tokens.specs.Classes.{class_of}

-- what a token is to the grammar
abbrev pub token_class : Token → ℕ
token_class token = class_of token.bytes

-- ---- tokens

abbrev pub name_of : Token → Name
name_of token = record { text = token.bytes; span = span_of token }

abbrev pub number_of : Token → Number
number_of token = record { value = value_of token.bytes; span = span_of token }

abbrev pub relation_of : Token → Relation
relation_of token =
    let class = token_class token in
    if class == classes.less then Less
    else if class == classes.less_equals then AtMost
    else if class == classes.greater then Greater
    else if class == classes.greater_equals then AtLeast
    else Equal

-- `<`, `[`, `[[` or `{{`
abbrev pub bracket_of : Token → Bracket
bracket_of token =
    let class = token_class token in
    if class == classes.less then brackets.Point
    else if class == classes.open_bracket then brackets.Run
    else if class == classes.open_brackets then brackets.Every
    else brackets.Unit

-- `scount` or `sdur`
abbrev pub count_of : Token → Count
count_of token = if token_class token == classes.word_scount then counts.Scount else counts.Sdur

-- `!`, `<>` or `[]`
abbrev pub unary_of : Token → Unary
unary_of token =
    let class = token_class token in
    if class == classes.exclamation then unary.Not
    else if class == classes.diamond then unary.Somewhere
    else unary.Everywhere

-- `ex` or `all`
abbrev pub quantifier_of : Token → Quantifier
quantifier_of token = if token_class token == classes.word_ex then quantifiers.Exists else quantifiers.ForAll

-- `-` or `+`
abbrev pub direction_of : Token → Direction
direction_of token = if token_class token == classes.minus then directions.Prior else directions.Next

-- ---- propositions

-- a proposition without parentheses of its own
abbrev pub bare_prop : PlainPropKind → Span → PlainPropOperand
bare_prop kind span = record { prop = record { kind = kind; span = span }; span = span }

-- `true` or `false`
abbrev pub prop_constant : Token → PlainPropOperand
prop_constant token = bare_prop (PropConstant (token_class token == classes.word_true)) (span_of token)

-- from a name to the last parenthesis of its arguments, if these stand there
abbrev pub call_span : Token → Option Span → Span
call_span name None = span_of name
call_span name (Some parentheses) = covering (span_of name) parentheses

abbrev pub prop_call : Token → List PlainProp → Option Span → PlainPropOperand
prop_call name arguments parentheses = bare_prop (PropCall (name_of name) (arguments_of arguments)) (call_span name parentheses)

-- `!P`, `-P` or `+P`
abbrev pub prop_prefixed : Token → PlainPropOperand → PlainPropOperand
prop_prefixed sign p =
    let form = covering (span_of sign) p.span in
    let kind =
    if token_class sign == classes.exclamation then PropNot p.prop.kind p.prop.span
    else PropShifted (direction_of sign) form p.prop.kind p.prop.span
    in bare_prop kind form

abbrev pub prop_implication : PlainPropOperand → PlainPropOperand → PlainPropOperand
prop_implication p q = bare_prop (PropImplies p.prop.kind p.prop.span q.prop.kind q.prop.span) (covering p.span q.span)

abbrev pub last_prop_span : Span → List PlainPropOperand → Span
last_prop_span span [] = span
last_prop_span span (p ∷ ps) = last_prop_span p.span ps

-- one operand stands for itself, and more are a list
abbrev pub prop_list : Connective → PlainPropOperand → List PlainPropOperand → PlainPropOperand
prop_list connective p [] = p
prop_list connective p (q ∷ ps) =
    bare_prop (PropJoined connective (prop_operands_of (p ∷ q ∷ ps))) (covering p.span (last_prop_span q.span ps))

-- ---- formulas

-- a formula without parentheses of its own
abbrev pub bare : PlainFormulaKind → Span → PlainFormulaOperand
bare kind span = record { formula = record { kind = kind; span = span }; span = span }

-- `<P>`, `[P]`, `[[P]]` or `{{P}}`
abbrev pub bracketed : Token → PlainProp → Token → PlainFormulaOperand
bracketed opening p closing = bare (FormulaBracketed (bracket_of opening) p) (span_over opening closing)

-- `pt`, `ext`, `true` or `false`
abbrev pub formula_word : Token → PlainFormulaOperand
formula_word word =
    let class = token_class word in
    let kind =
    if class == classes.word_pt then FormulaPt
    else if class == classes.word_ext then FormulaExt
    else FormulaConstant (class == classes.word_true)
    in bare kind (span_of word)

-- `scount P R n` or `sdur P R n`
abbrev pub measure : Token → PlainProp → Relation → Token → PlainFormulaOperand
measure word p relation number = bare (FormulaCounted (count_of word) p relation (number_of number)) (span_over word number)

abbrev pub formula_call : Token → List PlainProp → Option Span → PlainFormulaOperand
formula_call name arguments parentheses = bare (FormulaCall (name_of name) arguments) (call_span name parentheses)

-- D and one more `*`
abbrev pub starred : PlainFormulaOperand → Span → PlainFormulaOperand
starred d star = bare (FormulaApplied unary.Star d.formula.kind d.formula.span) (covering d.span star)

-- D and its `*`, each of which has all before it
abbrev pub starred_by : PlainFormulaOperand → List Span → PlainFormulaOperand
starred_by d [] = d
starred_by d (star ∷ stars) = starred_by (starred d star) stars

-- `!D`, `<>D` or `[]D`
abbrev pub prefixed : Token → PlainFormulaOperand → PlainFormulaOperand
prefixed sign d = bare (FormulaApplied (unary_of sign) d.formula.kind d.formula.span) (covering (span_of sign) d.span)

-- `ex p. D` or `all p. D`
abbrev pub quantified : Token → Token → PlainFormulaOperand → PlainFormulaOperand
quantified word name d =
    bare (FormulaQuantified (quantifier_of word) (name_of name) d.formula.kind d.formula.span) (covering (span_of word) d.span)

abbrev pub implication : PlainFormulaOperand → PlainFormulaOperand → PlainFormulaOperand
implication d e =
    bare (FormulaImplies d.formula.kind d.formula.span e.formula.kind e.formula.span) (covering d.span e.span)

abbrev pub last_span : Span → List PlainFormulaOperand → Span
last_span span [] = span
last_span span (d ∷ ds) = last_span d.span ds

-- one operand stands for itself, and more are a list
abbrev pub formula_list : (PlainFormulaOperands → PlainFormulaKind) → PlainFormulaOperand → List PlainFormulaOperand → PlainFormulaOperand
formula_list kind d [] = d
formula_list kind d (e ∷ ds) =
    bare (kind (formula_operands_of (d ∷ e ∷ ds))) (covering d.span (last_span e.span ds))
