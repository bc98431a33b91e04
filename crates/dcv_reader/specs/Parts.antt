-- How clauses see the parts of the code. Their lists stand from the last element to the first.
--     seen_part part        the part
--     IsMeant part          it is a part of some body
--     IsToken part          it is a token, and so on for each kind
--     HasNumber parts       the token after a relation among them is a number
use Rattle.std.specs.Prelude.{◌≡◌, ◌≤◌, List, [], ◌∷◌, map, reverse}
use Rattle.std.specs.List.{All}
use Rattle.dcv_syntax.specs.Views.{plain_prop, plain_prop_operand, plain_formula_operand, plain_macro, plain_file}
use Rattle.dcv_tokens.specs.Tokens.{Token}
use Rattle.dcv_tokens.specs.Classes as classes
use Rattle.dcv_tokens.specs.Limits.{largest_number}
use Rattle.dcv_tokens.specs.Reading.{seen}
use Rattle.dcv_reader.specs.Nodes.{token_class, number_of}
use Rattle.dcv_reader.specs.declared.parts.Part.{Part as CodePart}
use Rattle.dcv_reader.specs.declared.parts.Part.TheVariants as code
use Rattle.dcv_reader.specs.Actions.{Part, AToken, Names, Arguments, ARelation, AProp, AFormula, Props, Formulas, Stars, AMacro, Macros, AFile, Nothing}

abbrev pub seen_part : CodePart → Part
seen_part (code.Token leaf) = AToken (seen leaf.token)
seen_part (code.Names names) = Names (reverse names.items)
seen_part (code.Arguments arguments) = Arguments (map plain_prop arguments.props.items) arguments.parentheses
seen_part (code.Relation relation) = ARelation relation
seen_part (code.Prop p) = AProp (plain_prop_operand p.value)
seen_part (code.Formula d) = AFormula (plain_formula_operand d.value)
seen_part (code.Props ps) = Props (reverse (map plain_prop_operand ps.items))
seen_part (code.Formulas ds) = Formulas (reverse (map plain_formula_operand ds.items))
seen_part (code.Stars stars) = Stars (reverse stars.items)
seen_part (code.Macro m) = AMacro (plain_macro m.value)
seen_part (code.Macros macros) = Macros (reverse (map plain_macro macros.items))
seen_part (code.File file) = AFile (plain_file file.value)

abbrev pub IsMeant : Part → Type 0
IsMeant Nothing = ⊥
IsMeant part = Unit {0}

abbrev pub IsToken : Part → Type 0
IsToken (AToken token) = Unit {0}
IsToken _ = ⊥

abbrev pub AreNames : Part → Type 0
AreNames (Names names) = Unit {0}
AreNames _ = ⊥

abbrev pub IsProp : Part → Type 0
IsProp (AProp p) = Unit {0}
IsProp _ = ⊥

abbrev pub AreProps : Part → Type 0
AreProps (Props ps) = Unit {0}
AreProps _ = ⊥

abbrev pub IsFormula : Part → Type 0
IsFormula (AFormula d) = Unit {0}
IsFormula _ = ⊥

abbrev pub AreFormulas : Part → Type 0
AreFormulas (Formulas ds) = Unit {0}
AreFormulas _ = ⊥

abbrev pub AreMacros : Part → Type 0
AreMacros (Macros macros) = Unit {0}
AreMacros _ = ⊥

abbrev pub AreStars : Part → Type 0
AreStars (Stars stars) = Unit {0}
AreStars _ = ⊥

-- ---- numbers

-- no number among the tokens is too large
abbrev pub HasSmallNumbers : List Token → Type 0
HasSmallNumbers tokens = All (λ token. token_class token ≡ classes.number → (number_of token).value ≤ largest_number) tokens

abbrev pub IsNumber : Part → Type 0
IsNumber (AToken token) = token_class token ≡ classes.number
IsNumber _ = ⊥

-- after a relation stands a number
abbrev pub HasNumber : List Part → Type 0
HasNumber (AToken slen ∷ ARelation relation ∷ AToken number ∷ []) = token_class number ≡ classes.number
HasNumber (AToken word ∷ AProp p ∷ ARelation relation ∷ AToken number ∷ []) = token_class number ≡ classes.number
HasNumber _ = Unit {0}
