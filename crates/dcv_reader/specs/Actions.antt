-- What each rule of the grammar stands for in the tree, by what its body's symbols stand for: an equation for each body.
--     Part                  what a symbol stands for
--     RULE_part parts       what a rule stands for, by the parts of its body
--     action rule parts     the same, for the number of a rule
--     scheme                the grammar and the actions
--     parts_of trees        what derivation trees stand for
use Rattle.std.specs.Prelude.{ℕ, true, List, [], ◌∷◌, map, Option, Some, None, slice_index_or}
use Rattle.dcv_syntax.specs.declared.names.Name.{Name}
use Rattle.dcv_syntax.specs.declared.names.Span.{Span}
use Rattle.dcv_syntax.specs.declared.formulas.Relation.{Relation}
use Rattle.dcv_syntax.specs.declared.propositions.Connective.{Connective}
use Rattle.dcv_syntax.specs.declared.propositions.Connective.TheVariants.{And, Or, Iff}
use Rattle.dcv_syntax.specs.Plain.{PlainProp, PlainPropOperand, FormulaSlen, FormulaJoined, FormulaChop, PlainFormulaOperand}
use Rattle.dcv_syntax.specs.Plain.{FormulaBody, PropBody, PlainMacro, PlainFile}
use Rattle.dcv_grammar.specs.Trees.{Nodes}
use Rattle.dcv_translation.specs.Scheme as translation
use Rattle.dcv_translation.specs.Scheme.{Scheme}
use Rattle.dcv_tokens.specs.Tokens.{Token, span_of, span_over}
use Rattle.dcv_sentence.specs.Language.{language}
use Rattle.dcv_reader.specs.Nodes.{token_class, name_of, number_of, relation_of, prop_constant, prop_call, prop_prefixed, prop_implication, prop_list}
use Rattle.dcv_reader.specs.Nodes.{bare, bracketed, formula_word, measure, formula_call, starred_by, prefixed, quantified, implication, formula_list}

-- what a symbol stands for
pub data Part : Type 0 where
  AToken : Token → Part
  Names : List Name → Part
  -- arguments, and the span of their parentheses, if these stand there
  Arguments : List PlainProp → Option Span → Part
  ARelation : Relation → Part
  -- a proposition or formula, with the span that has its own parentheses too
  AProp : PlainPropOperand → Part
  AFormula : PlainFormulaOperand → Part
  -- what stands after the first operand
  Props : List PlainPropOperand → Part
  Formulas : List PlainFormulaOperand → Part
  Stars : List Span → Part
  AMacro : PlainMacro → Part
  Macros : List PlainMacro → Part
  AFile : PlainFile → Part
  -- the parts are those of no body
  Nothing : Part

-- ---- files

-- file = declaration macros "infer" formula ";"
abbrev pub file_part : List Part → Part
file_part (Names variables ∷ Macros macros ∷ AToken infer ∷ AFormula goal ∷ AToken semicolon ∷ []) =
    AFile (record { variables = variables; macros = macros; goal = goal })
file_part _ = Nothing

-- declaration = ["var" name more_names ";"], parameters = ["(" name more_names ")"]
abbrev pub names_part : List Part → Part
names_part [] = Names []
names_part (AToken opening ∷ AToken name ∷ Names names ∷ AToken closing ∷ []) = Names (name_of name ∷ names)
names_part _ = Nothing

-- more_names = {"," name}
abbrev pub more_names_part : List Part → Part
more_names_part [] = Names []
more_names_part (AToken comma ∷ AToken name ∷ Names names ∷ []) = Names (name_of name ∷ names)
more_names_part _ = Nothing

-- macros = {macro}
abbrev pub macros_part : List Part → Part
macros_part [] = Macros []
macros_part (AMacro m ∷ Macros macros ∷ []) = Macros (m ∷ macros)
macros_part _ = Nothing

-- macro = "define" name parameters "as" formula ";" | "prop" name parameters "as" prop ";"
abbrev pub macro_part : List Part → Part
macro_part (AToken define ∷ AToken name ∷ Names parameters ∷ AToken as_word ∷ AFormula d ∷ AToken semicolon ∷ []) =
    AMacro (record { name = name_of name; parameters = parameters; body = FormulaBody d.formula; span = span_over define semicolon })
macro_part (AToken prop ∷ AToken name ∷ Names parameters ∷ AToken as_word ∷ AProp p ∷ AToken semicolon ∷ []) =
    AMacro (record { name = name_of name; parameters = parameters; body = PropBody p.prop; span = span_over prop semicolon })
macro_part _ = Nothing

-- arguments = ["(" prop more_arguments ")"]
abbrev pub arguments_part : List Part → Part
arguments_part [] = Arguments [] None
arguments_part (AToken opening ∷ AProp p ∷ Props ps ∷ AToken closing ∷ []) =
    Arguments (map (λ operand. operand.prop) (p ∷ ps)) (Some (span_over opening closing))
arguments_part _ = Nothing

-- ---- propositions

-- {"<=>" p}, {"||" p}, {"&&" p} and {"," p}, and also ["=>" p]
abbrev pub more_props_part : List Part → Part
more_props_part [] = Props []
more_props_part (AToken separator ∷ AProp p ∷ Props ps ∷ []) = Props (p ∷ ps)
more_props_part (AToken arrow ∷ AProp p ∷ []) = Props (p ∷ [])
more_props_part _ = Nothing

-- prop = prop_implies prop_iff_more, prop_or = prop_and prop_or_more, prop_and = prop_prefix prop_and_more
abbrev pub joined_props_part : Connective → List Part → Part
joined_props_part connective (AProp p ∷ Props ps ∷ []) = AProp (prop_list connective p ps)
joined_props_part connective _ = Nothing

-- prop_implies = prop_or prop_implied
abbrev pub prop_implies_part : List Part → Part
prop_implies_part (AProp p ∷ Props [] ∷ []) = AProp p
prop_implies_part (AProp p ∷ Props (q ∷ []) ∷ []) = AProp (prop_implication p q)
prop_implies_part _ = Nothing

-- prop_prefix = ("!" | "-" | "+") prop_prefix | prop_atom
abbrev pub prop_prefix_part : List Part → Part
prop_prefix_part (AToken sign ∷ AProp p ∷ []) = AProp (prop_prefixed sign p)
prop_prefix_part (AProp p ∷ []) = AProp p
prop_prefix_part _ = Nothing

-- prop_atom = "(" prop ")" | "true" | "false" | name arguments
abbrev pub prop_atom_part : List Part → Part
prop_atom_part (AToken opening ∷ AProp p ∷ AToken closing ∷ []) = AProp (record p { span = span_over opening closing })
prop_atom_part (AToken constant ∷ []) = AProp (prop_constant constant)
prop_atom_part (AToken name ∷ Arguments arguments parentheses ∷ []) = AProp (prop_call name arguments parentheses)
prop_atom_part _ = Nothing

-- ---- formulas

-- formula = ("ex" | "all") name "." formula | formula_iff
abbrev pub formula_part : List Part → Part
formula_part (AToken word ∷ AToken name ∷ AToken dot ∷ AFormula d ∷ []) = AFormula (quantified word name d)
formula_part (AFormula d ∷ []) = AFormula d
formula_part _ = Nothing

-- {"<=>" D}, {"||" D}, {"&&" D} and {"^" D}, and also ["=>" D]
abbrev pub more_formulas_part : List Part → Part
more_formulas_part [] = Formulas []
more_formulas_part (AToken separator ∷ AFormula d ∷ Formulas ds ∷ []) = Formulas (d ∷ ds)
more_formulas_part (AToken arrow ∷ AFormula d ∷ []) = Formulas (d ∷ [])
more_formulas_part _ = Nothing

-- formula_iff = formula_implies formula_iff_more, formula_or = formula_and formula_or_more, formula_and = formula_chop formula_and_more
abbrev pub joined_formulas_part : Connective → List Part → Part
joined_formulas_part connective (AFormula d ∷ Formulas ds ∷ []) = AFormula (formula_list (FormulaJoined connective) d ds)
joined_formulas_part connective _ = Nothing

-- formula_implies = formula_or formula_implied
abbrev pub formula_implies_part : List Part → Part
formula_implies_part (AFormula d ∷ Formulas [] ∷ []) = AFormula d
formula_implies_part (AFormula d ∷ Formulas (e ∷ []) ∷ []) = AFormula (implication d e)
formula_implies_part _ = Nothing

-- formula_chop = formula_prefix formula_chop_more
abbrev pub formula_chop_part : List Part → Part
formula_chop_part (AFormula d ∷ Formulas ds ∷ []) = AFormula (formula_list FormulaChop d ds)
formula_chop_part _ = Nothing

-- formula_prefix = ("!" | "<>" | "[]") formula_prefix | formula_star
abbrev pub formula_prefix_part : List Part → Part
formula_prefix_part (AToken sign ∷ AFormula d ∷ []) = AFormula (prefixed sign d)
formula_prefix_part (AFormula d ∷ []) = AFormula d
formula_prefix_part _ = Nothing

-- formula_star = formula_atom stars
abbrev pub formula_star_part : List Part → Part
formula_star_part (AFormula d ∷ Stars stars ∷ []) = AFormula (starred_by d stars)
formula_star_part _ = Nothing

-- stars = {"*"}
abbrev pub stars_part : List Part → Part
stars_part [] = Stars []
stars_part (AToken star ∷ Stars stars ∷ []) = Stars (span_of star ∷ stars)
stars_part _ = Nothing

-- formula_atom = "(" formula ")" | "<" prop ">" | "[" prop "]" | "[[" prop "]]" | "{{" prop "}}" | "pt" | "ext" | "true" | "false"
--              | "slen" relation number | ("scount" | "sdur") prop_prefix relation number | name arguments
abbrev pub formula_atom_part : List Part → Part
formula_atom_part (AToken opening ∷ AFormula d ∷ AToken closing ∷ []) = AFormula (record d { span = span_over opening closing })
formula_atom_part (AToken opening ∷ AProp p ∷ AToken closing ∷ []) = AFormula (bracketed opening p.prop closing)
formula_atom_part (AToken word ∷ []) = AFormula (formula_word word)
formula_atom_part (AToken slen ∷ ARelation relation ∷ AToken number ∷ []) =
    AFormula (bare (FormulaSlen relation (number_of number)) (span_over slen number))
formula_atom_part (AToken word ∷ AProp p ∷ ARelation relation ∷ AToken number ∷ []) = AFormula (measure word p.prop relation number)
formula_atom_part (AToken name ∷ Arguments arguments parentheses ∷ []) = AFormula (formula_call name arguments parentheses)
formula_atom_part _ = Nothing

-- relation = "=" | "<" | "<=" | ">" | ">="
abbrev pub relation_part : List Part → Part
relation_part (AToken sign ∷ []) = ARelation (relation_of sign)
relation_part _ = Nothing

-- ---- derivations

-- of each rule, in the order of their numbers
abbrev pub actions : List (List Part → Part)
actions =
    file_part ∷ names_part ∷ more_names_part ∷ macros_part ∷ macro_part ∷ names_part ∷ arguments_part ∷ more_props_part
    ∷ formula_part ∷ joined_formulas_part Iff ∷ more_formulas_part ∷ formula_implies_part ∷ more_formulas_part
    ∷ joined_formulas_part Or ∷ more_formulas_part ∷ joined_formulas_part And ∷ more_formulas_part ∷ formula_chop_part
    ∷ more_formulas_part ∷ formula_prefix_part ∷ formula_star_part ∷ stars_part ∷ formula_atom_part ∷ relation_part
    ∷ joined_props_part Iff ∷ more_props_part ∷ prop_implies_part ∷ more_props_part ∷ joined_props_part Or ∷ more_props_part
    ∷ joined_props_part And ∷ more_props_part ∷ prop_prefix_part ∷ prop_atom_part ∷ []

-- what a rule stands for
abbrev pub action : ℕ → List Part → Part
action rule parts = (slice_index_or actions rule (λ parts. Nothing)) parts

-- each token stands for itself
abbrev pub scheme : Scheme Part
scheme = record { grammar = language; class = token_class; has_part = λ class. true; of_token = AToken; action = action }

-- what derivation trees stand for, from left to right
abbrev pub parts_of : Nodes Token → List Part
parts_of trees = translation.parts_of scheme trees
