-- The grammar of formula files. In the comments `{x}` is any number of x, also none, and `[x]` is x or nothing.
use Rattle.std.specs.Prelude.{ℕ, List, [], ◌∷◌, ◌++◌}
use Rattle.dcv_grammar.specs.declared.grammar.Symbol.{Symbol}
use Rattle.dcv_grammar.specs.declared.grammar.Symbol.TheVariants.{Class, Rule}
use Rattle.dcv_grammar.specs.Grammar.{Alternative, Production, ContextFree}
use Rattle.dcv_tokens.specs.Classes.{open_parenthesis, close_parenthesis, comma, semicolon, dot, exclamation, caret, star, equals, less, greater, less_equals, greater_equals, diamond, arrow}
use Rattle.dcv_tokens.specs.Classes.{double_arrow, double_ampersand, double_bar, open_bracket, close_bracket, box, open_brackets, close_brackets, open_braces, close_braces, word_var, word_define, word_prop, word_as, word_infer}
use Rattle.dcv_tokens.specs.Classes.{word_ex, word_all, word_true, word_false, word_pt, word_ext, word_slen, word_scount, word_sdur, name, number, minus, plus}
use Rattle.dcv_sentence.specs.RuleNumbers.{file, declaration, more_names, macros, macro, parameters, arguments, more_arguments, formula, formula_iff, formula_iff_more, formula_implies}
use Rattle.dcv_sentence.specs.RuleNumbers.{formula_implied, formula_or, formula_or_more, formula_and, formula_and_more, formula_chop, formula_chop_more, formula_prefix, formula_star, stars, formula_atom, relation}
use Rattle.dcv_sentence.specs.RuleNumbers.{prop, prop_iff_more, prop_implies, prop_implied, prop_or, prop_or_more, prop_and, prop_and_more, prop_prefix, prop_atom}

-- a rule with one body
abbrev pub always : List Symbol → Production
always body = record { alternatives = []; otherwise = body }

-- a body that begins with a class, which picks it
abbrev pub after : ℕ → List Symbol → Alternative
after class symbols = record { classes = class ∷ []; body = Class class ∷ symbols }

-- a body that begins with a class, or nothing
abbrev pub optional : ℕ → List Symbol → Production
optional class symbols = record { alternatives = after class symbols ∷ []; otherwise = [] }

-- ---- files

-- file = declaration macros "infer" formula ";"
abbrev pub file_rule : Production
file_rule = always (Rule declaration ∷ Rule macros ∷ Class word_infer ∷ Rule formula ∷ Class semicolon ∷ [])

-- declaration = ["var" name more_names ";"]
abbrev pub declaration_rule : Production
declaration_rule = optional word_var (Class name ∷ Rule more_names ∷ Class semicolon ∷ [])

-- more_names = {"," name}
abbrev pub more_names_rule : Production
more_names_rule = optional comma (Class name ∷ Rule more_names ∷ [])

-- macros = {macro}
abbrev pub macros_rule : Production
macros_rule =
    record {
      alternatives = record { classes = word_define ∷ word_prop ∷ []; body = Rule macro ∷ Rule macros ∷ [] } ∷ [];
      otherwise = [];
    }

-- macro = "define" name parameters "as" formula ";" | "prop" name parameters "as" prop ";"
abbrev pub macro_rule : Production
macro_rule =
    record {
      alternatives = after word_define (Class name ∷ Rule parameters ∷ Class word_as ∷ Rule formula ∷ Class semicolon ∷ []) ∷ [];
      otherwise = Class word_prop ∷ Class name ∷ Rule parameters ∷ Class word_as ∷ Rule prop ∷ Class semicolon ∷ [];
    }

-- parameters = ["(" name more_names ")"]
abbrev pub parameters_rule : Production
parameters_rule = optional open_parenthesis (Class name ∷ Rule more_names ∷ Class close_parenthesis ∷ [])

-- arguments = ["(" prop more_arguments ")"]
abbrev pub arguments_rule : Production
arguments_rule = optional open_parenthesis (Rule prop ∷ Rule more_arguments ∷ Class close_parenthesis ∷ [])

-- more_arguments = {"," prop}
abbrev pub more_arguments_rule : Production
more_arguments_rule = optional comma (Rule prop ∷ Rule more_arguments ∷ [])

-- ---- formulas

-- formula = ("ex" | "all") name "." formula | formula_iff
abbrev pub formula_rule : Production
formula_rule =
    record {
      alternatives =
          after word_ex (Class name ∷ Class dot ∷ Rule formula ∷ [])
          ∷ after word_all (Class name ∷ Class dot ∷ Rule formula ∷ [])
          ∷ [];
      otherwise = Rule formula_iff ∷ [];
    }

-- formula_iff = formula_implies formula_iff_more
abbrev pub formula_iff_rule : Production
formula_iff_rule = always (Rule formula_implies ∷ Rule formula_iff_more ∷ [])

-- formula_iff_more = {"<=>" formula_implies}
abbrev pub formula_iff_more_rule : Production
formula_iff_more_rule = optional double_arrow (Rule formula_implies ∷ Rule formula_iff_more ∷ [])

-- formula_implies = formula_or formula_implied
abbrev pub formula_implies_rule : Production
formula_implies_rule = always (Rule formula_or ∷ Rule formula_implied ∷ [])

-- formula_implied = ["=>" formula_implies]
abbrev pub formula_implied_rule : Production
formula_implied_rule = optional arrow (Rule formula_implies ∷ [])

-- formula_or = formula_and formula_or_more
abbrev pub formula_or_rule : Production
formula_or_rule = always (Rule formula_and ∷ Rule formula_or_more ∷ [])

-- formula_or_more = {"||" formula_and}
abbrev pub formula_or_more_rule : Production
formula_or_more_rule = optional double_bar (Rule formula_and ∷ Rule formula_or_more ∷ [])

-- formula_and = formula_chop formula_and_more
abbrev pub formula_and_rule : Production
formula_and_rule = always (Rule formula_chop ∷ Rule formula_and_more ∷ [])

-- formula_and_more = {"&&" formula_chop}
abbrev pub formula_and_more_rule : Production
formula_and_more_rule = optional double_ampersand (Rule formula_chop ∷ Rule formula_and_more ∷ [])

-- formula_chop = formula_prefix formula_chop_more
abbrev pub formula_chop_rule : Production
formula_chop_rule = always (Rule formula_prefix ∷ Rule formula_chop_more ∷ [])

-- formula_chop_more = {"^" formula_prefix}
abbrev pub formula_chop_more_rule : Production
formula_chop_more_rule = optional caret (Rule formula_prefix ∷ Rule formula_chop_more ∷ [])

-- formula_prefix = ("!" | "<>" | "[]") formula_prefix | formula_star
abbrev pub formula_prefix_rule : Production
formula_prefix_rule =
    record {
      alternatives =
          after exclamation (Rule formula_prefix ∷ [])
          ∷ after diamond (Rule formula_prefix ∷ [])
          ∷ after box (Rule formula_prefix ∷ [])
          ∷ [];
      otherwise = Rule formula_star ∷ [];
    }

-- formula_star = formula_atom stars
abbrev pub formula_star_rule : Production
formula_star_rule = always (Rule formula_atom ∷ Rule stars ∷ [])

-- stars = {"*"}
abbrev pub stars_rule : Production
stars_rule = optional star (Rule stars ∷ [])

-- formula_atom = "(" formula ")" | "<" prop ">" | "[" prop "]" | "[[" prop "]]" | "{{" prop "}}" | "pt" | "ext" | "true" | "false"
--              | "slen" relation number | ("scount" | "sdur") prop_prefix relation number | name arguments
abbrev pub formula_atom_rule : Production
formula_atom_rule =
    record {
      alternatives =
          after open_parenthesis (Rule formula ∷ Class close_parenthesis ∷ [])
          ∷ after less (Rule prop ∷ Class greater ∷ [])
          ∷ after open_bracket (Rule prop ∷ Class close_bracket ∷ [])
          ∷ after open_brackets (Rule prop ∷ Class close_brackets ∷ [])
          ∷ after open_braces (Rule prop ∷ Class close_braces ∷ [])
          ∷ after word_pt []
          ∷ after word_ext []
          ∷ after word_true []
          ∷ after word_false []
          ∷ after word_slen (Rule relation ∷ Class number ∷ [])
          ∷ after word_scount (Rule prop_prefix ∷ Rule relation ∷ Class number ∷ [])
          ∷ after word_sdur (Rule prop_prefix ∷ Rule relation ∷ Class number ∷ [])
          ∷ [];
      otherwise = Class name ∷ Rule arguments ∷ [];
    }

-- relation = "=" | "<" | "<=" | ">" | ">="
abbrev pub relation_rule : Production
relation_rule =
    record {
      alternatives = after less [] ∷ after less_equals [] ∷ after greater [] ∷ after greater_equals [] ∷ [];
      otherwise = Class equals ∷ [];
    }

-- ---- propositions

-- prop = prop_implies prop_iff_more
abbrev pub prop_rule : Production
prop_rule = always (Rule prop_implies ∷ Rule prop_iff_more ∷ [])

-- prop_iff_more = {"<=>" prop_implies}
abbrev pub prop_iff_more_rule : Production
prop_iff_more_rule = optional double_arrow (Rule prop_implies ∷ Rule prop_iff_more ∷ [])

-- prop_implies = prop_or prop_implied
abbrev pub prop_implies_rule : Production
prop_implies_rule = always (Rule prop_or ∷ Rule prop_implied ∷ [])

-- prop_implied = ["=>" prop_implies]
abbrev pub prop_implied_rule : Production
prop_implied_rule = optional arrow (Rule prop_implies ∷ [])

-- prop_or = prop_and prop_or_more
abbrev pub prop_or_rule : Production
prop_or_rule = always (Rule prop_and ∷ Rule prop_or_more ∷ [])

-- prop_or_more = {"||" prop_and}
abbrev pub prop_or_more_rule : Production
prop_or_more_rule = optional double_bar (Rule prop_and ∷ Rule prop_or_more ∷ [])

-- prop_and = prop_prefix prop_and_more
abbrev pub prop_and_rule : Production
prop_and_rule = always (Rule prop_prefix ∷ Rule prop_and_more ∷ [])

-- prop_and_more = {"&&" prop_prefix}
abbrev pub prop_and_more_rule : Production
prop_and_more_rule = optional double_ampersand (Rule prop_prefix ∷ Rule prop_and_more ∷ [])

-- prop_prefix = ("!" | "-" | "+") prop_prefix | prop_atom
abbrev pub prop_prefix_rule : Production
prop_prefix_rule =
    record {
      alternatives =
          after exclamation (Rule prop_prefix ∷ [])
          ∷ after minus (Rule prop_prefix ∷ [])
          ∷ after plus (Rule prop_prefix ∷ [])
          ∷ [];
      otherwise = Rule prop_atom ∷ [];
    }

-- prop_atom = "(" prop ")" | "true" | "false" | name arguments
abbrev pub prop_atom_rule : Production
prop_atom_rule =
    record {
      alternatives =
          after open_parenthesis (Rule prop ∷ Class close_parenthesis ∷ [])
          ∷ after word_true []
          ∷ after word_false []
          ∷ [];
      otherwise = Class name ∷ Rule arguments ∷ [];
    }

-- ---- the grammar

-- the rules of each part, in the order of their numbers
unfoldable pub file_rules : List Production
file_rules =
    file_rule ∷ declaration_rule ∷ more_names_rule ∷ macros_rule ∷ macro_rule ∷ parameters_rule ∷ arguments_rule
    ∷ more_arguments_rule ∷ []

unfoldable pub formula_rules : List Production
formula_rules =
    formula_rule ∷ formula_iff_rule ∷ formula_iff_more_rule ∷ formula_implies_rule ∷ formula_implied_rule
    ∷ formula_or_rule ∷ formula_or_more_rule ∷ formula_and_rule ∷ formula_and_more_rule ∷ formula_chop_rule
    ∷ formula_chop_more_rule ∷ formula_prefix_rule ∷ formula_star_rule ∷ stars_rule ∷ formula_atom_rule
    ∷ relation_rule ∷ []

unfoldable pub prop_rules : List Production
prop_rules =
    prop_rule ∷ prop_iff_more_rule ∷ prop_implies_rule ∷ prop_implied_rule ∷ prop_or_rule ∷ prop_or_more_rule
    ∷ prop_and_rule ∷ prop_and_more_rule ∷ prop_prefix_rule ∷ prop_atom_rule ∷ []

unfoldable pub language : ContextFree
language = record { start = file; productions = file_rules ++ (formula_rules ++ prop_rules) }
