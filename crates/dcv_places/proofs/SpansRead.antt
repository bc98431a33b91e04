-- Each form of a file that a text spells begins before the text's end, as its tokens do: formulas, and prior and next propositions.
use Rattle.std.proofs.Common.{ℕ, zero, suc, ◌+◌, ◌<◌, ◌≤◌, Bool, true, false, length, List, [], ◌∷◌, ◌++◌, Option, None, Some, map, sym, ap, subst, arith, inl, inr}
use Rattle.std.specs.Prelude.{⊤, drop, slice_index_or, ◌==◌, if◌then◌else◌}
use Rattle.std.specs.List.{AllByRecursion, concat}
use Rattle.std.proofs.lemmas.Bool.{cases_Bool}
use Rattle.std.proofs.lemmas.List.{length-append}
use Rattle.dcv_syntax.specs.declared.names.Span.{Span}
use Rattle.dcv_syntax.specs.Spans.{covering}
use Rattle.dcv_syntax.specs.declared.propositions.Connective.{Connective}
use Rattle.dcv_syntax.specs.declared.propositions.Connective.TheVariants.{And, Or, Iff}
use Rattle.dcv_syntax.specs.declared.propositions.Direction.{Direction}
use Rattle.dcv_syntax.specs.Plain.{PlainPropKind, PropConstant, PropCall, PropNot, PropJoined, PropImplies, PropShifted}
use Rattle.dcv_syntax.specs.Plain.{PlainArguments, no_arguments, argument, arguments_of, PlainPropOperands, no_prop_operands, prop_operand}
use Rattle.dcv_syntax.specs.Plain.{PlainPropOperand, prop_operands_of}
use Rattle.dcv_syntax.specs.Plain.{PlainFormulaKind, FormulaConstant, FormulaPt, FormulaExt, FormulaBracketed, FormulaSlen, FormulaCounted}
use Rattle.dcv_syntax.specs.Plain.{FormulaCall, FormulaApplied, FormulaJoined, FormulaImplies, FormulaChop, FormulaQuantified, PlainProp}
use Rattle.dcv_syntax.specs.Plain.{PlainFormulaOperands, no_formula_operands, formula_operand, formula_operands_of, PlainFormulaOperand}
use Rattle.dcv_syntax.specs.Plain.{PlainMacroBody, FormulaBody, PropBody, PlainMacro, PlainFile}
use Rattle.dcv_grammar.specs.Trees.{Nodes, done, leaf, node, leaves}
use Rattle.dcv_tokens.specs.Classes as classes
use Rattle.dcv_tokens.specs.Tokens.{Token, span_of, is_blank, EachIsLongest, tokens_from}
use Rattle.dcv_tokens.proofs.Cuts.{piece_has_bytes}
use Rattle.dcv_reader.specs.Nodes.{token_class, direction_of, prop_list, formula_call, starred, starred_by, formula_list}
use Rattle.dcv_reader.specs.Actions.{Part, AToken, Names, Arguments, ARelation, AProp, AFormula, Props, Formulas, Stars, AMacro, Macros, AFile}
use Rattle.dcv_reader.specs.Actions.{Nothing, actions, parts_of, file_part, names_part, more_names_part, macros_part, macro_part}
use Rattle.dcv_reader.specs.Actions.{arguments_part, more_props_part, joined_props_part, prop_implies_part, prop_prefix_part}
use Rattle.dcv_reader.specs.Actions.{prop_atom_part, formula_part, more_formulas_part, joined_formulas_part, formula_implies_part}
use Rattle.dcv_reader.specs.Actions.{formula_chop_part, formula_prefix_part, formula_star_part, stars_part}
use Rattle.dcv_reader.specs.Actions.{formula_atom_part, relation_part}
use Rattle.dcv_reader.specs.Spelling.{Spells}

-- ---- forms that begin before an offset

abbrev pub Begins : ℕ → Span → Type 0
Begins high span = span.start < high

abbrev mutual
  -- the prior and next forms in a proposition do
  pub PropBegins : ℕ → PlainPropKind → Type 0
  PropBegins high (PropConstant truth) = ⊤
  PropBegins high (PropCall name arguments) = ArgumentsBegin high arguments
  PropBegins high (PropNot p span) = PropBegins high p
  PropBegins high (PropJoined connective operands) = PropOperandsBegin high operands
  PropBegins high (PropImplies p p_span q q_span) = PropBegins high p × PropBegins high q
  PropBegins high (PropShifted direction form p span) = Begins high form × PropBegins high p

  pub ArgumentsBegin : ℕ → PlainArguments → Type 0
  ArgumentsBegin high no_arguments = ⊤
  ArgumentsBegin high (argument p span arguments) = PropBegins high p × ArgumentsBegin high arguments

  pub PropOperandsBegin : ℕ → PlainPropOperands → Type 0
  PropOperandsBegin high no_prop_operands = ⊤
  PropOperandsBegin high (prop_operand p span outer operands) = PropBegins high p × PropOperandsBegin high operands

abbrev mutual
  -- the forms in a formula do
  pub FormsBegin : ℕ → PlainFormulaKind → Type 0
  FormsBegin high (FormulaConstant truth) = ⊤
  FormsBegin high FormulaPt = ⊤
  FormsBegin high FormulaExt = ⊤
  FormsBegin high (FormulaBracketed bracket p) = PropBegins high p.kind
  FormsBegin high (FormulaSlen relation n) = ⊤
  FormsBegin high (FormulaCounted which p relation n) = PropBegins high p.kind
  FormsBegin high (FormulaCall name arguments) = ArgumentsBegin high (arguments_of arguments)
  FormsBegin high (FormulaApplied unary d span) = Begins high span × FormsBegin high d
  FormsBegin high (FormulaJoined connective operands) = OperandsBegin high operands
  FormsBegin high (FormulaImplies c c_span d d_span) = (Begins high c_span × FormsBegin high c) × (Begins high d_span × FormsBegin high d)
  FormsBegin high (FormulaChop operands) = OperandsBegin high operands
  FormsBegin high (FormulaQuantified quantifier name d span) = Begins high span × FormsBegin high d

  pub OperandsBegin : ℕ → PlainFormulaOperands → Type 0
  OperandsBegin high no_formula_operands = ⊤
  OperandsBegin high (formula_operand d span outer operands) = (Begins high outer × (Begins high span × FormsBegin high d)) × OperandsBegin high operands

-- a formula with its own span, and with that of its parentheses
abbrev pub OperandBegins : ℕ → PlainFormulaOperand → Type 0
OperandBegins high d = Begins high d.span × (Begins high d.formula.span × FormsBegin high d.formula.kind)

abbrev pub BodyBegins : ℕ → PlainMacroBody → Type 0
BodyBegins high (FormulaBody d) = Begins high d.span × FormsBegin high d.kind
BodyBegins high (PropBody p) = PropBegins high p.kind

abbrev pub MacrosBegin : ℕ → List PlainMacro → Type 0
MacrosBegin high = AllByRecursion (λ m. BodyBegins high m.body)

pub record FileBegins (high : ℕ) (file : PlainFile) : Type 0 where
  pub macros : MacrosBegin high file.macros
  pub goal : OperandBegins high file.goal

-- ---- parts

abbrev PropsBegin : ℕ → List PlainPropOperand → Type 0
PropsBegin high = AllByRecursion (λ p. PropBegins high p.prop.kind)

abbrev PartBegins : ℕ → Part → Type 0
PartBegins high (AToken token) = token.start < high
PartBegins high (Names names) = ⊤
PartBegins high (Arguments arguments parentheses) = ArgumentsBegin high (arguments_of arguments)
PartBegins high (ARelation relation) = ⊤
PartBegins high (AProp p) = PropBegins high p.prop.kind
PartBegins high (AFormula d) = OperandBegins high d
PartBegins high (Props ps) = PropsBegin high ps
PartBegins high (Formulas ds) = AllByRecursion (OperandBegins high) ds
PartBegins high (Stars stars) = ⊤
PartBegins high (AMacro m) = BodyBegins high m.body
PartBegins high (Macros macros) = MacrosBegin high macros
PartBegins high (AFile file) = FileBegins high file
PartBegins high Nothing = ⊤

abbrev PartsBegin : ℕ → List Part → Type 0
PartsBegin high = AllByRecursion (PartBegins high)

-- what a rule stands for begins before the offset where its parts do
abbrev Keeps : (List Part → Part) → Type 0
Keeps make = (high : ℕ) (parts : List Part) → PartsBegin high parts → PartBegins high (make parts)

-- ---- nodes that a word picks, and lists

choose_word : (high : ℕ) (a b truth : Bool) → FormsBegin high (if a then FormulaPt else if b then FormulaExt else FormulaConstant truth)
choose_word high true b truth = tt
choose_word high false true truth = tt
choose_word high false false truth = tt

choose_sign : (high : ℕ) (a : Bool) (direction : Direction) (form : Span) (p : PlainPropKind) (span : Span) → Begins high form → PropBegins high p
    → PropBegins high (if a then PropNot p span else PropShifted direction form p span)
choose_sign high true direction form p span here h = h
choose_sign high false direction form p span here h = (here, h)

arguments_begin : (high : ℕ) (ps : List PlainPropOperand) → PropsBegin high ps → ArgumentsBegin high (arguments_of (map (λ operand. operand.prop) ps))
arguments_begin high [] h = tt
arguments_begin high (p ∷ ps) h = (h.0, arguments_begin high ps h.1)

prop_operands_begin : (high : ℕ) (ps : List PlainPropOperand) → PropsBegin high ps → PropOperandsBegin high (prop_operands_of ps)
prop_operands_begin high [] h = tt
prop_operands_begin high (p ∷ ps) h = (h.0, prop_operands_begin high ps h.1)

prop_list_begins : (high : ℕ) (connective : Connective) (p : PlainPropOperand) (ps : List PlainPropOperand) → PropBegins high p.prop.kind → PropsBegin high ps
    → PropBegins high (prop_list connective p ps).prop.kind
prop_list_begins high connective p [] h k = h
prop_list_begins high connective p (q ∷ ps) h k = prop_operands_begin high (p ∷ q ∷ ps) (h, k)

operands_begin : (high : ℕ) (ds : List PlainFormulaOperand) → AllByRecursion (OperandBegins high) ds → OperandsBegin high (formula_operands_of ds)
operands_begin high [] h = tt
operands_begin high (d ∷ ds) h = (h.0, operands_begin high ds h.1)

list_begins : (high : ℕ) (kind : PlainFormulaOperands → PlainFormulaKind)
    → ((operands : PlainFormulaOperands) → OperandsBegin high operands → FormsBegin high (kind operands))
    → (d : PlainFormulaOperand) (ds : List PlainFormulaOperand) → OperandBegins high d → AllByRecursion (OperandBegins high) ds → OperandBegins high (formula_list kind d ds)
list_begins high kind in_list d [] h k = h
list_begins high kind in_list d (e ∷ ds) h k = (h.0, (h.0, in_list (formula_operands_of (d ∷ e ∷ ds)) (operands_begin high (d ∷ e ∷ ds) (h, k))))

stars_begin : (high : ℕ) (d : PlainFormulaOperand) (stars : List Span) → OperandBegins high d → OperandBegins high (starred_by d stars)
stars_begin high d [] h = h
stars_begin high d (star ∷ stars) h = stars_begin high (starred d star) stars (h.0, (h.0, h.1))

call_begins : (high : ℕ) (name : Token) (arguments : List PlainProp) (parentheses : Option Span) → name.start < high
    → ArgumentsBegin high (arguments_of arguments) → OperandBegins high (formula_call name arguments parentheses)
call_begins high name arguments None h k = (h, (h, k))
call_begins high name arguments (Some span) h k = (h, (h, k))

-- ---- each rule

file_keeps : Keeps file_part
file_keeps high (Names variables ∷ Macros macros ∷ AToken infer ∷ AFormula goal ∷ AToken semicolon ∷ []) h = record { macros = h.1.0; goal = h.1.1.1.0 }
file_keeps high parts h = tt

names_keep : Keeps names_part
names_keep high [] h = tt
names_keep high (AToken opening ∷ AToken name ∷ Names names ∷ AToken closing ∷ []) h = tt
names_keep high parts h = tt

more_names_keep : Keeps more_names_part
more_names_keep high [] h = tt
more_names_keep high (AToken comma ∷ AToken name ∷ Names names ∷ []) h = tt
more_names_keep high parts h = tt

macros_keep : Keeps macros_part
macros_keep high [] h = tt
macros_keep high (AMacro m ∷ Macros macros ∷ []) h = (h.0, h.1.0)
macros_keep high parts h = tt

macro_keeps : Keeps macro_part
macro_keeps high (AToken define ∷ AToken name ∷ Names parameters ∷ AToken as_word ∷ AFormula d ∷ AToken semicolon ∷ []) h = h.1.1.1.1.0.1
macro_keeps high (AToken prop ∷ AToken name ∷ Names parameters ∷ AToken as_word ∷ AProp p ∷ AToken semicolon ∷ []) h = h.1.1.1.1.0
macro_keeps high parts h = tt

arguments_keep : Keeps arguments_part
arguments_keep high [] h = tt
arguments_keep high (AToken opening ∷ AProp p ∷ Props ps ∷ AToken closing ∷ []) h = arguments_begin high (p ∷ ps) (h.1.0, h.1.1.0)
arguments_keep high parts h = tt

more_props_keep : Keeps more_props_part
more_props_keep high [] h = tt
more_props_keep high (AToken separator ∷ AProp p ∷ Props ps ∷ []) h = (h.1.0, h.1.1.0)
more_props_keep high (AToken arrow ∷ AProp p ∷ []) h = (h.1.0, tt)
more_props_keep high parts h = tt

joined_props_keep : (connective : Connective) → Keeps (joined_props_part connective)
joined_props_keep connective high (AProp p ∷ Props ps ∷ []) h = prop_list_begins high connective p ps h.0 h.1.0
joined_props_keep connective high parts h = tt

prop_implies_keeps : Keeps prop_implies_part
prop_implies_keeps high (AProp p ∷ Props [] ∷ []) h = h.0
prop_implies_keeps high (AProp p ∷ Props (q ∷ []) ∷ []) h = (h.0, h.1.0.0)
prop_implies_keeps high parts h = tt

prop_prefix_keeps : Keeps prop_prefix_part
prop_prefix_keeps high (AToken sign ∷ AProp p ∷ []) h =
    choose_sign high (token_class sign == classes.exclamation) (direction_of sign) (covering (span_of sign) p.span) p.prop.kind p.prop.span h.0 h.1.0
prop_prefix_keeps high (AProp p ∷ []) h = h.0
prop_prefix_keeps high parts h = tt

prop_atom_keeps : Keeps prop_atom_part
prop_atom_keeps high (AToken opening ∷ AProp p ∷ AToken closing ∷ []) h = h.1.0
prop_atom_keeps high (AToken constant ∷ []) h = tt
prop_atom_keeps high (AToken name ∷ Arguments arguments parentheses ∷ []) h = h.1.0
prop_atom_keeps high parts h = tt

formula_keeps : Keeps formula_part
formula_keeps high (AToken word ∷ AToken name ∷ AToken dot ∷ AFormula d ∷ []) h = (h.0, (h.0, h.1.1.1.0.1))
formula_keeps high (AFormula d ∷ []) h = h.0
formula_keeps high parts h = tt

more_formulas_keep : Keeps more_formulas_part
more_formulas_keep high [] h = tt
more_formulas_keep high (AToken separator ∷ AFormula d ∷ Formulas ds ∷ []) h = (h.1.0, h.1.1.0)
more_formulas_keep high (AToken arrow ∷ AFormula d ∷ []) h = (h.1.0, tt)
more_formulas_keep high parts h = tt

joined_formulas_keep : (connective : Connective) → Keeps (joined_formulas_part connective)
joined_formulas_keep connective high (AFormula d ∷ Formulas ds ∷ []) h = list_begins high (FormulaJoined connective) (λ operands begin. begin) d ds h.0 h.1.0
joined_formulas_keep connective high parts h = tt

formula_implies_keeps : Keeps formula_implies_part
formula_implies_keeps high (AFormula d ∷ Formulas [] ∷ []) h = h.0
formula_implies_keeps high (AFormula d ∷ Formulas (e ∷ []) ∷ []) h = (h.0.0, (h.0.0, (h.0.1, h.1.0.0.1)))
formula_implies_keeps high parts h = tt

formula_chop_keeps : Keeps formula_chop_part
formula_chop_keeps high (AFormula d ∷ Formulas ds ∷ []) h = list_begins high FormulaChop (λ operands begin. begin) d ds h.0 h.1.0
formula_chop_keeps high parts h = tt

formula_prefix_keeps : Keeps formula_prefix_part
formula_prefix_keeps high (AToken sign ∷ AFormula d ∷ []) h = (h.0, (h.0, h.1.0.1))
formula_prefix_keeps high (AFormula d ∷ []) h = h.0
formula_prefix_keeps high parts h = tt

formula_star_keeps : Keeps formula_star_part
formula_star_keeps high (AFormula d ∷ Stars stars ∷ []) h = stars_begin high d stars h.0
formula_star_keeps high parts h = tt

stars_keep : Keeps stars_part
stars_keep high [] h = tt
stars_keep high (AToken star ∷ Stars stars ∷ []) h = tt
stars_keep high parts h = tt

formula_atom_keeps : Keeps formula_atom_part
formula_atom_keeps high (AToken opening ∷ AFormula d ∷ AToken closing ∷ []) h = (h.0, h.1.0.1)
formula_atom_keeps high (AToken opening ∷ AProp p ∷ AToken closing ∷ []) h = (h.0, (h.0, h.1.0))
formula_atom_keeps high (AToken word ∷ []) h =
    (h.0, (h.0, choose_word high (token_class word == classes.word_pt) (token_class word == classes.word_ext) (token_class word == classes.word_true)))
formula_atom_keeps high (AToken slen ∷ ARelation relation ∷ AToken number ∷ []) h = (h.0, (h.0, tt))
formula_atom_keeps high (AToken word ∷ AProp p ∷ ARelation relation ∷ AToken number ∷ []) h = (h.0, (h.0, h.1.0))
formula_atom_keeps high (AToken name ∷ Arguments arguments parentheses ∷ []) h = call_begins high name arguments parentheses h.0 h.1.0
formula_atom_keeps high parts h = tt

relation_keeps : Keeps relation_part
relation_keeps high (AToken sign ∷ []) h = tt
relation_keeps high parts h = tt

-- so does each rule from that of a number on
prop_prefix_rules_keep : AllByRecursion Keeps (drop 32 actions)
prop_prefix_rules_keep = (prop_prefix_keeps, (prop_atom_keeps, tt))

prop_rules_keep : AllByRecursion Keeps (drop 24 actions)
prop_rules_keep =
    (joined_props_keep Iff, (more_props_keep, (prop_implies_keeps, (more_props_keep, (joined_props_keep Or, (more_props_keep, (joined_props_keep And, (more_props_keep, prop_prefix_rules_keep))))))))

formula_prefix_rules_keep : AllByRecursion Keeps (drop 19 actions)
formula_prefix_rules_keep = (formula_prefix_keeps, (formula_star_keeps, (stars_keep, (formula_atom_keeps, (relation_keeps, prop_rules_keep)))))

formula_or_rules_keep : AllByRecursion Keeps (drop 13 actions)
formula_or_rules_keep =
    (joined_formulas_keep Or, (more_formulas_keep, (joined_formulas_keep And, (more_formulas_keep, (formula_chop_keeps, (more_formulas_keep, formula_prefix_rules_keep))))))

formula_rules_keep : AllByRecursion Keeps (drop 8 actions)
formula_rules_keep = (formula_keeps, (joined_formulas_keep Iff, (more_formulas_keep, (formula_implies_keeps, (more_formulas_keep, formula_or_rules_keep)))))

all_keep : AllByRecursion Keeps actions
all_keep =
    (file_keeps, (names_keep, (more_names_keep, (macros_keep, (macro_keeps, (names_keep, (arguments_keep, (more_props_keep, formula_rules_keep))))))))

keeps_at : (made : List (List Part → Part)) → AllByRecursion Keeps made → (rule : ℕ) → Keeps (slice_index_or made rule (λ parts. Nothing))
keeps_at [] all rule high parts h = tt
keeps_at (make ∷ made) all zero high parts h = all.0 high parts h
keeps_at (make ∷ made) all (suc rule) high parts h = keeps_at made all.1 rule high parts h

-- ---- trees

abbrev TokensBegin : ℕ → List Token → Type 0
TokensBegin high = AllByRecursion (λ token. token.start < high)

both_begin : (high : ℕ) (one two : List Token) → TokensBegin high (one ++ two) → TokensBegin high one × TokensBegin high two
both_begin high [] two h = (tt, h)
both_begin high (token ∷ one) two h = let rest = both_begin high one two h.1 in ((h.0, rest.0), rest.1)

-- what trees stand for begins before the offset where their leaves do
trees_begin : (trees : Nodes Token) (high : ℕ) → TokensBegin high (leaves trees) → PartsBegin high (parts_of trees)
trees_begin done high h = tt
trees_begin (leaf token next) high h = (h.0, trees_begin next high h.1)
trees_begin (node rule inner next) high h =
    let both = both_begin high (leaves inner) (leaves next) h in
    (keeps_at actions all_keep rule high (parts_of inner) (trees_begin inner high both.0), trees_begin next high both.1)

-- ---- texts

-- the tokens among pieces begin before the end of these
tokens_begin : (start : ℕ) (pieces : List (List ℕ)) (rest : List ℕ) (high : ℕ) → start + length (concat pieces) ≤ high → EachIsLongest pieces rest
    → TokensBegin high (tokens_from start pieces)
tokens_begin start [] rest high few longest = tt
tokens_begin start (piece ∷ pieces) rest high few longest =
    let whole = length-append piece (concat pieces) in
    let some = piece_has_bytes piece longest.0.piece in
    let later = tokens_begin (start + length piece) pieces rest high (omega (arith, few, whole)) longest.1 in
    elim (cases_Bool (is_blank piece)) [
      | inl blank ↦ rw blank later
      | inr token ↦ rw token (omega (arith, few, whole, some), later)
    ]

-- the forms of what a text spells begin before its end
pub file_begins : (text : List ℕ) (file : PlainFile) → Spells text file → FileBegins (length text) file
file_begins text file (pieces, cut, (tree, is, stands)) =
    let end = length-append (concat pieces) [] in
    let tokens = tokens_begin 0 pieces [] (length text) (omega (arith, end, ap length cut.whole)) cut.longest in
    (subst (λ (parts : List Part). PartsBegin (length text) parts) stands
    (trees_begin tree (length text) (subst (λ (tokens : List Token). TokensBegin (length text) tokens) (sym is.whole) tokens))).0
