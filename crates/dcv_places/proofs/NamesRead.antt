-- The names of a file that a text spells stand in the order of their offsets, as its tokens do.
use Rattle.std.proofs.Common.{◌≡◌, ℕ, zero, suc, ◌+◌, ◌≤◌, Bool, true, false, length, List, [], ◌∷◌, ◌++◌, map, refl, sym, ap, ◌∙◌, subst}
use Rattle.std.proofs.Common.{arith, inl, inr}
use Rattle.std.specs.Prelude.{drop, slice_index_or, ◌==◌, if◌then◌else◌}
use Rattle.std.specs.List.{AllByRecursion}
use Rattle.std.proofs.lemmas.Bool.{cases_Bool}
use Rattle.std.proofs.lemmas.List.{map-append}
use Rattle.dcv_syntax.specs.declared.names.Name.{Name}
use Rattle.dcv_syntax.specs.declared.names.Span.{Span}
use Rattle.dcv_syntax.specs.declared.propositions.Connective.{Connective}
use Rattle.dcv_syntax.specs.declared.propositions.Connective.TheVariants.{And, Or, Iff}
use Rattle.dcv_syntax.specs.declared.propositions.Direction.{Direction}
use Rattle.dcv_syntax.specs.Plain.{PlainPropKind, PropConstant, PropCall, PropNot, PropJoined, PropImplies, PropShifted, PlainArguments, no_arguments}
use Rattle.dcv_syntax.specs.Plain.{argument, arguments_of, PlainPropOperands, no_prop_operands, prop_operand, prop_operands_of, PlainProp, PlainPropOperand}
use Rattle.dcv_syntax.specs.Plain.{PlainFormulaKind, FormulaConstant, FormulaPt, FormulaExt, FormulaBracketed, FormulaSlen, FormulaCounted}
use Rattle.dcv_syntax.specs.Plain.{FormulaCall, FormulaApplied, FormulaJoined, FormulaImplies, FormulaChop, FormulaQuantified}
use Rattle.dcv_syntax.specs.Plain.{PlainFormulaOperands, no_formula_operands, formula_operand, formula_operands_of, PlainFormulaOperand}
use Rattle.dcv_syntax.specs.Plain.{PlainMacroBody, FormulaBody, PropBody, PlainMacro, PlainFile}
use Rattle.dcv_syntax.specs.Spans.{covering}
use Rattle.dcv_grammar.specs.Trees.{Nodes, done, leaf, node, leaves}
use Rattle.dcv_tokens.specs.Classes as classes
use Rattle.dcv_tokens.specs.Tokens.{Token, span_of, is_blank, EachIsLongest, tokens_from}
use Rattle.dcv_tokens.proofs.Cuts.{piece_has_bytes}
use Rattle.dcv_reader.specs.Nodes.{token_class, name_of, direction_of, prop_list, starred, starred_by, formula_list}
use Rattle.dcv_reader.specs.Actions.{Part, AToken, Names, Arguments, ARelation, AProp, AFormula, Props, Formulas, Stars, AMacro, Macros, AFile}
use Rattle.dcv_reader.specs.Actions.{Nothing, actions, parts_of, file_part, names_part, more_names_part, macros_part, macro_part}
use Rattle.dcv_reader.specs.Actions.{arguments_part, more_props_part, joined_props_part, prop_implies_part, prop_prefix_part}
use Rattle.dcv_reader.specs.Actions.{prop_atom_part, formula_part, more_formulas_part, joined_formulas_part, formula_implies_part}
use Rattle.dcv_reader.specs.Actions.{formula_chop_part, formula_prefix_part, formula_star_part, stars_part}
use Rattle.dcv_reader.specs.Actions.{formula_atom_part, relation_part}
use Rattle.dcv_reader.specs.Spelling.{Spells}

-- ---- the names of plain trees, from left to right

abbrev mutual
  pub prop_names : PlainPropKind → List Name
  prop_names (PropConstant truth) = []
  prop_names (PropCall name arguments) = name ∷ argument_names arguments
  prop_names (PropNot p span) = prop_names p
  prop_names (PropJoined connective operands) = prop_operand_names operands
  prop_names (PropImplies p p_span q q_span) = prop_names p ++ prop_names q
  prop_names (PropShifted direction form p span) = prop_names p

  pub argument_names : PlainArguments → List Name
  argument_names no_arguments = []
  argument_names (argument p span arguments) = prop_names p ++ argument_names arguments

  pub prop_operand_names : PlainPropOperands → List Name
  prop_operand_names no_prop_operands = []
  prop_operand_names (prop_operand p span outer operands) = prop_names p ++ prop_operand_names operands

abbrev mutual
  pub formula_names : PlainFormulaKind → List Name
  formula_names (FormulaConstant truth) = []
  formula_names FormulaPt = []
  formula_names FormulaExt = []
  formula_names (FormulaBracketed bracket p) = prop_names p.kind
  formula_names (FormulaSlen relation n) = []
  formula_names (FormulaCounted which p relation n) = prop_names p.kind
  formula_names (FormulaCall name arguments) = name ∷ argument_names (arguments_of arguments)
  formula_names (FormulaApplied unary d span) = formula_names d
  formula_names (FormulaJoined connective operands) = operand_names operands
  formula_names (FormulaImplies c c_span d d_span) = formula_names c ++ formula_names d
  formula_names (FormulaChop operands) = operand_names operands
  formula_names (FormulaQuantified quantifier name d span) = name ∷ formula_names d

  pub operand_names : PlainFormulaOperands → List Name
  operand_names no_formula_operands = []
  operand_names (formula_operand d span outer operands) = formula_names d ++ operand_names operands

abbrev pub body_names : PlainMacroBody → List Name
body_names (FormulaBody d) = formula_names d.kind
body_names (PropBody p) = prop_names p.kind

abbrev pub macro_names : PlainMacro → List Name
macro_names m = m.name ∷ (m.parameters ++ body_names m.body)

abbrev pub macros_names : List PlainMacro → List Name
macros_names [] = []
macros_names (m ∷ macros) = macro_names m ++ macros_names macros

abbrev pub file_names : PlainFile → List Name
file_names file = file.variables ++ (macros_names file.macros ++ formula_names file.goal.formula.kind)

-- ---- names between two offsets, in order

abbrev pub Within : ℕ → List Name → ℕ → Type 0
Within low [] high = low ≤ high
Within low (name ∷ names) high = (low ≤ name.span.start) × Within (suc name.span.start) names high

within_le : (low : ℕ) (names : List Name) (high : ℕ) → Within low names high → low ≤ high
within_le low [] high h = h
within_le low (name ∷ names) high h = let later = within_le (suc name.span.start) names high h.1 in omega (arith, later, h.0)

lower : (less low : ℕ) (names : List Name) (high : ℕ) → less ≤ low → Within low names high → Within less names high
lower less low [] high le h = omega (arith, le, h)
lower less low (name ∷ names) high le h = (omega (arith, le, h.0), h.1)

higher : (low : ℕ) (names : List Name) (high more : ℕ) → high ≤ more → Within low names high → Within low names more
higher low [] high more le h = omega (arith, le, h)
higher low (name ∷ names) high more le h = (h.0, higher (suc name.span.start) names high more le h.1)

both : (low : ℕ) (one two : List Name) (middle high : ℕ) → Within low one middle → Within middle two high → Within low (one ++ two) high
both low [] two middle high h k = lower low middle two high h k
both low (name ∷ one) two middle high h k = (h.0, both (suc name.span.start) one two middle high h.1 k)

-- a list of names that is cut in two
record Cut (low : ℕ) (one two : List Name) (high : ℕ) : Type 0 where
  middle : ℕ
  front : Within low one middle
  behind : Within middle two high

cut : (low : ℕ) (one two : List Name) (high : ℕ) → Within low (one ++ two) high → Cut low one two high
cut low [] two high h = record { middle = low; front = omega arith; behind = h }
cut low (name ∷ one) two high h =
    let rest = cut (suc name.span.start) one two high h.1 in
    record { middle = rest.middle; front = (h.0, rest.front); behind = rest.behind }

-- ---- the names of parts

abbrev props_names : List PlainPropOperand → List Name
props_names [] = []
props_names (p ∷ ps) = prop_names p.prop.kind ++ props_names ps

abbrev arguments_names : List PlainProp → List Name
arguments_names [] = []
arguments_names (p ∷ ps) = prop_names p.kind ++ arguments_names ps

abbrev formulas_names : List PlainFormulaOperand → List Name
formulas_names [] = []
formulas_names (d ∷ ds) = formula_names d.formula.kind ++ formulas_names ds

-- of a token its place, whatever it is
abbrev part_names : Part → List Name
part_names (AToken token) = name_of token ∷ []
part_names (Names names) = names
part_names (Arguments arguments parentheses) = arguments_names arguments
part_names (ARelation relation) = []
part_names (AProp p) = prop_names p.prop.kind
part_names (AFormula d) = formula_names d.formula.kind
part_names (Props ps) = props_names ps
part_names (Formulas ds) = formulas_names ds
part_names (Stars stars) = []
part_names (AMacro m) = macro_names m
part_names (Macros macros) = macros_names macros
part_names (AFile file) = file_names file
part_names Nothing = []

-- one part after another
abbrev InOrder : ℕ → List Part → ℕ → Type 0
InOrder low [] high = low ≤ high
InOrder low (part ∷ parts) high = (middle : ℕ) × (Within low (part_names part) middle × InOrder middle parts high)

in_order_le : (low : ℕ) (parts : List Part) (high : ℕ) → InOrder low parts high → low ≤ high
in_order_le low [] high h = h
in_order_le low (part ∷ parts) high (middle, (here, later)) =
    let one = within_le low (part_names part) middle here in
    let two = in_order_le middle parts high later in
    omega (arith, one, two)

-- what a rule stands for has its names between the same offsets as its parts
abbrev Keeps : (List Part → Part) → Type 0
Keeps make = (low high : ℕ) (parts : List Part) → InOrder low parts high → Within low (part_names (make parts)) high

-- names between offsets that are further apart
apart : (low after : ℕ) (names : List Name) (before high : ℕ) → low ≤ after → before ≤ high → Within after names before → Within low names high
apart low after names before high le le_high h = lower low after names high le (higher after names before high le_high h)

-- ---- lists of operands and of arguments

operands_of_props : (ps : List PlainPropOperand) → prop_operand_names (prop_operands_of ps) ≡ props_names ps
operands_of_props [] = refl
operands_of_props (p ∷ ps) = ap (λ names. prop_names p.prop.kind ++ names) (operands_of_props ps)

operands_of_formulas : (ds : List PlainFormulaOperand) → operand_names (formula_operands_of ds) ≡ formulas_names ds
operands_of_formulas [] = refl
operands_of_formulas (d ∷ ds) = ap (λ names. formula_names d.formula.kind ++ names) (operands_of_formulas ds)

arguments_of_list : (ps : List PlainProp) → argument_names (arguments_of ps) ≡ arguments_names ps
arguments_of_list [] = refl
arguments_of_list (p ∷ ps) = ap (λ names. prop_names p.kind ++ names) (arguments_of_list ps)

arguments_of_props : (ps : List PlainPropOperand) → arguments_names (map (λ operand. operand.prop) ps) ≡ props_names ps
arguments_of_props [] = refl
arguments_of_props (p ∷ ps) = ap (λ names. prop_names p.prop.kind ++ names) (arguments_of_props ps)

prop_list_keeps : (connective : Connective) (low : ℕ) (p : PlainPropOperand) (middle : ℕ) (ps : List PlainPropOperand) (high : ℕ)
    → Within low (prop_names p.prop.kind) middle → Within middle (props_names ps) high → Within low (prop_names (prop_list connective p ps).prop.kind) high
prop_list_keeps connective low p middle [] high h k = higher low (prop_names p.prop.kind) middle high k h
prop_list_keeps connective low p middle (q ∷ ps) high h k =
    subst (λ (names : List Name). Within low names high) (sym (operands_of_props (p ∷ q ∷ ps)))
    (both low (prop_names p.prop.kind) (props_names (q ∷ ps)) middle high h k)

formula_list_keeps : (kind : PlainFormulaOperands → PlainFormulaKind)
    → ((operands : PlainFormulaOperands) → formula_names (kind operands) ≡ operand_names operands)
    → (low : ℕ) (d : PlainFormulaOperand) (middle : ℕ) (ds : List PlainFormulaOperand) (high : ℕ) → Within low (formula_names d.formula.kind) middle
    → Within middle (formulas_names ds) high → Within low (formula_names (formula_list kind d ds).formula.kind) high
formula_list_keeps kind same low d middle [] high h k = higher low (formula_names d.formula.kind) middle high k h
formula_list_keeps kind same low d middle (e ∷ ds) high h k =
    subst (λ (names : List Name). Within low names high) (sym (same (formula_operands_of (d ∷ e ∷ ds)) ∙ operands_of_formulas (d ∷ e ∷ ds)))
    (both low (formula_names d.formula.kind) (formulas_names (e ∷ ds)) middle high h k)

-- ---- nodes that a word picks

choose_sign : (a : Bool) (direction : Direction) (form : Span) (p : PlainPropKind) (span : Span)
    → prop_names (if a then PropNot p span else PropShifted direction form p span) ≡ prop_names p
choose_sign true direction form p span = refl
choose_sign false direction form p span = refl

choose_word : (a b truth : Bool) → formula_names (if a then FormulaPt else if b then FormulaExt else FormulaConstant truth) ≡ []
choose_word true b truth = refl
choose_word false true truth = refl
choose_word false false truth = refl

stars_keep_names : (d : PlainFormulaOperand) (stars : List Span) → formula_names (starred_by d stars).formula.kind ≡ formula_names d.formula.kind
stars_keep_names d [] = refl
stars_keep_names d (star ∷ stars) = stars_keep_names (starred d star) stars

-- ---- each rule

file_keeps : Keeps file_part
file_keeps low high (Names variables ∷ Macros macros ∷ AToken infer ∷ AFormula goal ∷ AToken semicolon ∷ [])
    (a, (h, (b, (k, (c, (l, (d, (m, (e, (n, o)))))))))) =
    apart low low (variables ++ (macros_names macros ++ formula_names goal.formula.kind)) d high (omega arith) (omega (arith, n.0, n.1, o))
    (both low variables (macros_names macros ++ formula_names goal.formula.kind) a d h
    (both a (macros_names macros) (formula_names goal.formula.kind) b d k
    (lower b c (formula_names goal.formula.kind) d (omega (arith, l.0, l.1)) m)))
file_keeps low high parts h = in_order_le low parts high h

names_keep : Keeps names_part
names_keep low high [] h = h
names_keep low high (AToken opening ∷ AToken name ∷ Names names ∷ AToken closing ∷ []) (a, (h, (b, (k, (c, (l, (d, (m, n)))))))) =
    apart low a (name_of name ∷ names) c high (omega (arith, h.0, h.1)) (omega (arith, m.0, m.1, n)) (both a (name_of name ∷ []) names b c k l)
names_keep low high parts h = in_order_le low parts high h

more_names_keep : Keeps more_names_part
more_names_keep low high [] h = h
more_names_keep low high (AToken comma ∷ AToken name ∷ Names names ∷ []) (a, (h, (b, (k, (c, (l, m)))))) =
    apart low a (name_of name ∷ names) c high (omega (arith, h.0, h.1)) m (both a (name_of name ∷ []) names b c k l)
more_names_keep low high parts h = in_order_le low parts high h

macros_keep : Keeps macros_part
macros_keep low high [] h = h
macros_keep low high (AMacro m ∷ Macros macros ∷ []) (a, (h, (b, (k, l)))) =
    higher low (macro_names m ++ macros_names macros) b high l (both low (macro_names m) (macros_names macros) a b h k)
macros_keep low high parts h = in_order_le low parts high h

macro_keeps : Keeps macro_part
macro_keeps low high (AToken define ∷ AToken name ∷ Names parameters ∷ AToken as_word ∷ AFormula d ∷ AToken semicolon ∷ [])
    (a, (h, (b, (k, (c, (l, (e, (m, (f, (n, (g, (o, p)))))))))))) =
    apart low a (name_of name ∷ (parameters ++ formula_names d.formula.kind)) f high (omega (arith, h.0, h.1)) (omega (arith, o.0, o.1, p))
    (both a (name_of name ∷ []) (parameters ++ formula_names d.formula.kind) b f k
    (both b parameters (formula_names d.formula.kind) c f l (lower c e (formula_names d.formula.kind) f (omega (arith, m.0, m.1)) n)))
macro_keeps low high (AToken prop ∷ AToken name ∷ Names parameters ∷ AToken as_word ∷ AProp q ∷ AToken semicolon ∷ [])
    (a, (h, (b, (k, (c, (l, (e, (m, (f, (n, (g, (o, p)))))))))))) =
    apart low a (name_of name ∷ (parameters ++ prop_names q.prop.kind)) f high (omega (arith, h.0, h.1)) (omega (arith, o.0, o.1, p))
    (both a (name_of name ∷ []) (parameters ++ prop_names q.prop.kind) b f k
    (both b parameters (prop_names q.prop.kind) c f l (lower c e (prop_names q.prop.kind) f (omega (arith, m.0, m.1)) n)))
macro_keeps low high parts h = in_order_le low parts high h

arguments_keep : Keeps arguments_part
arguments_keep low high [] h = h
arguments_keep low high (AToken opening ∷ AProp p ∷ Props ps ∷ AToken closing ∷ []) (a, (h, (b, (k, (c, (l, (d, (m, n)))))))) =
    subst (λ (names : List Name). Within low names high) (sym (arguments_of_props (p ∷ ps)))
    (apart low a (props_names (p ∷ ps)) c high (omega (arith, h.0, h.1)) (omega (arith, m.0, m.1, n))
    (both a (prop_names p.prop.kind) (props_names ps) b c k l))
arguments_keep low high parts h = in_order_le low parts high h

more_props_keep : Keeps more_props_part
more_props_keep low high [] h = h
more_props_keep low high (AToken separator ∷ AProp p ∷ Props ps ∷ []) (a, (h, (b, (k, (c, (l, m)))))) =
    apart low a (props_names (p ∷ ps)) c high (omega (arith, h.0, h.1)) m (both a (prop_names p.prop.kind) (props_names ps) b c k l)
more_props_keep low high (AToken arrow ∷ AProp p ∷ []) (a, (h, (b, (k, l)))) =
    apart low a (props_names (p ∷ [])) b high (omega (arith, h.0, h.1)) l (both a (prop_names p.prop.kind) [] b b k (omega arith))
more_props_keep low high parts h = in_order_le low parts high h

joined_props_keep : (connective : Connective) → Keeps (joined_props_part connective)
joined_props_keep connective low high (AProp p ∷ Props ps ∷ []) (a, (h, (b, (k, l)))) =
    prop_list_keeps connective low p a ps high h (higher a (props_names ps) b high l k)
joined_props_keep connective low high parts h = in_order_le low parts high h

prop_implies_keeps : Keeps prop_implies_part
prop_implies_keeps low high (AProp p ∷ Props [] ∷ []) (a, (h, (b, (k, l)))) = higher low (prop_names p.prop.kind) a high (omega (arith, k, l)) h
prop_implies_keeps low high (AProp p ∷ Props (q ∷ []) ∷ []) (a, (h, (b, (k, l)))) =
    let cut_q = cut a (prop_names q.prop.kind) [] b k in
    both low (prop_names p.prop.kind) (prop_names q.prop.kind) a high h
    (higher a (prop_names q.prop.kind) cut_q.middle high (omega (arith, cut_q.behind, l)) cut_q.front)
prop_implies_keeps low high parts h = in_order_le low parts high h

prop_prefix_keeps : Keeps prop_prefix_part
prop_prefix_keeps low high (AToken sign ∷ AProp p ∷ []) (a, (h, (b, (k, l)))) =
    subst (λ (names : List Name). Within low names high)
    (sym (choose_sign (token_class sign == classes.exclamation) (direction_of sign) (covering (span_of sign) p.span) p.prop.kind p.prop.span))
    (apart low a (prop_names p.prop.kind) b high (omega (arith, h.0, h.1)) l k)
prop_prefix_keeps low high (AProp p ∷ []) (a, (h, k)) = higher low (prop_names p.prop.kind) a high k h
prop_prefix_keeps low high parts h = in_order_le low parts high h

prop_atom_keeps : Keeps prop_atom_part
prop_atom_keeps low high (AToken opening ∷ AProp p ∷ AToken closing ∷ []) (a, (h, (b, (k, (c, (l, m)))))) =
    apart low a (prop_names p.prop.kind) b high (omega (arith, h.0, h.1)) (omega (arith, l.0, l.1, m)) k
prop_atom_keeps low high (AToken constant ∷ []) (a, (h, k)) = omega (arith, h.0, h.1, k)
prop_atom_keeps low high (AToken name ∷ Arguments arguments parentheses ∷ []) (a, (h, (b, (k, l)))) =
    subst (λ (names : List Name). Within low (name_of name ∷ names) high) (sym (arguments_of_list arguments))
    (higher low (name_of name ∷ arguments_names arguments) b high l (both low (name_of name ∷ []) (arguments_names arguments) a b h k))
prop_atom_keeps low high parts h = in_order_le low parts high h

formula_keeps : Keeps formula_part
formula_keeps low high (AToken word ∷ AToken name ∷ AToken dot ∷ AFormula d ∷ []) (a, (h, (b, (k, (c, (l, (e, (m, n)))))))) =
    apart low a (name_of name ∷ formula_names d.formula.kind) e high (omega (arith, h.0, h.1)) n
    (both a (name_of name ∷ []) (formula_names d.formula.kind) b e k (lower b c (formula_names d.formula.kind) e (omega (arith, l.0, l.1)) m))
formula_keeps low high (AFormula d ∷ []) (a, (h, k)) = higher low (formula_names d.formula.kind) a high k h
formula_keeps low high parts h = in_order_le low parts high h

more_formulas_keep : Keeps more_formulas_part
more_formulas_keep low high [] h = h
more_formulas_keep low high (AToken separator ∷ AFormula d ∷ Formulas ds ∷ []) (a, (h, (b, (k, (c, (l, m)))))) =
    apart low a (formulas_names (d ∷ ds)) c high (omega (arith, h.0, h.1)) m (both a (formula_names d.formula.kind) (formulas_names ds) b c k l)
more_formulas_keep low high (AToken arrow ∷ AFormula d ∷ []) (a, (h, (b, (k, l)))) =
    apart low a (formulas_names (d ∷ [])) b high (omega (arith, h.0, h.1)) l (both a (formula_names d.formula.kind) [] b b k (omega arith))
more_formulas_keep low high parts h = in_order_le low parts high h

joined_formulas_keep : (connective : Connective) → Keeps (joined_formulas_part connective)
joined_formulas_keep connective low high (AFormula d ∷ Formulas ds ∷ []) (a, (h, (b, (k, l)))) =
    formula_list_keeps (FormulaJoined connective) (λ operands. refl) low d a ds high h (higher a (formulas_names ds) b high l k)
joined_formulas_keep connective low high parts h = in_order_le low parts high h

formula_implies_keeps : Keeps formula_implies_part
formula_implies_keeps low high (AFormula d ∷ Formulas [] ∷ []) (a, (h, (b, (k, l)))) =
    higher low (formula_names d.formula.kind) a high (omega (arith, k, l)) h
formula_implies_keeps low high (AFormula d ∷ Formulas (e ∷ []) ∷ []) (a, (h, (b, (k, l)))) =
    let cut_e = cut a (formula_names e.formula.kind) [] b k in
    both low (formula_names d.formula.kind) (formula_names e.formula.kind) a high h
    (higher a (formula_names e.formula.kind) cut_e.middle high (omega (arith, cut_e.behind, l)) cut_e.front)
formula_implies_keeps low high parts h = in_order_le low parts high h

formula_chop_keeps : Keeps formula_chop_part
formula_chop_keeps low high (AFormula d ∷ Formulas ds ∷ []) (a, (h, (b, (k, l)))) =
    formula_list_keeps FormulaChop (λ operands. refl) low d a ds high h (higher a (formulas_names ds) b high l k)
formula_chop_keeps low high parts h = in_order_le low parts high h

formula_prefix_keeps : Keeps formula_prefix_part
formula_prefix_keeps low high (AToken sign ∷ AFormula d ∷ []) (a, (h, (b, (k, l)))) =
    apart low a (formula_names d.formula.kind) b high (omega (arith, h.0, h.1)) l k
formula_prefix_keeps low high (AFormula d ∷ []) (a, (h, k)) = higher low (formula_names d.formula.kind) a high k h
formula_prefix_keeps low high parts h = in_order_le low parts high h

formula_star_keeps : Keeps formula_star_part
formula_star_keeps low high (AFormula d ∷ Stars stars ∷ []) (a, (h, (b, (k, l)))) =
    subst (λ (names : List Name). Within low names high) (sym (stars_keep_names d stars))
    (higher low (formula_names d.formula.kind) a high (omega (arith, k, l)) h)
formula_star_keeps low high parts h = in_order_le low parts high h

stars_keep : Keeps stars_part
stars_keep low high [] h = h
stars_keep low high (AToken star ∷ Stars stars ∷ []) (a, (h, (b, (k, l)))) = omega (arith, h.0, h.1, k, l)
stars_keep low high parts h = in_order_le low parts high h

formula_atom_keeps : Keeps formula_atom_part
formula_atom_keeps low high (AToken opening ∷ AFormula d ∷ AToken closing ∷ []) (a, (h, (b, (k, (c, (l, m)))))) =
    apart low a (formula_names d.formula.kind) b high (omega (arith, h.0, h.1)) (omega (arith, l.0, l.1, m)) k
formula_atom_keeps low high (AToken opening ∷ AProp p ∷ AToken closing ∷ []) (a, (h, (b, (k, (c, (l, m)))))) =
    apart low a (prop_names p.prop.kind) b high (omega (arith, h.0, h.1)) (omega (arith, l.0, l.1, m)) k
formula_atom_keeps low high (AToken word ∷ []) (a, (h, k)) =
    subst (λ (names : List Name). Within low names high)
    (sym (choose_word (token_class word == classes.word_pt) (token_class word == classes.word_ext) (token_class word == classes.word_true)))
    (omega (arith, h.0, h.1, k))
formula_atom_keeps low high (AToken slen ∷ ARelation relation ∷ AToken number ∷ []) (a, (h, (b, (k, (c, (l, m)))))) =
    omega (arith, h.0, h.1, k, l.0, l.1, m)
formula_atom_keeps low high (AToken word ∷ AProp p ∷ ARelation relation ∷ AToken number ∷ []) (a, (h, (b, (k, (c, (l, (d, (m, n)))))))) =
    apart low a (prop_names p.prop.kind) b high (omega (arith, h.0, h.1)) (omega (arith, l, m.0, m.1, n)) k
formula_atom_keeps low high (AToken name ∷ Arguments arguments parentheses ∷ []) (a, (h, (b, (k, l)))) =
    subst (λ (names : List Name). Within low (name_of name ∷ names) high) (sym (arguments_of_list arguments))
    (higher low (name_of name ∷ arguments_names arguments) b high l (both low (name_of name ∷ []) (arguments_names arguments) a b h k))
formula_atom_keeps low high parts h = in_order_le low parts high h

relation_keeps : Keeps relation_part
relation_keeps low high (AToken sign ∷ []) (a, (h, k)) = omega (arith, h.0, h.1, k)
relation_keeps low high parts h = in_order_le low parts high h

-- so does each rule from that of a number on
prop_prefix_rules_keep : AllByRecursion Keeps (drop 32 actions)
prop_prefix_rules_keep = (prop_prefix_keeps, (prop_atom_keeps, tt))

prop_rules_keep : AllByRecursion Keeps (drop 24 actions)
prop_rules_keep =
    (joined_props_keep Iff, (more_props_keep, (prop_implies_keeps, (more_props_keep, (joined_props_keep Or, (more_props_keep, (joined_props_keep And, (more_props_keep, prop_prefix_rules_keep))))))))

formula_prefix_rules_keep : AllByRecursion Keeps (drop 19 actions)
formula_prefix_rules_keep = (formula_prefix_keeps, (formula_star_keeps, (stars_keep, (formula_atom_keeps, (relation_keeps, prop_rules_keep)))))

formula_or_rules_keep : AllByRecursion Keeps (drop 13 actions)
formula_or_rules_keep =
    (joined_formulas_keep Or, (more_formulas_keep, (joined_formulas_keep And, (more_formulas_keep, (formula_chop_keeps, (more_formulas_keep, formula_prefix_rules_keep))))))

formula_rules_keep : AllByRecursion Keeps (drop 8 actions)
formula_rules_keep = (formula_keeps, (joined_formulas_keep Iff, (more_formulas_keep, (formula_implies_keeps, (more_formulas_keep, formula_or_rules_keep)))))

all_keep : AllByRecursion Keeps actions
all_keep =
    (file_keeps, (names_keep, (more_names_keep, (macros_keep, (macro_keeps, (names_keep, (arguments_keep, (more_props_keep, formula_rules_keep))))))))

keeps_at : (made : List (List Part → Part)) → AllByRecursion Keeps made → (rule : ℕ) → Keeps (slice_index_or made rule (λ parts. Nothing))
keeps_at [] all rule low high parts h = in_order_le low parts high h
keeps_at (make ∷ made) all zero low high parts h = all.0 low high parts h
keeps_at (make ∷ made) all (suc rule) low high parts h = keeps_at made all.1 rule low high parts h

-- ---- trees

-- the places of tokens, whatever they are
abbrev places : List Token → List Name
places = map name_of

-- what trees stand for is in the order of their leaves
trees_in_order : (trees : Nodes Token) (low high : ℕ) → Within low (places (leaves trees)) high → InOrder low (parts_of trees) high
trees_in_order done low high h = h
trees_in_order (leaf token next) low high h = (suc token.start, ((h.0, omega arith), trees_in_order next (suc token.start) high h.1))
trees_in_order (node rule inner next) low high h =
    let parts = cut low (places (leaves inner)) (places (leaves next)) high
    (subst (λ (names : List Name). Within low names high) (map-append name_of (leaves inner) (leaves next)) h) in (
      parts.middle,
      (
        keeps_at actions all_keep rule low parts.middle (parts_of inner) (trees_in_order inner low parts.middle parts.front),
        trees_in_order next parts.middle high parts.behind,
      ),
    )

-- ---- texts

-- the tokens among pieces stand one after another
tokens_in_order : (start : ℕ) (pieces : List (List ℕ)) (rest : List ℕ) → EachIsLongest pieces rest
    → (high : ℕ) × Within start (places (tokens_from start pieces)) high
tokens_in_order start [] rest longest = (start, omega arith)
tokens_in_order start (piece ∷ pieces) rest longest =
    let (high, later) = tokens_in_order (start + length piece) pieces rest longest.1 in
    let some = piece_has_bytes piece longest.0.piece in
    let behind = places (tokens_from (start + length piece) pieces) in
    elim (cases_Bool (is_blank piece)) [
      | inl blank ↦ (high, rw blank (lower start (start + length piece) behind high (omega arith) later))
      | inr token ↦ (high, rw token (omega arith, lower (suc start) (start + length piece) behind high (omega (arith, some)) later))
    ]

-- the names of what a text spells are between two offsets, in order
pub names_in_order : (text : List ℕ) (file : PlainFile) → Spells text file → (high : ℕ) × Within 0 (file_names file) high
names_in_order text file (pieces, cut_whole, (tree, is, stands)) =
    let (high, tokens) = tokens_in_order 0 pieces [] cut_whole.longest in
    let leaves_in_order = subst (λ (tokens : List Token). Within 0 (places tokens) high) (sym is.whole) tokens in
    let (middle, (here, behind)) = subst (λ (parts : List Part). InOrder 0 parts high) stands (trees_in_order tree 0 high leaves_in_order) in
    (middle, here)
