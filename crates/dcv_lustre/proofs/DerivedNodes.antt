-- The text of a node spells it.
use Rattle.std.proofs.Common.{◌≡◌, ℕ, ◌+◌, ◌<◌, List, [], ◌∷◌, length, map, refl, sym, ap, ◌∙◌, arith, codes}
use Rattle.std.specs.List.{AllByRecursion}
use Rattle.dcv_grammar.specs.declared.grammar.Symbol.TheVariants.{Class, Rule}
use Rattle.dcv_lexer.specs.Cuts.{Token}
use Rattle.dcv_observer.specs.Layouts.{Layout, ◌<>◌, Each}
use Rattle.dcv_observer.proofs.Spelt.{SpeltAs, at, tokens_in, after, laid_stands, none, by_token, by_rule, then, before, in_turn}
use Rattle.dcv_lustre.specs.Classes.{lexicon, word_let, word_tel, close_parenthesis}
use Rattle.dcv_lustre.specs.Tree.{Kind, OfTruth, OfNumber, Equation, Local, Node}
use Rattle.dcv_lustre.specs.Placed.{equation_of, local_of, kind_at, bytes_of as token_bytes, node_of, PlacedNode, PlacedEquation}
use Rattle.dcv_lustre.specs.Language as rules
use Rattle.dcv_lustre.specs.Language.{language}
use Rattle.dcv_lustre.specs.Actions.{scheme, AToken, Tokens, ALocal, Locals, AnEquation, Equations, ANode, Spells}
use Rattle.dcv_lustre.specs.Form.{IsName, IsEquation, IsSpellable}
use Rattle.dcv_lustre.specs.Layout.{kind_text, right_layout, equation_line, local_line, local_lines, between_inputs, input_layout, inputs_layout, opening_layout}
use Rattle.dcv_lustre.specs.Layout.{output_layout, equation_lines, layout_of, text_of}
use Rattle.dcv_lustre.proofs.Derived.{Spelt, name_spelt, right_spelt}
use Rattle.dcv_lustre.proofs.LaidOut.{orderly, node_laid}

-- ---- equations

equation_spelt : (start : ℕ) (equation : Equation) → IsEquation equation → SpeltAs scheme rules.equation AnEquation equation_of start (equation_line equation) equation
unfolding language lexicon
equation_spelt start equation is =
    let left = at (start + 1 + 1) equation.left in
    let from = start + 1 + 1 + length equation.left + 1 + 1 + 1 in
    let r = right_spelt from equation.right is.right in
    record {
      placed = record { left = left; right = r.placed };
      is = ap (λ right. record { left = equation.left; right = right }) r.is;
      spelt =
          by_rule rules.equation (0, omega arith, refl) (then (name_spelt (start + 1 + 1) equation.left is.left)
          (by_token _ refl (before (right_layout equation.right) _ from r.spelt (by_token _ refl none))));
    }

equations_spelt : (equations : List Equation) (start : ℕ) → AllByRecursion IsEquation equations
    → SpeltAs scheme rules.equations Equations (map equation_of) start (Each equation_line equations) equations
unfolding language
equations_spelt [] start is = record { placed = []; is = refl; spelt = by_rule rules.equations (0, omega arith, refl) none }
equations_spelt (equation ∷ equations) start is =
    let e = equation_spelt start equation is.0 in
    let more = equations_spelt equations (after start (equation_line equation)) is.1 in
    record {
      placed = e.placed ∷ more.placed;
      is = λ i. e.is i ∷ more.is i;
      spelt = by_rule rules.equations (1, omega arith, refl) (in_turn (equation_line equation) (Each equation_line equations) start e.spelt more.spelt);
    }

-- ---- locals

kind_is : (start : ℕ) (kind : Kind) → kind_at (at start (kind_text kind)) ≡ kind
kind_is start OfTruth = refl
kind_is start OfNumber = refl

kind_spelt : (start : ℕ) (kind : Kind) → Spelt (Rule rules.kind ∷ []) (at start (kind_text kind) ∷ []) (AToken (at start (kind_text kind)) ∷ [])
unfolding language lexicon
kind_spelt start OfTruth = by_rule rules.kind (1, omega arith, refl) (by_token (at start (codes "bool")) refl none)
kind_spelt start OfNumber = by_rule rules.kind (0, omega arith, refl) (by_token (at start (codes "int")) refl none)

local_spelt : (start : ℕ) (local : Local) → IsName local.name → SpeltAs scheme rules.local ALocal local_of start (local_line local) local
unfolding language lexicon
local_spelt start local is =
    let name = at (start + 1 + 1) local.name in
    let from = start + 1 + 1 + length local.name + 1 + 1 in
    record {
      placed = record { name = name; kind = at from (kind_text local.kind) };
      is = ap (λ kind. record { name = local.name; kind = kind }) (kind_is from local.kind);
      spelt = by_rule rules.local (0, omega arith, refl) (then (name_spelt (start + 1 + 1) local.name is) (by_token _ refl (then (kind_spelt from local.kind) (by_token _ refl none))));
    }

locals_spelt : (locals : List Local) (start : ℕ) → AllByRecursion (λ (local : Local). IsName local.name) locals
    → SpeltAs scheme rules.locals Locals (map local_of) start (Each local_line locals) locals
unfolding language
locals_spelt [] start is = record { placed = []; is = refl; spelt = by_rule rules.locals (0, omega arith, refl) none }
locals_spelt (local ∷ locals) start is =
    let l = local_spelt start local is.0 in
    let more = locals_spelt locals (after start (local_line local)) is.1 in
    record {
      placed = l.placed ∷ more.placed;
      is = λ i. l.is i ∷ more.is i;
      spelt = by_rule rules.locals (1, omega arith, refl) (in_turn (local_line local) (Each local_line locals) start l.spelt more.spelt);
    }

variables_spelt : (locals : List Local) (start : ℕ) → AllByRecursion (λ (local : Local). IsName local.name) locals
    → SpeltAs scheme rules.variables Locals (map local_of) start (local_lines locals) locals
unfolding language lexicon
variables_spelt [] start is = record { placed = []; is = refl; spelt = by_rule rules.variables (0, omega arith, refl) none }
variables_spelt (local ∷ locals) start is =
    let from = start + 3 + 1 in
    let l = local_spelt from local is.0 in
    let more = locals_spelt locals (after from (local_line local)) is.1 in
    record {
      placed = l.placed ∷ more.placed;
      is = λ i. l.is i ∷ more.is i;
      spelt = by_rule rules.variables (1, omega arith, refl) (by_token _ refl (in_turn (local_line local) (Each local_line locals) from l.spelt more.spelt));
    }

-- ---- inputs

input_spelt : (start : ℕ) (name : List ℕ) → IsName name → Spelt (Rule rules.input ∷ []) (tokens_in start (input_layout name)) (AToken (at start name) ∷ [])
unfolding language lexicon
input_spelt start name is = by_rule rules.input (0, omega arith, refl) (then (name_spelt start name is) (by_token _ refl (by_token _ refl none)))

abbrev next_input : List ℕ → Layout
next_input name = between_inputs <> input_layout name

more_inputs_spelt : (names : List (List ℕ)) (start : ℕ) → AllByRecursion IsName names
    → SpeltAs scheme rules.more_inputs Tokens token_bytes start (Each next_input names) names
unfolding language lexicon
more_inputs_spelt [] start is = record { placed = []; is = refl; spelt = by_rule rules.more_inputs (0, omega arith, refl) none }
more_inputs_spelt (name ∷ names) start is =
    let from = start + 1 + 1 in
    let more = more_inputs_spelt names (after from (input_layout name)) is.1 in
    record {
      placed = at from name ∷ more.placed;
      is = λ i. name ∷ more.is i;
      spelt =
          by_rule rules.more_inputs (1, omega arith, refl) (by_token _ refl (in_turn (input_layout name) (Each next_input names) from (input_spelt from name is.0) more.spelt));
    }

-- ---- nodes

-- the tokens after the inputs
output_spelt : (start : ℕ)
    → (output : Token) × Spelt (Class close_parenthesis ∷ Rule rules.output ∷ []) (tokens_in start output_layout) (AToken output ∷ [])
unfolding language lexicon
output_spelt start = (
  _,
  by_token _ refl (by_rule rules.output (0, omega arith, refl)
      (by_token _ refl (by_token _ refl (by_token _ refl (by_token _ refl (by_token _ refl (by_token _ refl (by_token _ refl none)))))))),
)

-- the tokens after the locals
end_spelt : (equations : List Equation) (start : ℕ) → AllByRecursion IsEquation equations
    → (tel : Token) × (placed : List PlacedEquation) × (map equation_of placed ≡ equations)
    × Spelt (Class word_let ∷ Rule rules.equations ∷ Class word_tel ∷ []) (tokens_in start (equation_lines equations)) (Equations placed ∷ AToken tel ∷ [])
unfolding language lexicon
end_spelt equations start are =
    let e = equations_spelt equations (start + 3 + 1) are in
    let tel = at (after (start + 3 + 1) (Each equation_line equations)) (codes "tel") in
    (tel, e.placed, e.is, by_token _ refl (before (Each equation_line equations) _ (start + 3 + 1) e.spelt (by_token tel refl none)))

module _ (of : Node) (is : IsSpellable of) where
  abbrev rest : Layout
  rest = output_layout <> local_lines of.locals <> equation_lines of.equations

  abbrev layout_from : List (List ℕ) → Layout
  layout_from inputs = opening_layout of.name <> inputs_layout inputs <> rest

  node_by_inputs : (names : List (List ℕ)) → of.inputs ≡ names → AllByRecursion IsName names → 0 < length names
      → SpeltAs scheme rules.node ANode node_of 0 (layout_from names) of
  unfolding language lexicon
  node_by_inputs [] same are some = absurd (omega (arith, some))
  node_by_inputs (name ∷ names) same are some =
      let from = 4 + 1 + length of.name + 1 in
      let second = after from (input_layout name) in
      let third = after second (Each next_input names) in
      let fourth = after third output_layout in
      let fifth = after fourth (local_lines of.locals) in
      let more = more_inputs_spelt names second are.1 in
      let out = output_spelt third in
      let vars = variables_spelt of.locals fourth is.locals in
      let end = end_spelt of.equations fifth is.equations in
      record {
        placed = record { name = at (4 + 1) of.name; inputs = at from name ∷ more.placed; output = out.0; locals = vars.placed; equations = end.1; tel = end.0 };
        is = λ i. record { name = of.name; inputs = (ap (λ ns. name ∷ ns) more.is ∙ sym same) i; locals = vars.is i; equations = end.2 i };
        spelt =
            by_rule rules.node (0, omega arith, refl)
            (by_token (at 0 (codes "node")) refl (then (name_spelt (4 + 1) of.name is.name) (by_token _ refl
            (in_turn (input_layout name) (Each next_input names <> rest) from (input_spelt from name are.0)
            (in_turn (Each next_input names) rest second more.spelt
            (in_turn output_layout (local_lines of.locals <> equation_lines of.equations) third out.1
            (in_turn (local_lines of.locals) (equation_lines of.equations) fourth vars.spelt end.3)))))));
      }

  -- the text spells the node, with each word where it stands
  pub text_spells : (placed : PlacedNode) × Spells (text_of of) placed × (node_of placed ≡ of)
  unfolding text_of language
  text_spells =
      let n = node_by_inputs of.inputs refl is.inputs is.some_input in
      (n.placed, laid_stands orderly (layout_of of) 10 (node_laid of 10 is) (ANode n.placed) n.spelt, n.is)
