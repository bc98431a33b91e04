-- Once all names are declared, their rows tell what the rules ask.
use Rattle.std.proofs.Common.{◌≡◌, ℕ, zero, suc, ◌+◌, ◌<◌, Bool, true, false, cond, ◌||◌, List, [], ◌∷◌, ◌++◌, length, map, get_or, Option, refl, sym, ap, subst, ◌∙◌, arith, append_assoc}
use Rattle.std.specs.Prelude.{bytes_eq}
use Rattle.std.proofs.lemmas.List.{append-nil, length-map}
use Rattle.std.proofs.lemmas.Bool.{or_left, or_right, both_ways}
use Rattle.dcv_lexer.specs.Cuts.{Token}
use Rattle.dcv_observer.specs.Conditions.{Names}
use Rattle.dcv_lustre.specs.Tree.{Kind, OfTruth, OfNumber, Local, Node}
use Rattle.dcv_lustre.specs.Meaning.{ok, local_names, names_of}
use Rattle.dcv_lustre.specs.Placed.{PlacedNode, local_of, equation_of, node_of, bytes_of}
use Rattle.dcv_lustre.specs.Rules.{is_same_kind, kind_of, keeps_equations, has_all_equations, words_of, judged}
use Rattle.dcv_lustre_read.specs.Scope.{Told, Row, told_inputs, told_locals, told_of, rows_from, keeps_from, IsDeclaring, IsRow, Knows, KnowsAll, seen_row}
use Rattle.dcv_observer.specs.Judged.{IsLeft}
use Rattle.dcv_lustre_read.specs.Judged.{words_of_equations, words_of_locals, names_of_locals}
use Rattle.dcv_lustre_read.specs.Contents.{first_fault_of, words_behind, keeps_behind}
use Rattle.dcv_lustre_read.specs.declared.placed.PlacedNode.{PlacedNode as CodeNode}
use Rattle.dcv_lustre_read.specs.declared.placed.PlacedLocal.{PlacedLocal as CodeLocal}
use Rattle.dcv_lustre_read.specs.declared.placed.PlacedEquation.{PlacedEquation as CodeEquation}
use Rattle.dcv_lustre_read.specs.declared.scope.Declaration.{Declaration}
use Rattle.dcv_lustre_read.specs.Seen.{seen_node, seen_local, seen_equation}
use Rattle.dcv_observer.specs.declared.items.Item.{Item}
use Rattle.dcv_observer.specs.Left.{seen}
use Rattle.dcv_observer.specs.Naming.{is_among, AreDistinct}
use Rattle.dcv_observer.proofs.Naming.{is_itself, differs, among_append_left, among_append_right, distinct_apart, distinct_behind}
use Rattle.dcv_observer.specs.Subsets.{first_broken}
use Rattle.dcv_observer.specs.Rows.{AreRows}
use Rattle.dcv_observer.proofs.Rows.{among_at}
use Rattle.dcv_lustre_read.proofs.NameKinds.{of_kind, named, none_of_kind, no_input, with_first}

-- ---- the kinds of locals

named_among : (locals : List Local) (k : ℕ) → k < length locals → is_among (named locals) (get_or (named locals) k []) ≡ true
named_among locals k within = among_at (named locals) k (omega (arith, within, length-map locals (λ (local : Local). local.name)))

first_truth : (kind : Kind) (local : Local) (locals : List Local) → is_among (named locals) local.name ≡ false
    → is_among (with_first OfTruth kind local locals) local.name ≡ is_same_kind OfTruth kind
first_truth OfTruth local locals once = or_left _ _ (is_itself local.name)
first_truth OfNumber local locals once = none_of_kind OfTruth locals local.name once

later_truth : (kind : Kind) (local : Local) (locals : List Local) (name : List ℕ) → bytes_eq name local.name ≡ false
    → is_among (with_first OfTruth kind local locals) name ≡ is_among (of_kind OfTruth locals) name
later_truth OfTruth local locals name other = ap (λ (b : Bool). b || is_among (of_kind OfTruth locals) name) other
later_truth OfNumber local locals name other = refl

truth_at : (locals : List Local) (none : Local) → AreDistinct (named locals) → (k : ℕ) → k < length locals
    → is_among (of_kind OfTruth locals) (get_or (named locals) k []) ≡ is_same_kind OfTruth (get_or locals k none).kind
truth_at [] none distinct k within = absurd (omega arith)
truth_at (local ∷ locals) none distinct zero within = first_truth local.kind local locals distinct.0
truth_at (local ∷ locals) none distinct (suc k) within =
    let inside : k < length locals = omega arith in
    let there = named_among locals k inside in
    let other : bytes_eq (get_or (named locals) k []) local.name ≡ false =
    differs (get_or (named locals) k []) local.name (λ same.
    both_ways (is_among (named locals) local.name) distinct.0 (subst (λ (n : List ℕ). is_among (named locals) n ≡ true) same there)) in
    later_truth local.kind local locals (get_or (named locals) k []) other ∙ truth_at locals none distinct.1 k inside

kind_back : (kind : Kind) → cond (is_same_kind OfTruth kind) OfTruth OfNumber ≡ kind
kind_back OfTruth = refl
kind_back OfNumber = refl

-- ---- rows

module _ (node : Node) (distinct : AreDistinct (names_of node)) where
  input_rows : (place : ℕ) (inputs more : Names) (told : List Told) → ((name : List ℕ) → is_among inputs name ≡ true → is_among node.inputs name ≡ true)
      → ((place : ℕ) → AreRows (IsRow node []) place more (rows_from place told)) → AreRows (IsRow node []) place (inputs ++ more) (rows_from place (told_inputs inputs ++ told))
  input_rows place [] more told among rest = rest place
  input_rows place (name ∷ inputs) more told among rest =
      let here = among name (or_left _ _ (is_itself name)) in (
        record {
          is_at = refl;
          kind = sym (ap (λ (b : Bool). cond b OfTruth OfNumber) (among_append_left node.inputs (ok ∷ of_kind OfTruth node.locals) name here));
          is_known = sym (among_append_left node.inputs [] name here);
        },
        input_rows (place + 1) inputs more told (λ n h. among n (or_right (bytes_eq n name) _ h)) rest,
      )

  unknown : (name : List ℕ) → is_among (ok ∷ local_names node) name ≡ true → is_among (node.inputs ++ []) name ≡ false
  unknown name among =
      ap (λ (names : Names). is_among names name) (append-nil node.inputs) ∙ distinct_apart node.inputs (ok ∷ local_names node) distinct name among

  local_rows : (place : ℕ) (locals : List Local) (none : Local)
      → ((k : ℕ) → k < length locals → (kind_of node (get_or (named locals) k []) ≡ (get_or locals k none).kind) × (is_among (node.inputs ++ []) (get_or (named locals) k []) ≡ false))
      → AreRows (IsRow node []) place (named locals) (rows_from place (told_locals locals))
  local_rows place [] none each = tt
  local_rows place (local ∷ locals) none each =
      let here = each 0 (omega arith) in
      (record { is_at = refl; kind = sym here.0; is_known = sym here.1 }, local_rows (place + 1) locals none (λ k within. each (suc k) (omega arith)))

  local_kind : (none : Local) (k : ℕ) → k < length node.locals
      → (kind_of node (get_or (named node.locals) k []) ≡ (get_or node.locals k none).kind) × (is_among (node.inputs ++ []) (get_or (named node.locals) k []) ≡ false)
  local_kind none k within =
      let name = get_or (named node.locals) k [] in
      let among : is_among (ok ∷ local_names node) name ≡ true = or_right (bytes_eq name ok) _ (named_among node.locals k within) in
      let behind = distinct_behind node.inputs (ok ∷ local_names node) distinct in
      let other : bytes_eq name ok ≡ false =
      differs name ok (λ same. both_ways (is_among (local_names node) ok) behind.0 (subst (λ (n : List ℕ). is_among (local_names node) n ≡ true) same (named_among node.locals k within))) in
      let truth : is_among (node.inputs ++ (ok ∷ of_kind OfTruth node.locals)) name ≡ is_same_kind OfTruth (get_or node.locals k none).kind =
      no_input node.inputs (ok ∷ of_kind OfTruth node.locals) name (distinct_apart node.inputs (ok ∷ local_names node) distinct name among)
      ∙ ap (λ (b : Bool). b || is_among (of_kind OfTruth node.locals) name) other
      ∙ truth_at node.locals none behind.1 k within in
      (ap (λ (b : Bool). cond b OfTruth OfNumber) truth ∙ kind_back (get_or node.locals k none).kind, unknown name among)

  all_rows : AreRows (IsRow node []) 0 (names_of node) (rows_from 0 (told_of node))
  all_rows =
      input_rows 0 node.inputs (ok ∷ local_names node) ((OfTruth, false) ∷ told_locals node.locals) (λ name h. h) (λ place. (
        record {
          is_at = refl;
          kind = sym (ap (λ (b : Bool). cond b OfTruth OfNumber) (among_append_right node.inputs (ok ∷ of_kind OfTruth node.locals) ok refl));
          is_known = sym (unknown ok refl);
        },
        local_rows (place + 1) node.locals (record { name = []; kind = OfTruth }) (local_kind (record { name = []; kind = OfTruth })),
      ))

pub declared_knows : {node : Node} {whole : Option ℕ} {others : List Token} {others_keep : List Bool} {names : Names} {rows : List Row}
    → IsDeclaring node whole others others_keep names rows [] [] [] → Knows node [] names rows × IsLeft whole others others_keep
declared_knows {node = node} {names = names} {rows = rows} d =
    let all = sym (append-nil names) ∙ d.all in
    let distinct = (subst AreDistinct all d.distinct).1 in (
      record { all = all; distinct = d.distinct; are_rows = subst (λ (rs : List Row). AreRows (IsRow node []) 0 (names_of node) rs) (sym (sym (append-nil rows) ∙ d.told_all)) (all_rows node distinct) },
      d.left,
    )

-- ---- the whole node

-- its own name is declared
pub declaring_begins : (placed : PlacedNode)
    → IsDeclaring (node_of placed) (first_fault_of placed) (words_behind placed) (keeps_behind (node_of placed))
    (placed.name.bytes ∷ []) [] (placed.inputs ++ (placed.output ∷ words_of_locals placed.locals))
    (bytes_of placed.inputs ++ (ok ∷ names_of_locals placed.locals)) (told_inputs (bytes_of placed.inputs) ++ ((OfTruth, false) ∷ told_locals (map local_of placed.locals)))
unfolding words_of judged
declaring_begins placed =
    record {
      all = refl;
      distinct = (refl, tt);
      told_all = refl;
      numbered = refl;
      left =
          record {
            first = ap (λ (words : List Token). first_broken words (keeps_from (node_of placed) 1 (names_of (node_of placed)) ++ keeps_behind (node_of placed)))
                (append_assoc placed.inputs (placed.output ∷ words_of_locals placed.locals) (words_behind placed));
          };
    }

module _ (placed : CodeNode) where
  abbrev pub node_at : Node
  node_at = node_of (seen_node placed)

  abbrev pub whole_at : Option ℕ
  whole_at = first_fault_of (seen_node placed)

  abbrev pub output_words : List Token
  output_words = seen placed.output ∷ words_of_locals (map seen_local placed.locals.items)

  abbrev pub output_names : Names
  output_names = ok ∷ names_of_locals (map seen_local placed.locals.items)

  abbrev pub output_told : List Told
  output_told = (OfTruth, false) ∷ told_locals (map local_of (map seen_local placed.locals.items))

  abbrev pub AtInputs : List Item → Names → List Row → Type 0
  AtInputs items names rows =
      IsDeclaring node_at whole_at (words_behind (seen_node placed)) (keeps_behind node_at) names rows (map seen items ++ output_words) (bytes_of (map seen items) ++ output_names)
      (told_inputs (bytes_of (map seen items)) ++ output_told)

  pub at_inputs : {items : List Item} {names : Names} {rows : List Declaration} → items ≡ placed.inputs.items → names ≡ (seen_node placed).name.bytes ∷ [] → rows ≡ []
      → AtInputs items names (map seen_row rows)
  at_inputs {items = items} {names = names} {rows = rows} items_are names_are rows_are =
      subst (λ (xs : List Item). AtInputs xs names (map seen_row rows)) (sym items_are)
      (subst (λ (ns : Names). AtInputs placed.inputs.items ns (map seen_row rows)) (sym names_are)
      (subst (λ (rs : List Declaration). AtInputs placed.inputs.items ((seen_node placed).name.bytes ∷ []) (map seen_row rs)) (sym rows_are) (declaring_begins (seen_node placed))))

  pub inputs_are : {items : List Item} → items ≡ placed.inputs.items → node_at.inputs ≡ bytes_of (map seen items)
  inputs_are is = ap (λ (xs : List Item). bytes_of (map seen xs)) (sym is)

  pub inputs_size : {items : List Item} → items ≡ placed.inputs.items → length node_at.inputs ≡ length items
  inputs_size {items = items} is =
      ap length (inputs_are is) ∙ length-map (map seen items) (λ (token : Token). token.bytes) ∙ length-map items seen

  abbrev pub AtLocals : List CodeLocal → Names → List Row → Type 0
  AtLocals items names rows =
      IsDeclaring node_at whole_at (words_behind (seen_node placed)) (keeps_behind node_at) names rows (words_of_locals (map seen_local items)) (names_of_locals (map seen_local items))
      (told_locals (map local_of (map seen_local items)))

  pub at_locals : {items : List CodeLocal} {names : Names} {rows : List Row} → items ≡ placed.locals.items → AtLocals placed.locals.items names rows → AtLocals items names rows
  at_locals {names = names} {rows = rows} is d = subst (λ (xs : List CodeLocal). AtLocals xs names rows) (sym is) d

  abbrev pub AtEquations : List CodeEquation → Type 0
  AtEquations items =
      IsLeft whole_at (words_of_equations (map seen_equation items) ++ seen placed.tel ∷ []) (keeps_equations node_at [] (map equation_of (map seen_equation items)) ++ has_all_equations node_at ∷ [])

  pub at_equations : {items : List CodeEquation} → items ≡ placed.equations.items → IsLeft whole_at (words_behind (seen_node placed)) (keeps_behind node_at) → AtEquations items
  at_equations is left = subst AtEquations (sym is) left

  pub at_tel : {items : List CodeEquation} {names : Names} {rows : List Row} → items ≡ placed.equations.items → KnowsAll node_at (map equation_of (map seen_equation items)) names rows
      → KnowsAll node_at node_at.equations names rows
  at_tel {names = names} {rows = rows} is knows = subst (λ (xs : List CodeEquation). KnowsAll node_at (map equation_of (map seen_equation xs)) names rows) is knows
