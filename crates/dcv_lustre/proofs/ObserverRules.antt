-- The observer of a file keeps the rules of names.
use Rattle.std.proofs.Common.{◌≡◌, ◌≢◌, ℕ, ◌+◌, ◌<◌, ◌≤◌, ◌^◌, Bool, true, false, cond, ◌||◌, nat_lt, nat_le, List, [], ◌∷◌, ◌++◌, length, map, take}
use Rattle.std.proofs.Common.{inl, inr, refl, sym, ap, subst, ◌∙◌, arith, codes, append_assoc, length-append}
use Rattle.std.specs.Prelude.{bytes_eq}
use Rattle.std.specs.List.{AllPairs, enumerate_from, flat_map, list_all, filter}
use Rattle.std.proofs.lemmas.List.{take_at, length-map}
use Rattle.std.proofs.lemmas.Bool.{or_parts, or_from, or_left, or_right, and_from, both_ways, not_from_false, lt-ltb, le-leb, cases_lt, false≢true}
use Rattle.dcv_language.specs.declared.child.Child.{Child}
use Rattle.dcv_language.specs.declared.child.Child.TheVariants.{State, Node as AtNode}
use Rattle.dcv_dfa.specs.NodeLines.{IsBelow}
use Rattle.dcv_automaton_text.specs.File.{NodeLine, StateLine, AutomatonFile}
use Rattle.dcv_observer.specs.Naming.{is_among, AreDistinct}
use Rattle.dcv_observer.proofs.Naming.{Name, is_itself, differs, among_here, among_later, among_append_left, among_append_right, distinct_apart}
use Rattle.dcv_observer.proofs.ObserverNames.{node_names, next_is_no_node, node_is_no_other, among_no_nodes, node_is_among, variable_is_among}
use Rattle.dcv_automaton_file.proofs.ObservedFiles.{GoodLine, GoodLines, GoodRows, IsObservable}
use Rattle.dcv_lustre.specs.Tree.{OfTruth, OfNumber, Test, Right, Equation, Node}
use Rattle.dcv_lustre.specs.Meaning.{ok, local_names, names_of}
use Rattle.dcv_lustre.specs.Rules.{most_inputs, names_of_kind, kind_of, declared, keeps_declared, keeps_name, keeps_item, keeps_arm}
use Rattle.dcv_lustre.specs.Rules.{keeps_right, keeps_form, keeps_left, keeps_equation, keeps_equations, lefts_of, has_all_equations, judged}
use Rattle.dcv_lustre.specs.Rules.{IsWellNamed}
use Rattle.dcv_lustre.specs.Observer.{state_name, next_name, node_name, input_name, input_names, item_of, state_equation, node_equation, row_arms}
use Rattle.dcv_lustre.specs.Observer.{last_row, next_equation, state_test, accepting_tests, ok_right, ok_equation, observer_of}
use Rattle.dcv_lustre.proofs.ObserverNames.{names_of_locals, numbers_of_locals, truths_of_locals}
use Rattle.dcv_lustre.proofs.ObserverNames.{no_input, all_distinct, others_are_no_inputs}
use Rattle.dcv_lustre.proofs.ObserverNames.{output_is_no_local}

abbrev AllKeep : List Bool → Type 0
AllKeep keeps = list_all (λ k. k) keeps ≡ true

keep_append : (xs ys : List Bool) → AllKeep xs → AllKeep ys → AllKeep (xs ++ ys)
keep_append [] ys h k = k
keep_append (true ∷ xs) ys h k = keep_append xs ys h k
keep_append (false ∷ xs) ys h k = h

-- ---- declared names

module _ (node : Node) (few : length node.inputs ≤ 16) where
  -- distinct names are declared well
  declared_keep : (front names : List Name) (place : ℕ) → front ++ names ≡ declared node → place ≡ length front → AreDistinct (front ++ names)
      → AllKeep (map (λ numbered. keeps_declared node numbered.0 numbered.1) (enumerate_from place names))
  declared_keep front [] place whole at distinct = refl
  declared_keep front (name ∷ names) place whole at distinct =
      let beginning : take place (declared node) ≡ front =
      ap (λ (all : List Name). take place all) (sym whole) ∙ take_at front (name ∷ names) place (sym at) in
      let new : is_among (take place (declared node)) name ≡ false =
      ap (λ (ns : List Name). is_among ns name) beginning ∙ distinct_apart front (name ∷ names) distinct name (or_left _ _ (is_itself name)) in
      let room : (nat_le place most_inputs || nat_lt (length node.inputs) place) ≡ true =
      elim (cases_lt place 17) [
        | inl below ↦ or_left _ _ (le-leb place 16 (omega arith))
        | inr above ↦ or_right _ _ (lt-ltb (length node.inputs) place (omega arith))
      ] in
      let again : (front ++ name ∷ []) ++ names ≡ front ++ name ∷ names = append_assoc front (name ∷ []) names in
      and_from _ _ (and_from _ _ (not_from_false _ new) room)
      (declared_keep (front ++ name ∷ []) names (place + 1) (again ∙ whole) (omega (arith, at, length-append front (name ∷ []))) (subst AreDistinct (sym again) distinct))

module _ (file : AutomatonFile) (good : IsObservable file) where
  abbrev node : Node
  node = observer_of file

  abbrev names : List Name
  names = file.names

  abbrev most : ℕ
  most = length file.state_lines

  abbrev nodes : List Name
  nodes = node_names 0 file.node_lines

  differ : AllPairs ◌≢◌ file.names
  differ = good.names.differ

  lines_few : length file.node_lines < 2 ^ 32
  lines_few = omega (arith, good.few_lines)

  abbrev locals : List Name
  locals = state_name ∷ next_name ∷ nodes

  -- ---- the parts of the node

  inputs_are : node.inputs ≡ input_names names
  unfolding observer_of
  inputs_are = refl

  locals_are : local_names node ≡ locals
  unfolding observer_of
  locals_are = ap (λ ns. state_name ∷ next_name ∷ ns) (names_of_locals file.names most 0 file.node_lines good.lines)

  numbers_are : names_of_kind OfNumber node ≡ locals
  unfolding observer_of
  numbers_are = ap (λ ns. state_name ∷ next_name ∷ ns) (numbers_of_locals file.names most 0 file.node_lines good.lines)

  truths_are : names_of_kind OfTruth node ≡ input_names names ++ ok ∷ []
  unfolding observer_of
  truths_are = ap (λ ns. input_names names ++ (ok ∷ ns)) (truths_of_locals file.node_lines)

  equations_are : node.equations ≡ state_equation ∷ map node_equation file.node_lines ++ (next_equation file.state_lines ∷ ok_equation file.state_lines ∷ [])
  unfolding observer_of
  equations_are = refl

  -- ---- kinds

  is_number_name : (name : Name) → is_among locals name ≡ true → is_among (names_of_kind OfNumber node) name ≡ true
  is_number_name name among = ap (λ ns. is_among ns name) numbers_are ∙ among

  append_none : (front back : List Name) (name : Name) → is_among front name ≡ false → is_among back name ≡ false → is_among (front ++ back) name ≡ false
  append_none [] back name h k = k
  append_none (n ∷ front) back name h k =
      let both = or_parts (bytes_eq name n) (is_among front name) h in
      or_from (bytes_eq name n) (is_among (front ++ back) name) both.0 (append_none front back name both.1 k)

  kind_of_local : (name : Name) → is_among locals name ≡ true → kind_of node name ≡ OfNumber
  kind_of_local name among =
      let input : is_among (input_names names) name ≡ false = others_are_no_inputs names file.node_lines differ lines_few name (or_right _ _ among) in
      let output : is_among (ok ∷ []) name ≡ false =
      or_from (bytes_eq name ok) false (differs name ok (λ same.
      both_ways (is_among locals ok) (output_is_no_local names file.node_lines differ lines_few) (subst (λ (n : Name). is_among locals n ≡ true) same among))) refl in
      ap (λ ns. cond (is_among ns name) OfTruth OfNumber) truths_are
      ∙ ap (λ b. cond b OfTruth OfNumber) (append_none (input_names names) (ok ∷ []) name input output)

  output_among : is_among (names_of_kind OfTruth node) ok ≡ true
  output_among = ap (λ ns. is_among ns ok) truths_are ∙ among_append_right (input_names names) (ok ∷ []) ok (among_here [] ok)

  kind_of_output : kind_of node ok ≡ OfTruth
  kind_of_output = ap (λ b. cond b OfTruth OfNumber) output_among

  -- ---- what stands on the left of the equations before that of a node

  record Earlier (number : ℕ) (earlier : List Name) : Type 0 where
    state : is_among earlier state_name ≡ true
    before : (k : ℕ) → k < number → is_among earlier (node_name k) ≡ true
    behind : (k : ℕ) → number ≤ k → k < length file.node_lines → is_among earlier (node_name k) ≡ false
    next : is_among earlier next_name ≡ false
    output : is_among earlier ok ≡ false

  at_first : Earlier 0 (state_name ∷ [])
  at_first =
      record {
        state = among_here [] state_name;
        before = λ k below. absurd (omega arith);
        behind = λ k from below. refl;
        next = refl;
        output = refl;
      }

  one_more : (number : ℕ) (earlier : List Name) → number < length file.node_lines → Earlier number earlier → Earlier (number + 1) (node_name number ∷ earlier)
  one_more number earlier there e =
      record {
        state = among_later (node_name number) earlier state_name e.state;
        before = λ k below. elim (cases_lt k number) [
          | inl less ↦ among_later (node_name number) earlier (node_name k) (e.before k less)
          | inr same ↦
              let at : k ≡ number = omega (arith, below, same) in
              or_left (bytes_eq (node_name k) (node_name number)) (is_among earlier (node_name k)) (ap (λ n. bytes_eq (node_name k) (node_name n)) (sym at) ∙ is_itself (node_name k))
        ];
        behind = λ k from below.
            or_from (bytes_eq (node_name k) (node_name number)) (is_among earlier (node_name k))
            (node_is_no_other k number (omega arith) (omega arith) (λ same. omega (arith, same)))
            (e.behind k (omega arith) below);
        next = or_from (bytes_eq next_name (node_name number)) (is_among earlier next_name) (next_is_no_node number (omega arith)) e.next;
        output = or_from (bytes_eq ok (node_name number)) (is_among earlier ok) refl e.output;
      }

  -- ---- items

  node_is_local : (k : ℕ) → k < length file.node_lines → is_among locals (node_name k) ≡ true
  node_is_local k below = among_later state_name (next_name ∷ nodes) (node_name k) (among_later next_name nodes (node_name k) (node_is_among 0 file.node_lines k (omega arith) (omega arith)))

  state_is_local : is_among locals state_name ≡ true
  state_is_local = among_here (next_name ∷ nodes) state_name

  next_is_local : is_among locals next_name ≡ true
  next_is_local = among_later state_name (next_name ∷ nodes) next_name (among_here nodes next_name)

  child_keeps : (number : ℕ) (earlier : List Name) → number ≤ length file.node_lines → Earlier number earlier → (target : Child) → IsBelow most number target
      → keeps_item node (node.inputs ++ earlier) OfNumber (item_of target) ≡ true
  child_keeps number earlier there e (State state) below = refl
  child_keeps number earlier there e (AtNode k) below =
      and_from _ _ (among_append_right node.inputs earlier (node_name k) (e.before k below)) (is_number_name (node_name k) (node_is_local k (omega (arith, below))))

  left_keeps : (earlier : List Name) (name : Name) (right : Right) → is_among locals name ≡ true → is_among earlier name ≡ false
      → keeps_form node name right ≡ true
      → keeps_left node earlier (record { left = name; right = right }) ≡ true
  left_keeps earlier name right local new form =
      and_from _ _ (and_from _ _ (or_right (bytes_eq name ok) _ (ap (λ ns. is_among ns name) locals_are ∙ local)) (not_from_false _ new)) form

  equation_keeps : (earlier : List Name) (name : Name) (right : Right) → is_among locals name ≡ true → is_among earlier name ≡ false
      → keeps_form node name right ≡ true
      → AllKeep (keeps_right node (node.inputs ++ earlier) OfNumber right) → AllKeep (keeps_equation node earlier (record { left = name; right = right }))
  equation_keeps earlier name right local new form keeps =
      and_from _ _ (left_keeps earlier name right local new form)
      (subst (λ kind. AllKeep (keeps_right node (node.inputs ++ earlier) kind right)) (sym (kind_of_local name local)) keeps)

  line_keeps : (number : ℕ) (earlier : List Name) (line : NodeLine) → number < length file.node_lines → Earlier number earlier → GoodLine names most number line
      → AllKeep (keeps_equation node earlier (node_equation line))
  line_keeps number earlier line there e one =
      let input = input_name line.name in
      let among : is_among (input_names names) input ≡ true = among_inputs names line.name one.listed in
      let known : is_among (node.inputs ++ earlier) input ≡ true = among_append_left node.inputs earlier input (ap (λ ns. is_among ns input) inputs_are ∙ among) in
      let truth : is_among (names_of_kind OfTruth node) input ≡ true = ap (λ ns. is_among ns input) truths_are ∙ among_append_left (input_names names) (ok ∷ []) input among in
      subst (λ n. AllKeep (keeps_equation node earlier (record { left = node_name n; right = (node_equation line).right }))) (sym one.number_is)
      (equation_keeps earlier (node_name number) ((node_equation line).right) (node_is_local number there) (e.behind number (omega arith) there) refl
      (and_from _ _ (and_from _ _ known truth)
      (and_from _ _ (child_keeps number earlier (omega arith) e line.hi one.hi)
      (and_from _ _ (child_keeps number earlier (omega arith) e line.lo one.lo) refl))))
    where
      among_inputs : (names : List Name) (name : Name) → is_among names name ≡ true → is_among (input_names names) (input_name name) ≡ true
      among_inputs [] name among = absurd (false≢true among)
      among_inputs (n ∷ names) name among = variable_is_among (n ∷ names) name among

  -- ---- the last two equations

  rows_keep : (earlier : List Name) → Earlier (length file.node_lines) earlier → (state : ℕ) (rows : List StateLine)
      → GoodRows most (length file.node_lines) state rows
      → AllKeep (flat_map (keeps_arm node (node.inputs ++ earlier) OfNumber) (row_arms rows))
  rows_keep earlier e state [] below = refl
  rows_keep earlier e state (row ∷ []) below = refl
  rows_keep earlier e state (row ∷ next ∷ rows) below =
      and_from _ _
      (and_from _ _ (among_append_right node.inputs earlier state_name e.state) (is_number_name state_name state_is_local))
      (and_from _ _ (child_keeps (length file.node_lines) earlier (omega arith) e row.row below.0.row) (rows_keep earlier e (state + 1) (next ∷ rows) below.1))

  last_keeps : (earlier : List Name) → Earlier (length file.node_lines) earlier → (state : ℕ) (rows : List StateLine)
      → GoodRows most (length file.node_lines) state rows
      → keeps_item node (node.inputs ++ earlier) OfNumber (item_of (last_row rows)) ≡ true
  last_keeps earlier e state [] below = refl
  last_keeps earlier e state (row ∷ []) below = child_keeps (length file.node_lines) earlier (omega arith) e row.row below.0.row
  last_keeps earlier e state (row ∷ next ∷ rows) below = last_keeps earlier e (state + 1) (next ∷ rows) below.1

  tests_keep : (known : List Name) → is_among known next_name ≡ true → (lines : List StateLine)
      → AllKeep (map (λ (test : Test). keeps_name node known OfNumber test.name) (map state_test lines))
  tests_keep known among [] = refl
  tests_keep known among (line ∷ lines) =
      and_from _ _ (and_from _ _ among (is_number_name next_name next_is_local)) (tests_keep known among lines)

  output_keeps : (earlier : List Name) → is_among earlier next_name ≡ true → is_among earlier ok ≡ false → (tests : List Test)
      → AllKeep (map (λ (test : Test). keeps_name node (node.inputs ++ earlier) OfNumber test.name) tests)
      → AllKeep (keeps_equation node earlier (record { left = ok; right = ok_right tests }))
  output_keeps earlier next output [] keep =
      and_from _ _ (and_from _ _ (and_from _ _ (among_here (local_names node) ok) (not_from_false _ output)) refl)
      (subst (λ kind. AllKeep (keeps_right node (node.inputs ++ earlier) kind (ok_right []))) (sym kind_of_output) refl)
  output_keeps earlier next output (test ∷ tests) keep =
      and_from _ _ (and_from _ _ (and_from _ _ (among_here (local_names node) ok) (not_from_false _ output)) output_among)
      (subst (λ kind. AllKeep (keeps_right node (node.inputs ++ earlier) kind (ok_right (test ∷ tests)))) (sym kind_of_output) keep)

  last_two_keep : (earlier : List Name) → Earlier (length file.node_lines) earlier
      → AllKeep (keeps_equations node earlier (next_equation file.state_lines ∷ ok_equation file.state_lines ∷ []))
  last_two_keep earlier e =
      keep_append (keeps_equation node earlier (next_equation file.state_lines)) (keeps_equations node (next_name ∷ earlier) (ok_equation file.state_lines ∷ []))
      (equation_keeps earlier next_name ((next_equation file.state_lines).right) next_is_local e.next refl
      (keep_append (flat_map (keeps_arm node (node.inputs ++ earlier) OfNumber) (row_arms file.state_lines))
      (keeps_item node (node.inputs ++ earlier) OfNumber (item_of (last_row file.state_lines)) ∷ [])
      (rows_keep earlier e 0 file.state_lines good.rows) (and_from _ _ (last_keeps earlier e 0 file.state_lines good.rows) refl)))
      (keep_append (keeps_equation node (next_name ∷ earlier) (ok_equation file.state_lines)) []
      (output_keeps (next_name ∷ earlier) (among_here earlier next_name) (or_from (bytes_eq ok next_name) (is_among earlier ok) refl e.output) (accepting_tests file.state_lines)
      (tests_keep (node.inputs ++ (next_name ∷ earlier)) (among_append_right node.inputs (next_name ∷ earlier) next_name (among_here earlier next_name))
      (filter (λ (line : StateLine). line.accepting) file.state_lines))) refl)

  -- ---- all of them

  nodes_keep : (lines : List NodeLine) (number : ℕ) (earlier : List Name) → number + length lines ≡ length file.node_lines → GoodLines names most number lines
      → Earlier number earlier
      → AllKeep (keeps_equations node earlier (map node_equation lines ++ (next_equation file.state_lines ∷ ok_equation file.state_lines ∷ [])))
  nodes_keep [] number earlier count good_ones e =
      let at : number ≡ length file.node_lines = omega (arith, count) in
      last_two_keep earlier (subst (λ n. Earlier n earlier) at e)
  nodes_keep (line ∷ lines) number earlier count good_ones e =
      let there : number < length file.node_lines = omega (arith, count) in
      let rest = map node_equation lines ++ (next_equation file.state_lines ∷ ok_equation file.state_lines ∷ []) in
      keep_append (keeps_equation node earlier (node_equation line)) (keeps_equations node (node_name line.number ∷ earlier) rest)
      (line_keeps number earlier line there e good_ones.0)
      (subst (λ n. AllKeep (keeps_equations node (node_name n ∷ earlier) rest)) (sym good_ones.0.number_is)
      (nodes_keep lines (number + 1) (node_name number ∷ earlier) (omega (arith, count)) good_ones.1 (one_more number earlier there e)))

  equations_keep : AllKeep (keeps_equations node [] node.equations)
  equations_keep =
      subst (λ equations. AllKeep (keeps_equations node [] equations)) (sym equations_are)
      (keep_append (keeps_equation node [] state_equation)
      (keeps_equations node (state_name ∷ []) (map node_equation file.node_lines ++ (next_equation file.state_lines ∷ ok_equation file.state_lines ∷ [])))
      (equation_keeps [] state_name (state_equation.right) state_is_local refl refl
      (and_from _ _ refl (and_from _ _ (is_number_name next_name next_is_local) refl)))
      (nodes_keep file.node_lines 0 (state_name ∷ []) (omega arith) good.lines at_first))

  lefts_from : (number : ℕ) (lines : List NodeLine) (more : List Equation) → GoodLines names most number lines
      → lefts_of (map node_equation lines ++ more) ≡ node_names number lines ++ lefts_of more
  lefts_from number [] more good = refl
  lefts_from number (line ∷ lines) more good = λ i. node_name (good.0.number_is i) ∷ lefts_from (number + 1) lines more good.1 i

  lefts_are : lefts_of node.equations ≡ state_name ∷ nodes ++ (next_name ∷ ok ∷ [])
  lefts_are = ap lefts_of equations_are ∙ ap (λ ns. state_name ∷ ns) (lefts_from 0 file.node_lines _ good.lines)

  nodes_among : (lines : List NodeLine) (number : ℕ) → number + length lines ≡ length file.node_lines
      → list_all (is_among (state_name ∷ nodes ++ (next_name ∷ ok ∷ []))) (node_names number lines) ≡ true
  nodes_among [] number count = refl
  nodes_among (line ∷ lines) number count =
      and_from _ _ (among_later state_name (nodes ++ (next_name ∷ ok ∷ [])) (node_name number)
      (among_append_left nodes (next_name ∷ ok ∷ []) (node_name number) (node_is_among 0 file.node_lines number (omega arith) (omega (arith, count)))))
      (nodes_among lines (number + 1) (omega (arith, count)))

  all_equations : has_all_equations node ≡ true
  all_equations =
      let lefts = state_name ∷ nodes ++ (next_name ∷ ok ∷ []) in
      (λ i. list_all (is_among (lefts_are i)) (ok ∷ locals_are i))
      ∙ and_from _ _ (among_later state_name (nodes ++ (next_name ∷ ok ∷ [])) ok (among_append_right nodes (next_name ∷ ok ∷ []) ok (among_later next_name (ok ∷ []) ok (among_here [] ok))))
      (and_from _ _ (among_here (nodes ++ (next_name ∷ ok ∷ [])) state_name)
      (and_from _ _ (among_later state_name (nodes ++ (next_name ∷ ok ∷ [])) next_name (among_append_right nodes (next_name ∷ ok ∷ []) next_name (among_here (ok ∷ []) next_name)))
      (nodes_among file.node_lines 0 (omega arith))))

  few_inputs : (names : List Name) → length names ≤ 16 → length (input_names names) ≤ 16
  few_inputs [] few = omega arith
  few_inputs (name ∷ names) few = omega (arith, few, length-map (name ∷ names) input_name)

  distinct : AreDistinct (declared node)
  unfolding observer_of
  distinct =
      let others = all_distinct names file.node_lines differ lines_few in
      let same : names_of node ≡ input_names names ++ (ok ∷ locals) = ap (λ ns. input_names names ++ (ok ∷ ns)) locals_are in
      subst (λ ns. AreDistinct (codes "observer" ∷ ns)) (sym same) (
        append_none (input_names names) (ok ∷ locals) (codes "observer") (no_input (codes "observer") names (refl, λ other. refl))
            (or_from _ _ refl (or_from _ _ refl (or_from _ _ refl (among_no_nodes (codes "observer") 0 file.node_lines (λ k from below. refl))))),
        others,
      )

  pub observer_is_well_named : IsWellNamed node
  unfolding judged
  observer_is_well_named =
      let inputs_few : length node.inputs ≤ 16 = omega (arith, few_inputs names good.names.count, ap length inputs_are) in
      keep_append (map (λ numbered. keeps_declared node numbered.0 numbered.1) (enumerate_from 0 (declared node))) _
      (declared_keep node inputs_few [] (declared node) 0 refl refl distinct)
      (keep_append (keeps_equations node [] node.equations) _ equations_keep (and_from _ _ all_equations refl))
