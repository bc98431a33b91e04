-- The observer of a file keeps the rules of names.
--     Knows names known number      the names that the statements of nodes from this number on may read are known
use Rattle.std.proofs.Common.{◌≡◌, ℕ, ◌+◌, ◌<◌, ◌≤◌, Bool, true, false, not, ◌&&◌, cond, List, [], ◌∷◌, ◌++◌, length, map, inl, inr, refl, sym, ap, subst}
use Rattle.std.proofs.Common.{◌∙◌, arith}
use Rattle.std.specs.Prelude.{bytes_eq, nat_lt}
use Rattle.std.specs.List.{filter}
use Rattle.std.proofs.lemmas.Bool.{cases_lt, or_cases, and_from, false_from_ne_true, false≢true, both_ways, lt-ltb}
use Rattle.std.proofs.lemmas.List.{length-map}
use Rattle.dcv_language.specs.Limits.{most_nodes}
use Rattle.dcv_language.specs.declared.child.Child.{Child}
use Rattle.dcv_language.specs.declared.child.Child.TheVariants.{State, Node}
use Rattle.dcv_dfa.specs.NodeLines.{IsBelow}
use Rattle.dcv_automaton_text.specs.File.{NodeLine, StateLine, AutomatonFile}
use Rattle.dcv_observer.specs.Naming.{is_among, AreDistinct}
use Rattle.dcv_observer.proofs.Naming.{Name, one_name, among_here, among_later, among_append_cases}
use Rattle.dcv_observer.proofs.ObserverNames.{node_names, each_node, next_is_no_node, among_no_nodes, nodes_are_distinct, node_is_among, among_no_variables, variables_are_distinct, variable_is_among, each_variable}
use Rattle.dcv_automaton_file.proofs.ObservedFiles.{GoodLines, GoodRows, IsObservable}
use Rattle.dcv_c.specs.Tree.{Test, Statement, CUnit}
use Rattle.dcv_c.specs.Rules.{most_parameters, keeps_new, keeps_apart, keeps_parameters, keeps_item, keeps_left, keeps_statement, keeps_statements}
use Rattle.dcv_c.specs.Rules.{keeps_returned, IsWellNamed}
use Rattle.dcv_c.specs.Observer.{state_name, next_name, node_name, parameter_name, reset_name, step_name, item_of, first_statement, node_statement}
use Rattle.dcv_c.specs.Observer.{state_statement, last_statement, state_test, accepting_tests, returned_for, observer_of}
use Rattle.dcv_c.proofs.KeptRules.{all_kept, kept_append, KeepsRules, keeps}
use Rattle.dcv_c.proofs.ObserverNames.{names_of_locals}

-- ---- names that are declared

-- no name of the others is that one, or among the earlier ones
module _ (n : Name) (names : List Name) (once : is_among names n ≡ false) (earlier : List Name)
    (apart : (name : Name) → is_among (n ∷ names) name ≡ true → is_among earlier name ≡ false) where
  pub still_apart : (name : Name) → is_among names name ≡ true → is_among (earlier ++ n ∷ []) name ≡ false
  still_apart name among =
      false_from_ne_true (is_among (earlier ++ n ∷ []) name) (λ there.
      elim (among_append_cases earlier (n ∷ []) name there) [
        | inl before ↦ both_ways (is_among earlier name) (apart name (among_later n names name among)) before
        | inr last ↦ elim (or_cases (bytes_eq name n) false last) [
          | inl same ↦ both_ways (is_among names n) once (subst (λ m. is_among names m ≡ true) (one_name name n same) among)
          | inr never ↦ false≢true never
        ]
      ])

  pub is_new : keeps_new earlier n ≡ true
  is_new = ap not (apart n (among_here names n))

pub apart_keep : (names earlier : List Name) → AreDistinct names → ((name : Name) → is_among names name ≡ true → is_among earlier name ≡ false)
    → all_kept (keeps_apart earlier names) ≡ true
apart_keep [] earlier distinct apart = refl
apart_keep (n ∷ names) earlier distinct apart =
    and_from (keeps_new earlier n) _ (is_new n names distinct.0 earlier apart)
    (apart_keep names (earlier ++ n ∷ []) distinct.1 (still_apart n names distinct.0 earlier apart))

pub parameters_keep : (names earlier : List Name) (place : ℕ) → place + length names ≤ 16 → AreDistinct names
    → ((name : Name) → is_among names name ≡ true → is_among earlier name ≡ false) → all_kept (keeps_parameters earlier place names) ≡ true
parameters_keep [] earlier place few distinct apart = refl
parameters_keep (n ∷ names) earlier place few distinct apart =
    and_from (keeps_new earlier n && nat_lt place most_parameters) _
    (and_from (keeps_new earlier n) (nat_lt place most_parameters) (is_new n names distinct.0 earlier apart) (lt-ltb place 16 (omega (arith, few))))
    (parameters_keep names (earlier ++ n ∷ []) (place + 1) (omega (arith, few)) distinct.1 (still_apart n names distinct.0 earlier apart))

-- ---- statements

record Knows (names known : List Name) (number : ℕ) : Type 0 where
  state : is_among known state_name ≡ true
  next : is_among known next_name ≡ true
  parameters : (name : Name) → is_among names name ≡ true → is_among known (parameter_name name) ≡ true
  nodes : (k : ℕ) → k < number → is_among known (node_name k) ≡ true

module _ (unit : CUnit) (names : List Name) (most total : ℕ) where
  record KeepsLefts : Type 0 where
    state : keeps_left unit state_name ≡ true
    next : keeps_left unit next_name ≡ true
    nodes : (k : ℕ) → k < total → keeps_left unit (node_name k) ≡ true

  knows_more : (known : List Name) (number : ℕ) → Knows names known number → Knows names (node_name number ∷ known) (number + 1)
  knows_more known number knows =
      record {
        state = among_later (node_name number) known state_name knows.state;
        next = among_later (node_name number) known next_name knows.next;
        parameters = λ name among. among_later (node_name number) known (parameter_name name) (knows.parameters name among);
        nodes = λ k below.
            elim (cases_lt k number) [
              | inl old ↦ among_later (node_name number) known (node_name k) (knows.nodes k old)
              | inr last ↦
                  let same : number ≡ k = omega (arith, below) in
                  subst (λ n. is_among (node_name n ∷ known) (node_name k) ≡ true) (sym same) (among_here known (node_name k))
            ];
      }

  item_kept : (known : List Name) (number : ℕ) (target : Child) → Knows names known number → IsBelow most number target → keeps_item known (item_of target) ≡ true
  item_kept known number (State state) knows below = refl
  item_kept known number (Node k) knows below = knows.nodes k below

  module _ (lefts : KeepsLefts) where
    nodes_kept : (lines : List NodeLine) (number : ℕ) (known : List Name) (more : List Statement) → GoodLines names most number lines
        → number + length lines ≤ total → Knows names known number
        → ((known : List Name) → Knows names known (number + length lines) → all_kept (keeps_statements unit known more) ≡ true)
        → all_kept (keeps_statements unit known (map node_statement lines ++ more)) ≡ true
    nodes_kept [] number known more good within knows behind = behind known (subst (Knows names known) (let e : number ≡ number + 0 = omega arith in e) knows)
    nodes_kept (line ∷ lines) number known more good within knows behind =
        let left = ap (λ n. keeps_left unit (node_name n)) good.0.number_is ∙ lefts.nodes number (omega (arith, within)) in
        let condition = knows.parameters line.name good.0.listed in
        let hi = item_kept known number line.hi knows good.0.hi in
        let lo = item_kept known number line.lo knows good.0.lo in
        let statement : all_kept (keeps_statement unit known (node_statement line)) ≡ true =
        and_from _ _ left (and_from _ _ condition (and_from _ _ hi (and_from _ _ lo refl))) in
        let same : number + 1 + length lines ≡ number + length (line ∷ lines) = omega arith in
        let knows_line : Knows names (node_name line.number ∷ known) (number + 1) =
        subst (λ n. Knows names (node_name n ∷ known) (number + 1)) (sym good.0.number_is) (knows_more known number knows) in
        kept_append (keeps_statement unit known (node_statement line)) (keeps_statements unit (node_name line.number ∷ known) (map node_statement lines ++ more)) statement
        (nodes_kept lines (number + 1) (node_name line.number ∷ known) more good.1 (omega (arith, within)) knows_line
        (λ known knows. behind known (subst (Knows names known) same knows)))

    rows_kept : (rows : List StateLine) (state nodes : ℕ) (known : List Name) (more : List Statement) → GoodRows most nodes state rows → Knows names known nodes
        → all_kept (keeps_statements unit known more) ≡ true → all_kept (keeps_statements unit known (map state_statement rows ++ more)) ≡ true
    rows_kept [] state nodes known more good knows behind = behind
    rows_kept (row ∷ rows) state nodes known more good knows behind =
        let item = item_kept known nodes row.row knows good.0.row in
        let statement : all_kept (keeps_statement unit known (state_statement row)) ≡ true =
        and_from _ _ knows.state (and_from _ _ lefts.next (and_from _ _ item refl)) in
        kept_append (keeps_statement unit known (state_statement row)) (keeps_statements unit known (map state_statement rows ++ more)) statement
        (rows_kept rows (state + 1) nodes known more good.1 knows behind)

    tests_kept : (known : List Name) → is_among known next_name ≡ true → (lines : List StateLine)
        → all_kept (map (λ (test : Test). is_among known test.name) (accepting_tests lines)) ≡ true
    tests_kept known next [] = refl
    tests_kept known next (line ∷ lines) = by line.accepting (tests_kept known next lines)
      where
        by : (b : Bool) → all_kept (map (λ (test : Test). is_among known test.name) (accepting_tests lines)) ≡ true
            → all_kept (map (λ (test : Test). is_among known test.name)
            (map state_test (cond b (line ∷ filter (λ (line : StateLine). line.accepting) lines) (filter (λ (line : StateLine). line.accepting) lines)))) ≡ true
        by true rest = and_from _ _ next rest
        by false rest = rest

    returned_kept : (known : List Name) (tests : List Test) → all_kept (map (λ (test : Test). is_among known test.name) tests) ≡ true
        → all_kept (keeps_returned known (returned_for tests)) ≡ true
    returned_kept known [] kept = refl
    returned_kept known (test ∷ tests) kept = kept

    last_kept : (known : List Name) (number : ℕ) (lines : List StateLine) → Knows names known number → unit.returned ≡ returned_for (accepting_tests lines)
        → all_kept (keeps_statements unit known (last_statement ∷ [])) ≡ true
    last_kept known number lines knows same =
        let later = among_later state_name known next_name knows.next in
        let end : all_kept (keeps_returned (state_name ∷ known) unit.returned) ≡ true =
        ap (λ returned. all_kept (keeps_returned (state_name ∷ known) returned)) same
        ∙ returned_kept (state_name ∷ known) (accepting_tests lines) (tests_kept (state_name ∷ known) later lines) in
        and_from _ _ lefts.state (and_from _ _ knows.next end)

-- ---- the observer

module _ (file : AutomatonFile) (good : IsObservable file) where
  abbrev unit : CUnit
  unit = observer_of file

  abbrev nodes : List Name
  nodes = node_names 0 file.node_lines

  abbrev parameters : List Name
  parameters = map parameter_name file.names

  observer_locals : unit.locals ≡ next_name ∷ node_names 0 file.node_lines
  unfolding observer_of
  observer_locals = ap (λ names. next_name ∷ names) (names_of_locals file.names (length file.state_lines) 0 file.node_lines good.lines)

  -- statics and functions
  abbrev first : List Name
  first = state_name ∷ reset_name ∷ step_name ∷ []

  no_parameter_before : (name : Name) → is_among parameters name ≡ true → is_among first name ≡ false
  no_parameter_before = each_variable (λ name. is_among first name ≡ false) (λ name. refl) file.names

  not_before : (name : Name) → is_among first name ≡ false → ((other : Name) → bytes_eq name (parameter_name other) ≡ false)
      → is_among (first ++ parameters) name ≡ false
  not_before name none other =
      false_from_ne_true (is_among (first ++ parameters) name) (λ there.
      elim (among_append_cases first parameters name there) [
        | inl before ↦ both_ways (is_among first name) none before
        | inr parameter ↦ both_ways (is_among parameters name) (among_no_variables name file.names other) parameter
      ])

  no_local_before : (name : Name) → is_among (next_name ∷ node_names 0 file.node_lines) name ≡ true → is_among (first ++ parameters) name ≡ false
  no_local_before name among =
      elim (or_cases (bytes_eq name next_name) (is_among nodes name) among) [
        | inl same ↦ subst (λ (n : Name). is_among (first ++ parameters) n ≡ false) (sym (one_name name next_name same)) (not_before next_name refl (λ other. refl))
        | inr node ↦
            each_node (λ name. is_among (first ++ parameters) name ≡ false) (λ k. not_before (node_name k) refl (λ other. refl)) 0 file.node_lines name node
      ]

  few_nodes : length file.node_lines ≤ most_nodes
  few_nodes = good.few_lines

  locals_distinct : AreDistinct (next_name ∷ node_names 0 file.node_lines)
  locals_distinct = (
    among_no_nodes next_name 0 file.node_lines (λ k from below. next_is_no_node k (omega (arith, below, few_nodes))),
    nodes_are_distinct 0 file.node_lines (omega (arith, few_nodes)),
  )

  lefts : KeepsLefts (observer_of file) file.names (length file.state_lines) (length file.node_lines)
  unfolding observer_of
  lefts =
      record {
        state = refl;
        next = ap (λ locals. is_among (state_name ∷ locals) next_name) observer_locals
            ∙ among_later state_name (next_name ∷ node_names 0 file.node_lines) next_name (among_here (node_names 0 file.node_lines) next_name);
        nodes = λ k below.
            ap (λ locals. is_among (state_name ∷ locals) (node_name k)) observer_locals
            ∙ among_later state_name (next_name ∷ node_names 0 file.node_lines) (node_name k)
            (among_later next_name (node_names 0 file.node_lines) (node_name k) (node_is_among 0 file.node_lines k (omega arith) (omega (arith, below))));
      }

  knows_first : Knows file.names (next_name ∷ state_name ∷ parameters) 0
  knows_first =
      record {
        state = refl;
        next = refl;
        parameters = λ name among.
            among_later next_name (state_name ∷ parameters) (parameter_name name)
            (among_later state_name parameters (parameter_name name) (variable_is_among file.names name among));
        nodes = λ k below. absurd (omega (arith, below));
      }

  statements_kept : all_kept (keeps_statements (observer_of file) (state_name ∷ parameters)
      (first_statement ∷ map node_statement file.node_lines ++ (map state_statement file.state_lines ++ last_statement ∷ []))) ≡ true
  unfolding observer_of
  statements_kept =
      let unit = observer_of file in
      let most = length file.state_lines in
      let total = length file.node_lines in
      and_from _ _ lefts.next (nodes_kept unit file.names most total lefts file.node_lines 0 (next_name ∷ state_name ∷ parameters)
      (map state_statement file.state_lines ++ last_statement ∷ []) good.lines (omega arith) knows_first
      (λ known knows.
      let all : Knows file.names known total = subst (Knows file.names known) (let e : 0 + total ≡ total = omega arith in e) knows in
      rows_kept unit file.names most total lefts file.state_lines 0 total known (last_statement ∷ []) good.rows all
      (last_kept unit file.names most total lefts known total file.state_lines all refl)))

  observer_keeps : KeepsRules (observer_of file)
  unfolding observer_of
  observer_keeps =
      record {
        statics = refl;
        reset = refl;
        assignments = refl;
        all_assigned = refl;
        step = refl;
        parameters = parameters_keep parameters first 0 (omega (arith, length-map file.names parameter_name, good.names.count))
            (variables_are_distinct file.names good.names.differ) no_parameter_before;
        locals = ap (λ locals. all_kept (keeps_apart (first ++ parameters) locals)) observer_locals
            ∙ apart_keep (next_name ∷ node_names 0 file.node_lines) (first ++ parameters) locals_distinct no_local_before;
        statements = statements_kept;
      }

  pub observer_is_well_named : IsWellNamed (observer_of file)
  observer_is_well_named = keeps (observer_of file) observer_keeps
