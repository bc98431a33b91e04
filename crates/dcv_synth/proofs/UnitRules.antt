-- The unit of a controller keeps the rules of names.
--     Knows slots names known       the state, what the step ends with, and the inputs are known
use Rattle.std.proofs.Common.{◌≡◌, ℕ, zero, suc, ◌+◌, ◌<◌, ◌≤◌, true, false, List, [], ◌∷◌, ◌++◌, length, map, get_or, inl, inr, refl, sym, ap, subst, ◌∙◌, arith}
use Rattle.std.specs.Prelude.{bytes_eq}
use Rattle.std.specs.List.{AllByRecursion, enumerate_from}
use Rattle.std.proofs.lemmas.Bool.{cases_lt, and_from, false_from_ne_true, both_ways}
use Rattle.std.proofs.lemmas.List.{length-map}
use Rattle.std.proofs.lemmas.List.Elements.{recursion_from_All}
use Rattle.dcv_language.specs.Limits.{number_bound}
use Rattle.dcv_language.specs.declared.child.Child.{Child}
use Rattle.dcv_language.specs.declared.child.Child.TheVariants.{State, Node}
use Rattle.dcv_dfa.specs.declared.node_lines.NodeLine.{NodeLine}
use Rattle.dcv_dfa.specs.NodeLines.{IsBelow}
use Rattle.dcv_observer.specs.Naming.{is_among}
use Rattle.dcv_observer.proofs.Naming.{Name, among_here, among_later, among_append_cases}
use Rattle.dcv_observer.proofs.ObserverNames.{among_no_variables, variables_are_distinct, variable_is_among, each_variable}
use Rattle.dcv_c.specs.Tree.{Statement, CUnit, Read}
use Rattle.dcv_c.specs.Rules.{keeps_item, keeps_left, keeps_statement, keeps_statements, keeps_returned, IsWellNamed}
use Rattle.dcv_c.specs.Observer.{state_name, next_name, node_name, parameter_name}
use Rattle.dcv_c.proofs.KeptRules.{all_kept, kept_append, KeepsRules, keeps}
use Rattle.dcv_c.proofs.ObserverRules.{apart_keep, parameters_keep}
use Rattle.dcv_synth.specs.Units.{ControlLines, output_name, output_node_name, reset_name, step_name, input_name, local_names, target, cleared, choice, choices}
use Rattle.dcv_synth.specs.Units.{all_state_choices, last_statement, unit_of_lines}
use Rattle.dcv_synth.proofs.UnitLines.{AreGoodLines, AreGoodUnitLines}
use Rattle.dcv_synth.proofs.NodeNames.{locals_distinct, node_among, output_node_among, each_local}

-- ---- what is known

record Knows (names known : List Name) : Type 0 where
  state : is_among known state_name ≡ true
  next : is_among known next_name ≡ true
  output : is_among known output_name ≡ true
  inputs : (slot : ℕ) → slot < length names → is_among known (input_name names slot) ≡ true

-- what is known stays known
abbrev Grows : List Name → List Name → Type 0
Grows known more = (one : Name) → is_among known one ≡ true → is_among more one ≡ true

knows_still : (names known more : List Name) → Knows names known → Grows known more → Knows names more
knows_still names known more knows grows =
    record {
      state = grows state_name knows.state;
      next = grows next_name knows.next;
      output = grows output_name knows.output;
      inputs = λ slot below. grows (input_name names slot) (knows.inputs slot below);
    }

-- the first nodes are known
abbrev KnowsNodes : (ℕ → Name) → ℕ → List Name → Type 0
KnowsNodes name number known = (k : ℕ) → k < number → is_among known (name k) ≡ true

module _ (name : ℕ → Name) where
  knows_more : (known : List Name) (number : ℕ) → KnowsNodes name number known → KnowsNodes name (number + 1) (name number ∷ known)
  knows_more known number knows k below =
      elim (cases_lt k number) [
        | inl old ↦ among_later (name number) known (name k) (knows k old)
        | inr last ↦
            let same : number ≡ k = omega (arith, below, last) in
            subst (λ n. is_among (name n ∷ known) (name k) ≡ true) (sym same) (among_here known (name k))
      ]

  target_kept : (known : List Name) (number : ℕ) (child : Child) → KnowsNodes name number known → IsBelow number_bound number child → keeps_item known (target name child) ≡ true
  target_kept known number (State state) knows below = refl
  target_kept known number (Node k) knows below = knows k below

  -- ---- statements of nodes

  module _ (unit : CUnit) (names : List Name) (total : ℕ) (lefts : (k : ℕ) → k < total → keeps_left unit (name k) ≡ true) where
    choices_kept : (lines : List NodeLine) (number : ℕ) (known : List Name) (more : List Statement) → AreGoodLines (length names) number lines
        → number + length lines ≤ total → Knows names known → KnowsNodes name number known
        → ((after : List Name) → Grows known after → KnowsNodes name (number + length lines) after → all_kept (keeps_statements unit after more) ≡ true)
        → all_kept (keeps_statements unit known (map (choice name names) (enumerate_from number lines) ++ more)) ≡ true
    choices_kept [] number known more good within knows nodes rest =
        rest known (λ one among. among) (subst (λ n. KnowsNodes name n known) (let e : number ≡ number + 0 = omega arith in e) nodes)
    choices_kept (line ∷ lines) number known more good within knows nodes rest =
        let numbered : ℕ × NodeLine = (number, line) in
        let left = lefts number (omega (arith, within)) in
        let condition = knows.inputs line.slot good.0.slot in
        let hi = target_kept known number line.hi nodes good.0.hi in
        let lo = target_kept known number line.lo nodes good.0.lo in
        let statement : all_kept (keeps_statement unit known (choice name names numbered)) ≡ true =
        and_from _ _ left (and_from _ _ condition (and_from _ _ hi (and_from _ _ lo refl))) in
        let grows : Grows known (name number ∷ known) = λ one among. among_later (name number) known one among in
        let same : number + 1 + length lines ≡ number + length (line ∷ lines) = omega arith in
        kept_append (keeps_statement unit known (choice name names numbered))
        (keeps_statements unit (name number ∷ known) (map (choice name names) (enumerate_from (number + 1) lines) ++ more)) statement
        (choices_kept lines (number + 1) (name number ∷ known) more good.1 (omega (arith, within)) (knows_still names known (name number ∷ known) knows grows)
        (knows_more known number nodes)
        (λ after later known_after. rest after (λ one among. later one (grows one among)) (subst (λ n. KnowsNodes name n after) same known_after)))

-- ---- statements of states

module _ (unit : CUnit) (names known : List Name) (firsts seconds : ℕ) (knows : Knows names known) (first : KnowsNodes node_name firsts known)
    (second : KnowsNodes output_node_name seconds known) (next_left : keeps_left unit next_name ≡ true) (output_left : keeps_left unit output_name ≡ true) where
  rows_kept : (states : List ℕ) (nexts outputs : List Child) (more : List Statement)
      → AllByRecursion (IsBelow number_bound firsts) nexts → AllByRecursion (IsBelow number_bound seconds) outputs
      → all_kept (keeps_statements unit known more) ≡ true → all_kept (keeps_statements unit known (all_state_choices states nexts outputs ++ more)) ≡ true
  rows_kept [] nexts outputs more next output rest = rest
  rows_kept (state ∷ states) [] outputs more next output rest = rest
  rows_kept (state ∷ states) (n ∷ nexts) [] more next output rest = rest
  rows_kept (state ∷ states) (n ∷ nexts) (o ∷ outputs) more next output rest =
      let one = target_kept node_name known firsts n first next.0 in
      let other = target_kept output_node_name known seconds o second output.0 in
      and_from _ _ knows.state (and_from _ _ next_left (and_from _ _ one (and_from _ _ knows.state (and_from _ _ output_left (and_from _ _ other
      (rows_kept states nexts outputs more next.1 output.1 rest))))))

  last_kept : keeps_left unit state_name ≡ true → unit.returned ≡ Read output_name → all_kept (keeps_statements unit known (last_statement ∷ [])) ≡ true
  last_kept left returned =
      let later = among_later state_name known output_name knows.output in
      and_from _ _ left (and_from _ _ knows.next
      (ap (λ returned. all_kept (keeps_returned (state_name ∷ known) returned)) returned ∙ and_from _ _ later refl))

-- ---- the unit

module _ (all : ControlLines) (good : AreGoodUnitLines all) where
  abbrev unit : CUnit
  unit = unit_of_lines all

  abbrev firsts : ℕ
  firsts = length all.next.lines

  abbrev seconds : ℕ
  seconds = length all.output.lines

  abbrev parameters : List Name
  parameters = map parameter_name all.names

  -- statics and functions
  abbrev first : List Name
  first = state_name ∷ reset_name ∷ step_name ∷ []

  no_parameter_before : (name : Name) → is_among parameters name ≡ true → is_among first name ≡ false
  no_parameter_before = each_variable (λ name. is_among first name ≡ false) (λ name. refl) all.names

  not_before : (name : Name) → is_among first name ≡ false → ((other : Name) → bytes_eq name (parameter_name other) ≡ false)
      → is_among (first ++ parameters) name ≡ false
  not_before name none other =
      false_from_ne_true (is_among (first ++ parameters) name) (λ there.
      elim (among_append_cases first parameters name there) [
        | inl before ↦ both_ways (is_among first name) none before
        | inr parameter ↦ both_ways (is_among parameters name) (among_no_variables name all.names other) parameter
      ])

  no_local_before : (name : Name) → is_among (local_names firsts seconds) name ≡ true → is_among (first ++ parameters) name ≡ false
  no_local_before =
      each_local firsts seconds good.next.few good.output.few (λ name. is_among (first ++ parameters) name ≡ false)
      (not_before next_name refl (λ other. refl)) (not_before output_name refl (λ other. refl))
      (λ k. not_before (node_name k) refl (λ other. refl)) (λ k. not_before (output_node_name k) refl (λ other. refl))

  input_listed : (slot : ℕ) → slot < length all.names → is_among parameters (input_name all.names slot) ≡ true
  input_listed slot below = variable_is_among all.names (get_or all.names slot []) (listed all.names slot below)
    where
      listed : (names : List Name) (slot : ℕ) → slot < length names → is_among names (get_or names slot []) ≡ true
      listed [] slot below = absurd (omega (arith, below))
      listed (name ∷ names) zero below = among_here names name
      listed (name ∷ names) (suc slot) below = among_later name names (get_or names slot []) (listed names slot (omega (arith, below)))

  left_local : (name : Name) → is_among (local_names firsts seconds) name ≡ true → keeps_left unit name ≡ true
  unfolding unit_of_lines
  left_local name among = among_later state_name (local_names firsts seconds) name among

  state_left : keeps_left unit state_name ≡ true
  unfolding unit_of_lines
  state_left = refl

  abbrev known : List Name
  known = output_name ∷ next_name ∷ state_name ∷ parameters

  knows_first : Knows all.names known
  knows_first =
      record {
        state = refl;
        next = refl;
        output = refl;
        inputs = λ slot below.
            among_later output_name (next_name ∷ state_name ∷ parameters) (input_name all.names slot)
            (among_later next_name (state_name ∷ parameters) (input_name all.names slot)
            (among_later state_name parameters (input_name all.names slot) (input_listed slot below)));
      }

  abbrev ending : List Statement
  ending = all_state_choices all.states all.next.rows all.output.rows ++ last_statement ∷ []

  returns_output : unit.returned ≡ Read output_name
  unfolding unit_of_lines
  returns_output = refl

  ending_kept : (after : List Name) → Knows all.names after → KnowsNodes node_name firsts after → KnowsNodes output_node_name seconds after
      → all_kept (keeps_statements unit after ending) ≡ true
  ending_kept after knows nexts outputs =
      rows_kept unit all.names after firsts seconds knows nexts outputs (left_local next_name refl) (left_local output_name refl)
      all.states all.next.rows all.output.rows (last_statement ∷ [])
      (recursion_from_All (IsBelow number_bound firsts) all.next.rows good.next.rows)
      (recursion_from_All (IsBelow number_bound seconds) all.output.rows good.output.rows)
      (last_kept unit all.names after firsts seconds knows nexts outputs (left_local next_name refl) (left_local output_name refl) state_left returns_output)

  choices_kept_all : all_kept (keeps_statements unit known
      (choices node_name all.names all.next.lines ++ (choices output_node_name all.names all.output.lines ++ ending))) ≡ true
  choices_kept_all =
      choices_kept node_name unit all.names firsts (λ k below. left_local (node_name k) (node_among firsts seconds good.next.few good.output.few k below))
      all.next.lines 0 known (choices output_node_name all.names all.output.lines ++ ending) good.next.lines (omega arith) knows_first
      (λ k below. absurd (omega (arith, below)))
      (λ after grows nexts.
      choices_kept output_node_name unit all.names seconds
      (λ k below. left_local (output_node_name k) (output_node_among firsts seconds good.next.few good.output.few k below))
      all.output.lines 0 after ending good.output.lines (omega arith) (knows_still all.names known after knows_first grows)
      (λ k below. absurd (omega (arith, below)))
      (λ last later outputs.
      ending_kept last (knows_still all.names known last knows_first (λ one among. later one (grows one among)))
      (λ k below. later (node_name k) (nexts k (omega (arith, below)))) (λ k below. outputs k (omega (arith, below)))))

  statements_kept : all_kept (keeps_statements unit (state_name ∷ parameters) (cleared next_name ∷ cleared output_name
      ∷ choices node_name all.names all.next.lines ++ (choices output_node_name all.names all.output.lines ++ ending))) ≡ true
  statements_kept = and_from _ _ (left_local next_name refl) (and_from _ _ (left_local output_name refl) choices_kept_all)

  unit_keeps : KeepsRules (unit_of_lines all)
  unfolding unit_of_lines
  unit_keeps =
      record {
        statics = refl;
        reset = refl;
        assignments = refl;
        all_assigned = refl;
        step = refl;
        parameters = parameters_keep parameters first 0 (omega (arith, length-map all.names parameter_name, good.names.count))
            (variables_are_distinct all.names good.names.differ) no_parameter_before;
        locals = apart_keep (local_names firsts seconds) (first ++ parameters) (locals_distinct firsts seconds good.next.few good.output.few) no_local_before;
        statements = statements_kept;
      }

  pub unit_is_well_named : IsWellNamed (unit_of_lines all)
  unit_is_well_named = keeps (unit_of_lines all) unit_keeps
