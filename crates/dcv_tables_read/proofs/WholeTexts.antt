-- Where a whole text is stuck, and what is read of it.
use Rattle.std.proofs.Common.{◌≡◌, ℕ, suc, ◌+◌, ◌-◌, List, [], ◌∷◌, ◌++◌, length, map, refl, sym, ap, ◌∙◌, subst, arith}
use Rattle.std.specs.Prelude.{codes, nat_lt}
use Rattle.std.specs.List.{All}
use Rattle.std.proofs.lemmas.List.{append_assoc, length-append}
use Rattle.std.proofs.lemmas.List.Elements.{All-nil, All-cons, All-head, All-tail}
use Rattle.dcv_automaton_text.specs.Form.{IsNumber}
use Rattle.dcv_automaton_lines.specs.Pieces.{IsStuckIn, IsFaultAt}
use Rattle.dcv_automaton_lines.proofs.Pieces.{append_none}
use Rattle.dcv_automaton_lines.proofs.LineSets.{Some}
use Rattle.dcv_c_tables.specs.Unit.{TableNode, TableState, Tables}
use Rattle.dcv_c_tables.specs.Layout.{text_in, has_nodes, text_of, layout_of, parameters_layout, reset_lines}
use Rattle.dcv_c_tables.specs.Observer.{parameter_name}
use Rattle.std.specs.Borrow.{Bor}
use Rattle.dcv_tables_read.specs.Values.{words_in}
use Rattle.dcv_tables_read.specs.Form.{IsNameWord, IsParameter, IsPlainUnit, Form, IsSyntaxFault}
use Rattle.dcv_tables_read.specs.Parts.{IsUnique, CountsValue, AreCounts, counts_text, CountsSet, AreNodes, nodes_text, NodesSet, AreStates, states_text, StatesSet, AreNames, step_text, body_text, StepSet, UnitSet, AfterCounts, AfterNodes, integer_of}
use Rattle.dcv_tables_read.proofs.Chain.{same_behind, stuck_same, stuck_first, stuck_next, some_then, some_spelling}
use Rattle.dcv_tables_read.proofs.Numbers.{unique_counts}
use Rattle.dcv_tables_read.proofs.ArrayTexts.{unique_nodes, some_nodes, unique_states, some_states}
use Rattle.dcv_tables_read.proofs.StepTexts.{ps, ps_are, unique_step}

-- ---- the text of a unit in its parts

abbrev unit_of : List (List ℕ) → List TableNode → List TableState → Tables
unit_of names nodes states = record { parameters = map parameter_name names; nodes = nodes; states = states }

abbrev counted : List (List ℕ) → List TableNode → List TableState → CountsValue
counted names nodes states = record { states = length states; nodes = length nodes; variables = length names }

has_is : (nodes : List TableNode) → has_nodes nodes ≡ nat_lt 0 (length nodes)
has_is [] = refl
has_is (node ∷ nodes) = sym (grind arith)

names_length : (names : List (List ℕ)) → length (map parameter_name names) ≡ length names
names_length [] = refl
names_length (name ∷ names) = ap suc (names_length names)

abbrev spelled_by : CountsValue → List (List ℕ) → List TableNode → List TableState → List ℕ
spelled_by counts names nodes states =
    let integer = integer_of counts in
    counts_text counts ++ (nodes_text integer nodes ++ (states_text integer states ++ step_text integer (nat_lt 0 counts.nodes) names))

parts_are : (names : List (List ℕ)) (nodes : List TableNode) (states : List TableState) → spelled_by (counted names nodes states) names nodes states ≡ text_of (unit_of names nodes states)
unfolding text_of layout_of
parts_are names nodes states =
    let integer = integer_of (counted names nodes states) in
    (λ i. counts_text (record { states = length states; nodes = length nodes; variables = sym (names_length names) i })
    ++ (nodes_text integer nodes ++ (states_text integer states ++ step_text integer (sym (has_is nodes) i) names)))
    ∙ ap (λ t. counts_text (record { states = length states; nodes = length nodes; variables = length (map parameter_name names) })
    ++ (nodes_text integer nodes ++ (states_text integer states ++ (text_in (reset_lines integer) ++ t))))
    (append_assoc (text_in (parameters_layout (map parameter_name names))) (codes ")\n{\n") (body_text integer (has_nodes nodes) names))

-- ---- what was read is a unit

pub record IsRead (counts : CountsValue) (names : List (List ℕ)) (nodes : List TableNode) (states : List TableState) : Type 0 where
  pub counts_are : AreCounts counts
  pub names_are : AreNames counts.variables names
  pub nodes_are : AreNodes counts.nodes nodes
  pub states_are : AreStates counts.states states

all_parameters : (names : List (List ℕ)) → All IsNameWord names → All IsParameter (map parameter_name names)
all_parameters [] each = All-nil IsParameter
all_parameters (name ∷ names) each =
    All-cons IsParameter (parameter_name name) (map parameter_name names) (record { name = name; word = All-head IsNameWord name names each; is = refl })
    (all_parameters names (All-tail IsNameWord name names each))

module _ {counts : CountsValue} {names : List (List ℕ)} {nodes : List TableNode} {states : List TableState} (read : IsRead counts names nodes states) where
  counts_is : counts ≡ counted names nodes states
  counts_is = λ i. record { states = sym read.states_are.many i; nodes = sym read.nodes_are.many i; variables = sym read.names_are.many i }

  pub text_read : spelled_by counts names nodes states ≡ text_of (unit_of names nodes states)
  text_read = ap (λ counts. spelled_by counts names nodes states) counts_is ∙ parts_are names nodes states

  pub plain_read : IsPlainUnit (unit_of names nodes states)
  plain_read =
      record {
        nodes = read.nodes_are.each;
        states = read.states_are.each;
        parameters = all_parameters names read.names_are.each;
        few_nodes = subst IsNumber (sym read.nodes_are.many) read.counts_are.nodes;
        few_states = subst IsNumber (sym read.states_are.many) read.counts_are.states;
        few_parameters = subst IsNumber (sym (names_length names ∙ read.names_are.many)) read.counts_are.variables;
      }

-- ---- and each unit is one that may be read

record HasNames (parameters : List (List ℕ)) : Type 0 where
  names : List (List ℕ)
  each : All IsNameWord names
  are : parameters ≡ map parameter_name names

names_of : (parameters : List (List ℕ)) → All IsParameter parameters → HasNames parameters
names_of [] all = record { names = []; each = All-nil IsNameWord; are = refl }
names_of (parameter ∷ parameters) all =
    let first = All-head IsParameter parameter parameters all in
    let rest = names_of parameters (All-tail IsParameter parameter parameters all) in
    record { names = first.name ∷ rest.names; each = All-cons IsNameWord first.name rest.names first.word rest.each; are = λ i. first.is i ∷ rest.are i }

pub unit_from : (text : List ℕ) → UnitSet text → Form text
unit_from text is =
    let nodes = is.back_is in
    let states = nodes.back_is in
    let names = states.back_is in
    let read : IsRead is.item names.item nodes.item states.item =
    record { counts_are = is.valid_item; names_are = names.valid_item; nodes_are = nodes.valid_item; states_are = states.valid_item } in
    let integer = integer_of is.item in (
      unit_of names.item nodes.item states.item,
      record {
        plain = plain_read read;
        spelled = is.whole ∙ ap (λ t. counts_text is.item ++ t) (nodes.whole ∙ ap (λ t. nodes_text integer nodes.item ++ t)
            (states.whole ∙ ap (λ t. states_text integer states.item ++ t) names.is)) ∙ text_read read;
      },
    )

unit_into : (text : List ℕ) → Form text → UnitSet text
unit_into text (tables, form) =
    let named = names_of tables.parameters form.plain.parameters in
    let counts = counted named.names tables.nodes tables.states in
    let integer = integer_of counts in
    let some = nat_lt 0 counts.nodes in
    let few : IsNumber (length named.names) = subst IsNumber (ap length named.are ∙ names_length named.names) form.plain.few_parameters in
    let step = step_text integer some named.names in
    let states = states_text integer tables.states ++ step in
    record {
      item = counts;
      valid_item = record { states = form.plain.few_states; nodes = form.plain.few_nodes; variables = few };
      back = nodes_text integer tables.nodes ++ states;
      back_is = record {
        item = tables.nodes;
        valid_item = record { many = refl; each = form.plain.nodes };
        back = states;
        back_is = record {
          item = tables.states;
          valid_item = record { many = refl; each = form.plain.states };
          back = step;
          back_is = record { item = named.names; valid_item = record { many = refl; each = named.each }; is = refl };
          whole = refl;
        };
        whole = refl;
      };
      whole = form.spelled ∙ ap (λ parameters. text_of (record { parameters = parameters; nodes = tables.nodes; states = tables.states })) named.are
          ∙ sym (parts_are named.names tables.nodes tables.states);
    }

-- ---- stuck in a part

pub unit_stuck : {text left : List ℕ} → IsStuckIn UnitSet text left → IsStuckIn Form text left
unit_stuck stuck = stuck_same unit_from unit_into stuck

pub some_step : (counts : CountsValue) → Some (StepSet (integer_of counts) (nat_lt 0 counts.nodes) counts.variables)
some_step counts = some_spelling (ps counts.variables) (ps_are counts.variables)

pub some_after_nodes : (counts : CountsValue) → Some (AfterNodes counts)
some_after_nodes counts = let (states, are) = some_states counts.states in some_then states are (some_step counts)

pub some_after_counts : (counts : CountsValue) → Some (AfterCounts counts)
some_after_counts counts = let (nodes, are) = some_nodes counts.nodes in some_then nodes are (some_after_nodes counts)

pub in_counts : {text left : List ℕ} → IsStuckIn CountsSet text left → IsStuckIn Form text left
in_counts stuck = unit_stuck (stuck_first (λ counts _. some_after_counts counts) stuck)

module _ (counts : CountsValue) (counts_are : AreCounts counts) (text arrays : List ℕ) (whole : text ≡ counts_text counts ++ arrays) where
  after_counts : {left : List ℕ} → IsStuckIn (AfterCounts counts) arrays left → IsStuckIn Form text left
  after_counts stuck = unit_stuck (stuck_next unique_counts counts counts_are whole stuck)

  pub in_nodes : {left : List ℕ} → IsStuckIn (NodesSet (integer_of counts) counts.nodes) arrays left → IsStuckIn Form text left
  in_nodes stuck = after_counts (stuck_first (λ _ _. some_after_nodes counts) stuck)

  module _ (nodes : List TableNode) (nodes_are : AreNodes counts.nodes nodes) (behind : List ℕ) (next : arrays ≡ nodes_text (integer_of counts) nodes ++ behind) where
    after_nodes : {left : List ℕ} → IsStuckIn (AfterNodes counts) behind left → IsStuckIn Form text left
    after_nodes stuck = after_counts (stuck_next (unique_nodes (integer_of counts) counts.nodes) nodes nodes_are next stuck)

    pub in_states : {left : List ℕ} → IsStuckIn (StatesSet (integer_of counts) counts.states) behind left → IsStuckIn Form text left
    in_states stuck = after_nodes (stuck_first (λ _ _. some_step counts) stuck)

    module _ (states : List TableState) (states_are : AreStates counts.states states) (functions : List ℕ) (then : behind ≡ states_text (integer_of counts) states ++ functions) where
      pub in_step : {left : List ℕ} → IsStuckIn (StepSet (integer_of counts) (nat_lt 0 counts.nodes) counts.variables) functions left → IsStuckIn Form text left
      in_step stuck = after_nodes (stuck_next (unique_states (integer_of counts) counts.states) states states_are then stuck)

-- ---- no text is that of two units

module _ (counts : CountsValue) (names : List (List ℕ)) (nodes : List TableNode) (states : List TableState) (rest : List ℕ) where
  abbrev behind_states : List ℕ
  behind_states = step_text (integer_of counts) (nat_lt 0 counts.nodes) names ++ rest

  abbrev behind_nodes : List ℕ
  behind_nodes = states_text (integer_of counts) states ++ behind_states

  abbrev behind_counts : List ℕ
  behind_counts = nodes_text (integer_of counts) nodes ++ behind_nodes

  opened : counts_text counts ++ behind_counts ≡ spelled_by counts names nodes states ++ rest
  opened =
      let integer = integer_of counts in
      let step = step_text integer (nat_lt 0 counts.nodes) names in
      ap (λ t. counts_text counts ++ t)
      (ap (λ t. nodes_text integer nodes ++ t) (sym (append_assoc (states_text integer states) step rest)) ∙ sym (append_assoc (nodes_text integer nodes) (states_text integer states ++ step) rest))
      ∙ sym (append_assoc (counts_text counts) (nodes_text integer nodes ++ (states_text integer states ++ step)) rest)

same_with_counts : (counts : CountsValue) (names other_names : List (List ℕ)) (nodes other_nodes : List TableNode) (states other_states : List TableState) (a b : List ℕ)
    → IsRead counts names nodes states → IsRead counts other_names other_nodes other_states
    → behind_counts counts names nodes states a ≡ behind_counts counts other_names other_nodes other_states b → unit_of names nodes states ≡ unit_of other_names other_nodes other_states
same_with_counts counts names other_names nodes other_nodes states other_states a b read other same =
    let integer = integer_of counts in
    let some = nat_lt 0 counts.nodes in
    let n = unique_nodes integer counts.nodes nodes other_nodes _ _ read.nodes_are other.nodes_are same in
    let next = same_behind (nodes_text integer nodes) (nodes_text integer other_nodes) (ap (nodes_text integer) n) same in
    let s = unique_states integer counts.states states other_states _ _ read.states_are other.states_are next in
    let last = same_behind (states_text integer states) (states_text integer other_states) (ap (states_text integer) s) next in
    let p = unique_step integer some counts.variables names other_names a b read.names_are other.names_are last in
    λ i. unit_of (p i) (n i) (s i)

same_units : (counts other_counts : CountsValue) (names other_names : List (List ℕ)) (nodes other_nodes : List TableNode) (states other_states : List TableState) (a b : List ℕ)
    → IsRead counts names nodes states → IsRead other_counts other_names other_nodes other_states
    → spelled_by counts names nodes states ++ a ≡ spelled_by other_counts other_names other_nodes other_states ++ b → unit_of names nodes states ≡ unit_of other_names other_nodes other_states
same_units counts other_counts names other_names nodes other_nodes states other_states a b read other spelled =
    let same = opened counts names nodes states a ∙ spelled ∙ sym (opened other_counts other_names other_nodes other_states b) in
    let c = unique_counts counts other_counts _ _ read.counts_are other.counts_are same in
    let next = same_behind (counts_text counts) (counts_text other_counts) (ap counts_text c) same in
    same_with_counts counts names other_names nodes other_nodes states other_states a b read
    (subst (λ (counts : CountsValue). IsRead counts other_names other_nodes other_states) (sym c) other)
    (subst (λ (last : CountsValue). behind_counts counts names nodes states a ≡ behind_counts last other_names other_nodes other_states b) (sym c) next)

record IsNamed (tables : Tables) : Type 0 where
  named : HasNames tables.parameters
  read : IsRead (counted named.names tables.nodes tables.states) named.names tables.nodes tables.states
  is : tables ≡ unit_of named.names tables.nodes tables.states
  text : text_of tables ≡ spelled_by (counted named.names tables.nodes tables.states) named.names tables.nodes tables.states

named_of : (tables : Tables) → IsPlainUnit tables → IsNamed tables
named_of tables plain =
    let named = names_of tables.parameters plain.parameters in
    let is : tables ≡ unit_of named.names tables.nodes tables.states = λ i. record { parameters = named.are i; nodes = tables.nodes; states = tables.states } in
    record {
      named = named;
      read = record {
        counts_are = record { states = plain.few_states; nodes = plain.few_nodes; variables = subst IsNumber (ap length named.are ∙ names_length named.names) plain.few_parameters };
        names_are = record { many = refl; each = named.each };
        nodes_are = record { many = refl; each = plain.nodes };
        states_are = record { many = refl; each = plain.states };
      };
      is = is;
      text = ap text_of is ∙ sym (parts_are named.names tables.nodes tables.states);
    }

pub unique_tables : IsUnique IsPlainUnit text_of
unique_tables x y a b x_is y_is same =
    let first = named_of x x_is in
    let second = named_of y y_is in
    first.is ∙ same_units (counted first.named.names x.nodes x.states) (counted second.named.names y.nodes y.states) first.named.names second.named.names x.nodes y.nodes x.states y.states a b
    first.read second.read (ap (λ t. t ++ a) (sym first.text) ∙ same ∙ ap (λ t. t ++ b) second.text) ∙ sym second.is

-- ---- what stands after a unit is a fault

pub more_is_fault : (tables : Tables) (text rest : List ℕ) → IsPlainUnit tables → text ≡ text_of tables ++ rest → (rest ≡ [] → ⊥) → IsFaultAt Form text rest
more_is_fault tables text [] plain whole some = absurd (some refl)
more_is_fault tables text (b ∷ left) plain whole some =
    record {
      front = text_of tables;
      cut = whole;
      viable = record { more = []; member = (tables, record { plain = plain; spelled = append_none (text_of tables) }) };
      fault = λ other is.
          let same : text_of tables ++ b ∷ other ≡ text_of is.0 ++ [] = is.1.spelled ∙ sym (append_none (text_of is.0)) in
          let tables_are = unique_tables tables is.0 (b ∷ other) [] plain is.1.plain same in
          let wrong : b ∷ other ≡ [] = same_behind (text_of tables) (text_of is.0) (ap text_of tables_are) same in cc;
    }

pub syntax_fault : (text left : List ℕ) (at : ℕ) → IsFaultAt Form text left → at ≡ length text - length left → IsSyntaxFault text at
syntax_fault text left at fault is =
    let sizes : length text ≡ length fault.front + length left = ap length fault.cut ∙ length-append fault.front left in
    record { left = left; cut = omega (arith, sizes, is); fault = fault }

-- ---- as the code has it

pub names_seen : (names : List (Bor (List ℕ))) → map parameter_name (words_in names) ≡ map (λ name. parameter_name name.now) names
names_seen [] = refl
names_seen (name ∷ names) = ap (λ rest. parameter_name name.now ∷ rest) (names_seen names)

module _ (counts : CountsValue) (names : List (Bor (List ℕ))) (nodes : List TableNode) (states : List TableState) (read : IsRead counts (words_in names) nodes states) where
  abbrev seen : Tables
  seen = record { parameters = map (λ name. parameter_name name.now) names; nodes = nodes; states = states }

  pub front_plain : IsPlainUnit seen
  front_plain = subst (λ (parameters : List (List ℕ)). IsPlainUnit (record { parameters = parameters; nodes = nodes; states = states })) (names_seen names) (plain_read read)

  pub front_spelled : (integer text arrays behind functions rest : List ℕ) → integer ≡ integer_of counts → text ≡ counts_text counts ++ arrays → arrays ≡ nodes_text integer nodes ++ behind
      → behind ≡ states_text integer states ++ functions → functions ≡ step_text integer (nat_lt 0 counts.nodes) (words_in names) ++ rest → text ≡ text_of seen ++ rest
  front_spelled integer text arrays behind functions rest is a b c d =
      a ∙ ap (λ t. counts_text counts ++ t) (b ∙ ap (λ t. nodes_text integer nodes ++ t) (c ∙ ap (λ t. states_text integer states ++ t) d))
      ∙ ap (λ (integer : List ℕ). counts_text counts ++ (nodes_text integer nodes ++ (states_text integer states ++ (step_text integer (nat_lt 0 counts.nodes) (words_in names) ++ rest)))) is
      ∙ opened counts (words_in names) nodes states rest ∙ ap (λ t. t ++ rest) (text_read read)
      ∙ ap (λ (parameters : List (List ℕ)). text_of (record { parameters = parameters; nodes = nodes; states = states }) ++ rest) (names_seen names)
