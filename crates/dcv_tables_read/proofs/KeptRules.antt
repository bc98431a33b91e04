-- What is judged of a unit is what its steps need, and the other way round.
use Rattle.std.proofs.Common.{◌≡◌, ℕ, ◌+◌, ◌<◌, Bool, true, false, ◌&&◌, ◌||◌, nat_lt, nat_le, List, [], ◌∷◌, ◌++◌, length, map, refl, arith}
use Rattle.std.specs.Prelude.{IsTrue}
use Rattle.std.specs.List.{AllByRecursion, list_all}
use Rattle.std.proofs.lemmas.Bool.{ltb-true, lt-ltb}
use Rattle.std.proofs.lemmas.Bool.Decides.{nat_tests}
use Rattle.std.proofs.lemmas.List.Elements.{All-from_recursion, recursion_from_All}
use Rattle.dcv_language.specs.Limits.{most_variables, most_states, most_nodes}
use Rattle.dcv_c_tables.specs.Unit.{TableNode, TableState, Tables}
use Rattle.dcv_c_tables.specs.Rules.{ArePlacedNodes, variable_at, ComesLater, IsOrderedNode, IsTables}
use Rattle.dcv_tables_read.specs.Reading.{keeps_counts, keeps_variables, keeps_child, keeps_children, keeps_rows, keeps_parameters, judged}
use Rattle.dcv_tables_read.specs.Laws.{ReadUnitsKeepTheRules}

abbrev pub AllKept : List Bool → Type 0
AllKept keeps = IsTrue (list_all (λ keeps. keeps) keeps)

pub both_true : (a b : Bool) → (a && b) ≡ true → (a ≡ true) × (b ≡ true)
both_true true b h = (refl, h)
both_true false b h = absurd cc

pub true_both : (a b : Bool) → a ≡ true → b ≡ true → (a && b) ≡ true
true_both a b p q = λ i. p i && q i

-- ---- lists of judgements

split : (a b : List Bool) → AllKept (a ++ b) → AllKept a × AllKept b
split [] b kept = (refl, kept)
split (x ∷ a) b kept =
    let (here, rest) = both_true x (list_all (λ keeps. keeps) (a ++ b)) kept in
    let parts = split a b rest in
    (true_both x (list_all (λ keeps. keeps) a) here parts.0, parts.1)

joined : (a b : List Bool) → AllKept a → AllKept b → AllKept (a ++ b)
joined [] b p q = q
joined (x ∷ a) b p q =
    let (here, rest) = both_true x (list_all (λ keeps. keeps) a) p in
    true_both x (list_all (λ keeps. keeps) (a ++ b)) here (joined a b rest q)

-- ---- children

module _ (tables : Tables) where
  -- a place before the node's own, and a node there has a later variable
  record IsChild (own variable child : ℕ) : Type 0 where
    below : child < own
    later : ComesLater tables variable child

  child_is : (own variable child : ℕ) → keeps_child tables own variable child ≡ true → IsChild own variable child
  child_is own variable child kept =
      let (below, either) = both_true (nat_lt child own) (nat_lt child (length tables.states) || nat_lt variable (variable_at tables child)) kept in
      record { below = ltb-true child own below; later = λ beyond. grind (arith, nat_tests, either, beyond) }

  child_kept : (own variable child : ℕ) → IsChild own variable child → keeps_child tables own variable child ≡ true
  child_kept own variable child is =
      true_both (nat_lt child own) (nat_lt child (length tables.states) || nat_lt variable (variable_at tables child)) (lt-ltb child own is.below) (by (nat_lt child (length tables.states)) refl)
    where
      by : (state : Bool) → nat_lt child (length tables.states) ≡ state → (state || nat_lt variable (variable_at tables child)) ≡ true
      by true e = refl
      by false e = lt-ltb variable (variable_at tables child) (is.later (grind (arith, nat_tests, e)))

  -- ---- nodes

  record AreKept (own : ℕ) (nodes : List TableNode) : Type 0 where
    placed : ArePlacedNodes (length tables.parameters) own nodes
    ordered : AllByRecursion (IsOrderedNode tables) nodes

  nodes_are : (own : ℕ) (nodes : List TableNode) → AllKept (map (λ (node : TableNode). nat_lt node.variable (length tables.parameters)) nodes)
      → AllKept (keeps_children tables (λ node. node.high) own nodes) → AllKept (keeps_children tables (λ node. node.low) own nodes) → AreKept own nodes
  nodes_are own [] v h l = record { placed = tt; ordered = tt }
  nodes_are own (node ∷ nodes) v h l =
      let (variable, variables) = both_true (nat_lt node.variable (length tables.parameters)) _ v in
      let (high, highs) = both_true (keeps_child tables own node.variable node.high) _ h in
      let (low, lows) = both_true (keeps_child tables own node.variable node.low) _ l in
      let rest = nodes_are (own + 1) nodes variables highs lows in
      let high_is = child_is own node.variable node.high high in
      let low_is = child_is own node.variable node.low low in
      record {
        placed = (record { variable = ltb-true node.variable (length tables.parameters) variable; high = high_is.below; low = low_is.below }, rest.placed);
        ordered = (record { high = high_is.later; low = low_is.later }, rest.ordered);
      }

  -- the other way round
  record AreJudged (own : ℕ) (nodes : List TableNode) : Type 0 where
    variables : AllKept (map (λ (node : TableNode). nat_lt node.variable (length tables.parameters)) nodes)
    highs : AllKept (keeps_children tables (λ node. node.high) own nodes)
    lows : AllKept (keeps_children tables (λ node. node.low) own nodes)

  nodes_kept : (own : ℕ) (nodes : List TableNode) → ArePlacedNodes (length tables.parameters) own nodes → AllByRecursion (IsOrderedNode tables) nodes → AreJudged own nodes
  nodes_kept own [] placed ordered = record { variables = refl; highs = refl; lows = refl }
  nodes_kept own (node ∷ nodes) placed ordered =
      let rest = nodes_kept (own + 1) nodes placed.1 ordered.1 in
      record {
        variables = true_both (nat_lt node.variable (length tables.parameters)) _ (lt-ltb node.variable (length tables.parameters) placed.0.variable) rest.variables;
        highs = true_both (keeps_child tables own node.variable node.high) _ (child_kept own node.variable node.high (record { below = placed.0.high; later = ordered.0.high })) rest.highs;
        lows = true_both (keeps_child tables own node.variable node.low) _ (child_kept own node.variable node.low (record { below = placed.0.low; later = ordered.0.low })) rest.lows;
      }

  -- ---- rows

  abbrev IsRow : TableState → Type 0
  IsRow state = state.row < length tables.states + length tables.nodes

  rows_are : (states : List TableState) → AllKept (map (λ (state : TableState). nat_lt state.row (length tables.states + length tables.nodes)) states) → AllByRecursion IsRow states
  rows_are [] kept = tt
  rows_are (state ∷ states) kept =
      let (here, rest) = both_true (nat_lt state.row (length tables.states + length tables.nodes)) _ kept in
      (ltb-true state.row (length tables.states + length tables.nodes) here, rows_are states rest)

  rows_kept : (states : List TableState) → AllByRecursion IsRow states → AllKept (map (λ (state : TableState). nat_lt state.row (length tables.states + length tables.nodes)) states)
  rows_kept [] rows = refl
  rows_kept (state ∷ states) rows =
      true_both (nat_lt state.row (length tables.states + length tables.nodes)) _ (lt-ltb state.row (length tables.states + length tables.nodes) rows.0) (rows_kept states rows.1)

  -- ---- the whole

  abbrev kept_highs : List Bool
  kept_highs = keeps_children tables (λ node. node.high) (length tables.states) tables.nodes

  abbrev kept_lows : List Bool
  kept_lows = keeps_children tables (λ node. node.low) (length tables.states) tables.nodes

  -- what is judged from an array on
  abbrev from_rows : List Bool
  from_rows = keeps_rows tables ++ keeps_parameters [] tables.parameters

  abbrev from_lows : List Bool
  from_lows = kept_lows ++ from_rows

  abbrev from_highs : List Bool
  from_highs = kept_highs ++ from_lows

  abbrev from_variables : List Bool
  from_variables = keeps_variables tables ++ from_highs

  counts_kept : IsTables tables → AllKept (keeps_counts tables)
  counts_kept is =
      let some : nat_lt 0 (length tables.states) ≡ true = lt-ltb 0 (length tables.states) is.some_states in
      let few : nat_le (length tables.states) most_states ≡ true = grind (arith, nat_tests, is.few_states) in
      let nodes : nat_le (length tables.nodes) most_nodes ≡ true = grind (arith, nat_tests, is.few_nodes) in
      let parameters : nat_le (length tables.parameters) most_variables ≡ true = grind (arith, nat_tests, is.few_parameters) in
      λ i. (some i && few i) && (nodes i && (parameters i && true))

  pub unit_keeps : AllKept (judged tables) → IsTables tables
  unfolding judged
  unit_keeps kept =
      let counts = split (keeps_counts tables) from_variables kept in
      let variables = split (keeps_variables tables) from_highs counts.1 in
      let highs = split kept_highs from_lows variables.1 in
      let lows = split kept_lows from_rows highs.1 in
      let rows = split (keeps_rows tables) (keeps_parameters [] tables.parameters) lows.1 in
      let nodes = nodes_are (length tables.states) tables.nodes variables.0 highs.0 lows.0 in
      let keeps_states = nat_lt 0 (length tables.states) && nat_le (length tables.states) most_states in
      let keeps_nodes = nat_le (length tables.nodes) most_nodes in
      let keeps_names = nat_le (length tables.parameters) most_variables in
      let (states, others) = both_true keeps_states (keeps_nodes && (keeps_names && true)) counts.0 in
      let (some, few) = both_true (nat_lt 0 (length tables.states)) (nat_le (length tables.states) most_states) states in
      let (few_nodes, last) = both_true keeps_nodes (keeps_names && true) others in
      let (few_parameters, none) = both_true keeps_names true last in
      record {
        few_parameters = grind (arith, nat_tests, few_parameters);
        some_states = ltb-true 0 (length tables.states) some;
        few_states = grind (arith, nat_tests, few);
        few_nodes = grind (arith, nat_tests, few_nodes);
        nodes = nodes.placed;
        ordered = All-from_recursion (IsOrderedNode tables) tables.nodes nodes.ordered;
        rows = All-from_recursion IsRow tables.states (rows_are tables.states rows.0);
      }

  pub rules_kept : IsTables tables → AllKept (keeps_parameters [] tables.parameters) → AllKept (judged tables)
  unfolding judged
  rules_kept is parameters =
      let nodes = nodes_kept (length tables.states) tables.nodes is.nodes (recursion_from_All (IsOrderedNode tables) tables.nodes is.ordered) in
      let rows = rows_kept tables.states (recursion_from_All IsRow tables.states is.rows) in
      joined (keeps_counts tables) from_variables (counts_kept is) (joined (keeps_variables tables) from_highs nodes.variables (joined kept_highs from_lows nodes.highs
      (joined kept_lows from_rows nodes.lows (joined (keeps_rows tables) (keeps_parameters [] tables.parameters) rows parameters))))

pub read_units_keep : ReadUnitsKeepTheRules
read_units_keep text tables is = unit_keeps tables is.keeps
