-- Each step of a unit that keeps the rules arrives at a state, and looks at no parameter twice on its way.
use Rattle.std.proofs.Common.{◌≡◌, ℕ, zero, suc, ◌+◌, ◌-◌, ◌<◌, ◌≤◌, Bool, true, false, cond, nat_lt, ap, List, [], ◌∷◌, length, get_or, sym, subst, arith, inl, inr}
use Rattle.std.proofs.lemmas.Bool.{cases_lt}
use Rattle.dcv_c_tables.specs.Unit.{TableNode, Tables, no_node, no_state}
use Rattle.dcv_c_tables.specs.Meaning.{next_place, nodes_on, nodes_from, walked}
use Rattle.dcv_c_tables.specs.Rules.{IsPlacedNode, ArePlacedNodes, ComesLater, IsTables, variable_at}
use Rattle.dcv_c_tables.specs.Laws.{RulesMakeStepsSafe, AreLooks}
use Rattle.dcv_c_tables.proofs.Walks.{at_state, at_node}

node_at : (width bound : ℕ) (nodes : List TableNode) → ArePlacedNodes width bound nodes → (k : ℕ) → k < length nodes → IsPlacedNode width (bound + k) (get_or nodes k no_node)
node_at width bound [] placed k within = absurd (omega (arith, within))
node_at width bound (node ∷ nodes) placed zero within =
    subst (λ n. IsPlacedNode width n node) (let here : bound ≡ bound + 0 = omega arith in here) placed.0
node_at width bound (node ∷ nodes) placed (suc k) within =
    subst (λ n. IsPlacedNode width n (get_or nodes k no_node)) (let here : bound + 1 + k ≡ bound + suc k = omega arith in here)
    (node_at width (bound + 1) nodes placed.1 k (omega (arith, within)))

module _ (tables : Tables) (is : IsTables tables) (letter : List Bool) where
  side_below : (side : Bool) (high low bound : ℕ) → high < bound → low < bound → cond side high low < bound
  side_below true high low bound first second = first
  side_below false high low bound first second = second

  walk_ends : (most place : ℕ) → most ≤ length tables.nodes → place < length tables.states + most → walked tables letter most place < length tables.states
  walk_ends zero place few within = omega (arith, within)
  walk_ends (suc most) place few within =
      elim (cases_lt place (length tables.states)) [
        | inl state ↦ subst (λ n. n < length tables.states) (sym (at_state tables letter (suc most) place state)) state
        | inr node ↦
            let k = place - length tables.states in
            let facts = node_at (length tables.parameters) (length tables.states) tables.nodes is.nodes k (omega (arith, node, within, few)) in
            let next = get_or tables.nodes k no_node in
            let below = side_below (get_or letter next.variable false) next.high next.low (length tables.states + k) facts.high facts.low in
            subst (λ n. n < length tables.states) (sym (at_node tables letter most place (omega (arith, node))))
            (walk_ends most (next_place tables letter place) (omega (arith, few)) (omega (arith, below, within, node)))
      ]

  none_on : (most place : ℕ) → place < length tables.states → nodes_on tables letter (suc most) place ≡ []
  none_on most place within =
      let here : nat_lt place (length tables.states) ≡ true = grind (arith, within) in
      ap (λ b. cond b [] (place ∷ nodes_on tables letter most (next_place tables letter place))) here

  one_on : (most place : ℕ) → length tables.states ≤ place
      → nodes_on tables letter (suc most) place ≡ place ∷ nodes_on tables letter most (next_place tables letter place)
  one_on most place beyond =
      let here : nat_lt place (length tables.states) ≡ false = grind (arith, beyond) in
      ap (λ b. cond b [] (place ∷ nodes_on tables letter most (next_place tables letter place))) here

  side_later : (side : Bool) (high low variable : ℕ) → ComesLater tables variable high → ComesLater tables variable low
      → ComesLater tables variable (cond side high low)
  side_later true high low variable first second = first
  side_later false high low variable first second = second

  looks_on : (most place first : ℕ) → most ≤ length tables.nodes → place < length tables.states + most
      → (length tables.states ≤ place → first ≤ variable_at tables place) → AreLooks tables first (nodes_on tables letter most place)
  looks_on zero place first few within later = tt
  looks_on (suc most) place first few within later =
      elim (cases_lt place (length tables.states)) [
        | inl state ↦ subst (AreLooks tables first) (sym (none_on most place state)) tt
        | inr node ↦
            let beyond : length tables.states ≤ place = omega (arith, node) in
            let k = place - length tables.states in
            let there : k < length tables.nodes = omega (arith, node, within, few) in
            let facts = node_at (length tables.parameters) (length tables.states) tables.nodes is.nodes k there in
            let next = get_or tables.nodes k no_node in
            let side = get_or letter next.variable false in
            let below = side_below side next.high next.low (length tables.states + k) facts.high facts.low in
            let order = is.ordered k no_node there in
            let after = side_later side next.high next.low next.variable order.high order.low in
            subst (AreLooks tables first) (sym (one_on most place beyond)) (
              record { node = omega (arith, within, few); parameter = facts.variable; later = later beyond },
              looks_on most (next_place tables letter place) (next.variable + 1) (omega (arith, few)) (omega (arith, below, within, node))
                  (λ node. omega (arith, after node)),
            )
      ]

  few_looks : (first : ℕ) (places : List ℕ) → AreLooks tables first places → first ≤ length tables.parameters
      → length places + first ≤ length tables.parameters
  few_looks first [] looks few = omega (arith, few)
  few_looks first (place ∷ places) looks few =
      omega (arith, looks.0.later, few_looks (variable_at tables place + 1) places looks.1 (omega (arith, looks.0.parameter)))

pub steps_are_safe : RulesMakeStepsSafe
steps_are_safe tables is letter state within =
    let row = (get_or tables.states state no_state).row in
    let below = is.rows state no_state within in
    let looks = looks_on tables is letter (length tables.nodes) row 0 (omega arith) below (λ node. omega arith) in
    let few = few_looks tables is letter 0 (nodes_from tables letter state) looks (omega arith) in
    record { ends = walk_ends tables is letter (length tables.nodes) row (omega arith) below; looks = looks; short = omega (arith, few) }
