-- A walk through tables, node by node.
use Rattle.std.proofs.Common.{◌≡◌, ℕ, zero, suc, ◌+◌, ◌-◌, ◌<◌, ◌≤◌, Bool, true, false, cond, List, [], ◌∷◌, length, map, get_or, sym, ap, subst, ◌∙◌, refl, arith}
use Rattle.std.proofs.lemmas.List.{length-map, get_or-map}
use Rattle.dcv_language.specs.Limits.{most_variables}
use Rattle.dcv_c_tables.specs.Unit.{TableNode, Tables, no_node, no_state}
use Rattle.dcv_c_tables.specs.Meaning.{next_place, walked, state_by}
use Rattle.dcv_c_tables.specs.Rules.{IsPlacedNode, ArePlacedNodes}
use Rattle.dcv_tables_read.specs.declared.unit.TableNode.{TableNode as CodeNode}
use Rattle.dcv_tables_read.specs.declared.unit.TableState.{TableState as CodeState}
use Rattle.dcv_tables_read.specs.Seen.{seen_node, seen_state}
use Rattle.dcv_c_tables.proofs.Walks.{at_state, at_node}
use Rattle.dcv_replay.specs.Program.{CanWalk, IsNodePlace}

-- a node of the code is that of the tables
pub node_seen : (nodes : List CodeNode) (states : List CodeState) (place count : ℕ) (node : CodeNode) → count ≡ length states → node ≡ get_or nodes (place - count) node
    → place - length (map seen_state states) < length (map seen_node nodes)
    → node.variable ≡ (get_or (map seen_node nodes) (place - length (map seen_state states)) no_node).variable
node_seen nodes states place count node counted is there =
    let same : place - length (map seen_state states) ≡ place - count = omega (arith, counted, length-map states seen_state) in
    ap (λ (n : CodeNode). n.variable) is
    ∙ ap (λ (n : TableNode). n.variable) (sym (get_or-map seen_node nodes (place - count) node no_node (omega (arith, there, same, length-map nodes seen_node))))
    ∙ ap (λ (k : ℕ). (get_or (map seen_node nodes) k no_node).variable) (sym same)

-- the walk from this place arrives there
pub record IsOnWay (tables : Tables) (letter : List Bool) (end place : ℕ) : Type 0 where
  pub most : ℕ
  pub few : most ≤ length tables.nodes
  pub within : place < length tables.states + most
  pub arrives : walked tables letter most place ≡ end

node_at : (width bound : ℕ) (nodes : List TableNode) → ArePlacedNodes width bound nodes → (k : ℕ) → k < length nodes → IsPlacedNode width (bound + k) (get_or nodes k no_node)
node_at width bound [] placed k within = absurd (omega (arith, within))
node_at width bound (node ∷ nodes) placed zero within = subst (λ n. IsPlacedNode width n node) (let here : bound ≡ bound + 0 = omega arith in here) placed.0
node_at width bound (node ∷ nodes) placed (suc k) within =
    subst (λ n. IsPlacedNode width n (get_or nodes k no_node)) (let here : bound + 1 + k ≡ bound + suc k = omega arith in here)
    (node_at width (bound + 1) nodes placed.1 k (omega (arith, within)))

module _ {width : ℕ} {tables : Tables} (can : CanWalk width tables) (letter : List Bool) where
  pub at_start : (state : ℕ) → state < length tables.states → IsOnWay tables letter (state_by tables letter state) (get_or tables.states state no_state).row
  at_start state within = record { most = length tables.nodes; few = omega arith; within = can.rules.rows state no_state within; arrives = refl }

  placed_at : {end place : ℕ} → IsOnWay tables letter end place → length tables.states ≤ place
      → IsPlacedNode width place (get_or tables.nodes (place - length tables.states) no_node)
  placed_at {end} {place} way beyond =
      let there : place - length tables.states < length tables.nodes = omega (arith, way.few, way.within, beyond) in
      let own : length tables.states + (place - length tables.states) ≡ place = omega (arith, beyond) in
      let placed = node_at (length can.names) (length tables.states) tables.nodes can.rules.nodes (place - length tables.states) there in
      subst (λ n. IsPlacedNode n place (get_or tables.nodes (place - length tables.states) no_node)) can.count
      (subst (λ n. IsPlacedNode (length can.names) n (get_or tables.nodes (place - length tables.states) no_node)) own placed)

  pub node_there : {end place : ℕ} → IsOnWay tables letter end place → length tables.states ≤ place → IsNodePlace width tables place
  node_there {end} {place} way beyond = record {
    beyond = beyond;
    node = omega (arith, way.few, way.within, beyond);
    variable = (placed_at way beyond).variable;
    few = subst (λ n. n ≤ most_variables) can.count can.rules.few_parameters;
  }

  chosen_below : (side : Bool) (high low bound : ℕ) → high < bound → low < bound → cond side high low < bound
  chosen_below true high low bound first second = first
  chosen_below false high low bound first second = second

  pub next_below : {end place : ℕ} → IsOnWay tables letter end place → length tables.states ≤ place → next_place tables letter place < place
  next_below {end} {place} way beyond =
      let node = get_or tables.nodes (place - length tables.states) no_node in
      let placed = placed_at way beyond in
      chosen_below (get_or letter node.variable false) node.high node.low place placed.high placed.low

  further : (end place most : ℕ) → most ≤ length tables.nodes → place < length tables.states + most → walked tables letter most place ≡ end
      → length tables.states ≤ place → next_place tables letter place < place → IsOnWay tables letter end (next_place tables letter place)
  further end place zero few within arrives beyond below = absurd (omega (arith, within, beyond))
  further end place (suc most) few within arrives beyond below = record {
    most = most;
    few = omega (arith, few);
    within = omega (arith, within, below);
    arrives = sym (at_node tables letter most place beyond) ∙ arrives;
  }

  pub goes_on : {end place : ℕ} → IsOnWay tables letter end place → length tables.states ≤ place → IsOnWay tables letter end (next_place tables letter place)
  goes_on {end} {place} way beyond = further end place way.most way.few way.within way.arrives beyond (next_below way beyond)

  pub arrived : {end place : ℕ} → IsOnWay tables letter end place → place < length tables.states → place ≡ end
  arrived {end} {place} way state = sym (at_state tables letter way.most place state) ∙ way.arrives
