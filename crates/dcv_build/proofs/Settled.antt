-- What is explored within the limits has a canonical automaton, which is that of the machine. So it is for a verdict too, where no more is explored than it needs.
use Rattle.std.proofs.Common.{◌≡◌, ◌⊎◌, inl, inr, ℕ, ◌+◌, ◌-◌, ◌^◌, ◌<◌, ◌≤◌, length, Result, Ok, Err, refl, sym, subst, ◌∙◌, arith}
use Rattle.dcv_arena.proofs.Counts.{count_exact}
use Rattle.dcv_language.specs.Automaton.{WorkingMachine, accepts}
use Rattle.dcv_language.specs.Canonical.{IsCanonical}
use Rattle.dcv_language.proofs.Canonicals.{canonical_for_same_behaviours}
use Rattle.dcv_dfa.specs.Raw.{RawValue, IsRaw, raw_accepts}
use Rattle.dcv_dfa.specs.Auto.{table_of_states}
use Rattle.dcv_explore.specs.declared.explorer.Limits.{Limits}
use Rattle.dcv_explore.specs.Verdict.{HaveSameVerdict, SameThroughout, HasVerdictOf, ExploresToVerdict}
use Rattle.dcv_explore.specs.declared.faults.ExploreFault.{ExploreFault}
use Rattle.dcv_explore.specs.declared.faults.ExploreFault.TheVariants.{States as TooMany, Nodes as TooLarge, Memory as NoMemory}
use Rattle.dcv_explore.specs.Budget.{Kind, TooManyStates, TooManyNodes, Row, IsWithin, Exceeds}
use Rattle.dcv_explore.specs.Explored.{TellsMoreStates, TellsMoreNodes, Explores}
use Rattle.dcv_explore.specs.Reached.{MoreStates, MoreNodes}
use Rattle.dcv_explore.proofs.Budgets.{more_with_parts, more_by_parts}
use Rattle.dcv_shelf.specs.Shelf.{table_of_auto}
use Rattle.dcv_build.specs.declared.faults.BuildFault.{BuildFault}
use Rattle.dcv_build.specs.declared.faults.BuildFault.TheVariants.{Nodes}
use Rattle.dcv_quotient.proofs.RowLimits.{within_or_exceeds, table_of_row}
use Rattle.dcv_quotient.proofs.SomeAutomata.{some_automaton}
use Rattle.dcv_quotient.proofs.TableBounds.{within_of_row}
use Rattle.dcv_quotient.proofs.WordOrder.{word_laws}
use Rattle.dcv_build.specs.Bounds.{CannotExceed}
use Rattle.dcv_build.specs.Rows.{pair_row}
use Rattle.dcv_build.specs.Settled.{IsLeastOf, IsBuilt, IsExploredWithin, HasExplored, IsServing, IsDeciding, IsPassed, Settles, Serves, Decides}
use Rattle.dcv_build.specs.Settled.{ExploresUpTo, SettlesUpTo, fault_at}
use Rattle.dcv_build.specs.declared.settling.Explored.{Explored}
use Rattle.dcv_build.specs.declared.settling.Extent.{Extent}
use Rattle.dcv_build.specs.declared.settling.Extent.TheVariants.{Whole, Verdict}
use Rattle.dcv_build.proofs.SameVerdicts.{same_verdict_after}

pub least_is_built : {S : Type 0} (machine : WorkingMachine S) (parts : ℕ) (limits : Limits) (found auto : RawValue)
    → IsExploredWithin machine parts limits found → IsLeastOf found auto
    → IsBuilt machine parts limits (table_of_auto auto) (length found.rows) (parts + length found.arena.nodes)
least_is_built machine parts limits found auto is least =
    let few = is.few in
    let minimal = least.minimal in
    let own = count_exact found.arena is.raw.arena.reduced found.rows is.raw.rows is.explored.nodes in
    let canonical = subst (λ k. IsCanonical k (raw_accepts found) (table_of_states auto) minimal.access) is.explored.slots minimal.canonical in
    record {
      counts = record { of_rows = length found.arena.nodes; counts = is.counts; nodes_are = refl };
      states_within = is.states;
      nodes_within = omega (arith, few, is.nodes);
      slots = minimal.slots ∙ is.explored.slots;
      access = minimal.access;
      canonical = canonical_for_same_behaviours machine.slots (raw_accepts found) (accepts machine.automaton) (table_of_states auto) minimal.access is.alike canonical;
      own = record {
        auto = auto;
        raw = least.raw_is;
        auto_is = least.auto_is;
        table = refl;
        states = omega (arith, minimal.states, is.states);
        nodes = omega (arith, minimal.nodes, own, is.nodes);
      };
    }

-- the same beside its counts
pub made_is_built : {S : Type 0} (machine : WorkingMachine S) (parts : ℕ) (limits : Limits) (explored : Explored) (auto : RawValue) (states nodes : ℕ) → HasExplored machine parts limits explored
    → IsLeastOf explored.raw auto → states ≡ explored.states → nodes ≡ explored.nodes → IsBuilt machine parts limits (table_of_auto auto) states nodes
made_is_built machine parts limits explored auto states nodes has least states_are nodes_are =
    subst (λ n. IsBuilt machine parts limits (table_of_auto auto) n nodes) (sym (states_are ∙ has.states_are))
    (subst (λ n. IsBuilt machine parts limits (table_of_auto auto) (length explored.raw.rows) n) (sym (nodes_are ∙ has.nodes_are))
    (least_is_built machine parts limits explored.raw auto has.within least))

-- ---- for a verdict

-- of what the row accepts there is a canonical automaton, on no shelf
some_deciding : (row : Row) (limits : Limits) (explored : Explored) → (within : IsWithin row limits) → within.states < 2 ^ 32 → within.nodes < 2 ^ 32
    → IsRaw explored.raw → HasVerdictOf row.machine explored.raw → length explored.raw.rows ≤ limits.states → length explored.raw.arena.nodes ≤ limits.nodes
    → IsDeciding row.machine row.parts limits explored
some_deciding row limits explored within few_states few_nodes raw of states_within nodes_within =
    let machine = row.machine in
    let alone : Row = record { State = row.State; machine = machine; number = row.number; apart = row.apart; parts = 0 } in
    let exact : Limits = record { states = within.states; nodes = within.nodes } in
    let fits : IsWithin alone exact = record {
      states = within.states;
      nodes = within.nodes;
      counts = within.counts;
      states_within = omega arith;
      nodes_within = omega arith;
    } in
    let (table, (access, canonical)) = table_of_row word_laws alone exact fits in
    let few = within_of_row alone exact fits table access canonical in
    let no_more_states = few.states in
    let no_more_nodes = few.nodes in
    let narrow = raw.arena.slots in
    let slots = of.slots in
    let (auto, made) = some_automaton machine.slots (accepts machine.automaton) table access (omega (arith, narrow, slots)) canonical (omega (arith, no_more_states, few_states)) (omega (arith, no_more_nodes, few_nodes)) in
    let same : HaveSameVerdict machine.slots (raw_accepts explored.raw) (raw_accepts auto) =
    same_verdict_after machine.slots (raw_accepts explored.raw) (accepts machine.automaton) (raw_accepts auto) of.verdict (λ word b. sym (made.exact word b)) in
    let count = made.count in
    let nodes = made.nodes in
    let states_fit = within.states_within in
    let nodes_fit = within.nodes_within in
    record {
      auto = auto;
      raw_is = made.is;
      auto_is = made.auto;
      row_states = within.states;
      row_nodes = row.parts + within.nodes;
      built = record {
        counts = record { of_rows = within.nodes; counts = within.counts; nodes_are = refl };
        states_within = states_fit;
        nodes_within = nodes_fit;
        slots = made.same_slots;
        access = made.auto.access;
        canonical = canonical_for_same_behaviours machine.slots (raw_accepts auto) (accepts machine.automaton) (table_of_states auto) made.auto.access made.exact
            (subst (λ k. IsCanonical k (raw_accepts auto) (table_of_states auto) made.auto.access) made.same_slots made.auto.canonical);
        own = record {
          auto = auto;
          raw = made.is;
          auto_is = made.auto;
          table = refl;
          states = omega (arith, count, no_more_states, states_fit);
          nodes = omega (arith, nodes, no_more_nodes, nodes_fit);
        };
      };
      slots = slots ∙ sym made.same_slots;
      verdict = subst (λ k. HaveSameVerdict k (raw_accepts explored.raw) (raw_accepts auto)) (sym made.same_slots) same;
      states = states_within;
      nodes = nodes_within;
    }

-- so what is explored serves
explored_serves : (row : Row) (limits : Limits) (explored : Explored) → HasExplored row.machine row.parts limits explored → IsServing row.machine row.parts limits explored
explored_serves row limits explored has =
    let is = has.within in
    let few = is.few in
    let nodes = is.nodes in
    let bound = is.raw.states in
    let room = is.raw.arena.limit in
    let held = is.raw.arena.within in
    let within : IsWithin row limits = record {
      states = length explored.raw.rows;
      nodes = length explored.raw.arena.nodes;
      counts = is.counts;
      states_within = is.states;
      nodes_within = omega (arith, few, nodes);
    } in
    record {
      decides = some_deciding row limits explored within bound (omega (arith, room, held)) is.raw (record { slots = is.explored.slots; verdict = SameThroughout is.alike }) is.states (omega (arith, nodes));
      each = λ auto least. made_is_built row.machine row.parts limits explored auto explored.states explored.nodes has least refl refl;
    }

pub settled_serves : (row : Row) (limits : Limits) (step : ℕ) (result : Result Explored BuildFault) → Settles row.machine row.parts limits step result → Serves row.machine row.parts limits step result
settled_serves row limits step (Ok explored) settles = record { built = explored_serves row limits explored settles.built; over = tt }
settled_serves row limits step (Err fault) settles = record { built = tt; over = settles.over }

pub serves_decides : {S : Type 0} (machine : WorkingMachine S) (parts : ℕ) (limits : Limits) (step : ℕ) (result : Result Explored BuildFault)
    → Serves machine parts limits step result → Decides machine parts limits step result
serves_decides machine parts limits step (Ok explored) serves = record { built = serves.built.decides; over = tt }
serves_decides machine parts limits step (Err fault) serves = record { built = tt; over = serves.over }

-- and what is explored for the verdict of a row that is within the limits
pub settled_decides : (row : Row) (limits : Limits) (step : ℕ) (result : Result Explored BuildFault) → IsWithin row limits
    → SettlesUpTo Verdict row.machine row.parts limits step result → Decides row.machine row.parts limits step result
settled_decides row limits step (Ok explored) within settles =
    let is = settles.built in
    let states = within.states_within in
    let nodes = within.nodes_within in
    let most_states = is.most_states in
    let most_nodes = is.most_nodes in
    record {
      built = some_deciding row limits explored within (omega (arith, states, most_states)) (omega (arith, nodes, most_nodes)) is.raw is.of_machine is.states is.nodes;
      over = tt;
    }
settled_decides row limits step (Err fault) within settles = record { built = tt; over = settles.over }

-- a product that cannot exceed the limits is within them
pub product_within : (machine : WorkingMachine (ℕ × ℕ)) (limits : Limits) → CannotExceed machine limits → IsWithin (pair_row machine) limits
product_within machine limits cannot = by (within_or_exceeds (pair_row machine) limits)
  where
    by : IsWithin (pair_row machine) limits ⊎ ((kind : Kind) × Exceeds kind (pair_row machine) limits) → IsWithin (pair_row machine) limits
    by (inl within) = within
    by (inr (TooManyStates, more)) = absurd (cannot.0 more)
    by (inr (TooManyNodes, more)) = absurd (cannot.1 more)

-- ---- what the call answers

module _ {S : Type 0} (machine : WorkingMachine S) (parts : ℕ) (limits : Limits) (step : ℕ) where
  -- parts that are too many by themselves
  pub settled_parts : limits.nodes < parts → Settles machine parts limits step (Err (Nodes step limits.nodes))
  settled_parts many = record { built = tt; over = (refl, refl, more_by_parts machine parts limits many) }

  -- the parts leave so much room to the explorer
  module _ (room : Limits) (states_left : room.states ≡ limits.states) (nodes_left : room.nodes ≡ limits.nodes - parts) where
    fault_passes : (explored : Result RawValue ExploreFault) → TellsMoreStates machine room.states explored → TellsMoreNodes machine room.nodes explored
        → (fault : ExploreFault) → explored ≡ Err fault → IsPassed machine parts limits step (fault_at step limits fault)
    fault_passes explored of_states of_nodes (TooMany limit) is =
        let named = of_states limit is in
        (refl, refl, subst (MoreStates machine) (named.0 ∙ states_left) named.1)
    fault_passes explored of_states of_nodes (TooLarge limit) is =
        let named = of_nodes limit is in
        (refl, refl, more_with_parts machine parts limits (subst (MoreNodes machine) (named.0 ∙ nodes_left) named.1))
    fault_passes explored of_states of_nodes NoMemory is = tt

    pub settled_fault : (extent : Extent) (explored : Result RawValue ExploreFault) → ExploresUpTo extent machine room explored → (fault : ExploreFault) → explored ≡ Err fault
        → SettlesUpTo extent machine parts limits step (Err (fault_at step limits fault))
    settled_fault Whole explored of fault is = record { built = tt; over = fault_passes explored of.states of.nodes fault is }
    settled_fault Verdict explored of fault is = record { built = tt; over = fault_passes explored of.states of.nodes fault is }

    pub settled_ok : (extent : Extent) (explored : Explored) (result : Result RawValue ExploreFault) → ExploresUpTo extent machine room result → result ≡ Ok explored.raw
        → IsRaw explored.raw → parts ≤ limits.nodes → limits.states < 2 ^ 32 → limits.nodes < 2 ^ 32
        → explored.states ≡ length explored.raw.rows → explored.nodes ≡ parts + length explored.raw.arena.nodes → SettlesUpTo extent machine parts limits step (Ok explored)
    settled_ok Whole explored result of is raw few most_states most_nodes states_are nodes_are =
        let found = subst (Explores machine room) is of in
        let states_within = found.states_within in
        let nodes_within = found.nodes_within in
        record {
          built = record {
            within = record {
              few = few;
              raw = raw;
              explored = found.explored;
              alike = found.accepts;
              counts = found.counts;
              states = omega (arith, states_within, states_left);
              nodes = omega (arith, nodes_within, nodes_left);
            };
            states_are = states_are;
            nodes_are = nodes_are;
          };
          over = tt;
        }
    settled_ok Verdict explored result of is raw few most_states most_nodes states_are nodes_are =
        let found = subst (ExploresToVerdict machine room) is of in
        let states_within = found.states_within in
        let nodes_within = found.nodes_within in
        record {
          built = record {
            raw = raw;
            of_machine = found.decides;
            states = omega (arith, states_within, states_left);
            nodes = omega (arith, nodes_within, nodes_left);
            most_states = most_states;
            most_nodes = most_nodes;
          };
          over = tt;
        }

-- the same of an equal machine, with as many parts
pub settled_same : {S : Type 0} (machine other : WorkingMachine S) (parts more : ℕ) (limits : Limits) (step : ℕ) (result : Result Explored BuildFault)
    → machine ≡ other → parts ≡ more → Settles machine parts limits step result → Settles other more limits step result
settled_same {S = S} machine other parts more limits step result same alike settles =
    subst (λ (m : WorkingMachine S). Settles m more limits step result) same (subst (λ p. Settles machine p limits step result) alike settles)
