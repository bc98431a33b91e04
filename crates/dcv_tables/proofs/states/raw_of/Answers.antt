use Rattle.std.proofs.Common.{◌≡◌, ◌∙◌, sym, ap, List, ◌++◌, ◌∷◌, [], Bool, map, take, arith}
use Rattle.std.proofs.lemmas.List.{take_all}
use Rattle.std.proofs.lemmas.Grind.{common_steps}
use Rattle.dcv_dfa.specs.Raw.{raw_value}
use Rattle.dcv_dfa.specs.Auto.{table_of_states}
use Rattle.dcv_tables.specs.declared.states.State.{State}
use Rattle.dcv_tables.proofs.BelowFacts.{one_row_more}
use Rattle.dcv_tables.proofs.TableFacts.{one_table_more, one_element_more, states_are_written}
use Rattle.dcv_tables.proofs.states.raw_of.Goals as goal

pub loop-state-preserved : goal.loop-state-preserved
loop-state-preserved c =
    let before = c.loop-state.invariant in
    let states = c.args.states.now in
    let place = c.loop-state.state-index in
    let state = c.state-item.result in
    record {
      arena = c.function.ensures.arena;
      slots = c.function.ensures.kept.slots ∙ before.slots;
      rows = one_row_more c.loop-state.arena c.function.new.arena c.in-Ok.bound c.loop-state.rows.items c.push.new.self.items c.in_ok-row.row
          c.function.ensures.kept before.rows c.in_ok-row.ensures.below c.in_ok-push.ensures.items;
      count = grind (arith, common_steps);
      flag_count = grind (arith, common_steps);
      tables = one_table_more c.loop-state.arena c.function.new.arena c.in-Ok.bound c.loop-state.rows.items c.push.new.self.items c.in_ok-row.row _ state.row.items
          c.function.ensures.kept before.rows before.tables (c.in_ok-row.ensures.row ∙ c.deref.ensures.value) c.in_ok-push.ensures.items
          ∙ sym (one_element_more (λ (state : State). state.row.items) states place state c.loop-state-test.true c.state-item.is);
      flags = c.in_ok-push-2.ensures.items ∙ ap (λ (flags : List Bool). flags ++ state.accepts ∷ []) before.flags
          ∙ sym (one_element_more (λ (state : State). state.accepts) states place state c.loop-state-test.true c.state-item.is);
    }

pub returns-clause-states : goal.returns-clause-states
returns-clause-states c =
    let raw = raw_value c.loop-state.arena c.loop-state.rows.items c.loop-state.accepting.items c.args.start in
    let states = c.args.states.now in
    let all : take c.loop-state.state-index states ≡ states = take_all c.loop-state.state-index states c.loop-state-test.false in
    ap table_of_states c.new-2.ensures
    ∙ states_are_written raw states (c.loop-state.invariant.tables ∙ ap (map (λ (state : State). state.row.items)) all) (c.loop-state.invariant.flags ∙ ap (map (λ (state : State). state.accepts)) all)
