-- How clauses see what a step does.
--     seen_walk walk        tables, without the names of parameters
--     seen_steps steps      selections, or such tables
use Rattle.std.specs.Prelude.{[], map}
use Rattle.dcv_c_tables.specs.Unit.{Tables}
use Rattle.dcv_tables_read.specs.Seen.{seen_node, seen_state}
use Rattle.dcv_replay.specs.declared.of_tables.Walk.{Walk}
use Rattle.dcv_replay.specs.declared.replay.Steps.{Steps as CodeSteps}
use Rattle.dcv_replay.specs.declared.replay.Steps.TheVariants.{Selects as CodeSelects, Walks as CodeWalks}
use Rattle.dcv_replay.specs.Program.{Steps, Selects, Walks}

abbrev pub seen_walk : Walk → Tables
seen_walk walk = record { parameters = []; nodes = map seen_node walk.nodes.items; states = map seen_state walk.states.items }

abbrev pub seen_steps : CodeSteps → Steps
seen_steps (CodeSelects inputs selects answer) = Selects inputs selects.items answer
seen_steps (CodeWalks walk) = Walks (seen_walk walk)
