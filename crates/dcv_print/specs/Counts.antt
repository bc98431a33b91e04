-- What the steps of a requirement took, as a text of version 2 may say it.
--     IsPrintableCount count      it may be printed of a step
--     ArePrintableCounts counts   these may be printed, one for each step in order
use Rattle.std.specs.Prelude.{◌≤◌, List, length}
use Rattle.std.specs.List.{All}
use Rattle.dcv_language.specs.declared.count.Count.{Count}
use Rattle.dcv_language.specs.Limits.{most_states, most_nodes}
use Rattle.dcv_automaton_text.specs.Rules.{most_steps, most_start}

pub record IsPrintableCount (count : Count) : Type 0 where
  -- the step stands in a source of the greatest size
  pub at : count.at ≤ most_start
  -- it has a start
  pub some_states : 1 ≤ count.states
  pub few_states : count.states ≤ most_states
  pub few_nodes : count.nodes ≤ most_nodes

pub record ArePrintableCounts (counts : List Count) : Type 0 where
  pub few : length counts ≤ most_steps
  pub each : All IsPrintableCount counts
