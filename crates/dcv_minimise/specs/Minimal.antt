-- The canonical automaton of what a raw one accepts.
--     IsMinimalOf raw auto     it accepts the same behaviours, and has no more states, and its rows no more nodes
use Rattle.std.specs.Prelude.{◌≡◌, ◌≤◌, List, length}
use Rattle.dcv_word.specs.Behaviour.{Word}
use Rattle.dcv_language.specs.Language.{HaveSameBehaviours}
use Rattle.dcv_language.specs.Canonical.{IsCanonical}
use Rattle.dcv_dfa.specs.Raw.{RawValue, raw_accepts}
use Rattle.dcv_dfa.specs.Auto.{count_of_nodes, table_of_states}

pub record IsMinimalOf (raw auto : RawValue) : Type 0 where
  pub slots : auto.arena.slots ≡ raw.arena.slots
  -- its table is the canonical one of what the raw automaton accepts
  pub access : List Word
  pub canonical : IsCanonical raw.arena.slots (raw_accepts raw) (table_of_states auto) access
  pub accepts : HaveSameBehaviours raw.arena.slots (raw_accepts auto) (raw_accepts raw)
  pub states : length auto.rows ≤ length raw.rows
  pub nodes : count_of_nodes auto ≤ count_of_nodes raw
