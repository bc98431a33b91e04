-- Keys tell the rows of states: a key is the row with the block of each state in its place, as a ref of one arena.
--     blocks_in keys                 the blocks that the keys are made by
--     IsKeys raw blocks keys         the keys are made of this automaton's rows by these blocks
--     IsKeyOf raw blocks scratch state key    the key has, at each letter, the block of the state to which it leads
--     IsKeyed raw blocks scratch keyed   a state of the automaton stands beside its key
--     states_in list                 the states of such a list
use Rattle.std.specs.Prelude.{◌≡◌, ℕ, Bool, List, length, map}
use Rattle.dcv_arena.specs.Arena.{ArenaValue, IsArena, IsRef, value_of}
use Rattle.dcv_arena.specs.declared.nodes.Ref.{Ref}
use Rattle.dcv_dfa.specs.Raw.{RawValue, IsRaw, next_in}
use Rattle.dcv_refinement.specs.Members.{block_of}
use Rattle.dcv_minimise.specs.Rounds.{IsState}
use Rattle.dcv_minimise.specs.declared.refine.keys.Keyed.{Keyed}
use Rattle.dcv_minimise.specs.declared.refine.keys.Keys.{Keys}

abbrev pub blocks_in : Keys → List ℕ
blocks_in keys = keys.renumbering.numbers

pub record IsKeys (raw : RawValue) (blocks : List ℕ) (keys : Keys) : Type 0 where
  pub is_raw : IsRaw raw
  pub each : length blocks ≡ length raw.rows
  pub from : keys.renumbering.from ≡ raw.arena
  pub by : blocks_in keys ≡ blocks
  pub slots : keys.renumbering.own.slots ≡ raw.arena.slots
  pub arena : IsArena keys.renumbering.own

pub record IsKeyOf (raw : RawValue) (blocks : List ℕ) (scratch : ArenaValue) (state : ℕ) (key : Ref) : Type 0 where
  pub is_ref : IsRef scratch key
  pub value : (letter : List Bool) → length letter ≡ raw.arena.slots → value_of scratch key letter ≡ block_of blocks (next_in raw state letter)

pub record IsKeyed (raw : RawValue) (blocks : List ℕ) (scratch : ArenaValue) (keyed : Keyed) : Type 0 where
  pub is_state : IsState raw keyed.state
  pub is_key : IsKeyOf raw blocks scratch keyed.state keyed.key

abbrev pub states_in : List Keyed → List ℕ
states_in list = map (λ keyed. keyed.state) list
