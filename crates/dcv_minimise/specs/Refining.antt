-- What is true between two rounds.
--     IsRefining raw blocks witness members moved    the blocks are refined but for what moved, and each has a list of its states
use Rattle.std.specs.Prelude.{ℕ, List}
use Rattle.std.specs.List.{All}
use Rattle.dcv_dfa.specs.Raw.{RawValue, IsRaw}
use Rattle.dcv_minimise.specs.Rounds.{IsState, IsRefined}
use Rattle.dcv_refinement.specs.Members.{HaveTheirOwn}

pub record IsRefining (raw : RawValue) (blocks witness : List ℕ) (members : ℕ → List ℕ) (moved : List ℕ) : Type 0 where
  pub is_raw : IsRaw raw
  pub refined : IsRefined raw blocks witness moved
  pub own : HaveTheirOwn blocks members
  pub states : All (IsState raw) moved
