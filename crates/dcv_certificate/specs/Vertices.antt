-- The states that are told apart: those of the automaton, and where its start stands alone, the start once more, accepting.
--     with_start alone raw       the states, and maybe the start once more
--     raw_of vertices            what a `Vertices` holds
--     AreVerticesOf raw new      these are the states of a canonical automaton, as its start stands
--     HasFlagged flags flag states    of the states that there are, the list has those with this flag
use Rattle.std.specs.Prelude.{◌≡◌, ℕ, ◌<◌, Bool, true, false, List, [], ◌∷◌, ◌++◌, length, slice_index_or}
use Rattle.std.specs.Bool.{beq}
use Rattle.dcv_arena.specs.declared.nodes.Ref.{Ref}
use Rattle.dcv_dfa.specs.Raw.{RawValue, IsRaw, raw_value, row_of}
use Rattle.dcv_dfa.specs.Auto.{IsAutoWith}
use Rattle.dcv_certificate.specs.declared.vertices.Vertices.{Vertices}
use Rattle.dcv_certificate.specs.Separation.{has}

abbrev pub rows_with : Bool → RawValue → List Ref
rows_with false raw = raw.rows
rows_with true raw = raw.rows ++ row_of raw 0 ∷ []

abbrev pub flags_with : Bool → RawValue → List Bool
flags_with false raw = raw.accepting
flags_with true raw = raw.accepting ++ true ∷ []

abbrev pub with_start : Bool → RawValue → RawValue
with_start alone raw = raw_value raw.arena (rows_with alone raw) (flags_with alone raw) 0

abbrev pub raw_of : Vertices → RawValue
raw_of vertices = raw_value vertices.arena.now vertices.rows.items vertices.flags.items 0

pub record AreVerticesOf (raw new : RawValue) : Type 0 where
  pub alone : Bool
  pub auto : IsAutoWith raw alone
  pub is_raw : IsRaw raw
  pub vertices : new ≡ with_start alone raw

abbrev pub HasFlagged : List Bool → Bool → List ℕ → Type 0
HasFlagged flags flag states = (state : ℕ) → state < length flags → has states state ≡ beq (slice_index_or flags state false) flag
