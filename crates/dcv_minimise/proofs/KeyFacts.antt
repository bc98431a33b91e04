-- Keys are equal exactly where rows are, and keep what they mean while their arena grows.
use Rattle.std.proofs.Common.{◌≡◌, ℕ, ◌<◌, List, length, get_or, sym, ◌∙◌}
use Rattle.std.specs.List.{All}
use Rattle.std.proofs.lemmas.List.{get_or-map}
use Rattle.std.proofs.lemmas.List.Elements.{All-map, All-weaker}
use Rattle.dcv_arena.specs.Arena.{ArenaValue, IsArena, KeepsRefs}
use Rattle.dcv_arena.specs.declared.nodes.Ref.{Ref}
use Rattle.dcv_arena.proofs.Refs.{same_ref}
use Rattle.dcv_dfa.specs.Raw.{RawValue}
use Rattle.dcv_minimise.specs.Rounds.{IsState, HaveOneRow}
use Rattle.dcv_minimise.specs.Keys.{IsKeyOf, IsKeyed, states_in}
use Rattle.dcv_minimise.specs.declared.refine.keys.Keyed.{Keyed}

module _ (raw : RawValue) (blocks : List ℕ) (scratch : ArenaValue) where
  pub same_row : (first second : ℕ) (key : Ref) → IsKeyOf raw blocks scratch first key → IsKeyOf raw blocks scratch second key → HaveOneRow raw blocks first second
  same_row first second key one other = record { leads = λ letter size. sym (one.value letter size) ∙ other.value letter size }

  pub one_key : IsArena scratch → scratch.slots ≡ raw.arena.slots → (first second : ℕ) (key other_key : Ref) → IsKeyOf raw blocks scratch first key → IsKeyOf raw blocks scratch second other_key
      → HaveOneRow raw blocks first second → key ≡ other_key
  one_key is slots first second key other_key one other row =
      same_ref scratch is.reduced key other_key one.is_ref other.is_ref
      (λ letter size. one.value letter (size ∙ slots) ∙ row.leads letter (size ∙ slots) ∙ sym (other.value letter (size ∙ slots)))

  pub key_kept : (new : ArenaValue) (state : ℕ) (key : Ref) → KeepsRefs scratch new → IsKeyOf raw blocks scratch state key → IsKeyOf raw blocks new state key
  key_kept new state key kept was = record {
    is_ref = kept.refs key was.is_ref;
    value = λ letter size. kept.values key letter was.is_ref ∙ was.value letter size;
  }

-- ---- states beside their keys

pub all_states : (raw : RawValue) (blocks : List ℕ) (scratch : ArenaValue) (listed : List Keyed) → All (IsKeyed raw blocks scratch) listed → All (IsState raw) (states_in listed)
all_states raw blocks scratch listed all = All-map (IsState raw) (λ (keyed : Keyed). keyed.state) listed (All-weaker (IsKeyed raw blocks scratch) (λ keyed. IsState raw keyed.state) (λ keyed is. is.is_state) listed all)

pub this_state : (listed : List Keyed) (place : ℕ) (default : Keyed) → place < length listed → (get_or listed place default).state ≡ get_or (states_in listed) place 0
this_state listed place default within = sym (get_or-map (λ (keyed : Keyed). keyed.state) listed place default 0 within)
