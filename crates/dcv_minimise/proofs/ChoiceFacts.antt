-- Witnesses that are chosen one after another.
use Rattle.std.proofs.Common.{◌≡◌, ℕ, ◌<◌, List, length, get_or, set, slice_get, Some, inl, inr, Contains, sym, ap, subst, ◌∙◌, arith, get_or-set_same, get_or-set_other}
use Rattle.std.proofs.lemmas.Bool.{cases_eq}
use Rattle.std.proofs.lemmas.Option.{slice_get_within, get_or_from_slice_get}
use Rattle.dcv_refinement.specs.Members.{block_of}
use Rattle.dcv_minimise.specs.Listing.{IsChosen}

pub found_among : (full : List ℕ) (block place : ℕ) → slice_get full place ≡ Some block → Contains full block
found_among full block place at = (place, slice_get_within full place block at, get_or_from_slice_get full place block block at)

pub chosen_one : (blocks full witness : List ℕ) (state : ℕ) → state < length blocks → block_of blocks state < length witness → Contains full (block_of blocks state)
    → IsChosen blocks full witness (set witness (block_of blocks state) state)
chosen_one blocks full witness state inside number there block within = elim (cases_eq block (block_of blocks state)) [
  | inl same ↦
      let here : get_or (set witness (block_of blocks state) state) block 0 ≡ state =
      ap (λ at. get_or (set witness (block_of blocks state) state) at 0) same ∙ get_or-set_same witness (block_of blocks state) state 0 number in
      inr (subst (Contains full) (sym same) there, (omega (arith, here, inside), ap (block_of blocks) here ∙ sym same))
  | inr other ↦ inl (get_or-set_other witness (block_of blocks state) block state 0 other)
]
