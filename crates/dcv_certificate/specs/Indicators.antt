-- Functions that have 1 at the letters that lead into a part of the states.
--     part_of part state            whether a state is in the part
--     leads part ref letter         whether a letter leads to such a state
--     IsIndicator part scratch root mark   the mark has 1 where the root leads into the part, and depends on no slot before it
--     Became part scratch at        what places became are their indicators
--     HasFewNodes part scratch at   the scratch arena has no more nodes than there are places that became something
--     KeepsEarlier part root old new   places of nodes with a slot before the root's became nothing more
--     IsMarkedAbove part            all nodes that lead into the part are among those above it
--     AreIndicators part rows looked scratch marks   the marks of the looked-at states are the indicators of their rows, and there are no others
use Rattle.std.specs.Prelude.{◌≡◌, ℕ, ◌<◌, ◌≤◌, ◌&&◌, nat_eq, Bool, true, if◌then◌else◌, List, length, Option, Some, is_some}
use Rattle.indexmap.specs.IndexSet.{contains}
use Rattle.dcv_refinement.specs.SparseSet.{has as is_among}
use Rattle.dcv_arena.specs.Arena.{ArenaValue, IsRef, level_of, value_of}
use Rattle.dcv_arena.specs.declared.nodes.Ref.{Ref}
use Rattle.dcv_arena.specs.declared.nodes.Ref.TheVariants.{Place}
use Rattle.dcv_refinement.specs.Leads.{row_at}
use Rattle.dcv_certificate.specs.declared.indicators.Part.{Part}
use Rattle.dcv_certificate.specs.Separation.{has, count_below}
use Rattle.dcv_certificate.specs.Marks.{marked}

abbrev pub part_of : Part → ℕ → Bool
part_of part state = contains nat_eq part.states state

abbrev pub leads : Part → Ref → List Bool → Bool
leads part ref letter = part_of part (value_of part.arena.now ref letter)

pub record IsIndicator (part : Part) (scratch : ArenaValue) (root mark : Ref) : Type 0 where
  pub is_ref : IsRef scratch mark
  pub level : level_of part.arena.now root ≤ level_of scratch mark
  pub value : (letter : List Bool) → value_of scratch mark letter ≡ (if leads part root letter then 1 else 0)

abbrev pub Became : Part → ArenaValue → (ℕ → Option Ref) → Type 0
Became part scratch at = (place : ℕ) (mark : Ref) → at place ≡ Some mark → IsIndicator part scratch (Place place) mark

abbrev pub HasFewNodes : Part → ArenaValue → (ℕ → Option Ref) → Type 0
HasFewNodes part scratch at = length scratch.nodes ≤ count_below (length part.arena.now.nodes) (λ place. is_some (at place))

abbrev pub KeepsEarlier : Part → Ref → (ℕ → Option Ref) → (ℕ → Option Ref) → Type 0
KeepsEarlier part root old new = (place : ℕ) → level_of part.arena.now (Place place) < level_of part.arena.now root → new place ≡ old place

abbrev pub IsMarkedAbove : Part → Type 0
IsMarkedAbove part = (place : ℕ) (letter : List Bool) → IsRef part.arena.now (Place place) → leads part (Place place) letter ≡ true
    → is_among part.above.now place ≡ true

abbrev pub AreIndicators : Part → List Ref → List ℕ → ArenaValue → List (ℕ × Ref) → Type 0
AreIndicators part rows looked scratch marks = (state : ℕ) (letter : List Bool)
    → marked scratch marks letter state ≡ (has looked state && leads part (row_at rows state) letter)
