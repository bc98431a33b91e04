-- The derived `==` tells whether two refs are the same, and two nodes; so looking for a node finds it.
use Rattle.std.proofs.Common.{◌≡◌, ◌≢◌, ℕ, false, List, position, Some, slice_get, get_or, nat_eq, refl, sym, ap, ◌∙◌, eqb-true, eq-eqb}
use Rattle.std.proofs.lemmas.Bool.{false≢true}
use Rattle.std.specs.Bool.{Decides, beq}
use Rattle.std.specs.Cmp.{unsigned_Decides, booleans_Decides}
use Rattle.std.specs.List.{list_any}
use Rattle.std.proofs.lemmas.Bool.Decides.{Decides-and}
use Rattle.std.proofs.lemmas.List.Quantifiers.{position-Some}
use Rattle.std.proofs.lemmas.Map.Keys.{any_passes_from_place}
use Rattle.std.proofs.lemmas.Option.{slice_get-get_or}
use Rattle.dcv_arena.specs.declared.nodes.Ref.{Ref}
use Rattle.dcv_arena.specs.declared.nodes.Ref.TheVariants.{Leaf, Place}
use Rattle.dcv_arena.specs.declared.nodes.Node.{Node}
use Rattle.dcv_arena.specs.Stored.{ref_of, number_of, is_leaf}
use Rattle.dcv_arena.specs.contracts.nodes.RefPartialEq.TheImpl.{eq-value as ref_eq}
use Rattle.dcv_arena.specs.contracts.stored.StoredNodePartialEq.TheImpl.{eq-value as node_eq}

pub same_refs : (a b : Ref) → Decides (ref_eq.it a b) (a ≡ b)
same_refs (Leaf a) (Leaf b) = (λ t. ap Leaf (eqb-true a b t), λ e. eq-eqb a b cc)
same_refs (Leaf a) (Place b) = (λ t. absurd (false≢true t), λ e. cc)
same_refs (Place a) (Leaf b) = (λ t. absurd (false≢true t), λ e. cc)
same_refs (Place a) (Place b) = (λ t. ap Place (eqb-true a b t), λ e. eq-eqb a b cc)

ref_of-parts : (a : Ref) → ref_of (is_leaf a) (number_of a) ≡ a
ref_of-parts (Leaf number) = refl
ref_of-parts (Place place) = refl

same_by_parts : (a b : Ref) → is_leaf a ≡ is_leaf b → number_of a ≡ number_of b → a ≡ b
same_by_parts a b leaf number = sym (ref_of-parts a) ∙ (λ i. ref_of (leaf i) (number i)) ∙ ref_of-parts b

-- two nodes are told apart by the parts of their children
pub same_nodes : (a b : Node) → Decides (node_eq.it a b) (a ≡ b)
same_nodes a b =
    let leaves = Decides-and (beq (is_leaf a.lo) (is_leaf b.lo)) (beq (is_leaf a.hi) (is_leaf b.hi))
    (booleans_Decides (is_leaf a.lo) (is_leaf b.lo)) (booleans_Decides (is_leaf a.hi) (is_leaf b.hi)) in
    let slots = Decides-and (nat_eq a.slot b.slot) _ (unsigned_Decides a.slot b.slot) leaves in
    let highs = Decides-and (nat_eq (number_of a.hi) (number_of b.hi)) _ (unsigned_Decides (number_of a.hi) (number_of b.hi)) slots in
    let parts = Decides-and (nat_eq (number_of a.lo) (number_of b.lo)) _ (unsigned_Decides (number_of a.lo) (number_of b.lo)) highs in (
      λ t.
          let (lo, (hi, (slot, (lo_leaf, hi_leaf)))) = parts.0 t in
          let low = same_by_parts a.lo b.lo lo_leaf lo in
          let high = same_by_parts a.hi b.hi hi_leaf hi in
          λ i. record { slot = slot i; lo = low i; hi = high i },
      λ e. parts.1 (
        ap (λ node. number_of node.lo) e,
        (ap (λ node. number_of node.hi) e, (ap (λ node. node.slot) e, (ap (λ node. is_leaf node.lo) e, ap (λ node. is_leaf node.hi) e))),
      ),
    )

pub found_there : (nodes : List Node) (node : Node) (place : ℕ) → position (node_eq.it node) nodes ≡ Some place → slice_get nodes place ≡ Some node
found_there nodes node place e =
    let at = position-Some (node_eq.it node) nodes place node e in
    slice_get-get_or nodes place node at.0 ∙ ap Some (sym ((same_nodes node (get_or nodes place node)).0 at.1))

pub absent_there : (nodes : List Node) (node : Node) → list_any (node_eq.it node) nodes ≡ false → (place : ℕ) → slice_get nodes place ≢ Some node
absent_there nodes node none place e =
    false≢true (sym none ∙ any_passes_from_place (node_eq.it node) nodes place node e ((same_nodes node node).1 refl))
