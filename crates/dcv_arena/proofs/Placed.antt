-- What inserting a node leaves: the arena as it was, or with the node at its end.
use Rattle.std.proofs.Common.{◌≡◌, ℕ, ◌<◌, Bool, true, false, cond, List, [], ◌∷◌, ◌++◌, length, Some, slice_get, Result, Ok, Err, inl, inr, refl, sym, ap, subst, ◌∙◌, arith}
use Rattle.std.specs.Result.{IsErrAnd}
use Rattle.std.specs.List.{list_any}
use Rattle.indexmap.specs.IndexSet.{insert_key}
use Rattle.dcv_arena.specs.Arena.{ArenaValue, IsArena, IsNodeAt, KeepsRefs, AddsOnlyNodesOf}
use Rattle.dcv_arena.specs.Placing.{IsAbsent, IsPlaced}
use Rattle.dcv_arena.specs.declared.faults.ArenaFault.{ArenaFault}
use Rattle.dcv_arena.specs.declared.faults.ArenaFault.TheVariants.{Memory}
use Rattle.dcv_arena.specs.declared.nodes.Ref.TheVariants.{Place}
use Rattle.dcv_arena.specs.declared.nodes.Node.{Node}
use Rattle.dcv_arena.specs.contracts.stored.StoredNodePartialEq.TheImpl.{eq-value as node_eq}
use Rattle.dcv_arena.proofs.Same.{same_nodes, absent_there}
use Rattle.dcv_arena.proofs.Growth.{grown, length-grown, is_reduced_grown, keeps_grown, keeps_all, adds_grown, slice_get-push_last, stands}

abbrev with_nodes : ArenaValue → List Node → ArenaValue
with_nodes arena nodes = record arena { nodes = nodes }

-- the arena whose nodes are these, at the place where the inserted node is stored
pub placed_by_insert : (old : ArenaValue) (node : Node) (nodes : List Node) (place : ℕ) → nodes ≡ insert_key node_eq.it old.nodes node
    → (stored : Node) × (slice_get nodes place ≡ Some stored) × (node_eq.it node stored ≡ true) → length old.nodes < old.limit
    → IsPlaced old node (with_nodes old nodes) (Ok place)
placed_by_insert old node nodes place inserted stored room = by (list_any (node_eq.it node) old.nodes) refl inserted
  where
    there : slice_get nodes place ≡ Some node
    there = stored.1 ∙ ap Some (sym ((same_nodes node stored.0).0 stored.2))

    by : (found : Bool) → list_any (node_eq.it node) old.nodes ≡ found → nodes ≡ cond found old.nodes (old.nodes ++ node ∷ []) → IsPlaced old node (with_nodes old nodes) (Ok place)
    by true e same = inl (sym (ap (λ all. slice_get all place) same) ∙ there, ap (with_nodes old) same)
    by false e more =
        let absent = absent_there old.nodes node e in
        let at : slice_get (old.nodes ++ node ∷ []) place ≡ Some node = sym (ap (λ all. slice_get all place) more) ∙ there in
        let last : place ≡ length old.nodes = elim (stands old node place node at) [
          | inl before ↦ absurd (absent place before)
          | inr last ↦ last.0
        ] in
        inr (absent, room, last, ap (with_nodes old) more)

-- the arena as it was, where memory ran out
pub placed_by_fault : (old new : ArenaValue) (node : Node) (result : Result ℕ ArenaFault) → IsErrAnd result (λ fault. fault ≡ Memory)
    → IsAbsent old node → length old.nodes < old.limit → new ≡ old → IsPlaced old node new result
placed_by_fault old new node (Ok place) memory absent room same = absurd memory
placed_by_fault old new node (Err fault) memory absent room same =
    subst (λ one. IsPlaced old node new (Err one)) (sym memory) (absent, room, same)

module _ (old new : ArenaValue) (node : Node) (place : ℕ) (is : IsArena old) (right : IsNodeAt old (length old.nodes) node) (placed : IsPlaced old node new (Ok place)) where
  pub is_arena_placed : IsArena new
  is_arena_placed = elim placed [
    | inl there ↦ subst IsArena (sym there.1) is
    | inr added ↦ subst IsArena (sym added.3) (record {
      slots = is.slots;
      limit = is.limit;
      within = omega (arith, length-grown old node, added.1);
      reduced = is_reduced_grown old node is.reduced right added.0;
    })
  ]

  pub there_placed : slice_get new.nodes place ≡ Some node
  there_placed = elim placed [
    | inl there ↦ subst (λ (arena : ArenaValue). slice_get arena.nodes place ≡ Some node) (sym there.1) there.0
    | inr added ↦ subst (λ (arena : ArenaValue). slice_get arena.nodes place ≡ Some node) (sym added.3) (slice_get-push_last old.nodes node place added.2)
  ]

  pub kept_placed : KeepsRefs old new
  kept_placed = elim placed [
    | inl there ↦ subst (KeepsRefs old) (sym there.1) (keeps_all old)
    | inr added ↦ subst (KeepsRefs old) (sym added.3) (keeps_grown old node)
  ]

  pub adds_placed : AddsOnlyNodesOf old new (Place place)
  adds_placed = elim placed [
    | inl there ↦ subst (λ arena. AddsOnlyNodesOf old arena (Place place)) (sym there.1) (λ found c. inl c)
    | inr added ↦
        subst (λ arena. AddsOnlyNodesOf old arena (Place place)) (sym added.3)
        (subst (λ at. AddsOnlyNodesOf old (grown old node) (Place at)) (sym added.2) (adds_grown old node is.reduced right added.0))
  ]
