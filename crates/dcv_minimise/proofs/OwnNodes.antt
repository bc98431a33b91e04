-- Marks of nodes: those that are put to the children of a marked node are of the same roots, and where all nodes have one the arena has no others.
use Rattle.std.proofs.Common.{◌≡◌, ◌⊎◌, inl, inr, ℕ, zero, suc, ◌<◌, Bool, true, false, List, length, get_or, set, replicate, sym, ap, subst, ◌∙◌}
use Rattle.std.specs.Prelude.{Contains}
use Rattle.std.proofs.lemmas.Bool.{cases_eq, false≢true}
use Rattle.std.proofs.lemmas.List.{get_or-set_other}
use Rattle.dcv_arena.specs.Arena.{ArenaValue, IsArena, HasOnlyNodesOf, IncludesNodesOf, table_of}
use Rattle.dcv_arena.specs.Diagram.{nodes_of}
use Rattle.dcv_arena.specs.declared.nodes.Ref.{Ref}
use Rattle.dcv_arena.specs.declared.nodes.Ref.TheVariants.{Place}
use Rattle.dcv_arena.proofs.Counts.{diagram_nodes-is, own_in_diagram}
use Rattle.dcv_arena.proofs.Roots.{of_root}
use Rattle.dcv_minimise.specs.OwnNodes.{IsOfRoots, AreMarked}

-- one more mark
pub marked_one : (marks : List Bool) (place other : ℕ) → get_or (set marks place true) other false ≡ true → (get_or marks other false ≡ true) ⊎ (Place place ≡ Place other)
marked_one marks place other is = elim (cases_eq place other) [
  | inl same ↦ inr (ap Place same)
  | inr differ ↦ inl (sym (get_or-set_other marks place other true false (λ same. differ (sym same))) ∙ is)
]

module _ (arena : ArenaValue) (roots : List Ref) where
  -- what is marked of a ref of the roots
  pub marked_more : (before after : List Bool) (at : Ref) → IsOfRoots arena roots at → AreMarked arena roots before
      → ((place : ℕ) → get_or after place false ≡ true → (get_or before place false ≡ true) ⊎ (at ≡ Place place)) → AreMarked arena roots after
  marked_more before after at of were only place is = elim (only place is) [
    | inl earlier ↦ were place earlier
    | inr same ↦ subst (IsOfRoots arena roots) same of
  ]

  -- the children of a ref of the roots
  pub part_of_roots : (part whole : Ref) → IncludesNodesOf arena part arena whole → IsOfRoots arena roots whole → IsOfRoots arena roots part
  part_of_roots part whole includes of node c = of node (includes node c)

  pub root_of_roots : (root : Ref) → Contains roots root → IsOfRoots arena roots root
  root_of_roots root there node c = of_root arena roots root node there c

  -- all nodes are of the roots
  pub no_others : IsArena arena → ((place : ℕ) → place < length arena.nodes → IsOfRoots arena roots (Place place)) → HasOnlyNodesOf arena roots
  no_others is all node c =
      let at = diagram_nodes-is arena node c in
      let own = own_in_diagram arena is.reduced at.0 at.1 in
      all at.0 at.1 node (subst (Contains (nodes_of arena.slots (table_of arena (Place at.0)))) at.2 own)

  -- what is marked of the roots, where nothing was
  none_marked : (count place : ℕ) → get_or (replicate count false) place false ≡ true → ⊥
  none_marked zero place is = false≢true is
  none_marked (suc count) zero is = false≢true is
  none_marked (suc count) (suc place) is = none_marked count place is

  pub marked_from_roots : (count : ℕ) (blank after : List Bool) (given : List Ref) → blank ≡ replicate count false → given ≡ roots
      → ((place : ℕ) → get_or after place false ≡ true → (get_or blank place false ≡ true) ⊎ Contains given (Place place)) → AreMarked arena roots after
  marked_from_roots count blank after given is_blank is_given only place is = elim (only place is) [
    | inl was ↦ absurd (none_marked count place (sym (ap (λ marks. get_or marks place false) is_blank) ∙ was))
    | inr row ↦ root_of_roots (Place place) (subst (λ rows. Contains rows (Place place)) is_given row)
  ]
