-- Whose nodes an arena has, as it grows.
use Rattle.std.proofs.Common.{◌≡◌, ℕ, ◌≤◌, List, [], ◌∷◌, ◌++◌, length, map, take, Contains, inl, inr, sym, ap, subst, ◌∙◌, arith}
use Rattle.std.proofs.lemmas.List.{length-take, take-take}
use Rattle.std.proofs.lemmas.List.Elements.{All-contains, Contains-append_left, Contains-push}
use Rattle.dcv_arena.specs.Arena.{ArenaValue, IsRef, table_of}
use Rattle.dcv_arena.specs.Diagram.{nodes_of, nodes_of_all}
use Rattle.dcv_arena.specs.declared.nodes.Ref.{Ref}
use Rattle.dcv_arena.specs.Laws.{NoNodesAreOfNoRoots, OneMoreRoot, PartsAreAddedInTurn, PartsAreKept, RefsAreKeptInTurn}
use Rattle.dcv_arena.proofs.Members.{Contains-map, Contains-map_cases, Contains-flat_map, Contains-flat_map_cases}
use Rattle.dcv_arena.proofs.Counts.{length-diagram_nodes}

-- the nodes of a ref in the list of roots are among those of all of them
pub of_root : (arena : ArenaValue) (roots : List Ref) (root : Ref) (node : ℕ × List ℕ) → Contains roots root → Contains (nodes_of arena.slots (table_of arena root)) node
    → Contains (nodes_of_all arena.slots (map (table_of arena) roots)) node
of_root arena roots root node there c =
    Contains-flat_map (nodes_of arena.slots) (map (table_of arena) roots) (table_of arena root) node (Contains-map (table_of arena) roots root there) c

pub kept_in_turn : RefsAreKeptInTurn
kept_in_turn first second third early late =
    let shorter : length first.nodes ≤ length second.nodes = omega (arith, length-take (length first.nodes) second.nodes, ap length early.nodes) in
    record {
      slots = late.slots ∙ early.slots;
      limit = late.limit ∙ early.limit;
      nodes = sym (take-take (length first.nodes) (length second.nodes) third.nodes shorter) ∙ ap (take (length first.nodes)) late.nodes ∙ early.nodes;
      refs = λ ref one. late.refs ref (early.refs ref one);
      levels = λ ref one. late.levels ref (early.refs ref one) ∙ early.levels ref one;
      values = λ ref letter one. late.values ref letter (early.refs ref one) ∙ early.values ref letter one;
      tables = λ ref one. late.tables ref (early.refs ref one) ∙ early.tables ref one;
    }

pub no_nodes : NoNodesAreOfNoRoots
no_nodes arena none node c = absurd (omega (arith, c.1, ap length none, length-diagram_nodes arena))

pub one_more : OneMoreRoot
one_more old new roots root kept all only adds node c =
    elim (adds node c) [
      | inl before ↦
          let by_table = Contains-flat_map_cases (nodes_of old.slots) (map (table_of old) roots) node (only node before) in
          let by_ref = Contains-map_cases (table_of old) roots by_table.0 by_table.1 in
          let one = All-contains (IsRef old) roots by_ref.0 all by_ref.1 in
          let table : by_table.0 ≡ table_of new by_ref.0 = sym (kept.tables by_ref.0 one ∙ by_ref.2) in
          of_root new (roots ++ root ∷ []) by_ref.0 node (Contains-append_left roots (root ∷ []) by_ref.0 by_ref.1)
          (subst (λ slots. Contains (nodes_of slots (table_of new by_ref.0)) node) (sym kept.slots) (subst (λ t. Contains (nodes_of old.slots t) node) table by_table.2))
      | inr own ↦ of_root new (roots ++ root ∷ []) root node (Contains-push roots root) own
    ]

pub parts_in_turn : PartsAreAddedInTurn
parts_in_turn old middle new part root first then includes node c =
    elim (then node c) [
      | inl before ↦ elim (first node before) [
        | inl earlier ↦ inl earlier
        | inr of_part ↦ inr (includes node of_part)
      ]
      | inr own ↦ inr own
    ]

pub parts_kept : PartsAreKept
parts_kept old middle new part root kept one includes node c =
    includes node (subst (λ table. Contains (nodes_of middle.slots table) node) (sym (kept.tables part one)) (subst (λ slots. Contains (nodes_of slots (table_of old part)) node) (sym kept.slots) c))
