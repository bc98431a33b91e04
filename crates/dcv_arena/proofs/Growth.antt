-- An arena after one more node: it is an arena, and the refs that there were mean what they meant.
use Rattle.std.proofs.Common.{◌≡◌, ◌≢◌, ℕ, zero, suc, ◌+◌, ◌<◌, ◌≤◌, Bool, true, false, cond, List, [], ◌∷◌, ◌++◌, length, map, Contains, ◌⊎◌, inl, inr, Some, slice_get, get_or, refl, sym, ap, subst, ◌∙◌, arith}
use Rattle.std.proofs.lemmas.Bool.{cases_lt}
use Rattle.std.proofs.lemmas.List.{length_push, take_at, take_all}
use Rattle.std.proofs.lemmas.Option.{slice_get_within, same_Some}
use Rattle.std.specs.Option.{option_map_or}
use Rattle.dcv_word.specs.Letter.{letters_of_width}
use Rattle.dcv_arena.specs.Arena.{ArenaValue, IsReduced, IsNodeAt, IsRef, level_of, value_of, table_of, node_at, diagram_nodes, node_of, IsNew, KeepsRefs, AddsOnlyNodesOf, IncludesNodesOf}
use Rattle.dcv_arena.specs.Diagram.{block, nodes_of}
use Rattle.dcv_arena.specs.declared.nodes.Ref.{Ref}
use Rattle.dcv_arena.specs.declared.nodes.Ref.TheVariants.{Leaf, Place}
use Rattle.dcv_arena.specs.declared.nodes.Node.{Node}
use Rattle.dcv_arena.proofs.Functions.{function_at-append}
use Rattle.dcv_arena.proofs.Refs.{is_ref, same_ref, level_of-place, value_of-place, value_of-lo, value_of-hi}
use Rattle.dcv_arena.proofs.Listed.{includes_fixed}
use Rattle.dcv_arena.proofs.Counts.{diagram_nodes-is, diagram_nodes-from, own_in_diagram}

slice_get-push_before : {X : Type 0} (xs : List X) (x : X) (i : ℕ) → i < length xs → slice_get (xs ++ x ∷ []) i ≡ slice_get xs i
slice_get-push_before [] x i h = absurd (omega arith)
slice_get-push_before (y ∷ xs) x zero h = refl
slice_get-push_before (y ∷ xs) x (suc i) h = slice_get-push_before xs x i (omega arith)

pub slice_get-push_last : {X : Type 0} (xs : List X) (x : X) (i : ℕ) → i ≡ length xs → slice_get (xs ++ x ∷ []) i ≡ Some x
slice_get-push_last [] x zero h = refl
slice_get-push_last [] x (suc i) h = absurd (omega arith)
slice_get-push_last (y ∷ xs) x zero h = absurd (omega arith)
slice_get-push_last (y ∷ xs) x (suc i) h = slice_get-push_last xs x i (omega arith)

-- the arena with one more node
abbrev pub grown : ArenaValue → Node → ArenaValue
grown arena node = record arena { nodes = arena.nodes ++ node ∷ [] }

module _ (old : ArenaValue) (node : Node) where
  abbrev new : ArenaValue
  new = grown old node

  pub length-grown : length new.nodes ≡ length old.nodes + 1
  length-grown = length_push old.nodes node

  refs_grown : (ref : Ref) → IsRef old ref → IsRef new ref
  refs_grown (Leaf number) one = tt
  refs_grown (Place place) one = omega (arith, length-grown)

  levels_grown : (ref : Ref) → IsRef old ref → level_of new ref ≡ level_of old ref
  levels_grown (Leaf number) one = refl
  levels_grown (Place place) one = ap (λ found. option_map_or (λ n. n.slot) found old.slots) (slice_get-push_before old.nodes node place one)

  values_grown : (ref : Ref) (letter : List Bool) → IsRef old ref → value_of new ref letter ≡ value_of old ref letter
  values_grown ref letter one = λ i. function_at-append old.nodes (node ∷ []) ref one i letter

  tables_grown : (ref : Ref) → IsRef old ref → table_of new ref ≡ table_of old ref
  unfolding table_of
  tables_grown ref one = λ i. map (λ letter. values_grown ref letter one i) (letters_of_width old.slots)

  pub keeps_grown : KeepsRefs old new
  keeps_grown = record {
    slots = refl;
    limit = refl;
    nodes = take_at old.nodes (node ∷ []) (length old.nodes) refl;
    refs = refs_grown;
    levels = levels_grown;
    values = values_grown;
    tables = tables_grown;
  }

  -- a node that is right at its place in the old arena is right there in the new one
  right_grown : (place : ℕ) (one : Node) → place ≤ length old.nodes → IsRef old one.lo → IsRef old one.hi → IsNodeAt old place one → IsNodeAt new place one
  right_grown place one within lo hi facts = record {
    slot = facts.slot;
    lo_before = facts.lo_before;
    hi_before = facts.hi_before;
    lo_level = omega (arith, levels_grown one.lo lo, facts.lo_level);
    hi_level = omega (arith, levels_grown one.hi hi, facts.hi_level);
    differ = facts.differ;
  }

  -- what stands at a place of the new arena stands there in the old one, or is the new node at the end
  pub stands : (place : ℕ) (one : Node) → slice_get new.nodes place ≡ Some one → (slice_get old.nodes place ≡ Some one) ⊎ ((place ≡ length old.nodes) × (node ≡ one))
  stands place one e = elim (cases_lt place (length old.nodes)) [
    | inl before ↦ inl (sym (slice_get-push_before old.nodes node place before) ∙ e)
    | inr after ↦
        let last : place ≡ length old.nodes = omega (arith, slice_get_within new.nodes place one e, length-grown) in
        inr (last, same_Some node one (sym (slice_get-push_last old.nodes node place last) ∙ e))
  ]

  module _ (is : IsReduced old) (right : IsNodeAt old (length old.nodes) node) (absent : (place : ℕ) → slice_get old.nodes place ≢ Some node) where
    pub is_reduced_grown : IsReduced new
    is_reduced_grown = record {
      nodes = λ place one e. elim (stands place one e) [
        | inl there ↦
            let facts = is.nodes place one there in
            let inside = slice_get_within old.nodes place one there in
            right_grown place one (omega arith) (is_ref old is place one.lo inside facts.lo_before) (is_ref old is place one.hi inside facts.hi_before) facts
        | inr last ↦
            subst (IsNodeAt new place) last.1
            (subst (λ at. IsNodeAt new at node) (sym last.0) (right_grown (length old.nodes) node (omega arith) right.lo_before right.hi_before right))
      ];
      once = λ first second one e e'. elim (stands first one e) [
        | inl there ↦ elim (stands second one e') [
          | inl there' ↦ is.once first second one there there'
          | inr last' ↦ absurd (absent first (there ∙ ap Some (sym last'.1)))
        ]
        | inr last ↦ elim (stands second one e') [
          | inl there' ↦ absurd (absent second (there' ∙ ap Some (sym last.1)))
          | inr last' ↦ last.0 ∙ sym last'.0
        ]
      ];
    }

    -- the nodes of the old arena are nodes of the new one as they were
    node_at-grown : (place : ℕ) → place < length old.nodes → node_at new place ≡ node_at old place
    node_at-grown place inside = λ i. (levels_grown (Place place) inside i, block old.slots (tables_grown (Place place) inside i) (levels_grown (Place place) inside i) 0)

    pub adds_grown : AddsOnlyNodesOf old new (Place (length old.nodes))
    adds_grown found c =
        let at = diagram_nodes-is new found c in
        elim (cases_lt at.0 (length old.nodes)) [
          | inl before ↦ inl (subst (Contains (diagram_nodes old)) (sym (node_at-grown at.0 before) ∙ at.2) (diagram_nodes-from old at.0 before))
          | inr after ↦
              let last : at.0 ≡ length old.nodes = omega (arith, at.1, length-grown) in
              let own = own_in_diagram new is_reduced_grown at.0 at.1 in
              inr (subst (λ place. Contains (nodes_of old.slots (table_of new (Place place))) found) last (subst (Contains (nodes_of old.slots (table_of new (Place at.0)))) at.2 own))
        ]

-- ---- what the ref of a node means, whose children are refs of an older arena

pub keeps_all : (arena : ArenaValue) → KeepsRefs arena arena
keeps_all arena = record {
  slots = refl;
  limit = refl;
  nodes = take_all (length arena.nodes) arena.nodes (omega arith);
  refs = λ ref one. one;
  levels = λ ref one. refl;
  values = λ ref letter one. refl;
  tables = λ ref one. refl;
}

pub includes_itself : (arena : ArenaValue) (part root : Ref) → part ≡ root → IncludesNodesOf arena part arena root
includes_itself arena part root same node c = subst (λ ref. Contains (nodes_of arena.slots (table_of arena ref)) node) same c

module _ (old new : ArenaValue) (is : IsReduced new) (kept : KeepsRefs old new) (place slot : ℕ) (lo hi : Ref) (there : slice_get new.nodes place ≡ Some (node_of slot lo hi)) (lo_ref : IsRef old lo) (hi_ref : IsRef old hi) where
  pub ref_meant : IsRef new (Place place)
  ref_meant = slice_get_within new.nodes place (node_of slot lo hi) there

  pub level_meant : level_of new (Place place) ≡ slot
  level_meant = level_of-place new is place (node_of slot lo hi) there

  pub value_meant : (letter : List Bool) → value_of new (Place place) letter ≡ cond (get_or letter slot false) (value_of old hi letter) (value_of old lo letter)
  value_meant letter =
      value_of-place new is place (node_of slot lo hi) there letter
      ∙ (λ i. cond (get_or letter slot false) (kept.values hi letter hi_ref i) (kept.values lo letter lo_ref i))

  -- the nodes of an old ref are those of the same ref in the new arena
  of_old : (part : Ref) → IsRef old part → IncludesNodesOf new part new (Place place) → IncludesNodesOf old part new (Place place)
  of_old part one includes node c =
      includes node (subst (λ table. Contains (nodes_of new.slots table) node) (sym (kept.tables part one)) (subst (λ slots. Contains (nodes_of slots (table_of old part)) node) (sym kept.slots) c))

  pub lo_nodes_meant : IncludesNodesOf old lo new (Place place)
  lo_nodes_meant =
      let facts = is.nodes place (node_of slot lo hi) there in
      of_old lo lo_ref (includes_fixed new is slot false lo (Place place) (kept.refs lo lo_ref) facts.lo_level (value_of-lo new is place (node_of slot lo hi) there))

  pub hi_nodes_meant : IncludesNodesOf old hi new (Place place)
  hi_nodes_meant =
      let facts = is.nodes place (node_of slot lo hi) there in
      of_old hi hi_ref (includes_fixed new is slot true hi (Place place) (kept.refs hi hi_ref) facts.hi_level (value_of-hi new is place (node_of slot lo hi) there))

-- what makes a node right after the others
pub right_new : (arena : ArenaValue) (slot : ℕ) (lo hi : Ref) → IsRef arena lo → IsRef arena hi
    → slot < arena.slots → slot < level_of arena lo → slot < level_of arena hi → IsNew arena slot lo hi → IsNodeAt arena (length arena.nodes) (node_of slot lo hi)
right_new arena slot lo hi lo_ref hi_ref inner lo_later hi_later fresh = record {
  slot = inner;
  lo_before = lo_ref;
  hi_before = hi_ref;
  lo_level = lo_later;
  hi_level = hi_later;
  differ = fresh.0;
}

-- a node that is new has a function that no ref has
pub new_function : (arena : ArenaValue) (slot : ℕ) (lo hi : Ref) → IsReduced arena → IsRef arena lo → IsRef arena hi
    → slot < arena.slots → slot < level_of arena lo → slot < level_of arena hi → IsNew arena slot lo hi → (ref : Ref) → IsRef arena ref
    → ((letter : List Bool) → length letter ≡ arena.slots → value_of arena ref letter ≡ cond (get_or letter slot false) (value_of arena hi letter) (value_of arena lo letter)) → ⊥
new_function arena slot lo hi is lo_ref hi_ref inner lo_later hi_later fresh ref one same =
    let node = node_of slot lo hi in
    let more = grown arena node in
    let right = right_new arena slot lo hi lo_ref hi_ref inner lo_later hi_later fresh in
    let is' = is_reduced_grown arena node is right fresh.1 in
    let kept = keeps_grown arena node in
    let last = length arena.nodes in
    let there = slice_get-push_last arena.nodes node last refl in
    let last_ref : IsRef more (Place last) = ref_meant arena more is' kept last slot lo hi there lo_ref hi_ref in
    let one_ref : ref ≡ Place last = same_ref more is' ref (Place last) (kept.refs ref one) last_ref
    (λ letter size. kept.values ref letter one ∙ same letter size ∙ sym (value_meant arena more is' kept last slot lo hi there lo_ref hi_ref letter)) in
    let within : IsRef arena (Place last) = subst (IsRef arena) one_ref one in
    omega arith
