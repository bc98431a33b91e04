-- The refs of the nodes of a file, one after another.
use Rattle.std.proofs.Common.{◌≡◌, ◌⊎◌, inl, inr, ℕ, ◌+◌, ◌<◌, ◌≤◌, Bool, true, false, if◌then◌else◌, List, [], ◌∷◌, ◌++◌, length, get_or, refl, ap, sym, ◌∙◌, subst, arith}
use Rattle.std.proofs.lemmas.Bool.{cases_lt, ltb-true, and_parts}
use Rattle.std.proofs.lemmas.List.{length-append, length-map, get_or-map, get_or_push, get_or_append_left, get_or_default}
use Rattle.std.specs.Prelude.{nat_lt}
use Rattle.dcv_arena.specs.Arena.{ArenaValue, IsArena, IsRef, KeepsRefs, level_of, value_of}
use Rattle.dcv_arena.specs.declared.nodes.Ref.{Ref}
use Rattle.dcv_arena.specs.declared.nodes.Ref.TheVariants.{Leaf}
use Rattle.dcv_automaton_text.specs.File.{NodeLine, AutomatonFile}
use Rattle.dcv_automaton_text.specs.Rules.{slot_of, slot_of_node, keeps_child}
use Rattle.dcv_automaton_text.proofs.GoodFiles.{good_file}
use Rattle.dcv_automaton_text.specs.Meaning.{state_at}
use Rattle.dcv_automaton_read.specs.File.{IsRead}
use Rattle.dcv_automaton_read.specs.Seen.{node_of}
use Rattle.dcv_automaton_read.specs.Walk.{leaves_of, IsEarlier}
use Rattle.dcv_language.specs.declared.child.Child.{Child}
use Rattle.dcv_language.specs.declared.child.Child.TheVariants.{State, Node as AtNode}
use Rattle.dcv_automaton_read.specs.declared.nodes.Node.{Node}
use Rattle.dcv_automaton_read.proofs.Walks.{ordered, next_leaf, earlier_child}
use Rattle.dcv_certify.specs.Built.{ref_at, some_node, slot_at, IsLater, AreNodes, AreRefsOf}

-- ---- the nodes of a file

module _ (file : AutomatonFile) (nodes : List Node) (read : IsRead file nodes) where
  abbrev no_line : NodeLine
  no_line = record { number = 0; name = []; hi = State 0; lo = State 0 }

  node_there : (place : ℕ) (d : Node) → place < length nodes → (place < length file.node_lines) × (get_or nodes place d ≡ node_of file.names (get_or file.node_lines place no_line))
  node_there place d within =
      let inside : place < length file.node_lines = omega (arith, within, ap length read.nodes_are, length-map file.node_lines (node_of file.names)) in
      (inside, ap (λ (all : List Node). get_or all place d) read.nodes_are ∙ get_or-map (node_of file.names) file.node_lines place no_line d inside)

  slot_there : (place : ℕ) → place < length nodes → slot_of_node file place ≡ slot_at nodes place
  slot_there place within =
      let there = node_there place some_node within in
      ap (slot_of file.names) (get_or-map (λ (line : NodeLine). line.name) file.node_lines place no_line [] there.0) ∙ ap (λ (node : Node). node.slot) (sym there.1)

  later_target : (place : ℕ) (target : Child) → place < length nodes → keeps_child file place target ≡ true → IsLater nodes (slot_at nodes place) target
  later_target place (State number) within kept = tt
  later_target place (AtNode number) within kept =
      let parts = and_parts (nat_lt number place) (nat_lt (slot_of_node file place) (slot_of_node file number)) kept in
      let before = ltb-true number place parts.0 in
      omega (arith, ltb-true (slot_of_node file place) (slot_of_node file number) parts.1, slot_there place within, slot_there number (omega (arith, before, within)))

  later_there : (place : ℕ) (d : Node) (child : Node → Child) (target : NodeLine → Child) → ((line : NodeLine) → child (node_of file.names line) ≡ (target line)) → place < length nodes
      → keeps_child file place (target (get_or file.node_lines place no_line)) ≡ true → IsLater nodes (get_or nodes place d).slot (child (get_or nodes place d))
  later_there place d child target same within kept =
      let there = node_there place d within in
      subst (λ (node : Node). IsLater nodes node.slot (child node)) (get_or_default nodes place some_node d within)
      (subst (IsLater nodes (slot_at nodes place)) (sym (ap child (get_or_default nodes place some_node d within ∙ there.1) ∙ same (get_or file.node_lines place no_line)))
      (later_target place (target (get_or file.node_lines place no_line)) within kept))

  pub are_nodes : AreNodes (length file.names) nodes
  are_nodes = record {
    narrow = omega (arith, (good_file file read.good).names);
    ordered = ordered file nodes read;
    his = λ place d within.
        later_there place d (λ (node : Node). node.hi) (λ (line : NodeLine). line.hi) (λ line. refl) within ((good_file file read.good).node place no_line (node_there place d within).0).hi;
    los = λ place d within.
        later_there place d (λ (node : Node). node.lo) (λ (line : NodeLine). line.lo) (λ line. refl) within ((good_file file read.good).node place no_line (node_there place d within).0).lo;
  }

-- ---- their refs

module _ (width : ℕ) (nodes : List Node) where
  module _ (count : ℕ) (arena : ArenaValue) (refs : List Ref) (are : AreRefsOf width nodes count arena refs) where
    pub child_is_ref : (child : Child) → IsEarlier count child → IsRef arena (ref_at refs child)
    child_is_ref (State number) earlier = tt
    child_is_ref (AtNode number) earlier = are.refs_are number earlier

    pub child_value : (child : Child) (letter : List Bool) → IsEarlier count child → value_of arena (ref_at refs child) letter ≡ state_at (leaves_of letter nodes) child
    child_value (State number) letter earlier = refl
    child_value (AtNode number) letter earlier = are.values number letter earlier

  module _ (all : AreNodes width nodes) (count : ℕ) (old new : ArenaValue) (refs : List Ref) (made : Ref) (within : count < length nodes) (so_far : AreRefsOf width nodes count old refs)
      (kept : KeepsRefs old new) where
    abbrev node : Node
    node = get_or nodes count some_node

    abbrev at : ℕ → Ref
    at place = get_or (refs ++ made ∷ []) place (Leaf 0)

    front : (place : ℕ) → place < count → get_or refs place (Leaf 0) ≡ at place
    front place before = sym (get_or_append_left refs (made ∷ []) (Leaf 0) place (omega (arith, before, so_far.size)))

    last : made ≡ at count
    last = sym (get_or_push refs made (Leaf 0) count so_far.size)

    value_there : (letter : List Bool)
        → value_of new made letter ≡ (if get_or letter node.slot false then value_of old (ref_at refs node.hi) letter else value_of old (ref_at refs node.lo) letter)
        → value_of new made letter ≡ state_at (leaves_of letter nodes) (AtNode count)
    value_there letter is =
        is
        ∙ (elim (get_or letter node.slot false) as (λ side. (if side then value_of old (ref_at refs node.hi) letter else value_of old (ref_at refs node.lo) letter)
        ≡ state_at (leaves_of letter nodes) (if side then node.hi else node.lo)) [
          | true ↦ child_value count old refs so_far node.hi letter (all.ordered.his count some_node within)
          | false ↦ child_value count old refs so_far node.lo letter (all.ordered.los count some_node within)
        ])
        ∙ next_leaf letter nodes count some_node within (earlier_child letter width count nodes some_node all.ordered within)

    pub more_refs : IsArena new → IsRef new made → node.slot ≤ level_of new made
        → ((letter : List Bool) → value_of new made letter ≡ (if get_or letter node.slot false then value_of old (ref_at refs node.hi) letter else value_of old (ref_at refs node.lo) letter))
        → AreRefsOf width nodes (count + 1) new (refs ++ made ∷ [])
    more_refs is is_ref level value = record {
      is_arena = is;
      slots = kept.slots ∙ so_far.slots;
      size = omega (arith, length-append refs (made ∷ []), so_far.size);
      refs_are = λ place before. a place before (cases_lt place count);
      levels = λ place before. b place before (cases_lt place count);
      values = λ place letter before. c place letter before (cases_lt place count);
    }
      where
        a : (place : ℕ) → place < count + 1 → (place < count) ⊎ (count ≤ place) → IsRef new (at place)
        a place before (inl less) = subst (IsRef new) (front place less) (kept.refs (get_or refs place (Leaf 0)) (so_far.refs_are place less))
        a place before (inr more) = let same : count ≡ place = omega arith in subst (λ n. IsRef new (at n)) same (subst (IsRef new) last is_ref)

        b : (place : ℕ) → place < count + 1 → (place < count) ⊎ (count ≤ place) → slot_at nodes place ≤ level_of new (at place)
        b place before (inl less) =
            subst (λ ref. slot_at nodes place ≤ level_of new ref) (front place less)
            (subst (λ level. slot_at nodes place ≤ level) (sym (kept.levels (get_or refs place (Leaf 0)) (so_far.refs_are place less))) (so_far.levels place less))
        b place before (inr more) =
            let same : count ≡ place = omega arith in subst (λ n. slot_at nodes n ≤ level_of new (at n)) same (subst (λ ref. slot_at nodes count ≤ level_of new ref) last level)

        c : (place : ℕ) (letter : List Bool) → place < count + 1 → (place < count) ⊎ (count ≤ place) → value_of new (at place) letter ≡ state_at (leaves_of letter nodes) (AtNode place)
        c place letter before (inl less) =
            ap (λ ref. value_of new ref letter) (sym (front place less)) ∙ kept.values (get_or refs place (Leaf 0)) letter (so_far.refs_are place less) ∙ so_far.values place letter less
        c place letter before (inr more) =
            let same : count ≡ place = omega arith in
            subst (λ n. value_of new (at n) letter ≡ state_at (leaves_of letter nodes) (AtNode n)) same
            (ap (λ ref. value_of new ref letter) (sym last) ∙ value_there letter (value letter))
