-- A visit goes to a node's children: what `visits_of` has at a place. And what a node's children are to the node.
use Rattle.std.proofs.Common.{◌≡◌, ◌≢◌, ℕ, zero, suc, ◌+◌, ◌<◌, Bool, true, false, cond, List, [], ◌∷◌, ◌++◌, length, take, drop, fold, set, get_or, refl, sym, ap, subst, ◌∙◌, arith}
use Rattle.std.proofs.lemmas.List.{length-append, length-map, get_or-map, get_or_append_left, get_or_push, length-take-le, take-append-drop}
use Rattle.std.proofs.lemmas.List.Sums.{fold-append}
use Rattle.std.proofs.lemmas.Option.{get_or_from_slice_get}
use Rattle.dcv_arena.specs.Arena.{ArenaValue, IsReduced, IsBefore, level_of, value_of}
use Rattle.dcv_arena.specs.declared.nodes.Ref.{Ref}
use Rattle.dcv_arena.specs.declared.nodes.Ref.TheVariants.{Leaf, Place}
use Rattle.dcv_arena.proofs.Refs.{node_there, level_of-place, value_of-place, value_of-lo, value_of-hi}
use Rattle.dcv_dfa.specs.NodeLines.{children_of, lo_of, hi_of, is_numbered, visit_by, visit_node, visits_of, visit}

-- ---- the children of a node

pub record HasChildren (arena : ArenaValue) (place : ℕ) (lo hi : Ref) : Type 0 where
  pub lo_before : IsBefore place lo
  pub hi_before : IsBefore place hi
  pub slot : level_of arena (Place place) < arena.slots
  pub lo_later : level_of arena (Place place) < level_of arena lo
  pub hi_later : level_of arena (Place place) < level_of arena hi
  pub differ : lo ≢ hi
  -- the node's function goes to its children's, which are it with the slot fixed
  pub value : (letter : List Bool) → value_of arena (Place place) letter
      ≡ cond (get_or letter (level_of arena (Place place)) false) (value_of arena hi letter) (value_of arena lo letter)
  pub lo_value : (letter : List Bool) → length letter ≡ arena.slots → value_of arena lo letter ≡ value_of arena (Place place) (set letter (level_of arena (Place place)) false)
  pub hi_value : (letter : List Bool) → length letter ≡ arena.slots → value_of arena hi letter ≡ value_of arena (Place place) (set letter (level_of arena (Place place)) true)

module _ (arena : ArenaValue) (is : IsReduced arena) where
  pub has_children : (place : ℕ) → place < length arena.nodes → HasChildren arena place (lo_of arena place) (hi_of arena place)
  has_children place below =
      let there = node_there arena is place below in
      let node = there.0 in
      let facts = is.nodes place node there.1 in
      let pair : get_or (children_of arena) place (Leaf 0, Leaf 0) ≡ (node.lo, node.hi) =
      get_or-map (λ node. (node.lo, node.hi)) arena.nodes place node (Leaf 0, Leaf 0) below
      ∙ ap (λ node. (node.lo, node.hi)) (get_or_from_slice_get arena.nodes place node node there.1) in
      let level = level_of-place arena is place node there.1 in
      let P : Ref × Ref → Type 0 = λ pair. HasChildren arena place pair.0 pair.1 in
      subst P (sym pair) (record {
        lo_before = facts.lo_before;
        hi_before = facts.hi_before;
        slot = omega (arith, level, facts.slot);
        lo_later = omega (arith, level, facts.lo_level);
        hi_later = omega (arith, level, facts.hi_level);
        differ = facts.differ;
        value = λ letter. value_of-place arena is place node there.1 letter
            ∙ ap (λ slot. cond (get_or letter slot false) (value_of arena node.hi letter) (value_of arena node.lo letter)) (sym level);
        lo_value = λ letter size. value_of-lo arena is place node there.1 letter size ∙ ap (λ slot. value_of arena (Place place) (set letter slot false)) (sym level);
        hi_value = λ letter size. value_of-hi arena is place node there.1 letter size ∙ ap (λ slot. value_of arena (Place place) (set letter slot true)) (sym level);
      })

-- ---- visits

abbrev Visit : Type 0
Visit = List ℕ → List ℕ

-- the visits after one more node
abbrev step : List Visit → Ref × Ref → List Visit
step visits pair = visits ++ visit_node visits (length visits) pair ∷ []

abbrev nothing : Visit
nothing places = places

length-step : (visits : List Visit) (pair : Ref × Ref) → length (step visits pair) ≡ suc (length visits)
length-step visits pair = omega (arith, length-append visits (visit_node visits (length visits) pair ∷ []))

length-steps : (visits : List Visit) (children : List (Ref × Ref)) → length (fold step visits children) ≡ length visits + length children
length-steps visits [] = omega arith
length-steps visits (pair ∷ children) = omega (arith, length-steps (step visits pair) children, length-step visits pair)

-- the visits that there were stay
kept : (visits : List Visit) (children : List (Ref × Ref)) (place : ℕ) → place < length visits
    → get_or (fold step visits children) place nothing ≡ get_or visits place nothing
kept visits [] place h = refl
kept visits (pair ∷ children) place h =
    kept (step visits pair) children place (omega (arith, length-step visits pair))
    ∙ get_or_append_left visits (visit_node visits (length visits) pair ∷ []) nothing place h

-- a node's visit is made of those before it
made : (visits : List Visit) (children : List (Ref × Ref)) (place at : ℕ) (d : Ref × Ref) → place < length children → at ≡ length visits + place
    → get_or (fold step visits children) at nothing ≡ visit_node (fold step visits (take place children)) at (get_or children place d)
made visits [] place at d below count = absurd (omega arith)
made visits (first ∷ children) zero at d below count =
    let last : length visits ≡ at = omega arith in
    kept (step visits first) children at (omega (arith, length-step visits first))
    ∙ get_or_push visits (visit_node visits (length visits) first) nothing at last
    ∙ ap (λ at. visit_node visits at first) last
made visits (first ∷ children) (suc place) at d below count =
    made (step visits first) children place at d (omega arith) (omega (arith, length-step visits first))

-- ---- at an arena's nodes

length-visits_of : (children : List (Ref × Ref)) → length (visits_of children) ≡ length children
unfolding visits_of
length-visits_of children = omega (arith, length-steps [] children)

visit_by-append : (children more : List (Ref × Ref)) (places : List ℕ) (ref : Ref) → IsBefore (length children) ref
    → visit_by (visits_of (children ++ more)) places ref ≡ visit_by (visits_of children) places ref
unfolding visits_of
visit_by-append children more places (Leaf state) h = refl
visit_by-append children more places (Place place) h =
    ap (λ visits. get_or visits place nothing places) (fold-append step [] children more)
    ∙ ap (λ (visit : Visit). visit places) (kept (visits_of children) more place (omega (arith, length-visits_of children)))

visit_by-take : (children : List (Ref × Ref)) (place : ℕ) (places : List ℕ) (ref : Ref) → place < length children → IsBefore place ref
    → visit_by (visits_of (take place children)) places ref ≡ visit_by (visits_of children) places ref
visit_by-take children place places (Leaf state) within h = refl
visit_by-take children place places (Place earlier) within h =
    let count = length-take-le place children (omega arith) in
    sym (visit_by-append (take place children) (drop place children) places (Place earlier) (omega arith))
    ∙ ap (λ all. visit_by (visits_of all) places (Place earlier)) (take-append-drop place children)

-- a visit to a node that has no number goes to its lo, to its hi, and gives it the next number
pub visit-node : (arena : ArenaValue) → IsReduced arena → (place : ℕ) → place < length arena.nodes → (places : List ℕ)
    → visit arena places (Place place)
    ≡ cond (is_numbered places place) places (visit arena (visit arena places (lo_of arena place)) (hi_of arena place) ++ place ∷ [])
unfolding visits_of
visit-node arena is place below places =
    let all = children_of arena in
    let lo = lo_of arena place in
    let hi = hi_of arena place in
    let facts = has_children arena is place below in
    let within : place < length all = omega (arith, length-map {B = Ref × Ref} arena.nodes (λ node. (node.lo, node.hi))) in
    let at : get_or (visits_of all) place nothing ≡ visit_node (visits_of (take place all)) place (get_or all place (Leaf 0, Leaf 0)) =
    made [] all place place (Leaf 0, Leaf 0) within (omega arith) in
    ap (λ (visit : Visit). visit places) at
    ∙ ap (λ first. cond (is_numbered places place) places (visit_by (visits_of (take place all)) first hi ++ place ∷ [])) (visit_by-take all place places lo within facts.lo_before)
    ∙ ap (λ last. cond (is_numbered places place) places (last ++ place ∷ [])) (visit_by-take all place (visit arena places lo) hi within facts.hi_before)
