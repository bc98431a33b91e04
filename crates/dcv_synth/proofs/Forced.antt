-- What is forced from a node on is picked of what is forced from its children on.
use Rattle.std.proofs.Common.{◌≡◌, ℕ, zero, suc, ◌+◌, ◌-◌, ◌<◌, ◌≤◌, ltb, Bool, true, false, ◌&&◌, ◌||◌, cond, List, [], ◌∷◌, ◌++◌, length, get_or, refl, ap, sym, ◌∙◌, subst, arith}
use Rattle.std.proofs.lemmas.Bool.{lt-ltb, le-ltb}
use Rattle.dcv_language.specs.Operations.{some_track}
use Rattle.dcv_arena.specs.Arena.{ArenaValue, IsBefore, IsReduced, level_of, value_of}
use Rattle.dcv_arena.specs.declared.nodes.Ref.{Ref}
use Rattle.dcv_arena.specs.declared.nodes.Ref.TheVariants.{Leaf, Place}
use Rattle.dcv_dfa.specs.NodeLines.{lo_of, hi_of}
use Rattle.dcv_dfa.proofs.Splits.{IsSplit, split_is}
use Rattle.dcv_dfa.proofs.Visits.{has_children}
use Rattle.dcv_synth.specs.Tracks.{each_track}
use Rattle.dcv_synth.specs.Forced.{picked, is_forced, lost_at, forced_at, IsForced, AreForcedBefore}

picked_same : (n slot : ℕ) (b : Bool) → picked n slot b b ≡ b
picked_same n slot b = by (ltb slot n) b
  where
    by : (input b : Bool) → cond input (b || b) (b && b) ≡ b
    by true true = refl
    by true false = refl
    by false true = refl
    by false false = refl

-- a number that does not depend on the values
pub forced_always : (n slot count : ℕ) (b : Bool) → is_forced n slot count (λ values. b) ≡ b
forced_always n slot zero b = refl
forced_always n slot (suc count) b =
    ap (λ x. picked n slot x x) (forced_always n (suc slot) count b) ∙ picked_same n slot b

pub length-push : (front : List Bool) (b : Bool) → length (front ++ b ∷ []) ≡ suc (length front)
length-push [] b = refl
length-push (x ∷ front) b = ap suc (length-push front b)

pub push-append : (front : List Bool) (b : Bool) (values : List Bool) → (front ++ b ∷ []) ++ values ≡ front ++ b ∷ values
push-append [] b values = refl
push-append (x ∷ front) b values = ap (λ xs. x ∷ xs) (push-append front b values)

pub value-at : (front : List Bool) (b : Bool) (values : List Bool) → get_or (front ++ b ∷ values) (length front) false ≡ b
value-at [] b values = refl
value-at (x ∷ front) b values = value-at front b values

-- the front goes on by a value
front_on : (n : ℕ) (front : List Bool) (b : Bool) (count : ℕ) (p : List Bool → Bool)
    → is_forced n (suc (length front)) count (λ values. p (front ++ b ∷ values))
    ≡ is_forced n (length (front ++ b ∷ [])) count (λ values. p ((front ++ b ∷ []) ++ values))
front_on n front b count p = λ i. is_forced n (sym (length-push front b) i) count (λ values. p (sym (push-append front b values) i))

-- ---- refs

pub forced_leaf : (n : ℕ) (arena : ArenaValue) (lost : List Bool) (state : ℕ) → IsForced n arena lost (Leaf state) (lost_at lost state)
forced_leaf n arena lost state front count size level = forced_always n (length front) count (lost_at lost state)

-- a node with its children
pub record IsNode (arena : ArenaValue) (place slot : ℕ) (lo hi : Ref) : Type 0 where
  pub slot_is : slot ≡ level_of arena (Place place)
  pub inner : slot < arena.slots
  pub lo_level : slot < level_of arena lo
  pub hi_level : slot < level_of arena hi
  pub value : (letter : List Bool) → value_of arena (Place place) letter ≡ cond (get_or letter slot false) (value_of arena hi letter) (value_of arena lo letter)

module _ (n : ℕ) (arena : ArenaValue) (lost : List Bool) (place slot : ℕ) (lo hi : Ref) (a b : Bool)
    (node : IsNode arena place slot lo hi) (lo_is : IsForced n arena lost lo a) (hi_is : IsForced n arena lost hi b) where
  abbrev whole : List Bool → Bool
  whole letter = lost_at lost (value_of arena (Place place) letter)

  lo_value : (front values : List Bool) → slot ≡ length front → whole (front ++ false ∷ values) ≡ lost_at lost (value_of arena lo (front ++ false ∷ values))
  lo_value front values at =
      ap (lost_at lost) (node.value (front ++ false ∷ values)
      ∙ ap (λ x. cond x (value_of arena hi (front ++ false ∷ values)) (value_of arena lo (front ++ false ∷ values)))
      (ap (λ s. get_or (front ++ false ∷ values) s false) at ∙ value-at front false values))

  hi_value : (front values : List Bool) → slot ≡ length front → whole (front ++ true ∷ values) ≡ lost_at lost (value_of arena hi (front ++ true ∷ values))
  hi_value front values at =
      ap (lost_at lost) (node.value (front ++ true ∷ values)
      ∙ ap (λ x. cond x (value_of arena hi (front ++ true ∷ values)) (value_of arena lo (front ++ true ∷ values)))
      (ap (λ s. get_or (front ++ true ∷ values) s false) at ∙ value-at front true values))

  forced_behind : (before : ℕ) (front : List Bool) (count : ℕ) → length front + count ≡ arena.slots → length front + before ≡ slot
      → is_forced n (length front) count (λ values. whole (front ++ values)) ≡ picked n slot a b
  forced_behind before front zero size at = absurd (omega (arith, node.inner))
  forced_behind zero front (suc count) size at =
      let here : slot ≡ length front = omega arith in
      let low : is_forced n (suc (length front)) count (λ values. whole (front ++ false ∷ values)) ≡ a =
      (λ i. is_forced n (suc (length front)) count (λ values. lo_value front values here i))
      ∙ front_on n front false count (λ letter. lost_at lost (value_of arena lo letter))
      ∙ lo_is (front ++ false ∷ []) count (omega (arith, length-push front false)) (omega (arith, length-push front false, node.lo_level)) in
      let high : is_forced n (suc (length front)) count (λ values. whole (front ++ true ∷ values)) ≡ b =
      (λ i. is_forced n (suc (length front)) count (λ values. hi_value front values here i))
      ∙ front_on n front true count (λ letter. lost_at lost (value_of arena hi letter))
      ∙ hi_is (front ++ true ∷ []) count (omega (arith, length-push front true)) (omega (arith, length-push front true, node.hi_level)) in
      λ i. picked n (sym here i) (low i) (high i)
  forced_behind (suc before) front (suc count) size at =
      let side : (value : Bool) → is_forced n (suc (length front)) count (λ values. whole (front ++ value ∷ values)) ≡ picked n slot a b = λ value.
      front_on n front value count whole
      ∙ forced_behind before (front ++ value ∷ []) count (omega (arith, length-push front value)) (omega (arith, length-push front value)) in
      (λ i. picked n (length front) (side false i) (side true i)) ∙ picked_same n (length front) (picked n slot a b)

  pub forced_node : IsForced n arena lost (Place place) (picked n slot a b)
  forced_node front count size level =
      forced_behind (slot - length front) front count size (omega (arith, level, node.slot_is))

-- both stand before the node
pub children_before : (arena : ArenaValue) (place slot count : ℕ) (lo hi : Ref) → IsReduced arena → place < length arena.nodes → count ≡ place
    → IsSplit arena (Place place) slot lo hi → IsBefore count lo × IsBefore count hi
children_before arena place slot count lo hi reduced within same split =
    let children = has_children arena reduced place within in
    let are = split_is arena reduced place slot lo hi within split in
    (by lo (lo_of arena place) are.0 children.lo_before, by hi (hi_of arena place) are.1 children.hi_before)
  where
    by : (ref child : Ref) → ref ≡ child → IsBefore place child → IsBefore count ref
    by ref child e before = subst (λ n. IsBefore n ref) (sym same) (subst (IsBefore place) (sym e) before)

-- ---- lists

pub forced_ref : (n : ℕ) (arena : ArenaValue) (lost forced : List Bool) (count : ℕ) (root : Ref) → AreForcedBefore count n arena lost forced → IsBefore count root
    → IsForced n arena lost root (forced_at lost forced root)
forced_ref n arena lost forced count (Leaf state) are before = forced_leaf n arena lost state
forced_ref n arena lost forced count (Place place) are before = are place before

-- ---- rows

forced_outputs : (n slot m : ℕ) (p : List Bool → Bool) → n ≤ slot → is_forced n slot m p ≡ each_track m p
forced_outputs n slot zero p later = refl
forced_outputs n slot (suc m) p later =
    let test : ltb slot n ≡ false = le-ltb slot n later in
    (λ i. cond (test i) (is_forced n (suc slot) m (λ v. p (false ∷ v)) || is_forced n (suc slot) m (λ v. p (true ∷ v)))
    (forced_outputs n (suc slot) m (λ v. p (false ∷ v)) (omega arith) i && forced_outputs n (suc slot) m (λ v. p (true ∷ v)) (omega arith) i))

pub forced_tracks : (n slot a m count : ℕ) (p : List Bool → Bool) → slot + a ≡ n → a + m ≡ count
    → is_forced n slot count p ≡ some_track a (λ input. each_track m (λ output. p (input ++ output)))
forced_tracks n slot zero m count p at size =
    let same : count ≡ m = omega arith in
    ap (λ c. is_forced n slot c p) same ∙ forced_outputs n slot m p (omega arith)
forced_tracks n slot (suc a) m zero p at size = absurd (omega arith)
forced_tracks n slot (suc a) m (suc count) p at size =
    let test : ltb slot n ≡ true = lt-ltb slot n (omega arith) in
    let side : (value : Bool) → is_forced n (suc slot) count (λ v. p (value ∷ v)) ≡ some_track a (λ input. each_track m (λ output. p (value ∷ (input ++ output)))) =
    λ value. forced_tracks n (suc slot) a m count (λ v. p (value ∷ v)) (omega arith) (omega arith) in
    λ i. cond (test i) (side false i || side true i) (is_forced n (suc slot) count (λ v. p (false ∷ v)) && is_forced n (suc slot) count (λ v. p (true ∷ v)))
