-- A number more in the list of a leaf or a place, and an index that grows with it.
use Rattle.std.proofs.Common.{◌≡◌, ℕ, ◌<◌, ◌≤◌, ◌+◌, Bool, true, false, if◌then◌else◌, List, length, slice_index_or, ◌⊎◌, inl, inr, Contains, sym, ap, subst, ◌∙◌, arith}
use Rattle.std.proofs.lemmas.Bool.{cases_lt}
use Rattle.dcv_arena.specs.Arena.{ArenaValue, IsRef, level_of, value_of}
use Rattle.dcv_arena.specs.declared.nodes.Ref.{Ref}
use Rattle.dcv_arena.specs.declared.nodes.Ref.TheVariants.{Leaf, Place}
use Rattle.dcv_refinement.specs.Lists.{Adds, AreLinked, HasList, last_of, listed_at}
use Rattle.dcv_refinement.specs.Leads.{row_at}
use Rattle.dcv_refinement.specs.Index.{IsWithin, IsAbove, GoesDown, IsListedRow}
use Rattle.dcv_refinement.specs.declared.lists.Lists.{Lists}
use Rattle.dcv_refinement.proofs.ChainFacts.{GetsNumber, StaysSame}

-- the leaves' lists change, and the places' do not, or the other way round
module _ (old new : Lists) (linked : AreLinked old) (at number : ℕ) where
  pub adds_leaf : GetsNumber old.entries.items old.leaves.items at number new.entries.items new.leaves.items
      → StaysSame old.entries.items old.places.items new.entries.items new.places.items → Adds old new (Leaf at) number
  adds_leaf gets stays = record {
    linked = record { earlier = gets.earlier; lasts = lasts };
    leaves = gets.size;
    places = stays.size;
    keeps = keeps;
    has = gets.has;
    only = only;
  }
    where
      lasts : (ref : Ref) → last_of new ref ≤ length new.entries.items
      lasts (Leaf leaf) = gets.within leaf
      lasts (Place place) = stays.within place

      keeps : (ref : Ref) (one : ℕ) → Contains (listed_at old ref) one → Contains (listed_at new ref) one
      keeps (Leaf leaf) one c = gets.keeps leaf one c
      keeps (Place place) one c = subst (λ list. Contains list one) (sym (stays.same place)) c

      only : (ref : Ref) (one : ℕ) → Contains (listed_at new ref) one → Contains (listed_at old ref) one ⊎ ((ref ≡ Leaf at) × (one ≡ number))
      only (Leaf leaf) one c = elim (gets.only leaf one c) [
        | inl before ↦ inl before
        | inr here ↦ inr (ap Leaf here.0, here.1)
      ]
      only (Place place) one c = inl (subst (λ list. Contains list one) (stays.same place) c)

  pub adds_place : GetsNumber old.entries.items old.places.items at number new.entries.items new.places.items
      → StaysSame old.entries.items old.leaves.items new.entries.items new.leaves.items → Adds old new (Place at) number
  adds_place gets stays = record {
    linked = record { earlier = gets.earlier; lasts = lasts };
    leaves = stays.size;
    places = gets.size;
    keeps = keeps;
    has = gets.has;
    only = only;
  }
    where
      lasts : (ref : Ref) → last_of new ref ≤ length new.entries.items
      lasts (Leaf leaf) = stays.within leaf
      lasts (Place place) = gets.within place

      keeps : (ref : Ref) (one : ℕ) → Contains (listed_at old ref) one → Contains (listed_at new ref) one
      keeps (Leaf leaf) one c = subst (λ list. Contains list one) (sym (stays.same leaf)) c
      keeps (Place place) one c = gets.keeps place one c

      only : (ref : Ref) (one : ℕ) → Contains (listed_at new ref) one → Contains (listed_at old ref) one ⊎ ((ref ≡ Place at) × (one ≡ number))
      only (Leaf leaf) one c = inl (subst (λ list. Contains list one) (stays.same leaf) c)
      only (Place place) one c = elim (gets.only place one c) [
        | inl before ↦ inl before
        | inr here ↦ inr (ap Place here.0, here.1)
      ]

-- ---- the nodes above

-- there is a list for each leaf that is a state and each place
pub has_list : (arena : ArenaValue) (count : ℕ) (lists : Lists) (ref : Ref) → length lists.leaves.items ≡ count → length lists.places.items ≡ length arena.nodes → IsWithin arena count ref → HasList lists ref
has_list arena count lists (Leaf state) leaves places within = omega (arith, leaves, within)
has_list arena count lists (Place place) leaves places within = omega (arith, places, within)

-- what a node goes to, as `split` answers it
pub record GoesTo (arena : ArenaValue) (place slot : ℕ) (lo hi : Ref) : Type 0 where
  pub lo_is_ref : IsRef arena lo
  pub hi_is_ref : IsRef arena hi
  pub slot_is : slot ≡ level_of arena (Place place)
  pub inner : slot < arena.slots
  pub lo_level : slot < level_of arena lo
  pub hi_level : slot < level_of arena hi
  pub value : (letter : List Bool) → value_of arena (Place place) letter ≡ (if slice_index_or letter slot false then value_of arena hi letter else value_of arena lo letter)

module _ (arena : ArenaValue) (count : ℕ) (old new : Lists) (ref : Ref) (number : ℕ) (adds : Adds old new ref number) where
  above_kept : (place : ℕ) → IsAbove arena count old place → IsAbove arena count new place
  above_kept place was = record {
    slot = was.slot;
    lo = was.lo;
    hi = was.hi;
    lo_is_ref = was.lo_is_ref;
    hi_is_ref = was.hi_is_ref;
    inner = was.inner;
    lo_level = was.lo_level;
    hi_level = was.hi_level;
    value = was.value;
    at_lo = λ within. adds.keeps was.lo place (was.at_lo within);
    at_hi = λ within. adds.keeps was.hi place (was.at_hi within);
  }

  only_kept : (P : Ref → ℕ → Type 0) → P ref number → ((at : Ref) (one : ℕ) → Contains (listed_at old at) one → P at one) → (at : Ref) (one : ℕ) → Contains (listed_at new at) one → P at one
  only_kept P own was at one c = elim (adds.only at one c) [
    | inl before ↦ was at one before
    | inr here ↦ subst (λ (entry : Ref × ℕ). P entry.0 entry.1) (λ i. (sym here.0 i, sym here.1 i)) own
  ]

-- so many of the nodes are listed at what they go to
pub record AreFirstAbove (arena : ArenaValue) (count done : ℕ) (nodes : Lists) : Type 0 where
  pub linked : AreLinked nodes
  pub leaves : length nodes.leaves.items ≡ count
  pub places : length nodes.places.items ≡ length arena.nodes
  pub above : (place : ℕ) → place < done → IsAbove arena count nodes place
  pub only : (at : Ref) (place : ℕ) → Contains (listed_at nodes at) place → GoesDown arena place at

module _ (arena : ArenaValue) (count place slot : ℕ) (lo hi : Ref) (within : place < length arena.nodes) (goes : GoesTo arena place slot lo hi)
    (old middle new : Lists) (at_lo : Adds old middle lo place) (at_hi : Adds middle new hi place) (was : AreFirstAbove arena count place old) where
  this_above : IsAbove arena count new place
  this_above = record {
    slot = slot;
    lo = lo;
    hi = hi;
    lo_is_ref = goes.lo_is_ref;
    hi_is_ref = goes.hi_is_ref;
    inner = omega (arith, goes.slot_is, goes.inner);
    lo_level = omega (arith, goes.slot_is, goes.lo_level);
    hi_level = omega (arith, goes.slot_is, goes.hi_level);
    value = goes.value;
    at_lo = λ there. at_hi.keeps lo place (at_lo.has (has_list arena count old lo was.leaves was.places there));
    at_hi = λ there. at_hi.has (has_list arena count middle hi (at_lo.leaves ∙ was.leaves) (at_lo.places ∙ was.places) there);
  }

  down_lo : GoesDown arena place lo
  down_lo = record {
    slot = slot;
    side = false;
    within = within;
    inner = goes.inner;
    later = goes.lo_level;
    is_ref = goes.lo_is_ref;
    value = λ letter side. goes.value letter ∙ ap (λ (side : Bool). if side then value_of arena hi letter else value_of arena lo letter) side;
  }

  down_hi : GoesDown arena place hi
  down_hi = record {
    slot = slot;
    side = true;
    within = within;
    inner = goes.inner;
    later = goes.hi_level;
    is_ref = goes.hi_is_ref;
    value = λ letter side. goes.value letter ∙ ap (λ (side : Bool). if side then value_of arena hi letter else value_of arena lo letter) side;
  }

  pub one_above : AreFirstAbove arena count (place + 1) new
  one_above = record {
    linked = at_hi.linked;
    leaves = at_hi.leaves ∙ at_lo.leaves ∙ was.leaves;
    places = at_hi.places ∙ at_lo.places ∙ was.places;
    above = λ one before. elim (cases_lt one place) [
      | inl earlier ↦ above_kept arena count middle new hi place at_hi one (above_kept arena count old middle lo place at_lo one (was.above one earlier))
      | inr last ↦ let same : place ≡ one = omega arith in subst (IsAbove arena count new) same this_above
    ];
    only = only_kept arena count middle new hi place at_hi (λ at one. GoesDown arena one at) down_hi (only_kept arena count old middle lo place at_lo (λ at one. GoesDown arena one at) down_lo was.only);
  }

-- ---- the rows

module _ (arena : ArenaValue) (count : ℕ) (row : ℕ → Ref) (state : ℕ) (old new : Lists) (adds : Adds old new (row state) state) where
  pub row_above : length old.leaves.items ≡ count → length old.places.items ≡ length arena.nodes
      → ((one : ℕ) → one < state → IsWithin arena count (row one) → Contains (listed_at old (row one)) one)
      → (one : ℕ) → one < state + 1 → IsWithin arena count (row one) → Contains (listed_at new (row one)) one
  row_above leaves places was one before within = elim (cases_lt one state) [
    | inl earlier ↦ adds.keeps (row one) one (was one earlier within)
    | inr last ↦
        let same : state ≡ one = omega arith in
        subst (λ one. IsWithin arena count (row one) → Contains (listed_at new (row one)) one) same (λ there. adds.has (has_list arena count old (row state) leaves places there)) within
  ]

  pub row_only : (refs : List Ref) → state < length refs → row_at refs state ≡ row state → ((at : Ref) (one : ℕ) → Contains (listed_at old at) one → IsListedRow refs at one)
      → (at : Ref) (one : ℕ) → Contains (listed_at new at) one → IsListedRow refs at one
  row_only refs within is was = only_kept arena count old new (row state) state adds (λ at one. IsListedRow refs at one) (record { below = within; is = is }) was
