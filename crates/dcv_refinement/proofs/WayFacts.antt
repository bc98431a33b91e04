-- What is marked and looked at on the way up leads to the leaves.
use Rattle.std.proofs.Common.{◌≡◌, ◌≢◌, ℕ, ◌<◌, ◌≤◌, ◌+◌, false, List, [], ◌++◌, length, replicate, set, eqb, get_or, ◌⊎◌, inl, inr, Contains, sym, subst, ◌∙◌, arith}
use Rattle.std.specs.List.{IsDistinct}
use Rattle.std.proofs.lemmas.Bool.{eqb-true}
use Rattle.std.proofs.lemmas.List.{get_or-set_same, get_or-set_other, length-set, length-replicate}
use Rattle.std.proofs.lemmas.List.Elements.{All-contains, All-append}
use Rattle.std.proofs.lemmas.List.Folds.{Any-from_list_any}
use Rattle.std.proofs.lemmas.Map.Steps.{length-le_from_distinct_below}
use Rattle.dcv_arena.specs.Arena.{ArenaValue, IsArena, value_of}
use Rattle.dcv_arena.specs.declared.nodes.Ref.{Ref}
use Rattle.dcv_arena.specs.declared.nodes.Ref.TheVariants.{Leaf, Place}
use Rattle.dcv_arena.proofs.Refs.{AgreeFrom, ignores_earlier}
use Rattle.dcv_refinement.proofs.ChainFacts.{last_within}
use Rattle.dcv_refinement.specs.Lists.{listed_at}
use Rattle.dcv_refinement.specs.Leads.{index_of, IndexedRows, LeadsInto, IsRowInto}
use Rattle.dcv_refinement.specs.Index.{GoesDown, IsIndex, IsMet, IsMarked}
use Rattle.dcv_refinement.specs.declared.lists.Lists.{Lists}
use Rattle.dcv_refinement.proofs.MarkFacts.{all_from_contains}

module _ (arena : ArenaValue) (is : IsArena arena) (refs : List Ref) (leaves : List ℕ) where
  -- a node leads where the ref does that it goes to
  pub step_up : (place : ℕ) (ref : Ref) → GoesDown arena place ref → LeadsInto (index_of arena refs) leaves ref → LeadsInto (index_of arena refs) leaves (Place place)
  step_up place ref down leads =
      let letter = set leads.letter down.slot down.side in
      let size : down.slot < length leads.letter = omega (arith, down.inner, leads.width) in
      let agrees : AgreeFrom (down.slot + 1) letter leads.letter = λ slot later.
      let other : slot ≢ down.slot = λ e. omega arith in
      get_or-set_other leads.letter down.slot slot down.side false other in
      let same : value_of arena (Place place) letter ≡ value_of arena ref leads.letter =
      down.value letter (get_or-set_same leads.letter down.slot down.side false size)
      ∙ ignores_earlier arena is.reduced (down.slot + 1) ref down.is_ref (omega (arith, down.later)) letter leads.letter agrees in
      record {
        is_ref = down.within;
        letter = letter;
        width = length-set leads.letter down.slot down.side ∙ leads.width;
        below = subst (λ number. number < length refs) (sym same) leads.below;
        leaf = subst (Contains leaves) (sym same) leads.leaf;
      }

  -- where something is listed, the ref that was met leads to a leaf
  pub leads_listed : (lists : Lists) (ref : Ref) (x : ℕ) → length lists.leaves.items ≡ length refs → Contains (listed_at lists ref) x → IsMet (index_of arena refs) leaves ref
      → LeadsInto (index_of arena refs) leaves ref
  leads_listed lists (Leaf leaf) x size c met = record {
    is_ref = tt;
    letter = replicate arena.slots false;
    width = length-replicate arena.slots false;
    below = omega (arith, size, last_within lists.entries.items lists.leaves.items leaf x c);
    leaf = met;
  }
  leads_listed lists (Place place) x size c met = met

module _ (arena : ArenaValue) (refs : List Ref) (nodes rows : Lists) (index : IsIndex arena refs nodes rows) (leaves : List ℕ) where
  pub few_marked : (marked looked : List ℕ) → IsMarked (index_of arena refs) leaves marked looked → length marked ≤ length arena.nodes
  few_marked marked looked is =
      length-le_from_distinct_below marked (length arena.nodes) is.once
      (λ q found.
      let one = Any-from_list_any (eqb q) marked found in
      let same = eqb-true q one.1 one.4 in
      let inside : get_or marked one.0 one.1 < length arena.nodes = (is.nodes one.0 one.1 one.2).is_ref in
      omega (arith, same, one.3, inside))

  pub marked_after : (ref : Ref) → IsMet (index_of arena refs) leaves ref → (marked looked new_marked : List ℕ) → IsMarked (index_of arena refs) leaves marked looked
      → ((place : ℕ) → Contains new_marked place → Contains marked place ⊎ Contains (listed_at nodes ref) place) → IsDistinct eqb new_marked
      → IsMarked (index_of arena refs) leaves new_marked (looked ++ listed_at rows ref)
  marked_after ref met marked looked new_marked was only once = record {
    nodes = all_from_contains (λ place. LeadsInto (index_of arena refs) leaves (Place place)) new_marked (λ place c. elim (only place c) [
      | inl old ↦ All-contains (λ place. LeadsInto (index_of arena refs) leaves (Place place)) marked place was.nodes old
      | inr new ↦ step_up arena index.of_nodes.arena_is refs leaves place ref (index.of_nodes.only ref place new)
          (leads_listed arena index.of_nodes.arena_is refs leaves nodes ref place index.of_nodes.leaves new met)
    ]);
    once = once;
    rows = All-append (IsRowInto (index_of arena refs) leaves) looked (listed_at rows ref) was.rows
        (all_from_contains (IsRowInto (index_of arena refs) leaves) (listed_at rows ref) (λ row c.
        let listed = index.of_rows.only ref row c in
        record {
          below = listed.below;
          leads = subst (LeadsInto (index_of arena refs) leaves) (sym listed.is) (leads_listed arena index.of_nodes.arena_is refs leaves rows ref row index.of_rows.leaves c met);
        }));
  }

-- on the way's first step nothing is marked
pub none_marked : (index : IndexedRows) (leaves marked looked : List ℕ) → marked ≡ [] → looked ≡ [] → IsMarked index leaves marked looked
unfolding IsDistinct
none_marked index leaves marked looked none empty = subst (λ (lists : List ℕ × List ℕ). IsMarked index leaves lists.0 lists.1) (λ i. (sym none i, sym empty i)) (record {
  nodes = λ k d inside. absurd (omega (arith, inside));
  once = tt;
  rows = λ k d inside. absurd (omega (arith, inside));
})
