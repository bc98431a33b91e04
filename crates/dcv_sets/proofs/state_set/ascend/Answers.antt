use Rattle.std.proofs.Common.{◌≡◌, ◌∙◌, subst, List, ℕ, rules}
use Rattle.std.specs.List.Sorted.{IsPermutation}
use Rattle.smallvec.proofs.SmallVecLemmas.{items-with_items}
use Rattle.dcv_language.specs.StateSet.{set_of}
use Rattle.dcv_sets.proofs.SameSets.{sorted_is_set, ascending_is_set}
use Rattle.dcv_sets.proofs.state_set.ascend.Goals as goal

pub returns-then-is_ascending : goal.returns-then-is_ascending
returns-then-is_ascending c =
    subst (λ (listed : List ℕ). listed ≡ set_of listed) c.as_slice.ensures (ascending_is_set c.as_slice.result.now (c.is_ascending.ensures c.if-is_ascending.true))

pub returns : goal.returns
returns c =
    let sorted = c.sort_unstable.new.self in
    let moved = subst (λ (listed : List ℕ). IsPermutation listed sorted) c.deref_mut.ensures.value c.sort_unstable.ensures.permutation in
    rw (items-with_items c.args.states.now sorted (search rules)) at c.dedup.ensures.items
    ∙ sorted_is_set c.args.states.now.items sorted moved c.sort_unstable.ensures.sorted
