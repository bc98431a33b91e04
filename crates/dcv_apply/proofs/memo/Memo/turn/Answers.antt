use Rattle.std.proofs.Common.{List, map, ◌++◌, Contains, subst}
use Rattle.dcv_arena.specs.declared.nodes.Ref.{Ref}
use Rattle.dcv_apply.specs.Memo.{MemoValue}
use Rattle.dcv_apply.specs.Remembered.{entry_of, entry_of_pair}
use Rattle.dcv_apply.specs.declared.keys.Pair.{Pair}
use Rattle.dcv_apply.proofs.MemoFacts.{parts_turn}
use Rattle.dcv_apply.proofs.memo.Memo.turn.Goals as goal

pub returns-then-len-self-clause-kept : goal.returns-then-len-self-clause-kept
returns-then-len-self-clause-kept c one there =
    let young = map entry_of_pair c.self.inside.younger.entries.items in
    let old = map entry_of_pair c.self.inside.older.entries.items in
    let rest = map entry_of c.self.inside.first.entries ++ map entry_of c.self.inside.later.entries in
    subst (λ (memo : MemoValue). Contains memo.entries one) c.self.view_is
    (parts_turn young old rest one
    (subst (λ (parts : List (Pair × Ref) × List (Pair × Ref)). Contains (map entry_of_pair parts.0 ++ (map entry_of_pair parts.1 ++ rest)) one)
    (λ i. (c.clear.ensures i, (c.swap.ensures.y_after i).entries.items)) there))
