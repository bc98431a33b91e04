use Rattle.std.proofs.Common.{List, map, ◌++◌, Contains, subst}
use Rattle.std.proofs.lemmas.List.Elements.{Contains-append_right}
use Rattle.dcv_arena.specs.declared.nodes.Ref.{Ref}
use Rattle.dcv_apply.specs.Memo.{MemoValue}
use Rattle.dcv_apply.specs.Remembered.{entry_of, entry_of_pair}
use Rattle.dcv_apply.specs.declared.keys.Key.{Key}
use Rattle.dcv_apply.proofs.MemoFacts.{parts_keep}
use Rattle.dcv_apply.proofs.memo.Memo.forget_lists.Goals as goal

pub returns-then-self-gt-MOST_OPERANDS-clause-kept : goal.returns-then-self-gt-MOST_OPERANDS-clause-kept
returns-then-self-gt-MOST_OPERANDS-clause-kept c one there =
    let young = map entry_of_pair c.self.inside.younger.entries.items in
    let old = map entry_of_pair c.self.inside.older.entries.items in
    let first = map entry_of c.self.inside.first.entries in
    let later = map entry_of c.self.inside.later.entries in
    subst (λ (memo : MemoValue). Contains memo.entries one) c.self.view_is
    (parts_keep young (old ++ (first ++ later)) (old ++ later) (parts_keep old (first ++ later) later (Contains-append_right first later)) one
    (subst (λ (entries : List (Key × Ref)). Contains (young ++ (old ++ (map entry_of entries ++ later))) one) c.clear.ensures.empty there))
