use Rattle.std.proofs.Common.{map, ◌++◌, Contains, IfSome, inr, subst}
use Rattle.dcv_arena.specs.declared.nodes.Ref.{Ref}
use Rattle.dcv_apply.specs.Memo.{EntryValue, MemoValue}
use Rattle.dcv_apply.specs.Remembered.{entry_of, entry_of_pair}
use Rattle.dcv_apply.specs.contracts.keys.KeyPartialEq.TheImpl.{eq-value as key_eq}
use Rattle.dcv_apply.proofs.MemoFacts.{same_entry, found_if, found_in, promoted_were, parts_keep}
use Rattle.dcv_apply.proofs.memo.Memo.get_late.Goals as goal

pub returns-clause-found : goal.returns-clause-found
returns-clause-found c =
    let found = c.get.result in
    let own : Ref → EntryValue = λ root. entry_of_pair (c.args.pair.now, root) in
    let young = map entry_of_pair c.self.inside.younger.entries.items in
    let old = map entry_of_pair c.self.inside.older.entries.items in
    let first = map entry_of c.self.inside.first.entries in
    let later = map entry_of c.self.inside.later.entries in
    let there = found_if key_eq.it entry_of same_entry c.self.inside.later.entries c.key.result found c.get.ensures.value in
    subst (λ (memo : MemoValue). IfSome found (λ root. Contains memo.entries (own root))) c.self.view_is
    (found_in young (old ++ (first ++ later)) own found (inr (found_in old (first ++ later) own found (inr (found_in first later own found
    (inr (subst (λ (at : Ref → EntryValue). IfSome found (λ root. Contains later (at root))) (λ i root. c.key.ensures root i) there)))))))

pub returns-clause-kept : goal.returns-clause-kept
returns-clause-kept c one there =
    let young = map entry_of_pair c.self.inside.younger.entries.items in
    let old = map entry_of_pair c.self.inside.older.entries.items in
    let first = map entry_of c.self.inside.first.entries in
    let later = map entry_of c.self.inside.later.entries in
    subst (λ (memo : MemoValue). Contains memo.entries one) c.self.view_is
    (parts_keep young (old ++ (first ++ later)) _ (parts_keep old (first ++ later) _ (parts_keep first later _
    (λ one there. promoted_were key_eq.it entry_of same_entry c.self.inside.later.entries c.key.result one
    (subst (λ cache. Contains (map entry_of cache.entries) one) c.get.ensures.entries there)))) one there)
