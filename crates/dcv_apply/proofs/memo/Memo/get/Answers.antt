use Rattle.std.proofs.Common.{map, ◌++◌, Contains, IfSome, inl, inr, subst, ◌∙◌}
use Rattle.dcv_apply.specs.Memo.{MemoValue}
use Rattle.dcv_apply.specs.Remembered.{entry, entry_of, entry_of_pair}
use Rattle.dcv_apply.specs.contracts.keys.KeyPartialEq.TheImpl.{eq-value as key_eq}
use Rattle.dcv_apply.proofs.MemoFacts.{same_entry, found_if, found_in, promoted_were, parts_keep}
use Rattle.dcv_apply.proofs.memo.Memo.get.Goals as goal

pub returns-then-is_some-clause-found : goal.returns-then-is_some-clause-found
returns-then-is_some-clause-found c =
    let found = c.copied-early.result in
    let own = entry c.args.key.now.round c.args.key.now.operands.items in
    let young = map entry_of_pair c.self.inside.younger.entries.items in
    let old = map entry_of_pair c.self.inside.older.entries.items in
    let first = map entry_of c.self.inside.first.entries in
    let later = map entry_of c.self.inside.later.entries in
    subst (λ (memo : MemoValue). IfSome found (λ root. Contains memo.entries (own root))) c.self.view_is
    (found_in young (old ++ (first ++ later)) own found (inr (found_in old (first ++ later) own found (inr (found_in first later own found
    (inl (found_if key_eq.it entry_of same_entry c.self.inside.first.entries c.args.key.now found (c.copied-early.ensures ∙ c.get.ensures.value))))))))

pub returns-clause-found : goal.returns-clause-found
returns-clause-found c =
    let found = c.get-2.result in
    let own = entry c.args.key.now.round c.args.key.now.operands.items in
    let young = map entry_of_pair c.self.inside.younger.entries.items in
    let old = map entry_of_pair c.self.inside.older.entries.items in
    let first = map entry_of c.self.inside.first.entries in
    let later = map entry_of c.self.inside.later.entries in
    subst (λ (memo : MemoValue). IfSome found (λ root. Contains memo.entries (own root))) c.self.view_is
    (found_in young (old ++ (first ++ later)) own found (inr (found_in old (first ++ later) own found (inr (found_in first later own found
    (inr (found_if key_eq.it entry_of same_entry c.self.inside.later.entries c.args.key.now found c.get-2.ensures.value)))))))

pub returns-clause-kept : goal.returns-clause-kept
returns-clause-kept c one there =
    let young = map entry_of_pair c.self.inside.younger.entries.items in
    let old = map entry_of_pair c.self.inside.older.entries.items in
    let first = map entry_of c.self.inside.first.entries in
    let later = map entry_of c.self.inside.later.entries in
    subst (λ (memo : MemoValue). Contains memo.entries one) c.self.view_is
    (parts_keep young (old ++ (first ++ later)) _ (parts_keep old (first ++ later) _ (parts_keep first later _
    (λ one there. promoted_were key_eq.it entry_of same_entry c.self.inside.later.entries c.args.key.now one
    (subst (λ cache. Contains (map entry_of cache.entries) one) c.get-2.ensures.entries there)))) one there)
