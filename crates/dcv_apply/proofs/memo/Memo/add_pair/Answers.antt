use Rattle.std.proofs.Common.{map, ◌++◌, Contains, ◌⊎◌, ◌≡◌, inl, subst}
use Rattle.dcv_apply.specs.Memo.{EntryValue, MemoValue}
use Rattle.dcv_apply.specs.Remembered.{entry_of, entry_of_pair}
use Rattle.dcv_apply.specs.contracts.keys.KeyPartialEq.TheImpl.{eq-value as key_eq}
use Rattle.dcv_apply.proofs.MemoFacts.{same_entry, put_result, added_entries, parts_add}
use Rattle.dcv_apply.proofs.memo.Memo.add_pair.Goals as goal

pub returns-then-len-self-clause-adds : goal.returns-then-len-self-clause-adds
returns-then-len-self-clause-adds c one there =
    let Added : EntryValue → Type 0 = λ one. one ≡ entry_of_pair (c.args.pair, c.args.root) in
    let young = map entry_of_pair c.self.inside.younger.entries.items in
    let old = map entry_of_pair c.self.inside.older.entries.items in
    let first = map entry_of c.self.inside.first.entries in
    let later = map entry_of c.self.inside.later.entries in
    subst (λ (memo : MemoValue). Contains memo.entries one ⊎ Added one) c.self.view_is
    (parts_add young (old ++ (first ++ later)) _ _ Added
    (added_entries entry_of_pair c.self.inside.younger.entries.items c.add.new.self.entries.items (c.args.pair, c.args.root) c.add.ensures.adds)
    (λ one was. inl was) one there)

pub returns-else-len-self-clause-adds : goal.returns-else-len-self-clause-adds
returns-else-len-self-clause-adds c one there =
    let Added : EntryValue → Type 0 = λ one. one ≡ entry_of_pair (c.args.pair, c.args.root) in
    let young = map entry_of_pair c.self.inside.younger.entries.items in
    let old = map entry_of_pair c.self.inside.older.entries.items in
    let first = map entry_of c.self.inside.first.entries in
    let later = map entry_of c.self.inside.later.entries in
    let put = put_result key_eq.it entry_of same_entry c.put.result c.self.inside.later c.put.new.self c.key.result c.args.root c.put.ensures.entries c.put.ensures.err in
    subst (λ (memo : MemoValue). Contains memo.entries one ⊎ Added one) c.self.view_is
    (parts_add young (old ++ (first ++ later)) _ _ Added (λ one was. inl was) (parts_add old (first ++ later) _ _ Added (λ one was. inl was) (parts_add first later _ _ Added (λ one was. inl was)
    (subst (λ own. (one : EntryValue) → Contains (map entry_of c.put.new.self.entries) one → Contains later one ⊎ (one ≡ own)) (c.key.ensures c.args.root) put))) one there)
