use Rattle.std.proofs.Common.{map, ◌++◌, Contains, ◌⊎◌, ◌≡◌, inl, subst}
use Rattle.dcv_apply.specs.Memo.{EntryValue, MemoValue}
use Rattle.dcv_apply.specs.Remembered.{entry, entry_of, entry_of_pair}
use Rattle.dcv_apply.specs.contracts.keys.KeyPartialEq.TheImpl.{eq-value as key_eq}
use Rattle.dcv_apply.proofs.MemoFacts.{same_entry, put_result, insert_result, parts_add}
use Rattle.dcv_apply.proofs.memo.Memo.add.Goals as goal

pub returns-then-len-self-clause-adds : goal.returns-then-len-self-clause-adds
returns-then-len-self-clause-adds c one there =
    let Added : EntryValue → Type 0 = λ one. one ≡ entry c.args.key.round c.args.key.operands.items c.args.root in
    let young = map entry_of_pair c.self.inside.younger.entries.items in
    let old = map entry_of_pair c.self.inside.older.entries.items in
    let first = map entry_of c.self.inside.first.entries in
    let later = map entry_of c.self.inside.later.entries in
    subst (λ (memo : MemoValue). Contains memo.entries one ⊎ Added one) c.self.view_is
    (parts_add young (old ++ (first ++ later)) _ _ Added (λ one was. inl was) (parts_add old (first ++ later) _ _ Added (λ one was. inl was) (parts_add first later _ _ Added
    (insert_result key_eq.it entry_of same_entry c.insert.result c.self.inside.first.entries c.insert.new.self.entries c.args.key c.args.root c.insert.ensures.entries c.insert.ensures.err)
    (λ one was. inl was))) one there)

pub returns-else-len-self-clause-adds : goal.returns-else-len-self-clause-adds
returns-else-len-self-clause-adds c one there =
    let Added : EntryValue → Type 0 = λ one. one ≡ entry c.args.key.round c.args.key.operands.items c.args.root in
    let young = map entry_of_pair c.self.inside.younger.entries.items in
    let old = map entry_of_pair c.self.inside.older.entries.items in
    let first = map entry_of c.self.inside.first.entries in
    let later = map entry_of c.self.inside.later.entries in
    subst (λ (memo : MemoValue). Contains memo.entries one ⊎ Added one) c.self.view_is
    (parts_add young (old ++ (first ++ later)) _ _ Added (λ one was. inl was) (parts_add old (first ++ later) _ _ Added (λ one was. inl was) (parts_add first later _ _ Added
    (λ one was. inl was)
    (put_result key_eq.it entry_of same_entry c.put.result c.self.inside.later c.put.new.self c.args.key c.args.root c.put.ensures.entries c.put.ensures.err))) one there)
