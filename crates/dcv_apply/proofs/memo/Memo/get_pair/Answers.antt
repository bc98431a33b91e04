use Rattle.std.proofs.Common.{map, ◌++◌, Contains, IfSome, inl, inr, subst}
use Rattle.dcv_arena.specs.declared.nodes.Ref.{Ref}
use Rattle.dcv_apply.specs.Memo.{EntryValue, MemoValue}
use Rattle.dcv_apply.specs.Remembered.{entry_of, entry_of_pair}
use Rattle.dcv_apply.proofs.MemoFacts.{found_in}
use Rattle.dcv_apply.proofs.memo.Memo.get_pair.Goals as goal

pub returns-then-is_some-clause-found : goal.returns-then-is_some-clause-found
returns-then-is_some-clause-found c =
    let found = c.get-young.result in
    let own : Ref → EntryValue = λ root. entry_of_pair (c.args.pair.now, root) in
    let young = map entry_of_pair c.self.inside.younger.entries.items in
    let old = map entry_of_pair c.self.inside.older.entries.items in
    let first = map entry_of c.self.inside.first.entries in
    let later = map entry_of c.self.inside.later.entries in
    subst (λ (memo : MemoValue). IfSome found (λ root. Contains memo.entries (own root))) c.self.view_is
    (found_in young (old ++ (first ++ later)) own found
    (inl c.get-young.ensures))

pub returns-then-is_some-2-clause-found : goal.returns-then-is_some-2-clause-found
returns-then-is_some-2-clause-found c =
    let found = c.get-old.result in
    let own : Ref → EntryValue = λ root. entry_of_pair (c.args.pair.now, root) in
    let young = map entry_of_pair c.self.inside.younger.entries.items in
    let old = map entry_of_pair c.self.inside.older.entries.items in
    let first = map entry_of c.self.inside.first.entries in
    let later = map entry_of c.self.inside.later.entries in
    subst (λ (memo : MemoValue). IfSome found (λ root. Contains memo.entries (own root))) c.self.view_is
    (found_in young (old ++ (first ++ later)) own found (inr (found_in old (first ++ later) own found
    (inl c.get-old.ensures))))
