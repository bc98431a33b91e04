use Rattle.std.proofs.Common.{Contains, List, map, subst, sym, ◌∙◌}
use Rattle.dcv_arena.specs.declared.nodes.Ref.{Ref}
use Rattle.dcv_arena.proofs.Members.{Contains-map}
use Rattle.dcv_apply.specs.Remembered.{entry_of_pair}
use Rattle.dcv_apply.specs.declared.keys.Pair.{Pair}
use Rattle.dcv_apply.proofs.MemoFacts.{same_pair}
use Rattle.dcv_apply.proofs.table.Table.root_at.Goals as goal

pub returns-in-Some : goal.returns-in-Some
returns-in-Some c =
    let items = c.args.self.now.entries.items in
    let kept : Pair × Ref = c.in-Some.field-0.now in
    let found = c.in-Some.ensures.lookup.3 in
    let there : Contains items kept = subst (λ (items : List (Pair × Ref)). Contains items kept) c.deref.ensures.value (c.args.place, found.0, sym (found.1 kept)) in
    subst (Contains (map entry_of_pair items)) (same_pair kept.0 c.args.pair kept.1 (sym c.eq.ensures ∙ c.if-eq.true)) (Contains-map entry_of_pair items kept there)
