use Rattle.std.proofs.Common.{sym, subst, ap, ◌∙◌}
use Rattle.dcv_dfa.specs.Raw.{RawValue, IsRaw, raw_value}
use Rattle.dcv_dfa.specs.Auto.{IsAutoWith}
use Rattle.dcv_shelf.specs.Shelf.{table_of_auto}
use Rattle.dcv_shelf.proofs.Departed.{IsDeparted, departed}
use Rattle.dcv_shelf.proofs.leaving.raw_of.Goals as goal
use Rattle.dcv_shelf.proofs.leaving.raw_of.Goals.{In_ok-accepting}

made : (c : In_ok-accepting) → IsDeparted c.args.arena.now c.args.stored.now (raw_value c.in_ok-rows.rows.arena c.in_ok-rows.rows.rows.items c.in_ok-accepting.accepting.items 0)
made c =
    departed c.args.arena.now c.args.stored.now c.requires c.in_ok-rows.rows.arena c.in_ok-rows.rows.rows.items c.in_ok-rows.ensures.rows c.in_ok-rows.ensures.count
    c.in_ok-accepting.accepting.items c.deref-2.result.now c.deref-2.ensures.value c.in_ok-accepting.ensures

pub new-requires : goal.new-requires
new-requires c = (made c).raw

pub returns-clause-raw : goal.returns-clause-raw
returns-clause-raw c = subst IsRaw (sym c.new.ensures) (made (goal.at.returns-clause-raw c).In_ok-accepting).raw

pub returns-clause-canonical : goal.returns-clause-canonical
returns-clause-canonical c = subst (λ (raw : RawValue). IsAutoWith raw c.args.stored.now.alone) (sym c.new.ensures) (made (goal.at.returns-clause-canonical c).In_ok-accepting).canonical

pub returns-clause-table : goal.returns-clause-table
returns-clause-table c = ap table_of_auto c.new.ensures ∙ (made (goal.at.returns-clause-table c).In_ok-accepting).table
