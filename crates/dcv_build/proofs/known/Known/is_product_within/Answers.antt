use Rattle.std.proofs.Common.{subst}
use Rattle.dcv_language.specs.OperationMachines.{pair_machine}
use Rattle.dcv_language.specs.Table.{automaton_of}
use Rattle.dcv_explore.specs.Budget.{IsWithin}
use Rattle.dcv_shelf.specs.Stored.{view_table}
use Rattle.dcv_build.specs.Asked.{KnownValue, at_number, plain_tables}
use Rattle.dcv_build.specs.Rows.{pair_row, operand_at}
use Rattle.dcv_build.proofs.Answered.{from_two}
use Rattle.dcv_build.proofs.Settled.{product_within}
use Rattle.dcv_build.proofs.known.Known.is_product_within.Goals as goal

pub returns : goal.returns
returns c is join =
    let inside = c.self.inside in
    let first = c.view-first in
    let second = c.view-second in
    subst (λ (known : KnownValue). IsWithin (pair_row (pair_machine (at_number known.tables c.args.first).slots join
    (operand_at (plain_tables known.tables) c.args.first) (operand_at (plain_tables known.tables) c.args.second))) known.limits) c.self.view_is
    (from_two inside.shelf.tables (λ slots t u. IsWithin (pair_row (pair_machine slots join (automaton_of t) (automaton_of u))) inside.limits) c.args.first c.args.second
    (view_table first.result) (view_table second.result) first.ensures.table second.ensures.table (product_within _ inside.limits (c.cannot_exceed.ensures is join)))
