use Rattle.std.proofs.Common.{◌-◌, sym, subst}
use Rattle.dcv_language.specs.OperationMachines.{pair_machine, chop_machine, star_machine, exists_machine}
use Rattle.dcv_language.specs.Table.{automaton_of}
use Rattle.dcv_logic.specs.Connectives.{joins}
use Rattle.dcv_shelf.specs.Stored.{view_table}
use Rattle.dcv_build.specs.Asked.{KnownValue, AreOperands, SettlesAsked}
use Rattle.dcv_build.specs.Settled.{SettlesUpTo}
use Rattle.dcv_build.specs.declared.asked.Asked.{Asked}
use Rattle.dcv_build.specs.declared.asked.Asked.TheVariants.{Joined}
use Rattle.dcv_build.proofs.Answered.{from_two, from_one, widths_are}
use Rattle.dcv_build.proofs.known.Known.explore.Goals as goal

pub joined-requires : goal.joined-requires
joined-requires c =
    let shelf = c.self.inside.shelf.tables in
    let are = subst (λ (known : KnownValue). AreOperands known.tables (Joined c.in-Joined.connective c.in-Joined.first c.in-Joined.second)) (sym c.self.view_is) (subst (AreOperands c.args.self.now.tables) c.in-Joined.is c.requires) in
    widths_are shelf c.in-Joined.first c.in-Joined.second are (view_table c.view.result) (view_table c.view-in-Joined.result) c.view.ensures.table c.view-in-Joined.ensures.table

pub returns-in-Joined : goal.returns-in-Joined
returns-in-Joined c =
    let inside = c.self.inside in
    subst (λ (known : KnownValue). SettlesAsked c.args.extent known.tables c.args.asked known.limits c.args.step c.joined.result) c.self.view_is
    (subst (λ (asked : Asked). SettlesAsked c.args.extent inside.shelf.tables asked inside.limits c.args.step c.joined.result) (sym c.in-Joined.is)
    (from_two inside.shelf.tables (λ slots t u. SettlesUpTo c.args.extent (pair_machine slots (joins c.in-Joined.connective) (automaton_of t) (automaton_of u)) 0 inside.limits c.args.step c.joined.result)
    c.in-Joined.first c.in-Joined.second (view_table c.view.result) (view_table c.view-in-Joined.result) c.view.ensures.table c.view-in-Joined.ensures.table c.joined.ensures))

pub returns-in-Chop : goal.returns-in-Chop
returns-in-Chop c =
    let inside = c.self.inside in
    subst (λ (known : KnownValue). SettlesAsked c.args.extent known.tables c.args.asked known.limits c.args.step c.chop.result) c.self.view_is
    (subst (λ (asked : Asked). SettlesAsked c.args.extent inside.shelf.tables asked inside.limits c.args.step c.chop.result) (sym c.in-Chop.is)
    (from_two inside.shelf.tables (λ slots t u. SettlesUpTo c.args.extent (chop_machine slots (automaton_of t) (automaton_of u)) 0 inside.limits c.args.step c.chop.result)
    c.in-Chop.first c.in-Chop.second (view_table c.view-in-Chop.result) (view_table c.view-in-Chop-2.result) c.view-in-Chop.ensures.table c.view-in-Chop-2.ensures.table c.chop.ensures))

pub returns-in-Star : goal.returns-in-Star
returns-in-Star c =
    let inside = c.self.inside in
    subst (λ (known : KnownValue). SettlesAsked c.args.extent known.tables c.args.asked known.limits c.args.step c.star.result) c.self.view_is
    (subst (λ (asked : Asked). SettlesAsked c.args.extent inside.shelf.tables asked inside.limits c.args.step c.star.result) (sym c.in-Star.is)
    (from_one inside.shelf.tables (λ slots t. SettlesUpTo c.args.extent (star_machine slots (automaton_of t)) 0 inside.limits c.args.step c.star.result)
    c.in-Star.operand (view_table c.view-in-Star.result) c.view-in-Star.ensures.table c.star.ensures))

pub returns-in-Exists : goal.returns-in-Exists
returns-in-Exists c =
    let inside = c.self.inside in
    subst (λ (known : KnownValue). SettlesAsked c.args.extent known.tables c.args.asked known.limits c.args.step c.some_track.result) c.self.view_is
    (subst (λ (asked : Asked). SettlesAsked c.args.extent inside.shelf.tables asked inside.limits c.args.step c.some_track.result) (sym c.in-Exists.is)
    (from_one inside.shelf.tables (λ slots t. SettlesUpTo c.args.extent (exists_machine (slots - 1) (automaton_of t)) 0 inside.limits c.args.step c.some_track.result)
    c.in-Exists.operand (view_table c.view-in-Exists.result) c.view-in-Exists.ensures.table c.some_track.ensures))
