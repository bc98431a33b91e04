use Rattle.std.proofs.Common.{ℕ, ap, sym, subst, ◌∙◌}
use Rattle.dcv_language.specs.Automaton.{WorkingMachine}
use Rattle.dcv_language.specs.OperationMachines.{pair_machine}
use Rattle.dcv_language.specs.Table.{automaton_of}
use Rattle.dcv_logic.specs.Connectives.{joins}
use Rattle.dcv_shelf.specs.Stored.{view_table}
use Rattle.dcv_build.specs.Settled.{SettlesUpTo}
use Rattle.dcv_build.proofs.operations.joined.Goals as goal

pub returns-in-And : goal.returns-in-And
returns-in-And c =
    let first = automaton_of (view_table c.args.first).table in
    let second = automaton_of (view_table c.args.second).table in
    subst (λ (machine : WorkingMachine (ℕ × ℕ)). SettlesUpTo c.args.extent machine 0 c.args.limits c.args.step c.settle.result)
    (c.new.ensures ∙ ap (λ connective. pair_machine c.args.first.stored.slots (joins connective) first second) (sym c.in-And.is)) c.settle.ensures

pub returns-in-Or : goal.returns-in-Or
returns-in-Or c =
    let first = automaton_of (view_table c.args.first).table in
    let second = automaton_of (view_table c.args.second).table in
    subst (λ (machine : WorkingMachine (ℕ × ℕ)). SettlesUpTo c.args.extent machine 0 c.args.limits c.args.step c.settle-in-Or.result)
    (c.new-in-Or.ensures ∙ ap (λ connective. pair_machine c.args.first.stored.slots (joins connective) first second) (sym c.in-Or.is)) c.settle-in-Or.ensures

pub returns-in-Iff : goal.returns-in-Iff
returns-in-Iff c =
    let first = automaton_of (view_table c.args.first).table in
    let second = automaton_of (view_table c.args.second).table in
    subst (λ (machine : WorkingMachine (ℕ × ℕ)). SettlesUpTo c.args.extent machine 0 c.args.limits c.args.step c.settle-in-Iff.result)
    (c.new-in-Iff.ensures ∙ ap (λ connective. pair_machine c.args.first.stored.slots (joins connective) first second) (sym c.in-Iff.is)) c.settle-in-Iff.ensures
