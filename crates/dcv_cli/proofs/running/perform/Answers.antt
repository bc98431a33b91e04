-- What is right for the file is right for the request. Where formulas are drawn, the files are as they were.
use Rattle.std.specs.Borrow.{Bor}
use Rattle.dcv_cli.proofs.Common.{List, map, subst, ℕ}
use Rattle.dcv_cli.specs.Common.{Set}
use Rattle.dcv_cli.specs.Outside.{of_files, outside}
use Rattle.dcv_cli.specs.Performed.{PerformsRequest}
use Rattle.dcv_cli.proofs.running.perform.Goals as goal

pub returns-in-Report : goal.returns-in-Report
returns-in-Report g c = rw c.in-Report.is c.over_formula.ensures

pub returns-in-Certify : goal.returns-in-Certify
returns-in-Certify g c = rw c.in-Certify.is c.over_automaton.ensures

pub returns-in-Convert : goal.returns-in-Convert
returns-in-Convert g c = rw c.in-Convert.is c.over_automaton-in-Convert.ensures

pub returns-in-Stuck : goal.returns-in-Stuck
returns-in-Stuck g c = rw c.in-Stuck.is c.over_formula-in-Stuck.ensures

pub returns-in-Synth : goal.returns-in-Synth
returns-in-Synth g c = rw c.in-Synth.is c.over_formula-in-Synth.ensures

pub returns-in-Sweep : goal.returns-in-Sweep
returns-in-Sweep g c =
    rw c.in-Sweep.is (c.sweep_formulas.ensures (of_files g.F.Files c.args.files.now))

pub returns-in-Set : goal.returns-in-Set
returns-in-Set g c =
    rw c.in-Set.is
    (subst (λ (names : List (Bor (List ℕ))). PerformsRequest (Set c.in-Set.asked (map (λ (name : Bor (List ℕ)). name.now) names) c.in-Set.limits c.in-Set.tuples) c.decide_set.result
    (outside g.F.Files g.O.Sink c.args.files.now c.args.out.now) (outside g.F.Files g.O.Sink c.decide_set.new.files c.decide_set.new.out)) c.deref.ensures.value c.decide_set.ensures)
