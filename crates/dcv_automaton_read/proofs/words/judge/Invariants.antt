use Rattle.std.proofs.Common.{◌≡◌, ◌+◌, drop}
use Rattle.dcv_automaton_read.specs.Judged.{first_false, AreTrue}
use Rattle.dcv_automaton_read.proofs.words.judge.Given as goal

-- what is left decides, and all before it is kept
abbrev pub invariant-loop-kept : goal.invariant-loop-kept
invariant-loop-kept l =
    (l.number ≡ l.first + l.kept-index) × (first_false l.first l.keeps ≡ first_false l.number (drop l.kept-index l.keeps)) × (AreTrue (drop l.kept-index l.keeps) → AreTrue l.keeps)
