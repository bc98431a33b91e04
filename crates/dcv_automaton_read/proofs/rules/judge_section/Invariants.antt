use Rattle.std.proofs.Common.{◌+◌, ◌*◌, ◌^◌, ◌≤◌, map}
use Rattle.dcv_automaton_read.proofs.Judging.{IsLeft}
use Rattle.dcv_automaton_read.proofs.rules.judge_section.Given as goal

abbrev pub invariant-loop-place : goal.invariant-loop-place
invariant-loop-place g l =
    IsLeft g.S.Section.words (g.S.Section.keeps l.section) (map g.S.Section.seen (g.S.Section.lines l.section)) l.first l.place l.number × (l.number ≤ l.first + 8 * l.place)
    × (l.place ≤ 2 ^ 32)
