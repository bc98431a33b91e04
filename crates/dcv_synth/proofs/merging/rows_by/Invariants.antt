use Rattle.std.proofs.Common.{◌≡◌, map, take}
use Rattle.dcv_dfa.specs.Raw.{row_of}
use Rattle.dcv_synth.specs.Merged.{merged_at}
use Rattle.dcv_synth.proofs.merging.rows_by.Given as goal

abbrev pub invariant-loop-state : goal.invariant-loop-state
invariant-loop-state l =
    l.rows.items ≡ map (λ state. merged_at l.part l.answers.win.now l.answers.answers.items l.merged (row_of l.auto' state)) (take l.state-index l.states)
