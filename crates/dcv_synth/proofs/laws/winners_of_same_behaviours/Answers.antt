use Rattle.dcv_synth.proofs.SameSets.{wins_over_same_behaviours, beats_over_same_behaviours}
use Rattle.dcv_synth.proofs.laws.winners_of_same_behaviours.Goals as goal

pub returns-clause-wins : goal.returns-clause-wins
returns-clause-wins c = wins_over_same_behaviours

pub returns-clause-beats : goal.returns-clause-beats
returns-clause-beats c = beats_over_same_behaviours
