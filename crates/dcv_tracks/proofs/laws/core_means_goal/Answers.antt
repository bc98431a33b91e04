use Rattle.dcv_tracks.proofs.Closing.{goal_holds_on_tracks, core_holds_on_word}
use Rattle.dcv_tracks.proofs.laws.core_means_goal.Goals as goal

pub returns : goal.returns
returns c = record { interval = goal_holds_on_tracks; whole = core_holds_on_word }
