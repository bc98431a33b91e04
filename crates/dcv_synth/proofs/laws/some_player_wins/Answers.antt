use Rattle.dcv_synth.proofs.Unbeaten.{held_states_are_not_beaten, unbeaten_states_are_win, unbeaten_states_are_held}
use Rattle.dcv_synth.proofs.laws.some_player_wins.Goals as goal

pub returns : goal.returns
returns c = record { unbeaten = held_states_are_not_beaten; win = unbeaten_states_are_win; held = unbeaten_states_are_held }
