use Rattle.dcv_tracks.proofs.OneList.{one_list_of_tracks}
use Rattle.dcv_tracks.proofs.laws.one_list_of_tracks.Goals as goal

pub returns : goal.returns
returns c = one_list_of_tracks
