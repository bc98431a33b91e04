use Rattle.dcv_cli.proofs.Common.{length}
use Rattle.dcv_cli.proofs.formula_file.+have_same_names.Given as goal

abbrev pub decreases-have_same_names : goal.decreases-have_same_names
decreases-have_same_names l = length l.names.now
