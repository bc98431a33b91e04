use Rattle.std.proofs.Common.{ap, ◌∙◌}
use Rattle.dcv_shelf.specs.Shelf.{table_of_auto}
use Rattle.dcv_shelf.proofs.leaving.auto_of.Goals as goal

pub returns : goal.returns
returns c = ap table_of_auto c.new.ensures ∙ c.in_ok-raw.ensures.table
