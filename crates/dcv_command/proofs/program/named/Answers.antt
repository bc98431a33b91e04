use Rattle.dcv_command.proofs.Common.{◌∙◌, ap, IfOk-weaker}
use Rattle.clap.specs.Simple.{app_of_fields}
use Rattle.dcv_command.proofs.program.named.Goals as goal

pub returns : goal.returns
returns c = IfOk-weaker c.bin_name.result _ _ (λ command is. ap app_of_fields is.0 ∙ c.new.ensures.app) c.bin_name.ensures
