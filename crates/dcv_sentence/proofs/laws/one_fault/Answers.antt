use Rattle.dcv_sentence.proofs.FirstFault.{fault_is_unique}
use Rattle.dcv_sentence.proofs.laws.one_fault.Goals as goal

pub returns : goal.returns
returns c = fault_is_unique
