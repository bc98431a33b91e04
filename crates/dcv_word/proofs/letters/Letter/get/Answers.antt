use Rattle.std.proofs.Common.{false, sym, arith}
use Rattle.std.proofs.lemmas.Option.{get_or_from_slice_get}
use Rattle.dcv_word.proofs.Bits.{width_of, slot_of}
use Rattle.dcv_word.proofs.letters.Letter.get.Goals as goal

pub overflow_sub-result-2 : goal.overflow_sub-result-2
overflow_sub-result-2 c = omega (arith, width_of _ _ _ c.self.view_is)

pub returns-clause-found : goal.returns-clause-found
returns-clause-found c = slot_of _ _ c.args.slot _ c.self.view_is c.requires

pub returns-clause-value : goal.returns-clause-value
returns-clause-value c =
    sym (get_or_from_slice_get c.args.self.now c.args.slot _ false (slot_of _ _ c.args.slot _ c.self.view_is c.requires))
