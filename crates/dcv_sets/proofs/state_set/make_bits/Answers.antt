use Rattle.std.proofs.Common.{ap, length, arith}
use Rattle.dcv_sets.proofs.SetBits.{fits_kept, length-bits_of}
use Rattle.dcv_sets.proofs.state_set.make_bits.Goals as goal

pub bits_from-requires : goal.bits_from-requires
bits_from-requires c = fits_kept c.requires.ascends c.as_slice-2.ensures c.as_slice.ensures c.width.ensures.is

pub returns-clause-width : goal.returns-clause-width
returns-clause-width c = omega (arith, ap length c.in_ok-words.ensures, length-bits_of c.width.result c.as_slice-2.result.now, c.width.ensures.bound)
