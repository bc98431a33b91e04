use Rattle.std.proofs.Common.{false, true, refl}
use Rattle.dcv_apply.proofs.OperandFacts.{part_from, part_number}
use Rattle.dcv_apply.proofs.operands.Sources.parts.Goals as goal

pub returns-in-Place-clause-lo_from : goal.returns-in-Place-clause-lo_from
returns-in-Place-clause-lo_from c =
    let split = c.split-lo.ensures in
    part_from split.arena c.requires c.arena.ensures c.in-Place.is c.split-lo.result.0 split.lo_is_ref split.lo_level

pub returns-in-Place-clause-hi_from : goal.returns-in-Place-clause-hi_from
returns-in-Place-clause-hi_from c =
    let split = c.split-lo.ensures in
    part_from split.arena c.requires c.arena.ensures c.in-Place.is c.split-lo.result.1 split.hi_is_ref split.hi_level

pub returns-in-Place-clause-lo_number : goal.returns-in-Place-clause-lo_number
returns-in-Place-clause-lo_number c =
    let (lo, hi) = c.split-lo.result in
    let split = c.split-lo.ensures in
    part_number split.arena c.requires c.arena.ensures c.in-Place.is lo split.lo_is_ref split.lo_level lo hi false refl split.value

pub returns-in-Place-clause-hi_number : goal.returns-in-Place-clause-hi_number
returns-in-Place-clause-hi_number c =
    let (lo, hi) = c.split-lo.result in
    let split = c.split-lo.ensures in
    part_number split.arena c.requires c.arena.ensures c.in-Place.is hi split.hi_is_ref split.hi_level lo hi true refl split.value
