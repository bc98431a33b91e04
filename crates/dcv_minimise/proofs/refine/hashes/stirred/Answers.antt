use Rattle.std.proofs.Common.{◌+◌, ◌*◌, ◌%◌, ◌^◌, ap, ◌∙◌}
use Rattle.std.specs.Int.{w64, rotate_left}
use Rattle.dcv_minimise.specs.Hashes.{golden_ratio, mixer, stirred}
use Rattle.dcv_minimise.proofs.refine.hashes.stirred.Goals as goal

pub returns : goal.returns
unfolding stirred
returns c =
    c.rotate_left.ensures
    ∙ ap (λ first. rotate_left w64 ((first + c.args.hi) % 2 ^ 64 * mixer % 2 ^ 64) 32)
    (c.rotate_left-first.ensures ∙ ap (λ slot. rotate_left w64 ((c.args.lo + slot) % 2 ^ 64 * golden_ratio % 2 ^ 64) 29) c.from.ensures)
