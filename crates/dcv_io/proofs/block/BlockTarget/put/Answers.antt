use Rattle.std.proofs.Common.{◌++◌, take, arith, refl, []}
use Rattle.std.proofs.lemmas.Grind.{common_steps}
use Rattle.dcv_io.proofs.Putting.{puts_nothing}
use Rattle.dcv_io.proofs.Putting.{puts_part, left_of_part, puts_all}
use Rattle.dcv_io.proofs.block.BlockTarget.put.Goals as goal

pub loop-rest-preserved : goal.loop-rest-preserved
loop-rest-preserved g c =
    let before = c.loop-rest.invariant in
    let rest = c.loop-rest.rest.now in
    let count = c.fill-count.result in (
      before.0 ++ take count rest,
      puts_part _ _ _ _ _ _ _ _ _ before.0 rest count before.1 c.make_room.ensures.puts c.fill-count.ensures.taken,
      left_of_part _ before.0 rest count before.2,
    )

pub returns : goal.returns
returns g c =
    let before = c.loop-rest.invariant in
    puts_all _ _ c.args.bytes.now before.0 c.loop-rest.rest.now before.1 before.2 (grind (arith, common_steps))

pub loop-rest-init : goal.loop-rest-init
loop-rest-init g c = ([], puts_nothing _, refl)
