use Rattle.dcv_minimise.proofs.BlockNumbers.{HaveNumbers}
use Rattle.dcv_minimise.proofs.fold.numbers_of.Given as goal

-- the states so far have the numbers of their blocks
abbrev pub invariant-loop-block : goal.invariant-loop-block
invariant-loop-block l = HaveNumbers l.blocks l.kept l.of_block.items l.block-index l.numbers.items
