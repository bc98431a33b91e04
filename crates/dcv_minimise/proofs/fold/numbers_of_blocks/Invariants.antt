use Rattle.dcv_minimise.proofs.BlockNumbers.{GiveNumbers}
use Rattle.dcv_minimise.proofs.fold.numbers_of_blocks.Given as goal

-- the kept states so far have given their blocks their numbers
abbrev pub invariant-loop-number : goal.invariant-loop-number
invariant-loop-number l = GiveNumbers l.blocks l.kept l.number l.numbers.items
