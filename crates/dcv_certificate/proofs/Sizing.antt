-- Counting the states of each block, one after another.
use Rattle.std.proofs.Common.{◌≡◌, ℕ, zero, suc, ◌<◌, ◌≤◌, ◌==◌, Bool, List, length, get_or, arith}
use Rattle.dcv_refinement.specs.Members.{block_of}
use Rattle.dcv_certificate.specs.Separation.{count_below}
use Rattle.dcv_certificate.proofs.Counting.{one_if_le}

pub count-le : (n : ℕ) (test : ℕ → Bool) → count_below n test ≤ n
count-le zero test = omega arith
count-le (suc n) test = omega (arith, count-le n test, one_if_le (test n))

pub record SizesSoFar (blocks : List ℕ) (done : ℕ) (sizes : List ℕ) : Type 0 where
  pub sizes_are : (block : ℕ) → block < length sizes → get_or sizes block 0 ≡ count_below done (λ state. block_of blocks state == block)

pub size_bound : (blocks : List ℕ) (done : ℕ) (sizes : List ℕ) (block : ℕ) → SizesSoFar blocks done sizes → block < length sizes → get_or sizes block 0 ≤ done
size_bound blocks done sizes block so h = omega (arith, so.sizes_are block h, count-le done (λ state. block_of blocks state == block))
