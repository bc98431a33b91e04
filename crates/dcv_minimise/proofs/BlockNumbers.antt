-- The numbers of blocks and of states, one after another.
use Rattle.std.proofs.Common.{◌≡◌, ℕ, ◌<◌, List, length, get_or, ap, ◌∙◌, arith}
use Rattle.std.specs.List.{All}
use Rattle.dcv_refinement.specs.Members.{block_of}
use Rattle.dcv_minimise.specs.Classes.{block_at, AreBlockNumbers, AreNumbers}

-- the first so many kept states have given their blocks their numbers
pub record GiveNumbers (blocks kept : List ℕ) (count : ℕ) (numbers : List ℕ) : Type 0 where
  pub beside : length numbers ≡ length blocks
  pub below : All (λ number. number < length kept) numbers
  pub each : (number : ℕ) → number < count → get_or numbers (block_at blocks kept number) 0 ≡ number

-- ---- the numbers of states

-- the numbers of the blocks of the first so many states
pub record HaveNumbers (blocks kept of_block : List ℕ) (count : ℕ) (numbers : List ℕ) : Type 0 where
  pub beside : length numbers ≡ count
  pub below : All (λ number. number < length kept) numbers
  pub each : (state : ℕ) → state < count → get_or numbers state 0 ≡ get_or of_block (block_of blocks state) 0

module _ (blocks kept of_block : List ℕ) (of : AreBlockNumbers blocks kept of_block) where
  pub all_numbered : (count : ℕ) (numbers : List ℕ) → count ≡ length blocks → HaveNumbers blocks kept of_block count numbers → AreNumbers blocks kept numbers
  all_numbered count numbers end have = record {
    beside = have.beside ∙ end;
    below = have.below;
    each = λ state number inside within same.
        have.each state (omega arith) ∙ ap (λ block. get_or of_block block 0) same ∙ of.each number within;
  }
