-- What is put into a target, piece by piece.
--     Put                          how a target stands
--     Holds written faults text p  since the count and what is written were these, the text was put, and p is how the target stands
--     Puts old new bytes           these bytes were put
use Rattle.std.specs.Prelude.{◌≡◌, ℕ, Bool, true, List, [], ◌∷◌, ◌++◌, Option, Some, if◌then◌else◌}
use Rattle.std.specs.Bool.{OnTrue, OnFalse}
use Rattle.std.specs.Borrow.{MutBor, GName}
use Rattle.dcv_io.specs.Faults.{RisesIf, raised}
use Rattle.dcv_io.specs.Written.{Appends, AppendsStrictPrefix}

-- What has left the target for good, what waits in it, whether a write or a call for memory has failed, the count of such failures, whether the
-- last one made failed, and the names of what the target borrows, which show that it still borrows the same.
pub record Put : Type 0 where
  pub out : Option (List ℕ)
  pub held : List ℕ
  pub failed : Bool
  pub faults : ℕ
  pub last_failed : Bool
  pub loans : List GName

-- The target has taken the whole text, of which the end may wait. Or a call has failed, one and no further, and a front of the text, and not all
-- of it, was written.
pub record Holds (written : Option (List ℕ)) (faults : ℕ) (text : List ℕ) (put : Put) : Type 0 where
  pub whole : OnFalse put.failed ((sent : List ℕ) × Appends written put.out sent × (text ≡ sent ++ put.held))
  pub front : OnTrue put.failed (AppendsStrictPrefix written put.out text)
  pub count : RisesIf put.failed faults put.faults
  pub once : OnTrue put.failed (put.faults ≡ raised faults)
  pub stops : OnTrue put.failed (put.last_failed ≡ true)

-- Whatever had been put before, these bytes were put after it.
pub record Puts (old new : Put) (bytes : List ℕ) : Type 0 where
  pub same : new.loans ≡ old.loans
  pub behind : (written : Option (List ℕ)) (faults : ℕ) (text : List ℕ) → Holds written faults text old → Holds written faults (text ++ bytes) new

abbrev pub standing_as : List GName → Option (List ℕ) → ℕ → Bool → List ℕ → Bool → Put
standing_as loans out faults last held failed =
    record { out = out; held = held; failed = failed; faults = faults; last_failed = last; loans = loans }

-- how a block stands in front of this sink
abbrev pub block_put : {S : Type 0} → (S → Option (List ℕ)) → (S → ℕ) → (S → Bool) → MutBor S → List ℕ → Bool → Put
block_put written faults last sink held failed =
    standing_as (sink.ghost_name ∷ []) (written sink.now) (faults sink.now) (last sink.now) held failed

-- how a text in memory stands, which counts that memory has run out as one call
abbrev pub text_put : List ℕ → Bool → Put
text_put bytes failed = standing_as [] (Some bytes) (if failed then 1 else 0) failed [] failed
