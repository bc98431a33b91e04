-- The calls of a file system or of a stream, where it exposes their numbers.
--     Calls                        how many opens and how many reads failed, and how many calls there were
--     WhereCounted Step old new    they are exposed before and after, and go by this step; or at neither time
--     OpensAs failed, ReadsAs failed
--                                  an open, a read
--     FailsAs failed               a call whose failures are counted
--     counted count told own       a number that is exposed, or else one's own
use Rattle.std.specs.Prelude.{◌≡◌, ℕ, Bool, IsTrue, Option, None, Some, ⊤}
use Rattle.dcv_io.specs.Faults.{raised, RisesIf}

pub record Calls : Type 0 where
  pub failed_opens : ℕ
  pub failed_reads : ℕ
  pub calls : ℕ

abbrev pub WhereCounted : {X : Type 0} → (X → X → Type 0) → Option X → Option X → Type 0
WhereCounted Step None None = ⊤
WhereCounted Step None (Some new) = ⊥
WhereCounted Step (Some old) None = ⊥
WhereCounted Step (Some old) (Some new) = Step old new

pub record OpensAs (failed : Bool) (old new : Calls) : Type 0 where
  pub opens : RisesIf failed old.failed_opens new.failed_opens
  pub reads : new.failed_reads ≡ old.failed_reads
  pub calls : new.calls ≡ raised old.calls

pub record ReadsAs (failed : Bool) (old new : Calls) : Type 0 where
  pub opens : new.failed_opens ≡ old.failed_opens
  pub reads : RisesIf failed old.failed_reads new.failed_reads
  pub calls : new.calls ≡ raised old.calls

pub record FailsAs (failed : Bool) (old new : ℕ) : Type 0 where
  pub rises : RisesIf failed old new
  pub once : IsTrue failed → new ≡ raised old

abbrev pub counted : {X : Type 0} → (X → ℕ) → Option X → ℕ → ℕ
counted count None own = own
counted count (Some told) own = count told
