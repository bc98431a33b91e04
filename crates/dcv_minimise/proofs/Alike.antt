-- States that are alike, in any order and through a third.
use Rattle.std.proofs.Common.{ℕ, List, sym, ◌∙◌}
use Rattle.dcv_dfa.specs.Raw.{RawValue}
use Rattle.dcv_minimise.specs.Rounds.{HaveOneRow, AreAlike}

pub row_turned : (raw : RawValue) (blocks : List ℕ) (first second : ℕ) → HaveOneRow raw blocks first second → HaveOneRow raw blocks second first
row_turned raw blocks first second is = record { leads = λ letter size. sym (is.leads letter size) }

pub row_through : (raw : RawValue) (blocks : List ℕ) (first second third : ℕ) → HaveOneRow raw blocks first second → HaveOneRow raw blocks second third → HaveOneRow raw blocks first third
row_through raw blocks first second third one other = record { leads = λ letter size. one.leads letter size ∙ other.leads letter size }

pub alike_turned : (raw : RawValue) (blocks : List ℕ) (first second : ℕ) → AreAlike raw blocks first second → AreAlike raw blocks second first
alike_turned raw blocks first second is = record { block = sym is.block; row = row_turned raw blocks first second is.row }

pub alike_through : (raw : RawValue) (blocks : List ℕ) (first second third : ℕ) → AreAlike raw blocks first second → AreAlike raw blocks second third → AreAlike raw blocks first third
alike_through raw blocks first second third one other = record { block = one.block ∙ other.block; row = row_through raw blocks first second third one.row other.row }
