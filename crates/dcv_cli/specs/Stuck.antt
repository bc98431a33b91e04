-- What is right where it is asked whether what has kept to the requirement of a formula file so far can always go on.
--     stuck_outcome least           what is said, by the least stuck word
--     IsStuckReport file outcome    it is said of the behaviours that model the file
use Rattle.std.specs.Prelude.{◌≡◌, ◌↔◌, [], Option, None, length}
use Rattle.dcv_cli.specs.Common.{Word, PlainFile, models}
use Rattle.dcv_stuck.specs.Stuck.{KeepsTo, IsLeastStuckOf, GoesOnForEver}
use Rattle.dcv_print.specs.Stuck.{stuck_text}
use Rattle.dcv_cli.specs.Outcome.{Outcome}
use Rattle.dcv_cli.specs.Status.{status_of_least}

abbrev pub stuck_outcome : Option Word → Outcome
stuck_outcome least = record { status = status_of_least least; out = stuck_text least; err = [] }

-- No word is stuck exactly where each word that keeps to the requirement can go on for ever.
pub record IsStuckReport (file : PlainFile) (outcome : Outcome) : Type 0 where
  pub least : Option Word
  pub is_least : IsLeastStuckOf (length file.variables) (models file) least
  pub goes_on : (least ≡ None)
      ↔ ((word : Word) → KeepsTo (length file.variables) (models file) word → GoesOnForEver (length file.variables) (models file) word)
  pub says : outcome ≡ stuck_outcome least
