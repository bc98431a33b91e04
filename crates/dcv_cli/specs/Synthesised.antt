-- How clauses see what was found where a controller was asked for.
--     status_of_synthesis found   the status of a run that has found it
--     synthesis_text found        what is written of it
--     synthesised found           that run's outcome
use Rattle.std.specs.Prelude.{ℕ, List, []}
use Rattle.dcv_cli.specs.Common.{text_of, Status, Valid, NotValid}
use Rattle.dcv_cli.specs.declared.synth.Synthesis.{Synthesis}
use Rattle.dcv_cli.specs.declared.synth.Synthesis.TheVariants.{Controller, Strategy}
use Rattle.dcv_cli.specs.Outcome.{Outcome}
use Rattle.dcv_cli.specs.Synthesis.{controller_text, strategy_text}

abbrev pub status_of_synthesis : Synthesis → Status
status_of_synthesis (Controller unit) = Valid
status_of_synthesis (Strategy strategy) = NotValid

abbrev pub synthesis_text : Synthesis → List ℕ
synthesis_text (Controller unit) = controller_text (text_of unit)
synthesis_text (Strategy strategy) = strategy_text strategy

abbrev pub synthesised : Synthesis → Outcome
synthesised found = record { status = status_of_synthesis found; out = synthesis_text found; err = [] }
