-- What is right where an automaton's text is asked for in a version.
--     as_version to file               the file in this version
--     IsConverted to file outcome      the outcome is its text
--     conversion_text pieces           for proofs alone
use Rattle.std.specs.Prelude.{◌≡◌, ℕ, List, [], ◌++◌}
use Rattle.dcv_cli.specs.Common.{AutomatonFile, spelled, Version, One, Two, Done}
use Rattle.dcv_automaton_text.specs.Versions.{first_version, second_version}
use Rattle.dcv_cli.specs.declared.convert.Conversion.{Conversion}
use Rattle.dcv_cli.specs.Outcome.{Outcome}

abbrev pub as_version : Version → AutomatonFile → AutomatonFile
as_version One file = first_version file
as_version Two file = second_version file

pub record IsConverted (to : Version) (file : AutomatonFile) (outcome : Outcome) : Type 0 where
  pub status : outcome.status ≡ Done
  pub says : outcome.out ≡ spelled (as_version to file)
  pub no_message : outcome.err ≡ []

-- for proofs alone: what the pieces are together
abbrev pub conversion_text : Conversion → List ℕ
conversion_text pieces = pieces.head.now ++ (pieces.said.now ++ pieces.end.now)
