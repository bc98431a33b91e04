-- A request of the subcommand with this name and these matches is one of the whole.
use Rattle.dcv_command.proofs.Common.{◌≡◌, ◌∙◌, IfOk-weaker, List, Option, None, Some, option_map, Row, Text, found_of, request_in, request_of_subcommand}
use Rattle.std.specs.Prelude.{Box}
use Rattle.std.specs.Box.{box_value}
use Rattle.clap.specs.Words.{rows_of, subcommand_rows}
use Rattle.clap.specs.declared.parser.matches.ArgMatches.TheViews.{out-ArgMatches, out-SubCommand}
use Rattle.clap.specs.declared.parser.matches.SubCommand.{SubCommand}
use Rattle.dcv_command.proofs.words.request_in.Goals as goal

asks_of_whole : {Z : Type 0} (subcommand : Option (Box SubCommand Z)) (name : Text) (rows : List Row)
    → Some name ≡ option_map (λ b. (out-SubCommand (box_value b)).name.now) subcommand → Some rows ≡ option_map (λ pair. pair.1) (subcommand_rows subcommand)
    → request_in name rows ≡ request_of_subcommand (subcommand_rows subcommand)
asks_of_whole None name rows named matched = let bad : Some name ≡ None = named in cc
asks_of_whole (Some b) name rows named matched =
    let one : name ≡ (out-SubCommand (box_value b)).name.now = cc in
    let other : rows ≡ rows_of (found_of (out-SubCommand (box_value b)).matches) = cc in
    λ i. request_in (one i) (other i)

pub returns-in-Some : goal.returns-in-Some
returns-in-Some c =
    IfOk-weaker c.request_named.result _ _ (λ request asked. asked ∙ asks_of_whole (out-ArgMatches c.args.matches.now).subcommand c.in-Some.name.now
    (rows_of (found_of c.in-Some.matches.now)) c.in-Some.ensures.name c.in-Some.ensures.rows) c.request_named.ensures
