-- Where `clap` finds no fault, the words ask for something.
use Rattle.dcv_command.proofs.Common.{◌≡◌, ◌∙◌, ap, true, program, takes, sym, map, option_map, subcommand_rows_of}
use Rattle.std.proofs.Common.{IfErr, rules}
use Rattle.std.proofs.lemmas.Result.{IfErr-weaker}
use Rattle.dcv_command.specs.Request.{IsTaken}
use Rattle.dcv_command.specs.Seen.{asked_by, IsUsageOnlyWhere}
use Rattle.dcv_command.specs.declared.words.WordsFault.{WordsFault}
use Rattle.dcv_command.specs.declared.words.WordsFault.TheVariants.{Usage, Memory}
use Rattle.dcv_command.proofs.Ranges.{request_is_in_range}
use Rattle.dcv_command.proofs.TakenWords.{matches_ask, taken_words_are_command_lines}
use Rattle.dcv_command.proofs.words.read_words.Goals as goal

pub unreachable-requires : goal.unreachable-requires
unreachable-requires g c =
    matches_ask (map g.S.AsStr.text c.args.words.now) (subcommand_rows_of c.in_ok-matches.matches) c.in_ok-matches.ensures.no_fault c.in_ok-matches.ensures.subcommand
    (ap (option_map asked_by) (sym c.in-None.is) ∙ c.in_ok-request.ensures)

pub returns-clause-limits : goal.returns-clause-limits
returns-clause-limits g c = request_is_in_range (subcommand_rows_of c.in_ok-matches.matches) (asked_by c.in-Some.request)
    (sym c.in_ok-request.ensures ∙ ap (option_map asked_by) c.in-Some.is)

only_where : (P Q : Type 0) → (P → Q) → (fault : WordsFault) → IsUsageOnlyWhere P fault → IsUsageOnlyWhere Q fault
only_where P Q so (Usage text) p = so p
only_where P Q so Memory p = tt

pub returns-in_err-matches-clause-passes : goal.returns-in_err-matches-clause-passes
returns-in_err-matches-clause-passes g c =
    let words = map g.S.AsStr.text c.args.words.now in
    let usage : IfErr c.from_residual.result (IsUsageOnlyWhere (¬ (IsTaken words))) = search rules in
    IfErr-weaker c.from_residual.result (IsUsageOnlyWhere (¬ (IsTaken words))) (IsUsageOnlyWhere (¬ (takes program words ≡ true)))
    (only_where (¬ (IsTaken words)) (¬ (takes program words ≡ true)) (λ refused passes. refused ((taken_words_are_command_lines words).0.1 passes))) usage
