-- An error of another kind than memory is one of a fault, and the command is the program's.
use Rattle.dcv_command.proofs.Common.{◌≡◌, ◌∙◌, subst, refl, true, false, List, [], ◌∷◌, map, App, Kinds, Text, app_of, fault_of, program, subcommand_rows_of}
use Rattle.std.proofs.Common.{◌≢◌, inl, inr, Result}
use Rattle.clap.specs.Words.{kind_of, FailsBy, HasKind, HasMatchesOf, is_simple_and_free, subcommand_of}
use Rattle.clap.specs.declared.parser.matches.ArgMatches.{ArgMatches}
use Rattle.clap.specs.declared.error.Error.{Error}
use Rattle.clap.specs.declared.error.kind.ErrorKind.TheVariants.{OutOfMemory}
use Rattle.dcv_command.proofs.words.matches_of.Goals as goal

some_kind : (kinds : Kinds) (error : Error) → HasKind kinds error → (kind_of error ≡ OutOfMemory → ⊥) → kinds ≢ []
some_kind [] error (inl memory) other is = other memory
some_kind [] error (inr among) other is = among
some_kind (kind ∷ kinds) error has other is = cc

module _ (app : App) (same : app ≡ program) (words : List Text) where
  fails_by : {T : Type 0} (result : Result T Error) → (is_simple_and_free app ≡ true → FailsBy (fault_of app words) result)
      → FailsBy (fault_of program words) result
  fails_by result kinds = subst (λ one. is_simple_and_free one ≡ true → FailsBy (fault_of one words) result) same kinds refl

  found : (matches : ArgMatches) → HasMatchesOf app words matches → subcommand_rows_of matches ≡ subcommand_of program words
  found matches has = (subst (λ one. HasMatchesOf one words matches) same has refl).1

pub returns-in-Ok-clause-no_fault : goal.returns-in-Ok-clause-no_fault
returns-in-Ok-clause-no_fault g c =
    let words = map g.S.AsStr.text c.args.words.now in
    subst (FailsBy (fault_of program words)) c.in-Ok.is
    (fails_by (app_of c.in_ok-command.command) c.in_ok-command.ensures words c.try_get_matches_from.result c.try_get_matches_from.ensures.kinds)

pub returns-in-Ok-clause-subcommand : goal.returns-in-Ok-clause-subcommand
returns-in-Ok-clause-subcommand g c =
    found (app_of c.in_ok-command.command) c.in_ok-command.ensures (map g.S.AsStr.text c.args.words.now) c.in-Ok.matches c.in-Ok.ensures.matches

pub returns-in_ok-text_of-in-Err-2-clause-usage : goal.returns-in_ok-text_of-in-Err-2-clause-usage
returns-in_ok-text_of-in-Err-2-clause-usage g c =
    let words = map g.S.AsStr.text c.args.words.now in
    let fails = fails_by (app_of c.in_ok-command.command) c.in_ok-command.ensures words c.try_get_matches_from.result c.try_get_matches_from.ensures.kinds in
    let other : kind_of c.in-Err.error ≡ OutOfMemory → ⊥ = λ same. let bad : false ≡ true = rw (c.kind.ensures ∙ same) at c.if-eq.ensures in cc in
    some_kind (fault_of program words) c.in-Err.error (subst (FailsBy (fault_of program words)) c.in-Err.is fails) other
