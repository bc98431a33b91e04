-- What is said of stuck words is right for the file: of those of its automaton, and of some that there are.
use Rattle.std.proofs.Common.{◌≡◌, ℕ, length, Option, None, Some, inl, inr, refl, sym, ◌∙◌, subst}
use Rattle.std.specs.Prelude.{◌↔◌}
use Rattle.dcv_word.specs.Behaviour.{Word, IsBehaviour}
use Rattle.dcv_language.specs.Language.{Language}
use Rattle.dcv_language.proofs.Words.{WordLaws}
use Rattle.dcv_syntax.specs.Plain.{PlainFile}
use Rattle.dcv_logic.specs.Models.{models}
use Rattle.dcv_scope.specs.Faults.{fault_of_file}
use Rattle.dcv_scope.specs.Laws.{WordsAreModels}
use Rattle.dcv_dfa.specs.Auto.{IsAuto}
use Rattle.dcv_dfa.specs.Raw.{raw_accepts}
use Rattle.dcv_build.specs.Laws.{MachineAcceptsStep}
use Rattle.dcv_build.specs.declared.builder.Built.{Built}
use Rattle.dcv_explore.specs.declared.explorer.Limits.{Limits}
use Rattle.dcv_stuck.specs.Laws.{LeastStuckOfSameBehaviours, NeverStuckGoesOn}
use Rattle.dcv_stuck.specs.Stuck.{KeepsTo, IsLeastStuckOf, GoesOnForEver}
use Rattle.dcv_stuck.proofs.SomeStuck.{some_least_stuck}
use Rattle.dcv_cli.specs.declared.refused.Which.TheVariants.{Only}
use Rattle.dcv_cli.specs.Budget.{IsBudgeted, WithinBudget}
use Rattle.dcv_cli.specs.Outcome.{Outcome}
use Rattle.dcv_cli.specs.ReadFile.{IsBuilt}
use Rattle.dcv_cli.specs.Stuck.{stuck_outcome, IsStuckReport}
use Rattle.dcv_cli.proofs.SomeReports.{table_of_file, over_or_within}

module _ (goes_on : NeverStuckGoesOn) where
  none_goes_on : (k : ℕ) (L : Language) (least : Option Word) → IsLeastStuckOf k L least
      → (least ≡ None) ↔ ((word : Word) → KeepsTo k L word → GoesOnForEver k L word)
  none_goes_on k L None is = ((λ same. (goes_on k L).0 is), (λ goes. refl))
  none_goes_on k L (Some word) is = (
    (λ same. let wrong : Some word ≡ None = same in cc),
    (λ goes. absurd ((goes_on k L).1 goes word is.stuck)),
  )

  reports : (file : PlainFile) (least : Option Word)
      → IsLeastStuckOf (length file.variables) (models file) least → IsStuckReport file (stuck_outcome least)
  reports file least is =
      record { least = least; is_least = is; goes_on = none_goes_on (length file.variables) (models file) least is; says = refl }

  -- the automaton of the file has its stuck words
  pub built_reports : LeastStuckOfSameBehaviours → (file : PlainFile) (limits : Limits) (built : Built) (least : Option Word)
      → IsAuto built.auto → IsBuilt file limits built
      → IsLeastStuckOf built.auto.arena.slots (raw_accepts built.auto) least → IsBudgeted limits Only IsStuckReport file (stuck_outcome least)
  built_reports move file limits built least auto_is built_is is =
      let of = built_is.automaton in
      WithinBudget built_is.within (reports file least
      (subst (λ k. IsLeastStuckOf k (models file) least) of.slots
      (move built.auto.arena.slots (raw_accepts built.auto) (models file) least
      (λ word b. sym (auto_is.canonical.exact word b) ∙ of.canonical.exact word (subst (λ k. IsBehaviour k word) of.slots b)) is)))

  -- there is something to say, by the canonical table of the file
  pub some_stuck_report : WordLaws → MachineAcceptsStep → WordsAreModels → (limits : Limits) (file : PlainFile)
      → fault_of_file file ≡ None → (outcome : Outcome) × IsBudgeted limits Only IsStuckReport file outcome
  some_stuck_report laws accept models_are limits file none = elim (over_or_within laws accept limits Only IsStuckReport file) [
    | inl over ↦ over
    | inr within ↦
        let (table, (access, canonical)) = table_of_file models_are limits file none within in
        let (least, is) = some_least_stuck (length file.variables) (models file) table access canonical in
        (stuck_outcome least, WithinBudget within (reports file least is))
  ]
