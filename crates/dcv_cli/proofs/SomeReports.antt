-- Each formula file has a step that is the first over the limits, or an answer: what is right for it is found.
--     table_of_file        the canonical table of the models of a file all of whose steps are within the limits
--     first_over           a step that is over the limits, as it is said
--     over_or_within       the outcome that names the step, or all steps are within the limits
--     some_sweep           the summary of formulas that are drawn
--     some_comparison      what is said of two files, whether they are within or not
use Rattle.dcv_cli.proofs.Common.{◌≡◌, ◌⊎◌, inl, inr, ℕ, Bool, true, false, List, [], ◌∷◌, length, Option, None, refl, sym}
use Rattle.dcv_cli.proofs.Common.{ap, subst, is_none, is_some, option_map, Word, accepts, IsCanonical}
use Rattle.dcv_cli.proofs.Common.{Language, HaveSameBehaviours, ComplementIsCanonical, Table, automaton_of, IsLeastOf}
use Rattle.dcv_cli.proofs.Common.{canonical_for_same_behaviours, WordLaws, PlainFile, models, CoreTree, words_of, PlainStep, core_of_file}
use Rattle.dcv_cli.proofs.Common.{fault_of_file, fault_of_goal, WordsAreModels, fault_of_names, no_bound_shift, TooManyStates, TooManyNodes}
use Rattle.dcv_cli.proofs.Common.{Limits, IsWithinBudget, IsOver, MachineAcceptsStep, difference, NoneWhereIncluded}
use Rattle.dcv_cli.proofs.Common.{summary_text, texts_of, Excess, States, Nodes, Over, Declarations, Budget, Formula, Product, Which, Only}
use Rattle.dcv_cli.proofs.Common.{First, Second, Done, steps_of_file, kind_of, limit_of, IsBudgeted, OverBudget, WithinBudget}
use Rattle.dcv_cli.proofs.Common.{compared, have_same_texts, IsDifference, OverProduct, WithinProduct, IsCompared, Undeclared, Declared}
use Rattle.dcv_cli.proofs.Common.{Outcome, refused, default_limits, IsSwept, some_verdict}
use Rattle.std.specs.List.{AllZip}
use Rattle.dcv_language.specs.Complement.{complement}
use Rattle.dcv_language.specs.Language.{outside}
use Rattle.dcv_language.specs.OperationMachines.{and_machine}
use Rattle.dcv_language.specs.Operations.{intersection}
use Rattle.dcv_language.proofs.OperationRuns.{and_accepts}
use Rattle.dcv_language.proofs.OperationSets.{of_set}
use Rattle.dcv_language.proofs.Sameness.{intersection_same}
use Rattle.dcv_explore.specs.Budget.{Kind, Exceeds}
use Rattle.dcv_sweep.specs.DrawnCores.{drawn_formulas}
use Rattle.dcv_implies.specs.Comparison.{AreTablesOf, product}
use Rattle.dcv_sweep.specs.Findings.{IsFinding, summary_of}
use Rattle.dcv_sweep.specs.declared.findings.Finding.{Finding}
use Rattle.dcv_sweep.specs.declared.findings.Finding.TheVariants.{Over as FoundOver, Within as FoundWithin}
use Rattle.dcv_cli.specs.Budget.{IsFirstOverIn}
use Rattle.dcv_cli.proofs.Comparisons.{count_same, names_same, names_differ, none_is}
use Rattle.dcv_quotient.proofs.RowLimits.{within_or_exceeds, table_of_row}
use Rattle.dcv_existence.proofs.SomeBudgets.{some_budget, table_of_core}
use Rattle.dcv_quotient.proofs.SomeVerdicts.{some_least}
use Rattle.dcv_cli.proofs.VariableNames.{none_of_both}

-- ---- the models of a file

pub table_of_file : WordsAreModels → (limits : Limits) (file : PlainFile) → fault_of_file file ≡ None → IsWithinBudget (steps_of_file file) limits
    → (table : Table) × ((access : List Word) × IsCanonical (length file.variables) (models file) table access)
table_of_file models_are limits file none within =
    let (table, (access, canonical)) = table_of_core (length file.variables) (core_of_file file) limits within in
    let unbound = no_bound_shift file (none_of_both (fault_of_names file) (fault_of_goal file) none).1 in (
      table,
      (
        access,
        canonical_for_same_behaviours (length file.variables) (words_of (core_of_file file)) (models file) table access
            (λ word behaves. models_are file word unbound behaves) canonical,
      ),
    )

-- ---- the first step over the limits

excess_of : Kind → Excess
excess_of TooManyStates = States
excess_of TooManyNodes = Nodes

is_its_kind : (kind : Kind) → kind ≡ kind_of (excess_of kind)
unfolding excess_of
is_its_kind TooManyStates = refl
is_its_kind TooManyNodes = refl

pub first_over : (limits : Limits) (steps : List PlainStep) (kind : Kind) (number : ℕ) → IsOver steps limits kind number → (over : Over) × IsFirstOverIn steps limits over
first_over limits steps kind number is = (
  record { excess = excess_of kind; limit = limit_of (excess_of kind) limits; at = is.step.span.start; step = number },
  record {
    is_over = subst (λ (k : Kind). IsOver steps limits k number) (is_its_kind kind) is;
    limit = refl;
    begins = ap (option_map (λ (step : PlainStep). step.span.start)) is.is_there;
  },
)

module _ (laws : WordLaws) (accept : MachineAcceptsStep) where
  pub over_or_within : (limits : Limits) (which : Which) (RightFor : PlainFile → Outcome → Type 0) (file : PlainFile)
      → ((outcome : Outcome) × IsBudgeted limits which RightFor file outcome) ⊎ IsWithinBudget (steps_of_file file) limits
  over_or_within limits which RightFor file = elim (some_budget (length file.variables) (core_of_file file) limits laws accept) [
    | inl within ↦ inr within
    | inr (kind, (number, is)) ↦ let (over, first) = first_over limits (steps_of_file file) kind number is in inl (refused (Budget over) which, OverBudget over first refl)
  ]

  module _ (outside_is : ComplementIsCanonical) where
    -- ---- formulas that are drawn

    some_finding : (limits : Limits) (k : ℕ) (tree : CoreTree) → (finding : Finding) × IsFinding limits k tree finding
    some_finding limits k tree = elim (some_budget k tree limits laws accept) [
      | inr (kind, (number, is)) ↦ (FoundOver, record { kind = kind; number = number; is_over = is })
      | inl within ↦
          let (table, (access, canonical)) = table_of_core k tree limits within in
          let (verdict, is) = some_verdict laws outside_is k (words_of tree) table access canonical in (
            FoundWithin (record { valid = is_none verdict.counterexample; satisfiable = is_some verdict.example; states = length table }),
            (
              within,
              record {
                verdict = verdict;
                is_verdict = is;
                valid_is = refl;
                satisfiable_is = refl;
                table = table;
                access = access;
                canonical = canonical;
                states_are = refl;
              },
            ),
          )
    ]

    some_findings : (limits : Limits) (k : ℕ) (trees : List CoreTree) → (findings : List Finding) × AllZip (IsFinding limits k) trees findings
    some_findings limits k [] = ([], tt)
    some_findings limits k (tree ∷ trees) =
        let one = some_finding limits k tree in
        let others = some_findings limits k trees in
        (one.0 ∷ others.0, (one.1, others.1))

    pub some_sweep : (seed count : ℕ) → (outcome : Outcome) × IsSwept seed count outcome
    some_sweep seed count =
        let (findings, found) = some_findings default_limits 3 (drawn_formulas count seed).made in (
          record { status = Done; out = summary_text (summary_of findings); err = [] },
          record {
            summary = summary_of findings;
            is = record { findings = findings; found = found; counted = refl };
            status = refl;
            says = refl;
            no_message = refl;
          },
        )

    module _ (models_are : WordsAreModels) where
      -- ---- two files

      module _ (none_included : NoneWhereIncluded) where
        module _ (limits : Limits) (one other : PlainFile) (k : ℕ) (L M : Language) (first second : Table) (tables : AreTablesOf k L M first second) where
          product_accepts : HaveSameBehaviours k (accepts (and_machine k (automaton_of first) (automaton_of second)).automaton) (difference L M)
          product_accepts =
              of_set (and_machine k (automaton_of first) (automaton_of second)).automaton k (intersection (accepts (automaton_of first)) (accepts (automaton_of second)))
              (difference L M) (and_accepts k (automaton_of first) (automaton_of second))
              (intersection_same k (accepts (automaton_of first)) L (accepts (automaton_of second)) (outside M) tables.first_is.exact tables.second_is.exact)

          least_outside : (table : Table) (access : List Word) → IsCanonical k (accepts (and_machine k (automaton_of first) (automaton_of second)).automaton) table access
              → (least : Option Word) × IsLeastOf k (difference L M) least
          least_outside table access canonical =
              some_least laws k (difference L M) table access
              (canonical_for_same_behaviours k (accepts (and_machine k (automaton_of first) (automaton_of second)).automaton) (difference L M) table access product_accepts canonical)

        some_difference : (limits : Limits) (one other : PlainFile) → texts_of one.variables ≡ texts_of other.variables → fault_of_file one ≡ None → fault_of_file other ≡ None
            → IsWithinBudget (steps_of_file one) limits → IsWithinBudget (steps_of_file other) limits → (outcome : Outcome) × IsDifference limits one other outcome
        some_difference limits one other same here there within within_other =
            let k = length one.variables in
            let (first, (first_access, first_is)) = table_of_file models_are limits one here within in
            let (table, (access, canonical)) = table_of_file models_are limits other there within_other in
            let width = count_same other.variables one.variables (sym same) in
            let second_is = outside_is k (models other) table access (subst (λ n. IsCanonical n (models other) table access) width canonical) in
            let second = complement access table in
            let tables : AreTablesOf k (models one) (models other) first second = record { first_access = first_access; first_is = first_is; second_access = access; second_is = second_is } in
            elim (within_or_exceeds (product k first second) limits) [
              | inr (kind, exceeds) ↦ (
                refused (Product (excess_of kind) (limit_of (excess_of kind) limits)) Only,
                OverProduct (excess_of kind) (record { first = first; second = second; tables = tables; exceeds = subst (λ (e : Kind). Exceeds e (product k first second) limits) (is_its_kind kind) exceeds }) refl,
              )
              | inl fits ↦
                  let found = table_of_row laws (product k first second) limits fits in
                  let (least, is) = least_outside limits one other k (models one) (models other) first second tables found.0 found.1.0 found.1.1 in (
                    compared least,
                    WithinProduct (record { first = first; second = second; tables = tables; within = fits })
                        (record { least = least; is_least = is; included = none_is none_included k (models one) (models other) least is; says = refl }),
                  )
            ]

        pub some_comparison : (limits : Limits) (one other : PlainFile) → fault_of_file one ≡ None → fault_of_file other ≡ None → (outcome : Outcome) × IsCompared limits one other outcome
        some_comparison limits one other here there = by (have_same_texts (texts_of one.variables) (texts_of other.variables)) refl
          where
            within_both : texts_of one.variables ≡ texts_of other.variables → IsWithinBudget (steps_of_file one) limits
                → ((outcome : Outcome) × IsBudgeted limits Second (IsDifference limits one) other outcome) ⊎ IsWithinBudget (steps_of_file other) limits → (outcome : Outcome) × IsCompared limits one other outcome
            within_both same within (inl (outcome, over)) = (outcome, Declared same (WithinBudget within over))
            within_both same within (inr within_other) =
                let (outcome, is) = some_difference limits one other same here there within within_other in
                (outcome, Declared same (WithinBudget within (WithinBudget within_other is)))

            declared : texts_of one.variables ≡ texts_of other.variables
                → ((outcome : Outcome) × IsBudgeted limits First (λ first. IsBudgeted limits Second (IsDifference limits first) other) one outcome) ⊎ IsWithinBudget (steps_of_file one) limits
                → (outcome : Outcome) × IsCompared limits one other outcome
            declared same (inl (outcome, over)) = (outcome, Declared same over)
            declared same (inr within) = within_both same within (over_or_within limits Second (IsDifference limits one) other)

            by : (result : Bool) → result ≡ have_same_texts (texts_of one.variables) (texts_of other.variables) → (outcome : Outcome) × IsCompared limits one other outcome
            by true is =
                declared (names_same one.variables other.variables one other true is refl refl refl)
                (over_or_within limits First (λ first. IsBudgeted limits Second (IsDifference limits first) other) one)
            by false is = (refused (Formula Declarations) Only, Undeclared (names_differ one.variables other.variables one other false is refl refl refl) refl)
