-- What is built of a core is what is right for the file that it is of.
use Rattle.dcv_cli.proofs.Common.{◌≡◌, ℕ, ◌<◌, Bool, List, length, map, sym, ap, ◌∙◌, subst, arith}
use Rattle.dcv_cli.proofs.Common.{slice_get, option_map, slice_get_within, HaveSameBehaviours, PlainFile, models}
use Rattle.dcv_cli.proofs.Common.{CoreTree, core_of_file, words_of, WordsAreModels, steps_of, TableAcceptsAsTheStates, RawValue, Language}
use Rattle.dcv_cli.proofs.Common.{IsRaw, raw_accepts, table_accepts, IsAuto, table_of_states, Limits, TooManyStates, TooManyNodes}
use Rattle.dcv_cli.proofs.Common.{IsAutomatonOf, IsOver, IsBuilt, steps_of_file, IsAtSomeStep, IsFaultOver, AreInRange, NamesAreShort}
use Rattle.dcv_cli.proofs.Common.{StepsAreFew, AreNames, texts_of, Name, Built, IsRead}
use Rattle.std.proofs.lemmas.Option.{slice_get-map}
use Rattle.dcv_language.specs.Laws.{CanonicalForSameBehaviours}
use Rattle.dcv_core.specs.Steps.{PlainCore, without_core}
use Rattle.dcv_build.specs.Budget.{accepted_by, HasVerdictOfSet}
use Rattle.dcv_explore.specs.Budget.{Kind}
use Rattle.dcv_build.specs.Given.{IsCoreOf, IsCore}
use Rattle.dcv_build.proofs.SameVerdicts.{same_verdict_after}
use Rattle.dcv_build.specs.declared.faults.BuildFault.{BuildFault}
use Rattle.dcv_build.specs.declared.faults.BuildFault.TheVariants.{States as OverStates, Nodes as OverNodes, Memory as NoMemory}
use Rattle.dcv_cli.specs.ReadFile.{CanBePrinted}
use Rattle.dcv_cli.specs.declared.formula_file.FormulaFile.{FormulaFile}
use Rattle.dcv_cli.proofs.StepCounts.{printable_counts}
use Rattle.dcv_cli.proofs.VariableNames.{are_names, no_shift_is_bound}

-- ---- faults of the builder

-- the place of a step that is over the limits is one of the core's
pub at_some_step : (core : PlainCore) (limits : Limits) → IsCore core → (fault : BuildFault)
    → ((tree : CoreTree) → IsCoreOf tree core → IsFaultOver (steps_of core.declared tree) limits fault) → IsAtSomeStep core fault
at_some_step core limits of fault over = by fault (over of.tree of.is)
  where
    there : (kind : Kind) (step : ℕ) → IsOver (steps_of core.declared of.tree) limits kind step → step < length core.steps
    there kind step over = slice_get_within core.steps step (without_core over.step) (ap (λ steps. slice_get steps step) of.is
        ∙ slice_get-map without_core (steps_of core.declared of.tree) step ∙ ap (option_map without_core) over.is_there)

    by : (fault : BuildFault) → IsFaultOver (steps_of core.declared of.tree) limits fault → IsAtSomeStep core fault
    by (OverStates step limit) over = there TooManyStates step over.1
    by (OverNodes step limit) over = there TooManyNodes step over.1
    by NoMemory over = tt

-- ---- verdicts

-- what an automaton accepts are the behaviours of each set whose canonical automaton it is
pub same_as_set : (accept : TableAcceptsAsTheStates) (auto : RawValue) → IsRaw auto → IsAuto auto → (k : ℕ) (L : Language) → IsAutomatonOf k L auto
    → HaveSameBehaviours k (raw_accepts auto) L
same_as_set accept auto raw is k L of word b =
    sym (subst (λ k. HaveSameBehaviours k (table_accepts (table_of_states auto)) (raw_accepts auto)) of.slots (accept auto raw is.start) word b) ∙ of.canonical.exact word b

-- ---- the steps of a core that has no tree yet, and its file's

-- a list of steps that is that of a file
pub is_core_of : (file : PlainFile) (core : PlainCore) → core.declared ≡ length file.variables → core.steps ≡ map without_core (steps_of_file file) → IsCoreOf (core_of_file file) core
is_core_of file core declared steps = subst (λ k. core.steps ≡ map without_core (steps_of k (core_of_file file))) (sym declared) steps

-- ---- what is said of a core, said of the file that it is of

module _ {text : List ℕ} {file : PlainFile} {formula : FormulaFile} (is : IsRead text file formula) where
  abbrev core : PlainCore
  core = formula.core

  pub of_core : IsCoreOf (core_of_file file) core
  of_core = is_core_of file core is.declared is.steps

  -- P of the number of variables and the tree
  pub of_file : (P : ℕ → CoreTree → Type 0) → P core.declared (core_of_file file) → P (length file.variables) (core_of_file file)
  of_file P of = subst (λ k. P k (core_of_file file)) is.declared of

  same_words : WordsAreModels → HaveSameBehaviours (length file.variables) (words_of (core_of_file file)) (models file)
  same_words models_are word behaves = models_are file word (no_shift_is_bound file is.spelled.has_core) behaves

  pub verdict_of_file : (raw : RawValue) (complemented : Bool) → WordsAreModels → HasVerdictOfSet core.declared (words_of (core_of_file file)) raw complemented
      → HasVerdictOfSet (length file.variables) (models file) raw complemented
  verdict_of_file raw complemented models_are has =
      let own = of_file (λ k tree. HasVerdictOfSet k (words_of tree) raw complemented) has in
      record {
        slots = own.slots;
        verdict = same_verdict_after (length file.variables) (accepted_by raw complemented) (words_of (core_of_file file)) (models file) own.verdict (same_words models_are);
      }

  pub automaton_of_file : (auto : RawValue) → WordsAreModels → CanonicalForSameBehaviours → IsAutomatonOf core.declared (words_of (core_of_file file)) auto
      → IsAutomatonOf (length file.variables) (models file) auto
  automaton_of_file auto models_are move canonical =
      let own = of_file (λ k tree. IsAutomatonOf k (words_of tree) auto) canonical in
      record {
        slots = own.slots;
        access = own.access;
        canonical = move (length file.variables) (words_of (core_of_file file)) (models file) (table_of_states auto) own.access (same_words models_are) own.canonical;
      }

  -- it is within what may be printed
  pub printable : NamesAreShort → StepsAreFew → (limits : Limits) → AreInRange limits → (built : Built) → IsBuilt file limits built → CanBePrinted formula.names.items built
  printable short few limits range built of = record {
    are_names = subst (λ (names : List Name). AreNames (texts_of names)) (sym is.names) (are_names short text file is.spelled);
    slots = ap length is.names ∙ sym of.automaton.slots;
    states = omega (arith, of.states, range.few_states);
    nodes = omega (arith, of.nodes, range.few_nodes);
    counts = printable_counts few text file is.spelled limits range built.counts.items of.counts;
  }
