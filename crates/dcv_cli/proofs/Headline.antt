-- What is right for `all` and for `tables` is what their user is promised.
use Rattle.dcv_c.specs.Observer.{observer_of as unit_of}
use Rattle.dcv_c_tables.specs.Observer.{tables_of}
use Rattle.dcv_lustre.specs.Observer.{observer_of as node_of}
use Rattle.dcv_cli.proofs.Common.{◌≡◌, ◌↔◌, ℕ, Bool, true, false, List, length, map, Option, None, Some, refl, sym, ap, ◌∙◌, subst}
use Rattle.dcv_cli.proofs.Common.{IsSomeAnd, not, false≢true, Word, PlainFile, models, Language, IsLeastOf, Verdict, verdict_text}
use Rattle.dcv_cli.proofs.Common.{SpellsOne, core_of_file, AutomatonFile, Limits, WithinExcludesOver, IsWithinBudget}
use Rattle.dcv_cli.proofs.Common.{texts_of, all_text, Kind, All, Tables, Request, Report, Only, Status, Valid, NotValid, steps_of_file, kind_of}
use Rattle.dcv_cli.proofs.Common.{IsBudgeted, OverBudget, WithinBudget, IsFormulaFile, OnText, Refused, Read, Outcome, IsReport, Fulfils}
use Rattle.dcv_cli.proofs.Common.{Misused, Fulfilled, status_of_verdict}
use Rattle.dcv_language.specs.Language.{HasEvery, outside}
use Rattle.dcv_lustre.specs.Observer.{input_names}
use Rattle.dcv_c.specs.Observer.{parameter_name}
use Rattle.dcv_print.specs.Laws.{AutomatonHasFewestStates}
use Rattle.dcv_cli.specs.Headline.{AllIsSaid, TablesAreSaid, IsAnswered, FirstFault, FirstStep, Said, Answers, IsComplete, Headline, HeadlineIsComplete, TablesHeadline, TablesHeadlineIsComplete}
use Rattle.dcv_cli.proofs.FormulaFiles.{one_file, refused_or_read}
use Rattle.dcv_cli.proofs.OneRequest.{one_request}

-- ---- validity

twice_denied : (b : Bool) → not (not b) ≡ true → b ≡ true
twice_denied true is = refl
twice_denied false is = is

no_valid : NotValid ≡ Valid → ⊥
no_valid e = cc

verdict_exactly : (k : ℕ) (L : Language) (verdict : Verdict) → IsLeastOf k (outside L) verdict.counterexample
    → ((status_of_verdict verdict ≡ Valid) ↔ HasEvery k L) × ((status_of_verdict verdict ≡ NotValid) ↔ (HasEvery k L → ⊥))
verdict_exactly k L verdict is = by verdict.counterexample is
  where
    of : Option Word → Status
    of found = status_of_verdict (record { counterexample = found; example = None })

    by : (found : Option Word) → IsLeastOf k (outside L) found
        → ((of found ≡ Valid) ↔ HasEvery k L) × ((of found ≡ NotValid) ↔ (HasEvery k L → ⊥))
    by None none =
        let every : HasEvery k L = λ word behaves. twice_denied (L word) (none word behaves) in
        ((λ valid. every, λ every. refl), (λ broken. absurd (no_valid (sym broken)), λ some. absurd (some every)))
    by (Some word) least =
        let broken : HasEvery k L → ⊥ = λ every. false≢true (sym (ap not (every word least.behaviour)) ∙ least.member) in
        ((λ valid. absurd (no_valid valid), λ every. absurd (broken every)), (λ same. broken, λ some. refl))

-- ---- variables

node_inputs_are : (file : AutomatonFile) → (node_of file).inputs ≡ input_names file.names
unfolding node_of
node_inputs_are file = refl

unit_parameters_are : (file : AutomatonFile) → (unit_of file).parameters ≡ map parameter_name file.names
unfolding unit_of
unit_parameters_are file = refl

table_parameters_are : (file : AutomatonFile) → (tables_of file).parameters ≡ map parameter_name file.names
unfolding tables_of
table_parameters_are file = refl

-- ---- what is said

tables_are_said : (limits : Limits) (file : PlainFile) (outcome : Outcome) → IsReport Tables limits file outcome → TablesAreSaid file outcome
tables_are_said limits file outcome is =
    let says = is.says in
    let (valid, not_valid) = verdict_exactly (length file.variables) (models file) is.verdict is.is_verdict.counterexample in
    record {
      tables = tables_of says.file;
      report = says.says;
      parameters = table_parameters_are says.file ∙ ap (map parameter_name) says.of.variables;
      observes = says.observes;
      valid = (λ e. valid.0 (sym is.status ∙ e), λ every. is.status ∙ valid.1 every);
      not_valid = (λ e. not_valid.0 (sym is.status ∙ e), λ some. is.status ∙ not_valid.1 some);
      no_message = is.no_message;
    }

module _ (fewest : AutomatonHasFewestStates) where
  all_is_said : (limits : Limits) (file : PlainFile) (outcome : Outcome) → IsReport All limits file outcome → AllIsSaid file outcome
  all_is_said limits file outcome is =
      let k = length file.variables in
      let says = is.says in
      let automaton = says.says_automaton in
      let (valid, not_valid) = verdict_exactly k (models file) is.verdict is.is_verdict.counterexample in
      record {
        verdict = is.verdict;
        automaton = automaton.automaton;
        node = node_of says.says_node.file;
        unit = unit_of says.says_unit.file;
        node_text = says.node;
        unit_text = says.unit;
        report = says.says ∙ ap (λ text. all_text (verdict_text is.verdict) text says.node says.unit) automaton.says;
        form = automaton.is.form;
        rules = automaton.is.rules;
        accepts = automaton.is.canonical.exact;
        fewest = λ table are exact. fewest k (models file) (texts_of file.variables) automaton.automaton table automaton.is are exact;
        certificate = automaton.is.certificate;
        variables = automaton.is.variables;
        node_read = says.says_node.read;
        node_inputs = node_inputs_are says.says_node.file ∙ ap input_names says.says_node.of.variables;
        node_observes = says.says_node.observes;
        unit_read = says.says_unit.read;
        unit_parameters = unit_parameters_are says.says_unit.file ∙ ap (map parameter_name) says.says_unit.of.variables;
        unit_observes = says.says_unit.observes;
        valid = (λ e. valid.0 (sym is.status ∙ e), λ every. is.status ∙ valid.1 every);
        not_valid = (λ e. not_valid.0 (sym is.status ∙ e), λ some. is.status ∙ not_valid.1 some);
        counterexample = is.is_verdict.counterexample;
        example = is.is_verdict.example;
        no_message = is.no_message;
      }

-- ---- what is answered

module _ (kind : Kind) (IsSaid : PlainFile → Outcome → Type 0) (said : (limits : Limits) (file : PlainFile) (outcome : Outcome) → IsReport kind limits file outcome → IsSaid file outcome) where
  on_text : (text : List ℕ) (limits : Limits) (outcome : Outcome) → OnText text Only (IsBudgeted limits Only (IsReport kind limits)) outcome
      → IsAnswered IsSaid text limits outcome
  on_text text limits outcome (Refused refusal is e) = FirstFault refusal is e
  on_text text limits outcome (Read file is (OverBudget over first e)) = FirstStep file is over first e
  on_text text limits outcome (Read file is (WithinBudget within report)) = Said file is (said limits file outcome report)

  answers : Answers kind IsSaid
  answers words held name limits text outcome asks there (Misused not s o) = absurd (not asks.taken)
  answers words held name limits text outcome asks there (Fulfilled request asked right) =
      on_text text limits outcome
      (subst (λ (found : Option (List ℕ)). IsSomeAnd found (λ bytes. OnText bytes Only (IsBudgeted limits Only (IsReport kind limits)) outcome)) there
      (subst (λ (request : Request). Fulfils request held outcome) (one_request words request (Report kind name limits) asked asks) right))

  -- ---- where it can be said

  module _ (one_tree : SpellsOne) (none_over : WithinExcludesOver) where
    said_within : (text : List ℕ) (limits : Limits) (outcome : Outcome) (file : PlainFile) → IsFormulaFile text file → IsWithinBudget (steps_of_file file) limits
        → IsAnswered IsSaid text limits outcome → IsSaid file outcome
    said_within text limits outcome file formula within (FirstFault refusal is e) = absurd (refused_or_read one_tree text refusal file is formula)
    said_within text limits outcome file formula within (FirstStep other is over first e) =
        let same = one_file one_tree text file other formula is in
        absurd (none_over (length other.variables) (core_of_file other) limits (kind_of over.excess) over.step
        (subst (λ (f : PlainFile). IsWithinBudget (steps_of_file f) limits) same within) first.is_over)
    said_within text limits outcome file formula within (Said other is said) =
        subst (λ (f : PlainFile). IsSaid f outcome) (one_file one_tree text other file is formula) said

    is_complete : IsComplete kind IsSaid
    is_complete words held name limits text outcome file asks there right formula within =
        said_within text limits outcome file formula within (answers words held name limits text outcome asks there right)

pub headline : AutomatonHasFewestStates → Headline
headline fewest = answers All AllIsSaid (all_is_said fewest)

pub headline_is_complete : AutomatonHasFewestStates → SpellsOne → WithinExcludesOver → HeadlineIsComplete
headline_is_complete fewest = is_complete All AllIsSaid (all_is_said fewest)

pub tables_headline : TablesHeadline
tables_headline = answers Tables TablesAreSaid tables_are_said

pub tables_headline_is_complete : SpellsOne → WithinExcludesOver → TablesHeadlineIsComplete
tables_headline_is_complete = is_complete Tables TablesAreSaid tables_are_said
