-- The laws that `src/laws.rt` proves.
use Rattle.std.specs.Prelude.{◌≡◌, ◌≢◌, ◌⊎◌, ℕ, suc, Bool, false, List, [], ◌∷◌, Option, Some, IsTrue, length, codes, IsSome, IsSomeAnd}
use Rattle.dcv_cli.specs.Common.{PlainFile, models, texts_of, Limits, IsOver, Excess, Over, Budget, Product, Which, Only, First, Second, Number}
use Rattle.dcv_cli.specs.Common.{Done, Valid, Usage, all_text, Kind, Automaton, All as AllTexts, IsTaken, Request, Report, Certify, Convert}
use Rattle.dcv_cli.specs.Common.{Implies, Stuck, Synth, Set, files_of, Version, One, Two}
use Rattle.std.specs.List.{All}
use Rattle.dcv_core.specs.Steps.{PlainStep}
use Rattle.dcv_language.specs.Language.{HaveSameBehaviours}
use Rattle.dcv_tokens.specs.Tokens.{BeginsWith}
use Rattle.dcv_explore.specs.Budget.{Kind as KindOfExcess}
use Rattle.dcv_implies.specs.Comparison.{IsProductOver}
use Rattle.dcv_print.specs.Automaton.{DifferInSuffixes}
use Rattle.dcv_cli.specs.Budget.{steps_of_file, limit_of, IsFirstOverIn}
use Rattle.dcv_cli.specs.FileSet.{joint_of, steps_over}
use Rattle.dcv_cli.specs.FormulaFile.{IsFormulaFile}
use Rattle.dcv_cli.specs.Held.{Texts}
use Rattle.dcv_cli.specs.Outcome.{Outcome, refused, has_automaton, AgreeInMeaning}
use Rattle.dcv_cli.specs.Request.{AsksFor}
use Rattle.dcv_cli.specs.Right.{Fulfils, IsRight}
use Rattle.dcv_cli.specs.Status.{is_answer}

-- ---- one outcome

-- The step that is first over the limits is over both, and one outcome names the states, the other the nodes.
pub record DifferInStepOf (steps : List PlainStep) (limits : Limits) (which : Which) (one other : Outcome) : Type 0 where
  pub first : Over
  pub second : Over
  pub first_is : IsFirstOverIn steps limits first
  pub second_is : IsFirstOverIn steps limits second
  pub differ : first.excess ≢ second.excess
  pub step : first.step ≡ second.step
  pub both : (kind : KindOfExcess) → IsOver steps limits kind first.step
  pub one_is : one ≡ refused (Budget first) which
  pub other_is : other ≡ refused (Budget second) which

-- of the file's own steps
abbrev pub DifferInStep : Limits → Which → PlainFile → Outcome → Outcome → Type 0
DifferInStep limits which file one other = DifferInStepOf (steps_of_file file) limits which one other

-- so it is with the product of two files
pub record DifferInProduct (limits : Limits) (file another : PlainFile) (one other : Outcome) : Type 0 where
  pub first : Excess
  pub second : Excess
  pub differ : first ≢ second
  pub both : (kind : KindOfExcess) → IsProductOver limits (length file.variables) (models file) (models another) kind
  pub one_is : one ≡ refused (Product first (limit_of first limits)) Only
  pub other_is : other ≡ refused (Product second (limit_of second limits)) Only

-- a step of the formula file that is held, or the product of two that are
abbrev pub DifferOnFile : Limits → Which → Option (List ℕ) → Outcome → Outcome → Type 0
DifferOnFile limits which text one other = IsSomeAnd text (λ bytes. (file : PlainFile) × IsFormulaFile bytes file × DifferInStep limits which file one other)

abbrev pub DifferOnFiles : Limits → Option (List ℕ) → Option (List ℕ) → Outcome → Outcome → Type 0
DifferOnFiles limits text another_text one other = IsSomeAnd text (λ bytes. IsSomeAnd another_text (λ others.
    (file : PlainFile) × (another : PlainFile) × IsFormulaFile bytes file × IsFormulaFile others another × DifferInProduct limits file another one other))

-- the formula files that are held under the names, each at its time
abbrev pub AreHeldFiles : Texts → ℕ → List (List ℕ) → List PlainFile → Type 0
AreHeldFiles held time [] [] = Unit {0}
AreHeldFiles held time (name ∷ names) (file ∷ files) = IsSomeAnd (held time name) (λ bytes. IsFormulaFile bytes file) × AreHeldFiles held (suc time) names files
AreHeldFiles held time _ _ = ⊥

-- a step of one of the files, from this number on, over the joint names
abbrev pub DifferAmong : Limits → List (List ℕ) → ℕ → List PlainFile → Outcome → Outcome → Type 0
DifferAmong limits joint number [] one other = ⊥
DifferAmong limits joint number (file ∷ files) one other =
    DifferInStepOf (steps_over joint file) limits (Number number) one other ⊎ DifferAmong limits joint (suc number) files one other

abbrev pub DifferInSet : Limits → Texts → List (List ℕ) → Outcome → Outcome → Type 0
DifferInSet limits held names one other = (files : List PlainFile) × AreHeldFiles held 0 names files × DifferAmong limits (joint_of files) 1 files one other

-- what a request leaves open where both limits are exceeded
abbrev pub DifferInLimit : Request → Texts → Outcome → Outcome → Type 0
DifferInLimit (Report kind name limits) held one other = DifferOnFile limits Only (held 0 name) one other
DifferInLimit (Stuck name limits) held one other = DifferOnFile limits Only (held 0 name) one other
DifferInLimit (Synth name inputs limits) held one other = DifferOnFile limits Only (held 0 name) one other
DifferInLimit (Implies first second limits) held one other =
    DifferOnFile limits First (held 0 first) one other
    ⊎ (DifferOnFile limits Second (held 1 second) one other ⊎ DifferOnFiles limits (held 0 first) (held 1 second) one other)
DifferInLimit (Set question names limits tuples) held one other = DifferInSet limits held names one other
DifferInLimit _ held one other = ⊥

-- whether the text of an automaton is asked for that has to list suffixes
abbrev pub asks_for_suffixes : Request → Bool
asks_for_suffixes (Report kind name limits) = has_automaton kind
asks_for_suffixes _ = false

-- Left to the program are which suffixes the text of an automaton lists, and which limit is named where both are exceeded. All else is the same.
pub data AgreeOn (request : Request) (held : Texts) (one other : Outcome) : Type 0 where
  InAll : one ≡ other → AgreeOn request held one other
  ButForSuffixes : IsTrue (asks_for_suffixes request) → one.status ≡ other.status → DifferInSuffixes one.out other.out → one.err ≡ other.err
      → AgreeOn request held one other
  ButForTheLimit : DifferInLimit request held one other → AgreeOn request held one other

-- and in what words it is said that the words are no command's
pub data Agree (words : List (List ℕ)) (held : Texts) (one other : Outcome) : Type 0 where
  Misusing : ¬ (IsTaken words) → one.status ≡ Usage → other.status ≡ Usage → one.out ≡ [] → other.out ≡ [] → Agree words held one other
  Asking : (request : Request) → AsksFor words request → AgreeOn request held one other → Agree words held one other

-- two outcomes that are right for the words and what is held are the same, but for what is left to the program
abbrev pub OneOutcome : Type 0
OneOutcome = (words : List (List ℕ)) (held : Texts) (one other : Outcome) → IsRight words held one → IsRight words held other → Agree words held one other

-- ---- some outcome

-- each file that the words name is held
abbrev pub AreHeld : List (List ℕ) → (Texts) → Type 0
AreHeld words held = (request : Request) → AsksFor words request → (time : ℕ) → All (λ name. IsSome (held time name)) (files_of request)

-- some outcome is right for all words, where the files that they name are held
abbrev pub SomeOutcome : Type 0
SomeOutcome = (words : List (List ℕ)) (held : Texts) → AreHeld words held → (outcome : Outcome) × IsRight words held outcome

-- ---- files that mean the same

-- variables with the same names, and the same behaviours that model them
pub record MeanTheSame (one other : PlainFile) : Type 0 where
  pub same_names : texts_of one.variables ≡ texts_of other.variables
  pub same_models : HaveSameBehaviours (length one.variables) (models one) (models other)

-- the outcome is right for a report of this kind, and answers by one on this formula file
pub record IsAnswer (kind : Kind) (name : List ℕ) (limits : Limits) (held : Texts) (file : PlainFile) (outcome : Outcome) : Type 0 where
  pub text : List ℕ
  pub there : held 0 name ≡ Some text
  pub formula : IsFormulaFile text file
  pub right : Fulfils (Report kind name limits) held outcome
  pub answers : IsTrue (is_answer outcome.status)

-- files that mean the same have the same verdict, the same observers, and the same automaton up to its last access word, with any limits
abbrev pub EqualMeanings : Type 0
EqualMeanings = (kind : Kind) (name other_name : List ℕ) (limits other_limits : Limits) (held other_held : Texts) (file other_file : PlainFile)
    (one another : Outcome) → MeanTheSame file other_file → IsAnswer kind name limits held file one
    → IsAnswer kind other_name other_limits other_held other_file another → AgreeInMeaning kind one another

-- ---- texts that are printed are certified

-- whatever is right where the text is to be certified says that it is
abbrev pub IsCertifiable : List ℕ → Type 0
IsCertifiable text = (name : List ℕ) (held : Texts) (outcome : Outcome) → held 0 name ≡ Some text → Fulfils (Certify name) held outcome → outcome.status ≡ Done

-- the text of a right answer of this kind
pub record IsPrinted (kind : Kind) (text : List ℕ) : Type 0 where
  pub name : List ℕ
  pub limits : Limits
  pub held : Texts
  pub outcome : Outcome
  pub right : Fulfils (Report kind name limits) held outcome
  pub answers : IsTrue (is_answer outcome.status)
  pub says : text ≡ outcome.out

-- so each text of an automaton is, and in the text of all that part which is an automaton's
pub record PrintedIsCertified : Type 0 where
  pub automaton : (text : List ℕ) → IsPrinted Automaton text → IsCertifiable text
  pub all : (text : List ℕ) → IsPrinted AllTexts text
      → (verdict automaton node unit : List ℕ) × (text ≡ all_text verdict automaton node unit) × IsCertifiable automaton

-- ---- versions of a text

-- it is right to answer the text with what is written, where it is asked for in this version
pub record IsConversionOf (to : Version) (text written : List ℕ) : Type 0 where
  pub name : List ℕ
  pub held : Texts
  pub there : held 0 name ≡ Some text
  pub outcome : Outcome
  pub right : Fulfils (Convert name to) held outcome
  pub done : outcome.status ≡ Done
  pub says : written ≡ outcome.out

-- what goes from version 1 to version 2 and back is as it was
abbrev pub ConvertedBackIsTheText : Type 0
ConvertedBackIsTheText = (text second last : List ℕ) → BeginsWith text (codes "automaton 1") → IsConversionOf Two text second → IsConversionOf One second last
    → last ≡ text

-- ---- requirements that imply each other

-- it is right to answer of the two texts that the requirement of the first implies that of the second
pub record Implied (first second : List ℕ) : Type 0 where
  pub name : List ℕ
  pub other_name : List ℕ
  pub limits : Limits
  pub held : Texts
  pub first_there : held 0 name ≡ Some first
  pub second_there : held 1 other_name ≡ Some second
  pub outcome : Outcome
  pub right : Fulfils (Implies name other_name limits) held outcome
  pub valid : outcome.status ≡ Valid

-- two formula files that mean the same
pub record AreOneRequirement (first second : List ℕ) : Type 0 where
  pub file : PlainFile
  pub other_file : PlainFile
  pub formula : IsFormulaFile first file
  pub other_formula : IsFormulaFile second other_file
  pub mean : MeanTheSame file other_file

-- those that imply each other do, so that all that is printed of one is printed of the other, but for suffixes and what the steps took
abbrev pub ImpliesBothWays : Type 0
ImpliesBothWays = (first second : List ℕ) → Implied first second → Implied second first → AreOneRequirement first second

-- ---- requirements that never get stuck

-- it is right to answer of the text that it is never stuck
pub record NeverStuck (text : List ℕ) : Type 0 where
  pub name : List ℕ
  pub limits : Limits
  pub held : Texts
  pub there : held 0 name ≡ Some text
  pub outcome : Outcome
  pub right : Fulfils (Stuck name limits) held outcome
  pub valid : outcome.status ≡ Valid

-- a controller without inputs is found for it, unless its variables are too many to be outputs or a step is over the limits
abbrev pub NeverStuckIsRealisable : Type 0
NeverStuckIsRealisable = (text : List ℕ) → NeverStuck text → (name : List ℕ) (limits : Limits) (held : Texts) (outcome : Outcome) → held 0 name ≡ Some text
    → Fulfils (Synth name 0 limits) held outcome → IsTrue (is_answer outcome.status) → outcome.status ≡ Valid
