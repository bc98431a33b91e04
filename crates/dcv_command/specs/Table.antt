-- The commands of the program in one table: what each is called, its arguments, and what their values ask for.
--     Request             a thing that the program does
--     most_version        the greatest numbers that may be given, beside those of states and nodes: the version of a text, inputs,
--                         the seed and the count of formulas that are drawn, and tuples of states
--     Value               what is given for an argument: the name of a file, which is any text, the names of one or more, or a whole number
--                         from the least to the most
--     Form                how it is given: by its place, by an option that has to be there, or by one that has a default
--     Argument            an argument, whose name an option bears
--     Of value            what is given, as it is asked for
--     value_of value text what the text stands for
--     Asks arguments      what is asked for, by what is given for the arguments
--     Command             a command, with its arguments in order
--     commands            the table
use Rattle.std.specs.Prelude.{ℕ, List, [], ◌∷◌, if◌then◌else◌, ◌==◌, codes}
use Rattle.std.specs.Str.Parse.{digits_value, without_leading_plus}
use Rattle.clap.specs.Words.{Text}
use Rattle.dcv_language.specs.Limits.{most_variables, most_states, most_nodes}
use Rattle.dcv_explore.specs.declared.explorer.Limits.{Limits}
use Rattle.dcv_language.specs.declared.kind.Kind.{Kind}
use Rattle.dcv_language.specs.declared.kind.Kind.TheVariants.{Check, Automaton, Lustre, C, Tables, All}
use Rattle.dcv_command.specs.declared.words.SetQuestion.{SetQuestion}
use Rattle.dcv_command.specs.declared.words.SetQuestion.TheVariants.{Together, Follows}
use Rattle.dcv_command.specs.declared.words.Subset.{Subset}
use Rattle.dcv_command.specs.declared.words.Subset.TheVariants.{Lustre as LustreText, C as CText, Tables as TablesText}
use Rattle.dcv_command.specs.declared.words.Version.{Version}
use Rattle.dcv_command.specs.declared.words.Version.TheVariants.{One, Two}

pub data Request : Type 0 where
  -- a report on the formula in the file with this name
  Report : (kind : Kind) → (name : List ℕ) → (limits : Limits) → Request
  -- whether the words of the automaton's text in the file with this name show that it is minimal
  Certify : (name : List ℕ) → Request
  -- the automaton's text in the file with this name, in this version
  Convert : (name : List ℕ) → (to : Version) → Request
  -- whether the formula in the first file implies that in the second
  Implies : (first second : List ℕ) → (limits : Limits) → Request
  -- whether what has kept to the formula in the file so far can always go on
  Stuck : (name : List ℕ) → (limits : Limits) → Request
  -- a controller for the formula in the file, of which so many variables, the first, are inputs
  Synth : (name : List ℕ) → (inputs : ℕ) → (limits : Limits) → Request
  -- what the observer in the first file, a text of this subset, answers at each instant of the trace in the second
  Replay : (subset : Subset) → (observer trace : List ℕ) → Request
  -- a summary over so many formulas that are drawn from the seed
  Sweep : (seed count : ℕ) → Request
  -- what is asked of the formulas in the files together
  Set : (question : SetQuestion) → (names : List (List ℕ)) → (limits : Limits) → (tuples : ℕ) → Request

abbrev pub most_version : ℕ
most_version = 2

abbrev pub most_inputs : ℕ
most_inputs = most_variables

abbrev pub most_seed : ℕ
most_seed = 2147483647

abbrev pub most_count : ℕ
most_count = 1000

abbrev pub most_tuples : ℕ
most_tuples = 100000000

-- ---- arguments

pub data Value : Type 0 where
  FileName : Value
  FileNames : Value
  Number : (least most : ℕ) → Value

pub data Form : Type 0 where
  Operand : Form
  Required : Form
  WithDefault : (text : Text) → Form

pub record Argument : Type 0 where
  pub id : Text
  pub form : Form
  pub value : Value

abbrev pub Of : Value → Type 0
Of FileName = Text
Of FileNames = List Text
Of (Number least most) = ℕ

abbrev pub value_of : (value : Value) → Text → Of value
value_of FileName text = text
value_of FileNames text = text ∷ []
value_of (Number least most) text = digits_value 10 (without_leading_plus text)

-- ---- commands

abbrev pub Asks : List Argument → Type 0
Asks [] = Request
Asks (argument ∷ rest) = Of argument.value → Asks rest

pub record Command : Type 0 where
  pub name : Text
  pub arguments : List Argument
  pub asks : Asks arguments

abbrev pub limits_of : ℕ → ℕ → Limits
limits_of states nodes = record { states = states; nodes = nodes }

abbrev pub version_numbered : ℕ → Version
version_numbered number = if number == 1 then One else Two

abbrev pub file : Text → Argument
file id = record { id = id; form = Operand; value = FileName }

abbrev pub files : Text → Argument
files id = record { id = id; form = Operand; value = FileNames }

abbrev pub states : Argument
states = record { id = codes "states"; form = WithDefault (codes "30000"); value = Number 1 most_states }

abbrev pub nodes : Argument
nodes = record { id = codes "nodes"; form = WithDefault (codes "1000000"); value = Number 1 most_nodes }

abbrev pub tuples : Argument
tuples = record { id = codes "tuples"; form = WithDefault (codes "5000000"); value = Number 1 most_tuples }

abbrev pub report_name : Kind → Text
report_name Check = codes "check"
report_name Automaton = codes "automaton"
report_name Lustre = codes "lustre"
report_name C = codes "c"
report_name Tables = codes "tables"
report_name All = codes "all"

abbrev pub report : Kind → Command
report kind = record {
  name = report_name kind;
  arguments = file (codes "file") ∷ states ∷ nodes ∷ [];
  asks = λ file states nodes. Report kind file (limits_of states nodes);
}

abbrev pub certify : Command
certify = record { name = codes "certify"; arguments = file (codes "automaton") ∷ []; asks = Certify }

abbrev pub convert : Command
convert = record {
  name = codes "convert";
  arguments = file (codes "automaton") ∷ record { id = codes "to"; form = Required; value = Number 1 most_version } ∷ [];
  asks = λ automaton to. Convert automaton (version_numbered to);
}

abbrev pub implies : Command
implies = record {
  name = codes "implies";
  arguments = file (codes "first") ∷ file (codes "second") ∷ states ∷ nodes ∷ [];
  asks = λ first second states nodes. Implies first second (limits_of states nodes);
}

abbrev pub stuck : Command
stuck = record {
  name = codes "stuck";
  arguments = file (codes "file") ∷ states ∷ nodes ∷ [];
  asks = λ file states nodes. Stuck file (limits_of states nodes);
}

abbrev pub synth : Command
synth = record {
  name = codes "synth";
  arguments = file (codes "file") ∷ record { id = codes "inputs"; form = Required; value = Number 0 most_inputs } ∷ states ∷ nodes ∷ [];
  asks = λ file inputs states nodes. Synth file inputs (limits_of states nodes);
}

abbrev pub replay_name : Subset → Text
replay_name LustreText = codes "replay-lustre"
replay_name CText = codes "replay-c"
replay_name TablesText = codes "replay-tables"

abbrev pub replay : Subset → Command
replay subset = record { name = replay_name subset; arguments = file (codes "observer") ∷ file (codes "trace") ∷ []; asks = Replay subset }

abbrev pub sweep : Command
sweep = record {
  name = codes "sweep";
  arguments = record { id = codes "seed"; form = Operand; value = Number 0 most_seed }
      ∷ record { id = codes "count"; form = Operand; value = Number 1 most_count } ∷ [];
  asks = Sweep;
}

abbrev pub set_name : SetQuestion → Text
set_name Together = codes "together"
set_name Follows = codes "follows"

abbrev pub set : SetQuestion → Command
set question = record {
  name = set_name question;
  arguments = files (codes "file") ∷ states ∷ nodes ∷ tuples ∷ [];
  asks = λ names states nodes tuples. Set question names (limits_of states nodes) tuples;
}

abbrev pub commands : List Command
commands =
    report Check ∷ report Automaton ∷ report Lustre ∷ report C ∷ report Tables ∷ report All ∷ certify ∷ convert ∷ implies ∷ stuck ∷ synth
    ∷ replay LustreText ∷ replay CText ∷ replay TablesText ∷ sweep ∷ set Together ∷ set Follows ∷ []
