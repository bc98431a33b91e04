-- What the words of the command line ask for, by `clap`'s matches of them.
--     files_of request        the names of the files that it reads, in the order in which it asks for them
--     IsInRange request       its numbers, if it has some, are within the ranges of the options and operands
--     number_in least most id rows
--                             the value of an option or an operand, a number from the least to the most
--     names_in id rows        the values of a list of operands, of which there is one at least
--     asked_in arguments asks rows
--                             what is asked for, by the values of the arguments
--     asked_of command rows   the same of a command
--     request_in name rows    what the command of this name asks for
--     request_of words        what the words ask for
--     IsTaken words           `clap` finds no fault in the words
use Rattle.std.specs.Prelude.{◌≡◌, ℕ, ◌≤◌, ◌<◌, length, List, [], ◌∷◌, Option, None, Some, if◌then◌else◌, find, option_and_then}
use Rattle.std.specs.Str.{bytes_eq}
use Rattle.std.specs.Str.Parse.{digits_value, without_leading_plus}
use Rattle.clap.specs.Words.{Row, Text, all_of, first_of, one_of, subcommand_of, fault_of}
use Rattle.clap.specs.ValueTests.{is_unsigned_in}
use Rattle.dcv_explore.specs.declared.explorer.Limits.{Limits}
use Rattle.dcv_command.specs.Program.{program}
use Rattle.dcv_command.specs.Table.{Argument, Asks, Command, Of, Value, FileName, FileNames, Number, commands}
use Rattle.dcv_language.specs.Limits.{most_states, most_nodes}
use Rattle.dcv_command.specs.Table.{most_inputs, most_seed, most_count, most_tuples}
pub use Rattle.dcv_command.specs.Table.{Request, Report, Certify, Convert, Implies, Stuck, Synth, Replay, Sweep, Set}

abbrev pub files_of : Request → List (List ℕ)
files_of (Report kind name limits) = name ∷ []
files_of (Certify name) = name ∷ []
files_of (Convert name to) = name ∷ []
files_of (Implies first second limits) = first ∷ second ∷ []
files_of (Stuck name limits) = name ∷ []
files_of (Synth name inputs limits) = name ∷ []
files_of (Replay subset observer trace) = observer ∷ trace ∷ []
files_of (Sweep seed count) = []
files_of (Set question names limits tuples) = names

pub record AreInRange (limits : Limits) : Type 0 where
  pub some_states : 1 ≤ limits.states
  pub few_states : limits.states ≤ most_states
  pub some_nodes : 1 ≤ limits.nodes
  pub few_nodes : limits.nodes ≤ most_nodes

pub record AreInputsInRange (inputs : ℕ) (limits : Limits) : Type 0 where
  pub few_inputs : inputs ≤ most_inputs
  pub within : AreInRange limits

pub record CanBeDrawn (seed count : ℕ) : Type 0 where
  pub small : seed ≤ most_seed
  pub some : 1 ≤ count
  pub few : count ≤ most_count

-- so many names, tuples and limits
pub record AreJoinable (names : ℕ) (limits : Limits) (tuples : ℕ) : Type 0 where
  pub some_names : 0 < names
  pub some_tuples : 1 ≤ tuples
  pub few_tuples : tuples ≤ most_tuples
  pub within : AreInRange limits

abbrev pub IsInRange : Request → Type 0
IsInRange (Report kind name limits) = AreInRange limits
IsInRange (Certify name) = Unit {0}
IsInRange (Convert name to) = Unit {0}
IsInRange (Implies first second limits) = AreInRange limits
IsInRange (Stuck name limits) = AreInRange limits
IsInRange (Synth name inputs limits) = AreInputsInRange inputs limits
IsInRange (Replay subset observer trace) = Unit {0}
IsInRange (Sweep seed count) = CanBeDrawn seed count
IsInRange (Set question names limits tuples) = AreJoinable (length names) limits tuples

-- ---- the values of a command's arguments

abbrev pub number_of : ℕ → ℕ → Text → Option ℕ
number_of least most text = if is_unsigned_in least most text then Some (digits_value 10 (without_leading_plus text)) else None

abbrev pub number_in : ℕ → ℕ → Text → List Row → Option ℕ
number_in least most id rows = option_and_then (number_of least most) (one_of id rows)

abbrev pub some_names : List Text → Option (List Text)
some_names [] = None
some_names (name ∷ names) = Some (name ∷ names)

abbrev pub names_in : Text → List Row → Option (List Text)
names_in id rows = option_and_then some_names (all_of id rows)

abbrev pub value_in : (value : Value) → Text → List Row → Option (Of value)
value_in FileName id rows = first_of id rows
value_in FileNames id rows = names_in id rows
value_in (Number least most) id rows = number_in least most id rows

-- ---- what they ask for

abbrev pub asked_in : (arguments : List Argument) → Asks arguments → List Row → Option Request
asked_in [] request rows = Some request
asked_in (argument ∷ rest) asks rows = option_and_then (λ value. asked_in rest (asks value) rows) (value_in argument.value argument.id rows)

abbrev pub asked_of : Command → List Row → Option Request
asked_of command = asked_in command.arguments command.asks

abbrev pub request_in : Text → List Row → Option Request
request_in name rows = option_and_then (λ command. asked_of command rows) (find (λ command. bytes_eq name command.name) commands)

-- of the subcommand that the words name, with its matches
abbrev pub request_of_subcommand : Option (Text × List Row) → Option Request
request_of_subcommand subcommand = option_and_then (λ found. request_in found.0 found.1) subcommand

abbrev pub request_of : List Text → Option Request
request_of words = request_of_subcommand (subcommand_of program words)

abbrev pub IsTaken : List Text → Type 0
IsTaken words = fault_of program words ≡ []
