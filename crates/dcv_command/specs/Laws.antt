-- The laws that `src/laws.rt` proves.
use Rattle.std.specs.Prelude.{◌≡◌, ◌↔◌, List, [], ◌∷◌, ◌++◌, Contains, IsSome, true}
use Rattle.clap.specs.Words.{Text, fault_of, matches_of, takes}
use Rattle.dcv_command.specs.Listed.{Values, AreGiven, AskFor, asked_with, operand_words, option_words}
use Rattle.dcv_command.specs.Program.{alone, program}
use Rattle.dcv_command.specs.Request.{IsTaken, asked_of, request_of}
use Rattle.dcv_command.specs.Table.{Argument, Command, commands}

-- the words are a command's name, and words in which `clap` finds no fault for this command alone; and they ask for what the command asks for
-- by `clap`'s matches of these
pub record IsCommandLine (words : List Text) : Type 0 where
  pub command : Command
  pub among : Contains commands command
  pub rest : List Text
  pub begin : words ≡ command.name ∷ rest
  pub taken : fault_of (alone command) rest ≡ []
  pub asked : request_of words ≡ asked_of command (matches_of (alone command) rest)

-- `clap` finds no fault in the words for the program where they pass its test, and only there; and where they are a command line, and only there
abbrev pub TakenWordsAreCommandLines : Type 0
TakenWordsAreCommandLines = (words : List Text) → (IsTaken words ↔ (takes program words ≡ true)) × (IsTaken words ↔ IsCommandLine words)

-- words in which `clap` finds no fault ask for something
abbrev pub TakenWordsAsk : Type 0
TakenWordsAsk = (words : List Text) → IsTaken words → IsSome (request_of words)

-- a command's name, its operands (names of files that do not begin with a dash, and numbers), and its options in any order, each at most
-- once and those that must be there among them, with numbers of their ranges in decimal
abbrev pub ListedWordsAreTaken : Type 0
ListedWordsAreTaken =
    (command : Command) (values : Values) (given : List Argument) → Contains commands command → AreGiven values command.arguments given
    → AskFor (command.name ∷ operand_words values command.arguments ++ option_words values given) (asked_with command.arguments command.asks values)
