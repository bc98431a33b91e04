-- Words that begin with a command's name: what `clap` finds in them is what it finds in the words after the name.
use Rattle.dcv_command.proofs.Common.{◌≡◌, refl, ap, ◌∙◌, sym, subst, App, List, [], ◌∷◌, Option, Some, is_some, find, fold, false, option_map}
use Rattle.dcv_command.proofs.Common.{option_map_or, AllByRecursion, bytes_eq, Kinds, Row, Shape, Text, fault_of, or_else, Names, Walk, finished}
use Rattle.dcv_command.proofs.Common.{nothing_held, rows_after, settled, walk, walk_from, check_fault, level_fault, settle_fault, turn_fault, program}
use Rattle.dcv_command.proofs.Common.{Command, commands, asked_of, request_in}
use Rattle.std.specs.List.{ContainsAt}
use Rattle.std.specs.Prelude.{Contains, option_and_then}
use Rattle.std.proofs.ByRecursion.{All-get_or, All-weaker, all_has_itself}
use Rattle.clap.specs.Words.{built, subcommand_of}
use Rattle.clap.specs.Walk.{answers_to, walked}
use Rattle.clap.specs.Simple.{entered, label_of, names_of, rows_at}
use Rattle.clap.specs.Faults.{built_fault, defaults_fault, entered_fault, walk_fault}
use Rattle.clap.proofs.FaultLemmas.{leaf_fault, stopped_fault}
use Rattle.clap.proofs.WalkLemmas.{walk_stopped}
use Rattle.dcv_command.specs.Program.{alone}
use Rattle.dcv_command.proofs.Arguments.{AreLookedUp, built_shape}

abbrev pub top : Shape
top = (built program).top

abbrev pub names : Names
names = names_of (built program)

-- the walk has met a subcommand, and these words after its name
abbrev stopped_at : Text → List Text → Walk
stopped_at name seen = record (walk_from nothing_held) { stopped = Some (name, seen) }

-- the faults of the words, by the walk over them
abbrev faults_by : Kinds → Walk → Kinds
faults_by kinds w =
    or_else kinds
    (or_else (entered_fault (built program) w.stopped)
    (or_else (settle_fault top.rules top.args_override_self w.held)
    (or_else (defaults_fault (settled top.rules w.held).rows top.rules)
    (check_fault top (finished top.rules w.held) (is_some (entered (built program) w.stopped))))))

nothing_else : (kinds : Kinds) → or_else kinds [] ≡ kinds
nothing_else [] = refl
nothing_else (kind ∷ kinds) = refl

-- ---- a command of the table

abbrev pub built_command : Command → Shape
built_command command = built_shape command.name command.arguments

pub record IsCommand (command : Command) : Type 0 where
  pub found : find (λ shape. answers_to command.name (label_of shape)) (built program).subs ≡ Some (built_command command)
  pub walked_to : walked top.rules names (walk_from nothing_held) command.name ≡ stopped_at command.name []
  pub no_fault_at : turn_fault top names (walk_from nothing_held) command.name ≡ []
  pub request : find (λ other. bytes_eq command.name other.name) commands ≡ Some command
  pub looked_up : AreLookedUp command.arguments
  pub alone_is : ◌≡◌ {A = App} (built (alone command)) (record { top = built_command command; subs = [] })

module _ (command : Command) (is : IsCommand command) (rest : List Text) where
  is_met : walk top.rules names nothing_held (command.name ∷ rest) ≡ stopped_at command.name rest
  is_met = ap (λ w. fold (walked top.rules names) w rest) is.walked_to ∙ sym (walk_stopped top.rules names (walk_from nothing_held) command.name [] rest)

  none_above : walk_fault top names (walk_from nothing_held) (command.name ∷ rest) ≡ []
  unfolding walk_fault
  none_above =
      ap (λ kinds. or_else kinds (walk_fault top names (walked top.rules names (walk_from nothing_held) command.name) rest)) is.no_fault_at
      ∙ ap (λ w. walk_fault top names w rest) is.walked_to ∙ stopped_fault top names (walk_from nothing_held) (command.name, []) rest

  -- what is found where the walk stops at the name, by the subcommand that it enters
  abbrev faults_in : Option Shape → Kinds
  faults_in found =
      or_else (option_map_or (λ shape. level_fault shape [] nothing_held rest false []) found [])
      (check_fault top (finished top.rules nothing_held) (is_some (option_map (λ shape. rows_at shape rest) found)))

  faults_there : faults_by [] (stopped_at command.name rest) ≡ or_else (level_fault (built_command command) [] nothing_held rest false []) []
  unfolding defaults_fault
  faults_there = ap faults_in is.found

  pub faults_below : fault_of program (command.name ∷ rest) ≡ level_fault (built_command command) [] nothing_held rest false []
  faults_below =
      ap (λ kinds. faults_by kinds (walk top.rules names nothing_held (command.name ∷ rest))) none_above
      ∙ ap (faults_by []) is_met ∙ faults_there ∙ nothing_else (level_fault (built_command command) [] nothing_held rest false [])

  pub found_below : subcommand_of program (command.name ∷ rest) ≡ Some (command.name, rows_after (built_command command).rules [] rest)
  found_below = ap (λ (w : Walk). entered (built program) w.stopped) is_met ∙ ap (option_map (λ shape. rows_at shape rest)) is.found

  -- and so it is with the command alone
  pub fault_alone : fault_of program (command.name ∷ rest) ≡ fault_of (alone command) rest
  fault_alone =
      faults_below ∙ sym (leaf_fault (record { top = built_command command; subs = [] }) nothing_held rest refl)
      ∙ ap (λ app. built_fault app nothing_held rest) (sym is.alone_is)

  pub asked_below : (rows : List Row) → request_in command.name rows ≡ asked_of command rows
  asked_below rows = ap (option_and_then (λ found. asked_of found rows)) is.request

-- ---- each command of the table

each_command : AllByRecursion IsCommand commands
unfolding walked
each_command = assumption

pub is_among : (command : Command) → Contains commands command → IsCommand command
is_among command among = subst IsCommand among.2 (All-get_or IsCommand commands among.0 command among.1 each_command)

pub each_among : AllByRecursion (Contains commands) commands
each_among = All-weaker (ContainsAt commands) (Contains commands) (λ command has. (has.0, has.1, has.2 command)) commands (all_has_itself commands)
