-- The arguments of a command as `clap` builds them, and which of them it finds by a name or a place.
use Rattle.dcv_command.proofs.Common.{◌≡◌, Bool, true, false, ℕ, List, [], ◌∷◌, ◌++◌, Option, None, Some, length, codes, find, map, not, ◌&&◌, ◌+◌}
use Rattle.dcv_command.proofs.Common.{AllByRecursion, list_all, bytes_eq, Rule, Shape, Text, long_of, arg_by_index, Unsigned, IsOption, has_name}
use Rattle.dcv_command.proofs.Common.{Argument, Form, Operand, WithDefault, Value, FileName, FileNames, Number, default_passes}
use Rattle.std.specs.Prelude.{filter, ltb}
use Rattle.clap.specs.Words.{new_rule}
use Rattle.clap.specs.Simple.{filled, help_rule, new_shape, with_index}
use Rattle.clap.specs.Walk.{arg_by_id, arg_by_long}
use Rattle.clap.specs.declared.builder.action.ArgAction.{ArgAction}
use Rattle.clap.specs.declared.builder.action.ArgAction.TheVariants.{Append, Set}
use Rattle.clap.specs.declared.builder.value_parser.ValueParser.{ValueParser}
use Rattle.clap.specs.declared.builder.value_parser.ValueParser.TheVariants.{String}
use Rattle.dcv_command.specs.Listed.{are_distinct}
use Rattle.dcv_command.proofs.Parses.{is_checked}

-- ---- as they are built

abbrev pub parser : Value → ValueParser
parser FileName = String
parser FileNames = String
parser (Number least most) = Unsigned least most

abbrev pub is_list : Value → Bool
is_list FileNames = true
is_list _ = false

abbrev pub action_for : Bool → ArgAction
action_for true = Append
action_for false = Set

abbrev pub called : Form → Text → Option Text
called Operand id = None
called _ id = Some id

abbrev pub placed : Form → ℕ → Option ℕ
placed Operand place = Some place
placed _ place = None

abbrev pub defaults_of : Form → List Text
defaults_of (WithDefault text) = text ∷ []
defaults_of _ = []

abbrev pub is_required : Form → Bool
is_required (WithDefault text) = false
is_required _ = true

-- an argument, with the place that it has if it is an operand
abbrev pub Numbered : Type 0
Numbered = ℕ × Argument

abbrev pub built_rule : Numbered → Rule
built_rule (place, one) = record (new_rule one.id) {
  long = called one.form one.id;
  index = placed one.form place;
  action = Some (action_for (is_list one.value));
  range = Some (record { start_inclusive = 1; end_inclusive = 1 });
  value_names = 1;
  defaults = defaults_of one.form;
  parser = Some (parser one.value);
  required = is_required one.form;
}

abbrev pub is_operand : Form → Bool
is_operand Operand = true
is_operand _ = false

abbrev pub operands : List Argument → List Argument
operands = filter (λ one. is_operand one.form)

abbrev pub next_place : Form → ℕ → ℕ
next_place Operand place = place + 1
next_place _ place = place

abbrev pub numbered : List Argument → ℕ → List Numbered
numbered [] place = []
numbered (one ∷ rest) place = (place, one) ∷ numbered rest (next_place one.form place)

pub of_numbered : (P : Argument → Type 0) (arguments : List Argument) (place : ℕ) → AllByRecursion (λ at. P at.1) (numbered arguments place)
    → AllByRecursion P arguments
of_numbered P [] place all = tt
of_numbered P (one ∷ rest) place (first, others) = (first, of_numbered P rest (next_place one.form place) others)

pub to_numbered : (P : Argument → Type 0) (arguments : List Argument) (place : ℕ) → AllByRecursion P arguments
    → AllByRecursion (λ at. P at.1) (numbered arguments place)
to_numbered P [] place all = tt
to_numbered P (one ∷ rest) place (first, others) = (first, to_numbered P rest (next_place one.form place) others)

abbrev pub help : Rule
help = with_index 1 (filled help_rule)

abbrev pub built_rules : List Argument → List Rule
built_rules arguments = map built_rule (numbered arguments 1) ++ help ∷ []

abbrev pub built_shape : Text → List Argument → Shape
built_shape name arguments = record (new_shape name) { rules = built_rules arguments; no_binary_name = true; disable_help_subcommand = true; is_built = true }

abbrev pub flag : Text → Text
flag id = codes "--" ++ id

-- ---- what is found

abbrev pub IfOption : Form → Type 0 → Type 0
IfOption Operand P = Unit {0}
IfOption _ P = P

abbrev pub IfOperand : Form → Type 0 → Type 0
IfOperand Operand P = P
IfOperand _ P = Unit {0}

pub of_option : (P : Type 0) (form : Form) → IsOption form → IfOption form P → P
of_option P Operand option is = absurd option
of_option P _ option is = is

pub of_operand : (P : Type 0) (form : Form) → (IsOption form → ⊥) → IfOperand form P → P
of_operand P Operand operand is = is
of_operand P _ operand is = absurd (operand tt)

abbrev pub is_small : Value → Bool
is_small (Number least most) = ltb most 18446744073709551616
is_small _ = true

abbrev pub IfList : Bool → Type 0 → Type 0
IfList true P = P
IfList false P = Unit {0}

-- no operand follows a list
abbrev pub ListsAreLast : List Argument → Type 0
ListsAreLast [] = Unit {0}
ListsAreLast (one ∷ rest) = IfOperand one.form (IfList (is_list one.value) (operands rest ≡ [])) × ListsAreLast rest

-- no two have one name
abbrev pub are_apart : List Rule → Bool
are_apart [] = true
are_apart (rule ∷ rules) = list_all (λ (other : Rule). not (bytes_eq other.id rule.id)) rules && are_apart rules

pub record IsLookedUp (arguments : List Argument) (at : Numbered) : Type 0 where
  pub argument : find (λ other. bytes_eq other.1.id at.1.id) (numbered arguments 1) ≡ Some at
  pub by_id : arg_by_id (built_rules arguments) at.1.id ≡ Some (built_rule at)
  pub by_long : IfOption at.1.form (arg_by_long (built_rules arguments) at.1.id ≡ Some (built_rule at))
  pub by_index : IfOperand at.1.form (arg_by_index (built_rules arguments) at.0 ≡ Some (built_rule at))
  pub is_flag : long_of (flag at.1.id) ≡ Some (at.1.id, None)
  pub no_dashes : bytes_eq (flag at.1.id) (codes "--") ≡ false
  pub default : default_passes (built_rule at) ≡ true
  pub small : is_small at.1.value ≡ true
  pub single : IfOption at.1.form (is_list at.1.value ≡ false)
  pub named : IfOperand at.1.form (has_name at.1.id (operands arguments) ≡ true)

pub record AreLookedUp (arguments : List Argument) : Type 0 where
  pub each : AllByRecursion (IsLookedUp arguments) (numbered arguments 1)
  pub checked : is_checked (built_shape [] arguments) ≡ true
  pub rules_apart : are_apart (built_rules arguments) ≡ true
  pub distinct : are_distinct (operands arguments) ≡ true
  pub last : ListsAreLast arguments
  pub few : ltb (length arguments) 1000 ≡ true
