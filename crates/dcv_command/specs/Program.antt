-- The command line of the program, as `clap` reads it: one of the commands of the table is required.
--     rule_of argument    an argument, as `clap` is told it: each use has one value, and a list has a use for each name
--     shape_of name arguments
--                         a command, as a subcommand
--     program             what `clap` is given
--     alone command       a command by itself, for the words after its name
use Rattle.std.specs.Prelude.{true, false, List, [], ◌∷◌, map, Some, codes}
use Rattle.clap.specs.Words.{App, Shape, Rule, Text, new_rule}
use Rattle.clap.specs.Simple.{new_shape}
use Rattle.clap.specs.declared.builder.action.ArgAction.TheVariants.{Append}
use Rattle.clap.specs.declared.builder.value_parser.ValueParser.TheVariants.{Unsigned}
use Rattle.dcv_command.specs.Table.{Argument, Command, Form, Operand, Required, WithDefault, Value, FileName, FileNames, Number, commands}

abbrev pub taken_as : Value → Rule → Rule
taken_as FileName rule = rule
taken_as FileNames rule = record rule { action = Some Append }
taken_as (Number least most) rule = record rule { parser = Some (Unsigned least most) }

abbrev pub given_as : Form → Text → Rule → Rule
given_as Operand id rule = record rule { required = true }
given_as Required id rule = record rule { long = Some id; required = true }
given_as (WithDefault text) id rule = record rule { long = Some id; defaults = text ∷ [] }

abbrev pub rule_of : Argument → Rule
rule_of argument = given_as argument.form argument.id (taken_as argument.value (record (new_rule argument.id) { value_names = 1 }))

abbrev pub shape_of : Text → List Argument → Shape
shape_of name arguments = record (new_shape name) { rules = map rule_of arguments }

-- without its commands, of which one is required
abbrev pub bare_app : App
bare_app = record {
  top = record (new_shape (codes "dcvalid")) { no_binary_name = true; subcommand_required = true };
  subs = [];
}

abbrev pub program : App
program = record {
  top = record bare_app.top { is_leaf = false };
  subs = map (λ command. shape_of command.name command.arguments) commands;
}

abbrev pub alone : Command → App
alone command = record { top = record (shape_of command.name command.arguments) { no_binary_name = true }; subs = [] }
