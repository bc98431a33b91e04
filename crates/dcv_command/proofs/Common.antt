-- The names that most proofs cite, passed on from one place.
pub use Rattle.std.proofs.Common.{◌≡◌, ◌∙◌, refl, ap, true, List, [], false, ◌∷◌, sym, Bool, ℕ, Some, fold, Option, None, subst, ◌&&◌, if◌then◌else◌, find}
pub use Rattle.std.proofs.Common.{◌||◌, true≢false, arith, ◌<◌, ◌++◌, not, option_and_then, ◌==◌, ◌≤◌, length, codes, is_some, ◌+◌, map, option_map, drop}
pub use Rattle.std.proofs.Common.{suc}
pub use Rattle.clap.specs.Words.{Text, Row, Shape, Rule, Kinds, app_of, App, with_rule, with_subcommand, found_of, fault_of, takes, subcommand_rows_of}
pub use Rattle.clap.specs.Words.{reading_of}
pub use Rattle.std.specs.Str.{bytes_eq}
pub use Rattle.std.specs.List.{AllByRecursion, list_all, list_any}
pub use Rattle.clap.specs.Kinds.{or_else, check_kinds}
pub use Rattle.clap.specs.Walk.{Held, nothing_held, settled, Walk, idle, arg_by_index, Step, after_step, finished, walk_from, rows_after, subcommand_met}
pub use Rattle.clap.specs.Walk.{walk, has_row, Waiting, option, plain_word, Names, subcommand_or_other, with_default, positional, word_met, trailing}
pub use Rattle.clap.specs.Walk.{value, after_flag, long_or_other, to_positional}
pub use Rattle.std.specs.Option.{option_map_or}
pub use Rattle.std.proofs.lemmas.Slice.Eq.{bytes_eq-Decides}
pub use Rattle.dcv_command.specs.Table.{Argument, Value, FileName, FileNames, Number, Command, commands, Form, Operand, Required, WithDefault, Asks, Of, value_of}
pub use Rattle.clap.specs.Faults.{settle_fault, step_fault, check_fault, level_fault, turn_fault, other_fault, word_fault}
pub use Rattle.std.proofs.lemmas.Bool.{false_from_ne_true}
pub use Rattle.clap.specs.ValueTests.{accepts, is_unsigned_in}
pub use Rattle.clap.specs.Takes.{is_given, step_passes, default_passes, is_valid, level_passes, other_passes, settle_passes, turn_passes, word_passes}
pub use Rattle.clap.specs.Lexer.{long_of, short_of}
pub use Rattle.clap.specs.declared.builder.value_parser.ValueParser.TheVariants.{Unsigned}
pub use Rattle.dcv_command.specs.Program.{program, rule_of}
pub use Rattle.dcv_command.specs.Request.{request_in, request_of_subcommand, asked_of, asked_in, number_of, some_names, value_in}
pub use Rattle.std.specs.Str.Parse.{digits_value, without_leading_plus}
pub use Rattle.std.proofs.Math.Bool.{or-true}
pub use Rattle.clap.proofs.SimpleLemmas.{is_false}
pub use Rattle.clap.proofs.WalkLemmas.{both}
pub use Rattle.dcv_command.specs.Listed.{IsOption, has_name}
pub use Rattle.std.proofs.lemmas.List.{append-nil}
pub use Rattle.clap.specs.Facts.{explicit_source}
pub use Rattle.std.proofs.lemmas.Result.{IfOk-weaker}
pub use Rattle.dcv_command.specs.Seen.{shape_seen, argument_seen}
