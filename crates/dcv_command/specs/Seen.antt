-- How clauses see the table of the code, a request and a fault.
--     argument_seen, shape_seen   an argument of the table, and a command as `clap` is told it
--     names_seen names            names of files
--     asked_by request            what the request asks for
--     IsUsageOnlyWhere P fault    the words are refused as no command's only where P holds
--     HasText fault               what is written then is not empty
use Rattle.std.specs.Prelude.{◌≢◌, List, [], map, string_bytes, Vec}
use Rattle.std.specs.Borrow.{Bor}
use Rattle.clap.specs.Words.{Shape, Text}
use Rattle.dcv_command.specs.declared.program.Argument.{Argument as CodeArgument}
use Rattle.dcv_command.specs.declared.program.Entry.{Entry}
use Rattle.dcv_command.specs.declared.program.Form.{Form as CodeForm}
use Rattle.dcv_command.specs.declared.program.Form.TheVariants.{Operand as CodeOperand, Required as CodeRequired, WithDefault as CodeWithDefault}
use Rattle.dcv_command.specs.declared.program.Value.{Value as CodeValue}
use Rattle.dcv_command.specs.declared.program.Value.TheVariants.{FileName as CodeFileName, FileNames as CodeFileNames, Number as CodeNumber}
use Rattle.dcv_command.specs.declared.words.Request.{Request as CodeRequest}
use Rattle.dcv_command.specs.declared.words.Request.TheVariants.{Report as CodeReport, Certify as CodeCertify, Convert as CodeConvert, Implies as CodeImplies, Stuck as CodeStuck, Synth as CodeSynth, Replay as CodeReplay, Sweep as CodeSweep, Set as CodeSet}
use Rattle.dcv_command.specs.declared.words.WordsFault.{WordsFault}
use Rattle.dcv_command.specs.declared.words.WordsFault.TheVariants.{Usage, Memory}
use Rattle.dcv_command.specs.Program.{shape_of}
use Rattle.dcv_command.specs.Table.{Argument, Form, Operand, Required, WithDefault, Value, FileName, FileNames, Number, Request, Report, Certify, Convert, Implies, Stuck, Synth, Replay, Sweep, Set}

abbrev pub form_seen : CodeForm → Form
form_seen CodeOperand = Operand
form_seen CodeRequired = Required
form_seen (CodeWithDefault text) = WithDefault text.now

abbrev pub value_seen : CodeValue → Value
value_seen CodeFileName = FileName
value_seen CodeFileNames = FileNames
value_seen (CodeNumber least most) = Number least most

abbrev pub argument_seen : CodeArgument → Argument
argument_seen argument = record { id = argument.id.now; form = form_seen argument.form; value = value_seen argument.value }

abbrev pub shape_seen : Entry → Shape
shape_seen entry = shape_of entry.name.now (map argument_seen entry.arguments.now)

abbrev pub names_seen : {Z : Type 0} → Vec (Bor Text) Z → List Text
names_seen {Z} names = map (λ name. name.now) names.items

abbrev pub asked_by : CodeRequest → Request
asked_by (CodeReport kind file limits) = Report kind file.now limits
asked_by (CodeCertify automaton) = Certify automaton.now
asked_by (CodeConvert automaton to) = Convert automaton.now to
asked_by (CodeImplies first second limits) = Implies first.now second.now limits
asked_by (CodeStuck file limits) = Stuck file.now limits
asked_by (CodeSynth file inputs limits) = Synth file.now inputs limits
asked_by (CodeReplay subset observer trace) = Replay subset observer.now trace.now
asked_by (CodeSweep seed count) = Sweep seed count
asked_by (CodeSet asked files limits tuples) = Set asked (names_seen files) limits tuples

abbrev pub IsUsageOnlyWhere : Type 0 → WordsFault → Type 0
IsUsageOnlyWhere P (Usage text) = P
IsUsageOnlyWhere P Memory = Unit {0}

abbrev pub HasText : WordsFault → Type 0
HasText (Usage text) = string_bytes text ≢ []
HasText Memory = Unit {0}
