-- What each refusal says, and what it comes from.
--     most_bytes             how many bytes a formula file may have
--     most_automaton_bytes   how many the text of an automaton may have
--     most_observer_bytes    how many the text of an observer may have
--     words_of refusal       the words of its line, as `fault syntax at 12`
--     over_words over        those of the first step that is over the limits, as `budget states 30000 at 12 step 3`
--     tuples_words limit     those of a set whose automata have too many tuples of states, as `budget tuples 5000000`
--     ended which words      the words where a request reads several formula files, and this one is refused
--     message_of refused     the line
use Rattle.std.specs.Fmt.{decimal}
use Rattle.std.specs.Prelude.{ℕ, Bool, true, false, List, ◌++◌, Result, Ok, Err, if◌then◌else◌, codes}
use Rattle.dcv_cli.specs.Common.{ObsFault, ReadFault}
use Rattle.dcv_cli.specs.Common.{ScopeFault, line, Excess, States, Nodes, Over, Refusal, Open, Read, Formula, ObserverRefusal as Observer}
use Rattle.dcv_cli.specs.Common.{Trace, Budget, Product, Tuples, Write, Declarations, Outputs, Names, Length as AutomatonLength, Syntax as AutomatonSyntax}
use Rattle.dcv_cli.specs.Common.{Table as AutomatonTable, TraceFault, Line, Empty, TraceLength, Refused, Which, Only, First, Second, Number, Status}
use Rattle.dcv_cli.specs.Common.{StatusFormula, StatusBudget, Input, Output, Memory as StatusMemory, StatusAutomaton, StatusTrace}
use Rattle.dcv_cli.specs.Common.{StatusObserver}
use Rattle.dcv_automaton_read.specs.declared.faults.AutoFault.{AutoFault}
use Rattle.dcv_automaton_read.specs.declared.faults.AutoFault.TheVariants as spelling
use Rattle.dcv_implies.specs.declared.faults.OutsideFault.{OutsideFault}
use Rattle.dcv_implies.specs.declared.faults.OutsideFault.TheVariants as outside
use Rattle.dcv_observer.specs.declared.fault.ObsFault.TheVariants as observing
use Rattle.dcv_replay.specs.declared.fault.ReplayFault.{ReplayFault}
use Rattle.dcv_replay.specs.declared.fault.ReplayFault.TheVariants as replay
use Rattle.dcv_sentence.specs.declared.faults.ReadFault.TheVariants as reading
use Rattle.dcv_scope.specs.declared.faults.ScopeFault.TheVariants as scope
use Rattle.dcv_cli.specs.declared.refusal.Refusal.TheVariants.{Automaton, Memory}
use Rattle.dcv_cli.specs.declared.faults.FormulaFault.{FormulaFault}
use Rattle.dcv_cli.specs.declared.faults.FormulaFault.TheVariants.{Length as FormulaLength, Reading, Scope}
use Rattle.dcv_cli.specs.declared.faults.AutomatonFault.{AutomatonFault}
use Rattle.dcv_cli.specs.declared.faults.ObserverFault.{ObserverFault}
use Rattle.dcv_cli.specs.declared.faults.ObserverFault.TheVariants.{Length as ObserverLength, Syntax as ObserverSyntax, Names as ObserverNames}
use Rattle.dcv_cli.specs.Status.{has_cause}

abbrev pub most_bytes : ℕ
most_bytes = 262144

-- and the text of an automaton
abbrev pub most_automaton_bytes : ℕ
most_automaton_bytes = 134217728

-- and that of an observer
abbrev pub most_observer_bytes : ℕ
most_observer_bytes = 134217728

abbrev pub status_of : Refusal → Status
status_of Open = Input
status_of Read = Input
status_of (Formula fault) = StatusFormula
status_of (Automaton fault) = StatusAutomaton
status_of (Observer fault) = StatusObserver
status_of (Trace fault) = StatusTrace
status_of (Budget over) = StatusBudget
status_of (Product excess limit) = StatusBudget
status_of (Tuples limit) = StatusBudget
status_of Write = Output
status_of Memory = StatusMemory

abbrev pub fault_words : List ℕ → List ℕ
fault_words word = codes "fault " ++ word

-- with an offset in the file
abbrev pub fault_words_at : List ℕ → ℕ → List ℕ
fault_words_at word at = fault_words word ++ codes " at " ++ decimal at

-- memory is a refusal of its own
abbrev pub reading_words : ReadFault → List ℕ
reading_words (reading.Byte at) = fault_words_at (codes "byte") at
reading_words (reading.Syntax at) = fault_words_at (codes "syntax") at
reading_words (reading.Number at) = fault_words_at (codes "number") at
reading_words (reading.Name at) = fault_words_at (codes "name") at
reading_words (reading.Nest at) = fault_words_at (codes "nest") at
reading_words reading.Memory = fault_words (codes "memory")

abbrev pub scope_words : ScopeFault → List ℕ
scope_words (scope.TooMany at) = fault_words_at (codes "many") at
scope_words (scope.Duplicate at) = fault_words_at (codes "duplicate") at
scope_words (scope.Taken at) = fault_words_at (codes "taken") at
scope_words (scope.Unknown at) = fault_words_at (codes "unknown") at
scope_words (scope.Kind at) = fault_words_at (codes "kind") at
scope_words (scope.Arity at) = fault_words_at (codes "arity") at
scope_words (scope.Size at) = fault_words_at (codes "size") at
scope_words (scope.Depth at) = fault_words_at (codes "depth") at
scope_words (scope.Slots at) = fault_words_at (codes "slots") at
scope_words (scope.BoundShift at) = fault_words_at (codes "shift") at
scope_words scope.Memory = fault_words (codes "memory")

-- A file that is too long is at fault after the last byte that a file may have.
abbrev pub formula_words : FormulaFault → List ℕ
formula_words FormulaLength = fault_words_at (codes "length") most_bytes
formula_words (Reading fault) = reading_words fault
formula_words (Scope fault) = scope_words fault
formula_words Declarations = fault_words (codes "declarations")
formula_words Outputs = fault_words (codes "outputs")
formula_words (Names at) = fault_words_at (codes "names") at

abbrev pub automaton_words : AutomatonFault → List ℕ
automaton_words AutomatonLength = fault_words (codes "automaton length")
automaton_words (AutomatonSyntax at) = fault_words_at (codes "automaton syntax") at
automaton_words (AutomatonTable at) = fault_words_at (codes "automaton table") at

abbrev pub observer_words : ObserverFault → List ℕ
observer_words ObserverLength = fault_words (codes "observer length")
observer_words (ObserverSyntax at) = fault_words_at (codes "observer syntax") at
observer_words (ObserverNames at) = fault_words_at (codes "observer names") at

-- a line is told by its number
abbrev pub trace_words : TraceFault → List ℕ
trace_words (Line line) = fault_words (codes "line ") ++ decimal line
trace_words Empty = fault_words (codes "trace empty")
trace_words TraceLength = fault_words (codes "trace length")

-- what there is too much of, in a word
abbrev pub excess_word_of : Excess → List ℕ
excess_word_of States = codes "states"
excess_word_of Nodes = codes "nodes"

abbrev pub over_words : Over → List ℕ
over_words over =
    codes "budget " ++ excess_word_of over.excess ++ codes " " ++ decimal over.limit ++ codes " at " ++ decimal over.at ++ codes " step " ++ decimal over.step

abbrev pub product_words : Excess → ℕ → List ℕ
product_words excess limit = codes "budget " ++ excess_word_of excess ++ codes " " ++ decimal limit ++ codes " in product"

-- more tuples come before an answer than this
abbrev pub tuples_words : ℕ → List ℕ
tuples_words limit = codes "budget tuples " ++ decimal limit

abbrev pub words_of : Refusal → List ℕ
words_of Open = fault_words (codes "open")
words_of Read = fault_words (codes "read")
words_of (Formula fault) = formula_words fault
words_of (Automaton fault) = automaton_words fault
words_of (Observer fault) = observer_words fault
words_of (Trace fault) = trace_words fault
words_of (Budget over) = over_words over
words_of (Product excess limit) = product_words excess limit
words_of (Tuples limit) = tuples_words limit
words_of Write = fault_words (codes "write")
words_of Memory = fault_words (codes "memory")

-- of one of several formula files that a request reads, the line says which
abbrev pub ended : Which → List ℕ → List ℕ
ended Only words = words
ended First words = words ++ codes " in first"
ended Second words = words ++ codes " in second"
ended (Number number) words = words ++ (codes " in file " ++ decimal number)

abbrev pub message_of : Refused → List ℕ
message_of refused = line (ended refused.which (words_of refused.refusal))

abbrev pub only : Refusal → Refused
only refusal = record { refusal = refusal; which = Only }

-- a fault of a file is said of that file; that the outside failed, or memory, is said of none
abbrev pub marked : Which → Refusal → Refused
marked which refusal = record { refusal = refusal; which = if has_cause (status_of refusal) then Only else which }

-- after the words, to the end of the line
abbrev pub end_of : Which → List ℕ
end_of Only = codes "\n"
end_of First = codes " in first\n"
end_of Second = codes " in second\n"
end_of (Number number) = codes " in file " ++ (decimal number ++ codes "\n")

abbrev pub refusal_of_automaton : AutoFault → Refusal
refusal_of_automaton (spelling.Syntax at) = Automaton (AutomatonSyntax at)
refusal_of_automaton (spelling.Table at) = Automaton (AutomatonTable at)
refusal_of_automaton spelling.Memory = Memory

abbrev pub refusal_of_observer : ObsFault → Refusal
refusal_of_observer (observing.Syntax at) = Observer (ObserverSyntax at)
refusal_of_observer (observing.Names at) = Observer (ObserverNames at)
refusal_of_observer observing.Memory = Memory

abbrev pub refusal_of_replay : ReplayFault → Refusal
refusal_of_replay replay.Open = Open
refusal_of_replay replay.Read = Read
refusal_of_replay (replay.Line line) = Trace (Line line)
refusal_of_replay replay.TooLong = Trace TraceLength
refusal_of_replay replay.Empty = Trace Empty
refusal_of_replay replay.Write = Write

abbrev pub refusal_of_outside : OutsideFault → Refusal
refusal_of_outside (outside.States limit) = Product States limit
refusal_of_outside (outside.Nodes limit) = Product Nodes limit
refusal_of_outside outside.Memory = Memory

abbrev pub refusal_of_reading : ReadFault → Refusal
refusal_of_reading reading.Memory = Memory
refusal_of_reading fault = Formula (Reading fault)

abbrev pub refusal_of_scope : ScopeFault → Refusal
refusal_of_scope scope.Memory = Memory
refusal_of_scope fault = Formula (Scope fault)

-- ---- which refusal a call ended with

abbrev pub is_open : Refusal → Bool
is_open Open = true
is_open _ = false

abbrev pub is_read : Refusal → Bool
is_read Read = true
is_read _ = false

-- the refusal is one of a text that was taken, or memory ran out while it was judged
abbrev pub is_of_text : Refusal → Bool
is_of_text Open = false
is_of_text Read = false
is_of_text Write = false
is_of_text _ = true

-- the text could not be taken, or memory ran out, or the text itself is refused
abbrev pub is_of_taking : Refusal → Bool
is_of_taking Write = false
is_of_taking _ = true

-- a call ended by such a refusal
abbrev pub is_err_and : {T : Type 0} → (Refusal → Bool) → Result T Refusal → Bool
is_err_and test (Ok value) = false
is_err_and test (Err refusal) = test refusal
