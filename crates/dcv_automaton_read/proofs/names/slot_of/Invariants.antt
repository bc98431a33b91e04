use Rattle.std.proofs.Common.{◌≡◌, ◌+◌, drop}
use Rattle.dcv_automaton_text.specs.Rules.{slot_of}
use Rattle.dcv_automaton_read.specs.Seen.{texts_of}
use Rattle.dcv_automaton_read.proofs.names.slot_of.Given as goal

-- what is left of the names has it
abbrev pub invariant-loop-slot : goal.invariant-loop-slot
invariant-loop-slot l = slot_of (texts_of l.names) l.name ≡ l.slot + slot_of (texts_of (drop l.slot l.names)) l.name
