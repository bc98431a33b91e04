use Rattle.std.proofs.Common.{◌≡◌, drop}
use Rattle.dcv_automaton_text.specs.Rules.{is_listed}
use Rattle.dcv_automaton_read.specs.Seen.{texts_of}
use Rattle.dcv_automaton_read.proofs.names.is_listed.Given as goal

-- what is left of the names decides
abbrev pub invariant-loop-other : goal.invariant-loop-other
invariant-loop-other l = is_listed (texts_of l.names) l.name ≡ is_listed (texts_of (drop l.other-index l.names)) l.name
