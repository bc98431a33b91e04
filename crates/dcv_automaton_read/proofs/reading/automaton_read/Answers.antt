use Rattle.std.proofs.Common.{◌^◌}
use Rattle.dcv_automaton_lines.specs.Seen.{file_of}
use Rattle.dcv_automaton_read.proofs.Fronts.{front_is_short}
use Rattle.dcv_automaton_read.proofs.reading.automaton_read.Goals as goal

pub built-requires-clause-short : goal.built-requires-clause-short
built-requires-clause-short c =
    front_is_short c.args.bytes.now c.in-Ok.lines.front.now (file_of c.in-Ok.lines) (2 ^ 32) c.in-Ok.ensures.ok c.in-Ok.ensures.front c.requires

pub returns-clause-no_fault : goal.returns-clause-no_fault
returns-clause-no_fault c = λ fault at.
    c.texts_are_automata_or_at_fault.ensures.none c.args.bytes.now (file_of c.in-Ok.lines) fault c.in-Ok.ensures.ok c.in_ok-nodes.ensures.judged at
