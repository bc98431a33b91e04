use Rattle.std.proofs.Common.{arith}
use Rattle.dcv_automaton_read.specs.File.{file_from, counts_in}
use Rattle.dcv_automaton_read.proofs.Kept.{good_parts, states_are_few}
use Rattle.dcv_automaton_read.proofs.file.AutoFile.states.Goals as goal

pub overflow_cast-result : goal.overflow_cast-result
overflow_cast-result c =
    let inside = c.self.inside in
    let file = file_from inside.names.items inside.nodes.keys inside.rows.items inside.access.items inside.suffixes.items (counts_in inside.steps) in
    omega (arith, states_are_few file (good_parts file c.self.invariant.read.good), c.len.ensures)
