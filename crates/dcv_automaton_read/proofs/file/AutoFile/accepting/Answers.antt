use Rattle.std.proofs.Common.{◌<◌, length, refl, sym, ap, ◌∙◌, arith}
use Rattle.dcv_language.specs.Table.{TableState, is_accepting}
use Rattle.dcv_automaton_text.specs.File.{AutomatonFile}
use Rattle.dcv_automaton_text.specs.Meaning.{table_of}
use Rattle.dcv_automaton_read.specs.declared.file.Row.{Row}
use Rattle.dcv_automaton_read.specs.File.{file_from, counts_in}
use Rattle.dcv_automaton_read.proofs.ReadFiles.{state_there}
use Rattle.dcv_automaton_read.proofs.file.AutoFile.accepting.Goals as goal

pub returns : goal.returns
returns c =
    let inside = c.self.inside in
    let file = file_from inside.names.items inside.nodes.keys inside.rows.items inside.access.items inside.suffixes.items (counts_in inside.steps) in
    let below : c.args.state < length inside.rows.items = omega (arith, c.requires, ap (λ (one : AutomatonFile). one.states) c.self.view_is) in
    ap (λ (row : Row). row.accepting) c.index.ensures
    ∙ sym (ap (λ (state : TableState). state.accepting) (state_there file inside.rows.items c.args.state c.index.result.now refl below))
    ∙ ap (λ one. is_accepting (table_of one) c.args.state) c.self.view_is
