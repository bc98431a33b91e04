use Rattle.std.proofs.Common.{◌<◌, List, length, get_or, refl, sym, ap, ◌∙◌, subst, arith}
use Rattle.dcv_language.specs.Table.{next_in}
use Rattle.dcv_automaton_text.specs.File.{AutomatonFile}
use Rattle.dcv_automaton_text.specs.Meaning.{table_of, state_at}
use Rattle.dcv_automaton_read.specs.declared.nodes.Node.{Node}
use Rattle.dcv_automaton_read.specs.declared.file.Row.{Row}
use Rattle.dcv_automaton_read.specs.File.{file_from, counts_in}
use Rattle.dcv_automaton_read.specs.Walk.{leaves_of, AreOrdered, IsEarlier}
use Rattle.dcv_automaton_read.proofs.Kept.{good_parts, names_are_few}
use Rattle.dcv_automaton_read.proofs.Walks.{ordered, row_within, leads}
use Rattle.dcv_automaton_read.proofs.file.AutoFile.next.Goals as goal

pub leaf-requires-clause-ordered : goal.leaf-requires-clause-ordered
leaf-requires-clause-ordered c =
    let inside = c.self.inside in
    let nodes = inside.nodes.keys in
    let file = file_from inside.names.items nodes inside.rows.items inside.access.items inside.suffixes.items (counts_in inside.steps) in
    let width = c.requires.width ∙ sym (ap (λ (one : AutomatonFile). length one.names) c.self.view_is) in
    subst (λ (all : List Node). AreOrdered (length c.args.letter.now) all) (sym c.as_slice.ensures.keys)
    (subst (λ width. AreOrdered width nodes) (sym width) (ordered file nodes c.self.invariant.read))

pub leaf-requires-clause-narrow : goal.leaf-requires-clause-narrow
leaf-requires-clause-narrow c =
    let inside = c.self.inside in
    let file = file_from inside.names.items inside.nodes.keys inside.rows.items inside.access.items inside.suffixes.items (counts_in inside.steps) in
    let width = c.requires.width ∙ sym (ap (λ (one : AutomatonFile). length one.names) c.self.view_is) in
    omega (arith, width, names_are_few file.names (good_parts file c.self.invariant.read.good).names)

pub leaf-requires-clause-start : goal.leaf-requires-clause-start
leaf-requires-clause-start c =
    let inside = c.self.inside in
    let nodes = inside.nodes.keys in
    let file = file_from inside.names.items nodes inside.rows.items inside.access.items inside.suffixes.items (counts_in inside.steps) in
    let below : c.args.state < length inside.rows.items = omega (arith, c.requires.state, ap (λ (one : AutomatonFile). one.states) c.self.view_is) in
    let within = row_within file nodes c.self.invariant.read inside.rows.items c.args.state c.index.result.now refl below in
    subst (λ (row : Row). IsEarlier (length c.as_slice.result.now) row.next) (sym c.index.ensures)
    (subst (λ (all : List Node). IsEarlier (length all) (get_or inside.rows.items c.args.state c.index.result.now).next) (sym c.as_slice.ensures.keys) within)

pub returns : goal.returns
returns c =
    let inside = c.self.inside in
    let nodes = inside.nodes.keys in
    let file = file_from inside.names.items nodes inside.rows.items inside.access.items inside.suffixes.items (counts_in inside.steps) in
    let letter = c.args.letter.now in
    let below : c.args.state < length inside.rows.items = omega (arith, c.requires.state, ap (λ (one : AutomatonFile). one.states) c.self.view_is) in
    let width = c.requires.width ∙ sym (ap (λ (one : AutomatonFile). length one.names) c.self.view_is) in
    c.leaf.ensures
    ∙ (λ i. state_at (leaves_of letter (c.as_slice.ensures.keys i)) (c.index.ensures i).next)
    ∙ leads file nodes c.self.invariant.read inside.rows.items c.args.state c.index.result.now refl below c.letters_of_width_are_all.ensures.place letter width
    ∙ ap (λ one. next_in (table_of one) c.args.state letter) c.self.view_is
