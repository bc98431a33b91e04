use Rattle.std.proofs.Common.{◌≡◌, ◌∙◌, map, take, length, get_or, ap, sym, subst, arith}
use Rattle.std.proofs.lemmas.List.{take_all}
use Rattle.dcv_automaton_text.specs.Meaning.{state_at, table_of}
use Rattle.dcv_automaton_read.specs.Walk.{AreOrdered, IsEarlier}
use Rattle.dcv_automaton_read.specs.declared.file.Row.{Row}
use Rattle.dcv_automaton_read.proofs.Walks.{ordered, row_within}
use Rattle.dcv_certify.specs.Steps.{LeadTo}
use Rattle.dcv_certify.proofs.BuiltSets.{some_row}
use Rattle.dcv_certify.proofs.Stepping.{all_lead}
use Rattle.dcv_certify.proofs.steps.next_by_nodes.Goals as goal

pub leaves-requires-clause-ordered : goal.leaves-requires-clause-ordered
leaves-requires-clause-ordered c =
    subst (λ width. AreOrdered width c.nodes.result.now) (sym c.requires) (ordered c.args.file.now c.nodes.result.now c.nodes.ensures)

pub state_of-requires : goal.state_of-requires
state_of-requires c =
    let rows = c.rows-rows.result.now in
    subst (λ count. IsEarlier count (get_or rows c.loop-state.state some_row).next) (sym (ap length c.deref.ensures.value ∙ c.in_ok-leaves.ensures.count))
    (row_within c.args.file.now c.nodes.result.now c.nodes.ensures rows c.loop-state.state some_row c.rows-rows.ensures c.loop-state-test.true)

pub returns : goal.returns
returns c =
    let file = c.args.file.now in
    let rows = c.rows-rows.result.now in
    let at = c.loop-state.state in
    let past = c.loop-state-test.false in
    let all = take_all at c.loop-state.next.items (omega (arith, past, c.loop-state.invariant.0)) in
    let whole : take at rows ≡ rows = take_all at rows past in
    let is = sym all ∙ c.loop-state.invariant.1 ∙ (λ i. map (λ (row : Row). state_at (c.in_ok-leaves.ensures.leaves i) row.next) (whole i)) in
    subst (LeadTo (table_of file) c.args.letter) (sym is)
    (all_lead file c.nodes.result.now c.nodes.ensures rows c.rows-rows.ensures c.letters_of_width_are_all.ensures.place c.args.letter c.requires)
