use Rattle.std.proofs.Common.{◌<◌, length, get_or, sym, ap, ◌∙◌, subst, arith}
use Rattle.dcv_language.specs.declared.child.Child.TheVariants.{State}
use Rattle.dcv_automaton_text.specs.Meaning.{state_at}
use Rattle.dcv_automaton_read.specs.declared.nodes.Node.{Node}
use Rattle.dcv_automaton_read.specs.Walk.{child_at, leaves_of, IsEarlier}
use Rattle.dcv_automaton_read.proofs.Walks.{next_leaf, earlier_child, earlier_than_all}
use Rattle.dcv_automaton_read.proofs.walk.leaf.Goals as goal

pub way-preserved : goal.way-preserved
way-preserved c =
    let letter = c.args.letter.now in
    let nodes = c.args.nodes.now in
    let number = c.in-Node.number in
    let none : Node = record { slot = 0; hi = State 0; lo = State 0 } in
    let child = child_at letter (get_or nodes number none) in
    let below : number < length nodes = subst (IsEarlier (length nodes)) c.in-Node.is c.way.invariant.0 in
    let earlier = earlier_child letter (length letter) number nodes none c.requires.ordered below in (
      subst (IsEarlier (length nodes)) (sym c.child_at-at.ensures) (earlier_than_all number (length nodes) child (omega (arith, below)) earlier),
      ap (state_at (leaves_of letter nodes)) c.child_at-at.ensures ∙ next_leaf letter nodes number none below earlier ∙ ap (state_at (leaves_of letter nodes)) (sym c.in-Node.is) ∙ c.way.invariant.1,
    )
