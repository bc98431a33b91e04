use Rattle.std.proofs.Common.{◌∙◌, [], ap, subst, arith}
use Rattle.dcv_automaton_text.specs.Meaning.{table_of}
use Rattle.dcv_certify.specs.Joined.{AreAllOwn}
use Rattle.dcv_certify.specs.Walk.{waiting}
use Rattle.dcv_certify.proofs.Numbering.{noughts, all_joined, own_numbers}
use Rattle.dcv_certify.proofs.Walks.{walk_begins, walk_ends}
use Rattle.dcv_certify.proofs.alike.least_alike.Goals as goal

pub loop-at-init : goal.loop-at-init
loop-at-init c = (
  walk_begins c.args.file.now c.keeps_the_rules.ensures c.in_ok-links.links.first.items c.in_ok-links.links.next.items c.in_ok-links.ensures c.wait.new.left.items c.new-2.result
      c.in_ok-numbers.numbers.items
      (c.in_ok-wait.ensures ∙ ap (λ left. waiting left c.new-2.result c.root.result) c.new-left.ensures.items ∙ ap (waiting [] c.new-2.result) c.root.ensures)
      (all_joined c.args.file.now c.in_ok-numbers.numbers.items (c.in_ok-numbers.ensures.items_if_clones_equal (λ y same. same) ∙ ap noughts c.entries.ensures)),
  c.in_ok-steps.ensures (table_of c.args.file.now),
)

pub returns-then-are_own : goal.returns-then-are_own
returns-then-are_own c =
    own_numbers c.args.file.now c.try_next.new.numbers.items c.in_ok-splits.ensures.walk.numbering (subst AreAllOwn c.deref.ensures.value (c.are_own.ensures.0 c.if-are_own.true))

pub returns : goal.returns
returns c =
    walk_ends c.args.file.now c.keeps_the_rules.ensures c.in_ok-links.links.first.items c.in_ok-links.links.next.items c.in_ok-links.ensures c.loop-at.left.items c.loop-at.numbers.items
    (omega (arith, c.in_default.ensures.cases.0)) c.loop-at.invariant.0
