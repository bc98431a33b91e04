use Rattle.std.proofs.Common.{◌≡◌, ◌<◌, ◌+◌, ◌==◌, ◌||◌, ◌&&◌, true, false, ℕ, List, length, take, get_or, sym, ap, subst, ◌∙◌, arith}
use Rattle.std.proofs.lemmas.Bool.{eq-eqb, ne_eqb}
use Rattle.std.proofs.lemmas.List.{take_all, get_or_default}
use Rattle.std.proofs.lemmas.List.Folds.{list_any_more}
use Rattle.dcv_arena.specs.Arena.{value_of}
use Rattle.dcv_arena.specs.declared.nodes.Ref.{Ref}
use Rattle.dcv_arena.specs.declared.nodes.Ref.TheVariants.{Leaf}
use Rattle.dcv_certificate.specs.declared.ones.Ones.{Ones}
use Rattle.dcv_certificate.specs.Marks.{marked}
use Rattle.dcv_certificate.specs.Ones.{is_one, IsOneMore, AreCounted}
use Rattle.dcv_refinement.specs.Members.{block_of}
use Rattle.dcv_certificate.proofs.Sizing.{count-le}
use Rattle.dcv_certificate.proofs.Counted.{counted_none, counted_more}
use Rattle.dcv_certificate.proofs.Truths.{or_neither, and_right, and_second}
use Rattle.dcv_certificate.proofs.partition.Partition.ones.Goals as goal
use Rattle.dcv_certificate.proofs.partition.Partition.ones.Goals.{Joined-eval-eq1, then-eval-eq1+in_ok-add, else-eval-eq1}

pub loop-state-init : goal.loop-state-init
loop-state-init c = record { so_far = c.new-ones.ensures.none; counted = counted_none c.args.self.now.blocks.items c.new-ones.result c.new-ones.ensures }

pub add-requires : goal.add-requires
add-requires c =
    let blocks = c.args.self.now.blocks in
    let some = count-le (length blocks.items) (λ state. (block_of blocks.items state == c.index.result.now) && is_one c.loop-state.ones state) in
    omega (arith, c.loop-state.invariant.counted.numbers c.index.result.now, some, blocks.ok.0, blocks.ok.1, blocks.small)

module _ (c : Joined-eval-eq1) where
  abbrev mark : ℕ × Ref
  mark = get_or c.args.marks.now c.loop-state.state-index (0, Leaf 0)

  inside : mark.0 < length c.args.self.now.blocks.items
  inside = (c.requires.marks c.loop-state.state-index (0, Leaf 0) c.loop-state-test.true).is_state

  taken : (state : ℕ) → marked c.args.scratch.now (take (c.loop-state.state-index + 1) c.args.marks.now) c.args.letter state
      ≡ (marked c.args.scratch.now (take c.loop-state.state-index c.args.marks.now) c.args.letter state || ((mark.0 == state) && (value_of c.args.scratch.now mark.1 c.args.letter == 1)))
  taken state =
      list_any_more (λ (mark : ℕ × Ref). (mark.0 == state) && (value_of c.args.scratch.now mark.1 c.args.letter == 1)) c.args.marks.now c.loop-state.state-index (0, Leaf 0) c.loop-state-test.true

  so_far : (state : ℕ) → is_one c.if-eval-eq1.ones state ≡ marked c.args.scratch.now (take (c.loop-state.state-index + 1) c.args.marks.now) c.args.letter state
  so_far state =
      let before = marked c.args.scratch.now (take c.loop-state.state-index c.args.marks.now) c.args.letter state in
      let value = value_of c.args.scratch.now mark.1 c.args.letter in
      elim c.if-eval-eq1.branch [
        | then-eval-eq1+in_ok-add w ↦
            let is_one_there : (value == 1) ≡ true = eq-eqb value 1 (sym c.eval.ensures.value ∙ w.if-eval-eq1.true) in
            ap (λ (ones : Ones). is_one ones state) w.ones-is ∙ w.in_ok-add.ensures.states_are state
            ∙ ap (λ was. was || (mark.0 == state)) (c.loop-state.invariant.so_far state)
            ∙ ap (λ own. before || own) (sym (and_right (mark.0 == state) (value == 1) is_one_there)) ∙ sym (taken state)
        | else-eval-eq1 w ↦
            let none_there : (value == 1) ≡ false = ne_eqb value 1 (λ e. w.if-eval-eq1.false (c.eval.ensures.value ∙ e)) in
            ap (λ (ones : Ones). is_one ones state) w.ones-is ∙ c.loop-state.invariant.so_far state
            ∙ sym (or_neither before ((mark.0 == state) && (value == 1)) (and_second (mark.0 == state) (value == 1) none_there)) ∙ sym (taken state)
      ]

  counted : AreCounted c.args.self.now.blocks.items c.if-eval-eq1.ones
  counted = elim c.if-eval-eq1.branch [
    | then-eval-eq1+in_ok-add w ↦
        let block = w.index.ensures ∙ get_or_default c.args.self.now.blocks.items mark.0 w.index.result.now 0 inside in
        subst (AreCounted c.args.self.now.blocks.items) (sym w.ones-is)
        (counted_more c.args.self.now.blocks.items c.loop-state.ones w.add.new.self mark.0 inside
        (subst (λ block. IsOneMore c.loop-state.ones mark.0 block w.add.new.self) block w.in_ok-add.ensures) c.loop-state.invariant.counted)
    | else-eval-eq1 w ↦ subst (AreCounted c.args.self.now.blocks.items) (sym w.ones-is) c.loop-state.invariant.counted
  ]

pub loop-state-preserved : goal.loop-state-preserved
loop-state-preserved c = record { so_far = so_far c; counted = counted c }

pub returns-clause-states : goal.returns-clause-states
returns-clause-states c state =
    let all = take_all c.loop-state.state-index c.args.marks.now c.loop-state-test.false in
    c.loop-state.invariant.so_far state ∙ ap (λ (marks : List (ℕ × Ref)). marked c.args.scratch.now marks c.args.letter state) all
