use Rattle.std.proofs.Common.{◌≡◌, ◌<◌, ◌++◌, inl, inr, ℕ, List, Vec, Global, length, get_or, All, Contains, refl, sym, ap, subst, ◌∙◌, arith}
use Rattle.std.proofs.lemmas.List.{take_all}
use Rattle.dcv_certificate.specs.declared.partition.Partition.{Partition}
use Rattle.dcv_certificate.specs.Partition.{IsButMended}
use Rattle.dcv_refinement.specs.Members.{list_of, IsMended, HaveTheirOwn}
use Rattle.dcv_refinement.proofs.MemberFacts.{own_mended}
use Rattle.dcv_certificate.specs.Ones.{are_few_in}
use Rattle.dcv_certificate.proofs.Counted.{every_one, ones_below}
use Rattle.dcv_certificate.proofs.Candidates.{IsListed, IsSettled, added_below, added_grows, added_listed, settled_more, listed_below, all_settled}
use Rattle.dcv_certificate.proofs.partition.Partition.candidates.Goals as goal
use Rattle.dcv_certificate.proofs.partition.Partition.candidates.Goals.{Joined-not-are_few, then-not-are_few+in_ok-extend_from_slice, else-not-are_few}

pub loop-block-init : goal.loop-block-init
loop-block-init c =
    let blocks = c.args.self.now.blocks.items in
    let ones = c.args.ones.now in
    record {
      kept = record { vertices = refl; suffixes = refl; blocks = refl; parts = refl; count = refl; sizes = refl };
      mended = c.requires.members;
      states_are = subst (All (λ state. state < length blocks)) (sym c.in_ok-states.ensures) (ones_below ones (length blocks) c.requires.counted.states_are);
      every_one = λ state is. subst (λ states. Contains states state) (sym c.in_ok-states.ensures) (every_one ones state is);
      others = λ k d h. absurd (omega (arith, h));
    }

pub are_few-requires : goal.are_few-requires
are_few-requires c =
    let below = listed_below c.args.self.now.blocks.items c.args.ones.now c.args.self.now.count c.deref-block-items.result.now c.loop-block.block-index c.requires.counted c.requires.numbers
    c.deref-block-items.ensures.value c.loop-block-test.true in
    omega (arith, below, c.requires.sizes, ap (λ (sizes : Vec ℕ Global). length sizes.items) c.loop-block.invariant.kept.sizes)

module _ (c : Joined-not-are_few) where
  abbrev blocks : List ℕ
  blocks = c.args.self.now.blocks.items

  abbrev block : ℕ
  block = get_or c.deref-block-items.result.now c.loop-block.block-index 0

  kept : IsButMended c.args.self.now c.if-not-are_few.self
  kept =
      let was = c.loop-block.invariant.kept in
      elim c.if-not-are_few.branch [
        | then-not-are_few+in_ok-extend_from_slice w ↦
            subst (IsButMended c.args.self.now) (sym w.self-is) (record { vertices = was.vertices; suffixes = was.suffixes; blocks = was.blocks; parts = was.parts; count = was.count; sizes = was.sizes })
        | else-not-are_few w ↦ subst (IsButMended c.args.self.now) (sym w.self-is) was
      ]

  now_blocks : (seen : List ℕ) → seen ≡ c.loop-block.self.blocks.items → seen ≡ blocks
  now_blocks seen is = is ∙ ap (λ (blocks : Vec ℕ Global). blocks.items) c.loop-block.invariant.kept.blocks

  abbrev Mends : List ℕ → List (List ℕ) → Type 0
  Mends seen new = IsMended seen block (list_of c.loop-block.self.members) (list_of new)

  mended : HaveTheirOwn blocks (list_of c.if-not-are_few.self.members)
  mended =
      let was = c.loop-block.invariant.mended in
      elim c.if-not-are_few.branch [
        | then-not-are_few+in_ok-extend_from_slice w ↦
            let is = subst (λ seen. Mends seen w.mend.new.self) (now_blocks w.deref.result.now w.deref.ensures.value) w.mend.ensures in
            subst (λ (self : Partition). HaveTheirOwn blocks (list_of self.members)) (sym w.self-is)
            (own_mended blocks (list_of c.loop-block.self.members) (list_of w.mend.new.self) block is was)
        | else-not-are_few w ↦ subst (λ (self : Partition). HaveTheirOwn blocks (list_of self.members)) (sym w.self-is) was
      ]

  states_are : All (λ state. state < length blocks) c.if-not-are_few.states.items
  states_are = elim c.if-not-are_few.branch [
    | then-not-are_few+in_ok-extend_from_slice w ↦
        let is = subst (λ seen. Mends seen w.mend.new.self) (now_blocks w.deref.result.now w.deref.ensures.value) w.mend.ensures in
        let grown = w.in_ok-extend_from_slice.ensures.items ∙ ap (λ list. c.loop-block.states.items ++ list) w.list.ensures in
        subst (λ (states : Vec ℕ Global). All (λ state. state < length blocks) states.items) (sym w.states-is)
        (added_below blocks block (list_of c.loop-block.self.members) (list_of w.mend.new.self) is c.loop-block.invariant.mended c.loop-block.states.items w.extend_from_slice.new.self.items grown
        c.loop-block.invariant.states_are)
    | else-not-are_few w ↦ subst (λ (states : Vec ℕ Global). All (λ state. state < length blocks) states.items) (sym w.states-is) c.loop-block.invariant.states_are
  ]

  grows : (state : ℕ) → Contains c.loop-block.states.items state → Contains c.if-not-are_few.states.items state
  grows state there = elim c.if-not-are_few.branch [
    | then-not-are_few+in_ok-extend_from_slice w ↦
        let is = subst (λ seen. Mends seen w.mend.new.self) (now_blocks w.deref.result.now w.deref.ensures.value) w.mend.ensures in
        let grown = w.in_ok-extend_from_slice.ensures.items ∙ ap (λ list. c.loop-block.states.items ++ list) w.list.ensures in
        subst (λ (states : Vec ℕ Global). Contains states.items state) (sym w.states-is)
        (added_grows blocks block (list_of c.loop-block.self.members) (list_of w.mend.new.self) is c.loop-block.invariant.mended c.loop-block.states.items w.extend_from_slice.new.self.items grown state there)
    | else-not-are_few w ↦ subst (λ (states : Vec ℕ Global). Contains states.items state) (sym w.states-is) there
  ]

  settled : IsSettled blocks c.args.self.now.sizes.items c.args.ones.now c.if-not-are_few.states.items block
  settled = elim c.if-not-are_few.branch [
    | then-not-are_few+in_ok-extend_from_slice w ↦
        let is = subst (λ seen. Mends seen w.mend.new.self) (now_blocks w.deref.result.now w.deref.ensures.value) w.mend.ensures in
        let grown = w.in_ok-extend_from_slice.ensures.items ∙ ap (λ list. c.loop-block.states.items ++ list) w.list.ensures in
        inr (subst (λ (states : Vec ℕ Global). IsListed blocks states.items block) (sym w.states-is)
        (added_listed blocks block (list_of c.loop-block.self.members) (list_of w.mend.new.self) is c.loop-block.invariant.mended c.loop-block.states.items w.extend_from_slice.new.self.items grown))
    | else-not-are_few w ↦
        inl (ap (λ (sizes : Vec ℕ Global). are_few_in sizes.items c.args.ones.now block) (sym c.loop-block.invariant.kept.sizes) ∙ sym c.are_few.ensures ∙ w.if-not-are_few.false)
  ]

pub loop-block-preserved : goal.loop-block-preserved
loop-block-preserved c =
    let self = c.args.self.now in
    let ones = c.args.ones.now in
    let place = c.loop-block.block-index in
    let was = c.loop-block.invariant in
    let is = c.deref-block-items.ensures.value in
    let within : place < length ones.blocks.items = omega (arith, ap (λ (blocks : List ℕ). length blocks) is, c.loop-block-test.true) in
    record {
      kept = kept c;
      mended = mended c;
      states_are = states_are c;
      every_one = λ state one. grows c state (was.every_one state one);
      others = settled_more self.blocks.items self.sizes.items ones c.loop-block.states.items c.if-not-are_few.states.items ones.blocks.items place within (grows c) was.others
          (subst (λ listed. IsSettled self.blocks.items self.sizes.items ones c.if-not-are_few.states.items (get_or listed place 0)) is (settled c));
    }

pub returns-clause-all : goal.returns-clause-all
returns-clause-all c =
    let self = c.args.self.now in
    let ones = c.args.ones.now in
    let was = c.loop-block.invariant in
    let all = take_all c.loop-block.block-index ones.blocks.items (omega (arith, ap (λ (blocks : List ℕ). length blocks) c.deref-block-items.ensures.value, c.loop-block-test.false)) in
    all_settled self.blocks.items self.sizes.items ones c.loop-block.states.items c.requires.counted was.every_one
    (subst (All (IsSettled self.blocks.items self.sizes.items ones c.loop-block.states.items)) all was.others)
