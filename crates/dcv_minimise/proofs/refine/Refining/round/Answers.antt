use Rattle.std.proofs.Common.{◌≡◌, ◌<◌, length, Contains, inl, inr, sym, ap, subst, ◌∙◌, arith}
use Rattle.indexmap.proofs.MapLemmas.{OnOk-map}
use Rattle.dcv_minimise.specs.Listing.{IsListing}
use Rattle.dcv_refinement.specs.Members.{list_of, HaveTheirOwn, block_of}
use Rattle.dcv_minimise.proofs.MemberFacts.{is_in, others_go}
use Rattle.dcv_minimise.proofs.RoundFacts.{refined_on}
use Rattle.dcv_minimise.proofs.refine.Refining.round.Goals as goal
use Rattle.dcv_minimise.proofs.refine.Refining.round.Goals.{In_ok-fill, After-deref-7}

pub fill-requires-clause-members : goal.fill-requires-clause-members
fill-requires-clause-members c = subst (λ blocks. HaveTheirOwn blocks (list_of c.args.self.now.members)) (sym c.deref-3.ensures.value) c.requires.refining.own

listing : (c : In_ok-fill) → IsListing c.args.self.now.partition.blocks.items c.args.self.now.partition.witness.items c.args.self.now.found.rows.items c.fill.new.self.states.items c.fill.new.self.full
listing c =
    let states = c.fill.new.self.states.items in
    let full = c.fill.new.self.full in
    subst (λ looked. IsListing c.args.self.now.partition.blocks.items c.args.self.now.partition.witness.items looked states full) c.deref-5.ensures.value
    (subst (λ witness. IsListing c.args.self.now.partition.blocks.items witness c.deref-5.result.now states full) c.deref-4.ensures.value
    (subst (λ blocks. IsListing blocks c.deref-4.result.now c.deref-5.result.now states full) c.deref-3.ensures.value c.in_ok-fill.ensures.listing))

pub split-requires-clause-full : goal.split-requires-clause-full
split-requires-clause-full c = (listing (goal.at.split-requires-clause-full c).In_ok-fill).each_full

pub split-requires-clause-others : goal.split-requires-clause-others
split-requires-clause-others c =
    let raw = c.args.raw.now in
    let is = c.requires.refining.is_raw in
    let moved = c.args.self.now.moved.items in
    let looked = c.args.self.now.found.rows.items in
    others_go raw is c.args.self.now.partition.blocks.items c.args.self.now.partition.witness.items moved looked c.fill.new.self.states.items c.fill.new.self.full
    c.requires.refining.refined.witnessed c.requires.refining.refined.stable c.requires.looked (listing (goal.at.split-requires-clause-others c).In_ok-fill)

-- the lists as they were gone through
own : (c : After-deref-7) → HaveTheirOwn c.args.self.now.partition.blocks.items (list_of c.fill.new.members)
own c = subst (λ blocks. HaveTheirOwn blocks (list_of c.fill.new.members)) c.deref-3.ensures.value c.in_ok-fill.ensures.members

same_size : (c : After-deref-7) → length c.deref-6.result.now ≡ length c.args.self.now.partition.blocks.items
same_size c = omega (arith, ap length c.deref-6.ensures.value, c.in_ok-self.ensures.witnessed.each, c.requires.refining.refined.witnessed.each)

pub follow-requires-clause-has : goal.follow-requires-clause-has
follow-requires-clause-has c state inside =
    let old = c.args.self.now.partition.blocks.items in
    let new = c.split.new.self.blocks.items in
    let lists = list_of c.fill.new.members in
    let moved = c.in_ok-self.field-0.items in
    let before : state < length old = omega (arith, same_size c, inside) in
    let there : state < length c.args.raw.now.rows = omega (arith, before, c.requires.refining.refined.witnessed.each) in
    elim (is_in moved state) [
      | inl one ↦ inl (subst (λ list. Contains list state) (sym c.deref-7.ensures.value) one)
      | inr stays ↦
          let same : block_of c.deref-6.result.now state ≡ block_of old state = ap (λ blocks. block_of blocks state) c.deref-6.ensures.value ∙ c.in_ok-self.ensures.stayed state there stays in
          inr (subst (λ at. Contains (lists at) state) (sym same) (own c state before))
    ]

pub returns-clause-refining : goal.returns-clause-refining
returns-clause-refining c =
    let raw = c.args.raw.now in
    let was = c.requires.refining in
    let all = c.in_ok-self.ensures in
    let old = c.args.self.now.partition in
    let new = c.split.new.self in
    let moved = c.in_ok-self.field-0.items in
    OnOk-map c.follow.result _ _ (λ done. record {
      is_raw = was.is_raw;
      refined = refined_on raw was.is_raw old.blocks.items new.blocks.items all.round old.witness.items new.witness.items c.args.self.now.moved.items moved was.refined all.witnessed all.stayed;
      own = subst (λ blocks. HaveTheirOwn blocks (list_of c.follow.new.members)) c.deref-6.ensures.value done;
      states = all.states;
    }) c.follow.ensures
