use Rattle.std.proofs.Common.{◌≡◌, ◌⊎◌, List, Contains, ◌∙◌, ◌<◌, ◌≤◌, inl, inr, ℕ, length, Vec, Global, sym, subst, arith}
use Rattle.std.proofs.lemmas.List.{nil_from_length}
use Rattle.std.specs.List.{All}
use Rattle.dcv_refinement.specs.Leads.{IndexedRows, IsRowInto, index_of}
use Rattle.dcv_minimise.proofs.LeadFacts.{leads}
use Rattle.dcv_dfa.specs.Raw.{RawValue}
use Rattle.dcv_minimise.specs.Partition.{IsPartition}
use Rattle.dcv_minimise.specs.Rounds.{IsRefined}
use Rattle.dcv_minimise.proofs.Falling.{falls}
use Rattle.dcv_minimise.proofs.WitnessFacts.{few_blocks}
use Rattle.dcv_minimise.proofs.RoundFacts.{is_partition, is_partition_alone}
use Rattle.dcv_minimise.proofs.refine.divide_on.Goals as goal

pub round-requires-clause-looked : goal.round-requires-clause-looked
round-requires-clause-looked c =
    let raw = c.args.raw.now in
    let moved = c.rounds.refining.moved.items in
    let looked = c.above.new.found.rows.items in
    let index : c.in_ok-index.index ≡ index_of raw.arena raw.rows = c.in_ok-index.ensures ∙ (λ i. index_of (c.arena.ensures.arena i) (c.rows.ensures.rows i)) in
    leads raw c.arena.ensures.raw moved looked
    (subst (λ (index : IndexedRows). (row : ℕ) → IsRowInto index moved row → Contains looked row) index
    (subst (λ (moved : List ℕ). (row : ℕ) → IsRowInto c.in_ok-index.index moved row → Contains looked row) c.deref.ensures.value (λ row. (c.in_ok-above.ensures.rows row).1)))

pub round-requires-clause-states : goal.round-requires-clause-states
round-requires-clause-states c =
    let looked = c.above.new.found.rows.items in
    let rows = c.in_ok-above.ensures.below in
    subst (λ (index : IndexedRows). All (λ state. state < length index.rows) looked) (c.in_ok-index.ensures ∙ (λ i. index_of (c.arena.ensures.arena i) (c.rows.ensures.rows i))) rows

pub rounds-smaller : goal.rounds-smaller
rounds-smaller c =
    let raw = c.args.raw.now in
    let moved = c.rounds.refining.moved in
    let after = c.round.new.self.partition in
    let some : 0 < length moved.items = c.goes_on-in-rounds.ensures.on c.rounds-test.true in
    let few = few_blocks raw after.blocks.items after.witness.items c.in_ok-round.ensures.refining.refined.witnessed in
    falls (length raw.rows) (length c.rounds.refining.partition.witness.items) (length after.witness.items) (length moved.items) (length c.round.new.self.moved.items) some few
    c.in_ok-round.ensures.no_fewer c.in_ok-round.ensures.more

-- where no other round may find something, the blocks are those that are wanted
settled : (raw : RawValue) (states : ℕ) → states ≡ length raw.rows → (blocks witness moved : List ℕ) → IsRefined raw blocks witness moved
    → (length moved ≡ 0) ⊎ (states ≤ length witness) → IsPartition raw blocks
settled raw states count blocks witness moved refined (inl none) = is_partition raw blocks witness moved (nil_from_length moved none) refined
settled raw states count blocks witness moved refined (inr many) = is_partition_alone raw blocks witness (omega (arith, many, count)) refined.witnessed refined.told

pub returns-then-not-goes_on : goal.returns-then-not-goes_on
returns-then-not-goes_on c =
    let refining = c.divide_all.new.self in
    subst (λ (blocks : Vec ℕ Global). IsPartition c.args.raw.now blocks.items) (sym c.into_blocks.ensures)
    (settled c.args.raw.now c.states-states.result c.states-states.ensures.states refining.partition.blocks.items refining.partition.witness.items refining.moved.items
    c.in_ok-divide_all.ensures.refining.refined (c.goes_on.ensures.over c.if-not-goes_on.true))

pub returns : goal.returns
returns c =
    let refining = c.rounds.refining in
    subst (λ (blocks : Vec ℕ Global). IsPartition c.args.raw.now blocks.items) (sym c.into_blocks-2.ensures)
    (settled c.args.raw.now c.states-states.result c.states-states.ensures.states refining.partition.blocks.items refining.partition.witness.items refining.moved.items
    c.rounds.invariant.refined (c.goes_on-in-rounds.ensures.over c.rounds-test.false))
