use Rattle.std.proofs.Common.{◌≡◌, length, sym, ap, subst, ◌∙◌, arith}
use Rattle.std.proofs.lemmas.Option.{get_or_from_slice_get}
use Rattle.dcv_arena.specs.declared.nodes.Ref.TheVariants.{Leaf}
use Rattle.dcv_dfa.specs.Raw.{row_of}
use Rattle.dcv_refinement.specs.Members.{block_of}
use Rattle.dcv_minimise.specs.Hashes.{hash_at, alike_of, IsPut, AreDivided, AreHashes}
use Rattle.dcv_minimise.specs.declared.refine.hashes.Alike.{Alike}
use Rattle.dcv_minimise.proofs.HashParts.{one_more_divided}
use Rattle.dcv_minimise.proofs.HashRounds.{divided_witnessed, divided_splits, told_split}
use Rattle.dcv_minimise.proofs.refine.hashes.divided.Goals as goal
use Rattle.dcv_minimise.proofs.refine.hashes.divided.Goals.{After-loop-state}

pub loop-state-preserved : goal.loop-state-preserved
loop-state-preserved c =
    let raw = c.args.raw.now in
    let blocks = c.args.blocks.now in
    let hashes = c.in_ok-hashes.hashes.items in
    let state = c.loop-state.state in
    let old = c.loop-state.made in
    let new = c.add.new.self in
    let row : row_of raw state ≡ c.row.result = get_or_from_slice_get raw.rows state c.row.result (Leaf 0) c.row.ensures.row in
    let hash : c.hash_at-hash.result ≡ hash_at blocks hashes (row_of raw state) =
    c.hash_at-hash.ensures ∙ ap (λ list. hash_at blocks list c.row.result) c.deref.ensures.value ∙ ap (hash_at blocks hashes) (sym row) in
    record {
      divided = one_more_divided Alike (alike_of raw blocks hashes) state old.parts.keys old.blocks.items old.witness.items c.loop-state.invariant.divided
          new.parts.keys new.blocks.items new.witness.items
          (subst (λ hash. IsPut Alike old.parts.keys new.parts.keys old.blocks.items new.blocks.items old.witness.items new.witness.items (record { block = block_of blocks state; hash = hash }) state)
          hash c.in_ok-add.ensures);
    }

-- all states are in their blocks
all_divided : (c : After-loop-state) → AreDivided Alike (alike_of c.args.raw.now c.args.blocks.now c.in_ok-hashes.hashes.items) (length c.args.raw.now.rows)
    c.loop-state.made.parts.keys c.loop-state.made.blocks.items c.loop-state.made.witness.items
all_divided c =
    let count : c.loop-state.state ≡ length c.args.raw.now.rows = omega (arith, c.loop-state-test.false, c.states-states.ensures.states, c.loop-state.auto.state-end) in
    subst (λ count. AreDivided Alike (alike_of c.args.raw.now c.args.blocks.now c.in_ok-hashes.hashes.items) count c.loop-state.made.parts.keys c.loop-state.made.blocks.items c.loop-state.made.witness.items)
    count c.loop-state.invariant.divided

pub returns-clause-witnessed : goal.returns-clause-witnessed
returns-clause-witnessed c =
    divided_witnessed c.args.raw.now c.states-states.ensures.raw c.args.blocks.now c.in_ok-hashes.hashes.items c.loop-state.made.parts.keys c.loop-state.made.blocks.items c.loop-state.made.witness.items
    (all_divided (goal.at.returns-clause-witnessed c).After-loop-state)

pub returns-clause-told : goal.returns-clause-told
returns-clause-told c =
    let raw = c.args.raw.now in
    let blocks = c.args.blocks.now in
    let hashes = c.in_ok-hashes.hashes.items in
    let is = c.states-states.ensures.raw in
    let made = c.loop-state.made in
    let each : length hashes ≡ length raw.arena.nodes = c.in_ok-hashes.ensures.each ∙ ap (λ arena. length arena.nodes) c.arena.ensures.arena in
    let hashed : AreHashes raw.arena blocks hashes = subst (λ arena. AreHashes arena blocks hashes) c.arena.ensures.arena c.in_ok-hashes.ensures.hashes in
    told_split raw is blocks made.blocks.items
    (divided_splits raw is blocks hashes made.parts.keys made.blocks.items made.witness.items (all_divided (goal.at.returns-clause-told c).After-loop-state) each hashed) c.requires.told
