use Rattle.std.proofs.Common.{◌≡◌, length, ap, sym, subst, ◌+◌, ◌<◌, ◌∙◌, arith}
use Rattle.std.proofs.lemmas.List.{length_push}
use Rattle.dcv_minimise.specs.Hashes.{AreHashes, hash_of_node}
use Rattle.dcv_minimise.proofs.HashFacts.{one_more_hash}
use Rattle.dcv_minimise.proofs.refine.hashes.hashes_of.Goals as goal

pub loop-place-preserved : goal.loop-place-preserved
loop-place-preserved c =
    let was = c.loop-place.invariant in
    let arena = c.args.arena.now in
    let blocks = c.args.blocks.now in
    let hashes = c.loop-place.hashes.items in
    let hash = c.hash_of-hash.result in
    let within : length hashes < length arena.nodes = omega (arith, was.each, c.len-nodes.ensures.len, c.loop-place-test.true) in
    let own : hash ≡ hash_of_node arena blocks hashes (length hashes) =
    c.hash_of-hash.ensures ∙ ap (λ list. hash_of_node arena blocks list c.loop-place.place) c.deref.ensures.value ∙ ap (hash_of_node arena blocks hashes) (sym was.each) in
    record {
      each = ap length c.in_ok-push.ensures.items ∙ length_push hashes hash ∙ ap (λ n. n + 1) was.each;
      hashes = subst (AreHashes arena blocks) (sym c.in_ok-push.ensures.items)
          (one_more_hash arena c.slots.ensures.arena.reduced blocks hashes hash within was.hashes own);
    }
