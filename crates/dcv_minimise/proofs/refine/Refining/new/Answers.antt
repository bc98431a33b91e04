use Rattle.std.proofs.Common.{◌<◌, length, Contains, inl, sym, ap, subst, arith}
use Rattle.std.specs.List.{All}
use Rattle.dcv_refinement.specs.Members.{list_of, HaveTheirOwn}
use Rattle.dcv_minimise.proofs.RoundFacts.{stable_at_start}
use Rattle.dcv_minimise.proofs.refine.Refining.new.Goals as goal

pub follow-requires-clause-has : goal.follow-requires-clause-has
follow-requires-clause-has c state inside =
    let size = c.requires.witnessed.each in
    let within : state < c.states.result = omega (arith, inside, ap length c.deref.ensures.value, size, c.states.ensures.states) in
    inl (subst (λ list. Contains list state) (sym c.deref-2.ensures.value) (c.in_ok-all.ensures.each state within))

pub returns : goal.returns
returns c =
    let raw = c.args.raw.now in
    let blocks = c.args.partition.blocks.items in
    let size = c.requires.witnessed.each in
    let moved = c.in_ok-moved.moved.items in
    record {
      is_raw = c.states.ensures.raw;
      refined = record {
        witnessed = c.requires.witnessed;
        told = c.requires.told;
        stable = stable_at_start raw c.states.ensures.raw blocks moved size c.in_ok-moved.ensures.all;
      };
      own = subst (λ blocks. HaveTheirOwn blocks (list_of c.follow.new.members)) c.deref.ensures.value c.in_ok-follow.ensures;
      states = subst (λ count. All (λ state. state < count) moved) size c.in_ok-moved.ensures.states;
    }
