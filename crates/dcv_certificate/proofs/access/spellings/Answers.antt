use Rattle.std.proofs.Common.{◌≡◌, ◌<◌, ◌+◌, length, set, Some, slice_get, refl, sym, subst, arith}
use Rattle.std.proofs.lemmas.List.{length-map}
use Rattle.std.proofs.lemmas.Option.{slice_get_read}
use Rattle.dcv_reach.specs.declared.reached.Found.{Found}
use Rattle.dcv_reach.proofs.Spelled.{earlier_still}
use Rattle.dcv_certificate.proofs.AccessWords.{SpelledSoFar, state_at, spelled_more, spelled_all}
use Rattle.dcv_certificate.proofs.access.spellings.Goals as goal
use Rattle.dcv_certificate.proofs.access.spellings.Goals.{After-one-item}

one_at : (c : After-one-item) → slice_get c.args.found.now c.loop-one.one-index ≡ Some c.one-item.result
one_at c = slice_get_read c.args.found.now (length c.args.found.now) c.loop-one.one-index c.one-item.result refl c.loop-one-test.true c.one-item.is

one_below : (c : After-one-item) → c.one-item.result.state < c.args.states
one_below c =
    let found = c.args.found.now in
    let below = c.requires.states c.loop-one.one-index 0 (omega (arith, c.loop-one-test.true, length-map found (λ (one : Found). one.state))) in
    omega (arith, below, state_at found c.loop-one.one-index c.one-item.result (one_at c))

pub spelling-requires : goal.spelling-requires
spelling-requires c =
    let one = c.one-item.result in
    earlier_still one.before c.loop-one.one-index (length c.args.found.now) (omega (arith, c.loop-one-test.true))
    (c.requires.before c.loop-one.one-index one (one_at ((goal.at.spelling-requires c).After-one-item)))

pub index_mut-requires : goal.index_mut-requires
index_mut-requires c =
    omega (arith, one_below ((goal.at.index_mut-requires c).After-one-item), c.loop-one.invariant.each, c.loop-one.access.ok.0)

pub loop-one-preserved : goal.loop-one-preserved
loop-one-preserved c =
    let found = c.args.found.now in
    let one = c.one-item.result in
    let here = (goal.at.loop-one-preserved c).After-one-item in
    subst (λ new. SpelledSoFar c.args.states (c.loop-one.one-index + 1) found (set c.loop-one.access.items one.state new)) (sym c.spelling.ensures)
    (spelled_more c.args.states c.loop-one.one-index found c.loop-one.access.items one c.requires.once (one_below here) (one_at here) c.loop-one.invariant)

pub returns : goal.returns
returns c =
    let found = c.args.found.now in
    let all : c.loop-one.one-index ≡ length found = omega arith in
    spelled_all c.args.states found c.loop-one.access.items (subst (λ n. SpelledSoFar c.args.states n found c.loop-one.access.items) all c.loop-one.invariant)
