use Rattle.std.proofs.Common.{◌≡◌, ◌<◌, ◌+◌, ◌∷◌, ◌++◌, [], ◌∙◌, sym, ap, subst, subst₂, arith}
use Rattle.dcv_automaton_text.specs.Meaning.{table_of}
use Rattle.dcv_automaton_text.proofs.GoodFiles.{good_file}
use Rattle.dcv_automaton_read.specs.File.{access_from}
use Rattle.dcv_certify.specs.Certified.{landed}
use Rattle.dcv_certify.specs.Landing.{GoesOnFrom, followed}
use Rattle.dcv_certify.proofs.Landings.{LandedSoFar, access_at, read_at, length_read, goes_on, goes_on_last, leads_on, leads_last, landed_below, landed_first, landed_more, all_landed}
use Rattle.dcv_certify.proofs.words.landed.Goals as goal
use Rattle.dcv_certify.proofs.words.landed.Goals.{After-index-access-place, After-index-access-0}

-- the line that was read at this place
at_place : (c : After-index-access-place) → access_at c.args.file.now c.loop-place.place ≡ access_from c.index-access-place.result
at_place c =
    sym (read_at c.args.file.now c.keeps_the_rules.ensures c.access-access.result.now c.index-access-place.result c.access-access.ensures c.loop-place.place c.loop-place-test.true)
    ∙ ap access_from (sym c.index-access-place.is)

is_state : (c : After-index-access-place) → c.loop-place.place < c.args.file.now.states
is_state c = omega (arith, c.loop-place-test.true, length_read c.args.file.now c.keeps_the_rules.ensures c.access-access.result.now c.access-access.ensures)

pub loop-place-init : goal.loop-place-init
loop-place-init c = landed_first c.args.file.now c.keeps_the_rules.ensures c.push.new.self.items (c.in_ok-push.ensures.items ∙ ap (λ xs. xs ++ 0 ∷ []) c.new-states.ensures.items)

pub follow-state-requires-clause-goes_on : goal.follow-state-requires-clause-goes_on
follow-state-requires-clause-goes_on c =
    subst₂ (GoesOnFrom c.args.file.now) (sym c.deref.ensures.value) (at_place c)
    (goes_on c.args.file.now c.keeps_the_rules.ensures c.loop-place.states.items c.loop-place.place c.loop-place.invariant (is_state c))

pub loop-place-preserved : goal.loop-place-preserved
loop-place-preserved c =
    let file = c.args.file.now in
    let good = c.keeps_the_rules.ensures in
    let here = (goal.at.loop-place-preserved c).After-index-access-place in
    let lines = at_place here in
    let same = c.deref.ensures.value in
    let leads : c.follow-state.result ≡ landed file c.loop-place.place =
    c.follow-state.ensures ∙ (λ i. followed (table_of file) (same i) (sym lines i))
    ∙ leads_on file good c.loop-place.states.items c.loop-place.place c.loop-place.invariant (is_state here) in
    subst (λ items. LandedSoFar file items (c.loop-place.place + 1)) (sym c.in_ok-push-2.ensures.items)
    (landed_more file good c.loop-place.states.items c.loop-place.place c.follow-state.result c.loop-place.invariant leads
    (landed_below file good (c.good_files_are_tables.ensures.table file good) (c.good_files_are_tables.ensures.states file good) c.loop-place.place))

pub bounds-access-0 : goal.bounds-access-0
bounds-access-0 c =
    omega (arith, length_read c.args.file.now c.keeps_the_rules.ensures c.access-access.result.now c.access-access.ensures, (good_file c.args.file.now c.keeps_the_rules.ensures).some)

-- all are done
all_done : (c : After-index-access-0) → LandedSoFar c.args.file.now c.loop-place.states.items c.args.file.now.states
all_done c =
    let count = length_read c.args.file.now c.keeps_the_rules.ensures c.access-access.result.now c.access-access.ensures in
    let some = (good_file c.args.file.now c.keeps_the_rules.ensures).some in
    let all : c.loop-place.place ≡ c.args.file.now.states = omega (arith, c.loop-place-test.false, count, some, c.loop-place.auto.place, c.loop-place.auto.place-end (omega (arith, count, some))) in
    subst (LandedSoFar c.args.file.now c.loop-place.states.items) all c.loop-place.invariant

at_start : (c : After-index-access-0) → access_at c.args.file.now 0 ≡ access_from c.index-access-0.result
at_start c =
    let some = (good_file c.args.file.now c.keeps_the_rules.ensures).some in
    let count = length_read c.args.file.now c.keeps_the_rules.ensures c.access-access.result.now c.access-access.ensures in
    sym (read_at c.args.file.now c.keeps_the_rules.ensures c.access-access.result.now c.index-access-0.result c.access-access.ensures 0 (omega (arith, count, some)))
    ∙ ap access_from (sym c.index-access-0.is)

pub follow-requires-clause-goes_on : goal.follow-requires-clause-goes_on
follow-requires-clause-goes_on c =
    subst₂ (GoesOnFrom c.args.file.now) (sym c.deref-2.ensures.value) (at_start c)
    (goes_on_last c.args.file.now c.keeps_the_rules.ensures c.loop-place.states.items (all_done c))

pub returns : goal.returns
returns c =
    let file = c.args.file.now in
    let good = c.keeps_the_rules.ensures in
    let here = (goal.at.returns c).After-index-access-0 in
    let lines = at_start here in
    let same = c.deref-2.ensures.value in
    let leads : c.follow.result ≡ landed file 0 =
    c.follow.ensures ∙ (λ i. followed (table_of file) (same i) (sym lines i)) ∙ leads_last file good c.loop-place.states.items (all_done here) in
    all_landed file good c.loop-place.states.items c.follow.result (all_done here) leads
