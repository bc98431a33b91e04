use Rattle.std.proofs.Common.{◌+◌, ◌<◌, true, false, length, drop, get_or, set, sym, ap, subst, ◌∙◌, arith}
use Rattle.std.specs.List.{All}
use Rattle.std.proofs.lemmas.List.{length-drop, get_or_default}
use Rattle.std.proofs.lemmas.List.Elements.{All-weaker}
use Rattle.dcv_reach.specs.Reached.{states_of}
use Rattle.dcv_minimise.specs.Classes.{HasFirsts, IsLikeAt, IsFirstLike}
use Rattle.dcv_minimise.proofs.Ends.{blocks_inside, found_inside, kept_list}
use Rattle.dcv_minimise.proofs.Keeping.{firsts_inside, kept_alone, kept_shared}
use Rattle.dcv_minimise.proofs.fold.keep.Goals as goal

pub first_states-requires-clause-states : goal.first_states-requires-clause-states
first_states-requires-clause-states c =
    let raw = c.args.raw.now in
    All-weaker (λ state. state < length raw.rows) (λ state. state < length c.args.blocks.now) (λ state within. omega (arith, c.requires.partition.each)) (states_of c.args.found.now)
    (found_inside raw c.slots.ensures.raw c.args.blocks.now c.requires.partition c.args.found.now c.requires.reached)

pub first_states-requires-clause-blocks : goal.first_states-requires-clause-blocks
first_states-requires-clause-blocks c = blocks_inside c.args.raw.now c.slots.ensures.raw c.args.blocks.now c.requires.partition

pub like_start-requires-clause-states : goal.like_start-requires-clause-states
like_start-requires-clause-states c =
    let raw = c.args.raw.now in
    subst (All (λ state. state < length raw.rows)) (sym c.deref.ensures.value)
    (firsts_inside c.args.blocks.now (states_of c.args.found.now) (length raw.rows) c.start.result c.in_ok-states.states.items c.in_ok-states.ensures c.start.ensures.state
    (found_inside raw c.slots.ensures.raw c.args.blocks.now c.requires.partition c.args.found.now c.requires.reached))

pub returns-in-None-clause-kept : goal.returns-in-None-clause-kept
returns-in-None-clause-kept c =
    let raw = c.args.raw.now in
    let blocks = c.args.blocks.now in
    let list = c.in_ok-states.states.items in
    kept_alone raw blocks (states_of c.args.found.now) list
    (subst (λ start. HasFirsts blocks (states_of c.args.found.now) (length (states_of c.args.found.now)) start list) c.start.ensures.start c.in_ok-states.ensures)
    (subst (λ place. IsFirstLike raw blocks (get_or list 0 0) (drop 1 list) place) c.in-None.is
    (subst (λ states. IsFirstLike raw blocks (get_or states 0 0) (drop 1 states) c.in_ok-place.field-0) c.deref.ensures.value c.in_ok-place.ensures))

pub returns-in-None-clause-list : goal.returns-in-None-clause-list
returns-in-None-clause-list c =
    kept_list c.args.raw.now c.slots.ensures.raw c.args.blocks.now c.requires.partition c.args.found.now c.requires.reached c.in_ok-states.states.items true (returns-in-None-clause-kept c)

pub returns-in-Some-clause-kept : goal.returns-in-Some-clause-kept
returns-in-Some-clause-kept c =
    let raw = c.args.raw.now in
    let blocks = c.args.blocks.now in
    let list = c.in_ok-states.states.items in
    let place = c.in-Some.place in
    let like : IsLikeAt raw blocks (get_or list 0 0) (drop 1 list) place =
    subst (λ place. IsFirstLike raw blocks (get_or list 0 0) (drop 1 list) place) c.in-Some.is
    (subst (λ states. IsFirstLike raw blocks (get_or states 0 0) (drop 1 states) c.in_ok-place.field-0) c.deref.ensures.value c.in_ok-place.ensures) in
    kept_shared raw blocks (states_of c.args.found.now) list
    (subst (λ start. HasFirsts blocks (states_of c.args.found.now) (length (states_of c.args.found.now)) start list) c.start.ensures.start c.in_ok-states.ensures)
    place c.remove-own.result (set c.remove-own.new.self.items 0 c.remove-own.result) like
    (c.remove-own.ensures.value ∙ get_or_default list (place + 1) c.remove-own.result 0 (omega (arith, like.within, length-drop 1 list)))
    (ap (λ items. set items 0 c.remove-own.result) c.remove-own.ensures.items)

pub returns-in-Some-clause-list : goal.returns-in-Some-clause-list
returns-in-Some-clause-list c =
    kept_list c.args.raw.now c.slots.ensures.raw c.args.blocks.now c.requires.partition c.args.found.now c.requires.reached (set c.remove-own.new.self.items 0 c.remove-own.result) false (returns-in-Some-clause-kept c)
