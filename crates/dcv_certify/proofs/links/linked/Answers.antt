use Rattle.std.proofs.Common.{◌≡◌, ◌∙◌, ◌+◌, ◌-◌, ◌++◌, replicate, set, Some, None, sym, ap, subst, arith}
use Rattle.std.proofs.lemmas.List.{get_or_default}
use Rattle.dcv_certify.specs.Links.{link_at}
use Rattle.dcv_certify.proofs.Linking.{LinkedSoFar, nothing, first_links, light_is, links_more, all_linked, parent_is_earlier}
use Rattle.dcv_certify.proofs.Splits.{only_none}
use Rattle.dcv_certify.proofs.links.linked.Goals as goal

pub loop-place-init : goal.loop-place-init
loop-place-init c =
    let file = c.args.file.now in
    let heaviest = c.args.heaviest.now in
    let first = c.extend_from_slice.new.self.items in
    let next = c.in_ok-next.next.items in
    let count = c.suffix_count-count.ensures.count in
    let none : next ≡ replicate c.suffix_count-count.result nothing = c.in_ok-next.ensures.items_if_clones_equal (only_none _ (λ x is. is)) in
    subst (λ n. LinkedSoFar file heaviest n first next) (sym count)
    (first_links file c.keeps_the_rules.ensures heaviest c.requires first next
    (c.in_ok-extend_from_slice.ensures.items ∙ ap (λ xs. xs ++ heaviest) c.new-first.ensures.items)
    (none ∙ ap (λ n. replicate n nothing) count))

pub loop-place-preserved-in-Some : goal.loop-place-preserved-in-Some
loop-place-preserved-in-Some c =
    let file = c.args.file.now in
    let good = c.keeps_the_rules.ensures in
    let heaviest = c.args.heaviest.now in
    let first = c.loop-place.first.items in
    let next = c.loop-place.next.items in
    let place = c.loop-place.place - 1 in
    let from = c.in-Some.from in
    let is : c.loop-place.place ≡ place + 1 = omega (arith, c.loop-place-test.true) in
    let so_far = subst (λ n. LinkedSoFar file heaviest n first next) is c.loop-place.invariant in
    let has = light_is file good heaviest c.requires place from (sym c.in-Some.ensures.light) in
    let fits = parent_is_earlier file good place from has.0 in
    let read : c.index.result.now ≡ link_at first from = c.index.ensures ∙ get_or_default first from c.index.result.now None (omega (arith, fits.0, fits.1, c.loop-place.invariant.size)) in
    subst (λ link. LinkedSoFar file heaviest place (set first from (Some place)) (set next place link)) (sym read) (links_more file good heaviest c.requires place first next so_far from has.0 has.1)

pub returns : goal.returns
returns c =
    let file = c.args.file.now in
    let none : c.loop-place.place ≡ 0 = omega (arith, c.loop-place-test.false) in
    all_linked file c.keeps_the_rules.ensures c.args.heaviest.now c.requires c.loop-place.first.items c.loop-place.next.items
    (subst (λ n. LinkedSoFar file c.args.heaviest.now n c.loop-place.first.items c.loop-place.next.items) none c.loop-place.invariant)
