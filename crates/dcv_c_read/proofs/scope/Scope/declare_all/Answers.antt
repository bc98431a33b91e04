use Rattle.std.proofs.Common.{◌≡◌, ℕ, List, Bool, Option, drop, [], ◌+◌, sym, subst, ◌∙◌}
use Rattle.std.proofs.lemmas.Bool.{not-true, not-false}
use Rattle.std.proofs.lemmas.List.{drop_more, at_drop_all}
use Rattle.dcv_lexer.specs.Cuts.{Token}
use Rattle.dcv_observer.specs.declared.items.Item.{Item}
use Rattle.dcv_c_read.specs.Scope.{Frame}
use Rattle.dcv_observer.proofs.Judging.{leads_on, fault_is}
use Rattle.dcv_c_read.proofs.Lists.{AreDeclaredSoFar, declared_beyond, declared_left, declared_more, declared_end}
use Rattle.dcv_c_read.proofs.scope.Scope.declare_all.Goals as goal

pub returns-then-is_beyond : goal.returns-then-is_beyond
returns-then-is_beyond c = λ (frame : Frame) knows (whole : Option ℕ) (others : List Token) (keeps : List Bool) left.
    let items = c.args.words.now in
    let i = c.loop-place.place in
    let sofar = subst (λ (rest : List Item). AreDeclaredSoFar c.args.are_left frame whole others keeps items i c.loop-place.texts.items rest c.loop-place.self) (drop_more items i _ c.loop-place-test.true)
    (c.loop-place.invariant frame knows whole others keeps left) in
    fault_is c.broken.ensures (declared_beyond c.args.are_left frame whole others keeps items i c.loop-place.texts.items _ (drop (i + 1) items) c.loop-place.self sofar
    (not-true _ (sym c.is_beyond.ensures ∙ c.if-is_beyond.true)))

pub returns-in_err-declare : goal.returns-in_err-declare
returns-in_err-declare c = λ (frame : Frame) knows (whole : Option ℕ) (others : List Token) (keeps : List Bool) left.
    let items = c.args.words.now in
    let i = c.loop-place.place in
    let sofar = subst (λ (rest : List Item). AreDeclaredSoFar c.args.are_left frame whole others keeps items i c.loop-place.texts.items rest c.loop-place.self) (drop_more items i _ c.loop-place-test.true)
    (c.loop-place.invariant frame knows whole others keeps left) in
    leads_on whole _ c.from_residual.result c.in_err-declare.field-0.0 c.from_residual.ensures.1
    (c.in_err-declare.ensures _ sofar.knows whole _ _ (declared_left c.args.are_left frame whole others keeps items i c.loop-place.texts.items _ (drop (i + 1) items) c.loop-place.self sofar
    (not-false _ (sym c.is_beyond.ensures ∙ c.if-is_beyond.false))))

pub loop-place-preserved : goal.loop-place-preserved
loop-place-preserved c = λ (frame : Frame) knows (whole : Option ℕ) (others : List Token) (keeps : List Bool) left.
    let items = c.args.words.now in
    let i = c.loop-place.place in
    let sofar = subst (λ (rest : List Item). AreDeclaredSoFar c.args.are_left frame whole others keeps items i c.loop-place.texts.items rest c.loop-place.self) (drop_more items i _ c.loop-place-test.true)
    (c.loop-place.invariant frame knows whole others keeps left) in
    declared_more c.args.are_left frame whole others keeps items i c.loop-place.texts.items _ (drop (i + 1) items) c.loop-place.self sofar c.push.new.self.items c.in_ok-copy_of.field-0 c.declare.new.self
    (c.in_ok-declare.ensures _ sofar.knows whole _ _ (declared_left c.args.are_left frame whole others keeps items i c.loop-place.texts.items _ (drop (i + 1) items) c.loop-place.self sofar
    (not-false _ (sym c.is_beyond.ensures ∙ c.if-is_beyond.false)))) c.in_ok-push.ensures.items c.in_ok-copy_of.ensures

pub returns : goal.returns
returns c = λ (frame : Frame) knows (whole : Option ℕ) (others : List Token) (keeps : List Bool) left.
    let items = c.args.words.now in
    let none : drop c.loop-place.place items ≡ [] = at_drop_all (λ (rest : List Item). rest) items c.loop-place.place c.loop-place-test.false in
    declared_end c.args.are_left frame whole others keeps items c.loop-place.texts.items c.loop-place.place c.loop-place.self
    (subst (λ (rest : List Item). AreDeclaredSoFar c.args.are_left frame whole others keeps items c.loop-place.place c.loop-place.texts.items rest c.loop-place.self) none
    (c.loop-place.invariant frame knows whole others keeps left))
