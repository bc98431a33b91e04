use Rattle.std.proofs.Common.{◌≡◌, ℕ, List, Bool, Option, map, drop, length, [], ◌+◌, ap, sym, subst, ◌∙◌, arith}
use Rattle.std.proofs.lemmas.List.{drop_more, at_drop_all, length-map, append-nil}
use Rattle.dcv_lexer.specs.Cuts.{Token}
use Rattle.dcv_observer.specs.Conditions.{Names}
use Rattle.dcv_observer.specs.Left.{seen}
use Rattle.dcv_observer.specs.declared.items.Item.{Item}
use Rattle.dcv_lustre.specs.Placed.{bytes_of}
use Rattle.dcv_lustre.specs.Tree.{Node}
use Rattle.dcv_lustre_read.specs.Scope.{Told, seen_row}
use Rattle.dcv_observer.proofs.Judging.{leads_on, fault_is}
use Rattle.dcv_lustre_read.proofs.Declaring.{declared_beyond}
use Rattle.dcv_lustre_read.proofs.Inputs.{AreInputsSoFar, within_inputs, beyond_inputs}
use Rattle.dcv_observer.proofs.SoFar.{text_more}
use Rattle.dcv_lustre_read.proofs.scope.Scope.inputs.Goals as goal

pub returns-then-place-ge-MOST_INPUTS : goal.returns-then-place-ge-MOST_INPUTS
returns-then-place-ge-MOST_INPUTS c = λ (node : Node) (whole : Option ℕ) (others : List Token) (others_keep : List Bool) (words : List Token) (later : Names) (told : List Told) d one count.
    let items = c.args.inputs.now in
    let i = c.loop-place.place in
    let names = c.loop-place.self.declared in
    let rows = map seen_row c.loop-place.self.names.items in
    let sofar = subst (λ (rest : List Item). AreInputsSoFar node whole others others_keep words later told items c.loop-place.texts.items i rest names rows)
    (drop_more items i _ c.loop-place-test.true)
    (c.loop-place.invariant node whole others others_keep words later told d one count) in
    let size : length node.inputs ≡ length items = ap length count ∙ length-map (map seen items) (λ (token : Token). token.bytes) ∙ length-map items seen in
    fault_is c.broken.ensures
    (declared_beyond node whole others others_keep names rows _ _ _ _ _ _ _ _ sofar.declaring
    (beyond_inputs node (length names) (omega (arith, sofar.count, c.if-place-ge-MOST_INPUTS.true)) (omega (arith, sofar.count, size, c.loop-place-test.true))))

pub returns-in_err-declare : goal.returns-in_err-declare
returns-in_err-declare c = λ (node : Node) (whole : Option ℕ) (others : List Token) (others_keep : List Bool) (words : List Token) (later : Names) (told : List Told) d one count.
    let items = c.args.inputs.now in
    let i = c.loop-place.place in
    let names = c.loop-place.self.declared in
    let rows = map seen_row c.loop-place.self.names.items in
    let sofar = subst (λ (rest : List Item). AreInputsSoFar node whole others others_keep words later told items c.loop-place.texts.items i rest names rows)
    (drop_more items i _ c.loop-place-test.true)
    (c.loop-place.invariant node whole others others_keep words later told d one count) in
    leads_on whole _ c.from_residual.result c.in_err-declare.field-0.0 c.from_residual.ensures.1
    (c.in_err-declare.ensures node whole others others_keep _ _ _ _ sofar.declaring (within_inputs node (length names) (omega (arith, sofar.count, c.if-place-ge-MOST_INPUTS.false))))

pub loop-place-preserved : goal.loop-place-preserved
loop-place-preserved c = λ (node : Node) (whole : Option ℕ) (others : List Token) (others_keep : List Bool) (words : List Token) (later : Names) (told : List Told) d one count.
    let items = c.args.inputs.now in
    let i = c.loop-place.place in
    let names = c.loop-place.self.declared in
    let rows = map seen_row c.loop-place.self.names.items in
    let sofar = subst (λ (rest : List Item). AreInputsSoFar node whole others others_keep words later told items c.loop-place.texts.items i rest names rows)
    (drop_more items i _ c.loop-place-test.true)
    (c.loop-place.invariant node whole others others_keep words later told d one count) in
    let then = c.in_ok-declare.ensures node whole others others_keep _ _ _ _ sofar.declaring (within_inputs node (length names) (omega (arith, sofar.count, c.if-place-ge-MOST_INPUTS.false))) in
    record {
      texts_are = text_more (bytes_of (map seen items)) c.loop-place.texts.items c.push.new.self.items _ c.in_ok-copy_of.field-0
          (bytes_of (map seen (drop (i + 1) items))) sofar.texts_are c.in_ok-copy_of.ensures c.in_ok-push.ensures.items;
      count = then.1 ∙ ap (λ n. n + 1) sofar.count;
      declaring = then.0;
    }

pub returns : goal.returns
returns c = λ (node : Node) (whole : Option ℕ) (others : List Token) (others_keep : List Bool) (words : List Token) (later : Names) (told : List Told) d one count.
    let items = c.args.inputs.now in
    let none : drop c.loop-place.place items ≡ [] = at_drop_all (λ (rest : List Item). rest) items c.loop-place.place c.loop-place-test.false in
    let sofar = subst
    (λ (rest : List Item). AreInputsSoFar node whole others others_keep words later told items c.loop-place.texts.items c.loop-place.place rest c.loop-place.self.declared
    (map seen_row c.loop-place.self.names.items)) none
    (c.loop-place.invariant node whole others others_keep words later told d one count) in
    let all : c.loop-place.place ≡ length items = omega arith in
    (sym (append-nil c.loop-place.texts.items) ∙ sofar.texts_are, sofar.declaring, sofar.count ∙ ap (λ n. n + 1) all)
