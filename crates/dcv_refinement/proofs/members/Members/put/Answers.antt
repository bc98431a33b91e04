use Rattle.std.proofs.Common.{◌≡◌, ℕ, ◌<◌, List, Vec, Global, length, map, sym, ap, subst, ◌∙◌, arith}
use Rattle.std.specs.Vec.{with_items}
use Rattle.std.proofs.lemmas.List.{with_items_is}
use Rattle.std.proofs.lemmas.Result.{IfOk-weaker}
use Rattle.dcv_refinement.specs.NumberLists.{AddsAt, list_at}
use Rattle.dcv_refinement.specs.Members.{list_of, IsPut}
use Rattle.dcv_refinement.proofs.ListFacts.{on_err_anyhow, on_err_weaker}
use Rattle.dcv_refinement.proofs.MemberFacts.{seen, seen_at, put_grown}
use Rattle.dcv_refinement.proofs.members.Members.put.Goals as goal

pub returns-clause-put : goal.returns-clause-put
returns-clause-put c =
    let block = c.args.block in
    let member = c.args.member in
    let old = c.self.inside.lists.items in
    let grown = c.grow.new.lists in
    let new = c.add_to.new.lists in
    let size : length new ≡ grown.len = omega (arith, c.add_to.auto.lists, c.deref_mut.ensures.len) in
    let within : block < length grown.items = omega (arith, c.in_ok-grow.ensures.size) in
    let was : list_of c.args.self.now ≡ list_at old = ap list_of (sym c.self.view_is) ∙ seen old in
    IfOk-weaker c.add_to.result _ _ (λ done adds.
    subst (λ (before : ℕ → List ℕ). IsPut before block member (list_of (map (λ (list : Vec ℕ Global). list.items) (with_items grown new).items))) (sym was)
    (subst (λ (lists : List (Vec ℕ Global)). IsPut (list_at old) block member (list_of (map (λ list. list.items) lists))) (sym (with_items_is grown new size))
    (subst (λ (after : ℕ → List ℕ). IsPut (list_at old) block member after) (sym (seen new))
    (put_grown old grown.items new block member c.in_ok-grow.ensures.same within (subst (λ lists. AddsAt lists new block member) c.deref_mut.ensures.value adds))))) c.add_to.ensures.added

pub returns-in_err-grow-clause-err : goal.returns-in_err-grow-clause-err
returns-in_err-grow-clause-err c =
    let old = c.self.inside.lists.items in
    let was : list_of c.args.self.now ≡ list_at old = ap list_of (sym c.self.view_is) ∙ seen old in
    on_err_anyhow c.from_residual.result _ (λ at i. (seen_at c.grow.new.lists.items at ∙ c.in_err-grow.ensures.same at ∙ sym (ap (λ (lists : ℕ → List ℕ). lists at) was)) i)

pub returns-clause-err : goal.returns-clause-err
returns-clause-err c =
    let old = c.self.inside.lists.items in
    let grown = c.grow.new.lists in
    let new = c.add_to.new.lists in
    let size : length new ≡ grown.len = omega (arith, c.add_to.auto.lists, c.deref_mut.ensures.len) in
    let was : list_of c.args.self.now ≡ list_at old = ap list_of (sym c.self.view_is) ∙ seen old in
    on_err_weaker c.add_to.result _ _ (λ same at.
    ap (λ (lists : List (Vec ℕ Global)). list_of (map (λ list. list.items) lists) at) (with_items_is grown new size) ∙ seen_at new at ∙ same at
    ∙ ap (λ (lists : List (Vec ℕ Global)). list_at lists at) c.deref_mut.ensures.value ∙ c.in_ok-grow.ensures.same at ∙ sym (ap (λ (lists : ℕ → List ℕ). lists at) was)) c.add_to.ensures.err
