use Rattle.std.proofs.Common.{◌≡◌, true, false, Result, Ok, Err, Bool, IfOk, IsTrue, refl, sym, subst, ◌∙◌}
use Rattle.std.proofs.lemmas.Bool.{false≢true}
use Rattle.std.specs.Result.{result_unwrap_or}
use Rattle.dcv_build.specs.Bounds.{HasNodesBefore}
use Rattle.dcv_build.proofs.AllPairs.{pairs_of_all}
use Rattle.dcv_build.proofs.bounds.has_few_nodes.Goals as goal

told : {E : Type 0} (P : Bool → Type 0) (result : Result Bool E) → IfOk result P → result_unwrap_or result false ≡ true → P true
told P (Ok few) has is = subst P is has
told P (Err fault) has is = absurd (false≢true is)

pub returns-then-are_few : goal.returns-then-are_few
returns-then-are_few c on =
    pairs_of_all c.args.first.now c.args.second.now c.parts_of.result c.parts_of-2.result c.args.limit c.requires.slots c.parts_of.ensures c.parts_of-2.ensures
    (c.are_few.ensures c.if-are_few.true)

pub returns-else-are_few : goal.returns-else-are_few
returns-else-are_few c few =
    let first = c.args.first.now in
    let second = c.args.second.now in
    told (λ few. IsTrue few → HasNodesBefore first second first.stored.slots c.args.limit) c.has_few_pairs.result c.has_few_pairs.ensures (sym c.unwrap_or.ensures ∙ few) refl
