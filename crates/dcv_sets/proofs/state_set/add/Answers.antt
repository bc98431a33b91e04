use Rattle.std.proofs.Common.{List, ℕ, ◌∷◌, [], ◌++◌, ◌≡◌, sym, ap, subst, ◌∙◌}
use Rattle.std.proofs.lemmas.Cmp.{ranked}
use Rattle.dcv_language.specs.StateSet.{set_of}
use Rattle.dcv_sets.proofs.SameSets.{there_joined, inserted_joined}
use Rattle.dcv_sets.proofs.state_set.add.Goals as goal

pub returns-in-Ok : goal.returns-in-Ok
returns-in-Ok c =
    let state = c.args.state in
    subst (λ (listed : List ℕ). set_of listed ≡ set_of (listed ++ state ∷ [])) c.deref.ensures
    (there_joined c.deref.result.now c.in-Ok.field-0 state c.in-Ok.ensures.bound (ranked _ state _ (sym (c.in-Ok.ensures.ok 0))))

pub returns-in_ok-insert-in-Err : goal.returns-in_ok-insert-in-Err
returns-in_ok-insert-in-Err c = ap set_of c.in_ok-insert-in-Err.ensures.ok ∙ inserted_joined c.args.states.now.items c.in-Err.place c.args.state
