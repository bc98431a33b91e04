use Rattle.std.proofs.Common.{◌≡◌, sym, subst, ◌∙◌}
use Rattle.dcv_language.specs.Complement.{stands_alone}
use Rattle.dcv_language.specs.Language.{HaveSameBehaviours, outside}
use Rattle.dcv_dfa.specs.Raw.{RawValue, raw_accepts}
use Rattle.dcv_dfa.specs.Auto.{IsAuto, IsAutoWith, complement_of}
use Rattle.dcv_dfa.proofs.Complements.{still_auto, accepts_outside, turned_by_access}
use Rattle.dcv_dfa.proofs.auto.Auto.complement.Goals as goal
use Rattle.dcv_dfa.proofs.auto.Auto.complement.Goals.{After-turned}

still : (c : After-turned) → IsAutoWith c.turned.result c.self.inside.alone
still c =
    let P : RawValue → Type 0 = λ raw. IsAutoWith raw c.self.inside.alone in
    subst P (sym c.turned.ensures.turned)
    (still_auto c.complement_is_canonical.ensures c.canonical_for_same_behaviours.ensures c.self.inside.raw c.self.inside.alone c.turned.ensures.raw c.self.invariant)

pub invariant_of-result : goal.invariant_of-result
invariant_of-result c = still c

pub returns-clause-complement : goal.returns-clause-complement
returns-clause-complement c =
    let P : RawValue → Type 0 = λ raw. (one : IsAuto raw) → c.turned.result ≡ complement_of (stands_alone one.access) raw in
    subst P c.self.view_is (λ one.
    c.turned.ensures.turned
    ∙ turned_by_access c.complement_is_canonical.ensures c.canonical_for_same_behaviours.ensures c.self.inside.raw c.self.inside.alone c.turned.ensures.raw c.self.invariant
    c.access_words_are_one.ensures one)

pub returns-clause-accepts : goal.returns-clause-accepts
returns-clause-accepts c =
    let P : RawValue → Type 0 = λ raw. HaveSameBehaviours raw.arena.slots (raw_accepts c.turned.result) (outside (raw_accepts raw)) in
    let raw = c.self.inside.raw in
    let Q : RawValue → Type 0 = λ other. HaveSameBehaviours raw.arena.slots (raw_accepts other) (outside (raw_accepts raw)) in
    subst P c.self.view_is (subst Q (sym c.turned.ensures.turned)
    (accepts_outside c.complement_is_canonical.ensures c.canonical_for_same_behaviours.ensures c.self.inside.raw c.self.inside.alone c.turned.ensures.raw c.self.invariant))

pub returns-clause-auto : goal.returns-clause-auto
returns-clause-auto c = (still c).auto
