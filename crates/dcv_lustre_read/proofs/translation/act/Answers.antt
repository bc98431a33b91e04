use Rattle.std.proofs.Common.{◌≡◌, ℕ, inl, inr, map, sym, subst}
use Rattle.dcv_lustre.specs.Actions.{action}
use Rattle.dcv_lustre_read.specs.Symbols.{seen_part, IsMeant}
use Rattle.dcv_lustre_read.proofs.translation.act.Goals as goal

pub truth-requires : goal.truth-requires
truth-requires c = elim c.in-2.is [
  | inl input ↦ subst (λ (rule : ℕ). IsMeant (action rule (map seen_part c.args.parts.now))) input c.requires
  | inr output ↦ subst (λ (rule : ℕ). IsMeant (action rule (map seen_part c.args.parts.now))) output c.requires
]

pub returns-in-2 : goal.returns-in-2
returns-in-2 c = elim c.in-2.is [
  | inl input ↦ subst (λ (rule : ℕ). seen_part c.truth.result ≡ action rule (map seen_part c.args.parts.now)) (sym input) c.truth.ensures
  | inr output ↦ subst (λ (rule : ℕ). seen_part c.truth.result ≡ action rule (map seen_part c.args.parts.now)) (sym output) c.truth.ensures
]
