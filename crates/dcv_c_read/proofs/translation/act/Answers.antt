use Rattle.std.proofs.Common.{◌≡◌, ℕ, inl, inr, map, sym, subst}
use Rattle.std.specs.Prelude.{IfOk}
use Rattle.dcv_c.specs.Actions.{action}
use Rattle.dcv_c_read.specs.Symbols.{seen_part, IsMeant}
use Rattle.dcv_c_read.proofs.translation.act.Goals as goal

pub tokens-requires : goal.tokens-requires
tokens-requires c = elim c.in-2.is [
  | inl statics ↦ subst (λ (rule : ℕ). IsMeant (action rule (map seen_part c.args.parts.now))) statics c.requires
  | inr locals ↦ subst (λ (rule : ℕ). IsMeant (action rule (map seen_part c.args.parts.now))) locals c.requires
]

pub tokens-requires-in-7 : goal.tokens-requires-in-7
tokens-requires-in-7 c = subst (λ (rule : ℕ). IsMeant (action rule (map seen_part c.args.parts.now))) c.in-7.is c.requires

pub tokens-requires-in-8 : goal.tokens-requires-in-8
tokens-requires-in-8 c = subst (λ (rule : ℕ). IsMeant (action rule (map seen_part c.args.parts.now))) c.in-8.is c.requires

pub returns-in-2 : goal.returns-in-2
returns-in-2 c = elim c.in-2.is [
  | inl statics ↦ subst (λ (rule : ℕ). IfOk c.tokens.result (λ part. seen_part part ≡ action rule (map seen_part c.args.parts.now))) (sym statics) c.tokens.ensures
  | inr locals ↦ subst (λ (rule : ℕ). IfOk c.tokens.result (λ part. seen_part part ≡ action rule (map seen_part c.args.parts.now))) (sym locals) c.tokens.ensures
]

pub returns-in-7 : goal.returns-in-7
returns-in-7 c =
    subst (λ (rule : ℕ). IfOk c.tokens-in-7.result (λ part. seen_part part ≡ action rule (map seen_part c.args.parts.now))) (sym c.in-7.is) c.tokens-in-7.ensures

pub returns-in-8 : goal.returns-in-8
returns-in-8 c =
    subst (λ (rule : ℕ). IfOk c.tokens-in-8.result (λ part. seen_part part ≡ action rule (map seen_part c.args.parts.now))) (sym c.in-8.is) c.tokens-in-8.ensures
