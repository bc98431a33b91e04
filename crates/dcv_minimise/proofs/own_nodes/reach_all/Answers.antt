use Rattle.std.proofs.Common.{inl, inr, ◌-◌, ◌∙◌, subst, sym, arith}
use Rattle.std.proofs.lemmas.Bool.{cases_eq}
use Rattle.dcv_arena.specs.declared.nodes.Ref.TheVariants.{Place}
use Rattle.dcv_minimise.specs.OwnNodes.{IsOfRoots}
use Rattle.dcv_minimise.proofs.OwnNodes.{no_others}
use Rattle.dcv_minimise.proofs.own_nodes.reach_all.Goals as goal

pub loop-place-preserved : goal.loop-place-preserved
loop-place-preserved c =
    let was = c.loop-place.invariant in
    let at = c.loop-place.place - 1 in
    record {
      as_long = c.mark_children.ensures.length ∙ was.as_long;
      within = omega (arith, was.within);
      marks = λ roots were. c.mark_children.ensures.marks roots (was.marks roots were at c.if-not-marked-place.false) (was.marks roots were);
      later = λ roots were place from within. elim (cases_eq place at) [
        | inl same ↦ subst (λ p. IsOfRoots c.args.arena.now roots (Place p)) (sym same) (was.marks roots were at c.if-not-marked-place.false)
        | inr differ ↦ was.later roots were place (omega (arith, differ, from)) within
      ];
    }

pub returns : goal.returns
returns c roots were is = no_others c.args.arena.now roots c.requires.arena (λ place within. c.loop-place.invariant.later roots were place (omega (arith, c.loop-place-test.false)) within)
