-- Two outcomes that name the first step over the limits are the same, or name one excess each.
--     both_kinds     what is so of two excesses that differ is so of both kinds
--     one_over       of the steps of any core
use Rattle.dcv_cli.proofs.Common.{◌≡◌, ◌≢◌, ◌⊎◌, inl, inr, refl, ℕ, Some, sym, ap, ◌∙◌, subst, slice_get, option_map}
use Rattle.dcv_cli.proofs.Common.{CoreTree, PlainStep, steps_of, Limits, TooManyStates, TooManyNodes, IsOver, Excess, States, Nodes, Over, Budget}
use Rattle.dcv_cli.proofs.Common.{Outcome, Which, kind_of, limit_of, refused}
use Rattle.dcv_build.specs.Laws.{OneStepIsOver}
use Rattle.dcv_cli.specs.Budget.{IsFirstOverIn}
use Rattle.dcv_cli.specs.Laws.{DifferInStepOf}
use Rattle.dcv_explore.specs.Budget.{Kind as KindOfExcess}

pub same_or_other : (one other : Excess) → (one ≡ other) ⊎ (one ≢ other)
same_or_other States States = inl refl
same_or_other Nodes Nodes = inl refl
same_or_other _ _ = inr (λ e. cc)

-- what is so of one excess, and of another, is so of both kinds
pub both_kinds : (P : KindOfExcess → Type 0) (one other : Excess) → P (kind_of one) → P (kind_of other) → one ≢ other → (kind : KindOfExcess) → P kind
both_kinds P States States p q differ kind = absurd (differ refl)
both_kinds P Nodes Nodes p q differ kind = absurd (differ refl)
both_kinds P States Nodes p q differ TooManyStates = p
both_kinds P States Nodes p q differ TooManyNodes = q
both_kinds P Nodes States p q differ TooManyStates = q
both_kinds P Nodes States p q differ TooManyNodes = p

module _ (one_step : OneStepIsOver) (k : ℕ) (tree : CoreTree) (limits : Limits) where
  module _ (over another : Over) (is : IsFirstOverIn (steps_of k tree) limits over) (is' : IsFirstOverIn (steps_of k tree) limits another) where
    -- one step is the first over the limits, and its part of the text begins at one place
    one_first : over.step ≡ another.step
    one_first = one_step k tree limits (kind_of over.excess) (kind_of another.excess) over.step another.step is.is_over is'.is_over

    one_place : over.at ≡ another.at
    one_place =
        let same : Some over.at ≡ Some another.at =
        sym is.begins ∙ ap (λ number. option_map (λ (step : PlainStep). step.span.start) (slice_get (steps_of k tree) number)) one_first ∙ is'.begins in cc

    -- what there is too much of decides what is said of it
    one_excess : over.excess ≡ another.excess → over ≡ another
    one_excess excess =
        let step = one_first in
        let limit : over.limit ≡ another.limit = is.limit ∙ ap (λ (e : Excess). limit_of e limits) excess ∙ sym is'.limit in
        let place = one_place in
        λ i. record { excess = excess i; limit = limit i; at = place i; step = step i }

    -- and of two things of which there is too much, both kinds are
    both_over : over.excess ≢ another.excess → (kind : KindOfExcess) → IsOver (steps_of k tree) limits kind over.step
    both_over differ kind =
        both_kinds (λ kind. IsOver (steps_of k tree) limits kind over.step) over.excess another.excess is.is_over
        (subst (IsOver (steps_of k tree) limits (kind_of another.excess)) (sym one_first) is'.is_over) differ kind

  -- so two outcomes of one step are the same, or name one excess each
  pub one_over : (which : Which) (a b : Outcome) (over another : Over) → IsFirstOverIn (steps_of k tree) limits over → IsFirstOverIn (steps_of k tree) limits another
      → a ≡ refused (Budget over) which → b ≡ refused (Budget another) which → (a ≡ b) ⊎ DifferInStepOf (steps_of k tree) limits which a b
  one_over which a b over another is is' e e' = elim (same_or_other over.excess another.excess) [
    | inl same ↦ inl (e ∙ ap (λ (o : Over). refused (Budget o) which) (one_excess over another is is' same) ∙ sym e')
    | inr differ ↦ inr (record {
      first = over;
      second = another;
      first_is = is;
      second_is = is';
      differ = differ;
      step = one_first over another is is';
      both = both_over over another is is' differ;
      one_is = e;
      other_is = e';
    })
  ]
