-- One outcome at most is right for files that are decided together, but where the first that is over the limits is over both.
use Rattle.dcv_cli.proofs.Common.{◌≡◌, ◌⊎◌, inl, inr, ℕ, suc, List, [], ◌∷◌, length, map, Option, None, Some, sym, ap, ◌∙◌, true≢false}
use Rattle.dcv_cli.proofs.Common.{core_of_file, Language, Limits, Outcome, PlainFile, Word, WithinExcludesOver, Formula, kind_of, refused}
use Rattle.dcv_build.specs.Laws.{OneStepIsOver}
use Rattle.dcv_command.specs.declared.words.SetQuestion.{SetQuestion}
use Rattle.dcv_command.specs.declared.words.SetQuestion.TheVariants.{Together, Follows}
use Rattle.dcv_joint.specs.Moved.{moved_core}
use Rattle.dcv_together.specs.Answers.{Answer, TooMany, Least, IsFollowingFirst}
use Rattle.dcv_together.specs.Joint.{all_of}
use Rattle.dcv_together.specs.Laws.{OneLeastWithin, OneStuckOf}
use Rattle.dcv_language.specs.Language.{outside}
use Rattle.dcv_language.specs.Operations.{intersection}
use Rattle.dcv_cli.specs.FileSet.{AreBudgeted, FewFollowing, FewTuples, IsAnswered, IsBudgetedAt, IsDecidedFollowing, IsDecidedTogether, IsOfSet, Joined, ManyNames, OverLimits, OverSlots}
use Rattle.dcv_cli.specs.FileSet.{TooManyFollowing, TooManyTuples, WithinLimits, extra_in, following_outcome, joint_of, models_over, own_names, set_outcome}
use Rattle.dcv_cli.specs.Laws.{DifferAmong}
use Rattle.dcv_cli.specs.declared.faults.FormulaFault.TheVariants.{Names}
use Rattle.dcv_cli.specs.declared.refused.Which.TheVariants.{Number}
use Rattle.dcv_cli.proofs.OneOver.{one_over}

-- ---- what is said of sets

same_least : (one other : Option Word) → Least one ≡ Least other → one ≡ other
same_least one other e = cc

many_or_least : (least : Option Word) → TooMany ≡ Least least → ⊥
many_or_least least e = cc

module _ (one_least : OneLeastWithin) (one_stuck : OneStuckOf) where
  one_following : (tuples k : ℕ) (Ls : List Language) (one other : Answer) → IsFollowingFirst tuples k Ls one → IsFollowingFirst tuples k Ls other → one ≡ other
  one_following tuples k [] one other is is' = absurd is
  one_following tuples k (first ∷ others) one other is is' =
      one_least tuples k (first ∷ others) (intersection (all_of others) (outside first)) one other is is'

  one_together : (tuples : ℕ) (names : List (List ℕ)) (Ls : List Language) (a b : Outcome) → IsDecidedTogether tuples names Ls a → IsDecidedTogether tuples names Ls b → a ≡ b
  one_together tuples names Ls a b (TooManyTuples many e) (TooManyTuples many' e') = e ∙ sym e'
  one_together tuples names Ls a b (TooManyTuples (inl many) e) (FewTuples example stuck possible is e') =
      absurd (many_or_least example (one_least tuples (length names) Ls (all_of Ls) TooMany (Least example) many possible))
  one_together tuples names Ls a b (TooManyTuples (inr many) e) (FewTuples example stuck possible is e') =
      absurd (many_or_least stuck (one_stuck tuples (length names) Ls TooMany (Least stuck) many is))
  one_together tuples names Ls a b (FewTuples example stuck possible is e') (TooManyTuples (inl many) e) =
      absurd (many_or_least example (one_least tuples (length names) Ls (all_of Ls) TooMany (Least example) many possible))
  one_together tuples names Ls a b (FewTuples example stuck possible is e') (TooManyTuples (inr many) e) =
      absurd (many_or_least stuck (one_stuck tuples (length names) Ls TooMany (Least stuck) many is))
  one_together tuples names Ls a b (FewTuples example stuck possible is e) (FewTuples example' stuck' possible' is' e') =
      let same = same_least example example' (one_least tuples (length names) Ls (all_of Ls) (Least example) (Least example') possible possible') in
      let same_stuck = same_least stuck stuck' (one_stuck tuples (length names) Ls (Least stuck) (Least stuck') is is') in
      e ∙ (λ i. set_outcome names (same i) (same_stuck i)) ∙ sym e'

  one_follows : (tuples : ℕ) (names : List (List ℕ)) (Ls : List Language) (a b : Outcome) → IsDecidedFollowing tuples names Ls a → IsDecidedFollowing tuples names Ls b → a ≡ b
  one_follows tuples names Ls a b (TooManyFollowing many e) (TooManyFollowing many' e') = e ∙ sym e'
  one_follows tuples names Ls a b (TooManyFollowing many e) (FewFollowing least is e') =
      absurd (many_or_least least (one_following tuples (length names) Ls TooMany (Least least) many is))
  one_follows tuples names Ls a b (FewFollowing least is e) (TooManyFollowing many e') =
      absurd (many_or_least least (one_following tuples (length names) Ls TooMany (Least least) many is))
  one_follows tuples names Ls a b (FewFollowing least is e) (FewFollowing least' is' e') =
      let same = same_least least least' (one_following tuples (length names) Ls (Least least) (Least least') is is') in
      e ∙ ap (following_outcome names) same ∙ sym e'

  one_answered : (question : SetQuestion) (tuples : ℕ) (names : List (List ℕ)) (Ls : List Language) (a b : Outcome) → IsAnswered question tuples names Ls a
      → IsAnswered question tuples names Ls b → a ≡ b
  one_answered Together tuples names Ls a b p q = one_together tuples names Ls a b p q
  one_answered Follows tuples names Ls a b p q = one_follows tuples names Ls a b p q

  -- ---- the budgets of the files

  module _ (one_step : OneStepIsOver) (none_over : WithinExcludesOver) where
    module _ (limits : Limits) (joint : List (List ℕ)) where
      -- of one file, and of the others after it
      one_budgeted_at : (number : ℕ) (RightFor : Outcome → Type 0) (file : PlainFile) (files : List PlainFile) (a b : Outcome)
          → (RightFor a → RightFor b → (a ≡ b) ⊎ DifferAmong limits joint (suc number) files a b) → IsBudgetedAt limits joint number RightFor file a
          → IsBudgetedAt limits joint number RightFor file b → (a ≡ b) ⊎ DifferAmong limits joint number (file ∷ files) a b
      one_budgeted_at number RightFor file files a b others (OverSlots many e) (OverSlots many' e') = inl (e ∙ sym e')
      one_budgeted_at number RightFor file files a b others (OverSlots many e) (OverLimits few over is e') = absurd (true≢false (sym few ∙ many))
      one_budgeted_at number RightFor file files a b others (OverSlots many e) (WithinLimits few within right) = absurd (true≢false (sym few ∙ many))
      one_budgeted_at number RightFor file files a b others (OverLimits few over is e) (OverSlots many e') = absurd (true≢false (sym few ∙ many))
      one_budgeted_at number RightFor file files a b others (WithinLimits few within right) (OverSlots many e') = absurd (true≢false (sym few ∙ many))
      one_budgeted_at number RightFor file files a b others (OverLimits few over is e) (OverLimits few' another is' e') =
          elim (one_over one_step (length joint) (moved_core joint (own_names file) (core_of_file file)) limits (Number number) a b over another is is' e e') [
            | inl same ↦ inl same
            | inr differ ↦ inr (inl differ)
          ]
      one_budgeted_at number RightFor file files a b others (OverLimits few over is e) (WithinLimits few' within right) =
          absurd (none_over (length joint) (moved_core joint (own_names file) (core_of_file file)) limits (kind_of over.excess) over.step within is.is_over)
      one_budgeted_at number RightFor file files a b others (WithinLimits few within right) (OverLimits few' over is e) =
          absurd (none_over (length joint) (moved_core joint (own_names file) (core_of_file file)) limits (kind_of over.excess) over.step within is.is_over)
      one_budgeted_at number RightFor file files a b others (WithinLimits few within right) (WithinLimits few' within' right') = elim (others right right') [
        | inl same ↦ inl same
        | inr differ ↦ inr (inr differ)
      ]

      one_budgets : (number : ℕ) (RightFor : Outcome → Type 0) (files : List PlainFile) (a b : Outcome) → (RightFor a → RightFor b → a ≡ b)
          → AreBudgeted limits joint number RightFor files a → AreBudgeted limits joint number RightFor files b → (a ≡ b) ⊎ DifferAmong limits joint number files a b
      one_budgets number RightFor [] a b one p q = inl (one p q)
      one_budgets number RightFor (file ∷ files) a b one p q =
          one_budgeted_at number (AreBudgeted limits joint (suc number) RightFor files) file files a b (one_budgets (suc number) RightFor files a b one) p q

    -- ---- the set

    same_extra : (number at other other_at : ℕ) (found : Option (ℕ × ℕ)) → found ≡ Some (number, at) → found ≡ Some (other, other_at)
        → refused (Formula (Names at)) (Number number) ≡ refused (Formula (Names other_at)) (Number other)
    same_extra number at other other_at found is is' =
        let same : Some (number, at) ≡ Some (other, other_at) = sym is ∙ is' in
        ap (λ (extra : Option (ℕ × ℕ)). elim extra [ None ↦ refused (Formula (Names at)) (Number number) | Some one ↦ refused (Formula (Names one.1)) (Number one.0) ]) same

    extra_or_none : (found : Option (ℕ × ℕ)) (extra : ℕ × ℕ) → found ≡ Some extra → found ≡ None → ⊥
    extra_or_none found extra is none = let wrong : Some extra ≡ None = sym is ∙ none in cc

    pub one_of_set : (question : SetQuestion) (limits : Limits) (tuples : ℕ) (files : List PlainFile) (a b : Outcome) → IsOfSet question limits tuples files a
        → IsOfSet question limits tuples files b → (a ≡ b) ⊎ DifferAmong limits (joint_of files) 1 files a b
    one_of_set question limits tuples files a b (ManyNames number at is e) (ManyNames other other_at is' e') =
        inl (e ∙ same_extra number at other other_at (extra_in [] 1 files) is is' ∙ sym e')
    one_of_set question limits tuples files a b (ManyNames number at is e) (Joined none budgets) = absurd (extra_or_none (extra_in [] 1 files) (number, at) is none)
    one_of_set question limits tuples files a b (Joined none budgets) (ManyNames number at is e) = absurd (extra_or_none (extra_in [] 1 files) (number, at) is none)
    one_of_set question limits tuples files a b (Joined none budgets) (Joined none' budgets') =
        one_budgets limits (joint_of files) 1 (IsAnswered question tuples (joint_of files) (map (models_over (joint_of files)) files)) files a b
        (one_answered question tuples (joint_of files) (map (models_over (joint_of files)) files) a b) budgets budgets'
