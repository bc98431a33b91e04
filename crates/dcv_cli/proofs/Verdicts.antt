-- The verdict of a set is that of what an automaton accepts that has it, or of all else with the two words exchanged.
use Rattle.std.proofs.Common.{◌≡◌, ℕ, Bool, true, false, not, Option, None, Some, refl, sym, ◌∙◌, subst}
use Rattle.std.specs.Prelude.{IsTrue}
use Rattle.dcv_word.specs.Behaviour.{Word}
use Rattle.dcv_language.specs.Language.{Language, outside}
use Rattle.dcv_language.specs.Verdict.{IsLeastOf, Verdict, IsVerdict}
use Rattle.dcv_dfa.specs.Raw.{RawValue, raw_accepts}
use Rattle.dcv_explore.specs.Verdict.{HaveSameVerdict}
use Rattle.dcv_build.specs.Budget.{accepted_by, HasVerdictOfSet}
use Rattle.dcv_build.specs.Laws.{VerdictOfSameVerdict}

twice : (b : Bool) → not (not b) ≡ b
twice true = refl
twice false = refl

-- what is not outside a set is in it
least_twice : (k : ℕ) (L : Language) (least : Option Word) → IsLeastOf k L least → IsLeastOf k (outside (outside L)) least
least_twice k L None none = λ word b. subst (λ a. IsTrue (not a)) (sym (twice (L word))) (none word b)
least_twice k L (Some word) is = record {
  behaviour = is.behaviour;
  member = twice (L word) ∙ is.member;
  least = λ other b member. is.least other b (sym (twice (L other)) ∙ member);
}

module _ (move : VerdictOfSameVerdict) (k : ℕ) (L : Language) (raw : RawValue) (complemented : Bool) where
  pub verdict_inside : complemented ≡ false → HasVerdictOfSet k L raw complemented → (verdict : Verdict) → IsVerdict raw.arena.slots (raw_accepts raw) verdict → IsVerdict k L verdict
  verdict_inside not of verdict is =
      move k (raw_accepts raw) L verdict (subst (λ (b : Bool). HaveSameVerdict k (accepted_by raw b) L) not of.verdict)
      (subst (λ k. IsVerdict k (raw_accepts raw) verdict) of.slots is)

  pub verdict_outside : complemented ≡ true → HasVerdictOfSet k L raw complemented → (verdict : Verdict) → IsVerdict raw.arena.slots (raw_accepts raw) verdict
      → IsVerdict k L (record { counterexample = verdict.example; example = verdict.counterexample })
  verdict_outside turned of verdict is =
      let of_slots = subst (λ k. IsVerdict k (raw_accepts raw) verdict) of.slots is in
      move k (outside (raw_accepts raw)) L (record { counterexample = verdict.example; example = verdict.counterexample })
      (subst (λ (b : Bool). HaveSameVerdict k (accepted_by raw b) L) turned of.verdict)
      (record { counterexample = least_twice k (raw_accepts raw) verdict.example of_slots.example; example = of_slots.counterexample })
