-- Each list has a verdict.
use Rattle.std.proofs.Common.{◌≡◌, ◌⊎◌, ℕ, zero, suc, ◌+◌, ◌<◌, Bool, true, false, eqb, List, [], ◌∷◌, ◌++◌, length, take, Option, Some, None, refl, sym, ap, ◌∙◌, subst, inl, inr, arith, append_assoc, append-nil, length-append}
use Rattle.std.specs.Prelude.{is_some}
use Rattle.std.specs.Option.{option_eq}
use Rattle.std.proofs.Math.Seq.{take-append_seam, take-append-add}
use Rattle.dcv_grammar.specs.declared.grammar.Symbol.{Symbol}
use Rattle.dcv_grammar.specs.declared.grammar.Symbol.TheVariants.{Class, Rule}
use Rattle.dcv_grammar.specs.Grammar.{ContextFree, IsVerdict}
use Rattle.dcv_grammar.specs.Picked.{body_for}
use Rattle.dcv_grammar.specs.Predictive.{IsPredictive}
use Rattle.dcv_grammar.specs.Machine.{Follows, Wants}
use Rattle.dcv_grammar.proofs.Derivations.{rule_at}
use Rattle.dcv_grammar.proofs.Steps.{IsStackFor, stack_weight, in_table, weight_less, stack_step, stack_for_itself, wants_class, wants_nothing, follows_nothing, follows_class, verdict_at, sentence_at_end, fault_at_end}
use Rattle.dcv_grammar.proofs.Stacks.{same_class, other_class}

tested : (b : Bool) → (b ≡ true) ⊎ (b ≡ false)
tested true = inl refl
tested false = inr refl

module _ (g : ContextFree) (p : IsPredictive g) where
  abbrev Wanted : Option ℕ → List Symbol → Type 0
  Wanted next old = (wanted : Option ℕ) × (new : List Symbol) × Wants g next old wanted new

  -- a stack wants a class, or nothing
  wanted_of : (bound : ℕ) (next : Option ℕ) (old stack : List Symbol) → stack_weight g stack < bound → IsStackFor g next old stack → Wanted next old
  wanted_of zero next old stack lt invariant = absurd (omega arith)
  wanted_of (suc bound) next old [] lt invariant = (None, [], wants_nothing g next old invariant)
  wanted_of (suc bound) next old (Class c ∷ s) lt invariant = (Some c, s, wants_class g next old c s invariant)
  wanted_of (suc bound) next old (Rule n ∷ s) lt invariant =
      let (rule, at) = rule_at g n (in_table g p n s invariant.reached) in
      let less = weight_less g p n s rule next at in
      wanted_of bound next old (body_for rule next ++ s) (omega arith) (stack_step g p next old n s rule at invariant)

  wanted_by : (next : Option ℕ) (done : List ℕ) (stack : List Symbol) → Follows g done stack → Wanted next stack
  wanted_by next done stack follows = wanted_of (stack_weight g stack + 1) next stack stack (omega arith) (stack_for_itself g next stack follows.reached)

  abbrev SomeVerdict : List ℕ → Type 0
  SomeVerdict classes = (verdict : Option ℕ) × IsVerdict g classes verdict

  verdict_from : (rest done : List ℕ) (stack : List Symbol) → Follows g done stack → SomeVerdict (done ++ rest)
  verdict_from [] done stack follows =
      let (wanted, new, wants) = wanted_by None done stack follows in
      subst SomeVerdict (sym (append-nil done)) (elim (tested (is_some wanted)) [
        | inl e ↦ (Some (length done), fault_at_end g p done (length done) stack wanted new refl follows wants e)
        | inr e ↦ (None, sentence_at_end g done stack wanted new follows wants e)
      ])
  verdict_from (c ∷ rest) done stack follows =
      let (wanted, new, wants) = wanted_by (Some c) done stack follows in
      elim (tested (option_eq eqb wanted (Some c))) [
        | inl e ↦
            let same = subst (λ w. Wants g (Some c) stack w new) (same_class wanted c e) wants in
            subst SomeVerdict (append_assoc done (c ∷ []) rest) (verdict_from rest (done ++ c ∷ []) new (follows_class g done stack c new follows same))
        | inr e ↦
            let all = done ++ c ∷ rest in
            let front = take-append_seam done (c ∷ rest) in
            let more : take (length done + 1) all ≡ take (length done) all ++ c ∷ [] = take-append-add done (c ∷ rest) 1 ∙ ap (λ l. l ++ c ∷ []) (sym front) in
            let inside : length done < length all = omega (arith, length-append done (c ∷ rest)) in
            (Some (length done), verdict_at g p all (length done) c stack wanted new inside more (subst (λ l. Follows g l stack) (sym front) follows) wants (other_class wanted c e))
      ]

  pub some_verdict : (classes : List ℕ) → SomeVerdict classes
  some_verdict classes = verdict_from classes [] (Rule g.start ∷ []) (follows_nothing g)
