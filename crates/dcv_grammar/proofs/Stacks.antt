-- The reader's stack as the code keeps it: its last symbol is the top.
use Rattle.std.proofs.Common.{◌≡◌, ℕ, ◌+◌, ◌<◌, ◌≤◌, List, [], ◌∷◌, ◌++◌, length, get_or, map, take, reverse, Bool, true, false, not, eqb, Option, Some, None, refl, sym, ap, ◌∙◌, subst, arith}
use Rattle.std.specs.Prelude.{slice_get}
use Rattle.std.proofs.lemmas.List.{reverse-append, length-map, take_more, get_or-map, take_all}
use Rattle.std.specs.Option.{option_eq}
use Rattle.std.proofs.lemmas.Bool.{eqb-true, eq-eqb, true≢false}
use Rattle.dcv_grammar.specs.declared.grammar.Symbol.{Symbol}
use Rattle.dcv_grammar.specs.declared.grammar.Symbol.TheVariants.{Rule}
use Rattle.dcv_grammar.specs.Grammar.{ContextFree, Production, IsReached}
use Rattle.dcv_grammar.specs.Picked.{body_for}
use Rattle.dcv_grammar.specs.Predictive.{IsPredictive}
use Rattle.dcv_grammar.proofs.Steps.{IsStackFor, stack_weight, stack_step, weight_less, in_table}

-- the symbol that was popped was on top
pub top_is : (stack before : List Symbol) (popped top : Symbol) → stack ≡ before ++ popped ∷ [] → popped ≡ top → reverse stack ≡ top ∷ reverse before
top_is stack before popped top e i = ap reverse e ∙ (reverse-append before (popped ∷ []) ∙ ap (λ x. x ∷ reverse before) i)

-- one symbol on an empty stack
pub one_pushed : (empty stack : List Symbol) (pushed : Symbol) → empty ≡ [] → stack ≡ empty ++ pushed ∷ [] → reverse stack ≡ pushed ∷ []
one_pushed empty stack pushed e i = ap reverse (i ∙ ap (λ xs. xs ++ pushed ∷ []) e)

module _ (g : ContextFree) (p : IsPredictive g) where
  -- the rule on top is in the table
  pub rule_in_table : (next : Option ℕ) (old stack : List Symbol) (n : ℕ) (s : List Symbol) → IsStackFor g next old (reverse stack) → reverse stack ≡ Rule n ∷ s → n < length g.productions
  rule_in_table next old stack n s invariant e = in_table g p n s (subst (IsReached g) e invariant.reached)

  -- one turn of the loop
  pub turn : (next : Option ℕ) (old stack : List Symbol) (n : ℕ) (s : List Symbol) (rule : Production) (body after : List Symbol) → IsStackFor g next old (reverse stack) → reverse stack ≡ Rule n ∷ s → slice_get g.productions n ≡ Some rule → body ≡ body_for rule next → after ≡ body ++ s → IsStackFor g next old after × (stack_weight g after < stack_weight g (reverse stack))
  turn next old stack n s rule body after invariant e at picked pushed =
      let is : body_for rule next ++ s ≡ after = ap (λ b. b ++ s) (sym picked) ∙ sym pushed in
      let kept = stack_step g p next old n s rule at (subst (IsStackFor g next old) e invariant) in
      let less = weight_less g p n s rule next at in (
        subst (IsStackFor g next old) is kept,
        subst (λ x. stack_weight g after < stack_weight g x) (sym e) (subst (λ x. stack_weight g x < stack_weight g (Rule n ∷ s)) is less),
      )

-- whether an optional class is a class
pub same_class : (a : Option ℕ) (c : ℕ) → option_eq eqb a (Some c) ≡ true → a ≡ Some c
same_class None c e = cc
same_class (Some k) c e = ap Some (eqb-true k c e)

pub other_class : (a : Option ℕ) (c : ℕ) → option_eq eqb a (Some c) ≡ false → a ≡ Some c → ⊥
other_class a c e i = true≢false (sym (ap (λ o. option_eq eqb o (Some c)) i ∙ eq-eqb c c refl) ∙ e)

pub not_false : (b : Bool) → not b ≡ true → b ≡ false
not_false true e = cc
not_false false e = refl

pub not_true : (b : Bool) → not b ≡ false → b ≡ true
not_true true e = refl
not_true false e = cc

-- the classes up to one more token
pub classes_more : {A : Type 0} (class_of : A → ℕ) (tokens : List A) (place : ℕ) (token : A) (class : ℕ) → place < length tokens → token ≡ get_or tokens place token → class ≡ class_of token → take (place + 1) (map class_of tokens) ≡ take place (map class_of tokens) ++ class ∷ []
classes_more class_of tokens place token class lt at is =
    let long = length-map tokens class_of in
    let there : place < length (map class_of tokens) = omega (arith, long) in
    take_more (map class_of tokens) place (class_of token) there
    ∙ ap (λ k. take place (map class_of tokens) ++ k ∷ []) (get_or-map class_of tokens place token (class_of token) lt ∙ ap class_of (sym at) ∙ sym is)

pub classes_all : {A : Type 0} (class_of : A → ℕ) (tokens : List A) (place : ℕ) → length tokens ≤ place → take place (map class_of tokens) ≡ map class_of tokens
classes_all class_of tokens place le = let long = length-map tokens class_of in take_all place (map class_of tokens) (omega arith)
