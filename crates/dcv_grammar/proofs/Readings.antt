-- The steps of a reader that takes a class at a time.
use Rattle.std.proofs.Common.{◌≡◌, ℕ, ◌+◌, ◌<◌, Bool, true, false, eqb, List, [], ◌∷◌, ◌++◌, length, take, reverse, Option, Some, None, inl, inr, sym, subst, ◌∙◌, true≢false, arith}
use Rattle.std.specs.Prelude.{is_some, not}
use Rattle.std.specs.Option.{option_eq}
use Rattle.std.proofs.lemmas.Bool.{false≢true}
use Rattle.std.proofs.lemmas.List.{take_all}
use Rattle.dcv_grammar.specs.declared.grammar.Symbol.{Symbol}
use Rattle.dcv_grammar.specs.declared.grammar.Symbol.TheVariants.{Rule}
use Rattle.dcv_grammar.specs.declared.grammar.ContextFree.{ContextFree as GrammarTables}
use Rattle.dcv_grammar.specs.declared.reader.Reading.{Reading}
use Rattle.dcv_grammar.specs.Grammar.{ContextFree, grammar_of, IsSentence, IsViable, IsFaultAt}
use Rattle.dcv_grammar.specs.Predictive.{IsPredictive}
use Rattle.dcv_grammar.specs.Machine.{Follows, Wants}
use Rattle.dcv_grammar.specs.Taking.{HasTaken, IsTaken, IsEnded}
use Rattle.dcv_grammar.proofs.Steps.{follows_nothing, follows_class, viable_so_far, no_more_viable, whole_sentence, no_sentence}
use Rattle.dcv_grammar.proofs.Stacks.{same_class, other_class}

has_taken : (reading : Reading) (taken : List ℕ) → IsPredictive (grammar_of reading.grammar)
    → Follows (grammar_of reading.grammar) taken (reverse reading.stack.items) → HasTaken reading taken
has_taken reading taken p f = record { viable = viable_so_far (grammar_of reading.grammar) p taken (reverse reading.stack.items) f; stack = f }

pub begun : (reading : Reading) → IsPredictive (grammar_of reading.grammar)
    → reverse reading.stack.items ≡ Rule (grammar_of reading.grammar).start ∷ [] → HasTaken reading []
begun reading p start =
    has_taken reading [] p (subst (Follows (grammar_of reading.grammar) []) (sym start) (follows_nothing (grammar_of reading.grammar)))

pub took : (old new : Reading) (class : ℕ) (wanted : Option ℕ) (viable : Bool) → IsPredictive (grammar_of old.grammar) → new.grammar ≡ old.grammar
    → Wants (grammar_of old.grammar) (Some class) (reverse old.stack.items) wanted (reverse new.stack.items)
    → viable ≡ option_eq eqb wanted (Some class) → (taken : List ℕ) → HasTaken old taken → IsTaken viable new (taken ++ class ∷ [])
took old new class wanted true p same wants is taken h =
    let g = grammar_of old.grammar in
    let one = subst (λ w. Wants g (Some class) (reverse old.stack.items) w (reverse new.stack.items)) (same_class wanted class (sym is)) wants in
    let further = follows_class g taken (reverse old.stack.items) class (reverse new.stack.items) h.stack one in
    has_taken new (taken ++ class ∷ []) (subst (λ t. IsPredictive (grammar_of t)) (sym same) p)
    (subst (λ t. Follows (grammar_of t) (taken ++ class ∷ []) (reverse new.stack.items)) (sym same) further)
took old new class wanted false p same wants is taken h = λ viable.
    no_more_viable (grammar_of old.grammar) taken (reverse old.stack.items) class wanted (reverse new.stack.items) h.stack wants (other_class wanted class (sym is))
    (subst (λ t. IsViable (grammar_of t) (taken ++ class ∷ [])) same viable)

pub ended : (old : Reading) (new : List Symbol) (wanted : Option ℕ) (whole : Bool) → Wants (grammar_of old.grammar) None (reverse old.stack.items) wanted new
    → is_some wanted ≡ not whole → (taken : List ℕ) → HasTaken old taken → IsEnded whole (grammar_of old.grammar) taken
ended old new None true wants is taken h = whole_sentence (grammar_of old.grammar) taken (reverse old.stack.items) new h.stack wants
ended old new None false wants is taken h = absurd (false≢true is)
ended old new (Some k) true wants is taken h = absurd (true≢false is)
ended old new (Some k) false wants is taken h = no_sentence (grammar_of old.grammar) taken (reverse old.stack.items) k new h.stack wants

-- ---- what a refusal and the end tell of a list

module _ (old new : Reading) (grammar : GrammarTables) (same : new.grammar ≡ old.grammar) (is : old.grammar ≡ grammar) (viable : Bool) (taken : List ℕ) (told : IsTaken viable new taken) where
  pub taken_is_kept : viable ≡ true → HasTaken new taken
  taken_is_kept yes_told = subst (λ v. IsTaken v new taken) yes_told told

  pub none_begins : viable ≡ false → ¬ IsViable (grammar_of grammar) taken
  none_begins refused = λ some. subst (λ v. IsTaken v new taken) refused told (subst (λ t. IsViable (grammar_of t) taken) (sym (same ∙ is)) some)

module _ (grammar : ContextFree) (classes : List ℕ) where
  pub fault_here : (place class : ℕ) → place < length classes → take (place + 1) classes ≡ take place classes ++ class ∷ []
      → IsViable grammar (take place classes) → ¬ IsViable grammar (take place classes ++ class ∷ []) → IsFaultAt grammar classes place
  fault_here place class inside more viable none = record { viable = viable; fault = inl (inside, λ v. none (subst (IsViable grammar) more v)) }

  pub fault_past : (count : ℕ) → count ≡ length classes → IsViable grammar classes → ¬ IsSentence grammar classes → IsFaultAt grammar classes count
  fault_past count all viable none = record { viable = subst (IsViable grammar) (sym (take_all count classes (omega (arith, all)))) viable; fault = inr (all, none) }
