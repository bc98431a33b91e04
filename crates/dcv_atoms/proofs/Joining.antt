-- Truths as numbers, and how they are joined.
use Rattle.std.proofs.Common.{◌≡◌, ℕ, zero, suc, ◌<◌, Bool, true, false, not, ◌==◌, List, [], ◌∷◌, ◌++◌, length, map, get_or, refl, ap, sym, subst, ◌∙◌, arith}
use Rattle.std.specs.List.{flat_map}
use Rattle.dcv_arena.specs.Arena.{ArenaValue, IsRef, value_of, table_of, places, count_with}
use Rattle.dcv_arena.specs.Diagram.{node_count}
use Rattle.dcv_arena.specs.declared.nodes.Ref.{Ref}
use Rattle.dcv_arena.proofs.Tables.{same_table}
use Rattle.dcv_core.specs.Core.{PlainTruth, TruthJoined}
use Rattle.dcv_core.specs.TruthViews.{truths_of}
use Rattle.dcv_syntax.specs.declared.propositions.Connective.{Connective}
use Rattle.dcv_logic.specs.Connectives.{joins}
use Rattle.dcv_atoms.specs.Parts.{number_of_truth, parts, all_parts}
use Rattle.dcv_renumber.specs.Renumbered.{renumbered}
use Rattle.dcv_atoms.specs.Functions.{FunctionValue, Means, number_joined}

-- ---- truths as numbers

pub truth_again : (holds : Bool) → (number_of_truth holds == 1) ≡ holds
truth_again true = refl
truth_again false = refl

pub is_small : (holds : Bool) → number_of_truth holds < 2
is_small true = omega arith
is_small false = omega arith

-- a list of 0 and 1 has at each of these places its own number
pub itself_listed : (number : ℕ) → number < 2 → get_or (0 ∷ 1 ∷ []) number 0 ≡ number
itself_listed zero small = refl
itself_listed (suc zero) small = refl
itself_listed (suc (suc number)) small = absurd (omega (arith, small))

-- a list of 1 and 0 has at each of these places the other number, and has no others
pub turned : (holds : Bool) → get_or (1 ∷ 0 ∷ []) (number_of_truth holds) 0 ≡ number_of_truth (not holds)
turned true = refl
turned false = refl

-- functions that agree have as many nodes with an arena
pub same_count_with : (arena : ArenaValue) (f g : List Bool → ℕ) → ((letter : List Bool) → length letter ≡ arena.slots → f letter ≡ g letter)
    → count_with arena f ≡ count_with arena g
same_count_with arena f g same =
    ap (λ table. node_count arena.slots (map (table_of arena) (places arena) ++ table ∷ [])) (same_table arena.slots f g same)

-- ---- two functions joined

-- what two functions' numbers are merged into is 1 where the truths that they stand for are joined to true
pub means_joined : (connective : Connective) (first second new : ArenaValue) (one other root : Ref) (slots : ℕ) (P Q : List Bool → Bool) → Means first one slots P → Means second other slots Q
    → IsRef new root → new.slots ≡ slots
    → ((letter : List Bool) → length letter ≡ new.slots → value_of new root letter ≡ number_joined connective (value_of first one letter ∷ value_of second other letter ∷ []))
    → Means new root slots (λ letter. joins connective (P letter) (Q letter))
means_joined connective first second new one other root slots P Q p q is_ref same merged = record {
  is_ref = is_ref;
  slots_are = same;
  value = λ letter size.
      merged letter (size ∙ sym same)
      ∙ (λ i. number_of_truth (joins connective (p.value letter size i == 1) (q.value letter size i == 1)))
      ∙ (λ i. number_of_truth (joins connective (truth_again (P letter) i) (truth_again (Q letter) i)));
}

-- ---- a function turned round

pub means_opposite : (old new : ArenaValue) (root opposite : Ref) (P : List Bool → Bool) → Means old root old.slots P → IsRef new opposite → new.slots ≡ old.slots
    → ((letter : List Bool) → length letter ≡ new.slots → value_of new opposite letter ≡ renumbered (1 ∷ 0 ∷ []) old root letter)
    → Means new opposite old.slots (λ letter. not (P letter))
means_opposite old new root opposite P means is_ref same renumbers = record {
  is_ref = is_ref;
  slots_are = same;
  value = λ letter size. renumbers letter (size ∙ sym same) ∙ ap (λ number. get_or (1 ∷ 0 ∷ []) number 0) (means.value letter size) ∙ turned (P letter);
}

-- ---- operands joined one after another

all_parts_are : (listed : List PlainTruth) → all_parts (truths_of listed) ≡ flat_map parts listed
all_parts_are [] = refl
all_parts_are (p ∷ listed) = ap (λ rest. parts p ++ rest) (all_parts_are listed)

pub list_parts : (connective : Connective) (listed : List PlainTruth)
    → flat_map parts listed ++ TruthJoined connective (truths_of listed) ∷ [] ≡ parts (TruthJoined connective (truths_of listed))
list_parts connective listed = ap (λ all. all ++ TruthJoined connective (truths_of listed) ∷ []) (sym (all_parts_are listed))

-- ---- the test of a function may be another that says the same
pub means_alike : (arena : ArenaValue) (root : Ref) (slots : ℕ) (P Q : List Bool → Bool) → ((letter : List Bool) → length letter ≡ slots → P letter ≡ Q letter)
    → Means arena root slots P → Means arena root slots Q
means_alike arena root slots P Q same means = record {
  is_ref = means.is_ref;
  slots_are = means.slots_are;
  value = λ letter size. means.value letter size ∙ ap number_of_truth (same letter size);
}

-- a function that is put into an arena has as many nodes with it as the test that it stands for
pub count_put : (arena : ArenaValue) (function : FunctionValue) (P : List Bool → Bool) → Means function.arena function.root arena.slots P
    → count_with arena (renumbered (0 ∷ 1 ∷ []) function.arena function.root) ≡ count_with arena (λ letter. number_of_truth (P letter))
count_put arena function P means =
    same_count_with arena (renumbered (0 ∷ 1 ∷ []) function.arena function.root) (λ letter. number_of_truth (P letter))
    (λ letter size.
    let value = means.value letter size in
    itself_listed (value_of function.arena function.root letter) (subst (λ number. number < 2) (sym value) (is_small (P letter))) ∙ value)
