-- The names of one letter.
use Rattle.std.proofs.Common.{◌≡◌, ◌⊎◌, inl, inr, ℕ, List, [], ◌∷◌, ◌++◌, map, refl, sym, ap, subst, ◌∙◌, arith}
use Rattle.std.proofs.lemmas.List.Elements.{All-from_recursion}
use Rattle.dcv_tokens.specs.Tokens.{reserved_words}
use Rattle.dcv_syntax.specs.declared.names.Name.{Name}
use Rattle.dcv_automaton_text.specs.Rules.{IsPlainName, AreNames}

abbrev texts_of : List Name → List (List ℕ)
texts_of names = map (λ (name : Name). name.text) names

plain_a : IsPlainName (97 ∷ [])
unfolding reserved_words
plain_a = record { form = refl; short = omega arith }

plain_p : IsPlainName (112 ∷ [])
unfolding reserved_words
plain_p = record { form = refl; short = omega arith }

plain : (letter : ℕ) → (letter ≡ 97) ⊎ (letter ≡ 112) → IsPlainName (letter ∷ [])
plain letter (inl is) = subst (λ letter. IsPlainName (letter ∷ [])) (sym is) plain_a
plain letter (inr is) = subst (λ letter. IsPlainName (letter ∷ [])) (sym is) plain_p

names_are : (letter : ℕ) → IsPlainName (letter ∷ []) → AreNames ((letter ∷ []) ∷ [])
names_are letter name = record {
  count = omega arith;
  each = All-from_recursion IsPlainName ((letter ∷ []) ∷ []) (name, tt);
  differ = λ i j d before within. absurd (omega (arith, before, within));
}

pub one_name : (letter : ℕ) (names front : List Name) (name : Name) → (letter ≡ 97) ⊎ (letter ≡ 112) → names ≡ front ++ name ∷ [] → front ≡ []
    → name.text ≡ letter ∷ [] → AreNames (map (λ (name : Name). name.text) names)
one_name letter names front name which pushed none is =
    subst AreNames (sym (ap texts_of (pushed ∙ ap (λ (before : List Name). before ++ name ∷ []) none) ∙ ap (λ text. text ∷ []) is)) (names_are letter (plain letter which))
