-- The one name `p`.
use Rattle.std.proofs.Common.{◌≡◌, ℕ, List, [], ◌∷◌, ◌++◌, refl, sym, ap, subst, ◌∙◌, arith}
use Rattle.std.proofs.lemmas.List.Elements.{All-from_recursion}
use Rattle.dcv_tokens.specs.Tokens.{reserved_words}
use Rattle.dcv_syntax.specs.declared.names.Name.{Name}
use Rattle.dcv_automaton_file.specs.File.{texts_of}
use Rattle.dcv_automaton_text.specs.Rules.{IsPlainName, AreNames}

plain_p : IsPlainName (112 ∷ [])
unfolding reserved_words
plain_p = record { form = refl; short = omega arith }

pub only_p : (names front : List Name) (name : Name) → names ≡ front ++ name ∷ [] → front ≡ [] → name.text ≡ 112 ∷ [] → AreNames (texts_of names)
only_p names front name pushed none is =
    subst AreNames (sym (ap texts_of (pushed ∙ ap (λ (before : List Name). before ++ name ∷ []) none) ∙ ap (λ text. text ∷ []) is)) (record {
      count = omega arith;
      each = All-from_recursion IsPlainName ((112 ∷ []) ∷ []) (plain_p, tt);
      differ = λ i j d before within. absurd (omega (arith, before, within));
    })
