-- The texts of a table, and the classes that it has for them.
use Rattle.std.proofs.Common.{◌==◌, ◌≡◌, ℕ, Bool, true, not, ◌&&◌, List, [], ◌∷◌, Option, Some, None, ◌⊎◌, inl, inr, refl, sym, ap, ◌∙◌}
use Rattle.std.specs.List.{list_all}
use Rattle.std.specs.Str.{bytes_eq}
use Rattle.std.proofs.lemmas.Slice.Eq.{bytes_eq-Decides}
use Rattle.std.proofs.lemmas.Bool.{eqb-false, cases_Bool, and_parts, or_right, false≢true, not-true}
use Rattle.dcv_lexer.specs.Lexicon.{texts_of, is_one_of, class_in}

-- a text with a class is one of the table's, whose classes pass a test
pub class_passes : (table : List (List ℕ × ℕ)) (p : ℕ → Bool) (bytes : List ℕ) (class : ℕ) → list_all (λ entry. p entry.1) table ≡ true
    → class_in table bytes ≡ Some class → p class ≡ true
class_passes [] p bytes class all is = let never : None ≡ Some class = is in cc
class_passes (entry ∷ table) p bytes class all is =
    let both = and_parts (p entry.1) (list_all (λ e. p e.1) table) all in
    elim (cases_Bool (bytes_eq bytes entry.0)) [
      | inl same ↦
          let here : Some entry.1 ≡ Some class = rw same at is in
          let one : entry.1 ≡ class = cc in ap p (sym one) ∙ both.0
      | inr other ↦ class_passes table p bytes class both.1 (rw other at is)
    ]

-- a text with a class is one of the table's
pub text_there : (table : List (List ℕ × ℕ)) (bytes : List ℕ) (class : ℕ) → class_in table bytes ≡ Some class → is_one_of (texts_of table) bytes ≡ true
text_there [] bytes class is = let never : None ≡ Some class = is in cc
text_there (entry ∷ table) bytes class is = elim (cases_Bool (bytes_eq bytes entry.0)) [
  | inl same ↦ rw same refl
  | inr other ↦ or_right (bytes_eq bytes entry.0) (is_one_of (texts_of table) bytes) (text_there table bytes class (rw other at is))
]

-- one of the table's texts has a class
pub class_there : (table : List (List ℕ × ℕ)) (bytes : List ℕ) → is_one_of (texts_of table) bytes ≡ true → class_in table bytes ≡ None → ⊥
class_there [] bytes found none = false≢true found
class_there (entry ∷ table) bytes found none = elim (cases_Bool (bytes_eq bytes entry.0)) [
  | inl same ↦ let never : Some entry.1 ≡ None = rw same at none in cc
  | inr other ↦ class_there table bytes (rw other at found) (rw other at none)
]

-- ---- a class or none

pub some_or_none : {X : Type 0} (o : Option X) → ((x : X) × (o ≡ Some x)) ⊎ (o ≡ None)
some_or_none None = inr refl
some_or_none (Some x) = inl (x, refl)

-- ---- one text a class

abbrev pub are_distinct : List (List ℕ × ℕ) → Bool
are_distinct [] = true
are_distinct (entry ∷ table) = list_all (λ other. not (other.1 == entry.1)) table && are_distinct table

pub same_text : (table : List (List ℕ × ℕ)) (text other : List ℕ) (class : ℕ) → are_distinct table ≡ true → class_in table text ≡ Some class
    → class_in table other ≡ Some class → text ≡ other
same_text [] text other class distinct is other_is = let never : None ≡ Some class = is in cc
same_text (entry ∷ table) text other class distinct is other_is =
    let both = and_parts (list_all (λ e. not (e.1 == entry.1)) table) (are_distinct table) distinct in
    elim (cases_Bool (bytes_eq text entry.0)) [
      | inl same ↦
          let here : Some entry.1 ≡ Some class = rw same at is in
          let one : entry.1 ≡ class = cc in
          elim (cases_Bool (bytes_eq other entry.0)) [
            | inl same_too ↦ (bytes_eq-Decides text entry.0).0 same ∙ sym ((bytes_eq-Decides other entry.0).0 same_too)
            | inr another ↦ absurd (not_again table other entry.1 both.0 (rw another at other_is ∙ ap Some (sym one)))
          ]
      | inr another ↦ elim (cases_Bool (bytes_eq other entry.0)) [
        | inl same_too ↦
            let here : Some entry.1 ≡ Some class = rw same_too at other_is in
            let one : entry.1 ≡ class = cc in
            absurd (not_again table text entry.1 both.0 (rw another at is ∙ ap Some (sym one)))
        | inr another_too ↦ same_text table text other class both.1 (rw another at is) (rw another_too at other_is)
      ]
    ]
  where
    not_again : (table : List (List ℕ × ℕ)) (bytes : List ℕ) (class : ℕ) → list_all (λ e. not (e.1 == class)) table ≡ true
        → class_in table bytes ≡ Some class → ⊥
    not_again table bytes class apart is =
        eqb-false class class (not-true (class == class) (class_passes table (λ k. not (k == class)) bytes class apart is)) refl
