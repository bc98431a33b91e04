-- The values of a letter in a store.
use Rattle.std.proofs.Common.{◌≡◌, ◌⊎◌, ℕ, zero, suc, ◌+◌, ◌<◌, ◌≤◌, Bool, false, cond, List, [], ◌∷◌, length, get_or, set, inl, inr, refl, ap, ◌∙◌, arith}
use Rattle.std.proofs.lemmas.List.{get_or-set_same, get_or-set_other, length-set}
use Rattle.dcv_replay.specs.Program.{with_letter}

pub length-with_letter : (slot : ℕ) (letter : List Bool) (store : List ℕ) → length (with_letter slot letter store) ≡ length store
length-with_letter slot [] store = refl
length-with_letter slot (value ∷ letter) store = length-with_letter (suc slot) letter (set store slot (cond value 1 0)) ∙ length-set store slot (cond value 1 0)

-- other slots stay
pub letter_elsewhere : (slot : ℕ) (letter : List Bool) (store : List ℕ) (other : ℕ) → (other < slot) ⊎ (slot + length letter ≤ other)
    → get_or (with_letter slot letter store) other 0 ≡ get_or store other 0
letter_elsewhere slot [] store other apart = refl
letter_elsewhere slot (value ∷ letter) store other apart =
    letter_elsewhere (suc slot) letter (set store slot (cond value 1 0)) other (elim apart [
      | inl before ↦ inl (omega (arith, before))
      | inr behind ↦ inr (omega (arith, behind))
    ])
    ∙ get_or-set_other store slot other (cond value 1 0) 0 (elim apart [
      | inl before ↦ (λ same. omega (arith, before, same))
      | inr behind ↦ (λ same. omega (arith, behind, same))
    ])

-- and each value is put in
pub letter_there : (slot : ℕ) (letter : List Bool) (store : List ℕ) → slot + length letter ≤ length store → (place : ℕ) → place < length letter
    → get_or (with_letter slot letter store) (slot + place) 0 ≡ cond (get_or letter place false) 1 0
letter_there slot [] store fits place below = absurd (omega arith)
letter_there slot (value ∷ letter) store fits zero below =
    letter_elsewhere (suc slot) letter (set store slot (cond value 1 0)) (slot + 0) (inl (omega arith))
    ∙ (let e : slot + 0 ≡ slot = omega arith in ap (λ (n : ℕ). get_or (set store slot (cond value 1 0)) n 0) e)
    ∙ get_or-set_same store slot (cond value 1 0) 0 (omega arith)
letter_there slot (value ∷ letter) store fits (suc place) below =
    (let e : slot + suc place ≡ suc slot + place = omega arith in ap (λ (n : ℕ). get_or (with_letter (suc slot) letter (set store slot (cond value 1 0))) n 0) e)
    ∙ letter_there (suc slot) letter (set store slot (cond value 1 0)) (omega (arith, length-set store slot (cond value 1 0))) place (omega arith)
