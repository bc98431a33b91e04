-- Two functions of letters agree at each letter, or differ at one.
use Rattle.std.proofs.Common.{◌≡◌, ◌≢◌, ℕ, zero, suc, Bool, true, false, List, [], ◌∷◌, length, ◌⊎◌, inl, inr, arith}
use Rattle.std.proofs.lemmas.Bool.{cases_eq}

same_at_none : (f g : List Bool → ℕ) → f [] ≡ g [] → (letter : List Bool) → length letter ≡ 0 → f letter ≡ g letter
same_at_none f g same [] size = same
same_at_none f g same (value ∷ letter) size = absurd (omega arith)

same_at_some : (k : ℕ) (f g : List Bool → ℕ) → ((letter : List Bool) → length letter ≡ k → f (false ∷ letter) ≡ g (false ∷ letter))
    → ((letter : List Bool) → length letter ≡ k → f (true ∷ letter) ≡ g (true ∷ letter)) → (letter : List Bool) → length letter ≡ suc k → f letter ≡ g letter
same_at_some k f g at_false at_true [] size = absurd (omega arith)
same_at_some k f g at_false at_true (false ∷ letter) size = at_false letter (omega arith)
same_at_some k f g at_false at_true (true ∷ letter) size = at_true letter (omega arith)

-- a letter of this width at which they differ
abbrev pub Differ : ℕ → (List Bool → ℕ) → (List Bool → ℕ) → Type 0
Differ k f g = (letter : List Bool) × (length letter ≡ k) × (f letter ≢ g letter)

abbrev pub Agree : ℕ → (List Bool → ℕ) → (List Bool → ℕ) → Type 0
Agree k f g = (letter : List Bool) → length letter ≡ k → f letter ≡ g letter

pub differ_or_agree : (k : ℕ) (f g : List Bool → ℕ) → Differ k f g ⊎ Agree k f g
differ_or_agree zero f g = elim (cases_eq (f []) (g [])) [
  | inl same ↦ inr (same_at_none f g same)
  | inr differ ↦ inl ([], omega arith, differ)
]
differ_or_agree (suc k) f g = elim (differ_or_agree k (λ letter. f (false ∷ letter)) (λ letter. g (false ∷ letter))) [
  | inl one ↦ inl (false ∷ one.0, omega (arith, one.1), one.2)
  | inr at_false ↦ elim (differ_or_agree k (λ letter. f (true ∷ letter)) (λ letter. g (true ∷ letter))) [
    | inl one ↦ inl (true ∷ one.0, omega (arith, one.1), one.2)
    | inr at_true ↦ inr (same_at_some k f g at_false at_true)
  ]
]
