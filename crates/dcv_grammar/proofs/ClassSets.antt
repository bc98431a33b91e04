-- Laws of the sets of classes.
use Rattle.std.proofs.Common.{◌≡◌, ◌≢◌, ◌⊎◌, ℕ, max, Bool, true, false, ◌||◌, List, [], ◌∷◌, refl, sym, ap, ◌∙◌, subst, inl, inr, arith}
use Rattle.std.specs.Prelude.{◌==◌, nat_eq, bit_and, bit_or}
use Rattle.std.specs.Int.{bit_at}
use Rattle.std.specs.List.{list_any}
use Rattle.std.proofs.lemmas.Bool.{eqb-true, eq-eqb, false≢true}
use Rattle.std.proofs.lemmas.Bool.Decides.{nat_tests}
use Rattle.std.proofs.lemmas.Nat.Bits.{bit_at-zero, bit_at-lt, bit_at-pow_same, bit_at-pow_other, bit_at_or, bit_at_and}
use Rattle.dcv_grammar.specs.ClassSet.{ClassSet, none, only, union, is_within, is_apart, kept_if, set_of}

-- the class is in the set
pub IsIn : ClassSet → ℕ → Type 0
IsIn set class = bit_at set class ≡ 1

pub not_in_none : (c : ℕ) → ¬ IsIn none c
unfolding IsIn
not_in_none c h = absurd (omega (arith, bit_at-zero c))

pub in_only : (c : ℕ) → IsIn (only c) c
unfolding IsIn
in_only c = bit_at-pow_same c

one_cases : (k c : ℕ) → (c ≡ k) ⊎ (c ≢ k)
one_cases k c = grind (arith, nat_tests)

pub in_only_is : (k c : ℕ) → IsIn (only k) c → c ≡ k
unfolding IsIn
in_only_is k c h = elim (one_cases k c) [ inl e ↦ e | inr ne ↦ absurd (omega (arith, bit_at-pow_other k c ne)) ]

max_cases : (m n : ℕ) → max m n ≡ 1 → (m ≡ 1) ⊎ (n ≡ 1)
max_cases m n h = grind arith

pub in_union_cases : (a b c : ℕ) → IsIn (union a b) c → IsIn a c ⊎ IsIn b c
unfolding IsIn
in_union_cases a b c h = max_cases (bit_at a c) (bit_at b c) (sym (bit_at_or a b c) ∙ h)

pub in_left : (a b c : ℕ) → IsIn a c → IsIn (union a b) c
unfolding IsIn
in_left a b c h = omega (arith, bit_at_or a b c, bit_at-lt b c)

pub in_right : (a b c : ℕ) → IsIn b c → IsIn (union a b) c
unfolding IsIn
in_right a b c h = omega (arith, bit_at_or a b c, bit_at-lt a c)

pub in_within : (a b c : ℕ) → is_within a b ≡ true → IsIn a c → IsIn b c
in_within a b c w h = subst (λ s. IsIn s c) (eqb-true (bit_or a b) b w) (in_left a b c h)

pub not_in_both : (a b c : ℕ) → is_apart a b ≡ true → IsIn a c → ¬ IsIn b c
unfolding IsIn
not_in_both a b c w h k =
    let e = ap (λ s. bit_at s c) (eqb-true (bit_and a b) 0 w) in
    absurd (omega (arith, bit_at_and a b c, bit_at-zero c, e))

pub in_kept : (b : Bool) (s c : ℕ) → IsIn (kept_if b s) c → (b ≡ true) × IsIn s c
in_kept true s c h = (refl, h)
in_kept false s c h = absurd (not_in_none c h)

pub kept_in : (b : Bool) (s c : ℕ) → b ≡ true → IsIn s c → IsIn (kept_if b s) c
kept_in b s c e h = subst (λ v. IsIn (kept_if v s) c) (sym e) h

or_cases : (a b : Bool) → (a || b) ≡ true → (a ≡ true) ⊎ (b ≡ true)
or_cases true b h = inl refl
or_cases false b h = inr h

or_left : (a b : Bool) → a ≡ true → (a || b) ≡ true
or_left a b e = ap (λ v. v || b) e

or_right : (a b : Bool) → b ≡ true → (a || b) ≡ true
or_right true b e = refl
or_right false b e = e

-- the set of a list has what the list has
pub in_set_of : (cs : List ℕ) (c : ℕ) → list_any (λ k. k == c) cs ≡ true → IsIn (set_of cs) c
in_set_of [] c h = absurd (false≢true h)
in_set_of (k ∷ cs) c h =
    elim (or_cases (nat_eq k c) (list_any (λ k. k == c) cs) h) [
      | inl e ↦ in_left (only k) (set_of cs) c (subst (λ x. IsIn (only x) c) (sym (eqb-true k c e)) (in_only c))
      | inr r ↦ in_right (only k) (set_of cs) c (in_set_of cs c r)
    ]

pub set_of_in : (cs : List ℕ) (c : ℕ) → IsIn (set_of cs) c → list_any (λ k. k == c) cs ≡ true
set_of_in [] c h = absurd (not_in_none c h)
set_of_in (k ∷ cs) c h =
    elim (in_union_cases (only k) (set_of cs) c h) [
      | inl e ↦ or_left (nat_eq k c) (list_any (λ k. k == c) cs) (eq-eqb k c (sym (in_only_is k c e)))
      | inr r ↦ or_right (nat_eq k c) (list_any (λ k. k == c) cs) (set_of_in cs c r)
    ]
