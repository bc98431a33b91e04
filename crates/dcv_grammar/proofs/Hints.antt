-- Laws of what is noted of symbols, at any hints.
use Rattle.std.proofs.Common.{◌≡◌, ◌⊎◌, ℕ, ◌+◌, Bool, true, false, ◌&&◌, cond, List, [], ◌∷◌, ◌++◌, refl, sym, ap, ◌∙◌, subst, inl, inr, add_assoc, arith}
use Rattle.dcv_grammar.specs.declared.grammar.Symbol.{Symbol}
use Rattle.dcv_grammar.specs.declared.grammar.Symbol.TheVariants.{Class, Rule}
use Rattle.dcv_grammar.specs.ClassSet.{is_apart, kept_if}
use Rattle.dcv_grammar.specs.Predictive.{Hint, hint_at, is_empty, first_of, never_behind, weight_of, is_guarded}
use Rattle.dcv_grammar.proofs.ClassSets.{IsIn, not_in_none, in_only, in_only_is, in_union_cases, in_left, in_right, not_in_both, in_kept, kept_in}

-- both of two tests
pub both_left : (a b : Bool) → (a && b) ≡ true → a ≡ true
both_left true b e = refl
both_left false b e = e

pub both_right : (a b : Bool) → (a && b) ≡ true → b ≡ true
both_right true b e = e
both_right false b e = cc

pub both : (a b : Bool) → a ≡ true → b ≡ true → (a && b) ≡ true
both true b e f = f
both false b e f = e

cond_full : (x y : Bool) (m n : ℕ) → (x && y) ≡ false → (y ≡ false → m ≡ n) → cond x m 0 ≡ cond x n 0
cond_full true y m n e h = h e
cond_full false y m n e h = refl

cond_empty : (x y : Bool) (m n k : ℕ) → (x && y) ≡ true → (y ≡ true → m ≡ n + k) → cond x m 0 ≡ cond x n 0 + k
cond_empty true y m n k e h = h e
cond_empty false y m n k e h = cc

-- the class may come first in what the symbols derive
pub IsFirst : List Hint → List Symbol → ℕ → Type 0
IsFirst hints symbols c = IsIn (first_of hints symbols) c

-- the class may never stand after the symbols
pub IsNeverBehind : List Hint → List Symbol → ℕ → Type 0
IsNeverBehind hints symbols c = IsIn (never_behind hints symbols) c

module _ (hints : List Hint) where
  pub first_in : (s : List Symbol) (c : ℕ) → IsFirst hints s c → IsIn (first_of hints s) c
  unfolding IsFirst
  first_in s c h = h

  pub never_in : (s : List Symbol) (c : ℕ) → IsNeverBehind hints s c → IsIn (never_behind hints s) c
  unfolding IsNeverBehind
  never_in s c h = h

  pub not_first : (c : ℕ) → ¬ IsFirst hints [] c
  unfolding IsFirst
  not_first c h = not_in_none c h

  pub first_class : (k : ℕ) (s : List Symbol) → IsFirst hints (Class k ∷ s) k
  unfolding IsFirst
  first_class k s = in_only k

  pub first_class_is : (k : ℕ) (s : List Symbol) (c : ℕ) → IsFirst hints (Class k ∷ s) c → c ≡ k
  unfolding IsFirst
  first_class_is k s c h = in_only_is k c h

  pub first_rule : (n : ℕ) (s : List Symbol) (c : ℕ) → IsIn (hint_at hints n).first c → IsFirst hints (Rule n ∷ s) c
  unfolding IsFirst
  first_rule n s c h = in_left (hint_at hints n).first (kept_if (hint_at hints n).empty (first_of hints s)) c h

  pub first_later : (n : ℕ) (s : List Symbol) (c : ℕ) → (hint_at hints n).empty ≡ true → IsFirst hints s c → IsFirst hints (Rule n ∷ s) c
  unfolding IsFirst
  first_later n s c e h =
      in_right (hint_at hints n).first (kept_if (hint_at hints n).empty (first_of hints s)) c (kept_in (hint_at hints n).empty (first_of hints s) c e h)

  pub first_cases : (n : ℕ) (s : List Symbol) (c : ℕ) → IsFirst hints (Rule n ∷ s) c → IsIn (hint_at hints n).first c ⊎ (((hint_at hints n).empty ≡ true) × IsFirst hints s c)
  unfolding IsFirst
  first_cases n s c h =
      elim (in_union_cases (hint_at hints n).first (kept_if (hint_at hints n).empty (first_of hints s)) c h) [
        | inl a ↦ inl a
        | inr b ↦ inr (in_kept (hint_at hints n).empty (first_of hints s) c b)
      ]

  pub empty_append : (a b : List Symbol) → is_empty hints (a ++ b) ≡ (is_empty hints a && is_empty hints b)
  empty_append [] b = refl
  empty_append (Class k ∷ a) b = refl
  empty_append (Rule n ∷ a) b = ap (λ v. (hint_at hints n).empty && v) (empty_append a b) ∙ regroup (hint_at hints n).empty (is_empty hints a) (is_empty hints b)
    where
      regroup : (x y z : Bool) → (x && (y && z)) ≡ ((x && y) && z)
      regroup true y z = refl
      regroup false y z = refl

  pub first_append : (a b : List Symbol) (c : ℕ) → IsFirst hints (a ++ b) c → IsFirst hints a c ⊎ ((is_empty hints a ≡ true) × IsFirst hints b c)
  first_append [] b c h = inr (refl, h)
  first_append (Class k ∷ a) b c h = inl (subst (λ x. IsFirst hints (Class k ∷ a) x) (sym (first_class_is k (a ++ b) c h)) (first_class k a))
  first_append (Rule n ∷ a) b c h =
      elim (first_cases n (a ++ b) c h) [
        | inl f ↦ inl (first_rule n a c f)
        | inr p ↦ elim (first_append a b c p.1) [
          | inl f ↦ inl (first_later n a c p.0 f)
          | inr q ↦ inr (both (hint_at hints n).empty (is_empty hints a) p.0 q.0, q.1)
        ]
      ]

  -- what may never stand after the last of the symbols, nor after one that only such follow as may derive nothing
  pub never_here : (n : ℕ) (s : List Symbol) (c : ℕ) → is_empty hints s ≡ true → IsIn (hint_at hints n).never c → IsNeverBehind hints (Rule n ∷ s) c
  unfolding IsNeverBehind
  never_here n s c e h =
      in_left (kept_if (is_empty hints s) (hint_at hints n).never) (never_behind hints s) c (kept_in (is_empty hints s) (hint_at hints n).never c e h)

  pub never_later : (n : ℕ) (s : List Symbol) (c : ℕ) → IsNeverBehind hints s c → IsNeverBehind hints (Rule n ∷ s) c
  unfolding IsNeverBehind
  never_later n s c h = in_right (kept_if (is_empty hints s) (hint_at hints n).never) (never_behind hints s) c h

  pub never_past : (k : ℕ) (s : List Symbol) (c : ℕ) → IsNeverBehind hints s c → IsNeverBehind hints (Class k ∷ s) c
  unfolding IsNeverBehind
  never_past k s c h = h

-- Each rule among the symbols is followed by nothing that may never stand after it.
pub IsGuarded : List Hint → List Symbol → Type 0
IsGuarded hints [] = Unit {0}
IsGuarded hints (Class k ∷ s) = IsGuarded hints s
IsGuarded hints (Rule n ∷ s) = ((c : ℕ) → IsIn (hint_at hints n).never c → IsFirst hints s c → ⊥) × IsGuarded hints s

module _ (hints : List Hint) where
  pub guarded_class : (k : ℕ) (s : List Symbol) → IsGuarded hints (Class k ∷ s) → IsGuarded hints s
  unfolding IsGuarded
  guarded_class k s h = h

  pub guarded_rule : (n : ℕ) (s : List Symbol) → IsGuarded hints (Rule n ∷ s) → ((c : ℕ) → IsIn (hint_at hints n).never c → IsFirst hints s c → ⊥) × IsGuarded hints s
  unfolding IsGuarded
  guarded_rule n s h = h

  pub guarded_one : (n : ℕ) → IsGuarded hints (Rule n ∷ [])
  unfolding IsGuarded
  guarded_one n = (λ c _ f. not_first hints c f, tt)

  pub guarded_by_test : (s : List Symbol) → is_guarded hints s ≡ true → IsGuarded hints s
  unfolding IsGuarded
  guarded_by_test [] e = tt
  guarded_by_test (Class k ∷ s) e = guarded_by_test s e
  guarded_by_test (Rule n ∷ s) e =
      let apart = both_left (is_apart (hint_at hints n).never (first_of hints s)) (is_guarded hints s) e in (
        λ c h f. not_in_both (hint_at hints n).never (first_of hints s) c apart h (first_in hints s c f),
        guarded_by_test s (both_right (is_apart (hint_at hints n).never (first_of hints s)) (is_guarded hints s) e),
      )

  -- guarded symbols before guarded ones that begin with nothing that may never stand after the first ones
  pub guarded_append : (a b : List Symbol) → IsGuarded hints a → IsGuarded hints b → ((c : ℕ) → IsNeverBehind hints a c → IsFirst hints b c → ⊥) → IsGuarded hints (a ++ b)
  unfolding IsGuarded
  guarded_append [] b ga gb h = gb
  guarded_append (Class k ∷ a) b ga gb h = guarded_append a b ga gb (λ c n f. h c (never_past hints k a c n) f)
  guarded_append (Rule n ∷ a) b ga gb h = (
    λ c m f. elim (first_append hints a b c f) [
      | inl g ↦ ga.0 c m g
      | inr p ↦ h c (never_here hints n a c p.0 m) p.1
    ],
    guarded_append a b ga.1 gb (λ c m f. h c (never_later hints n a c m) f),
  )

  pub weight_append_full : (a b : List Symbol) → is_empty hints a ≡ false → weight_of hints (a ++ b) ≡ weight_of hints a
  weight_append_full [] b e = cc
  weight_append_full (Class k ∷ a) b e = refl
  weight_append_full (Rule n ∷ a) b e =
      ap (λ w. (hint_at hints n).weight + w) (cond_full (hint_at hints n).empty (is_empty hints a) (weight_of hints (a ++ b)) (weight_of hints a) e (weight_append_full a b))

  pub weight_append_empty : (a b : List Symbol) → is_empty hints a ≡ true → weight_of hints (a ++ b) ≡ weight_of hints a + weight_of hints b
  weight_append_empty [] b e = omega arith
  weight_append_empty (Class k ∷ a) b e = cc
  weight_append_empty (Rule n ∷ a) b e =
      let w = (hint_at hints n).weight in
      ap (λ x. w + x) (cond_empty (hint_at hints n).empty (is_empty hints a) (weight_of hints (a ++ b)) (weight_of hints a) (weight_of hints b) e (weight_append_empty a b))
      ∙ sym (add_assoc w (cond (hint_at hints n).empty (weight_of hints a) 0) (weight_of hints b))
