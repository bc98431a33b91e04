-- Classes of entries, split by a column of bits.
use Rattle.std.proofs.Common.{◌≡◌, ◌⊎◌, inl, inr, ℕ, ◌+◌, ◌<◌, ◌≤◌, Bool, List, [], ◌∷◌, ◌++◌, length, get_or, replicate, Option, None, Some, refl, ap, sym, ◌∙◌, subst, arith}
use Rattle.std.proofs.lemmas.Bool.{cases_lt}
use Rattle.std.proofs.lemmas.List.{length-append, length-replicate, get_or_push, get_or_append_left, get_or_past, get_or-replicate}
use Rattle.dcv_certify.specs.Split.{number_at, IsLeastWith, IsSplit, IsMoved, HasMoved}

pub record SplitSoFar (old : List ℕ) (column : List Bool) (place : ℕ) (new : List ℕ) (moved : List (Option ℕ)) : Type 0 where
  pub count : length new ≡ place
  pub within : place ≤ length old
  pub each : (entry : ℕ) → entry < place → IsLeastWith old column entry (number_at new entry)
  pub has : HasMoved old column place moved

abbrev nothing : Option ℕ
nothing = None

-- a clone of nothing is nothing
pub only_none : (P : Option ℕ → Type 0) → ((x : ℕ) → P (Some x) → ⊥) → (y : Option ℕ) → P y → y ≡ None
only_none P never None is = refl
only_none P never (Some x) is = absurd (never x is)

get_or-none : (count class : ℕ) → get_or (replicate count nothing) class nothing ≡ nothing
get_or-none count class =
    elim (cases_lt class count) [
      | inl less ↦ get_or-replicate count class nothing nothing less
      | inr past ↦ get_or_past (replicate count nothing) class nothing (omega (arith, past, length-replicate count nothing))
    ]

pub none_moved : (old : List ℕ) (column : List Bool) → (moved : List (Option ℕ)) → moved ≡ replicate (length old) nothing → SplitSoFar old column 0 [] moved
none_moved old column moved is = record {
  count = refl;
  within = omega arith;
  each = λ entry before. absurd (omega arith);
  has = record {
    count = ap length is ∙ length-replicate (length old) nothing;
    each = λ class within.
        subst (IsMoved old column 0 class) (sym (ap (λ (all : List (Option ℕ)). get_or all class None) is ∙ get_or-none (length old) class))
        (λ entry before of_class. absurd (omega (arith, before)));
  };
}

pub one_more_split : (old : List ℕ) (column : List Bool) (place : ℕ) (new : List ℕ) (moved again : List (Option ℕ)) (number : ℕ)
    → SplitSoFar old column place new moved → place < length old → IsLeastWith old column place number → HasMoved old column (place + 1) again
    → SplitSoFar old column (place + 1) (new ++ number ∷ []) again
one_more_split old column place new moved again number so_far inside least has = record {
  count = omega (arith, length-append new (number ∷ []), so_far.count);
  within = omega arith;
  each = λ entry before. by entry (cases_lt entry place) before;
  has = has;
}
  where
    by : (entry : ℕ) → (entry < place) ⊎ (place ≤ entry) → entry < place + 1 → IsLeastWith old column entry (get_or (new ++ number ∷ []) entry 0)
    by entry (inl less) before =
        subst (IsLeastWith old column entry) (sym (get_or_append_left new (number ∷ []) 0 entry (omega (arith, so_far.count)))) (so_far.each entry less)
    by entry (inr more) before =
        let same : place ≡ entry = omega arith in
        subst (λ n. IsLeastWith old column n (get_or (new ++ number ∷ []) n 0)) same
        (subst (IsLeastWith old column place) (sym (get_or_push new number 0 place so_far.count)) least)

pub all_split : (old : List ℕ) (column : List Bool) (place : ℕ) (new : List ℕ) (moved : List (Option ℕ)) → SplitSoFar old column place new moved → length old ≤ place
    → IsSplit old column new
all_split old column place new moved so_far done = record {
  count = omega (arith, so_far.count, so_far.within);
  each = λ entry within. so_far.each entry (omega arith);
}
