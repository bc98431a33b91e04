-- Numbers that stop at the greatest of their type are those of the exact ones, whatever is done with them.
use Rattle.std.proofs.Common.{◌≡◌, ℕ, zero, suc, ◌+◌, ◌-◌, ◌*◌, ◌^◌, ◌≤◌, max, List, [], ◌∷◌, Option, Some, None, map, refl, sym, ap, ◌∙◌, inl, inr}
use Rattle.std.proofs.Common.{mul-suc, mul-zero, mul_comm, eq-zero-or-pos, arith}
use Rattle.std.proofs.lemmas.Nat.{mul-le}
use Rattle.dcv_scope.specs.declared.measures.Measure.{Measure as Numbers}
use Rattle.dcv_scope.specs.declared.measures.Share.{Share}
use Rattle.dcv_scope.specs.declared.measures.MacroMeasure.{MacroMeasure}
use Rattle.dcv_scope.specs.Linear.{measure_with, capped, capped_numbers, capped_share, capped_macro}
use Rattle.dcv_scope.specs.Walk.{shares_beside, share_under, share_within, all_beside, constant, linear_beside, linear_under, linear_within}
use Rattle.dcv_scope.specs.Walk.{linear_with, linear_with_all, linear_at, first_linear, later_linear, all_in_turn}

-- ---- numbers

twice : (a : ℕ) → capped (capped a) ≡ capped a
twice a = omega arith

sum_first : (a b : ℕ) → capped (capped a + b) ≡ capped (a + b)
sum_first a b = omega arith

sum_second : (a b : ℕ) → capped (a + capped b) ≡ capped (a + b)
sum_second a b = omega arith

max_first : (a b : ℕ) → capped (max (capped a) b) ≡ capped (max a b)
max_first a b = omega arith

max_second : (a b : ℕ) → capped (max a (capped b)) ≡ capped (max a b)
max_second a b = omega arith

-- a product with a factor that is past the greatest number is past it too, unless it is nothing
past : (a b : ℕ) → capped (capped (suc a) * suc b) ≡ capped (suc a * suc b)
past a b =
    let small = mul-suc (capped (suc a)) b in
    let large = mul-suc (suc a) b in
    let grows : capped (suc a) * b ≤ suc a * b = mul-le (capped (suc a)) b (suc a) b (omega arith) (omega arith) in
    elim (eq-zero-or-pos (suc a - (2 ^ 32 - 1))) [
      | inl within ↦ (let same : capped (suc a) ≡ suc a = omega (arith, within) in ap (λ k. capped (k * suc b)) same)
      | inr beyond ↦ omega (arith, small, large, beyond)
    ]

product_first : (a b : ℕ) → capped (capped a * b) ≡ capped (a * b)
product_first zero b = refl
product_first (suc a) zero = ap capped (mul-zero (capped (suc a)) ∙ sym (mul-zero (suc a)))
product_first (suc a) (suc b) = past a b

product_second : (a b : ℕ) → capped (a * capped b) ≡ capped (a * b)
product_second a b = ap capped (mul_comm a (capped b)) ∙ product_first b a ∙ ap capped (mul_comm b a)

-- ---- shares

twice_share : (s : Option Share) → capped_share (capped_share s) ≡ capped_share s
twice_share None = refl
twice_share (Some s) = λ i. Some (record { uses = twice s.uses i; depth = twice s.depth i; quantifiers = twice s.quantifiers i })

twice_all : (ss : List (Option Share)) → map capped_share (map capped_share ss) ≡ map capped_share ss
twice_all [] = refl
twice_all (s ∷ ss) = λ i. twice_share s i ∷ twice_all ss i

shares_first : (s t : Option Share) → capped_share (shares_beside (capped_share s) t) ≡ capped_share (shares_beside s t)
shares_first None t = refl
shares_first (Some s) None = twice_share (Some s)
shares_first (Some s) (Some t) = λ i. Some (record { uses = sum_first s.uses t.uses i; depth = max_first s.depth t.depth i; quantifiers = max_first s.quantifiers t.quantifiers i })

shares_second : (s t : Option Share) → capped_share (shares_beside s (capped_share t)) ≡ capped_share (shares_beside s t)
shares_second None t = twice_share t
shares_second (Some s) None = refl
shares_second (Some s) (Some t) = λ i. Some (record { uses = sum_second s.uses t.uses i; depth = max_second s.depth t.depth i; quantifiers = max_second s.quantifiers t.quantifiers i })

all_first : (ss ts : List (Option Share)) → map capped_share (all_beside (map capped_share ss) ts) ≡ map capped_share (all_beside ss ts)
all_first [] ts = refl
all_first (s ∷ ss) [] = twice_all (s ∷ ss)
all_first (s ∷ ss) (t ∷ ts) = λ i. shares_first s t i ∷ all_first ss ts i

all_second : (ss ts : List (Option Share)) → map capped_share (all_beside ss (map capped_share ts)) ≡ map capped_share (all_beside ss ts)
all_second [] ts = twice_all ts
all_second (s ∷ ss) [] = refl
all_second (s ∷ ss) (t ∷ ts) = λ i. shares_second s t i ∷ all_second ss ts i

under_share : (deeper quantifiers : ℕ) (s : Option Share) → capped_share (share_under deeper quantifiers (capped_share s)) ≡ capped_share (share_under deeper quantifiers s)
under_share deeper quantifiers None = refl
under_share deeper quantifiers (Some s) = λ i. Some (record { uses = twice s.uses i; depth = sum_second deeper s.depth i; quantifiers = sum_second quantifiers s.quantifiers i })

under_all : (deeper quantifiers : ℕ) (ss : List (Option Share))
    → map capped_share (map (share_under deeper quantifiers) (map capped_share ss)) ≡ map capped_share (map (share_under deeper quantifiers) ss)
under_all deeper quantifiers [] = refl
under_all deeper quantifiers (s ∷ ss) = λ i. under_share deeper quantifiers s i ∷ under_all deeper quantifiers ss i

within_share : (s : Share) (t : Option Share) → capped_share (share_within s (capped_share t)) ≡ capped_share (share_within s t)
within_share s None = refl
within_share s (Some t) = λ i. Some (record { uses = product_second s.uses t.uses i; depth = sum_second s.depth t.depth i; quantifiers = sum_second s.quantifiers t.quantifiers i })

within_all : (s : Share) (ts : List (Option Share)) → map capped_share (map (share_within s) (map capped_share ts)) ≡ map capped_share (map (share_within s) ts)
within_all s [] = refl
within_all s (t ∷ ts) = λ i. within_share s t i ∷ within_all s ts i

abbrev capped_one : Share → Share
capped_one s = record { uses = capped s.uses; depth = capped s.depth; quantifiers = capped s.quantifiers }

of_share : (s : Share) (t : Option Share) → capped_share (share_within (capped_one s) t) ≡ capped_share (share_within s t)
of_share s None = refl
of_share s (Some t) = λ i. Some (record { uses = product_first s.uses t.uses i; depth = sum_first s.depth t.depth i; quantifiers = sum_first s.quantifiers t.quantifiers i })

of_all : (s : Share) (ts : List (Option Share)) → map capped_share (map (share_within (capped_one s)) ts) ≡ map capped_share (map (share_within s) ts)
of_all s [] = refl
of_all s (t ∷ ts) = λ i. of_share s t i ∷ of_all s ts i

-- ---- linear measures

pub twice_macro : (m : MacroMeasure) → capped_macro (capped_macro m) ≡ capped_macro m
unfolding capped_macro
twice_macro m = λ i. record {
  own = record { size = twice m.own.size i; depth = twice m.own.depth i; quantifiers = twice m.own.quantifiers i };
  shares = twice_all m.shares i;
}

pub beside_first : (m n : MacroMeasure) → capped_macro (linear_beside (capped_macro m) n) ≡ capped_macro (linear_beside m n)
unfolding capped_macro linear_beside
beside_first m n = λ i. record {
  own = record { size = sum_first m.own.size n.own.size i; depth = max_first m.own.depth n.own.depth i; quantifiers = max_first m.own.quantifiers n.own.quantifiers i };
  shares = all_first m.shares n.shares i;
}

pub beside_second : (m n : MacroMeasure) → capped_macro (linear_beside m (capped_macro n)) ≡ capped_macro (linear_beside m n)
unfolding capped_macro linear_beside
beside_second m n = λ i. record {
  own = record { size = sum_second m.own.size n.own.size i; depth = max_second m.own.depth n.own.depth i; quantifiers = max_second m.own.quantifiers n.own.quantifiers i };
  shares = all_second m.shares n.shares i;
}

pub beside_both : (m n : MacroMeasure) → capped_macro (linear_beside (capped_macro m) (capped_macro n)) ≡ capped_macro (linear_beside m n)
beside_both m n = beside_first m (capped_macro n) ∙ beside_second m n

pub under_capped : (nodes deeper quantifiers : ℕ) (m : MacroMeasure)
    → capped_macro (linear_under nodes deeper quantifiers (capped_macro m)) ≡ capped_macro (linear_under nodes deeper quantifiers m)
unfolding capped_macro linear_under
under_capped nodes deeper quantifiers m = λ i. record {
  own = record { size = sum_second nodes m.own.size i; depth = sum_second deeper m.own.depth i; quantifiers = sum_second quantifiers m.own.quantifiers i };
  shares = under_all deeper quantifiers m.shares i;
}

pub within_capped : (s : Share) (m : MacroMeasure) → capped_macro (linear_within s (capped_macro m)) ≡ capped_macro (linear_within s m)
unfolding capped_macro linear_within
within_capped s m = λ i. record {
  own = record { size = product_second s.uses m.own.size i; depth = sum_second s.depth m.own.depth i; quantifiers = sum_second s.quantifiers m.own.quantifiers i };
  shares = within_all s m.shares i;
}

of_capped : (s : Share) (m : MacroMeasure) → capped_macro (linear_within (capped_one s) m) ≡ capped_macro (linear_within s m)
unfolding capped_macro linear_within
of_capped s m = λ i. record {
  own = record { size = product_first s.uses m.own.size i; depth = sum_first s.depth m.own.depth i; quantifiers = sum_first s.quantifiers m.own.quantifiers i };
  shares = of_all s m.shares i;
}

-- ---- one after another

pub in_turn_capped : {X : Type 0} (f : X → MacroMeasure) (m : MacroMeasure) (xs : List X) → capped_macro (all_in_turn f (capped_macro m) xs) ≡ capped_macro (all_in_turn f m xs)
in_turn_capped f m [] = twice_macro m
in_turn_capped f m (x ∷ xs) =
    sym (in_turn_capped f (linear_beside (capped_macro m) (f x)) xs)
    ∙ ap (λ before. capped_macro (all_in_turn f before xs)) (beside_first m (f x))
    ∙ in_turn_capped f (linear_beside m (f x)) xs

with_first : (m : MacroMeasure) (s : Option Share) (a : MacroMeasure) → capped_macro (linear_with (capped_macro m) s a) ≡ capped_macro (linear_with m s a)
with_first m None a = twice_macro m
with_first m (Some s) a = beside_first m (linear_within s a)

with_of : (m : MacroMeasure) (s : Option Share) (a : MacroMeasure) → capped_macro (linear_with m (capped_share s) a) ≡ capped_macro (linear_with m s a)
with_of m None a = refl
with_of m (Some s) a =
    sym (beside_second m (linear_within (capped_one s) a))
    ∙ ap (λ n. capped_macro (linear_beside m n)) (of_capped s a)
    ∙ beside_second m (linear_within s a)

pub with_all_first : (m : MacroMeasure) (ss : List (Option Share)) (arguments : List MacroMeasure) → capped_macro (linear_with_all (capped_macro m) ss arguments) ≡ capped_macro (linear_with_all m ss arguments)
with_all_first m [] arguments = twice_macro m
with_all_first m (s ∷ ss) arguments =
    sym (with_all_first (linear_with (capped_macro m) s (first_linear arguments)) ss (later_linear arguments))
    ∙ ap (λ before. capped_macro (linear_with_all before ss (later_linear arguments))) (with_first m s (first_linear arguments))
    ∙ with_all_first (linear_with m s (first_linear arguments)) ss (later_linear arguments)

with_all_of : (m : MacroMeasure) (ss : List (Option Share)) (arguments : List MacroMeasure) → capped_macro (linear_with_all m (map capped_share ss) arguments) ≡ capped_macro (linear_with_all m ss arguments)
with_all_of m [] arguments = refl
with_all_of m (s ∷ ss) arguments =
    sym (with_all_first (linear_with m (capped_share s) (first_linear arguments)) (map capped_share ss) (later_linear arguments))
    ∙ ap (λ before. capped_macro (linear_with_all before (map capped_share ss) (later_linear arguments))) (with_of m s (first_linear arguments))
    ∙ with_all_first (linear_with m s (first_linear arguments)) (map capped_share ss) (later_linear arguments)
    ∙ with_all_of (linear_with m s (first_linear arguments)) ss (later_linear arguments)

pub constant_capped : (m : Numbers) → constant (measure_with (capped_numbers m)) ≡ capped_macro (constant (measure_with m))
unfolding capped_macro constant
constant_capped m = refl

at_parts : (m : MacroMeasure) (arguments : List MacroMeasure)
    → linear_at (capped_macro m) arguments ≡ linear_with_all (constant (measure_with (capped_numbers m.own))) (map capped_share m.shares) arguments
unfolding capped_macro
at_parts m arguments = refl

pub at_capped : (m : MacroMeasure) (arguments : List MacroMeasure) → capped_macro (linear_at (capped_macro m) arguments) ≡ capped_macro (linear_at m arguments)
at_capped m arguments =
    ap capped_macro (at_parts m arguments)
    ∙ ap (λ before. capped_macro (linear_with_all before (map capped_share m.shares) arguments)) (constant_capped m.own)
    ∙ with_all_first (constant (measure_with m.own)) (map capped_share m.shares) arguments
    ∙ with_all_of (constant (measure_with m.own)) m.shares arguments
