-- What is done with linear measures is done with their values at arguments.
use Rattle.std.proofs.Common.{◌≡◌, ℕ, zero, suc, ◌+◌, ◌*◌, ◌<◌, ◌≤◌, max, false, List, [], ◌∷◌, ◌++◌, Option, Some, None, length, map, drop}
use Rattle.std.proofs.Common.{replicate, refl, sym, ap, ◌∙◌, add_assoc, zero-add, add-mul, mul-add, mul_assoc, one-mul, arith}
use Rattle.std.specs.Prelude.{slice_set}
use Rattle.std.specs.List.{slice_get}
use Rattle.dcv_scope.specs.declared.measures.Share.{Share}
use Rattle.dcv_scope.specs.declared.measures.MacroMeasure.{MacroMeasure}
use Rattle.dcv_scope.specs.Measures.{Measure, leaf, nothing, under, beside}
use Rattle.dcv_scope.specs.Linear.{measure_with, share_of, with_share, first_measure, later_measures, with_shares, measure_at, is_used}
use Rattle.dcv_scope.specs.Linear.{uses_parameter, capped_share, capped_macro}
use Rattle.dcv_scope.specs.Walk.{shares_beside, share_under, share_within, all_beside, constant, argument_at, linear_beside, linear_under}
use Rattle.dcv_scope.specs.Walk.{linear_within, linear_with, first_linear, later_linear, linear_with_all, linear_at}

-- ---- measures side by side

pub beside-assoc : (m n x : Measure) → beside m (beside n x) ≡ beside (beside m n) x
beside-assoc m n x = λ i. record {
  size = sym (add_assoc m.size n.size x.size) i;
  depth = greatest m.depth n.depth x.depth i;
  quantifiers = greatest m.quantifiers n.quantifiers x.quantifiers i;
}
  where
    greatest : (a b c : ℕ) → max a (max b c) ≡ max (max a b) c
    greatest a b c = omega arith

beside-last : (m x n : Measure) → beside (beside m x) n ≡ beside (beside m n) x
beside-last m x n = λ i. record {
  size = sum m.size x.size n.size i;
  depth = greatest m.depth x.depth n.depth i;
  quantifiers = greatest m.quantifiers x.quantifiers n.quantifiers i;
}
  where
    sum : (a b c : ℕ) → a + b + c ≡ a + c + b
    sum a b c = omega arith

    greatest : (a b c : ℕ) → max (max a b) c ≡ max (max a c) b
    greatest a b c = omega arith

beside-middle : (m x n y : Measure) → beside (beside m x) (beside n y) ≡ beside (beside m n) (beside x y)
beside-middle m x n y = λ i. record {
  size = sum m.size x.size n.size y.size i;
  depth = greatest m.depth x.depth n.depth y.depth i;
  quantifiers = greatest m.quantifiers x.quantifiers n.quantifiers y.quantifiers i;
}
  where
    sum : (a b c d : ℕ) → a + b + (c + d) ≡ a + c + (b + d)
    sum a b c d = omega arith

    greatest : (a b c d : ℕ) → max (max a b) (max c d) ≡ max (max a c) (max b d)
    greatest a b c d = omega arith

pub beside-nothing : (m : Measure) → m ≡ beside m nothing
beside-nothing m = λ i. record { size = sum m.size i; depth = greatest m.depth i; quantifiers = greatest m.quantifiers i }
  where
    sum : (a : ℕ) → a ≡ a + 0
    sum a = omega arith

    greatest : (a : ℕ) → a ≡ max a 0
    greatest a = omega arith

pub nothing-beside : (m : Measure) → beside nothing m ≡ m
nothing-beside m = λ i. record { size = zero-add m.size i; depth = greatest m.depth i; quantifiers = greatest m.quantifiers i }
  where
    greatest : (a : ℕ) → max 0 a ≡ a
    greatest a = omega arith

-- ---- constants and arguments

without_shares : (k : ℕ) (m : Measure) (arguments : List Measure) → with_shares m (replicate k None) arguments ≡ m
without_shares zero m arguments = refl
without_shares (suc k) m arguments = without_shares k m (later_measures arguments)

pub at-constant : (m : Measure) (arguments : List Measure) → measure_at (constant m) arguments ≡ m
unfolding constant
at-constant m arguments = without_shares 8 m arguments

abbrev once : Share
once = record { uses = 1; depth = 0; quantifiers = 0 }

of-once : (m : Measure) → beside nothing (share_of once m) ≡ m
of-once m = λ i. record { size = sum m.size i; depth = greatest m.depth i; quantifiers = greatest m.quantifiers i }
  where
    sum : (a : ℕ) → 0 + 1 * a ≡ a
    sum a = zero-add (1 * a) ∙ one-mul a

    greatest : (a : ℕ) → max 0 (0 + a) ≡ a
    greatest a = omega arith

one_share : (k j : ℕ) (arguments : List Measure) → j < k → with_shares nothing (slice_set (replicate k None) j (Some once)) arguments ≡ first_measure (drop j arguments)
one_share zero j arguments lt = absurd (omega (arith, lt))
one_share (suc k) zero arguments lt =
    without_shares k (beside nothing (share_of once (first_measure arguments))) (later_measures arguments) ∙ of-once (first_measure arguments)
one_share (suc k) (suc j) [] lt = one_share k j [] (omega (arith, lt)) ∙ none_left j
  where
    none_left : (j : ℕ) → first_measure (drop j []) ≡ leaf
    none_left zero = refl
    none_left (suc j) = refl
one_share (suc k) (suc j) (a ∷ arguments) lt = one_share k j arguments (omega (arith, lt))

pub at-argument : (j : ℕ) (arguments : List Measure) → j < 8 → measure_at (argument_at j) arguments ≡ first_measure (drop j arguments)
unfolding argument_at
at-argument j arguments lt = one_share 8 j arguments lt

-- ---- deeper

abbrev raised : ℕ → ℕ → ℕ → Measure → Measure
raised nodes deeper quantifiers m = record { size = nodes + m.size; depth = deeper + m.depth; quantifiers = quantifiers + m.quantifiers }

deeper-max : (d a b c : ℕ) → d + max a (b + c) ≡ max (d + a) (d + b + c)
deeper-max d a b c = omega arith

share-raised : (n d q : ℕ) (m : Measure) (s : Option Share) (a : Measure) → raised n d q (with_share m s a) ≡ with_share (raised n d q m) (share_under d q s) a
share-raised n d q m None a = refl
share-raised n d q m (Some s) a = λ i. record {
  size = sym (add_assoc n m.size (s.uses * a.size)) i;
  depth = deeper-max d m.depth s.depth a.depth i;
  quantifiers = deeper-max q m.quantifiers s.quantifiers a.quantifiers i;
}

shares-raised : (n d q : ℕ) (ss : List (Option Share)) (m : Measure) (arguments : List Measure)
    → with_shares (raised n d q m) (map (share_under d q) ss) arguments ≡ raised n d q (with_shares m ss arguments)
shares-raised n d q [] m arguments = refl
shares-raised n d q (s ∷ ss) m arguments =
    ap (λ x. with_shares x (map (share_under d q) ss) (later_measures arguments)) (sym (share-raised n d q m s (first_measure arguments)))
    ∙ shares-raised n d q ss (with_share m s (first_measure arguments)) (later_measures arguments)

at-under : (n d q : ℕ) (m : MacroMeasure) (arguments : List Measure) → measure_at (linear_under n d q m) arguments ≡ raised n d q (measure_at m arguments)
unfolding linear_under
at-under n d q m arguments = shares-raised n d q m.shares (measure_with m.own) arguments

pub under_at : (n d : ℕ) (m : MacroMeasure) (arguments : List Measure) (x : Measure) → measure_at m arguments ≡ x → measure_at (linear_under n d 0 m) arguments ≡ under n d x
under_at n d m arguments x e =
    at-under n d 0 m arguments
    ∙ (λ i. record { size = n + (e i).size; depth = d + (e i).depth; quantifiers = zero-add (measure_at m arguments).quantifiers i })
    ∙ (λ i. record { size = n + x.size; depth = d + x.depth; quantifiers = (e i).quantifiers })

pub quantified_at : (n d : ℕ) (m : MacroMeasure) (arguments : List Measure) (x : Measure) → measure_at m arguments ≡ x
    → measure_at (linear_under n d 1 m) arguments ≡ record { size = n + x.size; depth = d + x.depth; quantifiers = 1 + x.quantifiers }
quantified_at n d m arguments x e = at-under n d 1 m arguments ∙ ap (raised n d 1) e

-- ---- side by side

shares-of : (s t : Share) (a : Measure)
    → beside (share_of s a) (share_of t a) ≡ share_of (record { uses = s.uses + t.uses; depth = max s.depth t.depth; quantifiers = max s.quantifiers t.quantifiers }) a
shares-of s t a = λ i. record {
  size = sym (add-mul s.uses t.uses a.size) i;
  depth = greatest s.depth t.depth a.depth i;
  quantifiers = greatest s.quantifiers t.quantifiers a.quantifiers i;
}
  where
    greatest : (x y z : ℕ) → max (x + z) (y + z) ≡ max x y + z
    greatest x y z = omega arith

share-beside : (m n : Measure) (s t : Option Share) (a : Measure) → beside (with_share m s a) (with_share n t a) ≡ with_share (beside m n) (shares_beside s t) a
share-beside m n None None a = refl
share-beside m n None (Some t) a = beside-assoc m n (share_of t a)
share-beside m n (Some s) None a = beside-last m (share_of s a) n
share-beside m n (Some s) (Some t) a = beside-middle m (share_of s a) n (share_of t a) ∙ ap (beside (beside m n)) (shares-of s t a)

left-beside : (m n : Measure) (t : Option Share) (a : Measure) → beside m (with_share n t a) ≡ with_share (beside m n) t a
left-beside m n None a = refl
left-beside m n (Some t) a = beside-assoc m n (share_of t a)

right-beside : (m n : Measure) (s : Option Share) (a : Measure) → beside (with_share m s a) n ≡ with_share (beside m n) s a
right-beside m n None a = refl
right-beside m n (Some s) a = beside-last m (share_of s a) n

all-left : (ts : List (Option Share)) (m n : Measure) (arguments : List Measure) → beside m (with_shares n ts arguments) ≡ with_shares (beside m n) ts arguments
all-left [] m n arguments = refl
all-left (t ∷ ts) m n arguments =
    all-left ts m (with_share n t (first_measure arguments)) (later_measures arguments)
    ∙ ap (λ x. with_shares x ts (later_measures arguments)) (left-beside m n t (first_measure arguments))

all-right : (ss : List (Option Share)) (m n : Measure) (arguments : List Measure) → beside (with_shares m ss arguments) n ≡ with_shares (beside m n) ss arguments
all-right [] m n arguments = refl
all-right (s ∷ ss) m n arguments =
    all-right ss (with_share m s (first_measure arguments)) n (later_measures arguments)
    ∙ ap (λ x. with_shares x ss (later_measures arguments)) (right-beside m n s (first_measure arguments))

all-both : (ss ts : List (Option Share)) (m n : Measure) (arguments : List Measure)
    → with_shares (beside m n) (all_beside ss ts) arguments ≡ beside (with_shares m ss arguments) (with_shares n ts arguments)
all-both [] ts m n arguments = sym (all-left ts m n arguments)
all-both (s ∷ ss) [] m n arguments = sym (all-right (s ∷ ss) m n arguments)
all-both (s ∷ ss) (t ∷ ts) m n arguments =
    let a = first_measure arguments in
    ap (λ x. with_shares x (all_beside ss ts) (later_measures arguments)) (sym (share-beside m n s t a))
    ∙ all-both ss ts (with_share m s a) (with_share n t a) (later_measures arguments)

pub at-beside : (m n : MacroMeasure) (arguments : List Measure) → measure_at (linear_beside m n) arguments ≡ beside (measure_at m arguments) (measure_at n arguments)
unfolding linear_beside
at-beside m n arguments = all-both m.shares n.shares (measure_with m.own) (measure_with n.own) arguments

-- ---- a share

of-with : (s : Share) (m : Measure) (t : Option Share) (a : Measure) → share_of s (with_share m t a) ≡ with_share (share_of s m) (share_within s t) a
of-with s m None a = refl
of-with s m (Some t) a = λ i. record {
  size = (mul-add s.uses m.size (t.uses * a.size) ∙ ap (λ k. s.uses * m.size + k) (sym (mul_assoc s.uses t.uses a.size))) i;
  depth = deeper-max s.depth m.depth t.depth a.depth i;
  quantifiers = deeper-max s.quantifiers m.quantifiers t.quantifiers a.quantifiers i;
}

of-all : (s : Share) (ts : List (Option Share)) (m : Measure) (arguments : List Measure)
    → with_shares (share_of s m) (map (share_within s) ts) arguments ≡ share_of s (with_shares m ts arguments)
of-all s [] m arguments = refl
of-all s (t ∷ ts) m arguments =
    ap (λ x. with_shares x (map (share_within s) ts) (later_measures arguments)) (sym (of-with s m t (first_measure arguments)))
    ∙ of-all s ts (with_share m t (first_measure arguments)) (later_measures arguments)

at-within : (s : Share) (m : MacroMeasure) (arguments : List Measure) → measure_at (linear_within s m) arguments ≡ share_of s (measure_at m arguments)
unfolding linear_within
at-within s m arguments = of-all s m.shares (measure_with m.own) arguments

-- ---- at arguments that are linear themselves

module _ (outer : List Measure) where
  abbrev pub values : List MacroMeasure → List Measure
  values = map (λ (m : MacroMeasure). measure_at m outer)

  first-value : (arguments : List MacroMeasure) → measure_at (first_linear arguments) outer ≡ first_measure (values arguments)
  first-value [] = at-constant leaf outer
  first-value (m ∷ arguments) = refl

  later-value : (arguments : List MacroMeasure) → values (later_linear arguments) ≡ later_measures (values arguments)
  later-value [] = refl
  later-value (m ∷ arguments) = refl

  at-with : (m : MacroMeasure) (s : Option Share) (a : MacroMeasure) → measure_at (linear_with m s a) outer ≡ with_share (measure_at m outer) s (measure_at a outer)
  at-with m None a = refl
  at-with m (Some s) a = at-beside m (linear_within s a) outer ∙ ap (beside (measure_at m outer)) (at-within s a outer)

  at-all : (ss : List (Option Share)) (m : MacroMeasure) (arguments : List MacroMeasure) → measure_at (linear_with_all m ss arguments) outer ≡ with_shares (measure_at m outer) ss (values arguments)
  at-all [] m arguments = refl
  at-all (s ∷ ss) m arguments =
      at-all ss (linear_with m s (first_linear arguments)) (later_linear arguments)
      ∙ (λ i. with_shares (at-with m s (first_linear arguments) i) ss (later-value arguments i))
      ∙ ap (λ a. with_shares (with_share (measure_at m outer) s a) ss (later_measures (values arguments))) (first-value arguments)

  pub at-linear : (m : MacroMeasure) (arguments : List MacroMeasure) → measure_at (linear_at m arguments) outer ≡ measure_at m (values arguments)
  at-linear m arguments =
      at-all m.shares (constant (measure_with m.own)) arguments
      ∙ ap (λ x. with_shares x m.shares (values arguments)) (at-constant (measure_with m.own) outer)

-- ---- what is not used

without_share : (ss : List (Option Share)) (before after : List Measure) (j : ℕ) (m one other : Measure) → length before ≡ j
    → is_used (slice_get (map capped_share ss) j) ≡ false → with_shares m ss (before ++ one ∷ after) ≡ with_shares m ss (before ++ other ∷ after)
without_share [] before after j m one other at unused = refl
without_share (None ∷ ss) [] after j m one other at unused = refl
without_share (Some s ∷ ss) [] after zero m one other at unused = absurd (cc)
without_share (Some s ∷ ss) [] after (suc j) m one other at unused = absurd (omega (arith, at))
without_share (s ∷ ss) (b ∷ before) after zero m one other at unused = absurd (omega (arith, at))
without_share (s ∷ ss) (b ∷ before) after (suc j) m one other at unused =
    without_share ss before after j (with_share m s b) one other (omega (arith, at)) unused

pub not_used : (m : MacroMeasure) (j : ℕ) → uses_parameter (capped_macro m) j ≡ false
    → (before : List Measure) → length before ≡ j → (one other : Measure) (after : List Measure) → measure_at m (before ++ one ∷ after) ≡ measure_at m (before ++ other ∷ after)
unfolding capped_macro
not_used m j unused before at one other after = without_share m.shares before after j (measure_with m.own) one other at unused

-- ---- what does not depend on arguments is its own

at_least : (ss : List (Option Share)) (m : Measure) (arguments : List Measure) → m.depth ≤ (with_shares m ss arguments).depth
at_least [] m arguments = omega arith
at_least (None ∷ ss) m arguments = at_least ss m (later_measures arguments)
at_least (Some s ∷ ss) m arguments =
    let more = at_least ss (beside m (share_of s (first_measure arguments))) (later_measures arguments) in
    omega (arith, more)

own_alone : (ss : List (Option Share)) (m x : Measure) → ((arguments : List Measure) → with_shares m ss arguments ≡ x) → m ≡ x
own_alone [] m x same = same []
own_alone (None ∷ ss) m x same = own_alone ss m x (λ arguments. same (leaf ∷ arguments))
own_alone (Some s ∷ ss) m x same =
    let deep : Measure = record { size = 0; depth = suc x.depth; quantifiers = 0 } in
    let least = at_least ss (beside m (share_of s deep)) [] in
    let here = ap (λ (y : Measure). y.depth) (same (deep ∷ [])) in
    absurd (omega (arith, least, here))

pub own_measure : (m : MacroMeasure) (x : Measure) → ((arguments : List Measure) → measure_at m arguments ≡ x) → measure_with m.own ≡ x
own_measure m x same = own_alone m.shares (measure_with m.own) x same
