-- What the test says of a grammar that passes it.
use Rattle.std.proofs.Common.{◌≡◌, ◌⊎◌, ℕ, zero, suc, ◌<◌, ◌≤◌, Bool, true, false, ◌&&◌, ◌||◌, not, cond, List, [], ◌∷◌, length, map, Some, refl, sym, ap, ◌∙◌, subst, inl, inr, arith}
use Rattle.std.specs.Prelude.{◌==◌, nat_lt, nat_le, slice_get, Contains}
use Rattle.std.specs.List.{list_any, list_all}
use Rattle.std.proofs.lemmas.Bool.{ltb-true, leb-true}
use Rattle.dcv_grammar.specs.declared.grammar.Symbol.{Symbol}
use Rattle.dcv_grammar.specs.ClassSet.{ClassSet, none, union, is_within, is_apart, set_of}
use Rattle.dcv_grammar.specs.Grammar.{Alternative, Production, ContextFree, bodies}
use Rattle.dcv_grammar.specs.Picked.{picked}
use Rattle.dcv_grammar.specs.Predictive.{Hint, hint_at, is_empty, first_of, never_behind, weight_of, height_above, is_guarded, are_known, agrees, picks, all_classes, is_rule_predictive, are_rules_predictive, hints_of, IsPredictive}
use Rattle.dcv_grammar.proofs.ClassSets.{IsIn, in_left, in_right, in_within, not_in_both, in_set_of, set_of_in}
use Rattle.dcv_grammar.proofs.Hints.{both_left, both_right, IsFirst, IsNeverBehind, IsGuarded, first_in, never_in, guarded_by_test}

-- what is noted of a rule agrees with a body
pub record Agrees (h : List Hint) (hint : Hint) (body : List Symbol) : Type 0 where
  pub known : are_known (length h) body ≡ true
  pub empty : is_empty h body ≡ true → hint.empty ≡ true
  pub first : (c : ℕ) → IsFirst h body c → IsIn hint.first c
  pub never : (c : ℕ) → IsNeverBehind h body c → IsIn hint.never c
  pub guarded : IsGuarded h body
  pub weight : weight_of h body < hint.weight

-- what the test says of a rule
pub record RuleFacts (h : List Hint) (hint : Hint) (rule : Production) : Type 0 where
  pub agree : (body : List Symbol) → Contains (bodies rule) body → Agrees h hint body
  pub picks : (body : List Symbol) (c : ℕ) → Contains (bodies rule) body → IsFirst h body c → picked rule.alternatives rule.otherwise c ≡ body
  pub alone : (body : List Symbol) → Contains (bodies rule) body → is_empty h body ≡ true → body ≡ rule.otherwise
  pub never : is_empty h rule.otherwise ≡ true → (c : ℕ) → (picked rule.alternatives rule.otherwise c ≡ rule.otherwise) ⊎ IsIn hint.never c
  pub height : height_above h rule.otherwise ≤ hint.height

-- what the test says of a grammar
pub record Facts (g : ContextFree) (h : List Hint) : Type 0 where
  pub count : length h ≡ length g.productions
  pub start : g.start < length g.productions
  pub rules : (n : ℕ) (rule : Production) → slice_get g.productions n ≡ Some rule → RuleFacts h (hint_at h n) rule

-- the first element, or one of the others
pub contains_cases : {X : Type 0} (x : X) (xs : List X) (y : X) → Contains (x ∷ xs) y → (x ≡ y) ⊎ Contains xs y
contains_cases x xs y (zero, lt, e) = inl e
contains_cases x xs y (suc k, lt, e) = inr (k, omega arith, e)

pub not_contained : {X : Type 0} (y : X) → ¬ Contains [] y
not_contained y (k, lt, e) = omega arith

list_all_at : {X : Type 0} (test : X → Bool) (xs : List X) (y : X) → list_all test xs ≡ true → Contains xs y → test y ≡ true
list_all_at test [] y e h = absurd (not_contained y h)
list_all_at test (x ∷ xs) y e h =
    elim (contains_cases x xs y h) [
      | inl i ↦ subst (λ z. test z ≡ true) i (both_left (test x) (list_all test xs) e)
      | inr m ↦ list_all_at test xs y (both_right (test x) (list_all test xs) e) m
    ]

-- `not a || b`: b where a
implied : (a b : Bool) → (not a || b) ≡ true → a ≡ true → b ≡ true
implied true b e f = e
implied false b e f = cc

not_both : (a : Bool) → not a ≡ true → a ≡ true → ⊥
not_both true e f = cc
not_both false e f = cc

agrees_facts : (h : List Hint) (hint : Hint) (body : List Symbol) → agrees h hint body ≡ true → Agrees h hint body
agrees_facts h hint body e =
    let t1 = are_known (length h) body in
    let t2 = not (is_empty h body) || hint.empty in
    let t3 = is_within (first_of h body) hint.first in
    let t4 = is_within (never_behind h body) hint.never in
    let t5 = is_guarded h body in
    let t6 = nat_lt (weight_of h body) hint.weight in
    let e5 = both_left ((((t1 && t2) && t3) && t4) && t5) t6 e in
    let e4 = both_left (((t1 && t2) && t3) && t4) t5 e5 in
    let e3 = both_left ((t1 && t2) && t3) t4 e4 in
    let e2 = both_left (t1 && t2) t3 e3 in
    record {
      known = both_left t1 t2 e2;
      empty = implied (is_empty h body) hint.empty (both_right t1 t2 e2);
      first = λ c f. in_within (first_of h body) hint.first c (both_right (t1 && t2) t3 e3) (first_in h body c f);
      never = λ c f. in_within (never_behind h body) hint.never c (both_right ((t1 && t2) && t3) t4 e4) (never_in h body c f);
      guarded = guarded_by_test h body (both_right (((t1 && t2) && t3) && t4) t5 e5);
      weight = ltb-true (weight_of h body) hint.weight (both_right ((((t1 && t2) && t3) && t4) && t5) t6 e);
    }

-- a test is true, or it isn't
tested : (b : Bool) → (b ≡ true) ⊎ (b ≡ true → ⊥)
tested true = inl refl
tested false = inr (λ e. cc)

skipped : (b : Bool) (x y z : List Symbol) → (b ≡ true → ⊥) → y ≡ z → cond b x y ≡ z
skipped true x y z n e = absurd (n refl)
skipped false x y z n e = e

abbrev alternative_bodies : List Alternative → List (List Symbol)
alternative_bodies = map (λ choice. choice.body)

module _ (h : List Hint) where
  -- the parts of the test at the first alternative
  abbrev PicksFacts : ClassSet → Alternative → List Alternative → List Symbol → Type 0
  PicksFacts taken choice choices otherwise =
      (is_empty h choice.body ≡ true → ⊥)
      × (is_within (first_of h choice.body) (set_of choice.classes) ≡ true)
      × (is_apart taken (first_of h choice.body) ≡ true)
      × (picks h (union taken (set_of choice.classes)) choices otherwise ≡ true)

  picks_parts : (taken : ClassSet) (choice : Alternative) (choices : List Alternative) (otherwise : List Symbol) → picks h taken (choice ∷ choices) otherwise ≡ true → PicksFacts taken choice choices otherwise
  picks_parts taken choice choices otherwise e =
      let t1 = not (is_empty h choice.body) in
      let t2 = is_within (first_of h choice.body) (set_of choice.classes) in
      let t3 = is_apart taken (first_of h choice.body) in
      let t4 = picks h (union taken (set_of choice.classes)) choices otherwise in
      let e3 = both_left ((t1 && t2) && t3) t4 e in
      let e2 = both_left (t1 && t2) t3 e3 in
      (not_both (is_empty h choice.body) (both_left t1 t2 e2), both_right t1 t2 e2, both_right (t1 && t2) t3 e3, both_right ((t1 && t2) && t3) t4 e)

  -- the other body begins with no class that was taken
  otherwise_apart : (taken : ClassSet) (choices : List Alternative) (otherwise : List Symbol) (c : ℕ) → picks h taken choices otherwise ≡ true → IsFirst h otherwise c → ¬ IsIn taken c
  otherwise_apart taken [] otherwise c e f t = not_in_both taken (first_of h otherwise) c e t (first_in h otherwise c f)
  otherwise_apart taken (choice ∷ choices) otherwise c e f t =
      let p = picks_parts taken choice choices otherwise e in
      otherwise_apart (union taken (set_of choice.classes)) choices otherwise c p.3 f (in_left taken (set_of choice.classes) c t)

  otherwise_picked : (taken : ClassSet) (choices : List Alternative) (otherwise : List Symbol) (c : ℕ) → picks h taken choices otherwise ≡ true → IsFirst h otherwise c → picked choices otherwise c ≡ otherwise
  otherwise_picked taken [] otherwise c e f = refl
  otherwise_picked taken (choice ∷ choices) otherwise c e f =
      let p = picks_parts taken choice choices otherwise e in
      let more = union taken (set_of choice.classes) in
      skipped (list_any (λ k. k == c) choice.classes) choice.body (picked choices otherwise c) otherwise
      (λ i. otherwise_apart more choices otherwise c p.3 f (in_right taken (set_of choice.classes) c (in_set_of choice.classes c i)))
      (otherwise_picked more choices otherwise c p.3 f)

  choice_apart : (taken : ClassSet) (choices : List Alternative) (otherwise body : List Symbol) (c : ℕ) → picks h taken choices otherwise ≡ true → Contains (alternative_bodies choices) body → IsFirst h body c → ¬ IsIn taken c
  choice_apart taken [] otherwise body c e m f t = absurd (not_contained body m)
  choice_apart taken (choice ∷ choices) otherwise body c e m f t =
      let p = picks_parts taken choice choices otherwise e in
      elim (contains_cases choice.body (alternative_bodies choices) body m) [
        | inl i ↦ not_in_both taken (first_of h choice.body) c p.2 t (first_in h choice.body c (subst (λ b. IsFirst h b c) (sym i) f))
        | inr n ↦ choice_apart (union taken (set_of choice.classes)) choices otherwise body c p.3 n f (in_left taken (set_of choice.classes) c t)
      ]

  choice_picked : (taken : ClassSet) (choices : List Alternative) (otherwise body : List Symbol) (c : ℕ) → picks h taken choices otherwise ≡ true → Contains (alternative_bodies choices) body → IsFirst h body c → picked choices otherwise c ≡ body
  choice_picked taken [] otherwise body c e m f = absurd (not_contained body m)
  choice_picked taken (choice ∷ choices) otherwise body c e m f =
      let p = picks_parts taken choice choices otherwise e in
      let more = union taken (set_of choice.classes) in
      elim (contains_cases choice.body (alternative_bodies choices) body m) [
        | inl i ↦
            let first = in_within (first_of h choice.body) (set_of choice.classes) c p.1 (first_in h choice.body c (subst (λ b. IsFirst h b c) (sym i) f)) in
            ap (λ b. cond b choice.body (picked choices otherwise c)) (set_of_in choice.classes c first) ∙ i
        | inr n ↦
            skipped (list_any (λ k. k == c) choice.classes) choice.body (picked choices otherwise c) body
            (λ i. choice_apart more choices otherwise body c p.3 n f (in_right taken (set_of choice.classes) c (in_set_of choice.classes c i)))
            (choice_picked more choices otherwise body c p.3 n f)
      ]

  choice_full : (taken : ClassSet) (choices : List Alternative) (otherwise body : List Symbol) → picks h taken choices otherwise ≡ true → Contains (alternative_bodies choices) body → is_empty h body ≡ true → ⊥
  choice_full taken [] otherwise body e m t = absurd (not_contained body m)
  choice_full taken (choice ∷ choices) otherwise body e m t =
      let p = picks_parts taken choice choices otherwise e in
      elim (contains_cases choice.body (alternative_bodies choices) body m) [
        | inl i ↦ p.0 (subst (λ b. is_empty h b ≡ true) (sym i) t)
        | inr n ↦ choice_full (union taken (set_of choice.classes)) choices otherwise body p.3 n t
      ]

  -- a class picks the other body, or it is one of the choices'
  picked_cases : (choices : List Alternative) (otherwise : List Symbol) (c : ℕ) → (picked choices otherwise c ≡ otherwise) ⊎ IsIn (all_classes choices) c
  picked_cases [] otherwise c = inl refl
  picked_cases (choice ∷ choices) otherwise c =
      elim (tested (list_any (λ k. k == c) choice.classes)) [
        | inl i ↦ inr (in_left (set_of choice.classes) (all_classes choices) c (in_set_of choice.classes c i))
        | inr n ↦ elim (picked_cases choices otherwise c) [
          | inl e ↦ inl (skipped (list_any (λ k. k == c) choice.classes) choice.body (picked choices otherwise c) otherwise n e)
          | inr t ↦ inr (in_right (set_of choice.classes) (all_classes choices) c t)
        ]
      ]

  rule_facts : (hint : Hint) (rule : Production) → is_rule_predictive h hint rule ≡ true → RuleFacts h hint rule
  rule_facts hint rule e =
      let otherwise = rule.otherwise in
      let choices = rule.alternatives in
      let t1 = list_all (agrees h hint) (bodies rule) in
      let t2 = picks h none choices otherwise in
      let t3 = not (is_empty h otherwise) || is_within (all_classes choices) hint.never in
      let t4 = nat_le (height_above h otherwise) hint.height in
      let e3 = both_left ((t1 && t2) && t3) t4 e in
      let e2 = both_left (t1 && t2) t3 e3 in
      let p = both_right t1 t2 e2 in
      record {
        agree = λ body m. agrees_facts h hint body (list_all_at (agrees h hint) (bodies rule) body (both_left t1 t2 e2) m);
        picks = λ body c m f. elim (contains_cases otherwise (alternative_bodies choices) body m) [
          | inl i ↦ otherwise_picked none choices otherwise c p (subst (λ b. IsFirst h b c) (sym i) f) ∙ i
          | inr n ↦ choice_picked none choices otherwise body c p n f
        ];
        alone = λ body m t. elim (contains_cases otherwise (alternative_bodies choices) body m) [
          | inl i ↦ sym i
          | inr n ↦ absurd (choice_full none choices otherwise body p n t)
        ];
        never = λ t c. elim (picked_cases choices otherwise c) [
          | inl i ↦ inl i
          | inr n ↦ inr (in_within (all_classes choices) hint.never c (implied (is_empty h otherwise) (is_within (all_classes choices) hint.never) (both_right (t1 && t2) t3 e3) t) n)
        ];
        height = leb-true (height_above h otherwise) hint.height (both_right ((t1 && t2) && t3) t4 e);
      }

  rules_count : (hints : List Hint) (rules : List Production) → are_rules_predictive h hints rules ≡ true → length hints ≡ length rules
  rules_count [] [] e = refl
  rules_count (hint ∷ hints) (rule ∷ rules) e =
      ap suc (rules_count hints rules (both_right (is_rule_predictive h hint rule) (are_rules_predictive h hints rules) e))
  rules_count [] (rule ∷ rules) e = cc
  rules_count (hint ∷ hints) [] e = cc

  rules_facts : (hints : List Hint) (rules : List Production) → are_rules_predictive h hints rules ≡ true → (n : ℕ) (rule : Production) → slice_get rules n ≡ Some rule → RuleFacts h (hint_at hints n) rule
  rules_facts hints [] e n rule i = cc
  rules_facts [] (first ∷ rules) e n rule i = cc
  rules_facts (hint ∷ hints) (first ∷ rules) e zero rule i =
      let same : first ≡ rule = cc in
      subst (λ r. RuleFacts h hint r) same (rule_facts hint first (both_left (is_rule_predictive h hint first) (are_rules_predictive h hints rules) e))
  rules_facts (hint ∷ hints) (first ∷ rules) e (suc n) rule i =
      rules_facts hints rules (both_right (is_rule_predictive h hint first) (are_rules_predictive h hints rules) e) n rule i

-- the hints that the test computes
pub hints : ContextFree → List Hint
hints g = hints_of g.productions

pub facts : (g : ContextFree) → IsPredictive g → Facts g (hints g)
unfolding hints IsPredictive
facts g p =
    let h = hints_of g.productions in
    let start = both_left (nat_lt g.start (length h)) (are_rules_predictive h h g.productions) p in
    let rules = both_right (nat_lt g.start (length h)) (are_rules_predictive h h g.productions) p in
    let count = rules_count h h g.productions rules in
    record {
      count = count;
      start = subst (λ m. g.start < m) count (ltb-true g.start (length h) start);
      rules = rules_facts h h g.productions rules;
    }
