-- A store that mirrors the numbers of names, and what selections do to it.
--     IsApart names             no two places have one name
--     Mirrors names known ..    the store has the constants, and the numbers of the names that are known
use Rattle.std.proofs.Common.{◌≡◌, ◌≢◌, ℕ, ◌+◌, ◌<◌, ◌==◌, ◌||◌, Bool, true, false, cond, List, [], ◌∷◌, length, map, fold, get_or, set, inl, inr, refl, sym, ap, subst, ◌∙◌, arith}
use Rattle.std.specs.Prelude.{bytes_eq}
use Rattle.std.specs.List.{list_any, AllByRecursion}
use Rattle.std.proofs.lemmas.List.{get_or-set_same, get_or-set_other, length-set, set-set}
use Rattle.std.proofs.lemmas.Bool.{cases_Bool, false≢true, both_ways}
use Rattle.dcv_observer.specs.declared.conditions.Test.{Test}
use Rattle.dcv_observer.proofs.Naming.{Name, is_itself}
use Rattle.dcv_replay.specs.Program.{first_name, after_select}
use Rattle.dcv_replay.specs.Selecting.{select, copy, slot_of, test_select}

-- ---- one selection

pub through : (test : Bool) (f : ℕ → ℕ) (held otherwise : ℕ) → f (cond test held otherwise) ≡ cond test (f held) (f otherwise)
through true f held otherwise = refl
through false f held otherwise = refl

one_of : (test : Bool) (slot : ℕ) → cond test slot slot ≡ slot
one_of true slot = refl
one_of false slot = refl

pub both_are : (test : Bool) {a b c d : ℕ} → a ≡ c → b ≡ d → cond test a b ≡ cond test c d
both_are true first second = first
both_are false first second = second

pub selected : (store : List ℕ) (target tested number held otherwise : ℕ)
    → after_select store (select target tested number held otherwise) ≡ set store target (cond (get_or store tested 0 == number) (get_or store held 0) (get_or store otherwise 0))
selected store target tested number held otherwise =
    ap (λ (n : ℕ). set store target n) (through (get_or store tested 0 == number) (λ (slot : ℕ). get_or store slot 0) held otherwise)

pub copied : (store : List ℕ) (target from : ℕ) → after_select store (copy target from) ≡ set store target (get_or store from 0)
copied store target from = ap (λ (slot : ℕ). set store target (get_or store slot 0)) (one_of (get_or store 0 0 == 0) from)

-- ---- tests

any_more : (first rest : Bool) (was : ℕ) → cond rest 1 (cond first 1 was) ≡ cond (first || rest) 1 was
any_more true true was = refl
any_more true false was = refl
any_more false true was = refl
any_more false false was = refl

-- a slot into which the outcome of tests may be put
pub record IsFree (store : List ℕ) (slot : ℕ) : Type 0 where
  pub high : 1 < slot
  pub inside : slot < length store
  pub zero_is : get_or store 0 0 ≡ 0
  pub one_is : get_or store 1 0 ≡ 1

module _ (number : Test → ℕ) (met : Test → Bool) (store : List ℕ) (slot : ℕ) (free : IsFree store slot) where
  abbrev pub AreAsked : List Test → Type 0
  AreAsked tests = AllByRecursion (λ (test : Test). ((get_or store (slot_of test.name) 0 == number test) ≡ met test) × (slot_of test.name ≢ slot)) tests

  tests_answer : (tests : List Test) → AreAsked tests → (was : ℕ)
      → fold after_select (set store slot was) (map (λ (test : Test). test_select slot (slot_of test.name) (number test)) tests) ≡ set store slot (cond (list_any met tests) 1 was)
  tests_answer [] asked was = refl
  tests_answer (test ∷ tests) ((is, apart), asked) was =
      let tested : (get_or (set store slot was) (slot_of test.name) 0 == number test) ≡ met test =
      ap (λ (n : ℕ). n == number test) (get_or-set_other store slot (slot_of test.name) was 0 apart) ∙ is in
      let one : get_or (set store slot was) 1 0 ≡ 1 = get_or-set_other store slot 1 was 0 (λ same. omega (arith, same, free.high)) ∙ free.one_is in
      let same : get_or (set store slot was) slot 0 ≡ was = get_or-set_same store slot was 0 free.inside in
      let first : after_select (set store slot was) (test_select slot (slot_of test.name) (number test)) ≡ set store slot (cond (met test) 1 was) =
      selected (set store slot was) slot (slot_of test.name) (number test) 1 slot
      ∙ ap (λ (b : Bool). set (set store slot was) slot (cond b (get_or (set store slot was) 1 0) (get_or (set store slot was) slot 0))) tested
      ∙ ap (λ (n : ℕ). set (set store slot was) slot n) (both_are (met test) one same)
      ∙ set-set store slot was (cond (met test) 1 was) in
      ap (λ (store : List ℕ). fold after_select store (map (λ (test : Test). test_select slot (slot_of test.name) (number test)) tests)) first
      ∙ tests_answer tests asked (cond (met test) 1 was)
      ∙ ap (λ (n : ℕ). set store slot n) (any_more (met test) (list_any met tests) was)

  pub any_test : (tests : List Test) → AreAsked tests
      → fold after_select store (copy slot 0 ∷ map (λ (test : Test). test_select slot (slot_of test.name) (number test)) tests) ≡ set store slot (cond (list_any met tests) 1 0)
  any_test tests asked =
      ap (λ (store : List ℕ). fold after_select store (map (λ (test : Test). test_select slot (slot_of test.name) (number test)) tests))
      (copied store slot 0 ∙ ap (λ (n : ℕ). set store slot n) free.zero_is)
      ∙ tests_answer tests asked 0

pub any_map : {A B : Type 0} (p : B → Bool) (f : A → B) (xs : List A) → list_any (λ x. p (f x)) xs ≡ list_any p (map f xs)
any_map p f [] = refl
any_map p f (x ∷ xs) = ap (λ (b : Bool). p (f x) || b) (any_map p f xs)

-- ---- stores

abbrev pub IsApart : List Name → Type 0
IsApart names = (p q : ℕ) → p < length names → q < length names → bytes_eq (get_or names p []) (get_or names q []) ≡ true → p ≡ q

pub record Mirrors (names : List Name) (known : Name → Bool) (now : Name → ℕ) (store : List ℕ) : Type 0 where
  pub long : first_name + length names < length store
  pub literals : (number : ℕ) → number < first_name → get_or store number 0 ≡ number
  pub numbers : (place : ℕ) → place < length names → known (get_or names place []) ≡ true → get_or store (slot_of place) 0 ≡ now (get_or names place [])

was_known : (a b : Bool) → a ≡ false → (a || b) ≡ true → b ≡ true
was_known true b fails there = absurd (false≢true (sym fails))
was_known false b fails there = there

-- what names have after one was given a number
abbrev pub given : (Name → ℕ) → Name → ℕ → Name → ℕ
given now left number = λ name. cond (bytes_eq name left) number (now name)

module _ (names : List Name) (apart : IsApart names) where
  pub written : {known : Name → Bool} {now : Name → ℕ} {store : List ℕ} → Mirrors names known now store → (place number : ℕ) → place < length names
      → Mirrors names (λ name. bytes_eq name (get_or names place []) || known name) (given now (get_or names place []) number) (set store (slot_of place) number)
  written {known} {now} {store} mirrors place number below = record {
    long = omega (arith, length-set store (slot_of place) number, mirrors.long);
    literals = λ literal small. get_or-set_other store (slot_of place) literal number 0 (λ same. omega (arith, same, small)) ∙ mirrors.literals literal small;
    numbers = λ other within there. elim (cases_Bool (bytes_eq (get_or names other []) (get_or names place []))) [
      | inl same ↦
          let is : other ≡ place = apart other place within below same in
          ap (λ (at : ℕ). get_or (set store (slot_of place) number) (slot_of at) 0) is
          ∙ get_or-set_same store (slot_of place) number 0 (omega (arith, mirrors.long, below))
          ∙ sym (ap (λ (b : Bool). cond b number (now (get_or names other []))) same)
      | inr differ ↦
          get_or-set_other store (slot_of place) (slot_of other) number 0 (λ same. differ_at other place differ (omega (arith, same)))
          ∙ mirrors.numbers other within (was_known (bytes_eq (get_or names other []) (get_or names place [])) (known (get_or names other [])) differ there)
          ∙ sym (ap (λ (b : Bool). cond b number (now (get_or names other []))) differ)
    ];
  } where
    differ_at : (p q : ℕ) → bytes_eq (get_or names p []) (get_or names q []) ≡ false → p ≡ q → ⊥
    differ_at p q differ same = both_ways (bytes_eq (get_or names p []) (get_or names q [])) differ (subst (λ n. bytes_eq (get_or names p []) (get_or names n []) ≡ true) same (is_itself (get_or names p [])))

  -- fewer names are known
  pub fewer : {known less : Name → Bool} {now : Name → ℕ} {store : List ℕ} → Mirrors names known now store → ((name : Name) → less name ≡ true → known name ≡ true) → Mirrors names less now store
  fewer mirrors each = record { long = mirrors.long; literals = mirrors.literals; numbers = λ place within there. mirrors.numbers place within (each _ there) }
