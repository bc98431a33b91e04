-- The joint list of several lists of names: what it has, how long it is, and that its names differ.
use Rattle.std.proofs.Common.{◌≡◌, ◌≢◌, ℕ, zero, suc, ◌<◌, ◌≤◌, Bool, true, false, List, [], ◌∷◌, ◌++◌, Some, None, length, get_or, refl, sym, ap, subst, ◌∙◌, arith, true≢false, length-append, append-nil}
use Rattle.std.specs.Prelude.{◌||◌, bytes_eq, nat_le, if◌then◌else◌}
use Rattle.std.specs.List.{AllPairs}
use Rattle.std.proofs.Math.ListN.{get_or-append}
use Rattle.std.proofs.Math.Seq.{get_or-append_seam}
use Rattle.std.proofs.lemmas.Bool.Decides.{nat_tests}
use Rattle.std.proofs.lemmas.List.{append_assoc}
use Rattle.std.proofs.lemmas.List.Folds.{list_any-append}
use Rattle.std.proofs.lemmas.List.Quantifiers.{all_pairs_push}
use Rattle.std.proofs.lemmas.Slice.Eq.{bytes_eq-Decides}
use Rattle.dcv_scope.specs.Names.{stands_in, texts}
use Rattle.dcv_syntax.specs.declared.names.Name.{Name}
use Rattle.dcv_joint.specs.Faults.{too_many_at}
use Rattle.dcv_joint.specs.Laws.{NamesFit, JointNamesDiffer, JointHasEach, JointOfOne}
use Rattle.dcv_joint.specs.Names.{with_name, with_new, joint_from, HasAll}

-- ---- names that stand in a list

or_true : (b : Bool) → (b || true) ≡ true
or_true true = refl
or_true false = refl

stands_append : (name : List ℕ) (names more : List (List ℕ)) → stands_in name (names ++ more) ≡ (stands_in name names || stands_in name more)
stands_append name names more = list_any-append (λ other. bytes_eq other name) names more

-- a name that is there stays
stands_on : (name other : List ℕ) (names : List (List ℕ)) → stands_in name names ≡ true → stands_in name (with_name names other) ≡ true
stands_on name other names is = by_test (stands_in other names)
  where
    by_test : (there : Bool) → stands_in name (if there then names else names ++ other ∷ []) ≡ true
    by_test true = is
    by_test false = stands_append name names (other ∷ []) ∙ ap (λ b. b || stands_in name (other ∷ [])) is

-- one that is added is there
added_stands : (name : List ℕ) (names : List (List ℕ)) → stands_in name (with_name names name) ≡ true
added_stands name names = by_test (stands_in name names) refl
  where
    by_test : (there : Bool) → stands_in name names ≡ there → stands_in name (if there then names else names ++ name ∷ []) ≡ true
    by_test true is = is
    by_test false is =
        let itself : stands_in name (name ∷ []) ≡ true = ap (λ b. b || false) ((bytes_eq-Decides name name).1 refl) in
        stands_append name names (name ∷ []) ∙ ap (λ b. stands_in name names || b) itself ∙ or_true (stands_in name names)

stands_with_new : (name : List ℕ) (names more : List (List ℕ)) → stands_in name names ≡ true → stands_in name (with_new names more) ≡ true
stands_with_new name names [] is = is
stands_with_new name names (other ∷ more) is = stands_with_new name (with_name names other) more (stands_on name other names is)

stands_in_joint : (name : List ℕ) (lists : List (List (List ℕ))) (names : List (List ℕ)) → stands_in name names ≡ true → stands_in name (joint_from names lists) ≡ true
stands_in_joint name [] names is = is
stands_in_joint name (list ∷ lists) names is = stands_in_joint name lists (with_new names list) (stands_with_new name names list is)

all_added : (own names : List (List ℕ)) → HasAll (with_new names own) own
all_added [] names = tt
all_added (name ∷ own) names = (stands_with_new name (with_name names name) own (added_stands name names), all_added own (with_name names name))

all_in_joint : (own : List (List ℕ)) (lists : List (List (List ℕ))) (names : List (List ℕ)) → HasAll names own → HasAll (joint_from names lists) own
all_in_joint [] lists names all = tt
all_in_joint (name ∷ own) lists names all = (stands_in_joint name lists names all.0, all_in_joint own lists names all.1)

each_from : (before after : List (List (List ℕ))) (own names : List (List ℕ)) → HasAll (joint_from names (before ++ own ∷ after)) own
each_from [] after own names = all_in_joint own after (with_new names own) (all_added own names)
each_from (list ∷ before) after own names = each_from before after own (with_new names list)

pub joint_has_each : JointHasEach
joint_has_each before after own = each_from before after own []

-- ---- names that differ

-- a name that does not stand in a list is none of it
is_none_of : (name : List ℕ) (names : List (List ℕ)) → stands_in name names ≡ false → (k : ℕ) (d : List ℕ) → k < length names → get_or names k d ≢ name
is_none_of name [] new k d lt same = absurd (omega (arith, lt))
is_none_of name (other ∷ names) new zero d lt same =
    let here : bytes_eq other name ≡ true = (bytes_eq-Decides other name).1 same in
    true≢false (sym (ap (λ b. b || stands_in name names) here) ∙ new)
is_none_of name (other ∷ names) new (suc k) d lt same = is_none_of name names (second (bytes_eq other name) (stands_in name names) new) k d (omega (arith, lt)) same
  where
    second : (a b : Bool) → (a || b) ≡ false → b ≡ false
    second true b is = absurd (true≢false is)
    second false b is = is

one_differs : (names : List (List ℕ)) (name : List ℕ) → AllPairs ◌≢◌ names → AllPairs ◌≢◌ (with_name names name)
one_differs names name differ = by_test (stands_in name names) refl
  where
    by_test : (there : Bool) → stands_in name names ≡ there → AllPairs ◌≢◌ (if there then names else names ++ name ∷ [])
    by_test true is = differ
    by_test false is = all_pairs_push ◌≢◌ names name differ (is_none_of name names is)

new_differ : (more names : List (List ℕ)) → AllPairs ◌≢◌ names → AllPairs ◌≢◌ (with_new names more)
new_differ [] names differ = differ
new_differ (name ∷ more) names differ = new_differ more (with_name names name) (one_differs names name differ)

joint_differ : (lists : List (List (List ℕ))) (names : List (List ℕ)) → AllPairs ◌≢◌ names → AllPairs ◌≢◌ (joint_from names lists)
joint_differ [] names differ = differ
joint_differ (list ∷ lists) names differ = joint_differ lists (with_new names list) (new_differ list names differ)

pub joint_names_differ : JointNamesDiffer
joint_names_differ lists = joint_differ lists [] (λ i j d lt within. absurd (omega (arith, within)))

-- ---- one list

none_stands : (name : List ℕ) (names : List (List ℕ)) → ((k : ℕ) (d : List ℕ) → k < length names → get_or names k d ≢ name) → stands_in name names ≡ false
none_stands name [] differ = refl
none_stands name (other ∷ names) differ = by_test (none_stands name names (λ k d lt. differ (suc k) d (omega (arith, lt)))) (bytes_eq other name) refl
  where
    by_test : stands_in name names ≡ false → (here : Bool) → bytes_eq other name ≡ here → (here || stands_in name names) ≡ false
    by_test later true same = absurd (differ 0 [] (omega arith) ((bytes_eq-Decides other name).0 same))
    by_test later false is = later

new_at_seam : (before : List (List ℕ)) (name : List ℕ) (names : List (List ℕ)) → AllPairs ◌≢◌ (before ++ name ∷ names) → stands_in name before ≡ false
new_at_seam before name names differ = none_stands name before (λ k d lt same.
    let within : length before < length (before ++ name ∷ names) = omega (arith, length-append before (name ∷ names)) in
    differ k (length before) d lt within (get_or-append before (name ∷ names) d k lt ∙ same ∙ sym (get_or-append_seam before name names d)))

all_new : (names before : List (List ℕ)) → AllPairs ◌≢◌ (before ++ names) → with_new before names ≡ before ++ names
all_new [] before differ = sym (append-nil before)
all_new (name ∷ names) before differ =
    let seam : (before ++ name ∷ []) ++ names ≡ before ++ name ∷ names = append_assoc before (name ∷ []) names in
    ap (λ b. with_new (if b then before else before ++ name ∷ []) names) (new_at_seam before name names differ)
    ∙ all_new names (before ++ name ∷ []) (subst (λ (all : List (List ℕ)). AllPairs ◌≢◌ all) (sym seam) differ)
    ∙ seam

pub joint_of_one : JointOfOne
joint_of_one names differ = all_new names [] differ

-- ---- how long it is

with_name-grows : (names : List (List ℕ)) (name : List ℕ) → length names ≤ length (with_name names name)
with_name-grows names name = by_test (stands_in name names)
  where
    by_test : (there : Bool) → length names ≤ length (if there then names else names ++ name ∷ [])
    by_test true = omega arith
    by_test false = omega (arith, length-append names (name ∷ []))

with_new-grows : (more names : List (List ℕ)) → length names ≤ length (with_new names more)
with_new-grows [] names = omega arith
with_new-grows (name ∷ more) names = omega (arith, with_name-grows names name, with_new-grows more (with_name names name))

module _ (most : ℕ) where
  fits : (more : List Name) (names : List (List ℕ)) → length names ≤ most → too_many_at most names more ≡ None → length (with_new names (texts more)) ≤ most
  fits [] names few none = few
  fits (name ∷ more) names few none = by_test (nat_le (length (with_name names name.text)) most) refl none (fits more (with_name names name.text))
    where
      by_test : (fit : Bool) → nat_le (length (with_name names name.text)) most ≡ fit
          → (if fit then too_many_at most (with_name names name.text) more else Some name.span.start) ≡ None
          → (length (with_name names name.text) ≤ most → too_many_at most (with_name names name.text) more ≡ None → length (with_new (with_name names name.text) (texts more)) ≤ most)
          → length (with_new (with_name names name.text) (texts more)) ≤ most
      by_test true is none later = let le : length (with_name names name.text) ≤ most = grind (arith, nat_tests) in later le none
      by_test false is none later = absurd (cc)

  none_beyond : (more : List Name) (names : List (List ℕ)) → length (with_new names (texts more)) ≤ most → too_many_at most names more ≡ None
  none_beyond [] names le = refl
  none_beyond (name ∷ more) names le =
      let few : length (with_name names name.text) ≤ most = omega (arith, le, with_new-grows (texts more) (with_name names name.text)) in
      let fit : nat_le (length (with_name names name.text)) most ≡ true = grind (arith, nat_tests) in
      ap (λ b. if b then too_many_at most (with_name names name.text) more else Some name.span.start) fit ∙ none_beyond more (with_name names name.text) le

pub names_fit : NamesFit
names_fit most names more few = (fits most more names few, none_beyond most more names)
