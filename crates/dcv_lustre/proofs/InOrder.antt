-- The rules of names put the equations of a node in order.
use Rattle.std.proofs.Common.{◌≡◌, ℕ, ◌+◌, Bool, true, false, not, ◌&&◌, List, [], ◌∷◌, ◌++◌, length, map, take, inl, inr, refl, sym, ap, subst, ◌∙◌}
use Rattle.std.proofs.Common.{arith, append_assoc, length-append}
use Rattle.std.specs.Prelude.{bytes_eq}
use Rattle.std.specs.List.{list_all, flat_map, enumerate_from}
use Rattle.std.proofs.lemmas.List.{take_at}
use Rattle.std.proofs.lemmas.Bool.{or_from, or_left, or_right, or_cases, and_parts, not-true, false_from_ne_true, both_ways, false≢true}
use Rattle.dcv_observer.specs.Naming.{is_among, AreDistinct}
use Rattle.dcv_observer.proofs.Naming.{Name, is_itself, one_name, differs, among_append_left, among_append_right, among_append_cases, distinct_apart}
use Rattle.dcv_lustre.specs.Tree.{Kind, OfTruth, OfNumber, Item, Constant, Named, Condition, Holds, Equals, Arm, Test, Right, Delayed, Chosen, Tested}
use Rattle.dcv_lustre.specs.Tree.{Equation, Node}
use Rattle.dcv_lustre.specs.Meaning.{ok, local_names, names_of}
use Rattle.dcv_lustre.specs.Rules.{kind_of, declared, keeps_declared, keeps_name, keeps_item, keeps_condition, keeps_arm, keeps_right}
use Rattle.dcv_lustre.specs.Rules.{keeps_left, keeps_equation, keeps_equations, lefts_of, judged, IsWellNamed}
use Rattle.dcv_lustre.proofs.Runs.{ReadsItem, ReadsCondition, ReadsArms, ReadsTests, Reads, reads_also, IsOnNoLeft, IsInOrder}
use Rattle.dcv_lustre.proofs.OneTrace.{StandsInOrder}

abbrev AllKeep : List Bool → Type 0
AllKeep keeps = list_all (λ k. k) keeps ≡ true

keep_both : (xs ys : List Bool) → AllKeep (xs ++ ys) → AllKeep xs × AllKeep ys
keep_both [] ys h = (refl, h)
keep_both (x ∷ xs) ys h =
    let parts = and_parts x (list_all (λ k. k) (xs ++ ys)) h in
    let rest = keep_both xs ys parts.1 in
    let all : AllKeep (x ∷ xs) = rw (parts.0, rest.0) refl in
    (all, rest.1)

-- ---- declared names

module _ (node : Node) where
  distinct_behind : (front names : List Name) (place : ℕ) → front ++ names ≡ declared node → place ≡ length front
      → AllKeep (map (λ numbered. keeps_declared node numbered.0 numbered.1) (enumerate_from place names))
      → ((name : Name) → is_among names name ≡ true → is_among front name ≡ false) × AreDistinct names
  distinct_behind front [] place whole at h = (λ name none. absurd (false≢true none), tt)
  distinct_behind front (name ∷ names) place whole at h =
      let parts = and_parts _ _ h in
      let new = not-true _ (and_parts (not (is_among (take place (declared node)) name)) _ parts.0).0 in
      let beginning : take place (declared node) ≡ front =
      ap (λ (all : List Name). take place all) (sym whole) ∙ take_at front (name ∷ names) place (sym at) in
      let apart : is_among front name ≡ false = ap (λ (ns : List Name). is_among ns name) (sym beginning) ∙ new in
      let later = distinct_behind (front ++ name ∷ []) names (place + 1) (append_assoc front (name ∷ []) names ∙ whole) (omega (arith, at, length-append front (name ∷ []))) parts.1 in
      let once : is_among names name ≡ false =
      false_from_ne_true (is_among names name) (λ again.
      both_ways (is_among (front ++ name ∷ []) name) (later.0 name again) (among_append_right front (name ∷ []) name (or_left _ _ (is_itself name)))) in (
        λ other among.
            elim (or_cases (bytes_eq other name) (is_among names other) among) [
              | inl same ↦ subst (λ (n : Name). is_among front n ≡ false) (sym (one_name other name same)) apart
              | inr more ↦
                  false_from_ne_true (is_among front other) (λ before.
                  both_ways (is_among (front ++ name ∷ []) other) (later.0 other more) (among_append_left front (name ∷ []) other before))
            ],
        (once, later.1),
      )

-- ---- what is read

module _ (node : Node) (known : List Name) where
  abbrev IsKnown : Name → Type 0
  IsKnown name = is_among known name ≡ true

  known_name : (kind : Kind) (name : Name) → keeps_name node known kind name ≡ true → IsKnown name
  known_name kind name h = (and_parts _ _ h).0

  known_item : (kind : Kind) (item : Item) → keeps_item node known kind item ≡ true → ReadsItem IsKnown item
  known_item kind (Constant value) h = tt
  known_item kind (Named name) h = known_name kind name h

  known_condition : (condition : Condition) → keeps_condition node known condition ≡ true → ReadsCondition IsKnown condition
  known_condition (Holds name) h = known_name OfTruth name h
  known_condition (Equals name number) h = known_name OfNumber name h

  known_arms : (kind : Kind) (arms : List Arm) → AllKeep (flat_map (keeps_arm node known kind) arms) → ReadsArms IsKnown arms
  known_arms kind [] h = tt
  known_arms kind (arm ∷ arms) h =
      let condition = and_parts _ _ h in
      let item = and_parts _ _ condition.1 in
      (record { condition = known_condition arm.condition condition.0; item = known_item kind arm.item item.0 }, known_arms kind arms item.1)

  known_tests : (tests : List Test) → AllKeep (map (λ (test : Test). keeps_name node known OfNumber test.name) tests) → ReadsTests IsKnown tests
  known_tests [] h = tt
  known_tests (test ∷ tests) h =
      let parts = and_parts _ _ h in
      (known_name OfNumber test.name parts.0, known_tests tests parts.1)

  known_right : (kind : Kind) (right : Right) → AllKeep (keeps_right node known kind right) → Reads IsKnown right
  known_right kind (Delayed first source) h = tt
  known_right kind (Chosen arms otherwise) h =
      let parts = keep_both (flat_map (keeps_arm node known kind) arms) _ h in
      (known_arms kind arms parts.0, known_item kind otherwise (and_parts _ _ parts.1).0)
  known_right kind (Tested tests) h = known_tests tests h

-- ---- equations

module _ (node : Node) (distinct : AreDistinct (names_of node)) where
  abbrev AllKeepFrom : List Name → List Equation → Type 0
  AllKeepFrom earlier equations = AllKeep (keeps_equations node earlier equations)

  record Kept (earlier : List Name) (equation : Equation) (equations : List Equation) : Type 0 where
    is_local : is_among (ok ∷ local_names node) equation.left ≡ true
    is_new : is_among earlier equation.left ≡ false
    right : AllKeep (keeps_right node (node.inputs ++ earlier) (kind_of node equation.left) equation.right)
    others : AllKeepFrom (equation.left ∷ earlier) equations

  kept : (earlier : List Name) (equation : Equation) (equations : List Equation) → AllKeepFrom earlier (equation ∷ equations) → Kept earlier equation equations
  kept earlier equation equations h =
      let parts = keep_both (keeps_equation node earlier equation) (keeps_equations node (equation.left ∷ earlier) equations) h in
      let one = and_parts (keeps_left node earlier equation) _ parts.0 in
      let left = and_parts (is_among (ok ∷ local_names node) equation.left && not (is_among earlier equation.left)) _ one.0 in
      let names = and_parts (is_among (ok ∷ local_names node) equation.left) _ left.0 in
      record { is_local = names.0; is_new = not-true _ names.1; right = one.1; others = parts.1 }

  -- what is known before some equations is on the left of none of them
  known_is_free : (equations : List Equation) (earlier : List Name) → AllKeepFrom earlier equations
      → (name : Name) → is_among (node.inputs ++ earlier) name ≡ true → IsOnNoLeft equations name
  known_is_free [] earlier h name known = refl
  known_is_free (equation ∷ equations) earlier h name known =
      let k = kept earlier equation equations h in
      let other : (name ≡ equation.left) → ⊥ =
      λ same.
      elim (among_append_cases node.inputs earlier name known) [
        | inl input ↦
            both_ways (is_among node.inputs equation.left) (distinct_apart node.inputs _ distinct equation.left k.is_local)
            (subst (λ (n : Name). is_among node.inputs n ≡ true) same input)
        | inr before ↦
            both_ways (is_among earlier equation.left) k.is_new (subst (λ (n : Name). is_among earlier n ≡ true) same before)
      ] in
      let still : is_among (node.inputs ++ (equation.left ∷ earlier)) name ≡ true =
      elim (among_append_cases node.inputs earlier name known) [
        | inl input ↦ among_append_left node.inputs _ name input
        | inr before ↦ among_append_right node.inputs _ name (or_right _ _ before)
      ] in
      or_from (bytes_eq name equation.left) (is_among (lefts_of equations) name)
      (differs name equation.left other)
      (known_is_free equations (equation.left ∷ earlier) k.others name still)

  in_order : (equations : List Equation) (earlier : List Name) → AllKeepFrom earlier equations → IsInOrder equations
  in_order [] earlier h = tt
  in_order (equation ∷ equations) earlier h =
      let k = kept earlier equation equations h in (
        record {
          left = known_is_free equations (equation.left ∷ earlier) k.others equation.left (among_append_right node.inputs _ equation.left (or_left _ _ (is_itself equation.left)));
          reads = reads_also (IsKnown node (node.inputs ++ earlier)) (IsOnNoLeft (equation ∷ equations)) (λ name known. known_is_free (equation ∷ equations) earlier h name known) equation.right
              (known_right node (node.inputs ++ earlier) (kind_of node equation.left) equation.right k.right);
        },
        in_order equations (equation.left ∷ earlier) k.others,
      )

  left_is_local : (equations : List Equation) (earlier : List Name) → AllKeepFrom earlier equations
      → (name : Name) → is_among (lefts_of equations) name ≡ true → is_among (ok ∷ local_names node) name ≡ true
  left_is_local [] earlier h name among = absurd (false≢true among)
  left_is_local (equation ∷ equations) earlier h name among =
      let k = kept earlier equation equations h in
      elim (or_cases (bytes_eq name equation.left) (is_among (lefts_of equations) name) among) [
        | inl same ↦ subst (λ (n : Name). is_among (ok ∷ local_names node) n ≡ true) (sym (one_name name equation.left same)) k.is_local
        | inr more ↦ left_is_local equations (equation.left ∷ earlier) k.others name more
      ]

each_of_all : (p : Name → Bool) (names : List Name) → list_all p names ≡ true → (name : Name) → is_among names name ≡ true → p name ≡ true
each_of_all p [] h name among = absurd (false≢true among)
each_of_all p (n ∷ names) h name among =
    let parts = and_parts _ _ h in
    elim (or_cases (bytes_eq name n) (is_among names name) among) [
      | inl same ↦ ap p (one_name name n same) ∙ parts.0
      | inr more ↦ each_of_all p names parts.1 name more
    ]

pub stands_in_order : (node : Node) → IsWellNamed node → StandsInOrder node
unfolding judged
stands_in_order node h =
    let names = keep_both (map (λ numbered. keeps_declared node numbered.0 numbered.1) (enumerate_from 0 (declared node))) _ h in
    let equations = keep_both (keeps_equations node [] node.equations) _ names.1 in
    let distinct : AreDistinct (names_of node) = (distinct_behind node [] (declared node) 0 refl refl names.0).1.1 in
    let all = (and_parts _ _ equations.1).0 in
    record {
      distinct = distinct;
      order = in_order node distinct node.equations [] equations.0;
      inputs_free = λ name input. known_is_free node distinct node.equations [] equations.0 name (among_append_left node.inputs [] name input);
      others_set = λ name free other.
          false_from_ne_true (is_among (names_of node) name) (λ some.
          elim (among_append_cases node.inputs (ok ∷ local_names node) name some) [
            | inl input ↦ both_ways (is_among node.inputs name) other input
            | inr local ↦ both_ways (is_among (lefts_of node.equations) name) free (each_of_all (is_among (lefts_of node.equations)) (ok ∷ local_names node) all name local)
          ]);
      names_set = λ name none.
          false_from_ne_true (is_among (lefts_of node.equations) name) (λ some.
          both_ways (is_among (names_of node) name) none
          (among_append_right node.inputs _ name (left_is_local node distinct node.equations [] equations.0 name some)));
    }
