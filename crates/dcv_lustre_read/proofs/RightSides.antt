-- One more test of a right side, and one more arm.
use Rattle.std.proofs.Common.{◌≡◌, ℕ, ◌≤◌, Bool, true, List, [], ◌∷◌, ◌++◌, length, map, drop, Option, sym, ap, subst, ◌∙◌, append_assoc, Vec, Global}
use Rattle.std.specs.List.{flat_map}
use Rattle.std.proofs.lemmas.List.{at_drop_all, append-nil}
use Rattle.dcv_lexer.specs.Cuts.{Token}
use Rattle.dcv_observer.specs.Conditions.{Names, seen_test as test_seen}
use Rattle.dcv_observer.specs.declared.conditions.Test.{Test as CodeTest}
use Rattle.dcv_observer.specs.declared.fault.ObsFault.{ObsFault}
use Rattle.dcv_lustre.specs.declared.node.Arm.{Arm as CodeArm}
use Rattle.dcv_lustre.specs.Tree.{Kind, OfNumber, Arm, Test, Node, Chosen}
use Rattle.dcv_lustre.specs.Meaning.{names_of}
use Rattle.dcv_lustre.specs.Placed.{test_of, arm_of, right_of, item_at}
use Rattle.dcv_lustre.specs.Rules.{keeps_name, keeps_arm, keeps_item, keeps_right, words_of_right}
use Rattle.dcv_lustre.specs.Seen.{seen_item, seen_arm as arm_seen}
use Rattle.dcv_lustre.specs.declared.node.Item.{Item as LastItem}
use Rattle.dcv_observer.specs.declared.items.Item.{Item as CodeItem}
use Rattle.dcv_observer.specs.Left.{seen}
use Rattle.dcv_lustre_read.specs.declared.placed.PlacedArm.{PlacedArm}
use Rattle.dcv_lustre_read.specs.declared.placed.PlacedTest.{PlacedTest}
use Rattle.dcv_lustre_read.specs.declared.placed.PlacedRight.{PlacedRight}
use Rattle.dcv_lustre_read.specs.declared.placed.PlacedRight.TheVariants.{Chosen as CodeChosen}
use Rattle.dcv_lustre_read.specs.Seen.{seen_test, seen_arm, seen_right}
use Rattle.dcv_observer.specs.Judged.{IsLeft, IsBroken, IsFaultOf}
use Rattle.dcv_lustre_read.specs.Judged.{words_of_tests, words_of_arms, keeps_tests}
use Rattle.dcv_observer.proofs.Judging.{kept, first_fault}
use Rattle.dcv_observer.proofs.SoFar.{one_more}

module _ (node : Node) (known : List (List ℕ)) (whole : Option ℕ) (words : List Token) (keeps : List Bool) where
  abbrev pub TestsLeft : List PlacedTest → Type 0
  TestsLeft later = IsLeft whole (words_of_tests (map seen_test later) ++ words) (keeps_tests node known (map test_of (map seen_test later)) ++ keeps)

  abbrev pub AreTestsSoFar : List Test → List CodeTest → List PlacedTest → Type 0
  AreTestsSoFar all made later = (map (test_seen (names_of node)) made ++ map test_of (map seen_test later) ≡ all) × TestsLeft later

  pub tests_fault : (here : List PlacedTest) (test : PlacedTest) (later : List PlacedTest) (fault : ObsFault) → here ≡ test ∷ later → TestsLeft here
      → IsBroken test.name.start (keeps_name node known OfNumber (seen_test test).name.bytes) fault → IsFaultOf whole fault
  tests_fault here test later fault split left not = first_fault fault not (subst TestsLeft split left)

  pub tests_more : (here : List PlacedTest) (test : PlacedTest) (later : List PlacedTest) (all : List Test) (made more : List CodeTest) (x : CodeTest) → here ≡ test ∷ later
      → more ≡ made ++ x ∷ [] → AreTestsSoFar all made here
      → (keeps_name node known OfNumber (seen_test test).name.bytes ≡ true) × (test_seen (names_of node) x ≡ test_of (seen_test test)) → AreTestsSoFar all more later
  tests_more here test later all made more x split pushed sofar this =
      let there = subst (AreTestsSoFar all made) split sofar in (
        one_more (test_seen (names_of node)) test_of made more x (seen_test test) (map seen_test later) all pushed this.1 there.0,
        kept this.0 there.1,
      )

  pub tests_whole : (items : List PlacedTest) (i : ℕ) (all : List Test) (made : List CodeTest) → length items ≤ i → AreTestsSoFar all made (drop i items)
      → (map (test_seen (names_of node)) made ≡ all) × IsLeft whole words keeps
  tests_whole items i all made done sofar =
      let none : drop i items ≡ [] = at_drop_all (λ (later : List PlacedTest). later) items i done in
      let there = subst (AreTestsSoFar all made) none sofar in (sym (append-nil (map (test_seen (names_of node)) made)) ∙ there.0, there.1)

module _ (node : Node) (known : List (List ℕ)) (kind : Kind) (whole : Option ℕ) (words : List Token) (keeps : List Bool) where
  abbrev pub ArmsLeft : List PlacedArm → Type 0
  ArmsLeft later = IsLeft whole (words_of_arms (map seen_arm later) ++ words) (flat_map (keeps_arm node known kind) (map arm_of (map seen_arm later)) ++ keeps)

  abbrev pub AreArmsSoFar : List Arm → List CodeArm → List PlacedArm → Type 0
  AreArmsSoFar all made later = (map (arm_seen (names_of node)) made ++ map arm_of (map seen_arm later) ≡ all) × ArmsLeft later

  -- the words of the first arm, and those after it
  pub arm_left : (here : List PlacedArm) (arm : PlacedArm) (later : List PlacedArm) → here ≡ arm ∷ later → ArmsLeft here
      → IsLeft whole ((seen_arm arm).name ∷ (seen_arm arm).item ∷ (words_of_arms (map seen_arm later) ++ words))
      (keeps_arm node known kind (arm_of (seen_arm arm)) ++ (flat_map (keeps_arm node known kind) (map arm_of (map seen_arm later)) ++ keeps))
  arm_left here arm later split left = subst ArmsLeft split left

  pub arms_more : (here : List PlacedArm) (arm : PlacedArm) (later : List PlacedArm) (all : List Arm) (made more : List CodeArm) (x : CodeArm) → here ≡ arm ∷ later
      → more ≡ made ++ x ∷ [] → AreArmsSoFar all made here
      → (arm_seen (names_of node) x ≡ arm_of (seen_arm arm)) × ArmsLeft later → AreArmsSoFar all more later
  arms_more here arm later all made more x split pushed sofar this =
      let there = subst (AreArmsSoFar all made) split sofar in
      (one_more (arm_seen (names_of node)) arm_of made more x (seen_arm arm) (map seen_arm later) all pushed this.0 there.0, this.1)

  pub arms_whole : (items : List PlacedArm) (i : ℕ) (all : List Arm) (made : List CodeArm) → length items ≤ i → AreArmsSoFar all made (drop i items)
      → (map (arm_seen (names_of node)) made ≡ all) × IsLeft whole words keeps
  arms_whole items i all made done sofar =
      let none : drop i items ≡ [] = at_drop_all (λ (later : List PlacedArm). later) items i done in
      let there = subst (AreArmsSoFar all made) none sofar in (sym (append-nil (map (arm_seen (names_of node)) made)) ∙ there.0, there.1)

module _ (node : Node) (known : List (List ℕ)) (kind : Kind) (whole : Option ℕ) (words : List Token) (keeps : List Bool) where
  pub chosen_left : (right : PlacedRight) (arms : Vec PlacedArm Global) (otherwise : CodeItem) (items : List PlacedArm) → right ≡ CodeChosen arms otherwise → items ≡ arms.items
      → IsLeft whole (words_of_right (seen_right right) ++ words) (keeps_right node known kind (right_of (seen_right right)) ++ keeps)
      → ArmsLeft node known kind whole (seen otherwise ∷ words) (keeps_item node known kind (item_at (seen otherwise)) ∷ keeps) items
  chosen_left right arms otherwise items is are left =
      let there = subst (λ (r : PlacedRight). IsLeft whole (words_of_right (seen_right r) ++ words) (keeps_right node known kind (right_of (seen_right r)) ++ keeps)) is left in
      let front = words_of_arms (map seen_arm arms.items) in
      let front_keeps = flat_map (keeps_arm node known kind) (map arm_of (map seen_arm arms.items)) in
      let last = keeps_item node known kind (item_at (seen otherwise)) in
      subst (ArmsLeft node known kind whole (seen otherwise ∷ words) (last ∷ keeps)) (sym are)
      (subst (λ (ws : List Token). IsLeft whole ws (front_keeps ++ (last ∷ keeps))) (append_assoc front (seen otherwise ∷ []) words)
      (subst (λ (ks : List Bool). IsLeft whole ((front ++ seen otherwise ∷ []) ++ words) ks) (append_assoc front_keeps (last ∷ []) keeps) there))

pub chosen_is : (names : Names) (right : PlacedRight) (arms : Vec PlacedArm Global) (otherwise : CodeItem) (items : List PlacedArm) → right ≡ CodeChosen arms otherwise → items ≡ arms.items
    → (made : List CodeArm) (last : LastItem) → map (arm_seen names) made ≡ map arm_of (map seen_arm items) → seen_item names last ≡ item_at (seen otherwise)
    → Chosen (map (arm_seen names) made) (seen_item names last) ≡ right_of (seen_right right)
chosen_is names right arms otherwise items is are made last made_is last_is =
    (λ i. Chosen ((made_is ∙ ap (λ (xs : List PlacedArm). map arm_of (map seen_arm xs)) are) i) (last_is i))
    ∙ sym (ap (λ (r : PlacedRight). right_of (seen_right r)) is)
