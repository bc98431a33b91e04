-- The selections of a unit do what its statements do.
use Rattle.std.proofs.Common.{◌≡◌, ◌≢◌, ℕ, ◌<◌, ◌≤◌, ◌==◌, Bool, true, false, not, cond, nat_eq, List, [], ◌∷◌, length, map, fold, get_or, set, refl, sym, ap, subst, ◌∙◌, arith}
use Rattle.std.specs.Prelude.{bytes_eq}
use Rattle.std.specs.List.{list_any, AllByRecursion}
use Rattle.std.proofs.lemmas.List.{set-get_or}
use Rattle.std.proofs.lemmas.List.Elements.{recursion_from_All}
use Rattle.std.proofs.lemmas.Bool.{or_right}
use Rattle.dcv_observer.specs.declared.conditions.Condition.{Condition}
use Rattle.dcv_observer.specs.declared.conditions.Condition.TheVariants.{Holds, Equals}
use Rattle.dcv_observer.specs.declared.conditions.Test.{Test}
use Rattle.dcv_observer.proofs.Naming.{Name}
use Rattle.dcv_c.specs.declared.unit.Item.{Item}
use Rattle.dcv_c.specs.declared.unit.Item.TheVariants.{Constant, Named}
use Rattle.dcv_c.specs.declared.unit.Right.{Right}
use Rattle.dcv_c.specs.declared.unit.Right.TheVariants.{Plain, Chosen}
use Rattle.dcv_c.specs.declared.unit.Statement.{Statement}
use Rattle.dcv_c.specs.declared.unit.Statement.TheVariants.{Assign, When}
use Rattle.dcv_c.specs.declared.unit.Returned.{Returned}
use Rattle.dcv_c.specs.declared.unit.Returned.TheVariants.{Fixed, Read, Tested}
use Rattle.dcv_c.specs.declared.unit.Assignment.{Assignment}
use Rattle.dcv_c.specs.Meaning.{Numbers, item_number, holds, right_number, assigned, executed, passes, returned_number}
use Rattle.dcv_c.specs.Seen.{seen_item, seen_condition, seen_right, seen_statement, seen_test, seen_returned, seen_assignment}
use Rattle.dcv_replay.specs.Program.{first_name, after_select}
use Rattle.dcv_replay.specs.Selecting.{slot_of}
use Rattle.dcv_replay.specs.OfUnit.{item_slot, choosing, right_select, statement_select, returned_selects, after_assignment, IsPlacedItem}
use Rattle.dcv_replay.specs.OfUnit.{IsPlacedCondition, IsPlacedRight, IsPlacedStatement, IsPlacedReturned}
use Rattle.dcv_replay.proofs.Mirrors.{through, both_are, selected, copied, any_test, any_map, IsFree, IsApart, Mirrors, written, fewer}

-- all names are known
abbrev pub everything : Name → Bool
everything name = true

turned : (test : Bool) (a b : ℕ) → cond test b a ≡ cond (not test) a b
turned true a b = refl
turned false a b = refl

module _ (names : List Name) (apart : IsApart names) where
  abbrev AllMirrors : Numbers → List ℕ → Type 0
  AllMirrors now store = Mirrors names everything now store

  item_is : {now : Numbers} {store : List ℕ} → AllMirrors now store → (item : Item) → IsPlacedItem (length names) item → get_or store (item_slot item) 0 ≡ item_number now (seen_item names item)
  item_is mirrors (Constant number) small = mirrors.literals number small
  item_is mirrors (Named place) below = mirrors.numbers place below refl

  choice_is : {now : Numbers} {store : List ℕ} → AllMirrors now store → (condition : Condition) → IsPlacedCondition (length names) condition → (target held otherwise : ℕ)
      → after_select store (choosing target condition held otherwise) ≡ set store target (cond (holds now (seen_condition names condition)) (get_or store held 0) (get_or store otherwise 0))
  choice_is {now} {store} mirrors (Holds place) below target held otherwise =
      selected store target (slot_of place) 0 otherwise held
      ∙ ap (λ (n : ℕ). set store target (cond (n == 0) (get_or store otherwise 0) (get_or store held 0))) (mirrors.numbers place below refl)
      ∙ ap (λ (n : ℕ). set store target n) (turned (now (get_or names place []) == 0) (get_or store held 0) (get_or store otherwise 0))
  choice_is {now} {store} mirrors (Equals place number) below target held otherwise =
      selected store target (slot_of place) number held otherwise
      ∙ ap (λ (n : ℕ). set store target (cond (n == number) (get_or store held 0) (get_or store otherwise 0))) (mirrors.numbers place below refl)

  right_is : {now : Numbers} {store : List ℕ} → AllMirrors now store → (right : Right) → IsPlacedRight (length names) right → (target : ℕ)
      → after_select store (right_select target right) ≡ set store target (right_number now (seen_right names right))
  right_is {now} {store} mirrors (Plain item) placed target = copied store target (item_slot item) ∙ ap (λ (n : ℕ). set store target n) (item_is mirrors item placed)
  right_is {now} {store} mirrors (Chosen condition item otherwise) placed target =
      choice_is mirrors condition placed.0 target (item_slot item) (item_slot otherwise)
      ∙ ap (λ (n : ℕ). set store target n) (both_are (holds now (seen_condition names condition)) (item_is mirrors item placed.1) (item_is mirrors otherwise placed.2))

  all_written : {now : Numbers} {store : List ℕ} → AllMirrors now store → (place number : ℕ) → place < length names
      → AllMirrors (assigned now (get_or names place []) number) (set store (slot_of place) number)
  all_written mirrors place number below =
      fewer names apart (written names apart mirrors place number below) (λ name there. or_right (bytes_eq name (get_or names place [])) true refl)

  statement_mirrors : {now : Numbers} {store : List ℕ} → AllMirrors now store → (statement : Statement) → IsPlacedStatement (length names) statement
      → AllMirrors (executed now (seen_statement names statement)) (after_select store (statement_select statement))
  statement_mirrors {now} {store} mirrors (Assign left right) placed =
      subst (λ (after : List ℕ). AllMirrors (assigned now (get_or names left []) (right_number now (seen_right names right))) after)
      (sym (right_is mirrors right placed.1 (slot_of left))) (all_written mirrors left (right_number now (seen_right names right)) placed.0)
  statement_mirrors {now} {store} mirrors (When condition left item) placed =
      subst (λ (after : List ℕ). AllMirrors (executed now (seen_statement names (When condition left item))) after)
      (sym (choice_is mirrors condition placed.0 (slot_of left) (item_slot item) (slot_of left)))
      (either (holds now (seen_condition names condition)))
    where
      number : ℕ
      number = item_number now (seen_item names item)

      either : (test : Bool) → AllMirrors (cond test (assigned now (get_or names left []) (item_number now (seen_item names item))) now)
          (set store (slot_of left) (cond test (get_or store (item_slot item) 0) (get_or store (slot_of left) 0)))
      either true = subst (λ (n : ℕ). AllMirrors (assigned now (get_or names left []) (item_number now (seen_item names item))) (set store (slot_of left) n))
          (sym (item_is mirrors item placed.2)) (all_written mirrors left (item_number now (seen_item names item)) placed.1)
      either false = subst (λ (after : List ℕ). AllMirrors now after) (sym (set-get_or store (slot_of left) 0)) mirrors

  pub statements_mirror : (statements : List Statement) {now : Numbers} {store : List ℕ} → AllMirrors now store → AllByRecursion (IsPlacedStatement (length names)) statements
      → AllMirrors (fold executed now (map (seen_statement names) statements)) (fold after_select store (map statement_select statements))
  statements_mirror [] mirrors placed = mirrors
  statements_mirror (statement ∷ statements) mirrors placed = statements_mirror statements (statement_mirrors mirrors statement placed.0) placed.1

  -- ---- what is returned

  free_slot : {now : Numbers} {store : List ℕ} → AllMirrors now store → (slot : ℕ) → first_name ≤ slot → slot < length store → IsFree store slot
  free_slot mirrors slot high inside = record { high = omega (arith, high); inside = inside; zero_is = mirrors.literals 0 (omega arith); one_is = mirrors.literals 1 (omega arith) }

  asked : {now : Numbers} {store : List ℕ} → AllMirrors now store → (tests : List Test) → AllByRecursion (λ (test : Test). test.name < length names) tests
      → AllByRecursion (λ (test : Test). ((get_or store (slot_of test.name) 0 == test.number) ≡ passes now (seen_test names test)) × (slot_of test.name ≢ slot_of (length names))) tests
  asked mirrors [] placed = tt
  asked mirrors (test ∷ tests) (below, placed) =
      ((ap (λ (n : ℕ). n == test.number) (mirrors.numbers test.name below refl), (λ same. omega (arith, same, below))), asked mirrors tests placed)

  -- a truth, as the answer's slot has it
  abbrev number_of_truth : Bool → ℕ
  number_of_truth truth = cond truth 1 0

  truth_of_tests : (b : Bool) → number_of_truth b ≡ number_of_truth (not (nat_eq (number_of_truth b) 0))
  truth_of_tests true = refl
  truth_of_tests false = refl

  pub returned_is : {now : Numbers} {store : List ℕ} → AllMirrors now store → (returned : Returned) → IsPlacedReturned (length names) returned
      → fold after_select store (returned_selects (slot_of (length names)) returned)
      ≡ set store (slot_of (length names)) (cond (not (nat_eq (returned_number now (seen_returned names returned)) 0)) 1 0)
  returned_is {now} {store} mirrors (Fixed number) placed =
      copied store (slot_of (length names)) (cond (number == 0) 0 1)
      ∙ ap (λ (n : ℕ). set store (slot_of (length names)) n)
      (through (number == 0) (λ (slot : ℕ). get_or store slot 0) 0 1
      ∙ both_are (number == 0) (mirrors.literals 0 (omega arith)) (mirrors.literals 1 (omega arith))
      ∙ turned (number == 0) 1 0)
  returned_is {now} {store} mirrors (Read place) placed =
      choice_is mirrors (Holds place) placed (slot_of (length names)) 1 0
      ∙ ap (λ (n : ℕ). set store (slot_of (length names)) n)
      (both_are (not (nat_eq (now (get_or names place [])) 0)) (mirrors.literals 1 (omega arith)) (mirrors.literals 0 (omega arith)))
  returned_is {now} {store} mirrors (Tested tests) placed =
      any_test (λ (test : Test). test.number) (λ (test : Test). passes now (seen_test names test)) store (slot_of (length names))
      (free_slot mirrors (slot_of (length names)) (omega arith) (omega (arith, mirrors.long))) tests.items
      (asked mirrors tests.items (recursion_from_All (λ (test : Test). test.name < length names) tests.items placed))
      ∙ ap (λ (b : Bool). set store (slot_of (length names)) (cond b 1 0)) (any_map (passes now) (seen_test names) tests.items)
      ∙ ap (λ (n : ℕ). set store (slot_of (length names)) n) (truth_of_tests (list_any (passes now) (map (seen_test names) tests.items)))

  -- ---- the function that sets the statics

  pub assignments_mirror : (assignments : List Assignment) {now : Numbers} {store : List ℕ} → AllMirrors now store
      → AllByRecursion (λ (assignment : Assignment). assignment.name < length names) assignments
      → AllMirrors (fold (λ now given. assigned now given.name given.number) now (map (seen_assignment names) assignments)) (fold after_assignment store assignments)
  assignments_mirror [] mirrors placed = mirrors
  assignments_mirror (assignment ∷ assignments) mirrors placed = assignments_mirror assignments (all_written mirrors assignment.name assignment.number placed.0) placed.1
