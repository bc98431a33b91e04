-- A new replay of a unit follows it.
use Rattle.std.proofs.Common.{◌≡◌, ℕ, ◌+◌, ◌<◌, ◌≤◌, ◌==◌, List, [], ◌∷◌, ◌++◌, length, map, fold, get_or, cond, inl, inr, refl, sym, ap, subst, ◌∙◌, arith, length-append}
use Rattle.std.specs.List.{All, AllByRecursion}
use Rattle.std.proofs.lemmas.List.{get_or-set_other, get_or_append_left, get_or-map, length-map, length-set}
use Rattle.std.proofs.lemmas.List.Elements.{All-from_recursion, recursion_from_All, All-append}
use Rattle.std.proofs.lemmas.Bool.{cases_Bool}
use Rattle.dcv_observer.specs.declared.conditions.Condition.{Condition}
use Rattle.dcv_observer.specs.declared.conditions.Condition.TheVariants.{Holds, Equals}
use Rattle.dcv_observer.specs.declared.conditions.Test.{Test}
use Rattle.dcv_c.specs.declared.unit.Item.{Item}
use Rattle.dcv_c.specs.declared.unit.Item.TheVariants.{Constant, Named}
use Rattle.dcv_c.specs.declared.unit.Right.{Right}
use Rattle.dcv_c.specs.declared.unit.Right.TheVariants.{Plain, Chosen}
use Rattle.dcv_c.specs.declared.unit.Statement.{Statement}
use Rattle.dcv_c.specs.declared.unit.Statement.TheVariants.{Assign, When}
use Rattle.dcv_c.specs.declared.unit.Returned.{Returned}
use Rattle.dcv_c.specs.declared.unit.Returned.TheVariants.{Fixed, Read, Tested}
use Rattle.dcv_c.specs.declared.unit.Assignment.{Assignment}
use Rattle.dcv_c.specs.Tree.{CUnit}
use Rattle.dcv_c.specs.Meaning.{Numbers, zeros, assigned, automaton_of_unit}
use Rattle.dcv_c.specs.Laws.{NoLeftOverIsRead}
use Rattle.dcv_c.specs.Rules.{IsWellNamed}
use Rattle.dcv_c.specs.Form.{IsStatement, IsReturned, IsAssignment, IsSpellable}
use Rattle.dcv_c.specs.Seen.{names_of, seen_statement, seen_returned, seen_assignment}
use Rattle.dcv_replay.specs.declared.replay.Select.{Select}
use Rattle.dcv_replay.specs.Program.{ReplayValue, first_name, IsWithin, IsReplay, Selects}
use Rattle.dcv_replay.specs.Observer.{C, Follows}
use Rattle.dcv_replay.specs.Selecting.{slot_of, copy, IsFresh}
use Rattle.dcv_replay.specs.OfUnit.{item_slot, choosing, right_select, statement_select, tests_selects, returned_selects, after_assignment}
use Rattle.dcv_replay.specs.OfUnit.{IsPlacedItem, IsPlacedCondition, IsPlacedRight, IsPlacedStatement, IsPlacedReturned, ArePlacedAssignments}
use Rattle.dcv_replay.specs.OfUnit.{AreSelectsOf, IsStoreOf, IsResetStore}
use Rattle.dcv_replay.proofs.Mirrors.{Mirrors}
use Rattle.dcv_replay.proofs.UnitSteps.{everything, assignments_mirror}
use Rattle.dcv_replay.proofs.UnitNames.{few_parameters, statements_by_recursion, returned_by_form, assignments_by_recursion}
use Rattle.dcv_replay.proofs.UnitRuns.{Runs, apart, follows_unit}

-- ---- selections are within the store

module _ (count slots : ℕ) (room : first_name + count < slots) where
  copy_within : (target from : ℕ) → target < slots → from < slots → IsWithin slots (copy target from)
  copy_within target from target_in from_in = record { target = target_in; tested = omega (arith, room); when_equal = from_in; otherwise = from_in }

  item_within : (item : Item) → IsPlacedItem count item → item_slot item < slots
  item_within (Constant number) small = omega (arith, small, room)
  item_within (Named place) below = omega (arith, below, room)

  choosing_within : (target : ℕ) (condition : Condition) (held otherwise : ℕ) → target < slots → IsPlacedCondition count condition → held < slots → otherwise < slots
      → IsWithin slots (choosing target condition held otherwise)
  choosing_within target (Holds place) held otherwise target_in below held_in otherwise_in =
      record { target = target_in; tested = omega (arith, below, room); when_equal = otherwise_in; otherwise = held_in }
  choosing_within target (Equals place number) held otherwise target_in below held_in otherwise_in =
      record { target = target_in; tested = omega (arith, below, room); when_equal = held_in; otherwise = otherwise_in }

  right_within : (target : ℕ) (right : Right) → target < slots → IsPlacedRight count right → IsWithin slots (right_select target right)
  right_within target (Plain item) target_in placed = copy_within target (item_slot item) target_in (item_within item placed)
  right_within target (Chosen condition item otherwise) target_in placed =
      choosing_within target condition (item_slot item) (item_slot otherwise) target_in placed.0 (item_within item placed.1) (item_within otherwise placed.2)

  statement_within : (statement : Statement) → IsPlacedStatement count statement → IsWithin slots (statement_select statement)
  statement_within (Assign left right) placed = right_within (slot_of left) right (omega (arith, placed.0, room)) placed.1
  statement_within (When condition left item) placed =
      choosing_within (slot_of left) condition (item_slot item) (slot_of left) (omega (arith, placed.1, room)) placed.0 (item_within item placed.2) (omega (arith, placed.1, room))

  statements_within : (statements : List Statement) → AllByRecursion (IsPlacedStatement count) statements → AllByRecursion (IsWithin slots) (map statement_select statements)
  statements_within [] placed = tt
  statements_within (statement ∷ statements) placed = (statement_within statement placed.0, statements_within statements placed.1)

  tests_within : (answer : ℕ) → answer < slots → (tests : List Test) → AllByRecursion (λ (test : Test). test.name < count) tests
      → AllByRecursion (IsWithin slots) (map (λ (test : Test). record { target = answer; tested = slot_of test.name; number = test.number; when_equal = 1; otherwise = answer }) tests)
  tests_within answer answer_in [] placed = tt
  tests_within answer answer_in (test ∷ tests) placed =
      (record { target = answer_in; tested = omega (arith, placed.0, room); when_equal = omega (arith, room); otherwise = answer_in }, tests_within answer answer_in tests placed.1)

  returned_within : (answer : ℕ) → answer < slots → (returned : Returned) → IsPlacedReturned count returned → All (IsWithin slots) (returned_selects answer returned)
  returned_within answer answer_in (Fixed number) placed =
      All-from_recursion (IsWithin slots) (returned_selects answer (Fixed number)) (copy_within answer (cond (number == 0) 0 1) answer_in (small number), tt)
    where
      small : (number : ℕ) → cond (number == 0) 0 1 < slots
      small number = elim (cases_Bool (number == 0)) [
        | inl is ↦ subst (λ b. cond {A = ℕ} b 0 1 < slots) (sym is) (omega (arith, room))
        | inr is ↦ subst (λ b. cond {A = ℕ} b 0 1 < slots) (sym is) (omega (arith, room))
      ]
  returned_within answer answer_in (Read place) placed =
      All-from_recursion (IsWithin slots) (returned_selects answer (Read place))
      (choosing_within answer (Holds place) 1 0 answer_in placed (omega (arith, room)) (omega (arith, room)), tt)
  returned_within answer answer_in (Tested tests) placed =
      All-from_recursion (IsWithin slots) (tests_selects answer tests.items)
      (copy_within answer 0 answer_in (omega (arith, room)), tests_within answer answer_in tests.items (recursion_from_All (λ (test : Test). test.name < count) tests.items placed))

-- ---- the store once the statics are set

assignments_keep : (count : ℕ) (assignments : List Assignment) (store : List ℕ) → AllByRecursion (λ (assignment : Assignment). assignment.name < count) assignments
    → (length (fold after_assignment store assignments) ≡ length store) × (get_or (fold after_assignment store assignments) (slot_of count) 0 ≡ get_or store (slot_of count) 0)
assignments_keep count [] store placed = (refl, refl)
assignments_keep count (assignment ∷ assignments) store placed =
    let rest = assignments_keep count assignments (after_assignment store assignment) placed.1 in (
      rest.0 ∙ length-set store (slot_of assignment.name) assignment.number,
      rest.1 ∙ get_or-set_other store (slot_of assignment.name) (slot_of count) assignment.number 0 (λ same. omega (arith, same, placed.0)),
    )

-- ---- places of names

pub code_placed : (unit : CUnit) → IsSpellable unit → (most : ℕ) → length (names_of unit) ≤ most → (code : List Statement)
    → map (seen_statement (names_of unit)) code ≡ unit.statements → All (IsPlacedStatement most) code
code_placed unit form most fits code same =
    All-from_recursion (IsPlacedStatement most) code (statements_by_recursion (names_of unit) most fits code (subst (AllByRecursion IsStatement) (sym same) form.statements))

pub returned_placed : (unit : CUnit) → IsSpellable unit → (most : ℕ) → length (names_of unit) ≤ most → (returned : Returned)
    → seen_returned (names_of unit) returned ≡ unit.returned → IsPlacedReturned most returned
returned_placed unit form most fits returned same = returned_by_form (names_of unit) most fits returned (subst IsReturned (sym same) form.returned)

pub assignments_placed : (unit : CUnit) → IsSpellable unit → (most : ℕ) → length (names_of unit) ≤ most → (assignments : List Assignment)
    → map (seen_assignment (names_of unit)) assignments ≡ unit.assignments → ArePlacedAssignments most assignments
assignments_placed unit form most fits assignments same =
    All-from_recursion (λ (assignment : Assignment). assignment.name < most) assignments
    (assignments_by_recursion (names_of unit) most fits assignments (subst (AllByRecursion IsAssignment) (sym same) form.assignments))

pub store_from_reset : (unit : CUnit) (count : ℕ) (assignments : List Assignment) → map (seen_assignment (names_of unit)) assignments ≡ unit.assignments
    → {store : List ℕ} → IsResetStore count assignments store → IsStoreOf unit count store
store_from_reset unit count assignments same reset = record { assignments = assignments; same = same; fresh = reset.fresh; is = reset.is; set = reset.set }

module _ (unit : CUnit) (well : IsWellNamed unit) (form : IsSpellable unit) (law : NoLeftOverIsRead)
    (assignments : List Assignment) (code : List Statement) (returned : Returned)
    (same_assignments : map (seen_assignment (names_of unit)) assignments ≡ unit.assignments)
    (same : map (seen_statement (names_of unit)) code ≡ unit.statements) (same_returned : seen_returned (names_of unit) returned ≡ unit.returned) where
  exact : length (names_of unit) ≤ length (names_of unit)
  exact = omega arith

  placed_code : AllByRecursion (IsPlacedStatement (length (names_of unit))) code
  placed_code = recursion_from_All (IsPlacedStatement (length (names_of unit))) code (code_placed unit form (length (names_of unit)) exact code same)

  placed_returned : IsPlacedReturned (length (names_of unit)) returned
  placed_returned = returned_placed unit form (length (names_of unit)) exact returned same_returned

  placed_each : AllByRecursion (λ (assignment : Assignment). assignment.name < length (names_of unit)) assignments
  placed_each = recursion_from_All (λ (assignment : Assignment). assignment.name < length (names_of unit)) assignments
      (assignments_placed unit form (length (names_of unit)) exact assignments same_assignments)

  module _ (fresh : List ℕ) (is_fresh : IsFresh (length (names_of unit)) fresh) where
    abbrev store : List ℕ
    store = fold after_assignment fresh assignments

    kept : (length (fold after_assignment fresh assignments) ≡ length fresh) × (get_or (fold after_assignment fresh assignments) (slot_of (length (names_of unit))) 0 ≡ get_or fresh (slot_of (length (names_of unit))) 0)
    kept = assignments_keep (length (names_of unit)) assignments fresh placed_each

    room : first_name + length (names_of unit) < length (fold after_assignment fresh assignments)
    room = omega (arith, kept.0, is_fresh.long)

    reset_numbers : Numbers
    reset_numbers = fold (λ now given. assigned now given.name given.number) zeros unit.assignments

    mirrors : Mirrors (names_of unit) everything (fold (λ now given. assigned now given.name given.number) zeros unit.assignments) (fold after_assignment fresh assignments)
    mirrors =
        subst (λ given. Mirrors (names_of unit) everything (fold (λ now given. assigned now given.name given.number) zeros given) (fold after_assignment fresh assignments)) same_assignments
        (assignments_mirror (names_of unit) (apart unit well law code returned same same_returned placed_code placed_returned) assignments
        (record {
          long = omega (arith, is_fresh.long);
          literals = is_fresh.literals;
          numbers = λ place below there. is_fresh.names (slot_of place) (omega arith);
        }) placed_each)

    starts : Runs unit well law code returned same same_returned placed_code placed_returned (automaton_of_unit unit).start
        (fold after_assignment fresh assignments)
    unfolding reset_numbers
    starts = record {
      long = room;
      literals = mirrors.literals;
      count = length-map unit.statics reset_numbers;
      statics = λ place below.
          mirrors.numbers place (omega (arith, below, length-append unit.statics (unit.parameters ++ unit.locals))) refl
          ∙ ap reset_numbers (get_or_append_left unit.statics (unit.parameters ++ unit.locals) [] place below)
          ∙ sym (get_or-map reset_numbers unit.statics place [] 0 below);
      answer = ap (λ (n : ℕ). n == 1) (kept.1 ∙ is_fresh.names (slot_of (length (names_of unit))) (omega arith));
    }

    pub new_follows : Follows (C unit) [] (record {
      program = record { width = length unit.parameters; steps = Selects (slot_of (length unit.statics)) (map statement_select code ++ returned_selects (slot_of (length (names_of unit))) returned) (slot_of (length (names_of unit))) };
      store = fold after_assignment fresh assignments;
    })
    new_follows =
        follows_unit unit well law code returned same same_returned placed_code placed_returned
        (fold after_assignment fresh assignments) starts

    pub new_is_replay : IsReplay (record {
      program = record { width = length unit.parameters; steps = Selects (slot_of (length unit.statics)) (map statement_select code ++ returned_selects (slot_of (length (names_of unit))) returned) (slot_of (length (names_of unit))) };
      store = fold after_assignment fresh assignments;
    })
    new_is_replay = record {
      width = omega (arith, few_parameters unit well);
      steps = record {
        variables = omega (arith, room, length-append unit.statics (unit.parameters ++ unit.locals), length-append unit.parameters unit.locals);
        answered = omega (arith, room);
        within = All-append (IsWithin (length (fold after_assignment fresh assignments))) (map statement_select code) (returned_selects (slot_of (length (names_of unit))) returned)
            (All-from_recursion (IsWithin (length (fold after_assignment fresh assignments))) (map statement_select code)
            (statements_within (length (names_of unit)) (length (fold after_assignment fresh assignments)) room code placed_code))
            (returned_within (length (names_of unit)) (length (fold after_assignment fresh assignments)) room (slot_of (length (names_of unit))) (omega (arith, room)) returned
            placed_returned);
      };
    }

-- ---- whole replays

pub count_is : (unit : CUnit) (count statics parameters locals : ℕ) → count ≡ statics + parameters + locals → statics ≡ length unit.statics → parameters ≡ length unit.parameters
    → locals ≡ length unit.locals → count ≡ length (names_of unit)
count_is unit count statics parameters locals sum first second third =
    omega (arith, sum, first, second, third, length-append unit.statics (unit.parameters ++ unit.locals), length-append unit.parameters unit.locals)

module _ (unit : CUnit) (well : IsWellNamed unit) (form : IsSpellable unit) (law : NoLeftOverIsRead) (count : ℕ) (counted : count ≡ length (names_of unit)) (inputs answer : ℕ)
    (inputs_is : inputs ≡ slot_of (length unit.statics)) (answer_is : answer ≡ slot_of count) (selects : List Select) (of : AreSelectsOf unit answer selects)
    (store : List ℕ) (set : IsStoreOf unit count store) where
  abbrev value : ReplayValue
  value = record {
    program = record { width = length unit.parameters; steps = Selects inputs selects answer };
    store = store;
  }

  exact_value : record {
    program = record { width = length unit.parameters; steps = Selects (slot_of (length unit.statics)) (map statement_select of.code ++ returned_selects (slot_of (length (names_of unit))) of.returned) (slot_of (length (names_of unit))) };
    store = fold after_assignment set.fresh set.assignments;
  } ≡ value
  exact_value i =
      let answer_at = sym (answer_is ∙ ap slot_of counted) in
      record {
        program = record { width = length unit.parameters; steps = Selects (sym inputs_is i) ((ap (λ (at : ℕ). map statement_select of.code ++ returned_selects at of.returned) answer_at ∙ sym of.all) i) (answer_at i) };
        store = sym set.set i;
      }

  pub is_replay_of_unit : IsReplay value
  is_replay_of_unit = subst IsReplay exact_value
      (new_is_replay unit well form law set.assignments of.code of.returned set.same of.same of.same_returned set.fresh (subst (λ (n : ℕ). IsFresh n set.fresh) counted set.is))

  pub follows_of_unit : Follows (C unit) [] value
  follows_of_unit = subst (Follows (C unit) []) exact_value
      (new_follows unit well form law set.assignments of.code of.returned set.same of.same of.same_returned set.fresh (subst (λ (n : ℕ). IsFresh n set.fresh) counted set.is))
