-- The parts make up a unit that keeps the rules, and no other fault is told than that of the first broken word.
use Rattle.std.proofs.Common.{◌≡◌, ℕ, true, false, List, [], ◌∷◌, ◌++◌, map, None, refl, sym, ap, subst, ◌∙◌, append_assoc, inl, inr, ◌&&◌}
use Rattle.std.specs.Prelude.{bytes_eq}
use Rattle.std.specs.List.{list_all}
use Rattle.std.proofs.lemmas.Bool.{cases_Bool, or_cases, and_parts, both_ways, false_from_ne_true}
use Rattle.dcv_observer.specs.Conditions.{Names}
use Rattle.dcv_observer.specs.Naming.{is_among}
use Rattle.dcv_observer.proofs.Naming.{one_name}
use Rattle.dcv_observer.proofs.Readings.{well_named_if_unbroken}
use Rattle.dcv_c.specs.declared.unit.Returned.{Returned as CodeReturned}
use Rattle.dcv_c.specs.Tree.{Returned}
use Rattle.dcv_c.specs.Seen.{seen_assignment, seen_statement, seen_returned, seen_unit, all_names, names_of, IsUnit}
use Rattle.dcv_c.specs.Placed.{PlacedUnit, unit_of}
use Rattle.dcv_c.specs.Rules.{IsWellNamed, words_of, judged, has_all_assignments, keeps_new, keeps_apart, keeps_assignments}
use Rattle.dcv_c.specs.Form.{IsSpellable}
use Rattle.dcv_c.specs.Words.{AreWords}
use Rattle.dcv_c.proofs.Readings.{is_subset}
use Rattle.dcv_c.specs.declared.unit.Reset.{Reset}
use Rattle.dcv_c.specs.declared.unit.Step.{Step}
use Rattle.dcv_observer.specs.Judged.{IsLeft}
use Rattle.dcv_c_read.specs.Judged.{words_of_assignments}
use Rattle.dcv_c_read.specs.Contents.{first_fault_of, words_of_step, keeps_step, IsStepOf}
use Rattle.dcv_c_read.proofs.Spellable.{words_are_spellable}

-- ---- the whole unit

pub unit_begins : (placed : PlacedUnit) → IsLeft (first_fault_of placed)
    (placed.statics ++ (placed.reset ∷ (words_of_assignments placed.assignments ++ (placed.reset_end ∷ words_of_step placed))))
    (keeps_apart [] (unit_of placed).statics
    ++ (keeps_new (unit_of placed).statics (unit_of placed).reset
    ∷ (keeps_assignments (unit_of placed).statics [] (unit_of placed).assignments ++ (has_all_assignments (unit_of placed) ∷ keeps_step (unit_of placed)))))
unfolding words_of judged
unit_begins placed = record { first = refl }

-- ---- after reset

-- where each static is assigned, and nothing else
pub all_assigned : (statics known : Names) → ((name : List ℕ) → is_among known name ≡ true → is_among statics name ≡ true) → list_all (is_among known) statics ≡ true
    → (name : List ℕ) → is_among known name ≡ is_among statics name
all_assigned statics known within all name =
    elim (cases_Bool (is_among statics name)) [
      | inl static ↦ each statics all static ∙ sym static
      | inr other ↦ false_from_ne_true (is_among known name) (λ some. both_ways (is_among statics name) other (within name some)) ∙ sym other
    ]
  where
    each : (names : Names) → list_all (is_among known) names ≡ true → is_among names name ≡ true → is_among known name ≡ true
    each [] all among = absurd (both_ways false refl among)
    each (n ∷ names) all among =
        let both = and_parts (is_among known n) (list_all (is_among known) names) all in
        elim (or_cases (bytes_eq name n) (is_among names name) among) [
          | inl here ↦ subst (λ (m : List ℕ). is_among known m ≡ true) (sym (one_name name n here)) both.0
          | inr later ↦ each names both.1 later
        ]

pub all_as : (known assigned : Names) (statics : Names) → ((name : List ℕ) → is_among known name ≡ is_among assigned name)
    → list_all (is_among known) statics ≡ list_all (is_among assigned) statics
all_as known assigned [] same = refl
all_as known assigned (n ∷ statics) same = let more = all_as known assigned statics same in λ i. same n i && more i

-- ---- a step

pub statements_at : {A B : Type 0} (f : Names → A → B) (made : List A) (all : List B) (statics parameters locals : Names) → map (f ((statics ++ parameters) ++ locals)) made ≡ all
    → map (f (all_names statics parameters locals)) made ≡ all
statements_at f made all statics parameters locals is = ap (λ (names : Names). map (f names) made) (sym (append_assoc statics parameters locals)) ∙ is

pub returned_at : (made : CodeReturned) {returned : Returned} (statics parameters locals : Names) → seen_returned ((statics ++ parameters) ++ locals) made ≡ returned
    → seen_returned (all_names statics parameters locals) made ≡ returned
returned_at made statics parameters locals is = ap (λ (names : Names). seen_returned names made) (sym (append_assoc statics parameters locals)) ∙ is

-- ---- the tree

-- no word breaks a rule, and these are the parts of the unit
pub record AreParts (placed : PlacedUnit) (statics : Names) (reset : Reset) (step : Step) : Type 0 where
  pub unbroken : first_fault_of placed ≡ None
  pub statics_are : statics ≡ (unit_of placed).statics
  pub reset_is : reset.name ≡ (unit_of placed).reset
  pub assignments_are : map (seen_assignment (names_of (unit_of placed))) reset.assignments.items ≡ (unit_of placed).assignments
  pub step_is : IsStepOf (unit_of placed) step

module _ (placed : PlacedUnit) (statics : Names) (reset : Reset) (step : Step) (are : AreParts placed statics reset step) where
  pub unit_is : seen_unit statics reset step ≡ unit_of placed
  unit_is =
      let unit = unit_of placed in
      let names : all_names statics step.parameters.items step.locals.items ≡ names_of unit =
      λ i. all_names (are.statics_are i) (are.step_is.parameters i) (are.step_is.locals i) in
      let assignments = ap (λ (ns : Names). map (seen_assignment ns) reset.assignments.items) names ∙ are.assignments_are in
      let statements = ap (λ (ns : Names). map (seen_statement ns) step.statements.items) names ∙ are.step_is.statements in
      let returned = ap (λ (ns : Names). seen_returned ns step.returned) names ∙ are.step_is.returned in
      λ i.
      record {
        statics = are.statics_are i;
        reset = are.reset_is i;
        assignments = assignments i;
        step = are.step_is.name i;
        parameters = are.step_is.parameters i;
        locals = are.step_is.locals i;
        statements = statements i;
        returned = returned i;
      }

  pub is_unit : AreWords placed → IsUnit statics reset step
  is_unit words =
      record {
        well_named = subst IsWellNamed (sym unit_is) (well_named_if_unbroken is_subset placed are.unbroken);
        spellable = subst IsSpellable (sym unit_is) (words_are_spellable placed words);
      }
