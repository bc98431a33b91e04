-- Where all names of a unit keep the rules, part by part.
--     all_kept judged       all of some judgements are that the rules are kept
--     KeepsRules unit       so it is of each part of the unit
--     kept_rules, keeps     a unit is well named exactly where this is so
use Rattle.std.proofs.Common.{◌≡◌, Bool, true, List, [], ◌∷◌, ◌++◌, refl}
use Rattle.std.specs.List.{list_all}
use Rattle.std.proofs.lemmas.Bool.{and_parts, and_from}
use Rattle.dcv_c.specs.Tree.{CUnit}
use Rattle.dcv_c.specs.Rules.{keeps_new, keeps_apart, keeps_parameters, keeps_assignments, keeps_statements, has_all_assignments, before_step}
use Rattle.dcv_c.specs.Rules.{before_parameters, before_locals, judged, IsWellNamed}

abbrev pub all_kept : List Bool → Bool
all_kept judged = list_all (λ keeps. keeps) judged

pub kept_append : (judged more : List Bool) → all_kept judged ≡ true → all_kept more ≡ true → all_kept (judged ++ more) ≡ true
kept_append [] more h k = k
kept_append (first ∷ judged) more h k =
    let parts = and_parts first (all_kept judged) h in and_from first _ parts.0 (kept_append judged more parts.1 k)

pub kept_parts : (judged more : List Bool) → all_kept (judged ++ more) ≡ true → (all_kept judged ≡ true) × (all_kept more ≡ true)
kept_parts [] more h = (refl, h)
kept_parts (first ∷ judged) more h =
    let parts = and_parts first (all_kept (judged ++ more)) h in
    let rest = kept_parts judged more parts.1 in
    (and_from first (all_kept judged) parts.0 rest.0, rest.1)

pub record KeepsRules (unit : CUnit) : Type 0 where
  pub statics : all_kept (keeps_apart [] unit.statics) ≡ true
  pub reset : keeps_new unit.statics unit.reset ≡ true
  pub assignments : all_kept (keeps_assignments unit.statics [] unit.assignments) ≡ true
  pub all_assigned : has_all_assignments unit ≡ true
  pub step : keeps_new (before_step unit) unit.step ≡ true
  pub parameters : all_kept (keeps_parameters (before_parameters unit) 0 unit.parameters) ≡ true
  pub locals : all_kept (keeps_apart (before_locals unit) unit.locals) ≡ true
  pub statements : all_kept (keeps_statements unit (unit.statics ++ unit.parameters) unit.statements) ≡ true

pub kept_rules : (unit : CUnit) → IsWellNamed unit → KeepsRules unit
unfolding judged
kept_rules unit well =
    let first = kept_parts (keeps_apart [] unit.statics) _ well in
    let second = and_parts (keeps_new unit.statics unit.reset) _ first.1 in
    let third = kept_parts (keeps_assignments unit.statics [] unit.assignments) _ second.1 in
    let fourth = and_parts (has_all_assignments unit) _ third.1 in
    let fifth = and_parts (keeps_new (before_step unit) unit.step) _ fourth.1 in
    let sixth = kept_parts (keeps_parameters (before_parameters unit) 0 unit.parameters) _ fifth.1 in
    let last = kept_parts (keeps_apart (before_locals unit) unit.locals) _ sixth.1 in
    record {
      statics = first.0;
      reset = second.0;
      assignments = third.0;
      all_assigned = fourth.0;
      step = fifth.0;
      parameters = sixth.0;
      locals = last.0;
      statements = last.1;
    }

pub keeps : (unit : CUnit) → KeepsRules unit → IsWellNamed unit
unfolding judged
keeps unit are =
    let last = kept_append (keeps_apart (before_locals unit) unit.locals) _ are.locals are.statements in
    let sixth = kept_append (keeps_parameters (before_parameters unit) 0 unit.parameters) _ are.parameters last in
    let fifth = and_from (keeps_new (before_step unit) unit.step) _ are.step sixth in
    let fourth = and_from (has_all_assignments unit) _ are.all_assigned fifth in
    let third = kept_append (keeps_assignments unit.statics [] unit.assignments) _ are.assignments fourth in
    kept_append (keeps_apart [] unit.statics) _ are.statics (and_from (keeps_new unit.statics unit.reset) _ are.reset third)
