-- The sight in which the expansion begins is that of the goal.
use Rattle.std.proofs.Common.{◌≡◌, ℕ, ◌+◌, ◌≤◌, List, [], ◌++◌, length, map, sym, ap, ◌∙◌, arith}
use Rattle.dcv_syntax.specs.declared.names.Name.{Name}
use Rattle.dcv_syntax.specs.declared.files.Macro.{Macro}
use Rattle.dcv_syntax.specs.declared.files.File.{File}
use Rattle.dcv_syntax.specs.Plain.{PlainFile}
use Rattle.dcv_syntax.specs.Views.{plain_formula_kind, plain_macro, plain_file}
use Rattle.dcv_scope.specs.declared.expansion.Binding.{Binding}
use Rattle.dcv_core.specs.Core.{CoreTree}
use Rattle.dcv_scope.specs.CoreOf.{Sight, declared_slots, core_of, goal_sight, expanded_file}
use Rattle.dcv_scope.specs.Faults.{most_nodes}
use Rattle.dcv_scope.specs.Measures.{measure_of_file}
use Rattle.dcv_core.specs.Steps.{without_core, steps_from, steps_of, PlainCore, Made, HasRoom}
use Rattle.dcv_scope.specs.Expansions.{names_of, top_sight_of}
use Rattle.dcv_scope.proofs.InSight.{with_expansions-truths}
use Rattle.dcv_scope.proofs.Fits.{goal_slots, file_fits}

module _ (file : File) (k : ℕ) (names : List Binding) where
  sight_is : k ≡ length file.variables.items → names_of names ≡ declared_slots 0 file.variables.items
      → record { slots = k; truths = names_of names; macros = (top_sight_of file.variables.items file.macros.items).macros } ≡ goal_sight (plain_file file)
  unfolding top_sight_of
  sight_is slots truths =
      let slots_are : k ≡ (goal_sight (plain_file file)).slots = slots ∙ sym (goal_slots (map plain_macro file.macros.items) _) in
      let truths_are : names_of names ≡ (goal_sight (plain_file file)).truths = truths ∙ sym (with_expansions-truths (map plain_macro file.macros.items) _) in
      λ i. record { slots = slots_are i; truths = truths_are i; macros = (goal_sight (plain_file file)).macros }

  pub goal_core : (variables : List Name) (macros : List Macro) → variables ≡ file.variables.items → macros ≡ file.macros.items → k ≡ length file.variables.items
      → names_of names ≡ declared_slots 0 file.variables.items
      → core_of (record { slots = k; truths = names_of names; macros = (top_sight_of variables macros).macros }) (plain_formula_kind file.goal.formula.kind) file.goal.formula.span
      ≡ expanded_file (plain_file file)
  goal_core variables macros variables_are macros_are slots truths =
      let core : Sight → CoreTree = λ s. core_of s (plain_formula_kind file.goal.formula.kind) file.goal.formula.span in
      (λ i. core (record { slots = k; truths = names_of names; macros = (top_sight_of (variables_are i) (macros_are i)).macros })) ∙ ap core (sight_is slots truths)

-- a goal within the limits has numbers enough
pub goal_room : (file : PlainFile) (old : PlainCore) → old.steps ≡ [] → (measure_of_file file).size ≤ most_nodes → length file.variables + (measure_of_file file).quantifiers ≤ 32
    → HasRoom old (length file.variables) (expanded_file file)
goal_room file old empty size slots = record {
  enough_steps = omega (arith, ap length empty, (file_fits file).steps, size);
  enough_slots = omega (arith, (file_fits file).depth, slots);
}

-- what is made where there were no steps
pub made_whole : {old new : PlainCore} {k last : ℕ} {core : CoreTree} → Made old k core new last → old.steps ≡ [] → new.steps ≡ map without_core (steps_of k core)
made_whole {old} {new} {k} {last} {core} made empty =
    ap (λ (c : PlainCore). c.steps) made.added ∙ ap (λ steps. steps ++ map without_core (steps_from (length steps) k core)) empty
