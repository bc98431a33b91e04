-- The core of a file over the joint names.
use Rattle.std.proofs.Common.{◌≡◌, ℕ, suc, ◌+◌, List, [], ◌∷◌, ◌++◌, Option, Some, None, length, refl, sym, subst, ◌∙◌}
use Rattle.std.specs.List.{AllByRecursion, slice_get}
use Rattle.std.specs.Option.{option_or}
use Rattle.std.proofs.lemmas.List.{length-map}
use Rattle.std.proofs.lemmas.List.Elements.{All-map, All-from_recursion}
use Rattle.dcv_core.specs.Core.{CoreTree, CoreAtom, CoreNot, CoreJoined, CoreChop, CoreStar, CoreExists}
use Rattle.dcv_core.specs.Slots.{OpIsBelow, CoreIsBelow}
use Rattle.dcv_core.specs.Steps.{PlainStep, CoreStep, without_core, steps_before, steps_from, steps_of}
use Rattle.dcv_scope.specs.CoreOf.{core_of_file}
use Rattle.dcv_scope.specs.Faults.{fault_of_goal, fault_of_file}
use Rattle.dcv_scope.specs.Laws.{HasNoBoundShift, WordsAreModels, SlotsAreInUse}
use Rattle.dcv_scope.specs.Names.{fault_of_names, texts}
use Rattle.dcv_scope.specs.declared.faults.ScopeFault.{ScopeFault}
use Rattle.dcv_scope.proofs.Faulting.{no_bound_shift}
use Rattle.dcv_syntax.specs.Plain.{PlainFile}
use Rattle.dcv_syntax.specs.declared.names.Name.{Name}
use Rattle.dcv_word.specs.Behaviour.{IsBehaviour}
use Rattle.dcv_joint.specs.Laws.{FileMeansOver, StepsAreInUse}
use Rattle.dcv_joint.specs.Names.{restricted}
use Rattle.dcv_joint.proofs.Places.{moved_means, restricted_is_behaviour}

-- ---- slots in use, of the steps and of their tree

abbrev IsInUse : PlainStep → Type 0
IsInUse step = OpIsBelow step.slots step.op

abbrev AreInUse : List PlainStep → Type 0
AreInUse steps = AllByRecursion IsInUse steps

parts : (xs ys : List PlainStep) → AreInUse (xs ++ ys) → AreInUse xs × AreInUse ys
parts [] ys all = (tt, all)
parts (x ∷ xs) ys all = let more = parts xs ys all.1 in ((all.0, more.0), more.1)

each_in_use : (steps : List PlainStep) → ((n : ℕ) (step : PlainStep) → slice_get steps n ≡ Some step → IsInUse step) → AreInUse steps
each_in_use [] each = tt
each_in_use (step ∷ steps) each = (each 0 step refl, each_in_use steps (λ n other is. each (suc n) other is))

tree_in_use : (tree : CoreTree) (n s : ℕ) → AreInUse (steps_from n s tree) → CoreIsBelow s tree
tree_in_use (CoreAtom basic span) n s all = all.0
tree_in_use (CoreNot d span) n s all = tree_in_use d n s (parts (steps_from n s d) (_ ∷ []) all).0
tree_in_use (CoreJoined connective c d span) n s all =
    let both = parts (steps_from n s c) (steps_from (suc (n + steps_before c)) s d) (parts (steps_from n s c ++ steps_from (suc (n + steps_before c)) s d) (_ ∷ []) all).0 in
    (tree_in_use c n s both.0, tree_in_use d (suc (n + steps_before c)) s both.1)
tree_in_use (CoreChop c d span) n s all =
    let both = parts (steps_from n s c) (steps_from (suc (n + steps_before c)) s d) (parts (steps_from n s c ++ steps_from (suc (n + steps_before c)) s d) (_ ∷ []) all).0 in
    (tree_in_use c n s both.0, tree_in_use d (suc (n + steps_before c)) s both.1)
tree_in_use (CoreStar d span) n s all = tree_in_use d n s (parts (steps_from n s d) (_ ∷ []) all).0
tree_in_use (CoreExists d span) n s all = tree_in_use d n (s + 1) (parts (steps_from n (s + 1) d) (_ ∷ []) all).0

-- ---- files without a fault

no_shift : (file : PlainFile) → fault_of_file file ≡ None → HasNoBoundShift file
no_shift file none = no_bound_shift file (last (fault_of_names file) (fault_of_goal file) none)
  where
    last : (a b : Option ScopeFault) → option_or a b ≡ None → b ≡ None
    last None b is = is
    last (Some fault) b is = absurd (cc)

module _ (in_use : SlotsAreInUse) where
  all_in_use : (file : PlainFile) → fault_of_file file ≡ None → AreInUse (steps_of (length file.variables) (core_of_file file))
  all_in_use file none = each_in_use (steps_of (length file.variables) (core_of_file file)) (in_use file (no_shift file none))

  pub steps_are_in_use : StepsAreInUse
  steps_are_in_use file none =
      let steps = steps_of (length file.variables) (core_of_file file) in
      All-map (λ (step : CoreStep). OpIsBelow step.slots step.op) without_core steps (All-from_recursion IsInUse steps (all_in_use file none))

  pub file_means_over : WordsAreModels → FileMeansOver
  file_means_over means joint file all none word is =
      let own = texts file.variables in
      let few : length own ≡ length file.variables = length-map file.variables (λ (name : Name). name.text) in
      let below = subst (λ n. CoreIsBelow n (core_of_file file)) (sym few) (tree_in_use (core_of_file file) 0 (length file.variables) (all_in_use file none)) in
      moved_means joint own (core_of_file file) word all below is
      ∙ means file (restricted joint own word) (no_shift file none)
      (subst (λ n. IsBehaviour n (restricted joint own word)) few (restricted_is_behaviour joint own word is))
