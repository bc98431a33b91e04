-- Each step of a file's core is over few slots, and its proposition names only slots over which it is judged; and the steps are few.
use Rattle.std.proofs.Common.{◌≡◌, ℕ, zero, suc, ◌+◌, ◌≤◌, List, [], ◌∷◌, ◌++◌, Some, length, map, subst, arith}
use Rattle.std.specs.List.{All, AllByRecursion, slice_get}
use Rattle.std.proofs.lemmas.Option.{slice_get_within}
use Rattle.dcv_syntax.specs.Plain.{PlainFile}
use Rattle.dcv_core.specs.Core.{CoreTree, CoreAtom, CoreNot, CoreJoined, CoreChop, CoreStar, CoreExists}
use Rattle.dcv_core.specs.Steps.{PlainStep, CoreStep, without_core, steps_from, steps_of, nesting}
use Rattle.dcv_core.specs.Slots.{OpIsBelow, CoreIsBelow}
use Rattle.dcv_core.proofs.StepList.{some_same, steps_from-length}
use Rattle.dcv_tracks.proofs.ClosedSlots.{shifted_steps, shifted_nesting, shifted_below}
use Rattle.dcv_scope.specs.CoreOf.{expanded_file, core_of_file}
use Rattle.dcv_scope.specs.Laws.{StepsAreFew, SlotsAreFew, SlotsAreInUse}
use Rattle.dcv_scope.specs.Measures.{measure_of_file}
use Rattle.dcv_scope.proofs.Fits.{file_fits}

-- ---- of each step of a list

module _ (P : PlainStep → Type 0) where
  all_append : (xs ys : List PlainStep) → AllByRecursion P xs → AllByRecursion P ys → AllByRecursion P (xs ++ ys)
  all_append [] ys a b = b
  all_append (x ∷ xs) ys a b = (a.0, all_append xs ys a.1 b)

  -- the steps of one operand, or of two, and the operator's own
  of_one : (xs : List PlainStep) (own : PlainStep) → AllByRecursion P xs → P own → AllByRecursion P (xs ++ own ∷ [])
  of_one xs own a p = all_append xs (own ∷ []) a (p, tt)

  of_two : (xs ys : List PlainStep) (own : PlainStep) → AllByRecursion P xs → AllByRecursion P ys → P own → AllByRecursion P ((xs ++ ys) ++ own ∷ [])
  of_two xs ys own a b p = of_one (xs ++ ys) own (all_append xs ys a b) p

  at_step : (steps : List PlainStep) (n : ℕ) (step : PlainStep) → AllByRecursion P steps → slice_get steps n ≡ Some step → P step
  at_step [] n step a e = absurd (omega (arith, slice_get_within [] n step e))
  at_step (s ∷ steps) zero step a e = subst P (some_same s step e) a.0
  at_step (s ∷ steps) (suc n) step a e = at_step steps n step a.1 e

-- the same of the steps without their cores
pub steps_all : (P : CoreStep → Type 0) (steps : List PlainStep) → AllByRecursion (λ (s : PlainStep). P (without_core s)) steps → All P (map without_core steps)
steps_all P [] all place d within = absurd (omega (arith, within))
steps_all P (step ∷ steps) all zero d within = all.0
steps_all P (step ∷ steps) all (suc place) d within = steps_all P steps all.1 place d (omega (arith, within))

-- ---- of the steps of a core

steps_slots : (core : CoreTree) (n k bound : ℕ) → k + nesting core ≤ bound → AllByRecursion (λ (s : PlainStep). s.slots ≤ bound) (steps_from n k core)
steps_slots (CoreAtom basic span) n k bound le = (omega (arith, le), tt)
steps_slots (CoreNot d span) n k bound le = of_one _ (steps_from n k d) _ (steps_slots d n k bound le) (omega (arith, le))
steps_slots (CoreJoined connective c d span) n k bound le =
    of_two _ (steps_from n k c) _ _ (steps_slots c n k bound (omega (arith, le))) (steps_slots d _ k bound (omega (arith, le))) (omega (arith, le))
steps_slots (CoreChop c d span) n k bound le =
    of_two _ (steps_from n k c) _ _ (steps_slots c n k bound (omega (arith, le))) (steps_slots d _ k bound (omega (arith, le))) (omega (arith, le))
steps_slots (CoreStar d span) n k bound le = of_one _ (steps_from n k d) _ (steps_slots d n k bound le) (omega (arith, le))
steps_slots (CoreExists d span) n k bound le = of_one _ (steps_from n (k + 1) d) _ (steps_slots d n (k + 1) bound (omega (arith, le))) (omega (arith, le))

steps_below : (core : CoreTree) (n k : ℕ) → CoreIsBelow k core → AllByRecursion (λ (s : PlainStep). OpIsBelow s.slots s.op) (steps_from n k core)
steps_below (CoreAtom basic span) n k b = (b, tt)
steps_below (CoreNot d span) n k b = of_one _ (steps_from n k d) _ (steps_below d n k b) tt
steps_below (CoreJoined connective c d span) n k b = of_two _ (steps_from n k c) _ _ (steps_below c n k b.0) (steps_below d _ k b.1) tt
steps_below (CoreChop c d span) n k b = of_two _ (steps_from n k c) _ _ (steps_below c n k b.0) (steps_below d _ k b.1) tt
steps_below (CoreStar d span) n k b = of_one _ (steps_from n k d) _ (steps_below d n k b) tt
steps_below (CoreExists d span) n k b = of_one _ (steps_from n (k + 1) d) _ (steps_below d n (k + 1) b) tt

-- ---- of a file

module _ (file : PlainFile) where
  -- of the goal without its macros
  pub goal_slots_are_few : (bound : ℕ) → length file.variables + (measure_of_file file).quantifiers ≤ bound
      → AllByRecursion (λ (s : PlainStep). s.slots ≤ bound) (steps_of (length file.variables) (expanded_file file))
  goal_slots_are_few bound le = steps_slots (expanded_file file) 0 (length file.variables) bound (omega (arith, le, (file_fits file).depth))

  pub goal_steps_below : AllByRecursion (λ (s : PlainStep). OpIsBelow s.slots s.op) (steps_of (length file.variables) (expanded_file file))
  goal_steps_below = steps_below (expanded_file file) 0 (length file.variables) (file_fits file).below

pub steps_are_few : StepsAreFew
steps_are_few file =
    let k = length file.variables in
    omega (arith, (file_fits file).steps, shifted_steps k (expanded_file file), steps_from-length (core_of_file file) 0 k)

pub slots_are_few : SlotsAreFew
slots_are_few file n step e =
    let k = length file.variables in
    let within = at_step _ (steps_of k (core_of_file file)) n step (steps_slots (core_of_file file) 0 k (k + nesting (core_of_file file)) (omega arith)) e in
    omega (arith, within, shifted_nesting k (expanded_file file), (file_fits file).depth)

pub slots_are_in_use : SlotsAreInUse
slots_are_in_use file none n step e =
    let k = length file.variables in
    at_step _ (steps_of k (core_of_file file)) n step (steps_below (core_of_file file) 0 k (shifted_below k (expanded_file file) none (file_fits file).below)) e
