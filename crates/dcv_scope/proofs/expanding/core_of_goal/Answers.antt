-- A goal within its slots whose shifts look at no quantified variable has a core.
use Rattle.std.proofs.Common.{ℕ, zero, suc, ◌≤◌, length, map, sym, ap, subst, ◌∙◌, List, [], ◌∷◌, arith}
use Rattle.std.proofs.lemmas.List.{length-map}
use Rattle.std.specs.List.{All}
use Rattle.std.specs.Option.{option_map}
use Rattle.dcv_scope.specs.declared.faults.ScopeFault.TheVariants.{BoundShift}
use Rattle.dcv_tracks.specs.declared.gathering.Shift.{Shift as OwnShift}
use Rattle.dcv_syntax.specs.Views.{plain_file}
use Rattle.dcv_core.specs.Steps.{CoreStep, without_core, steps_of}
use Rattle.dcv_core.specs.Slots.{IsBelow, OpIsBelow}
use Rattle.dcv_core.proofs.StepList.{steps_from-length}
use Rattle.dcv_tracks.specs.Shifting.{bound_shift}
use Rattle.dcv_tracks.specs.ShiftViews.{plain_shift}
use Rattle.dcv_tracks.proofs.Unbound.{AreUnbound, shifts_unbound, unbound_below}
use Rattle.dcv_scope.specs.CoreOf.{expanded_file}
use Rattle.dcv_scope.proofs.Faulting.{shift_fault, size_within, quantifiers_within}
use Rattle.dcv_scope.proofs.Fits.{file_fits}
use Rattle.dcv_scope.proofs.Sizes.{steps_all, goal_slots_are_few, goal_steps_below}
use Rattle.dcv_scope.proofs.expanding.core_of_goal.Goals as goal

pub returns-in-Some-clause-fault : goal.returns-in-Some-clause-fault
returns-in-Some-clause-fault c =
    let file = plain_file c.args.file.now in
    let is_core = c.requires.steps ∙ ap (λ k. map without_core (steps_of k (expanded_file file))) (sym c.requires.declared) in
    let found = c.bound_shift_of.ensures (expanded_file file) is_core ∙ ap (λ k. bound_shift k (expanded_file file)) c.requires.declared in
    λ memory. shift_fault file c.requires.within c.in_ok-shifts.ensures.slots c.bound_shift_of.result found ∙ ap (option_map BoundShift) c.in-Some.is

pub core_of-requires-clause-in_use : goal.core_of-requires-clause-in_use
core_of-requires-clause-in_use c =
    let file = plain_file c.args.file.now in
    subst (λ (steps : List CoreStep). All (λ (step : CoreStep). OpIsBelow step.slots step.op) steps) (sym c.requires.steps)
    (steps_all (λ (step : CoreStep). OpIsBelow step.slots step.op) _ (goal_steps_below file))

operands_below : (k : ℕ) (shifts : List OwnShift) → AreUnbound k (map plain_shift shifts) → All (λ (shift : OwnShift). IsBelow k (plain_shift shift).operand) shifts
operands_below k [] unbound place d within = absurd (omega (arith, within))
operands_below k (shift ∷ shifts) unbound zero d within = unbound_below k (plain_shift shift).operand unbound.0
operands_below k (shift ∷ shifts) unbound (suc place) d within = operands_below k shifts unbound.1 place d (omega (arith, within))

pub core_of-requires-clause-operands : goal.core_of-requires-clause-operands
core_of-requires-clause-operands c =
    let file = plain_file c.args.file.now in
    let k = length file.variables in
    let is_core = c.requires.steps ∙ ap (λ k. map without_core (steps_of k (expanded_file file))) (sym c.requires.declared) in
    let found = c.bound_shift_of.ensures (expanded_file file) is_core ∙ ap (λ k. bound_shift k (expanded_file file)) c.requires.declared in
    let unbound = shifts_unbound k (expanded_file file) (sym found ∙ c.in_default.is) in
    let listed = subst (AreUnbound k) (sym c.in_ok-shifts.ensures.shifts) unbound in
    let below = operands_below k c.in_ok-shifts.shifts.items listed in
    let here = subst (λ (shifts : List OwnShift). All (λ (shift : OwnShift). IsBelow k (plain_shift shift).operand) shifts) (sym c.deref.ensures.value) below in
    subst (λ n. All (λ (shift : OwnShift). IsBelow n (plain_shift shift).operand) c.deref.result.now) (sym c.requires.declared) here

pub core_of-requires-clause-slots : goal.core_of-requires-clause-slots
core_of-requires-clause-slots c =
    let file = plain_file c.args.file.now in
    let few = steps_all (λ (step : CoreStep). step.slots ≤ 32) _ (goal_slots_are_few file 32 (quantifiers_within file c.requires.within)) in
    let slots = subst (λ (steps : List CoreStep). All (λ (step : CoreStep). step.slots ≤ 32) steps) (sym c.requires.steps) few in
    let count = ap length c.deref.ensures.value ∙ sym (length-map c.in_ok-shifts.shifts.items plain_shift) ∙ ap length c.in_ok-shifts.ensures.shifts in
    let most = c.in_ok-shifts.ensures.slots in
    λ place d within. omega (arith, slots place d within, count, most)

pub core_of-requires-clause-steps : goal.core_of-requires-clause-steps
core_of-requires-clause-steps c =
    let file = plain_file c.args.file.now in
    let k = length file.variables in
    let count = ap length c.deref.ensures.value ∙ sym (length-map c.in_ok-shifts.shifts.items plain_shift) ∙ ap length c.in_ok-shifts.ensures.shifts in
    let most = c.in_ok-shifts.ensures.slots in
    let steps = ap length c.requires.steps ∙ length-map (steps_of k (expanded_file file)) without_core ∙ steps_from-length (expanded_file file) 0 k in
    omega (arith, steps, count, most, (file_fits file).steps, size_within file c.requires.within)

pub returns-clause-no_fault : goal.returns-clause-no_fault
returns-clause-no_fault c =
    let file = plain_file c.args.file.now in
    let is_core = c.requires.steps ∙ ap (λ k. map without_core (steps_of k (expanded_file file))) (sym c.requires.declared) in
    let found = c.bound_shift_of.ensures (expanded_file file) is_core ∙ ap (λ k. bound_shift k (expanded_file file)) c.requires.declared in
    shift_fault file c.requires.within c.in_ok-shifts.ensures.slots c.bound_shift_of.result found ∙ ap (option_map BoundShift) c.in_default.is
