-- The steps of a core that are atoms.
use Rattle.std.proofs.Common.{List, slice_get, refl, sym, ap, subst, ◌∙◌}
use Rattle.std.specs.Option.{option_map}
use Rattle.std.proofs.lemmas.Option.{slice_get-map}
use Rattle.dcv_core.specs.Steps.{CoreStep, steps_of, without_core}
use Rattle.dcv_core.specs.StepWords.{IsOperation}
use Rattle.dcv_core.specs.Laws.{WordsOfAtom, StepsAreOperations}
use Rattle.dcv_atoms.specs.Laws.{MachineAcceptsForm, MachineAcceptsAtom, MachineAcceptsStep, StepIsAtom}

pub accepts_atom : MachineAcceptsForm → WordsOfAtom → MachineAcceptsAtom
accepts_atom form words slots basic span word some = form slots basic word some ∙ sym (words basic span word some)

pub accepts_step : MachineAcceptsForm → StepsAreOperations → MachineAcceptsStep
accepts_step form steps k core n step basic there is word behaves =
    let words = subst (IsOperation (steps_of k core) n step) is (steps k core n step there) in
    form step.slots basic word behaves.nonempty ∙ sym (words word behaves)

pub step_is_atom : StepIsAtom
step_is_atom made k core n step basic same there is = record {
  own = without_core step;
  there = ap (λ (steps : List CoreStep). slice_get steps n) same ∙ slice_get-map without_core (steps_of k core) n ∙ ap (option_map without_core) there;
  form = is;
  width = refl;
}
