-- Why files have no joint list, or a core is not over it.
--     most_names             how many names a joint list may have, and over how many slots a step may be
--     too_many_at most names more       where the first of the others begins with which the list has more names than that
--     has_few_slots places width steps  each step is over no more slots than that
--     IsFaultOfNames, IsFaultOfCore     what a fault says
use Rattle.std.specs.Prelude.{◌≡◌, ℕ, Bool, false, nat_le, if◌then◌else◌, List, [], ◌∷◌, length, Option, None, Some}
use Rattle.std.specs.List.{list_all}
use Rattle.dcv_core.specs.Steps.{CoreStep}
use Rattle.dcv_joint.specs.declared.joint.JointFault.{JointFault}
use Rattle.dcv_joint.specs.declared.joint.JointFault.TheVariants.{TooMany, Slots, Memory}
use Rattle.dcv_joint.specs.Moved.{moved_slots}
use Rattle.dcv_joint.specs.Names.{with_name}
use Rattle.dcv_syntax.specs.declared.names.Name.{Name}

abbrev pub most_names : ℕ
most_names = 32

-- at the byte where the name begins
abbrev pub too_many_at : ℕ → List (List ℕ) → List Name → Option ℕ
too_many_at most names [] = None
too_many_at most names (name ∷ more) =
    if nat_le (length (with_name names name.text)) most then too_many_at most (with_name names name.text) more else Some name.span.start

abbrev pub has_few_slots : List ℕ → ℕ → List CoreStep → Bool
has_few_slots places width steps = list_all (λ (step : CoreStep). nat_le (moved_slots places width step.slots) most_names) steps

-- what a fault says of a joint list to which names are added
abbrev pub IsFaultOfNames : List (List ℕ) → List Name → JointFault → Type 0
IsFaultOfNames joint more (TooMany at) = too_many_at most_names joint more ≡ Some at
IsFaultOfNames joint more Slots = ⊥
IsFaultOfNames joint more Memory = Unit {0}

-- and of the steps of a core whose names have these places among so many
abbrev pub IsFaultOfCore : List ℕ → ℕ → List CoreStep → JointFault → Type 0
IsFaultOfCore places width steps (TooMany at) = ⊥
IsFaultOfCore places width steps Slots = has_few_slots places width steps ≡ false
IsFaultOfCore places width steps Memory = Unit {0}
