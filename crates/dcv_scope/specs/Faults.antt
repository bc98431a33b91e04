-- The first fault of a file: of its names, and else of its goal, whose size comes before its depth, its slots, and a shift that looks at a quantified
-- variable.
--     most_nodes, most_depth, most_slots   the limits of a goal
--     fault_of_goal        the fault of the goal's measures, at the goal's first token
--     fault_of_file        the first fault of the file; it has a core where it has none
use Rattle.std.specs.Prelude.{ℕ, ◌+◌, Option, None, Some, nat_le, if◌then◌else◌, length}
use Rattle.std.specs.Option.{option_or, option_map}
use Rattle.dcv_syntax.specs.Plain.{PlainFile}
use Rattle.dcv_scope.specs.declared.faults.ScopeFault.{ScopeFault}
use Rattle.dcv_scope.specs.declared.faults.ScopeFault.TheVariants.{Size, Depth, Slots, BoundShift}
use Rattle.dcv_scope.specs.Names.{fault_of_names}
use Rattle.dcv_scope.specs.CoreOf.{expanded_file}
use Rattle.dcv_scope.specs.Measures.{measure_of_file, slots_of_file}
use Rattle.dcv_tracks.specs.Shifting.{bound_shift}

-- how many nodes a goal may have, how many of them one below another, and how many slots
abbrev pub most_nodes : ℕ
most_nodes = 65536

abbrev pub most_depth : ℕ
most_depth = 512

abbrev pub most_slots : ℕ
most_slots = 32

-- the fault, where the number is above the most
abbrev pub above : ℕ → ℕ → ScopeFault → Option ScopeFault
above most n fault = if nat_le n most then None else Some fault

-- the fault that the goal's measures alone show
abbrev pub measure_fault : PlainFile → Option ScopeFault
measure_fault file =
    let at = file.goal.span.start in
    option_or (above most_nodes (measure_of_file file).size (Size at))
    (option_or (above most_depth (measure_of_file file).depth (Depth at)) (above most_slots (length file.variables + (measure_of_file file).quantifiers) (Slots at)))

abbrev pub fault_of_goal : PlainFile → Option ScopeFault
fault_of_goal file =
    let at = file.goal.span.start in
    option_or (above most_nodes (measure_of_file file).size (Size at))
    (option_or (above most_depth (measure_of_file file).depth (Depth at))
    (option_or (above most_slots (slots_of_file file) (Slots at)) (option_map BoundShift (bound_shift (length file.variables) (expanded_file file)))))

abbrev pub fault_of_file : PlainFile → Option ScopeFault
fault_of_file file = option_or (fault_of_names file) (fault_of_goal file)
