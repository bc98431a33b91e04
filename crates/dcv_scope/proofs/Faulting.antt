-- Which fault a goal has, where its measures alone show none, or one.
use Rattle.std.proofs.Common.{◌≡◌, ℕ, ◌+◌, ◌<◌, ◌≤◌, Bool, true, false, Option, None, Some, length, refl, sym, ap, ◌∙◌, arith, true≢false}
use Rattle.std.specs.Prelude.{nat_le, if◌then◌else◌}
use Rattle.std.specs.Option.{option_or, option_map}
use Rattle.std.proofs.lemmas.Bool.Decides.{nat_tests}
use Rattle.dcv_syntax.specs.Plain.{PlainFile}
use Rattle.dcv_tracks.specs.Shifting.{bound_shift}
use Rattle.dcv_scope.specs.declared.faults.ScopeFault.{ScopeFault}
use Rattle.dcv_scope.specs.declared.faults.ScopeFault.TheVariants.{Size, Depth, Slots, BoundShift}
use Rattle.dcv_scope.specs.CoreOf.{expanded_file}
use Rattle.dcv_scope.specs.Measures.{measure_of_file, slots_of_file}
use Rattle.dcv_scope.specs.Laws.{HasNoBoundShift}
use Rattle.dcv_scope.specs.Faults.{most_nodes, most_depth, most_slots, above, measure_fault, fault_of_goal}

abbrev is_filled : Option ScopeFault → Bool
is_filled None = false
is_filled (Some fault) = true

-- the first of two is what it is, or there is only the second
first_or_none : (first second : Option ScopeFault) → option_or first second ≡ None → (first ≡ None) × (second ≡ None)
first_or_none None second is = (refl, is)
first_or_none (Some fault) second is = absurd (true≢false (ap is_filled is))

none_first : (first second : Option ScopeFault) → first ≡ None → option_or first second ≡ second
none_first first second is = ap (λ one. option_or one second) is

not_above : (most n : ℕ) (fault : ScopeFault) → above most n fault ≡ None → n ≤ most
not_above most n fault none = few (nat_le n most) refl none
  where
    few : (is_few : Bool) → nat_le n most ≡ is_few → (if is_few then None else Some fault) ≡ None → n ≤ most
    few true is none = grind (arith, nat_tests)
    few false is none = absurd (true≢false (ap is_filled none))

are_above : (most n : ℕ) (fault : ScopeFault) → most < n → above most n fault ≡ Some fault
are_above most n fault more =
    let many : nat_le n most ≡ false = grind (arith, nat_tests) in
    ap (λ (few : Bool). if few then None else Some fault) many

are_few : (most n : ℕ) (fault : ScopeFault) → n ≤ most → above most n fault ≡ None
are_few most n fault le =
    let few : nat_le n most ≡ true = grind (arith, nat_tests) in
    ap (λ (few : Bool). if few then None else Some fault) few

module _ (file : PlainFile) where
  abbrev at : ℕ
  at = file.goal.span.start

  abbrev few : ℕ
  few = length file.variables + (measure_of_file file).quantifiers

  -- the fault of a shift
  abbrev later : Option ScopeFault
  later = option_map BoundShift (bound_shift (length file.variables) (expanded_file file))

  more_slots : few ≤ slots_of_file file
  more_slots = omega arith

  last_faults : fault_of_goal file ≡ None
      → (above most_slots (slots_of_file file) (Slots at) ≡ None) × (option_map BoundShift (bound_shift (length file.variables) (expanded_file file)) ≡ None)
  last_faults none =
      let of_slots = option_or (above most_slots (slots_of_file file) (Slots at)) (option_map BoundShift (bound_shift (length file.variables) (expanded_file file))) in
      let of_depth = option_or (above most_depth (measure_of_file file).depth (Depth at)) of_slots in
      let behind_size = (first_or_none (above most_nodes (measure_of_file file).size (Size at)) of_depth none).1 in
      first_or_none (above most_slots (slots_of_file file) (Slots at)) _ (first_or_none (above most_depth (measure_of_file file).depth (Depth at)) of_slots behind_size).1

  module _ (none : measure_fault file ≡ None) where
    depths : option_or (above most_depth (measure_of_file file).depth (Depth at)) (above most_slots few (Slots at)) ≡ None
    depths = (first_or_none (above most_nodes (measure_of_file file).size (Size at)) (option_or (above most_depth (measure_of_file file).depth (Depth at)) (above most_slots few (Slots at))) none).1

    pub size_within : (measure_of_file file).size ≤ most_nodes
    size_within =
        not_above most_nodes (measure_of_file file).size (Size at)
        (first_or_none (above most_nodes (measure_of_file file).size (Size at)) (option_or (above most_depth (measure_of_file file).depth (Depth at)) (above most_slots few (Slots at))) none).0

    depth_within : (measure_of_file file).depth ≤ most_depth
    depth_within =
        not_above most_depth (measure_of_file file).depth (Depth at)
        (first_or_none (above most_depth (measure_of_file file).depth (Depth at)) (above most_slots few (Slots at)) depths).0

    pub quantifiers_within : few ≤ most_slots
    quantifiers_within = not_above most_slots few (Slots at) (first_or_none (above most_depth (measure_of_file file).depth (Depth at)) (above most_slots few (Slots at)) depths).1

    only_shifts : fault_of_goal file ≡ option_or (above most_slots (slots_of_file file) (Slots at)) (option_map BoundShift (bound_shift (length file.variables) (expanded_file file)))
    only_shifts =
        none_first (above most_nodes (measure_of_file file).size (Size at)) _ (are_few most_nodes (measure_of_file file).size (Size at) size_within)
        ∙ none_first (above most_depth (measure_of_file file).depth (Depth at)) _ (are_few most_depth (measure_of_file file).depth (Depth at) depth_within)

    pub slots_fault : most_slots < slots_of_file file → fault_of_goal file ≡ Some (Slots at)
    slots_fault more =
        only_shifts
        ∙ ap (λ first. option_or first (option_map BoundShift (bound_shift (length file.variables) (expanded_file file)))) (are_above most_slots (slots_of_file file) (Slots at) more)

    pub shift_fault : slots_of_file file ≤ most_slots → (found : Option ℕ) → found ≡ bound_shift (length file.variables) (expanded_file file)
        → fault_of_goal file ≡ option_map BoundShift found
    shift_fault le found is =
        only_shifts
        ∙ none_first (above most_slots (slots_of_file file) (Slots at)) _ (are_few most_slots (slots_of_file file) (Slots at) le)
        ∙ ap (option_map BoundShift) (sym is)

  -- a goal without a fault has no more slots than it may
  pub few_slots : fault_of_goal file ≡ None → slots_of_file file ≤ most_slots
  few_slots none = not_above most_slots (slots_of_file file) (Slots at) (last_faults none).0

  -- and no shift that looks at a quantified variable
  pub no_bound_shift : fault_of_goal file ≡ None → HasNoBoundShift file
  no_bound_shift none = unmapped (bound_shift (length file.variables) (expanded_file file)) (last_faults none).1
    where
      unmapped : (found : Option ℕ) → option_map BoundShift found ≡ None → found ≡ None
      unmapped None is = refl
      unmapped (Some place) is = absurd (true≢false (ap is_filled is))

  -- a fault that the measures show is the goal's
  pub measures_first : (fault : ScopeFault) → measure_fault file ≡ Some fault → fault_of_goal file ≡ Some fault
  measures_first fault is =
      of_size (above most_nodes (measure_of_file file).size (Size at)) (above most_depth (measure_of_file file).depth (Depth at)) is
    where
      of_slots : above most_slots few (Slots at) ≡ Some fault → option_or (above most_slots (slots_of_file file) (Slots at)) later ≡ Some fault
      of_slots is = by_many (nat_le few most_slots) refl is
        where
          by_many : (is_few : Bool) → nat_le few most_slots ≡ is_few → (if is_few then None else Some (Slots at)) ≡ Some fault
              → option_or (above most_slots (slots_of_file file) (Slots at)) later ≡ Some fault
          by_many true many is = absurd (true≢false (sym (ap is_filled is)))
          by_many false many is =
              let more : most_slots < few = grind (arith, nat_tests) in
              ap (λ first. option_or first later) (are_above most_slots (slots_of_file file) (Slots at) (omega (arith, more, more_slots))) ∙ is

      of_depth : (depth : Option ScopeFault) → option_or depth (above most_slots few (Slots at)) ≡ Some fault
          → option_or depth (option_or (above most_slots (slots_of_file file) (Slots at)) later) ≡ Some fault
      of_depth None is = of_slots is
      of_depth (Some other) is = is

      of_size : (size depth : Option ScopeFault) → option_or size (option_or depth (above most_slots few (Slots at))) ≡ Some fault
          → option_or size (option_or depth (option_or (above most_slots (slots_of_file file) (Slots at)) later)) ≡ Some fault
      of_size None depth is = of_depth depth is
      of_size (Some other) depth is = is
