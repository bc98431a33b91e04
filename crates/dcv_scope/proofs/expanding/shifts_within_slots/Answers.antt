-- More shifts than there may be, or than there are slots for, are the goal's fault.
use Rattle.std.proofs.Common.{◌≡◌, length, sym, ap, ◌∙◌, arith}
use Rattle.std.proofs.lemmas.List.{length-map}
use Rattle.dcv_syntax.specs.Views.{plain_file}
use Rattle.dcv_tracks.specs.ShiftViews.{plain_shift}
use Rattle.dcv_scope.specs.CoreOf.{expanded_file}
use Rattle.dcv_scope.specs.Linear.{capped}
use Rattle.dcv_scope.specs.Measures.{measure_of_file}
use Rattle.dcv_scope.specs.declared.measures.Measure.{Measure as Numbers}
use Rattle.dcv_scope.proofs.Faulting.{slots_fault, quantifiers_within}
use Rattle.dcv_scope.proofs.expanding.shifts_within_slots.Goals as goal

pub returns-in-Err-TooMany-clause-fault : goal.returns-in-Err-TooMany-clause-fault
returns-in-Err-TooMany-clause-fault c =
    let file = plain_file c.args.file.now in
    let many = c.in-Err-TooMany.ensures.too_many c.in-Err-TooMany.field-0-is (expanded_file file) c.requires.goal in
    λ memory. slots_fault file c.requires.within (omega (arith, many))

pub returns-then-slots-clause-fault : goal.returns-then-slots-clause-fault
returns-then-slots-clause-fault c =
    let file = plain_file c.args.file.now in
    let shifts = c.in-Ok.ensures.shifts (expanded_file file) c.requires.goal in
    let count = sym (length-map c.in-Ok.shifts.items plain_shift) ∙ ap length shifts in
    let few = quantifiers_within file c.requires.within in
    let quantifiers : c.args.measure.quantifiers ≡ capped (measure_of_file file).quantifiers = ap (λ (m : Numbers). m.quantifiers) c.requires.measure in
    λ memory. slots_fault file c.requires.within (omega (arith, count, few, quantifiers, c.len.ensures, c.len-2.ensures, c.if-slots.true))
