use Rattle.std.proofs.Common.{◌≡◌, ◌+◌, ◌-◌, length, ap, arith}
use Rattle.std.proofs.lemmas.List.{get_or_default}
use Rattle.dcv_io.proofs.Putting.{puts_both, puts_same}
use Rattle.dcv_dfa.specs.Raw.{RawValue}
use Rattle.dcv_language.specs.declared.child.Child.TheVariants.{State}
use Rattle.dcv_automaton_file.specs.Lines.{child_text}
use Rattle.dcv_lustre.proofs.ObserverText.{choice_text}
use Rattle.dcv_lustre.proofs.straight.put_choice.Goals as goal

pub returns : goal.returns
returns g c = λ (raw : RawValue).
    let rows = c.args.rows.now in
    let last : length rows - 1 + 1 ≡ length rows = omega (arith, c.requires) in
    puts_same _ _ _ _
    (puts_both _ _ _ _ _ (c.put_rows.ensures raw)
    (puts_same _ _ _ _ c.put_child.ensures (ap (λ child. child_text child) (get_or_default rows (length rows - 1) _ (State 0) (omega (arith, c.requires))))))
    (choice_text raw 0 rows (length rows - 1) last)
