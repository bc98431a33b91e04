use Rattle.std.proofs.Common.{◌≡◌, ◌++◌, ap, arith}
use Rattle.std.specs.Fmt.{decimal}
use Rattle.std.specs.List.{flat_map, range_with_len}
use Rattle.dcv_io.proofs.Putting.{puts_further, puts_nothing, puts_same}
use Rattle.dcv_automaton_file.proofs.PutLines.{number_more}
use Rattle.dcv_automaton_file.specs.Lines.{in_turn}
use Rattle.dcv_automaton_file.proofs.lines.put_numbers.Goals as goal

pub loop-number-init : goal.loop-number-init
loop-number-init g c = puts_nothing _

pub loop-number-preserved : goal.loop-number-preserved
loop-number-preserved g c =
    puts_further _ _ _ _ _ _ c.loop-number.invariant c.put_number.ensures
    (number_more (λ number. in_turn c.args.before.now ++ (decimal number ++ c.args.after.now)) c.loop-number.number)

pub returns : goal.returns
returns g c =
    let end : c.loop-number.number ≡ c.args.count = omega (arith, c.loop-number-test.false) in
    puts_same _ _ _ _ c.loop-number.invariant
    (ap (λ n. flat_map (λ number. in_turn c.args.before.now ++ (decimal number ++ c.args.after.now)) (range_with_len 0 n)) end)
