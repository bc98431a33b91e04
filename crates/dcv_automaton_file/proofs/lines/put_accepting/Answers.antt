use Rattle.std.proofs.Common.{◌<◌, ◌++◌, ◌∷◌, [], List, cond, length, take, sym, ap, ◌∙◌, arith, refl}
use Rattle.std.specs.Fmt.{decimal}
use Rattle.std.proofs.lemmas.List.{take_all}
use Rattle.dcv_io.proofs.Putting.{puts_both, puts_further, puts_nothing, puts_same}
use Rattle.dcv_language.specs.declared.child.Child.{Child}
use Rattle.dcv_automaton_file.specs.File.{state_lines}
use Rattle.dcv_automaton_file.specs.Lines.{number_of, accepting_numbers, listed}
use Rattle.dcv_automaton_file.proofs.Rows.{flags_more}
use Rattle.dcv_automaton_file.proofs.PutLines.{has_some, joined, some_further, texts_further, texts_end}
use Rattle.dcv_automaton_file.proofs.lines.put_accepting.Goals as goal

pub loop-state-init : goal.loop-state-init
loop-state-init g c = λ (rows : List Child) size. (refl, puts_nothing _)

pub loop-state-preserved : goal.loop-state-preserved
loop-state-preserved g c = λ (rows : List Child) size.
    let raw = c.args.auto.now in
    let k = c.loop-state.state in
    let listing = c.args.listing.now in
    let before = accepting_numbers (state_lines raw (take k rows)) in
    let within : k < length rows = omega (arith, c.loop-state-test.true, size) in
    let (some, put) = c.loop-state.invariant rows size in
    let more = flags_more number_of raw rows k within ∙ ap (λ b. before ++ cond b (decimal k ∷ []) []) (sym c.accepting.ensures) in (
      c.put_if_accepting-some.ensures.some ∙ some_further before c.accepting.result c.loop-state.some (decimal k) some ∙ ap has_some (sym more),
      puts_further _ _ _ _ _ _ put c.put_if_accepting-some.ensures.puts
          (ap (joined listing) more ∙ texts_further listing before c.accepting.result c.loop-state.some (decimal k) some),
    )

pub returns : goal.returns
returns g c = λ (rows : List Child) size.
    let raw = c.args.auto.now in
    let listing = c.args.listing.now in
    let (some, put) = c.loop-state.invariant rows size in
    let whole = ap (λ rows. accepting_numbers (state_lines raw rows)) (take_all c.loop-state.state rows (omega (arith, c.loop-state-test.false, size))) in
    puts_same _ _ _ _ (puts_both _ _ _ _ _ put c.put_unless.ensures)
    (texts_end listing (accepting_numbers (state_lines raw (take c.loop-state.state rows))) c.loop-state.some some ∙ ap (listed listing) whole)
