use Rattle.std.proofs.Common.{◌≡◌, ℕ, ◌+◌, ◌<◌, List, [], length, get_or, sym, ◌∙◌, subst, Ok, Err, arith}
use Rattle.std.proofs.lemmas.List.{get_or-map, length-map}
use Rattle.std.specs.Borrow.{Bor}
use Rattle.dcv_automaton_read.specs.Judged.{IsJudged, first_word}
use Rattle.dcv_automaton_read.specs.Parts.{judged_lines}
use Rattle.dcv_automaton_read.specs.Seen.{texts_of}
use Rattle.dcv_automaton_read.proofs.Judging.{at_start, one_more, stops_here, all_kept, handed_on}
use Rattle.dcv_automaton_read.proofs.NameWords.{one_word, keeps_word, names_as_lines, name_flag, word_judged, some_there, kept_are_few}
use Rattle.dcv_automaton_read.proofs.names.judge_names.Goals as goal

pub loop-place-init : goal.loop-place-init
loop-place-init c = (at_start one_word (keeps_word (texts_of c.args.names.now)) (texts_of c.args.names.now) c.args.first 0 0, omega arith, omega arith)

pub judge-requires : goal.judge-requires
judge-requires c = omega (arith, c.loop-place.invariant.1, c.loop-place.invariant.2)

pub returns-in_err-number-clause-judged : goal.returns-in_err-number-clause-judged
returns-in_err-number-clause-judged c =
    let names = texts_of c.args.names.now in
    let place = c.loop-place.place in
    let nothing : Bor (List ℕ) = record { ref_ptr = (0, 0); now = [] } in
    let name = (get_or c.args.names.now place nothing).now in
    let at : get_or names place name ≡ name = get_or-map (λ (one : Bor (List ℕ)). one.now) c.args.names.now place nothing name c.loop-place-test.true in
    let below : place < length names = omega (arith, c.loop-place-test.true, length-map c.args.names.now (λ (one : Bor (List ℕ)). one.now)) in
    let flag = name_flag c.args.names.now place name c.keeps_name.result (omega arith) c.keeps_name.ensures in
    subst (λ words. IsJudged (first_word c.args.first words) (c.args.first + length words) c.from_residual.result) (sym (names_as_lines names (omega (arith, below))))
    (handed_on _ _ _ c.from_residual.result c.from_residual.ensures.1
    (stops_here one_word (keeps_word names) names c.args.first place c.loop-place.number name (c.loop-place.number + 1) (c.args.first + length (judged_lines one_word (keeps_word names) 0 names)) c.in_err-number.field-0.0 below at c.loop-place.invariant.0
    (word_judged names place c.loop-place.number (c.loop-place.number + 1) name c.keeps_name.result (Err c.in_err-number.field-0.0) flag c.in_err-number.ensures.judged)))

pub loop-place-preserved : goal.loop-place-preserved
loop-place-preserved c =
    let names = texts_of c.args.names.now in
    let place = c.loop-place.place in
    let nothing : Bor (List ℕ) = record { ref_ptr = (0, 0); now = [] } in
    let name = (get_or c.args.names.now place nothing).now in
    let at : get_or names place name ≡ name = get_or-map (λ (one : Bor (List ℕ)). one.now) c.args.names.now place nothing name c.loop-place-test.true in
    let below : place < length names = omega (arith, c.loop-place-test.true, length-map c.args.names.now (λ (one : Bor (List ℕ)). one.now)) in
    let flag = name_flag c.args.names.now place name c.keeps_name.result (omega arith) c.keeps_name.ensures in
    let judged = word_judged names place c.loop-place.number (c.loop-place.number + 1) name c.keeps_name.result (Ok c.in_ok-number.number) flag c.in_ok-number.ensures.judged in
    let few = kept_are_few names place name (sym flag ∙ c.in_ok-number.ensures.kept.0) in (
      one_more one_word (keeps_word names) names c.args.first place c.loop-place.number name c.in_ok-number.number below at c.loop-place.invariant.0 judged.0 judged.1,
      omega (arith, judged.1, c.loop-place.invariant.1),
      omega (arith, few),
    )

pub returns-clause-judged : goal.returns-clause-judged
returns-clause-judged c =
    let names = texts_of c.args.names.now in
    let size = length-map c.args.names.now (λ (one : Bor (List ℕ)). one.now) in
    let some = some_there (length c.args.names.now) c.is_empty.result c.is_empty.ensures c.if-is_empty.false in
    let all = names_as_lines names (omega arith) in
    subst (λ words. IsJudged (first_word c.args.first words) (c.args.first + length words) (Ok c.loop-place.number)) (sym all)
    (all_kept one_word (keeps_word names) names c.args.first c.loop-place.place c.loop-place.number (omega arith) c.loop-place.invariant.0)

pub returns-clause-few : goal.returns-clause-few
returns-clause-few c = omega (arith, c.loop-place.invariant.2)

pub returns-clause-bound : goal.returns-clause-bound
returns-clause-bound c = omega (arith, c.loop-place.invariant.1, c.loop-place.invariant.2)
