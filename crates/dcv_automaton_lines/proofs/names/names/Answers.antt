use Rattle.std.proofs.Common.{◌≡◌, [], ◌∷◌, ◌++◌, map, ap, ◌∙◌, arith}
use Rattle.dcv_automaton_lines.proofs.Gathering.{map_more, map_length}
use Rattle.dcv_automaton_lines.proofs.NameSets.{name_step}
use Rattle.dcv_automaton_lines.proofs.names.names.Goals as goal

pub loop-is_open-preserved : goal.loop-is_open-preserved
loop-is_open-preserved c =
    let words = map (λ word. word.now) c.loop-is_open.words.items in
    let more : map (λ word. word.now) c.push.new.self.items ≡ words ++ c.in_ok-next.next.word.now ∷ [] =
    ap (map (λ word. word.now)) c.in_ok-push.ensures.items ∙ map_more (λ word. word.now) c.loop-is_open.words.items c.in_ok-next.next.word in
    let step = name_step c.loop-is_open.is_open c.in_ok-next.next.is_last words (map (λ word. word.now) c.push.new.self.items) c.in_ok-next.next.word.now c.args.text.now
    c.loop-is_open.rest.now c.in_ok-next.behind.now c.loop-is_open-test.true more c.in_ok-next.ensures.form c.in_ok-next.ensures.spelled
    c.loop-is_open.invariant.form c.loop-is_open.invariant.spelled c.loop-is_open.invariant.fault in
    record { form = step.form; some = λ closed. (let some = step.some in let sizes = map_length (λ word. word.now) c.push.new.self.items in omega arith); spelled = step.spelled; fault = step.fault }
