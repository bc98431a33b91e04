use Rattle.std.proofs.Common.{◌<◌, length, All, Vec, Global, ap, subst, ◌∙◌}
use Rattle.std.proofs.lemmas.Result.{IfOk-weaker}
use Rattle.dcv_language.proofs.Words.{WordLaws}
use Rattle.dcv_dfa.specs.Raw.{RawValue, automaton_of}
use Rattle.dcv_reach.specs.Reached.{GoesBack, IsReached, states_of}
use Rattle.dcv_language.specs.declared.certificate.Access.{Access}
use Rattle.dcv_certificate.specs.Spelling.{AreSpellings}
use Rattle.dcv_certificate.proofs.AccessWords.{are_spelled}
use Rattle.dcv_certificate.proofs.access.access_of.Goals as goal

pub returns-clause-spelled : goal.returns-clause-spelled
returns-clause-spelled c =
    let raw = c.args.auto.now in
    let laws : WordLaws = record {
      total = c.words_are_in_order.ensures.total;
      same = c.words_are_in_order.ensures.same;
      shorter = c.words_are_in_order.ensures.shorter;
      front = c.word_order_is_kept.ensures.front;
      end = c.word_order_is_kept.ensures.end;
      ends = c.word_order_is_kept.ensures.ends;
    } in
    let found = c.in_ok-reached.reached.found in
    let auto = c.raw.ensures.auto in
    let same = c.raw.ensures.raw in
    let all : IsReached raw.arena.slots (automaton_of raw) found = subst (λ (raw : RawValue). IsReached raw.arena.slots (automaton_of raw) found) same c.in_ok-reached.ensures.reached in
    let below : All (λ state. state < length raw.rows) (states_of found) = subst (λ (raw : RawValue). All (λ state. state < length raw.rows) (states_of found)) same c.in_ok-reached.ensures.states in
    let back : GoesBack raw.arena.slots found = subst (λ slots. GoesBack slots found) (c.in_ok-reached.ensures.slots ∙ ap (λ (raw : RawValue). raw.arena.slots) same) c.found.ensures.ends in
    IfOk-weaker c.spellings.result (λ (access : Vec Access Global). AreSpellings c.states.result c.found.result.now access.items) _
    (λ access spelled words canonical.
    are_spelled laws c.tables_have_the_states.ensures.states c.tables_accept_the_same.ensures.leads raw c.states.ensures.raw auto.start words canonical found all back below access.items
    (subst (λ found. AreSpellings (length raw.rows) found access.items) c.found.ensures.found
    (subst (λ states. AreSpellings states c.found.result.now access.items) c.states.ensures.states spelled)))
    c.spellings.ensures
