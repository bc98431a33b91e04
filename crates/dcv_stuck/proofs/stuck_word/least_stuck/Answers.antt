use Rattle.std.proofs.Common.{◌≡◌, true, false, length, sym, ap, subst, ◌∙◌}
use Rattle.std.specs.Prelude.{IfOk, IfSome}
use Rattle.dcv_dfa.specs.Raw.{automaton_of, is_accepting, raw_accepts}
use Rattle.dcv_stuck.specs.Stuck.{IsLeastStuck}
use Rattle.dcv_stuck.proofs.LeastStuck.{empty_is_least, least_found}
use Rattle.dcv_stuck.proofs.stuck_word.least_stuck.Goals as goal

pub returns-then-accepting-clause-least : goal.returns-then-accepting-clause-least
returns-then-accepting-clause-least c =
    let raw = c.args.raw.now in
    let stuck = c.in_ok-stuck.stuck in
    let begins : is_accepting stuck stuck.start ≡ true = ap (is_accepting stuck) (sym c.start.ensures.start) ∙ sym c.accepting.ensures ∙ c.if-accepting.true in
    subst (IsLeastStuck raw.arena.slots (raw_accepts raw)) (sym c.new.ensures.letters)
    (empty_is_least raw.arena.slots (length raw.rows) (automaton_of raw) (automaton_of stuck) c.in_ok-stuck.ensures.has begins)

pub returns-clause-least : goal.returns-clause-least
returns-clause-least c =
    let raw = c.args.raw.now in
    let stuck = c.in_ok-stuck.stuck in
    let begins : is_accepting stuck stuck.start ≡ false = ap (is_accepting stuck) (sym c.start.ensures.start) ∙ sym c.accepting.ensures ∙ c.if-accepting.false in
    least_found raw.arena.slots (length raw.rows) (automaton_of raw) (automaton_of stuck) c.in_ok-stuck.ensures.has begins stuck.arena.slots c.in_ok-stuck.ensures.slots
    c.shortest_in.result c.shortest_in.ensures.least c.shortest_in.ensures.none

pub returns-clause-width : goal.returns-clause-width
returns-clause-width c =
    subst (λ k. IfOk c.shortest_in.result (λ found. IfSome found (λ word. word.width ≡ k))) c.in_ok-stuck.ensures.slots c.shortest_in.ensures.width
