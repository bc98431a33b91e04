use Rattle.std.proofs.Common.{◌≡◌, ℕ, ◌+◌, ◌*◌, ◌++◌, ◌∷◌, List, [], inl, inr, length, take, sym, ap, ◌∙◌, subst, arith, slice_index_or}
use Rattle.std.proofs.lemmas.List.{length-take-le}
use Rattle.dcv_automaton_lines.proofs.WordSets.{number_stuck, number_grows, front_at, cut_at, take_next, takes_no_digit, MayNotFollow, IsBeginning}
use Rattle.dcv_automaton_lines.proofs.words.number.Goals as goal
use Rattle.dcv_automaton_lines.proofs.words.number.Goals.{else-place-gt0-via-then-place-gt0+else-byte-end, else-place-gt0-via-else-place-gt0}
use Rattle.dcv_automaton_lines.proofs.words.number.Goals.{then-not-is_ascii_digit-via-then-not-is_ascii_digit, then-not-is_ascii_digit-via-else-not-is_ascii_digit+then-not-takes_a_digit}

pub returns-then-not-is_ascii_digit-clause-fault : goal.returns-then-not-is_ascii_digit-clause-fault
returns-then-not-is_ascii_digit-clause-fault c =
    let size : length (take c.loop-place.place c.args.text.now) ≡ c.loop-place.place = length-take-le c.loop-place.place c.args.text.now (omega arith) in
    number_stuck c.args.text.now (take c.loop-place.place c.args.text.now) _ c.loop-place.number c.args.end c.requires (cut_at c.args.text.now c.loop-place.place) c.loop-place.invariant
    (front_at (MayNotFollow (take c.loop-place.place c.args.text.now) c.loop-place.number c.args.end) c.args.text.now c.loop-place.place (λ within. (
      λ some same. elim c.else-place-gt0.branch [
        | else-place-gt0-via-then-place-gt0+else-byte-end w ↦ w.if-byte-end.false same
        | else-place-gt0-via-else-place-gt0 w ↦ let none = w.if-place-gt0.false in omega arith
      ],
      elim c.then-not-is_ascii_digit.branch [
        | then-not-is_ascii_digit-via-then-not-is_ascii_digit w ↦ inl (sym c.is_ascii_digit.ensures.value ∙ w.if-not-is_ascii_digit.true)
        | then-not-is_ascii_digit-via-else-not-is_ascii_digit+then-not-takes_a_digit w ↦
            let full = takes_no_digit c.loop-place.place c.loop-place.number w.takes_a_digit.result w.takes_a_digit.ensures.1 w.if-not-takes_a_digit.true in
            inr (let some = full.0 in omega arith, full.1)
      ],
    )))

pub loop-place-preserved : goal.loop-place-preserved
loop-place-preserved c =
    subst (λ (digits : List ℕ). IsBeginning digits (10 * c.loop-place.number + c.from.result)) (sym (take_next c.args.text.now c.loop-place.place c.loop-place-test.true))
    (subst (λ (n : ℕ). IsBeginning (take c.loop-place.place c.args.text.now ++ slice_index_or c.args.text.now c.loop-place.place 0 ∷ []) (10 * c.loop-place.number + n)) (sym c.from.ensures)
    (number_grows (take c.loop-place.place c.args.text.now) c.loop-place.number (slice_index_or c.args.text.now c.loop-place.place 0) c.loop-place.invariant
    (sym c.is_ascii_digit.ensures.value ∙ c.if-not-is_ascii_digit.false)
    (elim (c.takes_a_digit.ensures.0 c.if-not-takes_a_digit.false) [ inl first ↦ inl (ap (λ n. take n c.args.text.now) first) | inr range ↦ inr range ])))

pub returns-clause-fault : goal.returns-clause-fault
returns-clause-fault c =
    let all : c.loop-place.place ≡ length c.args.text.now = omega arith in
    number_stuck c.args.text.now (take (length c.args.text.now) c.args.text.now) _ c.loop-place.number c.args.end c.requires (cut_at c.args.text.now (length c.args.text.now))
    (subst (λ (n : ℕ). IsBeginning (take n c.args.text.now) c.loop-place.number) all c.loop-place.invariant)
    (front_at (MayNotFollow (take (length c.args.text.now) c.args.text.now) c.loop-place.number c.args.end) c.args.text.now (length c.args.text.now) (λ within. absurd (omega arith)))
