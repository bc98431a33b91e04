use Rattle.std.proofs.Common.{◌∙◌, ◌<◌, ◌≤◌, Option, map, length, refl, sym, ap, subst, arith}
use Rattle.std.proofs.lemmas.List.{length-map}
use Rattle.dcv_grammar.specs.Grammar.{IsVerdict}
use Rattle.dcv_tokens.specs.Reading.{seen}
use Rattle.dcv_sentence.specs.Language.{language}
use Rattle.dcv_sentence.specs.Faults.{classes_of}
use Rattle.dcv_sentence.proofs.FaultKinds.{verdict_seen, sentence_is_placed, one_misplaced, start_at, end_at, fault_at_end, none_left, some_left}
use Rattle.dcv_sentence.proofs.scan.Scan.syntax_fault.Goals as goal
use Rattle.dcv_sentence.proofs.scan.Scan.syntax_fault.Goals.{In_ok-place}

verdict : (c : In_ok-place) → IsVerdict language (classes_of (map seen c.args.self.now.tokens.items)) c.in_ok-place.field-0
verdict c = verdict_seen c.args.self.now.tokens.items c.in_ok-place.field-0 (rw c.deref.ensures.value at c.in_ok-place.ensures)

pub returns-in_default : goal.returns-in_default
returns-in_default c =
    let self = c.args.self.now in
    let tokens = map seen self.tokens.items in
    let sentence = subst (λ (v : Option _). IsVerdict language (classes_of tokens) v) c.in_default.is (verdict (goal.at.returns-in_default c).In_ok-place) in
    λ at h. sentence_is_placed tokens self.rest.now h.0 sentence h.1

pub returns-then-place-len : goal.returns-then-place-len
returns-then-place-len c =
    let self = c.args.self.now in
    let tokens = map seen self.tokens.items in
    let fault = subst (λ (v : Option _). IsVerdict language (classes_of tokens) v) c.in-Some.is (verdict (goal.at.returns-then-place-len c).In_ok-place) in
    let inside : c.in-Some.place < length self.tokens.items = omega (arith, self.tokens.ok.0) in (
      c.index.result.now.start,
      refl,
      (
        c.in-Some.place,
        record { fault = fault; ended = λ end. absurd (omega (arith, length-map self.tokens.items seen)) },
        ap (λ token. token.start) c.index.ensures ∙ start_at self.text.now self.tokens.items c.in-Some.place c.index.result.now inside,
      ),
    )

pub returns-then-not-is_empty : goal.returns-then-not-is_empty
returns-then-not-is_empty c =
    let self = c.args.self.now in
    let tokens = map seen self.tokens.items in
    let fault = subst (λ (v : Option _). IsVerdict language (classes_of tokens) v) c.in-Some.is (verdict (goal.at.returns-then-not-is_empty c).In_ok-place) in
    let past : length tokens ≤ c.in-Some.place = omega (arith, self.tokens.ok.0, length-map self.tokens.items seen) in
    λ at h.
    some_left self.rest.now (sym c.is_empty.ensures ∙ c.if-not-is_empty.true)
    (h.1.ended (one_misplaced tokens self.rest.now c.in-Some.place h.0 fault h.1 ∙ fault_at_end tokens c.in-Some.place fault past))

pub returns : goal.returns
returns c =
    let self = c.args.self.now in
    let tokens = map seen self.tokens.items in
    let fault = subst (λ (v : Option _). IsVerdict language (classes_of tokens) v) c.in-Some.is (verdict (goal.at.returns c).In_ok-place) in
    let past : length self.tokens.items ≤ c.in-Some.place = omega (arith, self.tokens.ok.0) in (
      length self.text.now,
      refl,
      (
        c.in-Some.place,
        record { fault = fault; ended = λ end. none_left self.rest.now (sym c.is_empty.ensures ∙ c.if-not-is_empty.false) },
        end_at self.text.now self.tokens.items c.in-Some.place past,
      ),
    )
