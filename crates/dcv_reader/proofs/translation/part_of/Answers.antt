use Rattle.std.proofs.Common.{◌≡◌, ◌+◌, ◌++◌, ◌∷◌, [], suc, map, take, reverse, refl, sym, ap, subst, ◌∙◌, arith}
use Rattle.dcv_grammar.specs.Grammar.{grammar_of, IsSentence}
use Rattle.dcv_tokens.specs.Reading.{seen}
use Rattle.dcv_sentence.specs.Language.{language}
use Rattle.dcv_sentence.proofs.Grammar.{predictive}
use Rattle.dcv_translation.specs.Scheme.{StandFor}
use Rattle.dcv_translation.proofs.Passed as machine
use Rattle.dcv_reader.specs.Nodes.{token_class}
use Rattle.dcv_reader.specs.Actions.{scheme}
use Rattle.dcv_reader.specs.Parts.{seen_part}
use Rattle.dcv_reader.proofs.Leaves.{goes_on, one_more, small_at, whole, classes_are}
use Rattle.dcv_reader.proofs.translation.part_of.Goals as goal

pub loop-token-init : goal.loop-token-init
loop-token-init c =
    let begun = c.in_ok-machine.machine in (
      c.in_ok-machine.ensures.grammar,
      machine.none_passed scheme (reverse begun.steps.items) (map seen_part begun.parts.items)
          (ap reverse c.in_ok-machine.ensures.steps) (ap (map seen_part) c.in_ok-machine.ensures.parts),
    )

pub take-requires : goal.take-requires
take-requires c =
    let made = c.loop-token.machine in
    let steps = reverse made.steps.items in
    let parts = map seen_part made.parts.items in
    let passed = map seen (take c.loop-token.token-index c.args.tokens.now) in
    λ κs. ((refl, tt), (c.loop-token.invariant.0, (predictive, (c.token-item.result.of_class, machine.ready scheme steps parts passed c.loop-token.invariant.1))))

pub unreachable-requires : goal.unreachable-requires
unreachable-requires c =
    let made = c.loop-token.machine in
    let steps = reverse made.steps.items in
    let parts = map seen_part made.parts.items in
    let passed = map seen (take c.loop-token.token-index c.args.tokens.now) in
    let token = c.token-item.result in
    let new = c.take.new.self in
    machine.refused scheme steps parts passed c.loop-token.invariant.1 (seen token) c.in_ok-take.field-0 (reverse new.steps.items) (map seen_part new.parts.items)
    c.in_ok-take.ensures.taken c.if-not-branch.true
    (goes_on c.args.tokens.now c.loop-token.token-index token c.requires.sentence c.loop-token-test.true c.token-item.is)

pub loop-token-preserved : goal.loop-token-preserved
loop-token-preserved c =
    let made = c.loop-token.machine in
    let steps = reverse made.steps.items in
    let parts = map seen_part made.parts.items in
    let passed = map seen (take c.loop-token.token-index c.args.tokens.now) in
    let token = c.token-item.result in
    let new = c.take.new.self in
    let index = c.loop-token.token-index in
    let next : index + 1 ≡ suc index = omega arith in
    let same : map seen (take (index + 1) c.args.tokens.now) ≡ passed ++ seen token ∷ [] =
    ap (λ n. map seen (take n c.args.tokens.now)) next ∙ one_more c.args.tokens.now index token c.loop-token-test.true c.token-item.is in (
      ap grammar_of c.in_ok-take.ensures.grammar ∙ c.loop-token.invariant.0,
      subst (machine.HasPassed scheme (reverse new.steps.items) (map seen_part new.parts.items)) (sym same)
          (machine.one_more scheme steps parts passed c.loop-token.invariant.1 (seen token) c.in_ok-take.field-0 (reverse new.steps.items) (map seen_part new.parts.items)
          c.in_ok-take.ensures.taken c.if-not-branch.false),
    )

pub finish-requires : goal.finish-requires
finish-requires c =
    let made = c.loop-token.machine in
    let steps = reverse made.steps.items in
    let parts = map seen_part made.parts.items in
    let passed = map seen (take c.loop-token.token-index c.args.tokens.now) in
    λ κs. ((refl, tt), (c.loop-token.invariant.0, (predictive, machine.ready scheme steps parts passed c.loop-token.invariant.1)))

pub returns : goal.returns
returns c =
    let made = c.loop-token.machine in
    let steps = reverse made.steps.items in
    let parts = map seen_part made.parts.items in
    let passed = map seen (take c.loop-token.token-index c.args.tokens.now) in
    let all : take c.loop-token.token-index c.args.tokens.now ≡ c.args.tokens.now = whole c.args.tokens.now c.loop-token.token-index c.loop-token-test.false in
    subst (λ tokens. StandFor scheme (map seen tokens) (seen_part c.in-Some.part)) all
    (machine.part_found scheme steps parts passed c.loop-token.invariant.1 seen_part c.in_ok-part.field-0 c.in_ok-part.ensures.whole c.in-Some.part c.in-Some.is
    c.in_ok-part.ensures.ended)

pub unreachable-requires-in-None : goal.unreachable-requires-in-None
unreachable-requires-in-None c =
    let made = c.loop-token.machine in
    let steps = reverse made.steps.items in
    let parts = map seen_part made.parts.items in
    let passed = map seen (take c.loop-token.token-index c.args.tokens.now) in
    let tokens = c.args.tokens.now in
    let all : take c.loop-token.token-index tokens ≡ tokens = whole tokens c.loop-token.token-index c.loop-token-test.false in
    machine.no_sentence scheme steps parts passed c.loop-token.invariant.1 seen_part c.in_ok-part.field-0 c.in_ok-part.ensures.whole c.in-None.is
    (subst (λ l. IsSentence language (map token_class (map seen l))) (sym all) (subst (IsSentence language) (sym (classes_are tokens)) c.requires.sentence))

pub invariant_of-leaf : goal.invariant_of-leaf
invariant_of-leaf c =
    record { small = small_at c.args.tokens.now c.loop-token.token-index c.token-item.result c.loop-token-test.true c.token-item.is c.requires.small }
