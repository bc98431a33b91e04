use Rattle.std.proofs.Common.{List, map, Option, subst}
use Rattle.dcv_grammar.specs.Grammar.{IsSentence}
use Rattle.dcv_tokens.specs.Tokens.{IsTokenized}
use Rattle.dcv_tokens.specs.Reading.{seen}
use Rattle.dcv_sentence.specs.declared.faults.ReadFault.{ReadFault}
use Rattle.dcv_sentence.specs.Language.{language}
use Rattle.dcv_sentence.specs.Faults.{HasFault}
use Rattle.dcv_sentence.specs.Scanning.{IsFirstIfAny}
use Rattle.dcv_sentence.proofs.FaultKinds.{classes_seen}
use Rattle.dcv_sentence.proofs.Sentences.{nothing_left, is_sentence, small_numbers}
use Rattle.dcv_sentence.proofs.sentence.sentence_of.Goals as goal
use Rattle.dcv_sentence.proofs.sentence.sentence_of.Goals.{In_default}

faultless : (c : In_default) → (fault : ReadFault) → HasFault c.args.text.now fault → ⊥
faultless c =
    let none = subst (λ (found : Option ReadFault). IsFirstIfAny c.in_ok-scan.scan.text.now found) c.in_default.is c.in_ok-fault.ensures in
    λ fault has. none fault (rw c.in_ok-scan.ensures.text has)

tokenized : (c : In_default) → IsTokenized c.args.text.now (map seen c.in_ok-scan.scan.tokens.items) c.in_ok-scan.scan.rest.now
tokenized c = rw c.in_ok-scan.ensures.text at c.in_ok-scan.ensures.scanned

pub returns-clause-tokens : goal.returns-clause-tokens
returns-clause-tokens c =
    let at = (goal.at.returns-clause-tokens c).In_default in
    let text = c.args.text.now in
    let tokens = map seen c.in_ok-scan.scan.tokens.items in
    subst (λ (rest : List _). IsTokenized text tokens rest) (nothing_left text tokens c.in_ok-scan.scan.rest.now (tokenized at) (faultless at)) (tokenized at)

pub returns-clause-sentence : goal.returns-clause-sentence
returns-clause-sentence c =
    let at = (goal.at.returns-clause-sentence c).In_default in
    let tokens = c.in_ok-scan.scan.tokens.items in
    subst (IsSentence language) (classes_seen tokens) (is_sentence c.args.text.now (map seen tokens) c.in_ok-scan.scan.rest.now (tokenized at) (faultless at))

pub returns-clause-faultless : goal.returns-clause-faultless
returns-clause-faultless c = faultless (goal.at.returns-clause-faultless c).In_default

pub returns-clause-small_numbers : goal.returns-clause-small_numbers
returns-clause-small_numbers c =
    let at = (goal.at.returns-clause-small_numbers c).In_default in
    small_numbers c.args.text.now c.in_ok-scan.scan.tokens.items c.in_ok-scan.scan.rest.now (tokenized at) (faultless at)
