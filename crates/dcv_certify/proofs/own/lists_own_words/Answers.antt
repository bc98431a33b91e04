use Rattle.std.proofs.Common.{◌∙◌, sym, subst}
use Rattle.dcv_word.specs.Behaviour.{IsBehaviour}
use Rattle.dcv_certify.proofs.OwnWords.{own_words_tell}
use Rattle.dcv_certify.proofs.own.lists_own_words.Goals as goal

pub returns : goal.returns
returns c own =
    let file = c.args.file.now in
    let minimal = c.in_ok-auto.ensures in
    own_words_tell file c.in_ok-proof.proof.access c.in_ok-proof.proof.suffixes (c.is_spelled_so.ensures.access own) (c.is_spelled_so.ensures.suffixes own) c.in_ok-auto.auto
    c.keeps_the_rules.ensures (minimal.slots ∙ c.in-Ok.ensures.slots)
    (λ word is. sym (c.in-Ok.ensures.accepts word is) ∙ sym (minimal.accepts word (subst (λ k. IsBehaviour k word) (sym c.in-Ok.ensures.slots) is)))
    c.in_ok-proof.ensures
