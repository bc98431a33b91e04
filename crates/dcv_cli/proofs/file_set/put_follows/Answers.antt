use Rattle.dcv_cli.proofs.Common.{◌≡◌, codes, Option, None, Some, ap, sym, subst, ◌∙◌, Puts, letters_of, line}
use Rattle.dcv_language.specs.VerdictText.{shown}
use Rattle.dcv_word.specs.Word.{WordValue}
use Rattle.dcv_cli.specs.FileSet.{follows_text}
use Rattle.dcv_cli.proofs.file_set.put_follows.Goals as goal

none_is : (least : Option WordValue) → least ≡ None → line (codes "follows") ≡ follows_text (letters_of least)
none_is least is = sym (ap (λ (least : Option WordValue). follows_text (letters_of least)) is)

one_is : (least : Option WordValue) (word : WordValue) → least ≡ Some word → shown (codes "does not follow") (letters_of least) ≡ follows_text (letters_of least)
one_is least word is =
    ap (λ (least : Option WordValue). shown (codes "does not follow") (letters_of least)) is ∙ sym (ap (λ (least : Option WordValue). follows_text (letters_of least)) is)

pub returns-in-None : goal.returns-in-None
returns-in-None g c =
    subst (Puts (g.T.Target.standing c.args.target.now) (g.T.Target.standing c.put.new.self)) (none_is c.args.least.now c.in-None.is) c.put.ensures

pub returns-in-Some : goal.returns-in-Some
returns-in-Some g c =
    subst (Puts (g.T.Target.standing c.args.target.now) (g.T.Target.standing c.put_word.new.target)) (one_is c.args.least.now c.in-Some.field-0 c.in-Some.is) c.put_word.ensures
