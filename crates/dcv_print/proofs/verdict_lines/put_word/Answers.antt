use Rattle.std.proofs.Common.{◌∙◌, ◌++◌, length, codes, List, Bool, Option, ap, sym}
use Rattle.std.specs.Fmt.{decimal}
use Rattle.dcv_word.specs.TraceLine.{trace_text}
use Rattle.dcv_word.specs.Word.{WordValue}
use Rattle.dcv_language.specs.VerdictText.{line, shown}
use Rattle.dcv_print.specs.Verdict.{letters_of}
use Rattle.dcv_io.proofs.Putting.{puts_further}
use Rattle.dcv_print.proofs.verdict_lines.put_word.Goals as goal

pub returns : goal.returns
returns g c =
    let heading = c.args.heading.now in
    puts_further _ _ _ _ _ _ c.put_heading.ensures c.put_letters.ensures
    (ap (λ (word : Option WordValue). shown heading (letters_of word)) c.in-Some.is
    ∙ ap (λ (letters : List (List Bool)). line (heading ++ codes " " ++ decimal (length letters)) ++ trace_text letters) (sym c.letters-letters.ensures.letters))
