-- How clauses see a verdict of the code.
use Rattle.std.specs.Prelude.{Option, option_map}
use Rattle.dcv_word.specs.Word.{WordValue}
use Rattle.dcv_word.specs.Behaviour.{Word}
use Rattle.dcv_language.specs.Verdict.{Verdict}
use Rattle.dcv_print.specs.declared.verdict_lines.Verdict.{Verdict as CodeVerdict}

-- the letters of the word, if there is one
abbrev pub letters_of : Option WordValue → Option Word
letters_of word = option_map (λ (w : WordValue). w.letters) word

abbrev pub seen_verdict : CodeVerdict → Verdict
seen_verdict verdict = record { counterexample = letters_of verdict.counterexample; example = letters_of verdict.example }
