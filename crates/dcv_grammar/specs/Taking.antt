-- What a reader keeps that takes a class at a time.
--     HasTaken reading taken         a sentence may begin with these classes, and the stack derives just what makes it one
--     IsTaken viable reading taken   that is so, or no sentence begins with them
--     IsEnded whole grammar taken    they are a sentence, or they are none
use Rattle.std.specs.Prelude.{ℕ, Bool, true, false, List, reverse}
use Rattle.dcv_grammar.specs.declared.reader.Reading.{Reading}
use Rattle.dcv_grammar.specs.Grammar.{grammar_of, ContextFree, IsSentence, IsViable}
use Rattle.dcv_grammar.specs.Machine.{Follows}

pub record HasTaken (reading : Reading) (taken : List ℕ) : Type 0 where
  pub viable : IsViable (grammar_of reading.grammar) taken
  pub stack : Follows (grammar_of reading.grammar) taken (reverse reading.stack.items)

abbrev pub IsTaken : Bool → Reading → List ℕ → Type 0
IsTaken true reading taken = HasTaken reading taken
IsTaken false reading taken = ¬ IsViable (grammar_of reading.grammar) taken

abbrev pub IsEnded : Bool → ContextFree → List ℕ → Type 0
IsEnded true grammar taken = IsSentence grammar taken
IsEnded false grammar taken = ¬ IsSentence grammar taken
