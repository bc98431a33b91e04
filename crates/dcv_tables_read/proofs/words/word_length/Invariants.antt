use Rattle.std.proofs.Common.{◌≡◌, true, take}
use Rattle.std.specs.List.{list_all}
use Rattle.dcv_tokens.specs.Tokens.{is_word_byte}
use Rattle.dcv_tables_read.proofs.words.word_length.Given as goal

abbrev pub invariant-loop-place : goal.invariant-loop-place
invariant-loop-place l = list_all is_word_byte (take l.place l.text) ≡ true
