use Rattle.std.proofs.Common.{◌≡◌, take, map}
use Rattle.dcv_grammar.specs.Taking.{HasTaken}
use Rattle.dcv_grammar.proofs.reader.first_fault.Given as goal

abbrev pub invariant-loop-place : goal.invariant-loop-place
invariant-loop-place g l = record {
  grammar : l.reading.grammar ≡ l.grammar;
  taken : HasTaken l.reading (take l.place (map g.T.Classified.class_of l.tokens));
}
