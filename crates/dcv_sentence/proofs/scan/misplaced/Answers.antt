use Rattle.std.proofs.Common.{IfOk, map, sym, subst}
use Rattle.dcv_grammar.specs.Grammar.{IsVerdict}
use Rattle.dcv_grammar.specs.Predictive.{IsPredictive}
use Rattle.dcv_tokens.specs.Classes.{class_of}
use Rattle.dcv_sentence.proofs.Grammar.{predictive}
use Rattle.dcv_sentence.proofs.scan.misplaced.Goals as goal

pub first_fault-requires : goal.first_fault-requires
first_fault-requires c = subst IsPredictive (sym c.language.ensures) predictive

pub returns : goal.returns
returns c = subst (λ g. IfOk c.first_fault.result (IsVerdict g (map (λ token. class_of token.bytes.now) c.args.tokens.now))) c.language.ensures c.first_fault.ensures.verdict
