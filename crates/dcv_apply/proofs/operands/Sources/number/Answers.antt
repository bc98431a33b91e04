use Rattle.std.proofs.Common.{ap, ◌∙◌}
use Rattle.dcv_word.specs.Letter.{letter_of}
use Rattle.dcv_arena.specs.Arena.{value_of}
use Rattle.dcv_apply.proofs.OperandFacts.{number_from}
use Rattle.dcv_apply.proofs.operands.Sources.number.Goals as goal

pub returns-in-Place : goal.returns-in-Place
returns-in-Place c = λ letter size.
    c.eval.ensures.value
    ∙ ap (value_of c.arena-arena.result.now c.args.operand.1) (c.new.ensures.letter ∙ ap (λ width. letter_of width 0) c.slots.ensures.slots)
    ∙ number_from c.slots.ensures.arena c.requires c.arena-arena.ensures letter size
