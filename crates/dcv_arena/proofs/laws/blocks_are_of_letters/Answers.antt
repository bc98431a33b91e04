use Rattle.dcv_arena.proofs.Blocks.{block-part, first_half-part, second_half-part}
use Rattle.dcv_arena.proofs.laws.blocks_are_of_letters.Goals as goal

pub returns : goal.returns
returns c = record {
  blocks = block-part;
  first = λ front rest function. first_half-part function front rest;
  second = λ front rest function. second_half-part function front rest;
}
