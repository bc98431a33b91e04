use Rattle.std.proofs.Common.{ap}
use Rattle.dcv_arena.specs.Arena.{table_of, value_of}
use Rattle.dcv_arena.proofs.Refs.{same_ref}
use Rattle.dcv_arena.proofs.Tables.{same_ref_by_table}
use Rattle.dcv_arena.proofs.Growth.{new_function}
use Rattle.dcv_arena.proofs.laws.refs_are_functions.Goals as goal

pub returns : goal.returns
returns c = record {
  letters = λ arena first second is one one'.
      (λ same letter size. ap (λ ref. value_of arena ref letter) same, same_ref arena is.reduced first second one one');
  tables = λ arena first second is one one'.
      (ap (table_of arena), same_ref_by_table arena is.reduced first second one one');
  new = λ arena slot lo hi is lo_ref hi_ref inner lo_later hi_later fresh ref one same.
      new_function arena slot lo hi is.reduced lo_ref hi_ref inner lo_later hi_later fresh ref one same;
}
