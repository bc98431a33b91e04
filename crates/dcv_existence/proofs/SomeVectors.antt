-- Each list that is short enough is the items of a vector.
--     vector_of xs few      the vector, after no address
use denote.RawPtr.{null_ptr}
use Rattle.std.proofs.Common.{◌<◌, ◌^◌, List, length, refl, arith}
use Rattle.std.specs.Global.{Vec}

abbrev pub vector_of : {X : Type 0} (xs : List X) → length xs < 2 ^ 63 → Vec X
vector_of xs few = record {
  ptr = null_ptr;
  len = length xs;
  cap = length xs;
  alloc = record { memory = record { seal = tt } };
  items = xs;
  ok = (refl, omega arith);
  small = few;
}
