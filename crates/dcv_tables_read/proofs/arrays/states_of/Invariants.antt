use Rattle.std.proofs.Common.{◌≡◌, take, map}
use Rattle.std.specs.Prelude.{nat_eq}
use Rattle.dcv_c_tables.specs.Unit.{TableState}
use Rattle.dcv_tables_read.specs.Seen.{seen_state}
use Rattle.dcv_tables_read.proofs.arrays.states_of.Given as goal

abbrev pub invariant-loop-place : goal.invariant-loop-place
invariant-loop-place l =
    record {
      rows : map (λ (state : TableState). state.row) (map seen_state l.states.items) ≡ take l.place l.rows;
      accepts : map (λ (state : TableState). state.accepts) (map seen_state l.states.items) ≡ map (nat_eq 1) (take l.place l.accepts);
    }
