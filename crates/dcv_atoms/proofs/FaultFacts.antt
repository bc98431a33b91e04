-- Where an atom's fault comes from.
use Rattle.std.proofs.Common.{◌≡◌, ℕ, Result, Err, sym, ◌∙◌}
use Rattle.dcv_arena.specs.declared.faults.ArenaFault.{ArenaFault}
use Rattle.dcv_arena.specs.declared.faults.ArenaFault.TheVariants as arena
use Rattle.dcv_atoms.specs.declared.faults.AtomFault.{AtomFault}
use Rattle.dcv_atoms.specs.declared.faults.AtomFault.TheVariants.{Nodes}
use Rattle.dcv_atoms.specs.Faults.{fault_of_arena}

nodes_of_arena : (fault : ArenaFault) (limit : ℕ) → fault_of_arena fault ≡ Nodes limit → fault ≡ arena.Full limit
nodes_of_arena (arena.Full other) limit e = cc
nodes_of_arena arena.Memory limit e = absurd cc

module _ {X : Type 0} (result : Result X AtomFault) (given : AtomFault) (limit : ℕ) (is : result ≡ Err given) where
  pub nodes_from_arena : (fault : ArenaFault) → given ≡ fault_of_arena fault → result ≡ Err (Nodes limit) → fault ≡ arena.Full limit
  nodes_from_arena fault from e =
      let same : given ≡ Nodes limit = cc in
      nodes_of_arena fault limit (sym from ∙ same)

-- a fault that is handed on
pub same_fault : {X : Type 0} (result : Result X AtomFault) (given fault target : AtomFault) → result ≡ Err given → given ≡ fault → result ≡ Err target → fault ≡ target
same_fault result given fault target is from e = cc
