-- Where an operation's fault comes from.
use Rattle.std.proofs.Common.{◌≡◌, ℕ, Result, Err, sym, ◌∙◌}
use Rattle.dcv_arena.specs.declared.faults.ArenaFault.{ArenaFault}
use Rattle.dcv_arena.specs.declared.faults.ArenaFault.TheVariants as arena
use Rattle.dcv_apply.specs.declared.faults.ApplyFault.{ApplyFault}
use Rattle.dcv_apply.specs.declared.faults.ApplyFault.TheVariants.{Full}
use Rattle.dcv_apply.specs.Faults.{fault_of_arena}

full_of_arena : (fault : ArenaFault) (limit : ℕ) → fault_of_arena fault ≡ Full limit → fault ≡ arena.Full limit
full_of_arena (arena.Full other) limit e = cc
full_of_arena arena.Memory limit e = absurd cc

pub full_from_arena : {X : Type 0} (result : Result X ApplyFault) (given : ApplyFault) (fault : ArenaFault) (limit : ℕ) → result ≡ Err given → given ≡ fault_of_arena fault
    → result ≡ Err (Full limit) → fault ≡ arena.Full limit
full_from_arena result given fault limit is from e =
    let same : given ≡ Full limit = cc in
    full_of_arena fault limit (sym from ∙ same)
