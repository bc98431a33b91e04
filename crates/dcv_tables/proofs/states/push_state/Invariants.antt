use Rattle.std.proofs.Common.{◌≡◌, ◌++◌, codes, if◌then◌else◌, take}
use Rattle.std.specs.Fmt.{decimal}
use Rattle.std.specs.List.{flat_map}
use Rattle.std.specs.String.{string_bytes}
use Rattle.dcv_tables.proofs.states.push_state.Given as goal

abbrev pub invariant-loop-next : goal.invariant-loop-next
invariant-loop-next l = string_bytes l.text ≡ string_bytes l.fn.text ++ ((if l.state.accepts then codes "accept" else codes "reject")
    ++ flat_map (λ number. codes " " ++ decimal number) (take l.next-index l.state.row.items))
