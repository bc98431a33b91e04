-- What an answer of `read_all` says.
use Rattle.std.specs.Prelude.{ℕ, Bool, true, false, Result, Ok, Err, ⊤}
use Rattle.dcv_io.specs.declared.fault.TakeFault.{TakeFault}
use Rattle.dcv_io.specs.declared.fault.TakeFault.TheVariants.{Open, Read, TooLong, Memory}

-- the file could not be opened
abbrev pub is_open_fault : {T : Type 0} → Result T TakeFault → Bool
is_open_fault (Ok value) = false
is_open_fault (Err Open) = true
is_open_fault (Err Read) = false
is_open_fault (Err (TooLong limit)) = false
is_open_fault (Err Memory) = false

-- a read of the file failed
abbrev pub is_read_fault : {T : Type 0} → Result T TakeFault → Bool
is_read_fault (Ok value) = false
is_read_fault (Err Open) = false
is_read_fault (Err Read) = true
is_read_fault (Err (TooLong limit)) = false
is_read_fault (Err Memory) = false

-- P of the limit that is named, if the file is too long
abbrev pub IfTooLong : {T : Type 0} → Result T TakeFault → (ℕ → Type 0) → Type 0
IfTooLong (Ok value) P = ⊤
IfTooLong (Err Open) P = ⊤
IfTooLong (Err Read) P = ⊤
IfTooLong (Err (TooLong limit)) P = P limit
IfTooLong (Err Memory) P = ⊤
