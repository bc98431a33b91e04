-- How clauses see where reading stops.
--     IsEnd end                   a space or a line feed
--     IsNumberEnd end             no digit
--     is_binary b                 the byte is a digit `0` or `1`
--     IsStuckAt P text answer     where the answer is no part, the text is stuck there in the set
--     IsFaultBy P text stop       the stop is a fault of the text, or running out of memory
--     IsStopAt P text answer      where the answer is a stop, it is that
--     IsStuckBy P text stop       the text is stuck at the stop, or memory ran out
--     IsStuckStop P text answer   where the answer is a stop, it is that
use Rattle.std.specs.Prelude.{◌≡◌, ℕ, Bool, false, ◌||◌, nat_eq, List, Result, Ok, Err, ◌⊎◌}
use Rattle.std.specs.Char.{is_ascii_digit}
use Rattle.dcv_automaton_lines.specs.Pieces.{IsStuckIn, IsFaultAt}
use Rattle.dcv_automaton_lines.specs.declared.stop.Stuck.{Stuck}
use Rattle.dcv_automaton_lines.specs.declared.stop.Stop.{Stop}
use Rattle.dcv_automaton_lines.specs.declared.stop.Stop.TheVariants.{Syntax, Memory}

abbrev pub IsEnd : ℕ → Type 0
IsEnd end = (end ≡ 32) ⊎ (end ≡ 10)

abbrev pub IsNumberEnd : ℕ → Type 0
IsNumberEnd end = is_ascii_digit end ≡ false

abbrev pub is_binary : ℕ → Bool
is_binary b = nat_eq b 48 || nat_eq b 49

abbrev pub IsStuckAt : {T : Type 0} → (List ℕ → Type 0) → List ℕ → Result T Stuck → Type 0
IsStuckAt P text (Ok read) = Unit {0}
IsStuckAt P text (Err stuck) = IsStuckIn P text stuck.left.now

abbrev pub IsFaultBy : (List ℕ → Type 0) → List ℕ → Stop → Type 0
IsFaultBy P text (Syntax stuck) = IsFaultAt P text stuck.left.now
IsFaultBy P text Memory = Unit {0}

abbrev pub IsStopAt : {T : Type 0} → (List ℕ → Type 0) → List ℕ → Result T Stop → Type 0
IsStopAt P text (Ok read) = Unit {0}
IsStopAt P text (Err stop) = IsFaultBy P text stop

abbrev pub IsStuckBy : (List ℕ → Type 0) → List ℕ → Stop → Type 0
IsStuckBy P text (Syntax stuck) = IsStuckIn P text stuck.left.now
IsStuckBy P text Memory = Unit {0}

abbrev pub IsStuckStop : {T : Type 0} → (List ℕ → Type 0) → List ℕ → Result T Stop → Type 0
IsStuckStop P text (Ok read) = Unit {0}
IsStuckStop P text (Err stop) = IsStuckBy P text stop
