-- How a letter is spelled in a trace, and what reading such a line answers.
--     trace_line letter             the letter's line, without its end
--     trace_text letters            the lines of the letters, each with its end
--     IsReading width line answer   what reading the line at this width answers, a letter or the fault
use Rattle.std.specs.Prelude.{◌≡◌, ◌≢◌, ℕ, zero, suc, Bool, if◌then◌else◌, List, [], ◌∷◌, ◌++◌, length, map, take, Some, Result, Ok, Err, ◌⊎◌, slice_get}
use Rattle.std.specs.List.{All, flat_map}
use Rattle.std.specs.Str.{byte}
use Rattle.dcv_word.specs.Behaviour.{Word}
use Rattle.dcv_word.specs.declared.lines.LetterFault.{LetterFault}
use Rattle.dcv_word.specs.declared.lines.LetterFault.TheVariants.{Width, Character}

-- the byte that ends a line
abbrev pub line_feed : ℕ
line_feed = 10

-- a variable's value, as a digit
abbrev pub digit_of : Bool → ℕ
digit_of value = if value then byte "1" else byte "0"

-- a digit for each variable in declared order, or a dash where none is declared
abbrev pub trace_line : List Bool → List ℕ
trace_line [] = byte "-" ∷ []
trace_line (value ∷ values) = map digit_of (value ∷ values)

abbrev pub trace_text : Word → List ℕ
trace_text = flat_map (λ letter. trace_line letter ++ line_feed ∷ [])

abbrev pub IsDigit : ℕ → Type 0
IsDigit c = (c ≡ byte "0") ⊎ (c ≡ byte "1")

-- the first byte of the line that is no digit stands at this place, counted from 0
pub record IsFirstNonDigit (line : List ℕ) (at : ℕ) : Type 0 where
  pub before : All IsDigit (take at line)
  pub other : (c : ℕ) × (slice_get line at ≡ Some c) × ¬ IsDigit c

-- The answer is the letter whose line it is, or else the fault. With variables declared that is the first byte
-- that is no digit, and else the length. With none it is the length, and else the byte.
abbrev pub IsReading : ℕ → List ℕ → Result (List Bool) LetterFault → Type 0
IsReading width line (Ok letter) = (length letter ≡ width) × (line ≡ trace_line letter)
IsReading zero line (Err Width) = length line ≢ 1
IsReading zero line (Err (Character at)) = (length line ≡ 1) × (line ≢ byte "-" ∷ []) × (at ≡ 0)
IsReading (suc width) line (Err Width) = All IsDigit line × (length line ≢ suc width)
IsReading (suc width) line (Err (Character at)) = IsFirstNonDigit line at
