-- Trace lines: of one letter each, and with one reading each.
use Rattle.std.proofs.Common.{◌≡◌, ◌≢◌, ◌↔◌, ℕ, zero, suc, ◌+◌, ◌-◌, ◌*◌, ◌^◌, ◌<◌, ◌≤◌, ◌==◌, Bool, true, false, cond, List, [], ◌∷◌, ◌++◌, length, map, take, Some, Result, Ok, Err, slice_get, get_or, inl, inr, refl, sym, ap, ◌∙◌, subst, arith, add-one}
use Rattle.std.specs.List.{All}
use Rattle.std.specs.Prelude.{encode_utf8}
use lib.Utf8.{encode}
use Rattle.std.specs.Str.{byte}
use Rattle.std.proofs.Math.Nat.{pow-le-pow_right}
use Rattle.std.proofs.lemmas.Bool.{cases_order}
use Rattle.std.proofs.lemmas.List.{append_assoc, length-take, length-take-le, length-map, length_push, get_or-take, map_more, take_all}
use Rattle.std.proofs.lemmas.List.Elements.{All-map}
use Rattle.std.proofs.lemmas.Option.{get_or_from_slice_get, slice_get_within}
use Rattle.dcv_word.specs.Letter.{letter_of, bits_of}
use Rattle.dcv_word.specs.TraceLine.{digit_of, line_feed, trace_line, trace_text, IsDigit, IsFirstNonDigit, IsReading}
use Rattle.dcv_word.proofs.Bits.{double, bits_of-lt, letter_of-bits_of}
use Rattle.dcv_word.specs.declared.lines.LetterFault.{LetterFault}
use Rattle.dcv_word.specs.declared.lines.LetterFault.TheVariants.{Width, Character}

-- ---- digits

pub trace_line-map : (letter : List Bool) → 0 < length letter → trace_line letter ≡ map digit_of letter
trace_line-map [] h = absurd (omega arith)
trace_line-map (value ∷ values) h = refl

digit_of-IsDigit : (value : Bool) → IsDigit (digit_of value)
digit_of-IsDigit true = inr refl
digit_of-IsDigit false = inl refl

pub AllDigits-map : (letter : List Bool) → All IsDigit (map digit_of letter)
AllDigits-map letter = All-map IsDigit digit_of letter (λ k d h. digit_of-IsDigit (get_or letter k d))

-- the value that a digit stands for
abbrev pub value_of : ℕ → Bool
value_of c = c == byte "1"

pub digit_of-value_of : (c : ℕ) → IsDigit c → digit_of (value_of c) ≡ c
digit_of-value_of c h = elim h [ inl e ↦ rw e refl | inr e ↦ rw e refl ]

pub digits-values : (line : List ℕ) → All IsDigit line → map digit_of (map value_of line) ≡ line
digits-values [] h = refl
digits-values (c ∷ cs) h =
    let head = digit_of-value_of c (h 0 c (omega arith)) in
    let rest = digits-values cs (λ k d l. h (suc k) d (omega arith)) in
    λ i. head i ∷ rest i

pub digits-injective : (a b : List Bool) → map digit_of a ≡ map digit_of b → a ≡ b
digits-injective [] [] e = refl
digits-injective [] (y ∷ ys) e = cc
digits-injective (x ∷ xs) [] e = cc
digits-injective (x ∷ xs) (y ∷ ys) e =
    let first : digit_of x ≡ digit_of y = cc in
    let others : map digit_of xs ≡ map digit_of ys = cc in
    let head = same_value x y first in
    let rest = digits-injective xs ys others in
    λ i. head i ∷ rest i
  where
    same_value : (x y : Bool) → digit_of x ≡ digit_of y → x ≡ y
    same_value true true e = refl
    same_value true false e = absurd (omega arith)
    same_value false true e = absurd (omega arith)
    same_value false false e = refl

-- one more digit at the end
pub bits_of-push : (values : List Bool) (value : Bool) → bits_of (values ++ value ∷ []) ≡ 2 * bits_of values + cond value 1 0
bits_of-push [] true = refl
bits_of-push [] false = refl
bits_of-push (true ∷ values) value = omega (arith, bits_of-push values value, double (length values), length_push values value, ap (λ n. 2 ^ n) (length_push values value ∙ add-one (length values)))
bits_of-push (false ∷ values) value = omega (arith, bits_of-push values value)

-- ---- one letter for a line

no_dash : (value : Bool) → byte "-" ≢ digit_of value
no_dash true e = absurd (omega arith)
no_dash false e = absurd (omega arith)

pub trace_line-injective : (a b : List Bool) → trace_line a ≡ trace_line b → a ≡ b
trace_line-injective [] [] e = refl
trace_line-injective [] (y ∷ ys) e = let first : byte "-" ≡ digit_of y = cc in absurd (no_dash y first)
trace_line-injective (x ∷ xs) [] e = let first : byte "-" ≡ digit_of x = cc in absurd (no_dash x first)
trace_line-injective (x ∷ xs) (y ∷ ys) e = digits-injective (x ∷ xs) (y ∷ ys) e

-- ---- one word for a text

-- no byte ends a line
IsLine : List ℕ → Type 0
IsLine [] = Unit {0}
IsLine (c ∷ cs) = (c ≢ line_feed) × IsLine cs

no_feed : (value : Bool) → digit_of value ≢ line_feed
no_feed true e = absurd (omega arith)
no_feed false e = absurd (omega arith)

digits-IsLine : (letter : List Bool) → IsLine (map digit_of letter)
unfolding IsLine
digits-IsLine [] = tt
digits-IsLine (value ∷ values) = (no_feed value, digits-IsLine values)

trace_line-IsLine : (letter : List Bool) → IsLine (trace_line letter)
unfolding IsLine
trace_line-IsLine [] = (λ e. absurd (omega arith), tt)
trace_line-IsLine (value ∷ values) = digits-IsLine (value ∷ values)

first_line : (p q s t : List ℕ) → IsLine p → IsLine q → p ++ line_feed ∷ s ≡ q ++ line_feed ∷ t → (p ≡ q) × (s ≡ t)
unfolding IsLine
first_line [] [] s t h g e = (refl, cc)
first_line [] (y ∷ q) s t h g e = let first : y ≡ line_feed = cc in absurd (g.0 first)
first_line (x ∷ p) [] s t h g e = let first : x ≡ line_feed = cc in absurd (h.0 first)
first_line (x ∷ p) (y ∷ q) s t h g e =
    let first : x ≡ y = cc in
    let others : p ++ line_feed ∷ s ≡ q ++ line_feed ∷ t = cc in
    let rest = first_line p q s t h.1 g.1 others in
    (λ i. first i ∷ rest.0 i, rest.1)

text_first : (letter : List Bool) (letters : List (List Bool)) → trace_text (letter ∷ letters) ≡ trace_line letter ++ line_feed ∷ trace_text letters
text_first letter letters = append_assoc (trace_line letter) (line_feed ∷ []) (trace_text letters)

text_not_empty : (line text : List ℕ) → line ++ line_feed ∷ text ≢ []
text_not_empty [] text e = cc
text_not_empty (c ∷ line) text e = cc

pub trace_text-injective : (u v : List (List Bool)) → trace_text u ≡ trace_text v → u ≡ v
trace_text-injective [] [] e = refl
trace_text-injective [] (b ∷ v) e = absurd (text_not_empty (trace_line b) (trace_text v) (sym (text_first b v) ∙ sym e))
trace_text-injective (a ∷ u) [] e = absurd (text_not_empty (trace_line a) (trace_text u) (sym (text_first a u) ∙ e))
trace_text-injective (a ∷ u) (b ∷ v) e =
    let cut = first_line (trace_line a) (trace_line b) (trace_text u) (trace_text v) (trace_line-IsLine a) (trace_line-IsLine b) (sym (text_first a u) ∙ e ∙ text_first b v) in
    let head = trace_line-injective a b cut.0 in
    let rest = trace_text-injective u v cut.1 in
    λ i. head i ∷ rest i

-- ---- one reading for a line

-- a line of digits has no other byte
digits_only : (line : List ℕ) (at c : ℕ) → All IsDigit line → slice_get line at ≡ Some c → IsDigit c
digits_only line at c h e = subst IsDigit (get_or_from_slice_get line at c c e) (h at c (slice_get_within line at c e))

-- a first byte that is no digit has none before it
none_before : (line : List ℕ) (at at' : ℕ) → IsFirstNonDigit line at → IsFirstNonDigit line at' → at < at' → ⊥
none_before line at at' h g l =
    let c = h.other.0 in
    let within = slice_get_within line at c h.other.1 in
    let here = get_or-take at' line at c l ∙ get_or_from_slice_get line at c c h.other.1 in
    h.other.2 (subst IsDigit here (g.before at c (omega (arith, length-take at' line))))

first_is_one : (line : List ℕ) (at at' : ℕ) → IsFirstNonDigit line at → IsFirstNonDigit line at' → at ≡ at'
first_is_one line at at' h g = elim (cases_order at at') [
  | inl e ↦ e
  | inr o ↦ elim o [ inl l ↦ absurd (none_before line at at' h g l) | inr l ↦ absurd (none_before line at' at g h l) ]
]

length-trace_line : (letter : List Bool) → 0 < length letter → length (trace_line letter) ≡ length letter
length-trace_line letter h = ap length (trace_line-map letter h) ∙ length-map letter digit_of

-- A letter's line is at fault nowhere.
dash_line : (letter : List Bool) → length letter ≡ 0 → trace_line letter ≡ byte "-" ∷ []
dash_line [] e = refl
dash_line (value ∷ values) e = absurd (omega arith)

no_fault : (width : ℕ) (line : List ℕ) (letter : List Bool) (fault : LetterFault) → IsReading width line (Ok letter) → IsReading width line (Err fault) → ⊥
no_fault zero line letter Width h g = g (ap length (h.1 ∙ dash_line letter h.0))
no_fault zero line letter (Character at) h g = g.1 (h.1 ∙ dash_line letter h.0)
no_fault (suc width) line letter Width h g =
    g.1 (ap length h.1 ∙ length-trace_line letter (omega (arith, h.0)) ∙ h.0)
no_fault (suc width) line letter (Character at) h g =
    let digits : All IsDigit line = subst (All IsDigit) (sym (h.1 ∙ trace_line-map letter (omega (arith, h.0)))) (AllDigits-map letter) in
    g.other.2 (digits_only line at g.other.0 digits g.other.1)

one_fault : (width : ℕ) (line : List ℕ) (first second : LetterFault) → IsReading width line (Err first) → IsReading width line (Err second) → first ≡ second
one_fault zero line Width Width h g = refl
one_fault zero line Width (Character at) h g = absurd (h g.0)
one_fault zero line (Character at) Width h g = absurd (g h.0)
one_fault zero line (Character at) (Character at') h g = ap Character (h.2 ∙ sym g.2)
one_fault (suc width) line Width Width h g = refl
one_fault (suc width) line Width (Character at) h g = absurd (g.other.2 (digits_only line at g.other.0 h.0 g.other.1))
one_fault (suc width) line (Character at) Width h g = absurd (h.other.2 (digits_only line at h.other.0 g.0 h.other.1))
one_fault (suc width) line (Character at) (Character at') h g = ap Character (first_is_one line at at' h g)

pub one_reading : (width : ℕ) (line : List ℕ) (first second : Result (List Bool) LetterFault) → IsReading width line first → IsReading width line second → first ≡ second
one_reading width line (Ok a) (Ok b) h g = ap Ok (trace_line-injective a b (sym h.1 ∙ g.1))
one_reading width line (Ok a) (Err f) h g = absurd (no_fault width line a f h g)
one_reading width line (Err f) (Ok b) h g = absurd (no_fault width line b f g h)
one_reading width line (Err e) (Err f) h g = ap Err (one_fault width line e f h g)

pub read_back : (letter : List Bool) (answer : Result (List Bool) LetterFault) → IsReading (length letter) (trace_line letter) answer → answer ≡ Ok letter
read_back letter answer h = one_reading (length letter) (trace_line letter) answer (Ok letter) h (refl, refl)

-- a letter is the answer exactly where the line is the letter's
pub Ok-reading : (width : ℕ) (line : List ℕ) (answer : Result (List Bool) LetterFault) (letter : List Bool) → IsReading width line answer → (answer ≡ Ok letter) ↔ ((length letter ≡ width) × (line ≡ trace_line letter))
Ok-reading width line answer letter h =
    (λ e. subst (IsReading width line) e h, λ spelled. one_reading width line answer (Ok letter) h spelled)

-- ---- the number that a line spells

-- the number of the first digits
abbrev pub number_upto : List ℕ → ℕ → ℕ
number_upto line i = bits_of (map value_of (take i line))

pub number_upto-lt : (line : List ℕ) (i : ℕ) → i ≤ length line → number_upto line i < 2 ^ i
number_upto-lt line i h =
    let values = map value_of (take i line) in
    let long : length values ≡ i = length-map (take i line) value_of ∙ length-take-le i line h in
    subst (λ n. bits_of values < 2 ^ n) long (bits_of-lt values)

value_of-worth : (c : ℕ) → IsDigit c → cond (value_of c) 1 0 ≡ c - byte "0"
value_of-worth c h = elim h [ inl e ↦ rw e refl | inr e ↦ rw e refl ]

pub number_upto-next : (line : List ℕ) (i d : ℕ) → All IsDigit line → i < length line → number_upto line (i + 1) ≡ 2 * number_upto line i + (get_or line i d - byte "0")
number_upto-next line i d h within =
    let c = get_or line i d in
    ap bits_of (map_more value_of line i d within)
    ∙ bits_of-push (map value_of (take i line)) (value_of c)
    ∙ ap (λ n. 2 * number_upto line i + n) (value_of-worth c (h i d within))

-- ---- what reading answers, where variables are declared

pub Letter-reading : (width : ℕ) (line : List ℕ) (letter : List Bool) → 0 < width → All IsDigit line → length line ≡ width → letter ≡ letter_of width (bits_of (map value_of line)) → IsReading width line (Ok letter)
Letter-reading width line letter some digits long e =
    let values = map value_of line in
    let size : length values ≡ width = length-map line value_of ∙ long in
    let same : letter ≡ values = e ∙ ap (λ n. letter_of n (bits_of values)) (sym size) ∙ letter_of-bits_of values in
    rw same (size, sym (trace_line-map values (omega arith) ∙ digits-values line digits))

-- there is room for one more digit
pub number_upto-fits : (line : List ℕ) (i : ℕ) → i < length line → length line ≤ 32 → 2 * number_upto line i + 1 < 2 ^ 32
number_upto-fits line i within short =
    let below = number_upto-lt line i (omega arith) in
    let small : 2 ^ i ≤ 2 ^ 31 = pow-le-pow_right {n = 2} (omega arith) {i = i} {j = 31} (omega arith) in
    omega arith

pub digit-le : (c : ℕ) → IsDigit c → c - byte "0" ≤ 1
digit-le c h = elim h [ inl e ↦ omega arith | inr e ↦ omega arith ]

-- ---- what is written

pub encode_utf8-digit_of : (value : Bool) → encode_utf8 (digit_of value) ≡ digit_of value ∷ []
unfolding encode
encode_utf8-digit_of true = refl
encode_utf8-digit_of false = refl

-- the digits of all the slots are the line
pub digits-all : (letter : List Bool) (n : ℕ) → 0 < length letter → length letter ≤ n → map digit_of (take n letter) ≡ trace_line letter
digits-all letter n some all = ap (map digit_of) (take_all n letter all) ∙ sym (trace_line-map letter some)
