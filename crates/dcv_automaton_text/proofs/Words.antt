-- Words of visible bytes, and how they are read from lines: where a line ends, and which words it has.
use Rattle.std.proofs.Common.{◌≡◌, ℕ, suc, ◌^◌, ◌<◌, Bool, true, false, ◌&&◌, List, [], ◌∷◌, ◌++◌, map, refl, sym, ap, ◌∙◌, arith}
use Rattle.std.specs.Prelude.{nat_le}
use Rattle.std.specs.Char.{is_ascii_digit}
use Rattle.std.specs.Fmt.{decimal}
use Rattle.std.specs.List.{All, list_all, flat_map, join_with_byte}
use Rattle.std.specs.Str.Parse.{AllDigits}
use Rattle.std.proofs.lemmas.Fmt.{decimal_is_IsNumeral}
use Rattle.std.proofs.lemmas.List.{append_assoc}
use Rattle.std.proofs.lemmas.Str.Parse.{digit_from_value}
use Rattle.dcv_word.specs.TraceLine.{trace_line, digit_of}
use Rattle.dcv_automaton_text.specs.Form.{is_visible}
use Rattle.dcv_automaton_text.specs.Spelled.{spelled_line}

abbrev pub AreVisible : List ℕ → Type 0
AreVisible word = list_all is_visible word ≡ true

-- ---- visible words

both : (a b : Bool) → (a && b) ≡ true → (a ≡ true) × (b ≡ true)
both true b h = (refl, h)
both false b h = absurd cc

digits_are_visible : (ds : List ℕ) → AllDigits 10 ds → AreVisible ds
digits_are_visible [] h = refl
digits_are_visible (c ∷ cs) h =
    let digit = digit_from_value c h.0 in
    let low : nat_le 33 c ≡ true = grind (arith, digit) in
    let high : nat_le c 126 ≡ true = grind (arith, digit) in
    let rest = digits_are_visible cs h.1 in
    rw (low, high, rest) refl

digits_from : (ds : List ℕ) → AllDigits 10 ds → list_all is_ascii_digit ds ≡ true
digits_from [] h = refl
digits_from (c ∷ cs) h =
    let digit = digit_from_value c h.0 in
    let is : is_ascii_digit c ≡ true = grind (arith, digit) in
    let rest = digits_from cs h.1 in
    rw (is, rest) refl

pub digits_are : (n : ℕ) → n < 10 ^ 7 → list_all is_ascii_digit (decimal n) ≡ true
digits_are n small = digits_from (decimal n) (decimal_is_IsNumeral n (omega arith)).0.1

pub decimal_is_visible : (n : ℕ) → n < 10 ^ 7 → AreVisible (decimal n)
decimal_is_visible n small = digits_are_visible (decimal n) (decimal_is_IsNumeral n (omega arith)).0.1

values_are_visible : (values : List Bool) → AreVisible (map digit_of values)
values_are_visible [] = refl
values_are_visible (true ∷ values) = values_are_visible values
values_are_visible (false ∷ values) = values_are_visible values

pub letter_is_visible : (letter : List Bool) → AreVisible (trace_line letter)
letter_is_visible [] = refl
letter_is_visible (value ∷ values) = values_are_visible (value ∷ values)

-- ---- lines

-- one word or more, all of visible bytes
abbrev pub AreWords : List (List ℕ) → Type 0
AreWords [] = Unit {0}
AreWords (word ∷ words) = AreVisible word × AreWords words

abbrev pub IsLine : List (List ℕ) → Type 0
IsLine [] = ⊥
IsLine (word ∷ words) = AreWords (word ∷ words)

abbrev pub AreLines : List (List (List ℕ)) → Type 0
AreLines [] = Unit {0}
AreLines (line ∷ lines) = IsLine line × AreLines lines

pub lines_in_turn : (lines more : List (List (List ℕ))) → AreLines lines → AreLines more → AreLines (lines ++ more)
lines_in_turn [] more h g = g
lines_in_turn (line ∷ lines) more h g = (h.0, lines_in_turn lines more h.1 g)

pub lines_of_each : {A : Type 0} (words : A → List (List ℕ)) (P : A → Type 0) → ((x : A) → P x → IsLine (words x)) → (xs : List A) → All P xs
    → AreLines (map words xs)
lines_of_each words P each [] all = tt
lines_of_each words P each (x ∷ xs) all = (each x (all 0 x (omega arith)), lines_of_each words P each xs (λ k d l. all (suc k) d (omega arith)))

-- ---- reading

-- a word up to a byte that is not visible
pub record IsCut (word other rest other_rest : List ℕ) (end other_end : ℕ) : Type 0 where
  pub same : word ≡ other
  pub ends : end ≡ other_end
  pub rests : rest ≡ other_rest

pub cut : (word other rest other_rest : List ℕ) (end other_end : ℕ) → AreVisible word → AreVisible other → is_visible end ≡ false → is_visible other_end ≡ false
    → word ++ end ∷ rest ≡ other ++ other_end ∷ other_rest → IsCut word other rest other_rest end other_end
cut [] [] rest other_rest end other_end w o e f same = record { same = refl; ends = cc; rests = cc }
cut [] (b ∷ other) rest other_rest end other_end w o e f same =
    let first : end ≡ b = cc in
    let seen = (both (is_visible b) (list_all is_visible other) o).0 in
    absurd (let wrong : true ≡ false = sym seen ∙ ap is_visible (sym first) ∙ e in cc)
cut (a ∷ word) [] rest other_rest end other_end w o e f same =
    let first : a ≡ other_end = cc in
    let seen = (both (is_visible a) (list_all is_visible word) w).0 in
    absurd (let wrong : true ≡ false = sym seen ∙ ap is_visible first ∙ f in cc)
cut (a ∷ word) (b ∷ other) rest other_rest end other_end w o e f same =
    let first : a ≡ b = cc in
    let behind : word ++ end ∷ rest ≡ other ++ other_end ∷ other_rest = cc in
    let read = cut word other rest other_rest end other_end (both (is_visible a) (list_all is_visible word) w).1
    (both (is_visible b) (list_all is_visible other) o).1 e f behind in
    record { same = λ i. first i ∷ read.same i; ends = read.ends; rests = read.rests }

not_both : (a b : ℕ) → a ≡ 10 → b ≡ 32 → a ≡ b → ⊥
not_both a b is_ten is_space same = omega arith

-- the words of a line before its end, as bytes and what stands after them
abbrev behind : List (List ℕ) → List ℕ → List ℕ
behind words rest = join_with_byte 32 words ++ 10 ∷ rest

longer : (word next : List ℕ) (words : List (List ℕ)) (rest : List ℕ) → behind (word ∷ next ∷ words) rest ≡ word ++ 32 ∷ behind (next ∷ words) rest
longer word next words rest = append_assoc word (32 ∷ join_with_byte 32 (next ∷ words)) (10 ∷ rest)

line_read : (word other : List ℕ) (words others : List (List ℕ)) (rest other_rest : List ℕ) → AreWords (word ∷ words) → AreWords (other ∷ others)
    → behind (word ∷ words) rest ≡ behind (other ∷ others) other_rest → ((word ∷ words) ≡ (other ∷ others)) × (rest ≡ other_rest)
line_read word other [] [] rest other_rest w o same =
    let read = cut word other rest other_rest 10 10 w.0 o.0 refl refl same in
    (λ i. read.same i ∷ [], read.rests)
line_read word other [] (next ∷ others) rest other_rest w o same =
    let read = cut word other rest (behind (next ∷ others) other_rest) 10 32 w.0 o.0 refl refl (same ∙ longer other next others other_rest) in
    absurd (not_both 10 32 refl refl read.ends)
line_read word other (next ∷ words) [] rest other_rest w o same =
    let read = cut word other (behind (next ∷ words) rest) other_rest 32 10 w.0 o.0 refl refl (sym (longer word next words rest) ∙ same) in
    absurd (not_both 10 32 refl refl (sym read.ends))
line_read word other (next ∷ words) (other_next ∷ others) rest other_rest w o same =
    let read = cut word other (behind (next ∷ words) rest) (behind (other_next ∷ others) other_rest) 32 32 w.0 o.0 refl refl
    (sym (longer word next words rest) ∙ same ∙ longer other other_next others other_rest) in
    let more = line_read next other_next words others rest other_rest w.1 o.1 read.rests in
    (λ i. read.same i ∷ more.0 i, more.1)

spelled_before : (words : List (List ℕ)) (rest : List ℕ) → spelled_line words ++ rest ≡ behind words rest
spelled_before words rest = append_assoc (join_with_byte 32 words) (10 ∷ []) rest

-- a text has one list of lines
pub lines_read : (lines others : List (List (List ℕ))) → AreLines lines → AreLines others
    → flat_map spelled_line lines ≡ flat_map spelled_line others → lines ≡ others
lines_read [] [] w o same = refl
lines_read [] ([] ∷ others) w o same = absurd o.0
lines_read [] ((other ∷ words) ∷ others) w o same = absurd (none _ _ (same ∙ spelled_before (other ∷ words) (flat_map spelled_line others)))
  where
    none : (words : List ℕ) (rest : List ℕ) → [] ≡ words ++ 10 ∷ rest → ⊥
    none [] rest e = cc
    none (b ∷ words) rest e = cc
lines_read ([] ∷ lines) others w o same = absurd w.0
lines_read ((word ∷ words) ∷ lines) [] w o same = absurd (none _ _ (sym (spelled_before (word ∷ words) (flat_map spelled_line lines)) ∙ same))
  where
    none : (words : List ℕ) (rest : List ℕ) → words ++ 10 ∷ rest ≡ [] → ⊥
    none [] rest e = cc
    none (b ∷ words) rest e = cc
lines_read ((word ∷ words) ∷ lines) ([] ∷ others) w o same = absurd o.0
lines_read ((word ∷ words) ∷ lines) ((other ∷ other_words) ∷ others) w o same =
    let read = line_read word other words other_words (flat_map spelled_line lines) (flat_map spelled_line others) w.0 o.0
    (sym (spelled_before (word ∷ words) (flat_map spelled_line lines)) ∙ same ∙ spelled_before (other ∷ other_words) (flat_map spelled_line others)) in
    let more = lines_read lines others w.1 o.1 read.1 in
    λ i. read.0 i ∷ more i
