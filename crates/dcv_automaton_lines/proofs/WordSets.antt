-- Words of each kind with the byte after them: where a text is stuck in one.
use Rattle.std.proofs.Common.{◌≡◌, ℕ, zero, suc, ◌+◌, ◌*◌, ◌-◌, ◌/◌, ◌%◌, ◌^◌, ◌<◌, ◌≤◌, Bool, true, false, List, [], ◌∷◌, ◌++◌, ◌⊎◌, inl, inr, length, map, refl, sym, ap, ◌∙◌, subst, arith, get_or}
use Rattle.std.specs.Prelude.{codes, nat_eq, nat_le, slice_index_or, take, drop, Result, Ok, Err}
use Rattle.std.specs.Result.{IsErrAnd}
use Rattle.std.specs.Char.{is_ascii_digit}
use Rattle.std.specs.Fmt.{decimal}
use Rattle.std.specs.List.{list_all}
use Rattle.std.proofs.lemmas.Fmt.{decimal_is_IsNumeral, decimal_digit, first_decimal, decimal_step, length-decimal-le}
use Rattle.std.proofs.lemmas.Int.Digits.{digits_value-lt}
use Rattle.std.proofs.lemmas.List.{append_assoc, length-append, length-drop, take-append-drop, take_all}
use Rattle.std.proofs.Math.Seq.{take-suc, drop-cons}
use Rattle.dcv_word.specs.TraceLine.{trace_line, digit_of}
use Rattle.dcv_language.specs.declared.child.Child.{Child}
use Rattle.dcv_language.specs.declared.child.Child.TheVariants.{State, Node}
use Rattle.dcv_automaton_text.specs.Form.{is_visible, IsNumber, IsNameWord, IsTarget}
use Rattle.dcv_automaton_text.specs.Spelled.{node_word, target_word, answer_word}
use Rattle.dcv_automaton_text.proofs.Words.{decimal_is_visible, letter_is_visible, digits_are}
use Rattle.dcv_automaton_lines.specs.Pieces.{AreVisible, Exactly, Nothing, Followed, Either, IsNoFurther, IsStuckIn}
use Rattle.dcv_automaton_lines.specs.Parts.{NumberWord, NodeWord, TargetWord, AnswerWord, NameWord, LetterWord}
use Rattle.dcv_automaton_lines.specs.Stops.{IsEnd, IsNumberEnd, is_binary, IsStuckAt}
use Rattle.dcv_automaton_lines.specs.declared.stop.Stuck.{Stuck}
use Rattle.dcv_automaton_lines.specs.Seen.{letter_of}
use Rattle.dcv_automaton_lines.proofs.Pieces.{no_further_away, same_front, append_none, both, cut_by, not_within, HasWords, Leads, stuck_after, IsAway, stuck_in_first, stuck_in_second, longer_front}

-- ---- ends

pub end_is_invisible : (end : ℕ) → IsEnd end → is_visible end ≡ false
end_is_invisible end is = elim is [ inl space ↦ ap is_visible space | inr feed ↦ ap is_visible feed ]

end_is_not_binary : (end : ℕ) → IsEnd end → is_binary end ≡ false
end_is_not_binary end is = elim is [ inl space ↦ ap is_binary space | inr feed ↦ ap is_binary feed ]

-- ---- words of each kind are visible

pub number_words : HasWords NumberWord
number_words = record { visible = λ word is. subst AreVisible (sym is.is) (decimal_is_visible is.number is.small) }

node_is_visible : (number : ℕ) → IsNumber number → AreVisible (node_word number)
node_is_visible number small = decimal_is_visible number small

pub node_words : HasWords NodeWord
node_words = record { visible = λ word is. subst AreVisible (sym is.is) (node_is_visible is.number is.small) }

target_is_visible : (target : Child) → IsTarget target → AreVisible (target_word target)
target_is_visible (State number) small = decimal_is_visible number small
target_is_visible (Node number) small = decimal_is_visible number small

pub target_words : HasWords TargetWord
target_words = record { visible = λ word is. subst AreVisible (sym is.is) (target_is_visible is.target is.small) }

answer_is_visible : (accepting : Bool) → AreVisible (answer_word accepting)
answer_is_visible true = refl
answer_is_visible false = refl

pub answer_words : HasWords AnswerWord
answer_words = record { visible = λ word is. subst AreVisible (sym is.is) (answer_is_visible is.accepting) }

name_is_visible : (name : List ℕ) → IsNameWord name → AreVisible name
name_is_visible [] is = refl
name_is_visible (b ∷ name) is = is

pub name_words : HasWords NameWord
name_words = record { visible = λ word is. name_is_visible word is.is }

pub letter_words : HasWords LetterWord
letter_words = record { visible = λ word is. subst AreVisible (sym is.is) (letter_is_visible is.letter) }

pub exact_words : (word : List ℕ) → AreVisible word → HasWords (Exactly word)
exact_words word seen = record { visible = λ other is. subst AreVisible (sym is.is) seen }

-- ---- stuck in a word

abbrev pub NoneGoesOn : (List ℕ → Type 0) → ℕ → List ℕ → List ℕ → Type 0
NoneGoesOn P end front [] = (word rest : List ℕ) → P word → word ++ end ∷ rest ≡ front → ⊥
NoneGoesOn P end front (b ∷ left) = (word rest other : List ℕ) → P word → word ++ end ∷ rest ≡ front ++ b ∷ other → ⊥

module _ (P : List ℕ → Type 0) (end : ℕ) where
  no_further_word : (front left : List ℕ) → NoneGoesOn P end front left → IsNoFurther (Followed P end Nothing) front left
  no_further_word front [] none = λ text more is same.
      none is.word (is.back ++ more) is.word_is (sym (append_assoc is.word (end ∷ is.back) more) ∙ ap (λ t. t ++ more) (sym is.whole) ∙ same)
  no_further_word front (b ∷ left) none = λ text more other is same.
      none is.word (is.back ++ more) other is.word_is (sym (append_assoc is.word (end ∷ is.back) more) ∙ ap (λ t. t ++ more) (sym is.whole) ∙ same)

  pub stuck_word : (text front left word more : List ℕ) → text ≡ front ++ left → P word → front ++ more ≡ word ++ end ∷ [] → NoneGoesOn P end front left
      → IsStuckIn (Followed P end Nothing) text left
  stuck_word text front left word more cut is whole none =
      record {
        front = front;
        cut = cut;
        viable = record { more = more; member = record { word = word; back = []; word_is = is; back_is = record { is = refl }; whole = whole } };
        stuck = no_further_word front left none;
      }

-- sets with the same texts
pub leads_same : {P : List ℕ → Type 0} {Q : List ℕ → Type 0} → ((text : List ℕ) → Q text → P text) → ((text : List ℕ) → P text → Q text) → Leads P [] Q
leads_same into from = record { into = into; from = λ text more rest is same. (text, (from text is, refl)) }

pub stuck_exactly : (whole word : List ℕ) (end : ℕ) → whole ≡ word ++ end ∷ [] → {text left : List ℕ} → IsStuckIn (Exactly whole) text left
    → IsStuckIn (Followed (Exactly word) end Nothing) text left
stuck_exactly whole word end spelled stuck =
    stuck_after (leads_same
    (λ text is. record { word = word; back = []; word_is = record { is = refl }; back_is = record { is = refl }; whole = is.is ∙ spelled })
    (λ text is. record { is = is.whole ∙ ap (λ w. w ++ end ∷ is.back) is.word_is.is ∙ ap (λ back. word ++ end ∷ back) is.back_is.is ∙ sym spelled })) refl stuck

-- ---- what is left of a text

-- something is true of the first byte of what is left
abbrev pub AtFront : (ℕ → Type 0) → List ℕ → Type 0
AtFront X [] = Unit {0}
AtFront X (b ∷ left) = X b

-- what is left of a text from a place on, as a slice
abbrev pub left_at : List ℕ → ℕ → List ℕ
left_at text place = take (length text - place) (drop place text)

left_is : (text : List ℕ) (place : ℕ) → left_at text place ≡ drop place text
left_is text place = take_all (length text - place) (drop place text) (omega (arith, length-drop place text))

at_drop : (X : ℕ → Type 0) (text : List ℕ) (place : ℕ) → (place < length text → X (slice_index_or text place 0)) → AtFront X (drop place text)
at_drop X [] zero is = tt
at_drop X [] (suc place) is = tt
at_drop X (b ∷ text) zero is = is (omega arith)
at_drop X (b ∷ text) (suc place) is = at_drop X text place (λ within. is (omega arith))

pub front_at : (X : ℕ → Type 0) (text : List ℕ) (place : ℕ) → (place < length text → X (slice_index_or text place 0)) → AtFront X (left_at text place)
front_at X text place is = subst (λ (left : List ℕ). AtFront X left) (sym (left_is text place)) (at_drop X text place is)

pub cut_at : (text : List ℕ) (place : ℕ) → text ≡ take place text ++ left_at text place
cut_at text place = sym (ap (λ left. take place text ++ left) (left_is text place) ∙ take-append-drop place text)

pub take_next : (text : List ℕ) (place : ℕ) → place < length text → take (place + 1) text ≡ take place text ++ slice_index_or text place 0 ∷ []
take_next text place within =
    let next : place + 1 ≡ suc place = omega arith in
    ap (λ n. take n text) next ∙ take-suc text place 0 within

-- ---- numbers

-- the digits that were read of a number
pub data IsBeginning (digits : List ℕ) (number : ℕ) : Type 0 where
  NoDigit : digits ≡ [] → number ≡ 0 → IsBeginning digits number
  SomeDigits : digits ≡ decimal number → IsNumber number → IsBeginning digits number

-- the number can't go on with what is left
abbrev pub MayNotFollow : List ℕ → ℕ → ℕ → ℕ → Type 0
MayNotFollow digits number end b = (0 < length digits → b ≡ end → ⊥) × ((is_ascii_digit b ≡ false) ⊎ ((0 < length digits) × ((number ≡ 0) ⊎ (999999 < number))))

abbrev pub IsOver : List ℕ → ℕ → ℕ → List ℕ → Type 0
IsOver digits number end = AtFront (MayNotFollow digits number end)

decimal_is_some : (number : ℕ) → IsNumber number → 0 < length (decimal number)
decimal_is_some number small = (decimal_is_IsNumeral number (omega arith)).0.0

decide : (b : Bool) → (b ≡ true) ⊎ (b ≡ false)
decide true = inl refl
decide false = inr refl

beginning_digits : (digits : List ℕ) (number : ℕ) → IsBeginning digits number → list_all is_ascii_digit digits ≡ true
beginning_digits digits number (NoDigit none nil) = ap (list_all is_ascii_digit) none
beginning_digits digits number (SomeDigits is small) = ap (list_all is_ascii_digit) is ∙ digits_are number small

no_short_power : (k : ℕ) → 1000000 < 10 ^ k → 7 ≤ k
no_short_power zero large = absurd (omega arith)
no_short_power (suc zero) large = absurd (omega arith)
no_short_power (suc (suc zero)) large = absurd (omega arith)
no_short_power (suc (suc (suc zero))) large = absurd (omega arith)
no_short_power (suc (suc (suc (suc zero)))) large = absurd (omega arith)
no_short_power (suc (suc (suc (suc (suc zero))))) large = absurd (omega arith)
no_short_power (suc (suc (suc (suc (suc (suc zero)))))) large = absurd (omega arith)
no_short_power (suc (suc (suc (suc (suc (suc (suc k))))))) large = seven_more k
  where
    seven_more : (k : ℕ) → 7 ≤ suc (suc (suc (suc (suc (suc (suc k))))))
    seven_more k = omega arith

module _ (end : ℕ) (is_end : IsNumberEnd end) (b : ℕ) where
  no_first : (word rest other : List ℕ) → NumberWord word → is_ascii_digit b ≡ false → word ++ end ∷ rest ≡ b ∷ other → ⊥
  no_first word rest other is no_digit same =
      let read = cut_by is_ascii_digit word [] rest other end b (ap (list_all is_ascii_digit) is.is ∙ digits_are is.number is.small) refl is_end no_digit same in
      let some = decimal_is_some is.number is.small in
      let none : length (decimal is.number) ≡ 0 = ap length (sym is.is ∙ read.same) in
      omega arith

  no_other_byte : (number : ℕ) → IsNumber number → (b ≡ end → ⊥) → is_ascii_digit b ≡ false
      → (word rest other : List ℕ) → NumberWord word → word ++ end ∷ rest ≡ decimal number ++ b ∷ other → ⊥
  no_other_byte number small differs no_digit word rest other is same =
      let read = cut_by is_ascii_digit word (decimal number) rest other end b (ap (list_all is_ascii_digit) is.is ∙ digits_are is.number is.small) (digits_are number small)
      is_end no_digit same in
      differs (sym read.ends)

  no_leading_zero : (m : ℕ) → IsNumber m → (word rest other : List ℕ) → word ≡ decimal m → (b ≡ end → ⊥) → word ++ end ∷ rest ≡ 48 ∷ b ∷ other → ⊥
  no_leading_zero m small [] rest other is differs same =
      let some = decimal_is_some m small in
      let none : length (decimal m) ≡ 0 = ap length (sym is) in
      omega arith
  no_leading_zero m small (c ∷ []) rest other is differs same = differs (let e : b ≡ end = cc in e)
  no_leading_zero zero small (c ∷ d ∷ word) rest other is differs same =
      let wrong : c ∷ d ∷ word ≡ 48 ∷ [] = is ∙ decimal_digit 0 (omega arith) in cc
  no_leading_zero (suc m) small (c ∷ d ∷ word) rest other is differs same =
      let first : c ≡ 48 = cc in
      let above : 48 < get_or (decimal (suc m)) 0 0 = first_decimal (suc m) (omega arith) (omega arith) in
      let seen : c ≡ get_or (decimal (suc m)) 0 0 = ap (λ w. get_or w 0 0) is in
      omega arith

  longer_than_seven : (number : ℕ) → IsNumber number → 999999 < number → 7 ≤ length (decimal number)
  longer_than_seven number small large =
      let below : number < 10 ^ length (decimal number) = subst (λ n. n < 10 ^ length (decimal number)) (decimal_is_IsNumeral number (omega arith)).1
      (digits_value-lt 10 (decimal number) (decimal_is_IsNumeral number (omega arith)).0.1) in
      no_short_power (length (decimal number)) (omega arith)

  no_eighth_digit : (number : ℕ) → IsNumber number → 999999 < number → is_ascii_digit b ≡ true
      → (word rest other : List ℕ) → NumberWord word → word ++ end ∷ rest ≡ decimal number ++ b ∷ other → ⊥
  no_eighth_digit number small large digit word rest other is same =
      let long = longer_than_seven number small large in
      let short : length word ≤ 7 = subst (λ (w : List ℕ). length w ≤ 7) (sym is.is) (length-decimal-le 7 is.number (omega arith) is.small (omega arith)) in
      let sizes : length (word ++ end ∷ rest) ≡ length (decimal number ++ b ∷ other) = ap length same in
      let ones = length-append word (end ∷ rest) in
      let others = length-append (decimal number) (b ∷ other) in
      let (more, (whole, left)) = longer_front word (end ∷ rest) (decimal number) (b ∷ other) same (omega arith) in
      behind more whole left
    where
      behind : (more : List ℕ) → decimal number ≡ word ++ more → end ∷ rest ≡ more ++ b ∷ other → ⊥
      behind [] whole left =
          let e : end ≡ b = cc in
          let wrong : true ≡ false = sym digit ∙ ap is_ascii_digit (sym e) ∙ is_end in cc
      behind (e ∷ more) whole left =
          let ends : e ≡ end = cc in
          not_within is_ascii_digit (decimal number) word more end (digits_are number small) is_end
          (ap (λ b. word ++ b ∷ more) (sym ends) ∙ sym whole)

  no_digit_more : (number : ℕ) → IsNumber number → (b ≡ end → ⊥) → ((is_ascii_digit b ≡ false) ⊎ ((number ≡ 0) ⊎ (999999 < number)))
      → (word rest other : List ℕ) → NumberWord word → word ++ end ∷ rest ≡ decimal number ++ b ∷ other → ⊥
  no_digit_more number small differs over word rest other is same =
      elim over [
        | inl no_digit ↦ no_other_byte number small differs no_digit word rest other is same
        | inr full ↦ elim full [
          | inl none ↦ no_leading_zero is.number is.small word rest other is.is differs (same ∙ ap (λ n. decimal n ++ b ∷ other) none ∙ ap (λ w. w ++ b ∷ other) (decimal_digit 0 (omega arith)))
          | inr large ↦ elim (decide (is_ascii_digit b)) [
            | inl digit ↦ no_eighth_digit number small large digit word rest other is same
            | inr no_digit ↦ no_other_byte number small differs no_digit word rest other is same
          ]
        ]
      ]

number_over : (digits : List ℕ) (number end : ℕ) (left : List ℕ) → IsNumberEnd end → IsBeginning digits number → IsOver digits number end left
    → NoneGoesOn NumberWord end digits left
number_over digits number end [] is_end begins over = λ word rest is same.
    not_within is_ascii_digit digits word rest end (beginning_digits digits number begins) is_end same
number_over digits number end (b ∷ left) is_end (NoDigit none nil) over = λ word rest other is same.
    elim over.1 [
      | inl no_digit ↦ no_first end is_end b word rest other is no_digit (same ∙ ap (λ d. d ++ b ∷ other) none)
      | inr full ↦ let empty : length digits ≡ 0 = ap length none in let some = full.0 in absurd (omega arith)
    ]
number_over digits number end (b ∷ left) is_end (SomeDigits written small) over = λ word rest other is same.
    let some : 0 < length digits = subst (λ (d : List ℕ). 0 < length d) (sym written) (decimal_is_some number small) in
    no_digit_more end is_end b number small (over.0 some) (elim over.1 [ inl no_digit ↦ inl no_digit | inr full ↦ inr full.1 ])
    word rest other is (same ∙ ap (λ d. d ++ b ∷ other) written)

pub number_stuck : (text digits left : List ℕ) (number end : ℕ) → IsNumberEnd end → text ≡ digits ++ left → IsBeginning digits number → IsOver digits number end left
    → IsStuckIn (Followed NumberWord end Nothing) text left
number_stuck text digits left number end is_end cut (NoDigit none nil) over =
    stuck_word NumberWord end text digits left (decimal 0) (decimal 0 ++ end ∷ []) cut (record { number = 0; small = omega arith; is = refl })
    (ap (λ d. d ++ (decimal 0 ++ end ∷ [])) none) (number_over digits number end left is_end (NoDigit none nil) over)
number_stuck text digits left number end is_end cut (SomeDigits written small) over =
    stuck_word NumberWord end text digits left (decimal number) (end ∷ []) cut (record { number = number; small = small; is = refl })
    (ap (λ d. d ++ end ∷ []) written) (number_over digits number end left is_end (SomeDigits written small) over)

-- one digit more
pub number_grows : (digits : List ℕ) (number b : ℕ) → IsBeginning digits number → is_ascii_digit b ≡ true → ((digits ≡ []) ⊎ ((0 < number) × (number ≤ 999999)))
    → IsBeginning (digits ++ b ∷ []) (10 * number + (b - 48))
number_grows digits number b (NoDigit none nil) digit may =
    let low : 48 ≤ b = grind (arith, digit) in
    let high : b ≤ 57 = grind (arith, digit) in
    let is : decimal (10 * number + (b - 48)) ≡ (48 + (10 * number + (b - 48))) ∷ [] = decimal_digit (10 * number + (b - 48)) (omega arith) in
    let value : b ≡ 48 + (10 * number + (b - 48)) = omega arith in
    SomeDigits (ap (λ d. d ++ b ∷ []) none ∙ ap (λ b. b ∷ []) value ∙ sym is) (omega arith)
number_grows digits number b (SomeDigits written little) digit may =
    let low : 48 ≤ b = grind (arith, digit) in
    let high : b ≤ 57 = grind (arith, digit) in
    let range : (0 < number) × (number ≤ 999999) = elim may [ inl none ↦ absurd (no_digits none) | inr some ↦ some ] in
    let above = range.0 in
    let below = range.1 in
    let step : decimal (10 * number + (b - 48)) ≡ decimal ((10 * number + (b - 48)) / 10) ++ ((48 + (10 * number + (b - 48)) % 10) ∷ []) = decimal_step (10 * number + (b - 48)) (omega arith) (omega arith) in
    let before : (10 * number + (b - 48)) / 10 ≡ number = omega arith in
    let last : 48 + (10 * number + (b - 48)) % 10 ≡ b = omega arith in
    SomeDigits (ap (λ d. d ++ b ∷ []) written ∙ sym (step ∙ (λ i. decimal (before i) ++ last i ∷ []))) (omega arith)
  where
    no_digits : digits ≡ [] → ⊥
    no_digits none =
        let some = decimal_is_some number little in
        let nil : length (decimal number) ≡ 0 = ap length (sym written ∙ none) in
        omega arith

-- ---- names of nodes, and targets

-- ---- names

abbrev pub IsNameOver : List ℕ → ℕ → List ℕ → Type 0
IsNameOver front end = AtFront (λ b. (is_visible b ≡ false) × ((front ≡ []) ⊎ (b ≡ end → ⊥)))

no_empty_name : IsNameWord [] → ⊥
no_empty_name is = let wrong : false ≡ true = is in cc

name_over : (front : List ℕ) (end : ℕ) (left : List ℕ) → IsEnd end → AreVisible front → IsNameOver front end left → NoneGoesOn NameWord end front left
name_over front end [] is_end seen over = λ word rest is same. not_within is_visible front word rest end seen (end_is_invisible end is_end) same
name_over front end (b ∷ left) is_end seen over = λ word rest other is same.
    let read = cut_by is_visible word front rest other end b (name_words.visible word is) seen (end_is_invisible end is_end) over.0 same in
    elim over.1 [
      | inl none ↦ no_empty_name (subst IsNameWord (read.same ∙ none) is.is)
      | inr differs ↦ differs (sym read.ends)
    ]

is_name : (b : ℕ) (front : List ℕ) → AreVisible (b ∷ front) → IsNameWord (b ∷ front)
is_name b front seen = seen

pub name_is : (front : List ℕ) → AreVisible front → 0 < length front → IsNameWord front
name_is [] seen some = absurd (omega arith)
name_is (b ∷ front) seen some = is_name b front seen

pub name_stuck : (text front left : List ℕ) (end : ℕ) → IsEnd end → text ≡ front ++ left → AreVisible front → IsNameOver front end left
    → IsStuckIn (Followed NameWord end Nothing) text left
name_stuck text [] left end is_end cut seen over =
    stuck_word NameWord end text [] left (codes "p") (codes "p" ++ end ∷ []) cut (record { is = refl }) refl (name_over [] end left is_end seen over)
name_stuck text (b ∷ front) left end is_end cut seen over =
    stuck_word NameWord end text (b ∷ front) left (b ∷ front) (end ∷ []) cut (record { is = is_name b front seen }) refl (name_over (b ∷ front) end left is_end seen over)

-- ---- letters

binary_values : (values : List Bool) → list_all is_binary (map digit_of values) ≡ true
binary_values [] = refl
binary_values (true ∷ values) = binary_values values
binary_values (false ∷ values) = binary_values values

abbrev pub IsLetterOver : List ℕ → ℕ → List ℕ → Type 0
IsLetterOver front end = AtFront (λ b. (is_binary b ≡ false) × (((front ≡ []) × (b ≡ 45 → ⊥)) ⊎ ((0 < length front) × (b ≡ end → ⊥))))

-- a dash is no digit
dash_first : (front rest other : List ℕ) (end b : ℕ) → list_all is_binary front ≡ true → 45 ∷ end ∷ rest ≡ front ++ b ∷ other → (front ≡ []) × (b ≡ 45)
dash_first [] rest other end b seen same = (refl, (let e : b ≡ 45 = cc in e))
dash_first (c ∷ front) rest other end b seen same =
    let e : c ≡ 45 = cc in
    let wrong : true ≡ false = sym (both (is_binary c) (list_all is_binary front) seen).0 ∙ ap is_binary e in absurd cc

letter_over : (front : List ℕ) (end : ℕ) (left : List ℕ) → IsEnd end → list_all is_binary front ≡ true → IsLetterOver front end left → NoneGoesOn LetterWord end front left
letter_over front end [] is_end seen over = λ word rest is same. not_within is_binary front word rest end seen (end_is_not_binary end is_end) same
letter_over front end (b ∷ left) is_end seen over = λ word rest other is same.
    by_values is.letter rest other (ap (λ w. w ++ end ∷ rest) (sym is.is) ∙ same)
  where
    by_values : (values : List Bool) (rest other : List ℕ) → trace_line values ++ end ∷ rest ≡ front ++ b ∷ other → ⊥
    by_values [] rest other same =
        let dash = dash_first front rest other end b seen same in
        elim over.1 [
          | inl none ↦ none.1 dash.1
          | inr some ↦ let empty : length front ≡ 0 = ap length dash.0 in let more = some.0 in omega arith
        ]
    by_values (value ∷ values) rest other same =
        let read = cut_by is_binary (map digit_of (value ∷ values)) front rest other end b (binary_values (value ∷ values)) seen (end_is_not_binary end is_end) over.0 same in
        elim over.1 [
          | inl none ↦ let wrong : map digit_of (value ∷ values) ≡ [] = read.same ∙ none.0 in cc
          | inr some ↦ some.1 (sym read.ends)
        ]

binary_is : (d : ℕ) → is_binary d ≡ true → (d ≡ 48) ⊎ (d ≡ 49)
binary_is d is = elim (decide (nat_eq d 48)) [ inl equal ↦ inl (grind (arith, equal)) | inr not ↦ inr (grind (arith, is, not)) ]

-- digits are those of their letter
one_digit : (d : ℕ) → is_binary d ≡ true → trace_line (letter_of (d ∷ [])) ≡ d ∷ []
one_digit d is = elim (binary_is d is) [ inl nil ↦ along d 48 nil refl | inr one ↦ along d 49 one refl ]
  where
    along : (d e : ℕ) → d ≡ e → trace_line (letter_of (e ∷ [])) ≡ e ∷ [] → trace_line (letter_of (d ∷ [])) ≡ d ∷ []
    along d e same is = subst (λ (d : ℕ). trace_line (letter_of (d ∷ [])) ≡ d ∷ []) (sym same) is

values_of : (digits : List ℕ) → list_all is_binary digits ≡ true → map digit_of (map (nat_eq 49) digits) ≡ digits
values_of [] seen = refl
values_of (d ∷ digits) seen =
    let parts = both (is_binary d) (list_all is_binary digits) seen in
    let rest = values_of digits parts.1 in
    let first : digit_of (nat_eq 49 d) ≡ d = elim (binary_is d parts.0)
    [ inl nil ↦ ap (λ d. digit_of (nat_eq 49 d)) nil ∙ sym nil | inr one ↦ ap (λ d. digit_of (nat_eq 49 d)) one ∙ sym one ] in
    λ i. first i ∷ rest i

pub letter_is : (front : List ℕ) → list_all is_binary front ≡ true → 0 < length front → trace_line (letter_of front) ≡ front
letter_is [] seen some = absurd (omega arith)
letter_is (d ∷ []) seen some = one_digit d (both (is_binary d) true seen).0
letter_is (d ∷ e ∷ digits) seen some = values_of (d ∷ e ∷ digits) seen

pub letter_stuck : (text front left : List ℕ) (end : ℕ) → IsEnd end → text ≡ front ++ left → list_all is_binary front ≡ true → IsLetterOver front end left
    → IsStuckIn (Followed LetterWord end Nothing) text left
letter_stuck text [] left end is_end cut seen over =
    stuck_word LetterWord end text [] left (codes "-") (codes "-" ++ end ∷ []) cut (record { letter = []; is = refl }) refl (letter_over [] end left is_end seen over)
letter_stuck text (b ∷ front) left end is_end cut seen over =
    stuck_word LetterWord end text (b ∷ front) left (b ∷ front) (end ∷ []) cut (record { letter = letter_of (b ∷ front); is = sym (letter_is (b ∷ front) seen (omega arith)) }) refl
    (letter_over (b ∷ front) end left is_end seen over)

-- a dash
abbrev pub IsDashOver : ℕ → List ℕ → Type 0
IsDashOver end = AtFront (λ b. b ≡ end → ⊥)

not_dash : (b : ℕ) (rest other : List ℕ) → is_binary b ≡ true → b ∷ rest ≡ 45 ∷ other → ⊥
not_dash b rest other is same =
    let e : b ≡ 45 = cc in
    let wrong : true ≡ false = sym is ∙ ap is_binary e in cc

dash_over : (end : ℕ) (left : List ℕ) → IsEnd end → IsDashOver end left → NoneGoesOn LetterWord end (45 ∷ []) left
dash_over end [] is_end over = λ word rest is same. by_values is.letter rest (ap (λ w. w ++ end ∷ rest) (sym is.is) ∙ same)
  where
    by_values : (values : List Bool) (rest : List ℕ) → trace_line values ++ end ∷ rest ≡ 45 ∷ [] → ⊥
    by_values [] rest same = cc
    by_values (true ∷ values) rest same = not_dash 49 (map digit_of values ++ end ∷ rest) [] refl same
    by_values (false ∷ values) rest same = not_dash 48 (map digit_of values ++ end ∷ rest) [] refl same
dash_over end (b ∷ left) is_end over = λ word rest other is same. by_values is.letter rest other (ap (λ w. w ++ end ∷ rest) (sym is.is) ∙ same)
  where
    by_values : (values : List Bool) (rest other : List ℕ) → trace_line values ++ end ∷ rest ≡ 45 ∷ b ∷ other → ⊥
    by_values [] rest other same = over (let e : b ≡ end = cc in e)
    by_values (true ∷ values) rest other same = not_dash 49 (map digit_of values ++ end ∷ rest) (b ∷ other) refl same
    by_values (false ∷ values) rest other same = not_dash 48 (map digit_of values ++ end ∷ rest) (b ∷ other) refl same

pub dash_stuck : (text left : List ℕ) (end : ℕ) → IsEnd end → text ≡ 45 ∷ left → IsDashOver end left → IsStuckIn (Followed LetterWord end Nothing) text left
dash_stuck text left end is_end cut over =
    stuck_word LetterWord end text (45 ∷ []) left (45 ∷ []) (end ∷ []) cut (record { letter = []; is = refl }) refl (dash_over end left is_end over)

-- ---- words with a first byte that tells their kind

-- a text that does not begin with it
pub first_stuck : (P : List ℕ → Type 0) (text word : List ℕ) → P word → IsAway P text → IsStuckIn P text text
first_stuck P text word is away = record { front = []; cut = refl; viable = record { more = word; member = is }; stuck = no_further_away away [] text refl }

pub leads_node : (end : ℕ) → Leads (Followed NodeWord end Nothing) (110 ∷ []) (Followed NumberWord end Nothing)
leads_node end =
    record {
      into = λ rest parts. record {
        word = 110 ∷ parts.word;
        back = parts.back;
        word_is = record { number = parts.word_is.number; small = parts.word_is.small; is = ap (λ w. 110 ∷ w) parts.word_is.is };
        back_is = parts.back_is;
        whole = ap (λ w. 110 ∷ w) parts.whole;
      };
      from = λ text more rest parts same. (
        decimal parts.word_is.number ++ end ∷ parts.back,
        (
          record {
            word = decimal parts.word_is.number;
            back = parts.back;
            word_is = record { number = parts.word_is.number; small = parts.word_is.small; is = refl };
            back_is = parts.back_is;
            whole = refl;
          },
          parts.whole ∙ ap (λ w. w ++ end ∷ parts.back) parts.word_is.is,
        ),
      );
    }

pub node_away : (end : ℕ) (text : List ℕ) → ((b : ℕ) (more : List ℕ) → text ≡ b ∷ more → b ≡ 110 → ⊥) → IsAway (Followed NodeWord end Nothing) text
node_away end text other =
    record {
      differs = λ b rest more parts same.
          let whole : b ∷ rest ≡ 110 ∷ (decimal parts.word_is.number ++ end ∷ parts.back) = parts.whole ∙ ap (λ w. w ++ end ∷ parts.back) parts.word_is.is in
          other b more same (let e : b ≡ 110 = cc in e);
      some = λ parts.
          let whole : [] ≡ 110 ∷ (decimal parts.word_is.number ++ end ∷ parts.back) = parts.whole ∙ ap (λ w. w ++ end ∷ parts.back) parts.word_is.is in cc;
    }

pub some_node : (end : ℕ) → Followed NodeWord end Nothing (node_word 0 ++ end ∷ [])
some_node end = record { word = node_word 0; back = []; word_is = record { number = 0; small = omega arith; is = refl }; back_is = record { is = refl }; whole = refl }

pub some_target : (end : ℕ) → Followed TargetWord end Nothing (target_word (State 0) ++ end ∷ [])
some_target end = record { word = target_word (State 0); back = []; word_is = record { target = State 0; small = omega arith; is = refl }; back_is = record { is = refl }; whole = refl }

target_first : (end : ℕ) (target : Child) → IsTarget target → (text back : List ℕ) → text ≡ target_word target ++ end ∷ back
    → (text ≡ [] → ⊥) × ((b : ℕ) (rest : List ℕ) → text ≡ b ∷ rest → (b ≡ 116) ⊎ (b ≡ 110))
target_first end (State number) small text back whole = (
  (λ none. let wrong : [] ≡ 116 ∷ (decimal number ++ end ∷ back) = sym none ∙ whole in cc),
  λ b rest same. let both_are : b ∷ rest ≡ 116 ∷ (decimal number ++ end ∷ back) = sym same ∙ whole in inl (let e : b ≡ 116 = cc in e),
)
target_first end (Node number) small text back whole = (
  (λ none. let wrong : [] ≡ 110 ∷ (decimal number ++ end ∷ back) = sym none ∙ whole in cc),
  λ b rest same. let both_are : b ∷ rest ≡ 110 ∷ (decimal number ++ end ∷ back) = sym same ∙ whole in inr (let e : b ≡ 110 = cc in e),
)

pub target_away : (end : ℕ) (text : List ℕ) → ((b : ℕ) (more : List ℕ) → text ≡ b ∷ more → ((b ≡ 116) ⊎ (b ≡ 110)) → ⊥) → IsAway (Followed TargetWord end Nothing) text
target_away end text other =
    record {
      differs = λ b rest more parts same.
          let firsts = target_first end parts.word_is.target parts.word_is.small (b ∷ rest) parts.back (parts.whole ∙ ap (λ w. w ++ end ∷ parts.back) parts.word_is.is) in
          other b more same (firsts.1 b rest refl);
      some = λ parts. (target_first end parts.word_is.target parts.word_is.small [] parts.back (parts.whole ∙ ap (λ w. w ++ end ∷ parts.back) parts.word_is.is)).0 refl;
    }

number_text : (end number : ℕ) → IsNumber number → (back : List ℕ) → Nothing back → Followed NumberWord end Nothing (decimal number ++ end ∷ back)
number_text end number small back none =
    record { word = decimal number; back = back; word_is = record { number = number; small = small; is = refl }; back_is = none; whole = refl }

behind_state : (end : ℕ) (target : Child) → IsTarget target → (text more rest back : List ℕ) → Nothing back → text ≡ target_word target ++ end ∷ back → text ++ more ≡ 116 ∷ rest
    → (left : List ℕ) × (Followed NumberWord end Nothing left × (text ≡ 116 ∷ left))
behind_state end (State number) small text more rest back none whole same = (decimal number ++ end ∷ back, (number_text end number small back none, whole))
behind_state end (Node number) small text more rest back none whole same =
    absurd (let wrong : 110 ∷ ((decimal number ++ end ∷ back) ++ more) ≡ 116 ∷ rest = ap (λ t. t ++ more) (sym whole) ∙ same in
    let e : ◌≡◌ {A = ℕ} 110 116 = cc in not_same e)
  where
    not_same : ◌≡◌ {A = ℕ} 110 116 → ⊥
    not_same e = omega arith

behind_node : (end : ℕ) (target : Child) → IsTarget target → (text more rest back : List ℕ) → Nothing back → text ≡ target_word target ++ end ∷ back → text ++ more ≡ 110 ∷ rest
    → (left : List ℕ) × (Followed NumberWord end Nothing left × (text ≡ 110 ∷ left))
behind_node end (Node number) small text more rest back none whole same = (decimal number ++ end ∷ back, (number_text end number small back none, whole))
behind_node end (State number) small text more rest back none whole same =
    absurd (let wrong : 116 ∷ ((decimal number ++ end ∷ back) ++ more) ≡ 110 ∷ rest = ap (λ t. t ++ more) (sym whole) ∙ same in
    let e : ◌≡◌ {A = ℕ} 116 110 = cc in not_same e)
  where
    not_same : ◌≡◌ {A = ℕ} 116 110 → ⊥
    not_same e = omega arith

pub leads_state : (end : ℕ) → Leads (Followed TargetWord end Nothing) (116 ∷ []) (Followed NumberWord end Nothing)
leads_state end =
    record {
      into = λ rest parts. record {
        word = 116 ∷ parts.word;
        back = parts.back;
        word_is = record { target = State parts.word_is.number; small = parts.word_is.small; is = ap (λ w. 116 ∷ w) parts.word_is.is };
        back_is = parts.back_is;
        whole = ap (λ w. 116 ∷ w) parts.whole;
      };
      from = λ text more rest parts same.
          behind_state end parts.word_is.target parts.word_is.small text more rest parts.back parts.back_is (parts.whole ∙ ap (λ w. w ++ end ∷ parts.back) parts.word_is.is) same;
    }

pub leads_target_node : (end : ℕ) → Leads (Followed TargetWord end Nothing) (110 ∷ []) (Followed NumberWord end Nothing)
leads_target_node end =
    record {
      into = λ rest parts. record {
        word = 110 ∷ parts.word;
        back = parts.back;
        word_is = record { target = Node parts.word_is.number; small = parts.word_is.small; is = ap (λ w. 110 ∷ w) parts.word_is.is };
        back_is = parts.back_is;
        whole = ap (λ w. 110 ∷ w) parts.whole;
      };
      from = λ text more rest parts same.
          behind_node end parts.word_is.target parts.word_is.small text more rest parts.back parts.back_is (parts.whole ∙ ap (λ w. w ++ end ∷ parts.back) parts.word_is.is) same;
    }

-- ---- `accept` and `reject`

answer_from : (accepting : Bool) (text back : List ℕ) → back ≡ [] → text ≡ answer_word accepting ++ 32 ∷ back → Either (Exactly (codes "accept ")) (Exactly (codes "reject ")) text
answer_from true text back none whole = record { which = inl (record { is = whole ∙ ap (λ back. codes "accept " ++ back) none }) }
answer_from false text back none whole = record { which = inr (record { is = whole ∙ ap (λ back. codes "reject " ++ back) none }) }

answer_into : (text : List ℕ) → Either (Exactly (codes "accept ")) (Exactly (codes "reject ")) text → Followed AnswerWord 32 Nothing text
answer_into text is =
    elim is.which [
      | inl one ↦ record { word = codes "accept"; back = []; word_is = record { accepting = true; is = refl }; back_is = record { is = refl }; whole = one.is }
      | inr other ↦ record { word = codes "reject"; back = []; word_is = record { accepting = false; is = refl }; back_is = record { is = refl }; whole = other.is }
    ]

leads_answer : Leads (Followed AnswerWord 32 Nothing) [] (Either (Exactly (codes "accept ")) (Exactly (codes "reject ")))
leads_answer = leads_same answer_into
    (λ text is. answer_from is.word_is.accepting text is.back is.back_is.is (is.whole ∙ ap (λ w. w ++ 32 ∷ is.back) is.word_is.is))

-- a word that begins with another byte
pub exactly_away : (first : ℕ) (word text : List ℕ) → ((b : ℕ) (more : List ℕ) → text ≡ b ∷ more → b ≡ first → ⊥) → IsAway (Exactly (first ∷ word)) text
exactly_away first word text other =
    record {
      differs = λ b rest more is same. other b more same (let whole : b ∷ rest ≡ first ∷ word = is.is in let e : b ≡ first = cc in e);
      some = λ is. let whole : [] ≡ first ∷ word = is.is in cc;
    }

pub accept_stuck : {text left : List ℕ} → IsStuckIn (Exactly (codes "accept ")) text left → ((b : ℕ) (more : List ℕ) → text ≡ b ∷ more → b ≡ 114 → ⊥)
    → IsStuckIn (Followed AnswerWord 32 Nothing) text left
accept_stuck {text = text} stuck other = stuck_after leads_answer refl (stuck_in_first stuck (exactly_away 114 (codes "eject ") text other))

pub reject_stuck : {text left : List ℕ} → IsStuckIn (Exactly (codes "reject ")) text left → ((b : ℕ) (more : List ℕ) → text ≡ b ∷ more → b ≡ 97 → ⊥)
    → IsStuckIn (Followed AnswerWord 32 Nothing) text left
reject_stuck {text = text} stuck other = stuck_after leads_answer refl (stuck_in_second stuck (exactly_away 97 (codes "ccept ") text other))

-- ---- one word alone

none_of_word : (word front rest left : List ℕ) (c : ℕ) → word ≡ front ++ c ∷ rest → AtFront (λ b. b ≡ c → ⊥) left → IsNoFurther (Exactly word) front left
none_of_word word front rest [] c spelled differs = λ text more is same.
    let whole : front ++ (c ∷ rest ++ more) ≡ front ++ [] = sym (append_assoc front (c ∷ rest) more) ∙ ap (λ w. w ++ more) (sym (is.is ∙ spelled)) ∙ same ∙ sym (append_none front) in
    let wrong : c ∷ (rest ++ more) ≡ [] = same_front front (c ∷ rest ++ more) [] whole in cc
none_of_word word front rest (b ∷ left) c spelled differs = λ text more other is same.
    let whole : front ++ (c ∷ rest ++ more) ≡ front ++ b ∷ other = sym (append_assoc front (c ∷ rest) more) ∙ ap (λ w. w ++ more) (sym (is.is ∙ spelled)) ∙ same in
    let first : c ∷ (rest ++ more) ≡ b ∷ other = same_front front (c ∷ rest ++ more) (b ∷ other) whole in
    differs (let e : b ≡ c = cc in e)

-- what is read of a word, and a byte that is not its next
pub literal_stuck : (word text : List ℕ) (place : ℕ) → place < length word → take place text ≡ take place word
    → (place < length text → slice_index_or text place 0 ≡ slice_index_or word place 0 → ⊥) → IsStuckIn (Exactly word) text (left_at text place)
literal_stuck word text place within same differs =
    let spelled : word ≡ take place text ++ slice_index_or word place 0 ∷ drop (suc place) word =
    sym (take-append-drop place word) ∙ (λ i. sym same i ++ drop-cons word place 0 within i) in
    record {
      front = take place text;
      cut = cut_at text place;
      viable = record { more = slice_index_or word place 0 ∷ drop (suc place) word; member = record { is = sym spelled } };
      stuck = none_of_word word (take place text) (drop (suc place) word) (left_at text place) (slice_index_or word place 0) spelled
          (front_at (λ b. b ≡ slice_index_or word place 0 → ⊥) text place differs);
    }

-- ---- first bytes

-- a text that does not begin with this byte
pub other_first : (first : ℕ) (text : List ℕ) → (0 < length text → slice_index_or text 0 0 ≡ first → ⊥) → (b : ℕ) (more : List ℕ) → text ≡ b ∷ more → b ≡ first → ⊥
other_first first text differs b more is same =
    let size : length text ≡ suc (length more) = ap length is in
    differs (omega arith) (ap (λ t. slice_index_or t 0 0) is ∙ same)

-- a text that begins with this one
pub first_is : (first : ℕ) (text : List ℕ) → 0 < length text → slice_index_or text 0 0 ≡ first → text ≡ first ∷ left_at text 1
first_is first [] some is = absurd (omega arith)
first_is first (b ∷ text) some is = λ i. is i ∷ sym (left_is (b ∷ text) 1) i

-- what a test of the first byte says
pub begins_by : (first : ℕ) (text : List ℕ) → (0 < length text) × (slice_index_or text 0 0 ≡ first) → text ≡ first ∷ left_at text 1
begins_by first text is = first_is first text is.0 is.1

pub begins_otherwise : {test : Bool} (first : ℕ) (text : List ℕ) → ((0 < length text) × (slice_index_or text 0 0 ≡ first) → test ≡ true) → test ≡ false
    → (b : ℕ) (more : List ℕ) → text ≡ b ∷ more → b ≡ first → ⊥
begins_otherwise first text holds fails = other_first first text (λ some is. let wrong : true ≡ false = sym (holds (some, is)) ∙ fails in cc)

-- ---- exits

pub passes : {T : Type 0} (P : List ℕ → Type 0) (text : List ℕ) (result : Result T Stuck) (stuck : Stuck) → IsErrAnd result (λ e. e ≡ stuck) → IsStuckIn P text stuck.left.now
    → IsStuckAt P text result
passes P text (Ok read) stuck is here = absurd is
passes P text (Err other) stuck is here = subst (λ (e : Stuck). IsStuckIn P text e.left.now) (sym is) here

pub carried : {T : Type 0} (P Q : List ℕ → Type 0) (text rest : List ℕ) (result : Result T Stuck) → ((left : List ℕ) → IsStuckIn Q rest left → IsStuckIn P text left)
    → IsStuckAt Q rest result → IsStuckAt P text result
carried P Q text rest (Ok read) over is = tt
carried P Q text rest (Err stuck) over is = over stuck.left.now is

-- ---- tests of the code

pub takes_no_digit : (place number : ℕ) (test : Bool) → (((place ≡ 0) ⊎ ((0 < number) × (number ≤ 999999))) → test ≡ true) → test ≡ false
    → (0 < place) × ((number ≡ 0) ⊎ (999999 < number))
takes_no_digit zero number test holds fails = absurd (let wrong : true ≡ false = sym (holds (inl refl)) ∙ fails in cc)
takes_no_digit (suc place) zero test holds fails = (omega arith, inl refl)
takes_no_digit (suc place) (suc number) test holds fails = (
  omega arith,
  inr (elim (decide (nat_le (suc number) 999999))
      [ inl small ↦ absurd (never (grind (arith, small))) | inr large ↦ grind (arith, large) ]),
)
  where
    never : suc number ≤ 999999 → ⊥
    never small = let wrong : true ≡ false = sym (holds (inr (omega arith, small))) ∙ fails in cc
