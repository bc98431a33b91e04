-- The longest piece with which a text begins, by its first bytes.
use Rattle.std.proofs.Common.{◌≡◌, ℕ, suc, ◌<◌, ◌≤◌, Bool, true, false, ◌&&◌, ◌||◌, ◌==◌, nat_le, nat_eq, List, [], ◌∷◌, ◌++◌, length, take, drop, get_or}
use Rattle.std.proofs.Common.{IsTrue, Some, None, inl, inr, refl, sym, ap, subst, ◌∙◌, arith}
use Rattle.std.specs.List.{list_all, prefix_len, starts_with}
use Rattle.std.specs.Str.{bytes_eq}
use Rattle.std.specs.Char.{is_ascii_alphabetic, is_ascii_digit}
use Rattle.std.proofs.lemmas.Bool.{cases_Bool, false_from_ne_true, and_parts, and_from, or_left, or_right, or_cases, or_parts, not-true, leb-true}
use Rattle.std.proofs.lemmas.Bool.{both_ways, false≢true, eqb-true, eqb-false}
use Rattle.std.proofs.lemmas.Bool.Decides.{Decides-eqb}
use Rattle.std.proofs.lemmas.Slice.Eq.{bytes_eq-Decides, starts_is}
use Rattle.std.proofs.lemmas.List.{take-append-drop, length-take}
use Rattle.std.proofs.lemmas.List.Sums.{prefix_len-le-length}
use Rattle.dcv_lexer.specs.Lexicon.{Lexicon, texts_of, is_one_of, is_white, is_white_space, is_in_line, is_comment, is_word_byte, is_word, is_number}
use Rattle.dcv_lexer.specs.Lexicon.{is_symbol, is_blank, is_token, is_piece, is_symbol_byte, begins_as_symbol, are_longer_first, class_in, is_orderly}
use Rattle.dcv_lexer.specs.Cuts.{BeginsWith, BeginsWithNoPiece, IsLongest}
use Rattle.dcv_lexer.specs.Fronts.{first_fit}
use Rattle.dcv_lexer.proofs.FirstBytes.{one_of_passes, each_begins, longer_first, white_below, letter_above, digit_within, Kind, kind_of, nothing_is_no_piece}
use Rattle.dcv_lexer.proofs.Cuts.{piece_has_bytes}

-- n bytes are the longest piece, or n is 0 and there is none
pub record IsPieceLength (lexicon : Lexicon) (text : List ℕ) (n : ℕ) : Type 0 where
  pub in_range : n ≤ length text
  pub longest : 0 < n → IsLongest lexicon (take n text) text
  pub none : n ≡ 0 → BeginsWithNoPiece lexicon text

-- ---- lists of bytes

-- the bytes before the first that fails
pub passes_front : (p : ℕ → Bool) (xs : List ℕ) → list_all p (take (prefix_len p xs) xs) ≡ true
passes_front p [] = refl
passes_front p (x ∷ xs) = elim (cases_Bool (p x)) [
  | inl passes ↦
      let next : prefix_len p (x ∷ xs) ≡ suc (prefix_len p xs) = rw passes (omega arith) in
      rw next (and_from _ _ passes (passes_front p xs))
  | inr fails ↦ rw fails refl
]

covers_front : (p : ℕ → Bool) (xs rest : List ℕ) → list_all p xs ≡ true → length xs ≤ prefix_len p (xs ++ rest)
covers_front p [] rest all = omega arith
covers_front p (x ∷ xs) rest all =
    let both = and_parts (p x) (list_all p xs) all in
    rw both.0 (omega (arith, covers_front p xs rest both.1))

-- what no white space, comment, word or number begins with
pub symbol_byte_is_no_other : (b : ℕ) → is_symbol_byte b ≡ true
    → (is_white b ≡ false) × ((b == 47) ≡ false) × (is_ascii_alphabetic b ≡ false) × (is_ascii_digit b ≡ false)
symbol_byte_is_no_other b h =
    let none = not-true _ h in
    let first = or_parts ((is_white b || b == 47) || is_ascii_alphabetic b) (is_ascii_digit b) none in
    let second = or_parts (is_white b || b == 47) (is_ascii_alphabetic b) first.0 in
    let third = or_parts (is_white b) (b == 47) second.0 in
    (third.0, third.1, second.1, first.1)

-- a piece that begins with a given byte
abbrev HeadIs : ℕ → List ℕ → Type 0
HeadIs b [] = ⊥
HeadIs b (o ∷ os) = b ≡ o

comment_in_line : (o : ℕ) (os : List ℕ) → is_comment (o ∷ os) ≡ true → list_all is_in_line (o ∷ os) ≡ true
comment_in_line o [] h = absurd (false≢true h)
comment_in_line o (c ∷ os) h =
    let slashes = and_parts (o == 47 && c == 47) (list_all is_in_line os) h in
    let both = and_parts (o == 47) (c == 47) slashes.0 in
    rw (eqb-true o 47 both.0, eqb-true c 47 both.1) slashes.1

begins_decided : (text other : List ℕ)
    → (starts_with nat_eq text other ≡ true → text ≡ other ++ drop (length other) text) × ((rest : List ℕ) → text ≡ other ++ rest → starts_with nat_eq text other ≡ true)
begins_decided text other = starts_is Decides-eqb text other (starts_with nat_eq text other) refl

pub slashes_there : (text : List ℕ) → starts_with nat_eq text (47 ∷ 47 ∷ []) ≡ true → text ≡ 47 ∷ 47 ∷ drop 2 text
slashes_there text begins = (begins_decided text (47 ∷ 47 ∷ [])).0 begins

-- its text is the longest of the table with which this one begins
pub record IsFirstFit (table : List (List ℕ × ℕ)) (text : List ℕ) (entry : List ℕ × ℕ) : Type 0 where
  pub begins : text ≡ entry.0 ++ drop (length entry.0) text
  pub found : is_one_of (texts_of table) entry.0 ≡ true
  pub class : class_in table entry.0 ≡ Some entry.1
  pub longest : (other : List ℕ) → is_one_of (texts_of table) other ≡ true → BeginsWith text other → length other ≤ length entry.0

pub first_is_longest : (table : List (List ℕ × ℕ)) (text : List ℕ) (entry : List ℕ × ℕ) → are_longer_first (texts_of table) ≡ true
    → first_fit text table ≡ Some entry → IsFirstFit table text entry
first_is_longest [] text entry fall is = let never : None ≡ Some entry = is in cc
first_is_longest (first ∷ table) text entry fall is =
    let sizes = and_parts (list_all (λ later. nat_le (length later) (length first.0)) (texts_of table)) (are_longer_first (texts_of table)) fall in
    elim (cases_Bool (starts_with nat_eq text first.0)) [
      | inl begins ↦
          let here : Some first ≡ Some entry = rw begins at is in
          let one : first ≡ entry = cc in
          let same : bytes_eq first.0 first.0 ≡ true = (bytes_eq-Decides first.0 first.0).1 refl in
          subst (λ (e : List ℕ × ℕ). IsFirstFit (first ∷ table) text e) one (record {
            begins = (begins_decided text first.0).0 begins;
            found = or_left _ _ same;
            class = rw same refl;
            longest = λ other is_one other_begins. elim (or_cases (bytes_eq other first.0) (is_one_of (texts_of table) other) is_one) [
              | inl same_text ↦ omega (arith, ap length ((bytes_eq-Decides other first.0).0 same_text))
              | inr later ↦ leb-true (length other) (length first.0) (one_of_passes (texts_of table) (λ t. nat_le (length t) (length first.0)) other sizes.0 later)
            ];
          })
      | inr fails ↦
          let later = first_is_longest table text entry sizes.1 (rw fails at is) in
          let differs : bytes_eq entry.0 first.0 ≡ false = false_from_ne_true (bytes_eq entry.0 first.0) (λ same.
          let is_first = (bytes_eq-Decides entry.0 first.0).0 same in
          both_ways (starts_with nat_eq text first.0) fails
          ((begins_decided text first.0).1 (drop (length entry.0) text) (later.begins ∙ ap (λ (t : List ℕ). t ++ drop (length entry.0) text) is_first))) in
          record {
            begins = later.begins;
            found = or_right _ _ later.found;
            class = rw differs later.class;
            longest = λ other is_one begins. elim (or_cases (bytes_eq other first.0) (is_one_of (texts_of table) other) is_one) [
              | inl same ↦
                  let is_first = (bytes_eq-Decides other first.0).0 same in
                  let first_begins = (begins_decided text first.0).1 begins.0 (begins.1 ∙ ap (λ (t : List ℕ). t ++ begins.0) is_first) in
                  absurd (both_ways (starts_with nat_eq text first.0) fails first_begins)
              | inr in_rest ↦ later.longest other in_rest begins
            ];
          }
    ]

-- without an entry that fits, this text begins with none
pub none_begins : (table : List (List ℕ × ℕ)) (text : List ℕ) → first_fit text table ≡ None
    → (other : List ℕ) → is_one_of (texts_of table) other ≡ true → BeginsWith text other → ⊥
none_begins [] text none other is_one begins = false≢true is_one
none_begins (first ∷ table) text none other is_one begins = elim (cases_Bool (starts_with nat_eq text first.0)) [
  | inl fits ↦ let never : Some first ≡ None = rw fits at none in cc
  | inr fails ↦ elim (or_cases (bytes_eq other first.0) (is_one_of (texts_of table) other) is_one) [
    | inl same ↦
        let is_first = (bytes_eq-Decides other first.0).0 same in
        both_ways (starts_with nat_eq text first.0) fails
        ((begins_decided text first.0).1 begins.0 (begins.1 ∙ ap (λ (t : List ℕ). t ++ begins.0) is_first))
    | inr later ↦ none_begins table text (rw fails at none) other later begins
  ]
]

-- a comment with which a text begins
comment_begins : (text other : List ℕ) → is_comment other ≡ true → BeginsWith text other → starts_with nat_eq text (47 ∷ 47 ∷ []) ≡ true
comment_begins text [] is begins = absurd (false≢true is)
comment_begins text (a ∷ []) is begins = absurd (false≢true is)
comment_begins text (a ∷ b ∷ bytes) is begins =
    let both = and_parts (a == 47) (b == 47) (and_parts (a == 47 && b == 47) (list_all is_in_line bytes) is).0 in
    let a_is = eqb-true a 47 both.0 in
    let b_is = eqb-true b 47 both.1 in
    let front : text ≡ 47 ∷ 47 ∷ (bytes ++ begins.0) = begins.1 ∙ (let e : a ∷ b ∷ (bytes ++ begins.0) ≡ 47 ∷ 47 ∷ (bytes ++ begins.0) = cc in e) in
    (begins_decided text (47 ∷ 47 ∷ [])).1 (bytes ++ begins.0) front

-- ---- pieces

module _ (lexicon : Lexicon) (orderly : is_orderly lexicon ≡ true) where
  -- a piece that no other beginning exceeds
  of_longest : (text : List ℕ) (n : ℕ) → n ≤ length text → (0 < n → IsTrue (is_piece lexicon (take n text)))
      → ((other : List ℕ) → IsTrue (is_piece lexicon other) → BeginsWith text other → length other ≤ n) → IsPieceLength lexicon text n
  of_longest text n within is_piece_of longest = record {
    in_range = within;
    longest = λ some. record {
      piece = is_piece_of some;
      begins = (drop n text, sym (take-append-drop n text));
      longest = λ other is begins. omega (arith, longest other is begins, length-take n text);
    };
    none = λ zero_is other is begins. absurd (omega (arith, longest other is begins, piece_has_bytes lexicon other is));
  }

  -- ---- runs of bytes

  -- the run of bytes that pass is the longest piece, where each piece is such a run
  run_length : (p : ℕ → Bool) (text : List ℕ)
      → (list_all p (take (prefix_len p text) text) ≡ true → IsTrue (is_piece lexicon (take (prefix_len p text) text)))
      → ((other : List ℕ) → IsTrue (is_piece lexicon other) → BeginsWith text other → list_all p other ≡ true)
      → IsPieceLength lexicon text (prefix_len p text)
  run_length p text is each = of_longest text (prefix_len p text) (prefix_len-le-length p text) (λ some. is (passes_front p text))
      (λ other other_is begins. rw begins.1 (covers_front p other begins.0 (each other other_is begins)))

  -- ---- the kinds that the first byte tells

  head_is : (b : ℕ) (bytes other : List ℕ) → IsTrue (is_piece lexicon other) → BeginsWith (b ∷ bytes) other → HeadIs b other
  head_is b bytes [] is begins = nothing_is_no_piece lexicon is
  head_is b bytes (o ∷ os) is begins = let e : b ∷ bytes ≡ o ∷ (os ++ begins.0) = begins.1 in cc

  white_only : (b : ℕ) (other : List ℕ) → is_white b ≡ true → IsTrue (is_piece lexicon other) → HeadIs b other → length other ≤ 1
  white_only b [] white is head = absurd head
  white_only b (o ∷ os) white is head =
      let o_white : is_white o ≡ true = ap is_white (sym head) ∙ white in
      elim (kind_of lexicon orderly o os is) [
        | Kind.white w nil ↦ omega (arith, ap length nil)
        | Kind.comment w slash on ↦ absurd (omega (arith, white_below o o_white))
        | Kind.word w letter ↦ absurd (omega (arith, white_below o o_white, letter_above o letter))
        | Kind.number w digit ↦ absurd (omega (arith, white_below o o_white, digit_within o digit))
        | Kind.symbol w free ↦ absurd (both_ways (is_white o) (symbol_byte_is_no_other o free).0 o_white)
      ]

  word_only : (b : ℕ) (other : List ℕ) → is_ascii_alphabetic b ≡ true → IsTrue (is_piece lexicon other) → HeadIs b other → list_all is_word_byte other ≡ true
  word_only b [] letter is head = refl
  word_only b (o ∷ os) letter is head =
      let o_letter : is_ascii_alphabetic o ≡ true = ap is_ascii_alphabetic (sym head) ∙ letter in
      elim (kind_of lexicon orderly o os is) [
        | Kind.white w nil ↦ absurd (omega (arith, white_below o w, letter_above o o_letter))
        | Kind.comment w slash on ↦ absurd (omega (arith, letter_above o o_letter))
        | Kind.word w same ↦ and_from _ _ (or_left _ _ (or_left _ _ o_letter)) (and_parts _ _ w).1
        | Kind.number w digit ↦ absurd (omega (arith, letter_above o o_letter, digit_within o digit))
        | Kind.symbol w free ↦ absurd (both_ways (is_ascii_alphabetic o) (symbol_byte_is_no_other o free).2 o_letter)
      ]

  number_only : (b : ℕ) (other : List ℕ) → is_ascii_digit b ≡ true → IsTrue (is_piece lexicon other) → HeadIs b other → list_all is_ascii_digit other ≡ true
  number_only b [] digit is head = refl
  number_only b (o ∷ os) digit is head =
      let o_digit : is_ascii_digit o ≡ true = ap is_ascii_digit (sym head) ∙ digit in
      elim (kind_of lexicon orderly o os is) [
        | Kind.white w nil ↦ absurd (omega (arith, white_below o w, digit_within o o_digit))
        | Kind.comment w slash on ↦ absurd (omega (arith, digit_within o o_digit))
        | Kind.word w letter ↦ absurd (omega (arith, letter_above o letter, digit_within o o_digit))
        | Kind.number w same ↦ and_from _ _ o_digit (and_parts _ _ w).1
        | Kind.symbol w free ↦ absurd (both_ways (is_ascii_digit o) (symbol_byte_is_no_other o free).3 o_digit)
      ]

  slash_only : (other : List ℕ) → IsTrue (is_piece lexicon other) → HeadIs 47 other → list_all is_in_line other ≡ true
  slash_only [] is head = refl
  slash_only (o ∷ os) is head =
      elim (kind_of lexicon orderly o os is) [
        | Kind.white w nil ↦ absurd (omega (arith, white_below o w))
        | Kind.comment w slash on ↦ comment_in_line o os w
        | Kind.word w letter ↦ absurd (omega (arith, letter_above o letter))
        | Kind.number w digit ↦ absurd (omega (arith, digit_within o digit))
        | Kind.symbol w free ↦ absurd (omega (arith, eqb-false o 47 (symbol_byte_is_no_other o free).1))
      ]

  -- ---- each kind's length

  pub white_length : (text : List ℕ) → 1 ≤ length text → is_white (get_or text 0 0) ≡ true → IsPieceLength lexicon text 1
  white_length [] some white = absurd (omega arith)
  white_length (b ∷ bytes) some white =
      of_longest (b ∷ bytes) 1 (omega arith) (λ positive. or_left _ _ (or_left _ _ white)) (λ other is begins. white_only b other white is (head_is b bytes other is begins))

  pub word_length : (text : List ℕ) → 1 ≤ length text → is_ascii_alphabetic (get_or text 0 0) ≡ true → IsPieceLength lexicon text (prefix_len is_word_byte text)
  word_length [] some letter = absurd (omega arith)
  word_length (b ∷ bytes) some letter =
      let one : is_word_byte b ≡ true = or_left _ _ (or_left _ _ letter) in
      let next : prefix_len is_word_byte (b ∷ bytes) ≡ suc (prefix_len is_word_byte bytes) = rw one (omega arith) in
      run_length is_word_byte (b ∷ bytes)
      (λ all. rw next (or_right _ _ (or_left _ _ (or_left _ _ (and_from _ _ letter (passes_front is_word_byte bytes))))))
      (λ other is begins. word_only b other letter is (head_is b bytes other is begins))

  pub number_length : (text : List ℕ) → 1 ≤ length text → is_ascii_digit (get_or text 0 0) ≡ true → IsPieceLength lexicon text (prefix_len is_ascii_digit text)
  number_length [] some digit = absurd (omega arith)
  number_length (b ∷ bytes) some digit =
      let next : prefix_len is_ascii_digit (b ∷ bytes) ≡ suc (prefix_len is_ascii_digit bytes) = rw digit (omega arith) in
      run_length is_ascii_digit (b ∷ bytes)
      (λ all. rw next (or_right _ _ (or_left _ _ (or_right _ _ (and_from _ _ digit (passes_front is_ascii_digit bytes))))))
      (λ other is begins. number_only b other digit is (head_is b bytes other is begins))

  comment_is_piece : (piece : List ℕ) → lexicon.comments ≡ true → is_comment piece ≡ true → IsTrue (is_piece lexicon piece)
  comment_is_piece piece on h =
      or_left (is_blank lexicon piece) (is_token lexicon piece)
      (or_right (is_white_space piece) (lexicon.comments && is_comment piece) (and_from lexicon.comments (is_comment piece) on h))

  slashes_length : (line : List ℕ) → lexicon.comments ≡ true → IsPieceLength lexicon (47 ∷ 47 ∷ line) (prefix_len is_in_line (47 ∷ 47 ∷ line))
  slashes_length line on =
      let text = 47 ∷ 47 ∷ line in
      let next : prefix_len is_in_line text ≡ suc (suc (prefix_len is_in_line line)) = omega arith in
      let comment : is_comment (take (prefix_len is_in_line text) text) ≡ true = rw next (passes_front is_in_line line) in
      run_length is_in_line text
      (λ all. comment_is_piece (take (prefix_len is_in_line text) text) on comment)
      (λ other is begins. slash_only other is (head_is 47 (47 ∷ line) other is begins))

  pub comment_length : (text : List ℕ) → lexicon.comments ≡ true → starts_with nat_eq text (47 ∷ 47 ∷ []) ≡ true
      → IsPieceLength lexicon text (prefix_len is_in_line text)
  comment_length text on begins =
      let is : text ≡ 47 ∷ 47 ∷ drop 2 text = (starts_is Decides-eqb text (47 ∷ 47 ∷ []) (starts_with nat_eq text (47 ∷ 47 ∷ [])) refl).0 begins in
      subst (λ (t : List ℕ). IsPieceLength lexicon t (prefix_len is_in_line t)) (sym is) (slashes_length (drop 2 text) on)

  -- ---- symbols

  symbol_only : (b : ℕ) (bytes other : List ℕ) → is_white b ≡ false → is_ascii_alphabetic b ≡ false → is_ascii_digit b ≡ false
      → (lexicon.comments && starts_with nat_eq (b ∷ bytes) (47 ∷ 47 ∷ [])) ≡ false → IsTrue (is_piece lexicon other) → BeginsWith (b ∷ bytes) other
      → is_one_of (texts_of lexicon.symbols) other ≡ true
  symbol_only b bytes [] white letter digit slashes is begins = absurd (nothing_is_no_piece lexicon is)
  symbol_only b bytes (o ∷ os) white letter digit slashes is begins =
      let head : b ≡ o = head_is b bytes (o ∷ os) is begins in
      elim (kind_of lexicon orderly o os is) [
        | Kind.white w nil ↦ absurd (both_ways (is_white b) white (ap is_white head ∙ w))
        | Kind.comment w slash on ↦
            absurd (both_ways (lexicon.comments && starts_with nat_eq (b ∷ bytes) (47 ∷ 47 ∷ [])) slashes
            (and_from lexicon.comments (starts_with nat_eq (b ∷ bytes) (47 ∷ 47 ∷ [])) on (comment_begins (b ∷ bytes) (o ∷ os) w begins)))
        | Kind.word w same ↦ absurd (both_ways (is_ascii_alphabetic b) letter (ap is_ascii_alphabetic head ∙ same))
        | Kind.number w same ↦ absurd (both_ways (is_ascii_digit b) digit (ap is_ascii_digit head ∙ same))
        | Kind.symbol w free ↦ w
      ]

  -- what is known of a text that begins with no white space, comment, word or number
  pub record IsOther (text : List ℕ) : Type 0 where
    pub some : 1 ≤ length text
    pub white : is_white (get_or text 0 0) ≡ false
    pub letter : is_ascii_alphabetic (get_or text 0 0) ≡ false
    pub digit : is_ascii_digit (get_or text 0 0) ≡ false
    pub slashes : (lexicon.comments && starts_with nat_eq text (47 ∷ 47 ∷ [])) ≡ false

  symbol_there : (text other : List ℕ) → IsOther text → IsTrue (is_piece lexicon other) → BeginsWith text other
      → is_one_of (texts_of lexicon.symbols) other ≡ true
  symbol_there [] other is piece begins = absurd (omega (arith, is.some))
  symbol_there (b ∷ bytes) other is piece begins = symbol_only b bytes other is.white is.letter is.digit is.slashes piece begins

  pub no_symbol : (text : List ℕ) → IsOther text → first_fit text lexicon.symbols ≡ None → BeginsWithNoPiece lexicon text
  no_symbol text is none other piece begins = none_begins lexicon.symbols text none other (symbol_there text other is piece begins) begins

  symbol_is_piece : (bytes : List ℕ) → is_one_of (texts_of lexicon.symbols) bytes ≡ true → begins_as_symbol bytes ≡ true → IsTrue (is_piece lexicon bytes)
  symbol_is_piece [] is begins = absurd (false≢true begins)
  symbol_is_piece (b ∷ bytes) is begins =
      let piece = b ∷ bytes in
      or_right (is_blank lexicon piece) (is_token lexicon piece) (or_right (is_word piece || is_number piece) (is_symbol lexicon piece) is)

  pub symbol_longest : (text : List ℕ) (entry : List ℕ × ℕ) → IsOther text → first_fit text lexicon.symbols ≡ Some entry → IsLongest lexicon entry.0 text
  symbol_longest text entry is found =
      let first = first_is_longest lexicon.symbols text entry (longer_first lexicon orderly) found in
      record {
        piece = symbol_is_piece entry.0 first.found (one_of_passes (texts_of lexicon.symbols) begins_as_symbol entry.0 (each_begins lexicon orderly) first.found);
        begins = (drop (length entry.0) text, first.begins);
        longest = λ other other_is begins. first.longest other (symbol_there text other is other_is begins) begins;
      }
