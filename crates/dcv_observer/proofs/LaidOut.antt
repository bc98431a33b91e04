-- A text that is laid out is cut into its pieces.
use Rattle.std.proofs.Common.{◌≡◌, ℕ, ◌+◌, ◌<◌, Bool, true, false, not, cond, ◌||◌, ◌&&◌, nat_eq, List, [], ◌∷◌, ◌++◌, inl, inr, length, map, refl, sym}
use Rattle.std.proofs.Common.{ap, subst, ◌∙◌, arith, append_assoc, append-nil, length-append}
use Rattle.std.specs.List.{concat, list_all, starts_with}
use Rattle.std.specs.Str.{bytes_eq}
use Rattle.std.specs.Char.{is_ascii_alphabetic, is_ascii_digit}
use Rattle.std.proofs.lemmas.Bool.{and_parts, and_from, and_left, false_from_ne_true, or_left, or_right, or_cases, not-true, both_ways, false≢true}
use Rattle.std.proofs.lemmas.Bool.{cases_lt, eqb-true, eqb-false}
use Rattle.std.proofs.lemmas.Bool.Decides.{Decides-eqb}
use Rattle.std.proofs.lemmas.Slice.Eq.{bytes_eq-Decides, starts_is}
use Rattle.dcv_lexer.specs.Lexicon.{Lexicon, texts_of, is_one_of, is_white, is_white_space, is_comment, is_word_byte, is_word, is_number, is_symbol}
use Rattle.dcv_lexer.specs.Lexicon.{is_blank, is_token}
use Rattle.dcv_lexer.specs.Lexicon.{is_piece, begins_as_symbol, is_orderly}
use Rattle.dcv_lexer.specs.Cuts.{Token, IsLongest, BeginsWithNoPiece, EachIsLongest, tokens_from}
use Rattle.dcv_lexer.proofs.FirstBytes.{one_of_passes, each_begins, white_below, letter_above, digit_within, Kind, kind_of, nothing_is_no_piece}
use Rattle.dcv_lexer.proofs.Longest.{symbol_byte_is_no_other}
use Rattle.dcv_observer.specs.Items.{HasItems}
use Rattle.dcv_observer.specs.Pieces.{Piece, Blank, Text, bytes_in, bytes_of, tokens_at, ends_symbol, ends_before, first_byte, IsPieceBefore, IsLaidOut}

module _ (lexicon : Lexicon) (orderly : is_orderly lexicon ≡ true) where
  no_letter : (b : ℕ) → is_ascii_digit b ≡ true → is_ascii_alphabetic b ≡ false
  no_letter b digit = false_from_ne_true (is_ascii_alphabetic b) (λ letter. omega (arith, letter_above b letter, digit_within b digit))

  all_front : (p : ℕ → Bool) (front rest : List ℕ) → list_all p (front ++ rest) ≡ true → list_all p front ≡ true
  all_front p [] rest h = refl
  all_front p (b ∷ front) rest h =
      let parts = and_parts (p b) (list_all p (front ++ rest)) h in
      and_from (p b) (list_all p front) parts.0 (all_front p front rest parts.1)

  -- what a longer piece would have after this one
  all_behind : (p : ℕ → Bool) (front : List ℕ) (c : ℕ) (more : List ℕ) → list_all p (front ++ c ∷ more) ≡ true → p c ≡ true
  all_behind p [] c more h = (and_parts (p c) (list_all p more) h).0
  all_behind p (b ∷ front) c more h = all_behind p front c more (and_parts (p b) (list_all p (front ++ c ∷ more)) h).1

  longer_symbol : (entries : List (List ℕ × ℕ)) (bytes : List ℕ) (c : ℕ) (more : List ℕ) → ends_symbol entries bytes c ≡ true
      → is_one_of (map (λ entry. entry.0) entries) (bytes ++ c ∷ more) ≡ true → ⊥
  longer_symbol [] bytes c more ends one = false≢true one
  longer_symbol (entry ∷ entries) bytes c more ends one =
      let parts = and_parts (not (starts_with nat_eq entry.0 (bytes ++ c ∷ []))) (ends_symbol entries bytes c) ends in
      elim (or_cases (bytes_eq (bytes ++ c ∷ more) entry.0) (is_one_of (map (λ entry. entry.0) entries) (bytes ++ c ∷ more)) one) [
        | inl same ↦
            let is : bytes ++ c ∷ more ≡ entry.0 = (bytes_eq-Decides (bytes ++ c ∷ more) entry.0).0 same in
            let whole : entry.0 ≡ (bytes ++ c ∷ []) ++ more = sym is ∙ sym (append_assoc bytes (c ∷ []) more) in
            both_ways (starts_with nat_eq entry.0 (bytes ++ c ∷ [])) (not-true _ parts.0)
            ((starts_is Decides-eqb entry.0 (bytes ++ c ∷ []) (starts_with nat_eq entry.0 (bytes ++ c ∷ [])) refl).1 more whole)
        | inr later ↦ longer_symbol entries bytes c more parts.1 later
      ]

  -- a token is no blank, and begins with no `/`
  pub record IsDark (b : ℕ) (bytes : List ℕ) : Type 0 where
    pub white : is_white b ≡ false
    pub slash : nat_eq b 47 ≡ false

  is_dark : (b : ℕ) (bytes : List ℕ) → is_token lexicon (b ∷ bytes) ≡ true → IsDark b bytes
  is_dark b bytes is =
      let piece = b ∷ bytes in
      elim (or_cases (is_word piece || is_number piece) (is_symbol lexicon piece) is) [
        | inl run ↦ elim (or_cases (is_word piece) (is_number piece) run) [
          | inl w ↦
              let letter = letter_above b (and_parts (is_ascii_alphabetic b) (list_all is_word_byte bytes) w).0 in
              record {
                white = false_from_ne_true (is_white b) (λ white. omega (arith, letter, white_below b white));
                slash = false_from_ne_true (nat_eq b 47) (λ slash. omega (arith, letter, eqb-true b 47 slash));
              }
          | inr w ↦
              let digit = digit_within b (and_parts (is_ascii_digit b) (list_all is_ascii_digit bytes) w).0 in
              record {
                white = false_from_ne_true (is_white b) (λ white. omega (arith, digit, white_below b white));
                slash = false_from_ne_true (nat_eq b 47) (λ slash. omega (arith, digit, eqb-true b 47 slash));
              }
        ]
        | inr w ↦
            let free = symbol_byte_is_no_other b (one_of_passes (texts_of lexicon.symbols) begins_as_symbol piece (each_begins lexicon orderly) w) in
            record { white = free.0; slash = free.1 }
      ]

  token_is_no_slash : (b : ℕ) (bytes : List ℕ) → is_token lexicon (b ∷ bytes) ≡ true → b ≡ 47 → ⊥
  token_is_no_slash b bytes is slash = eqb-false b 47 (is_dark b bytes is).slash slash

  -- whether a token that is no word ends before a byte
  abbrev ends_no_word : ℕ → List ℕ → ℕ → Bool
  ends_no_word b bytes c = cond (is_number (b ∷ bytes)) (not (is_ascii_digit c)) (ends_symbol lexicon.symbols (b ∷ bytes) c)

  -- a token that ends before a byte is no beginning of a longer piece
  no_longer : (bytes : List ℕ) (c : ℕ) (more : List ℕ) → is_token lexicon bytes ≡ true → ends_before lexicon bytes c ≡ true
      → is_piece lexicon (bytes ++ c ∷ more) ≡ true → ⊥
  no_longer [] c more is ends longer = nothing_is_no_piece lexicon (or_right (is_blank lexicon []) (is_token lexicon []) is)
  no_longer (b ∷ bytes) c more is ends longer = by_kind (kind_of lexicon orderly b (bytes ++ c ∷ more) longer)
    where
      by_kind : Kind lexicon b (bytes ++ c ∷ more) → ⊥
      by_kind (Kind.white w nil) = absurd (omega (arith, ap length nil ∙ refl, length-append bytes (c ∷ more)))
      by_kind (Kind.comment w slash on) = absurd (token_is_no_slash b bytes is slash)
      by_kind (Kind.word w letter) =
          let word_bytes : list_all is_word_byte (bytes ++ c ∷ more) ≡ true = (and_parts (is_ascii_alphabetic b) _ w).1 in
          let word : is_word (b ∷ bytes) ≡ true = and_from (is_ascii_alphabetic b) (list_all is_word_byte bytes) letter (all_front is_word_byte bytes (c ∷ more) word_bytes) in
          let stop : not (is_word_byte c) ≡ true = subst (λ t. cond t (not (is_word_byte c)) (ends_no_word b bytes c) ≡ true) word ends in
          both_ways (is_word_byte c) (not-true _ stop) (all_behind is_word_byte bytes c more word_bytes)
      by_kind (Kind.number w digit) =
          let no_word : is_word (b ∷ bytes) ≡ false = and_left (is_ascii_alphabetic b) (list_all is_word_byte bytes) (no_letter b digit) in
          let digits : list_all is_ascii_digit (bytes ++ c ∷ more) ≡ true = (and_parts (is_ascii_digit b) _ w).1 in
          let number : is_number (b ∷ bytes) ≡ true = and_from (is_ascii_digit b) (list_all is_ascii_digit bytes) digit (all_front is_ascii_digit bytes (c ∷ more) digits) in
          let rest : ends_no_word b bytes c ≡ true =
          subst (λ t. cond t (not (is_word_byte c)) (ends_no_word b bytes c) ≡ true) no_word ends in
          let stop : not (is_ascii_digit c) ≡ true = subst (λ t. cond t (not (is_ascii_digit c)) (ends_symbol lexicon.symbols (b ∷ bytes) c) ≡ true) number rest in
          both_ways (is_ascii_digit c) (not-true _ stop) (all_behind is_ascii_digit bytes c more digits)
      by_kind (Kind.symbol w free) =
          let others = symbol_byte_is_no_other b free in
          let no_word : is_word (b ∷ bytes) ≡ false = and_left (is_ascii_alphabetic b) (list_all is_word_byte bytes) others.2 in
          let no_number : is_number (b ∷ bytes) ≡ false = and_left (is_ascii_digit b) (list_all is_ascii_digit bytes) others.3 in
          let rest : ends_no_word b bytes c ≡ true =
          subst (λ t. cond t (not (is_word_byte c)) (ends_no_word b bytes c) ≡ true) no_word ends in
          let stop : ends_symbol lexicon.symbols (b ∷ bytes) c ≡ true = subst (λ t. cond t (not (is_ascii_digit c)) (ends_symbol lexicon.symbols (b ∷ bytes) c) ≡ true) no_number rest in
          longer_symbol lexicon.symbols (b ∷ bytes) c more stop w

  -- ---- the longest piece

  -- what is longer than a front of one list goes on with what is after it
  goes_on : (front behind other rest : List ℕ) → front ++ behind ≡ other ++ rest → length front < length other
      → (c : ℕ) × (more : List ℕ) × (other ≡ front ++ c ∷ more) × (behind ≡ c ∷ (more ++ rest))
  goes_on [] behind [] rest same longer = absurd (omega arith)
  goes_on [] behind (c ∷ more) rest same longer = (c, more, refl, same)
  goes_on (b ∷ front) behind [] rest same longer = absurd (omega arith)
  goes_on (b ∷ front) behind (d ∷ other) rest same longer =
      let head : b ≡ d = cc in
      let tail : front ++ behind ≡ other ++ rest = cc in
      let later = goes_on front behind other rest tail (omega arith) in
      (later.0, later.1, (λ i. sym head i ∷ later.2 i), later.3)

  longest_if : (bytes behind : List ℕ) → is_piece lexicon bytes ≡ true
      → ((c : ℕ) (more rest : List ℕ) → behind ≡ c ∷ rest → is_piece lexicon (bytes ++ c ∷ more) ≡ true → ⊥)
      → IsLongest lexicon bytes (bytes ++ behind)
  longest_if bytes behind is ends =
      record {
        piece = is;
        begins = (behind, refl);
        longest = λ other other_is begins.
            elim (cases_lt (length bytes) (length other)) [
              | inl longer ↦
                  let on = goes_on bytes behind other begins.0 begins.1 longer in
                  absurd (ends on.0 on.1 (on.1 ++ begins.0) on.3 (ap (is_piece lexicon) (sym on.2) ∙ other_is))
              | inr within ↦ omega (arith, within)
            ];
      }

  no_longer_blank : (b c : ℕ) (more : List ℕ) → is_white b ≡ true → is_piece lexicon (b ∷ c ∷ more) ≡ true → ⊥
  no_longer_blank b c more blank longer = by_kind (kind_of lexicon orderly b (c ∷ more) longer)
    where
      by_kind : Kind lexicon b (c ∷ more) → ⊥
      by_kind (Kind.white w nil) = absurd (omega (arith, ap length nil))
      by_kind (Kind.comment w slash on) = absurd (omega (arith, white_below b blank, slash))
      by_kind (Kind.word w letter) = absurd (omega (arith, white_below b blank, letter_above b letter))
      by_kind (Kind.number w digit) = absurd (omega (arith, white_below b blank, digit_within b digit))
      by_kind (Kind.symbol w free) = both_ways (is_white b) (symbol_byte_is_no_other b free).0 blank

  -- the first byte of some pieces, where there are such
  begin_with : (pieces : List Piece) (next c : ℕ) (rest : List ℕ) → IsLaidOut lexicon pieces next → concat (map bytes_in pieces) ++ [] ≡ c ∷ rest
      → first_byte pieces next ≡ c
  begin_with [] next c rest h same = absurd (omega (arith, ap length same))
  begin_with (Blank b ∷ pieces) next c rest h same = cc
  begin_with (Text [] ∷ pieces) next c rest h same = absurd (nothing_is_no_piece lexicon (or_right (is_blank lexicon []) (is_token lexicon []) h.0.0))
  begin_with (Text (b ∷ bytes) ∷ pieces) next c rest h same = cc

  pub each_is_longest : (pieces : List Piece) (next : ℕ) → IsLaidOut lexicon pieces next → EachIsLongest lexicon (map bytes_in pieces) []
  each_is_longest [] next h = tt
  each_is_longest (Blank b ∷ pieces) next h = (
    longest_if (b ∷ []) (concat (map bytes_in pieces) ++ []) (or_left (is_blank lexicon (b ∷ [])) (is_token lexicon (b ∷ [])) (or_left (is_white b) _ h.0)) (λ c more rest same longer. no_longer_blank b c more h.0 longer),
    each_is_longest pieces next h.1,
  )
  each_is_longest (Text bytes ∷ pieces) next h = (
    longest_if bytes (concat (map bytes_in pieces) ++ []) (or_right (is_blank lexicon bytes) (is_token lexicon bytes) h.0.0) (λ c more rest same longer.
        no_longer bytes c more h.0.0 (subst (λ b. ends_before lexicon bytes b ≡ true) (begin_with pieces next c rest h.1 same) h.0.1) longer),
    each_is_longest pieces next h.1,
  )

  -- ---- tokens

  white_first : (b : ℕ) (bytes : List ℕ) → is_white_space (b ∷ bytes) ≡ true → is_white b ≡ true
  white_first b [] is = is
  white_first b (c ∷ bytes) is = absurd (false≢true is)

  comment_first : (b : ℕ) (bytes : List ℕ) → is_comment (b ∷ bytes) ≡ true → nat_eq b 47 ≡ true
  comment_first b [] is = absurd (false≢true is)
  comment_first b (c ∷ bytes) is = (and_parts (nat_eq b 47) (nat_eq c 47) (and_parts (nat_eq b 47 && nat_eq c 47) _ is).0).0

  token_is_no_blank : (bytes : List ℕ) → is_token lexicon bytes ≡ true → is_blank lexicon bytes ≡ false
  token_is_no_blank [] is = absurd (nothing_is_no_piece lexicon (or_right (is_blank lexicon []) (is_token lexicon []) is))
  token_is_no_blank (b ∷ bytes) is =
      let piece = b ∷ bytes in
      let dark = is_dark b bytes is in
      false_from_ne_true (is_blank lexicon piece) (λ blank. elim (or_cases (is_white_space piece) (lexicon.comments && is_comment piece) blank) [
        | inl w ↦ both_ways (is_white b) dark.white (white_first b bytes w)
        | inr w ↦ both_ways (nat_eq b 47) dark.slash (comment_first b bytes (and_parts lexicon.comments (is_comment piece) w).1)
      ])

  -- the tokens of a piece at an offset, and of later ones
  abbrev with_piece : ℕ → List ℕ → List Token → Bool → List Token
  with_piece start piece later blank = cond blank later (record { bytes = piece; start = start } ∷ later)

  pub tokens_are : (pieces : List Piece) (start next : ℕ) → IsLaidOut lexicon pieces next
      → tokens_from lexicon start (map bytes_in pieces) ≡ tokens_at start pieces
  tokens_are [] start next h = refl
  tokens_are (Blank b ∷ pieces) start next h =
      ap (with_piece start (b ∷ []) (tokens_from lexicon (start + 1) (map bytes_in pieces))) (or_left (is_white b) _ h.0)
      ∙ tokens_are pieces (start + 1) next h.1
  tokens_are (Text bytes ∷ pieces) start next h =
      ap (with_piece start bytes (tokens_from lexicon (start + length bytes) (map bytes_in pieces))) (token_is_no_blank bytes h.0.0)
      ∙ ap (λ tokens. record { bytes = bytes; start = start } ∷ tokens) (tokens_are pieces (start + length bytes) next h.1)

  nothing_begins_nothing : BeginsWithNoPiece lexicon []
  nothing_begins_nothing [] is begins = nothing_is_no_piece lexicon is
  nothing_begins_nothing (b ∷ bytes) is begins = absurd (omega (arith, ap length begins.1))

  -- a text that is laid out has the tokens that are laid out
  pub laid_out : (pieces : List Piece) (next : ℕ) → IsLaidOut lexicon pieces next → HasItems lexicon (bytes_of pieces) (tokens_at 0 pieces)
  laid_out pieces next h =
      record {
        pieces = map bytes_in pieces;
        rest = [];
        cut = record { whole = sym (append-nil (concat (map bytes_in pieces))); longest = each_is_longest pieces next h; stuck = nothing_begins_nothing };
        among = sym (append-nil (tokens_from lexicon 0 (map bytes_in pieces)) ∙ tokens_are pieces 0 next h);
      }

  -- ---- putting pieces together

  first_of_append : (xs ys : List Piece) (next : ℕ) → first_byte (xs ++ ys) next ≡ first_byte xs (first_byte ys next)
  first_of_append [] ys next = refl
  first_of_append (Blank b ∷ xs) ys next = refl
  first_of_append (Text [] ∷ xs) ys next = first_of_append xs ys next
  first_of_append (Text (b ∷ bytes) ∷ xs) ys next = refl

  pub append_laid : (xs ys : List Piece) (next : ℕ) → IsLaidOut lexicon xs (first_byte ys next) → IsLaidOut lexicon ys next → IsLaidOut lexicon (xs ++ ys) next
  append_laid [] ys next h k = k
  append_laid (x ∷ xs) ys next h k =
      (subst (IsPieceBefore lexicon x) (sym (first_of_append xs ys next)) h.0, append_laid xs ys next h.1 k)
