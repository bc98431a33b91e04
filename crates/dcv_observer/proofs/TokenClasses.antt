-- What the tokens of a class are.
--     Sorted lexicon bytes class      by whether the token is a word or a number
use Rattle.std.proofs.Common.{◌≡◌, ℕ, Bool, true, false, not, ◌||◌, cond, nat_le, List, [], ◌∷◌, length, Some, refl, subst}
use Rattle.std.specs.Prelude.{bytes_eq, unwrap_or}
use Rattle.std.specs.List.{list_all}
use Rattle.std.proofs.lemmas.Bool.{and_parts, and_from}
use Rattle.dcv_lexer.specs.Lexicon.{Lexicon, is_word, is_number, has_leading_zero, class_in, word_class, symbol_class}
use Rattle.dcv_lexer.specs.Decimal.{value_of}
use Rattle.dcv_observer.specs.Classes.{longest_word, largest_number, is_short_word, is_small_number, class_of}

-- the class of a text in a table, or another, passes a test that all of them pass
pub class_passes : (p : ℕ → Bool) (entries : List (List ℕ × ℕ)) (bytes : List ℕ) (other : ℕ) → list_all (λ entry. p entry.1) entries ≡ true → p other ≡ true
    → p (unwrap_or (class_in entries bytes) other) ≡ true
class_passes p [] bytes other all last = last
class_passes p (entry ∷ entries) bytes other all last =
    let parts = and_parts (p entry.1) (list_all (λ entry. p entry.1) entries) all in
    by (bytes_eq bytes entry.0) parts.0 (class_passes p entries bytes other parts.1 last)
  where
    by : (here : Bool) → p entry.1 ≡ true → p (unwrap_or (class_in entries bytes) other) ≡ true
        → p (unwrap_or (cond here (Some entry.1) (class_in entries bytes)) other) ≡ true
    by true first later = first
    by false first later = later

pub other_class : (p : ℕ → Bool) (found class : ℕ) → p found ≡ true → found ≡ class → p class ≡ true
other_class p found class passes is = subst (λ (k : ℕ). p k ≡ true) is passes

pub data Sorted (lexicon : Lexicon) (bytes : List ℕ) (class : ℕ) : Type 0 where
  AWord : is_short_word bytes ≡ true → word_class lexicon bytes ≡ class → Sorted lexicon bytes class
  ANumber : is_small_number bytes ≡ true → lexicon.number ≡ class → Sorted lexicon bytes class
  ASymbol : symbol_class lexicon bytes ≡ class → Sorted lexicon bytes class
  NoToken : lexicon.unknown ≡ class → Sorted lexicon bytes class

pub sorted : (lexicon : Lexicon) (bytes : List ℕ) (class : ℕ) → class_of lexicon bytes ≡ class → Sorted lexicon bytes class
sorted lexicon bytes class is =
    by (is_word bytes) (is_number bytes) (nat_le (length bytes) longest_word) (nat_le (value_of bytes) largest_number)
    (lexicon.leading_zeros || not (has_leading_zero bytes)) refl refl refl refl is
  where
    by : (word digits short small allowed : Bool) → is_word bytes ≡ word → is_number bytes ≡ digits → nat_le (length bytes) longest_word ≡ short
        → nat_le (value_of bytes) largest_number ≡ small
        → cond (cond word short (cond digits small true)) (cond word (word_class lexicon bytes) (cond digits (cond allowed lexicon.number lexicon.unknown) (symbol_class lexicon bytes))) lexicon.unknown ≡ class
        → Sorted lexicon bytes class
    by true digits true small allowed w d s v is = AWord (and_from (is_word bytes) _ w s) is
    by true digits false small allowed w d s v is = NoToken is
    by false true short true true w d s v is = ANumber (and_from (is_number bytes) _ d v) is
    by false true short true false w d s v is = NoToken is
    by false true short false allowed w d s v is = NoToken is
    by false false short small allowed w d s v is = ASymbol is
