-- What the tokens of a class are.
use Rattle.std.proofs.Common.{◌≡◌, ℕ, Bool, true, false, not, cond, ◌&&◌, ◌||◌, nat_eq, nat_le, List, [], ◌∷◌, Some, codes, refl, sym, subst, ◌∙◌, ◌≤◌, arith, eq-eqb}
use Rattle.std.specs.Prelude.{bytes_eq, unwrap_or}
use Rattle.std.specs.List.{list_all}
use Rattle.std.proofs.lemmas.Bool.{and_parts, and_from, or_left, or_right, both_ways, false≢true}
use Rattle.std.proofs.lemmas.Bool.Decides.{nat_tests}
use Rattle.std.proofs.lemmas.Slice.Eq.{bytes_eq-Decides}
use Rattle.dcv_lexer.specs.Lexicon.{is_number, class_in, word_class, symbol_class}
use Rattle.dcv_lexer.specs.Decimal.{value_of}
use Rattle.dcv_lexer.specs.Cuts.{Token}
use Rattle.dcv_observer.specs.Classes.{name as plain_name, number, unknown, largest_number, is_short_word, is_small_number, class_of}
use Rattle.dcv_observer.proofs.TokenClasses.{class_passes, other_class, Sorted, AWord, ANumber, ASymbol, NoToken, sorted}
use Rattle.dcv_lustre.specs.Classes.{lexicon, word_ok, word_true, word_false, reserved_words}
use Rattle.dcv_lustre.specs.Tree.{Truth, Number, Constant, Named}
use Rattle.dcv_lustre.specs.Placed.{is_true_word, value_at}
use Rattle.dcv_lustre.specs.Form.{IsName, IsValue, IsItem}
use Rattle.dcv_lustre.specs.Words.{IsNameWord, IsItemWord, IsLiteralWord}
use Rattle.dcv_lustre.proofs.Derived.{name_is_no_constant}

-- ---- classes in a table

-- of a class that one text alone has, it is the text
text_of_class : (class : ℕ) (text : List ℕ) (entries : List (List ℕ × ℕ)) (bytes : List ℕ) (other : ℕ)
    → list_all (λ entry. not (nat_eq entry.1 class) || bytes_eq entry.0 text) entries ≡ true → nat_eq other class ≡ false
    → nat_eq (unwrap_or (class_in entries bytes) other) class ≡ true → bytes ≡ text
text_of_class class text [] bytes other all none is = absurd (both_ways (nat_eq other class) none is)
text_of_class class text (entry ∷ entries) bytes other all none is =
    let parts = and_parts (not (nat_eq entry.1 class) || bytes_eq entry.0 text) (list_all (λ entry. not (nat_eq entry.1 class) || bytes_eq entry.0 text) entries) all in
    by (bytes_eq bytes entry.0) refl parts.0 is (text_of_class class text entries bytes other parts.1 none)
  where
    this_text : (b : Bool) → (not b || bytes_eq entry.0 text) ≡ true → b ≡ true → bytes_eq entry.0 text ≡ true
    this_text true h is = h
    this_text false h is = absurd (false≢true is)

    by : (here : Bool) → bytes_eq bytes entry.0 ≡ here → (not (nat_eq entry.1 class) || bytes_eq entry.0 text) ≡ true
        → nat_eq (unwrap_or (cond here (Some entry.1) (class_in entries bytes)) other) class ≡ true
        → (nat_eq (unwrap_or (class_in entries bytes) other) class ≡ true → bytes ≡ text) → bytes ≡ text
    by true same first is later =
        (bytes_eq-Decides bytes entry.0).0 same ∙ (bytes_eq-Decides entry.0 text).0 (this_text (nat_eq entry.1 class) first is)
    by false same first is later = later is

-- ---- the class of a token

module _ (bytes : List ℕ) where
  no_symbol : (class : ℕ) → (nat_le 2 class && nat_le class 8) ≡ false → symbol_class lexicon bytes ≡ class → ⊥
  unfolding lexicon
  no_symbol class outside is =
      both_ways (nat_le 2 class && nat_le class 8) outside
      (other_class (λ (k : ℕ). nat_le 2 k && nat_le k 8) (symbol_class lexicon bytes) class (class_passes (λ (k : ℕ). nat_le 2 k && nat_le k 8) lexicon.symbols bytes lexicon.unknown refl refl) is)

  short_word_of : (class : ℕ) → (nat_le 2 class && nat_le class 8) ≡ false → nat_eq class number ≡ false → nat_eq class unknown ≡ false → class_of lexicon bytes ≡ class
      → (is_short_word bytes ≡ true) × (word_class lexicon bytes ≡ class)
  unfolding lexicon
  short_word_of class outside no_number known is = by (sorted lexicon bytes class is)
    where
      by : Sorted lexicon bytes class → (is_short_word bytes ≡ true) × (word_class lexicon bytes ≡ class)
      by (AWord short same) = (short, same)
      by (ANumber small same) = absurd (both_ways (nat_eq class number) no_number (subst (λ (k : ℕ). nat_eq k number ≡ true) same refl))
      by (ASymbol same) = absurd (no_symbol class outside same)
      by (NoToken same) = absurd (both_ways (nat_eq class unknown) known (subst (λ (k : ℕ). nat_eq k unknown ≡ true) same refl))

  pub plain_is_name : class_of lexicon bytes ≡ plain_name → IsName bytes
  plain_is_name is =
      let word = short_word_of plain_name refl refl refl is in
      and_from (is_short_word bytes) _ word.0 (or_left _ _ (subst (λ (k : ℕ). nat_eq k plain_name ≡ true) (sym is) refl))

  pub ok_is_name : class_of lexicon bytes ≡ word_ok → IsName bytes
  ok_is_name is =
      let word = short_word_of word_ok refl refl refl is in
      and_from (is_short_word bytes) _ word.0 (or_right (nat_eq (class_of lexicon bytes) plain_name) _ (subst (λ (k : ℕ). nat_eq k word_ok ≡ true) (sym is) refl))

  pub is_number_word : class_of lexicon bytes ≡ number → is_small_number bytes ≡ true
  unfolding lexicon
  is_number_word is = by (sorted lexicon bytes number is)
    where
      by : Sorted lexicon bytes number → is_small_number bytes ≡ true
      by (AWord short same) =
          absurd (false≢true (other_class (λ (k : ℕ). not (nat_eq k 1)) (word_class lexicon bytes) number (class_passes (λ (k : ℕ). not (nat_eq k 1)) lexicon.words bytes lexicon.name refl refl) same))
      by (ANumber small same) = small
      by (ASymbol same) = absurd (no_symbol number refl same)
      by (NoToken same) = absurd (false≢true (subst (λ (k : ℕ). nat_eq k unknown ≡ true) same refl))

  word_is : (class : ℕ) (text : List ℕ) → list_all (λ entry. not (nat_eq entry.1 class) || bytes_eq entry.0 text) ((codes "ok", word_ok) ∷ reserved_words) ≡ true
      → nat_eq plain_name class ≡ false → word_class lexicon bytes ≡ class → bytes ≡ text
  unfolding lexicon
  word_is class text all none is =
      text_of_class class text lexicon.words bytes lexicon.name all none (subst (λ (k : ℕ). nat_eq k class ≡ true) (sym is) (same class))
    where
      same : (n : ℕ) → nat_eq n n ≡ true
      same n = eq-eqb n n refl

  pub is_true_text : class_of lexicon bytes ≡ word_true → bytes ≡ codes "true"
  is_true_text is = word_is word_true (codes "true") refl refl (short_word_of word_true refl refl refl is).1

  pub is_false_text : class_of lexicon bytes ≡ word_false → bytes ≡ codes "false"
  is_false_text is = word_is word_false (codes "false") refl refl (short_word_of word_false refl refl refl is).1

-- ---- words of a text

pub number_literal : (token : Token) → class_of lexicon token.bytes ≡ number → IsLiteralWord token
number_literal token is =
    let parts = and_parts (is_number token.bytes) (nat_le (value_of token.bytes) largest_number) (is_number_word token.bytes is) in
    record {
      constant = or_left (is_number token.bytes || is_true_word token.bytes) _ (or_left (is_number token.bytes) _ parts.0);
      value = subst (λ (digits : Bool). IsValue (cond digits (Number (value_of token.bytes)) (Truth (is_true_word token.bytes)))) (sym parts.0) (at_most (value_of token.bytes) parts.1);
    }
  where
    at_most : (value : ℕ) → nat_le value 32767 ≡ true → value ≤ 32767
    at_most value test = grind (arith, nat_tests)

pub true_literal : (token : Token) → class_of lexicon token.bytes ≡ word_true → IsLiteralWord token
true_literal token is =
    subst (λ (bytes : List ℕ). IsLiteralWord (record { bytes = bytes; start = token.start })) (sym (is_true_text token.bytes is)) (record { constant = refl; value = tt })

pub false_literal : (token : Token) → class_of lexicon token.bytes ≡ word_false → IsLiteralWord token
false_literal token is =
    subst (λ (bytes : List ℕ). IsLiteralWord (record { bytes = bytes; start = token.start })) (sym (is_false_text token.bytes is)) (record { constant = refl; value = tt })

pub literal_item : (token : Token) → IsLiteralWord token → IsItemWord token
literal_item token is = subst (λ (constant : Bool). IsItem (cond constant (Constant (value_at token)) (Named token.bytes))) (sym is.constant) is.value

pub name_item : (token : Token) → IsNameWord token → IsItemWord token
name_item token is = subst (λ (constant : Bool). IsItem (cond constant (Constant (value_at token)) (Named token.bytes))) (sym (name_is_no_constant token.bytes is)) is
