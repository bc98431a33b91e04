-- What the tokens of a class are.
use Rattle.std.proofs.Common.{◌≡◌, ℕ, Bool, true, false, not, cond, nat_eq, nat_le, List, sym, subst, ◌≤◌, arith, refl}
use Rattle.std.proofs.lemmas.Bool.{and_parts, and_from, both_ways, false≢true}
use Rattle.std.proofs.lemmas.Bool.Decides.{nat_tests}
use Rattle.dcv_lexer.specs.Lexicon.{is_word, is_number, word_class, symbol_class}
use Rattle.dcv_lexer.specs.Decimal.{value_of}
use Rattle.dcv_lexer.specs.Cuts.{Token}
use Rattle.dcv_observer.specs.Classes.{name as plain_name, number, unknown, largest_number, is_short_word, is_small_number, class_of}
use Rattle.dcv_observer.proofs.Words.{word_is_no_number}
use Rattle.dcv_observer.proofs.TokenClasses.{class_passes, other_class, Sorted, AWord, ANumber, ASymbol, NoToken, sorted}
use Rattle.dcv_c.specs.Classes.{lexicon}
use Rattle.dcv_c.specs.Tree.{Constant, Named}
use Rattle.dcv_c.specs.Form.{IsName, IsItem}
use Rattle.dcv_c.specs.Words.{IsNameWord, IsNumberWord, IsItemWord}

module _ (bytes : List ℕ) where
  no_symbol : (class : ℕ) → nat_le 2 class ≡ false → symbol_class lexicon bytes ≡ class → ⊥
  unfolding lexicon
  no_symbol class outside is =
      both_ways (nat_le 2 class) outside (other_class (nat_le 2) (symbol_class lexicon bytes) class (class_passes (nat_le 2) lexicon.symbols bytes lexicon.unknown refl refl) is)

  pub plain_is_name : class_of lexicon bytes ≡ plain_name → IsName bytes
  unfolding lexicon
  plain_is_name is = by (sorted lexicon bytes plain_name is)
    where
      by : Sorted lexicon bytes plain_name → IsName bytes
      by (AWord short same) = and_from (is_short_word bytes) _ short (subst (λ (k : ℕ). nat_eq k plain_name ≡ true) (sym is) refl)
      by (ANumber small same) = absurd (false≢true (subst (λ (k : ℕ). nat_eq k number ≡ true) same refl))
      by (ASymbol same) = absurd (no_symbol plain_name refl same)
      by (NoToken same) = absurd (false≢true (subst (λ (k : ℕ). nat_eq k unknown ≡ true) same refl))

  pub is_number_word : class_of lexicon bytes ≡ number → is_small_number bytes ≡ true
  unfolding lexicon
  is_number_word is = by (sorted lexicon bytes number is)
    where
      by : Sorted lexicon bytes number → is_small_number bytes ≡ true
      by (AWord short same) =
          absurd (false≢true (other_class (λ (k : ℕ). not (nat_eq k 1)) (word_class lexicon bytes) number (class_passes (λ (k : ℕ). not (nat_eq k 1)) lexicon.words bytes lexicon.name refl refl) same))
      by (ANumber small same) = small
      by (ASymbol same) = absurd (no_symbol number refl same)
      by (NoToken same) = absurd (false≢true (subst (λ (k : ℕ). nat_eq k unknown ≡ true) same refl))

-- ---- items

pub number_item : (token : Token) → IsNumberWord token → IsItemWord token
number_item token is =
    let parts = and_parts (is_number token.bytes) (nat_le (value_of token.bytes) largest_number) is in
    subst (λ (digits : Bool). IsItem (cond digits (Constant (value_of token.bytes)) (Named token.bytes))) (sym parts.0) (at_most (value_of token.bytes) parts.1)
  where
    at_most : (value : ℕ) → nat_le value 32767 ≡ true → value ≤ 32767
    at_most value test = grind (arith, nat_tests)

pub name_item : (token : Token) → IsNameWord token → IsItemWord token
name_item token is =
    let word = (and_parts (is_word token.bytes) _ (and_parts (is_short_word token.bytes) _ is).0).0 in
    subst (λ (digits : Bool). IsItem (cond digits (Constant (value_of token.bytes)) (Named token.bytes))) (sym (word_is_no_number token.bytes word)) is
