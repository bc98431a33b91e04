-- The parameters of a unit are judged in turn.
use Rattle.std.proofs.Common.{◌≡◌, ℕ, suc, ◌+◌, ◌<◌, ◌≤◌, Bool, true, false, not, ◌&&◌, ◌||◌, nat_le, List, [], ◌∷◌, ◌++◌, length, take, drop, get_or, Option, None, Some, refl, sym, ap, ◌∙◌, arith}
use Rattle.std.specs.Prelude.{bytes_eq}
use Rattle.std.specs.Borrow.{Bor}
use Rattle.std.proofs.lemmas.List.{map_more, drop_all}
use Rattle.std.proofs.Math.Seq.{drop-cons}
use Rattle.dcv_tokens.specs.Tokens.{is_name}
use Rattle.dcv_tokens.specs.Limits.{longest_word}
use Rattle.dcv_observer.specs.Naming.{is_among}
use Rattle.dcv_observer.specs.Subsets.{first_broken}
use Rattle.dcv_c_tables.specs.Observer.{parameter_name}
use Rattle.dcv_tables_read.specs.Reading.{is_named, keeps_parameters, parameter_words}
use Rattle.dcv_tables_read.specs.Judged.{texts_of, parameters_of, parameters_size}
use Rattle.dcv_tables_read.proofs.NumberLemmas.{kept_first, broken_first}

abbrev pub Name : Type 0
Name = Bor (List ℕ)

-- a parameter is among others as its name is among theirs
among_same : (names : List Name) (name : List ℕ) → is_among (texts_of names) name ≡ is_among (parameters_of names) (parameter_name name)
among_same [] name = refl
among_same (other ∷ names) name = ap (λ among. bytes_eq name other.now || among) (among_same names name)

pub judged_same : (names : List Name) (name : List ℕ) → ((is_name name && nat_le (length name) longest_word) && not (is_among (texts_of names) name))
    ≡ (is_named (parameter_name name) && not (is_among (parameters_of names) (parameter_name name)))
judged_same names name = ap (λ among. (is_name name && nat_le (length name) longest_word) && not among) (among_same names name)

module _ (names : List Name) (first : ℕ) where
  abbrev broken : ℕ → List (List ℕ) → List (List ℕ) → Option ℕ
  broken at earlier rest = first_broken (parameter_words at rest) (keeps_parameters earlier rest)

  -- the names that are left decide
  pub record IsLeft (place at : ℕ) : Type 0 where
    pub same : broken first [] (parameters_of names) ≡ broken at (parameters_of (take place names)) (parameters_of (drop place names))
    pub counted : first + parameters_size (parameters_of names) ≡ at + parameters_size (parameters_of (drop place names))

  pub at_start : IsLeft 0 first
  at_start = record { same = refl; counted = refl }

  module _ (place at : ℕ) (nothing : Name) (below : place < length names) (left : IsLeft place at) where
    abbrev name : Name
    name = get_or names place nothing

    abbrev rest : List (List ℕ)
    rest = parameters_of (drop (suc place) names)

    rest_is : parameters_of (drop place names) ≡ parameter_name name.now ∷ rest
    rest_is = ap parameters_of (drop-cons names place nothing below)

    pub room : at + (8 + length name.now) ≤ first + parameters_size (parameters_of names)
    room = omega (arith, left.counted, ap parameters_size rest_is)

    -- whether it keeps the rules
    abbrev keeps : Bool
    keeps = is_named (parameter_name name.now) && not (is_among (parameters_of (take place names)) (parameter_name name.now))

    pub one_more : (next : ℕ) → keeps ≡ true → next ≡ at + (8 + length name.now) → IsLeft (place + 1) next
    one_more next kept counted =
        let further : suc place ≡ place + 1 = omega arith in
        let there : at + 4 + length (parameter_name name.now) + 2 ≡ next = omega (arith, counted) in
        let earlier : parameters_of (take place names) ++ parameter_name name.now ∷ [] ≡ parameters_of (take (place + 1) names) =
        sym (map_more (λ (one : Name). parameter_name one.now) names place nothing below) in
        record {
          same =
              left.same ∙ ap (broken at (parameters_of (take place names))) rest_is
              ∙ kept_first (record { bytes = parameter_name name.now; start = at + 4 }) keeps (parameter_words (at + 4 + length (parameter_name name.now) + 2) rest)
              (keeps_parameters (parameters_of (take place names) ++ parameter_name name.now ∷ []) rest) kept
              ∙ (λ i. broken (there i) (earlier i) (parameters_of (drop (further i) names)));
          counted = omega (arith, left.counted, ap parameters_size rest_is, counted, ap (λ n. parameters_size (parameters_of (drop n names))) further);
        }

    pub stops_here : keeps ≡ false → broken first [] (parameters_of names) ≡ Some (at + 4)
    stops_here fails =
        left.same ∙ ap (broken at (parameters_of (take place names))) rest_is
        ∙ broken_first (record { bytes = parameter_name name.now; start = at + 4 }) keeps (parameter_words (at + 4 + length (parameter_name name.now) + 2) rest)
        (keeps_parameters (parameters_of (take place names) ++ parameter_name name.now ∷ []) rest) fails

  pub all_kept : (place at : ℕ) → length names ≤ place → IsLeft place at → broken first [] (parameters_of names) ≡ None
  all_kept place at all left = left.same ∙ ap (λ rest. broken at (parameters_of (take place names)) (parameters_of rest)) (drop_all place names all)
