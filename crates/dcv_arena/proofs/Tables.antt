-- Tables: a function's numbers at all the letters of a width, in order.
use Rattle.std.proofs.Common.{◌≡◌, ℕ, zero, suc, Bool, true, false, List, [], ◌∷◌, ◌++◌, length, map, Some, slice_get, refl, sym, ap, ◌∙◌}
use Rattle.std.specs.Option.{option_map}
use Rattle.std.proofs.lemmas.List.{map-append}
use Rattle.std.proofs.lemmas.Simd.{map-map}
use Rattle.std.proofs.lemmas.Option.{slice_get-map, same_Some}
use Rattle.dcv_word.specs.Letter.{bits_of, letters_of_width}
use Rattle.dcv_word.proofs.AllLetters.{letters_of_width-place}
use Rattle.dcv_arena.specs.Arena.{ArenaValue, IsReduced, IsRef, value_of, table_of}
use Rattle.dcv_arena.specs.declared.nodes.Ref.{Ref}
use Rattle.dcv_arena.proofs.Refs.{same_ref}

-- the letters that begin with this value
abbrev pub begin_with : Bool → List Bool → List Bool
begin_with value values = value ∷ values

-- the table of one more slot is that of the letters with false there and that of those with true
pub table-suc : (f : List Bool → ℕ) (width : ℕ) → map f (letters_of_width (suc width))
    ≡ map (λ values. f (false ∷ values)) (letters_of_width width) ++ map (λ values. f (true ∷ values)) (letters_of_width width)
table-suc f width =
    let letters = letters_of_width width in
    map-append f (map (begin_with false) letters) (map (begin_with true) letters)
    ∙ (λ i. map-map f (begin_with false) letters i ++ map-map f (begin_with true) letters i)

-- functions that agree at the letters of a width have one table
pub same_table : (width : ℕ) (f g : List Bool → ℕ) → ((letter : List Bool) → length letter ≡ width → f letter ≡ g letter)
    → map f (letters_of_width width) ≡ map g (letters_of_width width)
same_table zero f g same = λ i. same [] refl i ∷ []
same_table (suc width) f g same =
    let low = same_table width (λ values. f (false ∷ values)) (λ values. g (false ∷ values)) (λ values size. same (false ∷ values) (ap suc size)) in
    let high = same_table width (λ values. f (true ∷ values)) (λ values. g (true ∷ values)) (λ values size. same (true ∷ values) (ap suc size)) in
    table-suc f width ∙ (λ i. low i ++ high i) ∙ sym (table-suc g width)

-- a letter's number stands in the table at the letter's own number
table-at : (f : List Bool → ℕ) (letter : List Bool) → slice_get (map f (letters_of_width (length letter))) (bits_of letter) ≡ Some (f letter)
table-at f letter =
    slice_get-map f (letters_of_width (length letter)) (bits_of letter) ∙ ap (option_map f) (letters_of_width-place letter)

-- and functions with one table agree
pub same_values : (width : ℕ) (f g : List Bool → ℕ) → map f (letters_of_width width) ≡ map g (letters_of_width width)
    → (letter : List Bool) → length letter ≡ width → f letter ≡ g letter
same_values width f g same letter size =
    same_Some (f letter) (g letter)
    (sym (table-at f letter)
    ∙ (λ i. slice_get (map f (letters_of_width (size i))) (bits_of letter))
    ∙ ap (λ table. slice_get table (bits_of letter)) same
    ∙ (λ i. slice_get (map g (letters_of_width (sym size i))) (bits_of letter))
    ∙ table-at g letter)

pub same_ref_by_table : (arena : ArenaValue) (is : IsReduced arena) (first second : Ref) → IsRef arena first → IsRef arena second
    → table_of arena first ≡ table_of arena second → first ≡ second
unfolding table_of
same_ref_by_table arena is first second one one' same =
    same_ref arena is first second one one' (same_values arena.slots (value_of arena first) (value_of arena second) same)

pub table_of-at : (arena : ArenaValue) (ref : Ref) (letter : List Bool) → length letter ≡ arena.slots → slice_get (table_of arena ref) (bits_of letter) ≡ Some (value_of arena ref letter)
unfolding table_of
table_of-at arena ref letter size =
    (λ i. slice_get (map (value_of arena ref) (letters_of_width (sym size i))) (bits_of letter)) ∙ table-at (value_of arena ref) letter
