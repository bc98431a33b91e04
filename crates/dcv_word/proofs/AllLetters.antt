-- The list of a width's letters.
use Rattle.std.proofs.Common.{◌≡◌, ℕ, zero, suc, ◌+◌, ◌-◌, ◌^◌, ◌<◌, ◌≤◌, Bool, true, false, List, [], ◌∷◌, ◌++◌, length, map, Option, Some, None, slice_get, get_or, ◌⊎◌, inl, inr, refl, sym, ap, ◌∙◌, arith}
use Rattle.std.specs.List.{AllPairs, range_with_len}
use Rattle.std.specs.Option.{option_map}
use Rattle.std.specs.Ordering.{nat_cmp}
use Rattle.std.specs.declared.cmp.Ordering.TheVariants.{Less}
use Rattle.std.proofs.lemmas.Bool.{cases_lt}
use Rattle.std.proofs.lemmas.List.{length-append, length-map, same_lists}
use Rattle.std.proofs.lemmas.List.FromFn.{length-map-range_with_len, get_or-map-range_with_len}
use Rattle.std.proofs.lemmas.Option.{slice_get-map, slice_get-get_or, get_or_from_slice_get}
use Rattle.dcv_word.specs.Letter.{letter_of, bits_of, letters_of_width, letter_order}
use Rattle.dcv_word.specs.LetterFacts.{length-letter_of, bits_of-letter_of}
use Rattle.dcv_word.proofs.Bits.{bits_of-lt, double}
use Rattle.dcv_word.proofs.Orders.{letter_order-numbers, less}

slice_get-append_left : {X : Type 0} (xs ys : List X) (i : ℕ) → i < length xs → slice_get (xs ++ ys) i ≡ slice_get xs i
slice_get-append_left [] ys i h = absurd (omega arith)
slice_get-append_left (x ∷ xs) ys zero h = refl
slice_get-append_left (x ∷ xs) ys (suc i) h = slice_get-append_left xs ys i (omega arith)

slice_get-append_right : {X : Type 0} (xs ys : List X) (i j : ℕ) → i ≡ length xs + j → slice_get (xs ++ ys) i ≡ slice_get ys j
slice_get-append_right [] ys i j h = ap (slice_get ys) (omega arith)
slice_get-append_right (x ∷ xs) ys zero j h = absurd (omega arith)
slice_get-append_right (x ∷ xs) ys (suc i) j h = slice_get-append_right xs ys i j (omega arith)

-- the letters that begin with this value
abbrev beginning : Bool → ℕ → List (List Bool)
beginning value width = map (λ values. value ∷ values) (letters_of_width width)

pub length-letters_of_width : (width : ℕ) → length (letters_of_width width) ≡ 2 ^ width
length-letters_of_width zero = refl
length-letters_of_width (suc width) =
    omega (arith, double width, length-letters_of_width width, length-append (beginning false width) (beginning true width), length-map (letters_of_width width) (λ values. false ∷ values), length-map (letters_of_width width) (λ values. true ∷ values))

length-beginning : (value : Bool) (width : ℕ) → length (beginning value width) ≡ 2 ^ width
length-beginning value width = length-map (letters_of_width width) (λ values. value ∷ values) ∙ length-letters_of_width width

pub letters_of_width-place : (letter : List Bool) → slice_get (letters_of_width (length letter)) (bits_of letter) ≡ Some letter
letters_of_width-place [] = refl
letters_of_width-place (false ∷ values) =
    let n = length values in
    slice_get-append_left (beginning false n) (beginning true n) (0 + bits_of values) (omega (arith, length-beginning false n, bits_of-lt values))
    ∙ ap (slice_get (beginning false n)) (omega arith)
    ∙ slice_get-map (λ values. false ∷ values) (letters_of_width n) (bits_of values)
    ∙ ap (option_map (λ values. false ∷ values)) (letters_of_width-place values)
letters_of_width-place (true ∷ values) =
    let n = length values in
    slice_get-append_right (beginning false n) (beginning true n) (2 ^ n + bits_of values) (bits_of values) (omega (arith, length-beginning false n))
    ∙ slice_get-map (λ values. true ∷ values) (letters_of_width n) (bits_of values)
    ∙ ap (option_map (λ values. true ∷ values)) (letters_of_width-place values)

mapped : (value : Bool) (found : Option (List Bool)) (letter : List Bool) → option_map (λ values. value ∷ values) found ≡ Some letter → (values : List Bool) × (found ≡ Some values) × (letter ≡ value ∷ values)
mapped value None letter e = cc
mapped value (Some values) letter e = (values, refl, cc)

-- what stands at a place is the letter of that number
abbrev StandsOnce : ℕ → ℕ → List Bool → Type 0
StandsOnce width place letter = slice_get (letters_of_width width) place ≡ Some letter → (length letter ≡ width) × (bits_of letter ≡ place)

once_in : (width : ℕ) → ((place : ℕ) (letter : List Bool) → StandsOnce width place letter) → (place : ℕ) (letter : List Bool) → (place < 2 ^ width) ⊎ (2 ^ width ≤ place) → StandsOnce (suc width) place letter
once_in width below place letter (inl h) e =
    let at : slice_get (beginning false width) place ≡ Some letter = sym (slice_get-append_left (beginning false width) (beginning true width) place (omega (arith, length-beginning false width))) ∙ e in
    let found = mapped false (slice_get (letters_of_width width) place) letter (sym (slice_get-map (λ values. false ∷ values) (letters_of_width width) place) ∙ at) in
    let rest = below place found.0 found.1 in
    rw found.2 (ap suc rest.0, omega (arith, rest.1))
once_in width below place letter (inr h) e =
    let back = place - 2 ^ width in
    let at : slice_get (beginning true width) back ≡ Some letter = sym (slice_get-append_right (beginning false width) (beginning true width) place back (omega (arith, length-beginning false width))) ∙ e in
    let found = mapped true (slice_get (letters_of_width width) back) letter (sym (slice_get-map (λ values. true ∷ values) (letters_of_width width) back) ∙ at) in
    let rest = below back found.0 found.1 in
    rw found.2 (ap suc rest.0, omega (arith, rest.1, ap (λ n. 2 ^ n) rest.0))

pub letters_of_width-once : (width place : ℕ) (letter : List Bool) → StandsOnce width place letter
letters_of_width-once zero zero letter e =
    let same : letter ≡ [] = cc in
    rw same (refl, refl)
letters_of_width-once zero (suc place) letter e = cc
letters_of_width-once (suc width) place letter e =
    once_in width (letters_of_width-once width) place letter (cases_lt place (2 ^ width)) e

pub letters_of_width-order : (width : ℕ) → AllPairs (λ a b. letter_order a b ≡ Less) (letters_of_width width)
letters_of_width-order width i j d below within =
    let letters = letters_of_width width in
    let first = letters_of_width-once width i (get_or letters i d) (slice_get-get_or letters i d (omega arith)) in
    let second = letters_of_width-once width j (get_or letters j d) (slice_get-get_or letters j d within) in
    letter_order-numbers (get_or letters i d) (get_or letters j d) (omega arith)
    ∙ (λ k. nat_cmp (first.1 k) (second.1 k))
    ∙ less i j below

-- the letter of a number stands at the place of that number
letters_of_width-at : (width place : ℕ) → place < 2 ^ width → slice_get (letters_of_width width) place ≡ Some (letter_of width place)
letters_of_width-at width place h =
    let size = length-letter_of width place in
    let number = bits_of-letter_of width place h in
    sym (λ i. slice_get (letters_of_width (size i)) (number i)) ∙ letters_of_width-place (letter_of width place)

pub letters_of_width-numbers : (width : ℕ) → letters_of_width width ≡ map (letter_of width) (range_with_len 0 (2 ^ width))
letters_of_width-numbers width =
    let letters = letters_of_width width in
    let count = length-letters_of_width width in
    same_lists letters (map (letter_of width) (range_with_len 0 (2 ^ width)))
    (count ∙ sym (length-map-range_with_len (letter_of width) 0 (2 ^ width)))
    (λ k d h. get_or_from_slice_get letters k (letter_of width k) d (letters_of_width-at width k (omega (arith, count)))
    ∙ sym (get_or-map-range_with_len (letter_of width) 0 (2 ^ width) k k d (omega (arith, count)) (omega arith)))
