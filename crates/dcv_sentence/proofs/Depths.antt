-- How deep the tokens of a definition or the goal are nested, token by token.
use Rattle.std.proofs.Common.{◌≡◌, ℕ, ◌+◌, ◌-◌, ◌<◌, ◌≤◌, Bool, true, false, not, cond, nat_le, List, [], ◌∷◌, ◌++◌, ◌⊎◌, length, get_or, take, inl, inr, refl, sym, ap, ◌∙◌, arith, zero-add, length-append, map}
use Rattle.std.specs.List.{count_by, after_last, suffix_len}
use Rattle.std.proofs.lemmas.Bool.{cases_Bool, leb-true, leb-false}
use Rattle.std.proofs.lemmas.List.{drop-append-le, reverse-append, take_more, take_all, get_or-map, length-map}
use Rattle.std.proofs.Math.Seq.{drop-append-add}
use Rattle.std.proofs.lemmas.List.Sums.{sum_by-append}
use Rattle.dcv_tokens.specs.declared.lexer.Token.{Token as PlacedToken}
use Rattle.dcv_tokens.specs.Tokens.{Token}
use Rattle.dcv_tokens.specs.Reading.{seen}
use Rattle.dcv_tokens.specs.Limits.{nests, begins_part}
use Rattle.dcv_sentence.specs.Faults.{depth, deepest, IsTooDeepAt}

-- nothing stands after a last element that passes
after_itself : {X : Type 0} (p : X → Bool) (xs : List X) (x : X) → p x ≡ true → after_last p (xs ++ x ∷ []) ≡ []
after_itself p xs x passes =
    let all : List _ = xs ++ x ∷ [] in
    let none : suffix_len (λ y. not (p y)) all ≡ 0 = rw (reverse-append, passes) refl in
    let end : length all - suffix_len (λ y. not (p y)) all ≡ length xs + 1 = omega (arith, none, length-append xs (x ∷ [])) in
    rw end (drop-append-add xs (x ∷ []) 1)

-- an element that does not pass stands after the last one that does
after_another : {X : Type 0} (p : X → Bool) (xs : List X) (x : X) → p x ≡ false → after_last p (xs ++ x ∷ []) ≡ after_last p xs ++ x ∷ []
after_another p xs x fails =
    let q : _ → Bool = λ y. not (p y) in
    let one : suffix_len q (xs ++ x ∷ []) ≡ 1 + suffix_len q xs = rw (reverse-append, fails) refl in
    let long : length (xs ++ x ∷ []) ≡ length xs + 1 = length-append xs (x ∷ []) in
    let begin : length (xs ++ x ∷ []) - suffix_len q (xs ++ x ∷ []) ≡ length xs - suffix_len q xs = omega arith in
    rw begin (drop-append-le (length xs - suffix_len q xs) xs (x ∷ []) (omega arith))

-- the depth with one more token
abbrev pub deeper : ℕ → Token → ℕ
deeper before token = cond (begins_part token) 0 (before + cond (nests token) 1 0)

one_more : (tokens : List Token) (token : Token) → count_by nests (tokens ++ token ∷ []) ≡ count_by nests tokens + cond (nests token) 1 0
one_more tokens token =
    let one : count_by nests (token ∷ []) ≡ cond (nests token) 1 0 = zero-add (cond (nests token) 1 0) in
    sum_by-append (λ t. cond (nests t) 1 0) tokens (token ∷ []) ∙ ap (λ (n : ℕ). count_by nests tokens + n) one

depth-push : (tokens : List Token) (token : Token) → depth (tokens ++ token ∷ []) ≡ deeper (depth tokens) token
depth-push tokens token = elim (cases_Bool (begins_part token)) [
  | inl begins ↦ ap (count_by nests) (after_itself begins_part tokens token begins) ∙ sym (ap (λ (b : Bool). cond b 0 (depth tokens + cond (nests token) 1 0)) begins)
  | inr behind ↦
      ap (count_by nests) (after_another begins_part tokens token behind) ∙ one_more (after_last begins_part tokens) token
      ∙ sym (ap (λ (b : Bool). cond b 0 (depth tokens + cond (nests token) 1 0)) behind)
]

-- the depth with the token at an index
pub depth-more : (tokens : List PlacedToken) (i : ℕ) (token : PlacedToken) → i < length tokens → token ≡ get_or tokens i token → depth (take (i + 1) (map seen tokens)) ≡ deeper (depth (take i (map seen tokens))) (seen token)
depth-more tokens i token within is =
    let inside : i < length (map seen tokens) = omega (arith, length-map tokens seen) in
    let there : get_or (map seen tokens) i (seen token) ≡ seen token = get_or-map seen tokens i token (seen token) within ∙ ap seen (sym is) in
    ap depth (take_more (map seen tokens) i (seen token) inside ∙ ap (λ (t : Token). take i (map seen tokens) ++ t ∷ []) there)
    ∙ depth-push (take i (map seen tokens)) (seen token)

pub deeper-begins : (before : ℕ) (token : Token) → begins_part token ≡ true → deeper before token ≡ 0
deeper-begins before token begins = ap (λ (b : Bool). cond b 0 (before + cond (nests token) 1 0)) begins

pub deeper-nests : (before : ℕ) (token : Token) → begins_part token ≡ false → nests token ≡ true → deeper before token ≡ before + 1
deeper-nests before token behind nesting =
    ap (λ (b : Bool). cond b 0 (before + cond (nests token) 1 0)) behind ∙ ap (λ (b : Bool). before + cond b 1 0) nesting

pub deeper-same : (before : ℕ) (token : Token) → begins_part token ≡ false → nests token ≡ false → deeper before token ≡ before
deeper-same before token behind flat =
    ap (λ (b : Bool). cond b 0 (before + cond (nests token) 1 0)) behind ∙ ap (λ (b : Bool). before + cond b 1 0) flat ∙ omega arith

-- ---- the first place that is too deep

or_lt : (a b : ℕ) → (a ≤ b) ⊎ (b < a)
or_lt a b = elim (cases_Bool (nat_le a b)) [
  | inl low ↦ inl (leb-true a b low)
  | inr high ↦ inr (leb-false a b high)
]

pub too_deep : (tokens : List Token) (place : ℕ) → ((earlier : ℕ) → earlier ≤ place → depth (take earlier tokens) ≤ deepest) → deepest < depth (take (place + 1) tokens) → IsTooDeepAt tokens place
too_deep tokens place within exceeded = record { exceeded = exceeded; within = within }

-- what is within up to a place, and at the next one
pub within-more : (tokens : List Token) (place : ℕ) → ((earlier : ℕ) → earlier ≤ place → depth (take earlier tokens) ≤ deepest) → depth (take (place + 1) tokens) ≤ deepest → (earlier : ℕ) → earlier ≤ place + 1 → depth (take earlier tokens) ≤ deepest
within-more tokens place within next earlier low = elim (or_lt earlier place) [
  | inl before ↦ within earlier before
  | inr last ↦ let is : earlier ≡ place + 1 = omega arith in rw is next
]

-- no place is too deep where all that was passed is within
pub nowhere_too_deep : (tokens : List Token) (place : ℕ) → ((earlier : ℕ) → earlier ≤ length tokens → depth (take earlier tokens) ≤ deepest) → IsTooDeepAt tokens place → ⊥
nowhere_too_deep tokens place within deep =
    elim (or_lt (length tokens) place) [
      | inl past ↦
          let all : take (place + 1) tokens ≡ take (length tokens) tokens = take_all (place + 1) tokens (omega arith) ∙ sym (take_all (length tokens) tokens (omega arith)) in
          let bound = within (length tokens) (omega arith) in
          absurd (omega (arith, deep.exceeded, bound, ap depth all))
      | inr inside ↦ absurd (omega (arith, deep.exceeded, within (place + 1) (omega arith)))
    ]

pub one_too_deep : (tokens : List Token) (place other : ℕ) → IsTooDeepAt tokens place → IsTooDeepAt tokens other → place ≡ other
one_too_deep tokens place other deep other_deep =
    elim (or_lt place other) [
      | inl low ↦ elim (or_lt other place) [
        | inl high ↦ omega arith
        | inr below ↦ absurd (omega (arith, deep.exceeded, other_deep.within (place + 1) (omega arith)))
      ]
      | inr below ↦ absurd (omega (arith, other_deep.exceeded, deep.within (other + 1) (omega arith)))
    ]
