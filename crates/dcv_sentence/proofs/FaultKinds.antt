-- What the code finds of each kind of fault.
use Rattle.std.proofs.Common.{◌≡◌, ℕ, ◌<◌, ◌≤◌, Bool, true, false, ◌==◌, List, [], ◌∷◌, length, get_or, map, find, Option, Some, None, option_map, inl, inr, refl, sym, ap, ◌∙◌, subst, arith}
use Rattle.std.specs.Prelude.{IsSomeAnd}
use Rattle.std.specs.Option.{option_map_or}
use Rattle.std.proofs.lemmas.Bool.{cases_Bool, eqb-true, eqb-false}
use Rattle.std.proofs.lemmas.List.{length-map}
use Rattle.std.proofs.lemmas.Option.{slice_get-map, slice_get-get_or, slice_get_past}
use Rattle.dcv_grammar.specs.Grammar.{IsSentence, IsFaultAt, IsVerdict}
use Rattle.dcv_grammar.proofs.Steps.{one_verdict}
use Rattle.dcv_tokens.specs.declared.lexer.Token.{Token as PlacedToken}
use Rattle.dcv_tokens.specs.Tokens.{Token}
use Rattle.dcv_tokens.specs.Classes.{class_of}
use Rattle.dcv_tokens.specs.Reading.{seen}
use Rattle.dcv_sentence.specs.Language.{language}
use Rattle.dcv_sentence.specs.Faults.{classes_of, offset_at, IsMisplacedAt}

-- ---- the first token that passes a test

find_seen : (p : Token → Bool) (tokens : List PlacedToken) → find p (map seen tokens) ≡ option_map seen (find (λ token. p (seen token)) tokens)
find_seen p [] = refl
find_seen p (token ∷ tokens) = elim (cases_Bool (p (seen token))) [
  | inl passes ↦ rw passes refl
  | inr fails ↦ rw fails (find_seen p tokens)
]

start_there : (found : Option PlacedToken) (at : ℕ) → Some at ≡ option_map (λ token. token.start) found → IsSomeAnd (option_map seen found) (λ token. at ≡ token.start)
start_there None at is = let never : Some at ≡ None = is in cc
start_there (Some token) at is = cc

no_start : (found : Option PlacedToken) (at : ℕ) → None ≡ option_map (λ token. token.start) found → IsSomeAnd (option_map seen found) (λ token. at ≡ token.start) → ⊥
no_start None at is there = there
no_start (Some token) at is there = let never : None ≡ Some token.start = is in cc

pub first_there : (p : Token → Bool) (tokens : List PlacedToken) (found : Option ℕ) (at : ℕ) → found ≡ option_map (λ token. token.start) (find (λ token. p (seen token)) tokens) → found ≡ Some at → IsSomeAnd (find p (map seen tokens)) (λ token. at ≡ token.start)
first_there p tokens found at is some =
    subst (λ (o : Option Token). IsSomeAnd o (λ token. at ≡ token.start)) (sym (find_seen p tokens)) (start_there (find (λ token. p (seen token)) tokens) at (sym some ∙ is))

pub none_there : (p : Token → Bool) (tokens : List PlacedToken) (found : Option ℕ) (at : ℕ) → found ≡ option_map (λ token. token.start) (find (λ token. p (seen token)) tokens) → found ≡ None → IsSomeAnd (find p (map seen tokens)) (λ token. at ≡ token.start) → ⊥
none_there p tokens found at is none there =
    no_start (find (λ token. p (seen token)) tokens) at (sym none ∙ is) (subst (λ (o : Option Token). IsSomeAnd o (λ token. at ≡ token.start)) (find_seen p tokens) there)

-- ---- the misplaced token

pub classes_seen : (tokens : List PlacedToken) → classes_of (map seen tokens) ≡ map (λ token. class_of token.bytes.now) tokens
classes_seen [] = refl
classes_seen (token ∷ tokens) = ap (λ (classes : List ℕ). class_of token.bytes.now ∷ classes) (classes_seen tokens)

pub verdict_seen : (tokens : List PlacedToken) (verdict : Option ℕ) → IsVerdict language (map (λ token. class_of token.bytes.now) tokens) verdict → IsVerdict language (classes_of (map seen tokens)) verdict
verdict_seen tokens verdict is = subst (λ (classes : List ℕ). IsVerdict language classes verdict) (sym (classes_seen tokens)) is

pub start_at : (text : List ℕ) (tokens : List PlacedToken) (place : ℕ) (d : PlacedToken) → place < length tokens → (get_or tokens place d).start ≡ offset_at text (map seen tokens) place
start_at text tokens place d within =
    sym (ap (λ (o : Option Token). option_map_or (λ token. token.start) o (length text)) (slice_get-map seen tokens place ∙ ap (option_map seen) (slice_get-get_or tokens place d within)))

pub end_at : (text : List ℕ) (tokens : List PlacedToken) (place : ℕ) → length tokens ≤ place → length text ≡ offset_at text (map seen tokens) place
end_at text tokens place past =
    sym (ap (λ (o : Option Token). option_map_or (λ token. token.start) o (length text)) (slice_get-map seen tokens place ∙ ap (option_map seen) (slice_get_past tokens place past)))

-- no token of a sentence is misplaced
pub sentence_is_placed : (tokens : List Token) (rest : List ℕ) (place : ℕ) → IsSentence language (classes_of tokens) → IsMisplacedAt tokens rest place → ⊥
sentence_is_placed tokens rest place sentence misplaced =
    let never = one_verdict language (classes_of tokens) None (Some place) sentence misplaced.fault in cc

pub one_misplaced : (tokens : List Token) (rest : List ℕ) (place other : ℕ) → IsFaultAt language (classes_of tokens) place → IsMisplacedAt tokens rest other → other ≡ place
one_misplaced tokens rest place other fault misplaced =
    let same = one_verdict language (classes_of tokens) (Some other) (Some place) misplaced.fault fault in cc

-- a fault that is at no token is at the end
pub fault_at_end : (tokens : List Token) (place : ℕ) → IsFaultAt language (classes_of tokens) place → length tokens ≤ place → place ≡ length tokens
fault_at_end tokens place fault past =
    let long : length (classes_of tokens) ≡ length tokens = length-map tokens (λ token. class_of token.bytes) in
    elim fault.fault [
      | inl inside ↦ absurd (omega (arith, inside.0))
      | inr end ↦ end.0 ∙ long
    ]

pub none_left : (rest : List ℕ) → (length rest == 0) ≡ true → rest ≡ []
none_left [] empty = refl
none_left (b ∷ rest) empty = absurd (omega (arith, eqb-true (length (b ∷ rest)) 0 empty))

pub some_left : (rest : List ℕ) → (length rest == 0) ≡ false → rest ≡ [] → ⊥
some_left rest left none = eqb-false (length rest) 0 left (ap length none)
