-- The tokens of a sentence, as the machine takes them one after another.
use Rattle.std.proofs.Common.{◌≡◌, ℕ, zero, suc, ◌<◌, ◌≤◌, List, [], ◌∷◌, ◌++◌, length, get_or, map, take, drop, refl, sym, ap, ◌∙◌, subst, arith}
use Rattle.std.specs.Prelude.{Box}
use Rattle.std.proofs.lemmas.List.{length-map}
use Rattle.std.specs.declared.alloc.Global.{Global}
use Rattle.dcv_syntax.specs.declared.files.File.{File}
use Rattle.dcv_syntax.specs.Plain.{PlainFile}
use Rattle.dcv_grammar.specs.Grammar.{IsSentence, IsViable}
use Rattle.dcv_tokens.specs.declared.lexer.Token.{Token as PlacedToken}
use Rattle.dcv_tokens.specs.Classes.{class_of}
use Rattle.dcv_tokens.specs.Tokens.{Token}
use Rattle.dcv_tokens.specs.Reading.{seen}
use Rattle.dcv_sentence.specs.Language.{language}
use Rattle.dcv_translation.specs.Scheme.{StandFor}
use Rattle.dcv_reader.specs.declared.parts.Part.{Part as CodePart}
use Rattle.dcv_reader.specs.declared.parts.Part.TheVariants as code
use Rattle.dcv_tokens.specs.Classes as classes
use Rattle.dcv_tokens.specs.Limits.{largest_number}
use Rattle.dcv_reader.specs.Nodes.{token_class, number_of}
use Rattle.dcv_reader.specs.Actions.{AFile, scheme}
use Rattle.dcv_reader.specs.Parts.{seen_part, HasSmallNumbers}
use Rattle.dcv_reader.proofs.EachTree.{tree_stands}

abbrev class : PlacedToken → ℕ
class token = class_of token.bytes.now

front : (tokens : List PlacedToken) (n : ℕ) (token : PlacedToken) → n < length tokens → token ≡ get_or tokens n token
    → (map token_class (map seen (take n tokens)) ++ token_class (seen token) ∷ []) ++ map class (drop (suc n) tokens) ≡ map class tokens
front [] n token less is = absurd (omega arith)
front (y ∷ ys) zero token less is = ap (λ (t : PlacedToken). class t ∷ map class ys) is
front (y ∷ ys) (suc n) token less is = ap (λ l. class y ∷ l) (front ys n token (omega arith) is)

-- a sentence goes on with its next token
pub goes_on : (tokens : List PlacedToken) (n : ℕ) (token : PlacedToken) → IsSentence language (map class tokens) → n < length tokens → token ≡ get_or tokens n token
    → IsViable language (map token_class (map seen (take n tokens)) ++ token_class (seen token) ∷ [])
goes_on tokens n token sentence less is = (map class (drop (suc n) tokens), subst (IsSentence language) (sym (front tokens n token less is)) sentence)

pub one_more : (tokens : List PlacedToken) (n : ℕ) (token : PlacedToken) → n < length tokens → token ≡ get_or tokens n token
    → map seen (take (suc n) tokens) ≡ map seen (take n tokens) ++ seen token ∷ []
one_more [] n token less is = absurd (omega arith)
one_more (y ∷ ys) zero token less is = ap (λ (t : PlacedToken). seen t ∷ []) (sym is)
one_more (y ∷ ys) (suc n) token less is = ap (λ l. seen y ∷ l) (one_more ys n token (omega arith) is)

here : (tokens : List PlacedToken) (n : ℕ) (token : PlacedToken) → n < length tokens → token ≡ get_or tokens n token → get_or (map seen tokens) n (seen token) ≡ seen token
here [] n token less is = absurd (omega arith)
here (y ∷ ys) zero token less is = ap seen (sym is)
here (y ∷ ys) (suc n) token less is = here ys n token (omega arith) is

pub small_at : (tokens : List PlacedToken) (n : ℕ) (token : PlacedToken) → n < length tokens → token ≡ get_or tokens n token → HasSmallNumbers (map seen tokens)
    → token_class (seen token) ≡ classes.number → (number_of (seen token)).value ≤ largest_number
small_at tokens n token less is small =
    subst (λ t. token_class t ≡ classes.number → (number_of t).value ≤ largest_number) (here tokens n token less is)
    (small n (seen token) (omega (arith, less, length-map tokens seen)))

pub whole : (tokens : List PlacedToken) (n : ℕ) → length tokens ≤ n → take n tokens ≡ tokens
whole [] zero past = refl
whole [] (suc n) past = refl
whole (y ∷ ys) zero past = absurd (omega arith)
whole (y ∷ ys) (suc n) past = ap (λ l. y ∷ l) (whole ys n (omega (arith, past)))

pub classes_are : (tokens : List PlacedToken) → map token_class (map seen tokens) ≡ map class tokens
classes_are [] = refl
classes_are (y ∷ ys) = ap (λ l. class y ∷ l) (classes_are ys)

file_in : (part : CodePart) (file : PlainFile) → seen_part part ≡ AFile file → ((found : Box File Global) → part ≡ code.File found → ⊥) → ⊥
file_in (code.File found) file is none = none found refl
file_in _ file is none = cc

-- what a sentence stands for is a file
pub is_file : (tokens : List Token) (part : CodePart) → StandFor scheme tokens (seen_part part) → ((found : Box File Global) → part ≡ code.File found → ⊥) → ⊥
is_file tokens part stands none =
    let (file, is) = tree_stands stands.tree stands.is.derived in
    let both : seen_part part ∷ [] ≡ AFile file ∷ [] = sym stands.stands ∙ is in
    let same : seen_part part ≡ AFile file = cc in
    file_in part file same none
