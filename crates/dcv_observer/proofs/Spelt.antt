-- Derivations that are put together from those of parts.
--     Spelt scheme symbols tokens parts      the symbols have derivation trees with these tokens, which stand for these parts
--     SpeltAs scheme rule part of start layout x     what is laid out there is spelt by a rule, as something that stands for x
use Rattle.std.proofs.Common.{◌≡◌, ℕ, ◌+◌, true, List, [], ◌∷◌, ◌++◌, length, refl, sym, ap, subst, ◌∙◌, append_assoc, append-nil}
use Rattle.dcv_grammar.specs.declared.grammar.Symbol.{Symbol}
use Rattle.dcv_grammar.specs.declared.grammar.Symbol.TheVariants.{Class, Rule}
use Rattle.dcv_grammar.specs.Grammar.{IsBody}
use Rattle.dcv_grammar.specs.Trees.{Nodes, done, leaf, node, leaves, join, AreTrees}
use Rattle.dcv_lexer.specs.Lexicon.{is_orderly}
use Rattle.dcv_lexer.specs.Cuts.{Token}
use Rattle.dcv_observer.specs.Items.{HasItems, token_class}
use Rattle.dcv_observer.specs.Pieces.{Piece, bytes_of, tokens_at, IsLaidOut}
use Rattle.dcv_observer.specs.Layouts.{Layout, ◌<>◌, text_in, pieces_in}
use Rattle.dcv_observer.specs.Scheme.{Scheme, parts_of_token, parts_of, StandsFor}
use Rattle.dcv_observer.proofs.LaidOut.{laid_out}
use Rattle.dcv_observer.proofs.PieceLists.{tokens_append, pieces_are_text}

abbrev Trees : {Part : Type 0} → Scheme Part → List Symbol → Nodes Token → Type 0
Trees scheme symbols nodes = AreTrees scheme.grammar (token_class scheme.lexicon) symbols nodes

pub record Spelt {Part : Type 0} (scheme : Scheme Part) (symbols : List Symbol) (tokens : List Token) (parts : List Part) : Type 0 where
  pub nodes : Nodes Token
  pub are : Trees scheme symbols nodes
  pub whole : leaves nodes ≡ tokens
  pub is : parts_of scheme nodes ≡ parts

abbrev pub at : ℕ → List ℕ → Token
at start bytes = record { bytes = bytes; start = start }

abbrev pub tokens_in : ℕ → Layout → List Token
tokens_in start layout = tokens_at start (pieces_in layout)

-- where a layout ends
abbrev pub after : ℕ → Layout → ℕ
after start layout = start + length (bytes_of (pieces_in layout))

-- the tokens of a layout are those of a rule that stands for something
pub record SpeltAs {Part Placed X : Type 0} (scheme : Scheme Part) (rule : ℕ) (part : Placed → Part) (of : Placed → X) (start : ℕ) (layout : Layout) (x : X) : Type 0 where
  pub placed : Placed
  pub is : of placed ≡ x
  pub spelt : Spelt scheme (Rule rule ∷ []) (tokens_in start layout) (part placed ∷ [])

-- ---- trees after one another

join_trees : {Part : Type 0} (scheme : Scheme Part) (first others : List Symbol) (nodes more : Nodes Token) → Trees scheme first nodes → Trees scheme others more
    → Trees scheme (first ++ others) (join nodes more)
join_trees scheme [] others done more h k = k
join_trees scheme (Class class ∷ first) others (leaf token next) more h k = (h.0, join_trees scheme first others next more h.1 k)
join_trees scheme (Rule number ∷ first) others (node rule inner next) more h k = (h.0, h.1, join_trees scheme first others next more h.2 k)
join_trees scheme [] others (leaf token next) more h k = absurd h
join_trees scheme [] others (node rule inner next) more h k = absurd h
join_trees scheme (Class class ∷ first) others done more h k = absurd h
join_trees scheme (Class class ∷ first) others (node rule inner next) more h k = absurd h
join_trees scheme (Rule number ∷ first) others done more h k = absurd h
join_trees scheme (Rule number ∷ first) others (leaf token next) more h k = absurd h

join_leaves : (nodes more : Nodes Token) → leaves (join nodes more) ≡ leaves nodes ++ leaves more
join_leaves done more = refl
join_leaves (leaf token next) more = ap (λ tokens. token ∷ tokens) (join_leaves next more)
join_leaves (node rule inner next) more = ap (λ tokens. leaves inner ++ tokens) (join_leaves next more) ∙ sym (append_assoc (leaves inner) (leaves next) (leaves more))

join_parts : {Part : Type 0} (scheme : Scheme Part) (nodes more : Nodes Token)
    → parts_of scheme (join nodes more) ≡ parts_of scheme nodes ++ parts_of scheme more
join_parts scheme done more = refl
join_parts scheme (leaf token next) more =
    let own = parts_of_token scheme (token_class scheme.lexicon token) token in
    ap (λ parts. own ++ parts) (join_parts scheme next more) ∙ sym (append_assoc own (parts_of scheme next) (parts_of scheme more))
join_parts scheme (node rule inner next) more = ap (λ parts. scheme.action rule (parts_of scheme inner) ∷ parts) (join_parts scheme next more)

-- ---- putting together

module _ {Part : Type 0} {scheme : Scheme Part} where
  pub none : Spelt scheme [] [] []
  none = record { nodes = done; are = tt; whole = refl; is = refl }

  pub by_token : {class : ℕ} {symbols : List Symbol} {tokens : List Token} {parts : List Part} (token : Token) → token_class scheme.lexicon token ≡ class
      → Spelt scheme symbols tokens parts → Spelt scheme (Class class ∷ symbols) (token ∷ tokens) (parts_of_token scheme class token ++ parts)
  by_token {class} token e s =
      record {
        nodes = leaf token s.nodes;
        are = (e, s.are);
        whole = ap (λ tokens. token ∷ tokens) s.whole;
        is = λ i. parts_of_token scheme (e i) token ++ s.is i;
      }

  -- a rule by one of its bodies
  pub by_rule : (rule : ℕ) {body : List Symbol} {tokens : List Token} {parts : List Part} → IsBody scheme.grammar rule body → Spelt scheme body tokens parts
      → Spelt scheme (Rule rule ∷ []) tokens (scheme.action rule parts ∷ [])
  by_rule rule {body} {tokens} is s =
      record {
        nodes = node rule s.nodes done;
        are = (refl, (body, is, s.are), tt);
        whole = append-nil (leaves s.nodes) ∙ s.whole;
        is = ap (λ parts. scheme.action rule parts ∷ []) s.is;
      }

  pub then : {first others : List Symbol} {tokens more : List Token} {parts rest : List Part} → Spelt scheme first tokens parts → Spelt scheme others more rest
      → Spelt scheme (first ++ others) (tokens ++ more) (parts ++ rest)
  then {first} {others} s t =
      record {
        nodes = join s.nodes t.nodes;
        are = join_trees scheme first others s.nodes t.nodes s.are t.are;
        whole = join_leaves s.nodes t.nodes ∙ (λ i. s.whole i ++ t.whole i);
        is = join_parts scheme s.nodes t.nodes ∙ (λ i. s.is i ++ t.is i);
      }

  -- of a layout and the pieces after it
  pub before : (first : Layout) (others : List Piece) (start : ℕ) {symbols more : List Symbol} {parts rest : List Part} → Spelt scheme symbols (tokens_in start first) parts
      → Spelt scheme more (tokens_at (after start first) others) rest → Spelt scheme (symbols ++ more) (tokens_at start (pieces_in first ++ others)) (parts ++ rest)
  before first others start {symbols} {more} {parts} {rest} s t =
      subst (λ tokens. Spelt scheme (symbols ++ more) tokens (parts ++ rest)) (sym (tokens_append (pieces_in first) others start)) (then s t)

  pub in_turn : (first second : Layout) (start : ℕ) {symbols more : List Symbol} {parts rest : List Part} → Spelt scheme symbols (tokens_in start first) parts
      → Spelt scheme more (tokens_in (after start first) second) rest → Spelt scheme (symbols ++ more) (tokens_in start (first <> second)) (parts ++ rest)
  in_turn first second start s t = before first (pieces_in second) start s t

  -- a text that is laid out stands for what its tokens are spelt as
  pub laid_stands : is_orderly scheme.lexicon ≡ true → (layout : Layout) (next : ℕ) → IsLaidOut scheme.lexicon (pieces_in layout) next
      → (part : Part) → Spelt scheme (Rule scheme.grammar.start ∷ []) (tokens_in 0 layout) (part ∷ []) → StandsFor scheme (text_in layout) part
  laid_stands orderly layout next laid part s =
      record {
        items = tokens_in 0 layout;
        has = subst (λ (text : List ℕ). HasItems scheme.lexicon text (tokens_in 0 layout)) (pieces_are_text layout)
            (laid_out scheme.lexicon orderly (pieces_in layout) next laid);
        tree = s.nodes;
        is = record { derived = s.are; whole = s.whole };
        stands = s.is;
      }
