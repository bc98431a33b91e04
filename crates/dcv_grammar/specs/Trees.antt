-- Derivation trees over tokens.
use Rattle.std.specs.Prelude.{◌≡◌, ℕ, List, [], ◌∷◌, ◌++◌}
use Rattle.dcv_grammar.specs.declared.grammar.Symbol.{Symbol}
use Rattle.dcv_grammar.specs.declared.grammar.Symbol.TheVariants.{Class, Rule}
use Rattle.dcv_grammar.specs.Grammar.{ContextFree, IsBody}

-- The trees of a list of symbols, in order: a leaf has the token of a class, and a node the trees of one of its rule's bodies.
pub data Nodes (T : Type 0) : Type 0 where
  done : Nodes T
  leaf : (token : T) → (next : Nodes T) → Nodes T
  node : (rule : ℕ) → (inner : Nodes T) → (next : Nodes T) → Nodes T

-- the tokens of the leaves, from left to right
abbrev pub leaves : {T : Type 0} → Nodes T → List T
leaves done = []
leaves (leaf token next) = token ∷ leaves next
leaves (node rule inner next) = leaves inner ++ leaves next

-- some trees, and others after them
abbrev pub join : {T : Type 0} → Nodes T → Nodes T → Nodes T
join done others = others
join (leaf token next) others = leaf token (join next others)
join (node rule inner next) others = node rule inner (join next others)

-- these are trees of the symbols: each leaf's token has its class, and what is inside each node are trees of a body of its rule
abbrev pub AreTrees : {T : Type 0} → ContextFree → (T → ℕ) → List Symbol → Nodes T → Type 0
AreTrees grammar class_of [] done = Unit {0}
AreTrees grammar class_of (Class class ∷ symbols) (leaf token next) = (class_of token ≡ class) × AreTrees grammar class_of symbols next
AreTrees grammar class_of (Rule number ∷ symbols) (node rule inner next) =
    (rule ≡ number) × ((body : List Symbol) × IsBody grammar number body × AreTrees grammar class_of body inner) × AreTrees grammar class_of symbols next
AreTrees grammar class_of symbols nodes = ⊥

-- a tree of the start, with these tokens
pub record IsTree {T : Type 0} (grammar : ContextFree) (class_of : T → ℕ) (tokens : List T) (tree : Nodes T) : Type 0 where
  pub derived : AreTrees grammar class_of (Rule grammar.start ∷ []) tree
  pub whole : leaves tree ≡ tokens
