-- Which file a text spells.
use Rattle.std.specs.Prelude.{◌≡◌, ◌↔◌, ℕ, List, [], ◌∷◌, map}
use Rattle.dcv_syntax.specs.Plain.{PlainFile}
use Rattle.dcv_grammar.specs.Grammar.{IsSentence}
use Rattle.dcv_grammar.specs.Trees.{Nodes, IsTree}
use Rattle.dcv_tokens.specs.Tokens.{Token, IsCut, tokens_from}
use Rattle.dcv_sentence.specs.Language.{language}
use Rattle.dcv_reader.specs.Nodes.{token_class}
use Rattle.dcv_reader.specs.Actions.{AFile, parts_of}

-- the tokens have a derivation that stands for the file
abbrev pub SpellsFile : List Token → PlainFile → Type 0
SpellsFile tokens file = (tree : Nodes Token) × IsTree language token_class tokens tree × (parts_of tree ≡ AFile file ∷ [])

-- the text is cut with no byte fault, and its tokens spell the file
abbrev pub Spells : List ℕ → PlainFile → Type 0
Spells text file = (pieces : List (List ℕ)) × IsCut text pieces [] × SpellsFile (tokens_from 0 pieces) file

-- a text spells one file at most
abbrev pub SpellsOne : Type 0
SpellsOne = (text : List ℕ) (file other : PlainFile) → Spells text file → Spells text other → file ≡ other

-- so does a list of tokens
abbrev pub TokensSpellOne : Type 0
TokensSpellOne = (tokens : List Token) (file other : PlainFile) → SpellsFile tokens file → SpellsFile tokens other → file ≡ other

-- a list of tokens is a sentence of the grammar exactly where it spells a file
abbrev pub SentencesSpell : Type 0
SentencesSpell = (tokens : List Token) → IsSentence language (map token_class tokens) ↔ ((file : PlainFile) × SpellsFile tokens file)
