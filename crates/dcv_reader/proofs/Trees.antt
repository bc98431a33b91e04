-- A text spells one file at most, and sentences are what spells a file.
use Rattle.std.proofs.Common.{◌≡◌, ◌↔◌, ℕ, List, [], ◌∷◌, map, sym, ap, ◌∙◌, subst}
use Rattle.dcv_syntax.specs.Plain.{PlainFile}
use Rattle.dcv_grammar.specs.Grammar.{IsSentence}
use Rattle.dcv_grammar.proofs.SentenceTrees as laws
use Rattle.dcv_tokens.specs.Tokens.{Token, tokens_from}
use Rattle.dcv_tokens.proofs.Cuts.{cut_is_unique}
use Rattle.dcv_sentence.specs.Language.{language}
use Rattle.dcv_reader.specs.Nodes.{token_class}
use Rattle.dcv_reader.specs.Actions.{AFile, parts_of}
use Rattle.dcv_reader.specs.Spelling.{SpellsFile, Spells}
use Rattle.dcv_reader.proofs.EachTree.{tree_stands}
use Rattle.dcv_sentence.proofs.Grammar.{predictive}

pub tokens_spell_one : (tokens : List Token) (file other : PlainFile) → SpellsFile tokens file → SpellsFile tokens other → file ≡ other
tokens_spell_one tokens file other (tree, is, stands) (another, another_is, another_stands) =
    let one = laws.one_tree language token_class predictive tokens tree another is another_is in
    let same : AFile file ∷ [] ≡ AFile other ∷ [] = sym stands ∙ ap parts_of one ∙ another_stands in
    cc

pub spells_one : (text : List ℕ) (file other : PlainFile) → Spells text file → Spells text other → file ≡ other
spells_one text file other (pieces, cut, spells) (other_pieces, other_cut, other_spells) =
    let same = (cut_is_unique text [] [] pieces other_pieces cut other_cut).0 in
    tokens_spell_one (tokens_from 0 pieces) file other spells (subst (λ ps. SpellsFile (tokens_from 0 ps) other) (sym same) other_spells)

pub sentences_spell : (tokens : List Token) → IsSentence language (map token_class tokens) ↔ ((file : PlainFile) × SpellsFile tokens file)
sentences_spell tokens = (
  λ sentence.
      let (tree, is) = laws.sentence_tree language token_class tokens sentence in
      let (file, stands) = tree_stands tree is.derived in
      (file, (tree, is, stands)),
  λ spelled. let (file, (tree, is, stands)) = spelled in laws.tree_sentence language token_class tokens tree is,
)
