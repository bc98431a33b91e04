-- Each text has a first fault, or spells a file.
use Rattle.std.proofs.Common.{ℕ, List, ◌⊎◌, Option, Some, None, inl, inr, refl, subst}
use Rattle.dcv_syntax.specs.Plain.{PlainFile}
use Rattle.dcv_grammar.proofs.TreeLaws.{trees_derived}
use Rattle.dcv_tokens.specs.Tokens.{IsCut, IsTokenized, tokens_from}
use Rattle.dcv_tokens.proofs.Cuts.{cut_exists}
use Rattle.dcv_sentence.specs.declared.faults.ReadFault.{ReadFault}
use Rattle.dcv_sentence.specs.Language.{language}
use Rattle.dcv_sentence.specs.Faults.{HasFault, IsFirstFault}
use Rattle.dcv_sentence.specs.Scanning.{IsFirstIfAny}
use Rattle.dcv_sentence.proofs.Sentences.{nothing_left, is_sentence}
use Rattle.dcv_sentence.proofs.SomeFaults.{first_or_none}
use Rattle.dcv_reader.specs.Nodes.{token_class}
use Rattle.dcv_reader.specs.Spelling.{Spells}
use Rattle.dcv_reader.proofs.EachTree.{tree_stands}

abbrev Reading : List ℕ → Type 0
Reading text =
    ((fault : ReadFault) × IsFirstFault text fault)
    ⊎ ((file : PlainFile) × Spells text file × ((fault : ReadFault) → HasFault text fault → ⊥))

module _ (text : List ℕ) (pieces : List (List ℕ)) (rest : List ℕ) (cut : IsCut text pieces rest) where
  tokenized : IsTokenized text (tokens_from 0 pieces) rest
  tokenized = record { pieces = pieces; cut = cut; among = refl }

  some_file : ((fault : ReadFault) → HasFault text fault → ⊥) → (file : PlainFile) × Spells text file
  some_file faultless =
      let sentence = is_sentence text (tokens_from 0 pieces) rest tokenized faultless in
      let (tree, are, whole) = trees_derived language token_class sentence (tokens_from 0 pieces) refl in
      let (file, stands) = tree_stands tree are in
      let ended = nothing_left text (tokens_from 0 pieces) rest tokenized faultless in
      (file, (pieces, subst (IsCut text pieces) ended cut, (tree, record { derived = are; whole = whole }, stands)))

  reading_by : (found : Option ReadFault) → IsFirstIfAny text found → Reading text
  reading_by (Some fault) is = inl (fault, is)
  reading_by None faultless = let (file, spells) = some_file faultless in inr (file, spells, faultless)

pub some_reading : (text : List ℕ) → Reading text
some_reading text =
    let (pieces, rest, cut) = cut_exists text in
    let (found, is) = first_or_none text (tokens_from 0 pieces) rest (tokenized text pieces rest cut) in
    reading_by text pieces rest cut found is
