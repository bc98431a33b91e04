-- Sentences and their trees.
use Rattle.std.proofs.Common.{◌≡◌, ℕ, List, [], ◌∷◌, ◌++◌, map, refl, sym, ◌∙◌, subst, append-nil}
use Rattle.dcv_grammar.specs.declared.grammar.Symbol.TheVariants.{Rule}
use Rattle.dcv_grammar.specs.Grammar.{ContextFree, at_start, IsSentence}
use Rattle.dcv_grammar.specs.Predictive.{IsPredictive}
use Rattle.dcv_grammar.specs.Trees.{Nodes, done, leaves, IsTree}
use Rattle.dcv_grammar.proofs.TreeLaws.{derives_leaves, trees_derived, one_reading}

module _ {T : Type 0} (g : ContextFree) (class_of : T → ℕ) (p : IsPredictive g) where
  -- a sentence has one tree
  pub one_tree : (tokens : List T) (a b : Nodes T) → IsTree g class_of tokens a → IsTree g class_of tokens b → a ≡ b
  one_tree tokens a b x y =
      let same : leaves a ++ [] ≡ leaves b ++ [] = append-nil (leaves a) ∙ x.whole ∙ sym y.whole ∙ sym (append-nil (leaves b)) in
      (one_reading g class_of p (Rule g.start ∷ []) [] [] a b [] [] at_start at_start x.derived y.derived same (derives_leaves g class_of [] done tt) (derives_leaves g class_of [] done tt)).0

module _ {T : Type 0} (g : ContextFree) (class_of : T → ℕ) where
  pub sentence_tree : (tokens : List T) → IsSentence g (map class_of tokens) → (tree : Nodes T) × IsTree g class_of tokens tree
  sentence_tree tokens d =
      let (tree, h, e) = trees_derived g class_of d tokens refl in
      (tree, record { derived = h; whole = e })

  pub tree_sentence : (tokens : List T) (tree : Nodes T) → IsTree g class_of tokens tree → IsSentence g (map class_of tokens)
  tree_sentence tokens tree is = subst (λ l. IsSentence g (map class_of l)) is.whole (derives_leaves g class_of (Rule g.start ∷ []) tree is.derived)
