use Rattle.dcv_grammar.proofs.SentenceTrees.{one_tree, sentence_tree, tree_sentence}
use Rattle.dcv_grammar.proofs.trees.one_tree.Goals as goal

pub returns-clause-sentence : goal.returns-clause-sentence
returns-clause-sentence g c = λ grammar tokens.
    (sentence_tree grammar g.T.Classified.class_of tokens, λ tree. tree_sentence grammar g.T.Classified.class_of tokens tree.0 tree.1)

pub returns-clause-only : goal.returns-clause-only
returns-clause-only g c = λ grammar p tokens tree other. one_tree grammar g.T.Classified.class_of p tokens tree other
