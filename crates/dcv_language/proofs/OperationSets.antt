-- What the machines of the operations accept of operands that accept the behaviours of given sets.
use Rattle.std.proofs.Common.{ℕ, ◌∙◌}
use Rattle.dcv_language.specs.Language.{Language, HaveSameBehaviours}
use Rattle.dcv_language.specs.Automaton.{Automaton, accepts}
use Rattle.dcv_language.specs.MachineLaws.{AcceptsWordsOf}

pub of_set : {S : Type 0} (automaton : Automaton S) (k : ℕ) (L M : Language) → AcceptsWordsOf automaton L → HaveSameBehaviours k L M → HaveSameBehaviours k (accepts automaton) M
of_set automaton k L M a same word b = a word b.nonempty ∙ same word b
