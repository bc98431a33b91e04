use Rattle.std.proofs.Common.{◌≡◌, ℕ, suc, length}
use Rattle.dcv_language.specs.declared.child.Child.{Child}
use Rattle.dcv_language.specs.declared.child.Child.TheVariants.{State, Node as AtNode}
use Rattle.dcv_automaton_text.specs.Meaning.{state_at}
use Rattle.dcv_automaton_read.specs.Walk.{leaves_of, IsEarlier}
use Rattle.dcv_automaton_read.proofs.walk.leaf.Given as goal

-- the way that is left
abbrev rank : Child → ℕ
rank (State number) = 0
rank (AtNode number) = suc number

abbrev pub invariant-way : goal.invariant-way
invariant-way l = IsEarlier (length l.nodes) l.at × (state_at (leaves_of l.letter l.nodes) l.at ≡ state_at (leaves_of l.letter l.nodes) l.fn.start)

abbrev pub decreases-way : goal.decreases-way
decreases-way l = rank l.at
