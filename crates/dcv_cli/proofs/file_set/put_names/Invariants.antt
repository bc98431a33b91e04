use Rattle.dcv_cli.proofs.Common.{take, ◌∷◌, flat_map, List, ℕ, Puts}
use Rattle.dcv_cli.proofs.file_set.put_names.Given as goal

-- the names so far are put
abbrev pub invariant-loop-name : goal.invariant-loop-name
invariant-loop-name g l = Puts (g.T.Target.standing l.fn.target) (g.T.Target.standing l.target) (flat_map (λ (name : List ℕ). 32 ∷ name) (take l.name-index l.names))
