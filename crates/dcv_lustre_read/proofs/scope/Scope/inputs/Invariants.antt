use Rattle.std.proofs.Common.{◌≡◌, ℕ, List, Bool, Option, map, drop, length, ◌++◌}
use Rattle.dcv_lexer.specs.Cuts.{Token}
use Rattle.dcv_observer.specs.Conditions.{Names}
use Rattle.dcv_observer.specs.Left.{seen}
use Rattle.dcv_lustre.specs.Placed.{bytes_of}
use Rattle.dcv_lustre.specs.Tree.{Node}
use Rattle.dcv_lustre_read.specs.Scope.{Told, told_inputs, seen_row, IsDeclaring}
use Rattle.dcv_lustre_read.proofs.Inputs.{AreInputsSoFar}
use Rattle.dcv_lustre_read.proofs.scope.Scope.inputs.Given as goal

abbrev pub invariant-loop-place : goal.invariant-loop-place
invariant-loop-place l =
    (node : Node) (whole : Option ℕ) (others : List Token) (others_keep : List Bool) (words : List Token) (later : Names) (told : List Told)
    → IsDeclaring node whole others others_keep l.initial.self.declared (map seen_row l.initial.self.names.items) (map seen l.inputs ++ words) (bytes_of (map seen l.inputs) ++ later)
    (told_inputs (bytes_of (map seen l.inputs)) ++ told)
    → length l.initial.self.declared ≡ 1 → node.inputs ≡ bytes_of (map seen l.inputs)
    → AreInputsSoFar node whole others others_keep words later told l.inputs l.texts.items l.place (drop l.place l.inputs) l.self.declared (map seen_row l.self.names.items)
