use Rattle.std.proofs.Common.{◌<◌, ℕ, List, Bool, Option, map, drop, length}
use Rattle.dcv_lexer.specs.Cuts.{Token}
use Rattle.dcv_lustre.specs.Placed.{local_of}
use Rattle.dcv_lustre.specs.Tree.{Node}
use Rattle.dcv_lustre_read.specs.Seen.{seen_local}
use Rattle.dcv_lustre_read.specs.Scope.{told_locals, seen_row, IsDeclaring}
use Rattle.dcv_lustre_read.specs.Judged.{words_of_locals, names_of_locals}
use Rattle.dcv_lustre_read.proofs.Inputs.{AreLocalsSoFar}
use Rattle.dcv_lustre_read.proofs.scope.Scope.locals.Given as goal

abbrev pub invariant-loop-local : goal.invariant-loop-local
invariant-loop-local l =
    (node : Node) (whole : Option ℕ) (others : List Token) (others_keep : List Bool)
    → IsDeclaring node whole others others_keep l.initial.self.declared (map seen_row l.initial.self.names.items) (words_of_locals (map seen_local l.locals))
    (names_of_locals (map seen_local l.locals))
    (told_locals (map local_of (map seen_local l.locals)))
    → length node.inputs < length l.initial.self.declared
    → AreLocalsSoFar node whole others others_keep l.locals l.all.items (drop l.local-index l.locals) l.self.declared (map seen_row l.self.names.items)
