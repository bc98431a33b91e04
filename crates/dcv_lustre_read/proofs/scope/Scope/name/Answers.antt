use Rattle.std.proofs.Common.{map, sym, ◌∙◌}
use Rattle.dcv_observer.specs.Conditions.{Names as PlainNames}
use Rattle.dcv_lustre.specs.Tree.{Node as PlainNode}
use Rattle.dcv_lustre.specs.Seen.{seen_kind}
use Rattle.dcv_lustre_read.specs.Scope.{seen_row}
use Rattle.dcv_lustre_read.proofs.NameKinds.{unknown_name, name_as}
use Rattle.dcv_observer.proofs.Judging.{broken_word}
use Rattle.dcv_lustre_read.proofs.scope.Scope.name.Goals as goal

pub returns-in_default : goal.returns-in_default
returns-in_default c = λ (node : PlainNode) (earlier : PlainNames) knows.
    broken_word c.broken.ensures (unknown_name node earlier c.args.self.now.declared (map seen_row c.args.self.now.names.items) knows c.args.word.now.bytes.now
    (seen_kind c.args.kind) (c.in_default.ensures node earlier knows))

pub returns-then-not-reads_as : goal.returns-then-not-reads_as
returns-then-not-reads_as c = λ (node : PlainNode) (earlier : PlainNames) knows.
    broken_word c.broken-then-not-reads_as.ensures
    (name_as node earlier c.args.self.now.declared (map seen_row c.args.self.now.names.items) knows c.args.word.now.bytes.now (seen_kind c.args.kind) _
    (c.in-Some.ensures node earlier knows) ∙ sym c.reads_as.ensures ∙ c.if-not-reads_as.true)

pub returns : goal.returns
returns c = λ (node : PlainNode) (earlier : PlainNames) knows. (
  name_as node earlier c.args.self.now.declared (map seen_row c.args.self.now.names.items) knows c.args.word.now.bytes.now (seen_kind c.args.kind) _
      (c.in-Some.ensures node earlier knows) ∙ sym c.reads_as.ensures ∙ c.if-not-reads_as.false,
  (c.in-Some.ensures node earlier knows).is,
)
