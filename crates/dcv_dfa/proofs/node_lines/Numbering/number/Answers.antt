use Rattle.std.proofs.Common.{nat_eq, ◌∙◌}
use Rattle.std.specs.Option.{unwrap_or}
use Rattle.dcv_dfa.proofs.Numberings.{position_or_end}
use Rattle.dcv_dfa.proofs.node_lines.Numbering.number.Goals as goal

pub returns : goal.returns
returns c =
    c.unwrap_or.ensures
    ∙ (λ i. unwrap_or (c.get_index_of-number.ensures.index i) (c.len.ensures.len i))
    ∙ position_or_end (nat_eq c.args.place) c.args.self.now.places.keys
