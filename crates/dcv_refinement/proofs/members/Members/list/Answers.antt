use Rattle.std.proofs.Common.{List, Vec, ℕ, Global, sym, ap, ◌∙◌}
use Rattle.dcv_refinement.specs.NumberLists.{list_at}
use Rattle.dcv_refinement.specs.Members.{list_of}
use Rattle.dcv_refinement.proofs.MemberFacts.{seen_at}
use Rattle.dcv_refinement.proofs.members.Members.list.Goals as goal

pub returns : goal.returns
returns c =
    let block = c.args.block in
    c.list.ensures ∙ ap (λ (lists : List (Vec ℕ Global)). list_at lists block) c.deref.ensures.value ∙ sym (seen_at c.self.inside.lists.items block)
    ∙ ap (λ (members : List (List ℕ)). list_of members block) c.self.view_is
