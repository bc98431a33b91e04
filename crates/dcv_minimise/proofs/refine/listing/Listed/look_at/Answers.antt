use Rattle.std.proofs.Common.{refl, sym, inl, ◌∙◌, eqb-true}
use Rattle.std.proofs.lemmas.Map.Views.{Contains-from_any}
use Rattle.dcv_refinement.specs.Members.{block_of}
use Rattle.dcv_minimise.proofs.refine.listing.Listed.look_at.Goals as goal

pub returns-then-contains-clause-looks : goal.returns-then-contains-clause-looks
returns-then-contains-clause-looks c =
    let block = block_of c.args.blocks.now c.args.state in
    let all = c.requires.full block (Contains-from_any eqb-true block c.args.self.now.full (sym c.contains.ensures ∙ c.if-contains.true)) in
    record {
      more = record { grows = λ one there. there; only = λ one there. inl there; full_only = λ one there. inl there };
      looked = inl (all c.args.state c.requires.state refl);
      as_witness = λ same. inl all;
    }
