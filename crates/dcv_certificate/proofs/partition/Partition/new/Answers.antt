use Rattle.std.proofs.Common.{ℕ, ◌<◌, length, List, [], ◌∷◌, ◌++◌, map, All, Vec, Global, sym, ap, subst, ◌∙◌}
use Rattle.std.proofs.lemmas.List.Elements.{All-cons, All-nil}
use Rattle.dcv_language.specs.declared.certificate.Suffix.{Suffix}
use Rattle.dcv_language.specs.declared.certificate.Suffix.TheVariants.{Empty}
use Rattle.dcv_certificate.specs.Vertices.{raw_of}
use Rattle.dcv_certificate.specs.Tallies.{AreSizes}
use Rattle.dcv_refinement.specs.Members.{list_of, HaveTheirOwn}
use Rattle.dcv_certificate.proofs.Beginning.{begun, two_blocks}
use Rattle.dcv_certificate.proofs.partition.Partition.new.Goals as goal

pub returns-clause-separates : goal.returns-clause-separates
returns-clause-separates c =
    let raw = raw_of c.args.vertices.now in
    let part = c.in_ok-with_flag.field-0 in
    record {
      separation = begun raw c.requires c.push.new.self.items c.in_ok-blocks.blocks.items (map (λ (part : Vec ℕ Global). part.items) c.push-2.new.self.items) c.rarer_flag.result part.items
          (c.in_ok-push.ensures.items ∙ ap (λ (suffixes : List Suffix). suffixes ++ Empty ∷ []) c.new-suffixes.ensures.items)
          c.in_ok-blocks.ensures
          (ap (map (λ (part : Vec ℕ Global). part.items)) (c.in_ok-push-2.ensures.items ∙ ap (λ (parts : List (Vec ℕ Global)). parts ++ part ∷ []) c.new-parts.ensures.items))
          c.in_ok-with_flag.ensures.flagged;
      numbers = subst (All (λ block. block < 2)) (sym c.in_ok-blocks.ensures) (two_blocks raw c.requires);
      members = subst (λ blocks. HaveTheirOwn blocks (list_of c.in_ok-members.members)) c.deref-2.ensures.value c.in_ok-members.ensures;
      states = subst (All (All (λ state. state < length raw.rows))) (sym (ap (map (λ (part : Vec ℕ Global). part.items)) (c.in_ok-push-2.ensures.items ∙ ap (λ (parts : List (Vec ℕ Global)). parts ++ part ∷ []) c.new-parts.ensures.items)))
          (All-cons (All (λ state. state < length raw.rows)) part.items [] (subst (λ n. All (λ state. state < n) part.items) c.requires.flags c.in_ok-with_flag.ensures.states) (All-nil (All (λ state. state < length raw.rows))));
      sizes = subst (λ blocks. AreSizes blocks 2 c.in_ok-sizes.sizes.items) c.deref.ensures.value c.in_ok-sizes.ensures;
    }

pub sizes_of-requires : goal.sizes_of-requires
sizes_of-requires c =
    subst (All (λ block. block < 2)) (sym (c.deref.ensures.value ∙ c.in_ok-blocks.ensures)) (two_blocks (raw_of c.args.vertices.now) c.requires)
