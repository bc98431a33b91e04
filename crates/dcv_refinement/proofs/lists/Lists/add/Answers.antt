use Rattle.std.proofs.Common.{refl, sym, subst}
use Rattle.dcv_refinement.specs.Lists.{Adds}
use Rattle.dcv_refinement.specs.declared.lists.Lists.{Lists}
use Rattle.dcv_arena.specs.declared.nodes.Ref.TheVariants.{Leaf, Place}
use Rattle.dcv_refinement.proofs.AddFacts.{adds_leaf, adds_place}
use Rattle.dcv_refinement.proofs.IndexFacts.{on_ok_two}
use Rattle.dcv_refinement.proofs.ChainFacts.{gets_number, stays_same}
use Rattle.dcv_refinement.proofs.lists.Lists.add.Goals as goal

pub returns-in-Leaf : goal.returns-in-Leaf
returns-in-Leaf c =
    let old = c.args.self.now in
    let new : Lists = record old { leaves = c.link.new.lasts; entries = c.link.new.entries } in
    let leaf = c.in-Leaf.leaf in
    let entries = old.entries.items in
    on_ok_two c.link.result _ _ _ (λ links ends. subst (λ ref. Adds old new ref c.args.number) (sym c.in-Leaf.is)
    (adds_leaf old new c.requires leaf c.args.number
    (gets_number entries c.requires.earlier old.leaves.items leaf c.args.number (λ one. c.requires.lasts (Leaf one)) new.entries.items new.leaves.items links ends)
    (stays_same entries c.requires.earlier old.leaves.items leaf c.args.number (λ one. c.requires.lasts (Leaf one)) old.places.items (λ one. c.requires.lasts (Place one))
    new.entries.items new.places.items links refl))) c.link.ensures.entries c.link.ensures.lasts

pub returns-in-Place : goal.returns-in-Place
returns-in-Place c =
    let old = c.args.self.now in
    let new : Lists = record old { places = c.link-in-Place.new.lasts; entries = c.link-in-Place.new.entries } in
    let place = c.in-Place.place in
    let entries = old.entries.items in
    on_ok_two c.link-in-Place.result _ _ _ (λ links ends. subst (λ ref. Adds old new ref c.args.number) (sym c.in-Place.is)
    (adds_place old new c.requires place c.args.number
    (gets_number entries c.requires.earlier old.places.items place c.args.number (λ one. c.requires.lasts (Place one)) new.entries.items new.places.items links ends)
    (stays_same entries c.requires.earlier old.places.items place c.args.number (λ one. c.requires.lasts (Place one)) old.leaves.items (λ one. c.requires.lasts (Leaf one))
    new.entries.items new.leaves.items links refl))) c.link-in-Place.ensures.entries c.link-in-Place.ensures.lasts
