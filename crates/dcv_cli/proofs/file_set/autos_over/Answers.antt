-- The automaton of each file is made in turn, or one of the files is over the limits.
use Rattle.dcv_cli.proofs.Common.{◌++◌, ◌∷◌, [], suc, sym, ap, ◌∙◌, subst, arith, take, drop}
use Rattle.std.proofs.Common.{take_all}
use Rattle.dcv_joint.specs.Names.{HasAll}
use Rattle.dcv_cli.specs.FileSet.{own_names}
use Rattle.dcv_cli.specs.Joined.{AreAutosOver, OverAt}
use Rattle.dcv_cli.specs.Refusal.{marked}
use Rattle.dcv_cli.specs.declared.refused.Which.TheVariants.{Number}
use Rattle.dcv_cli.proofs.JoinedSets.{IsReadAt, autos_push, has_own, next, read_at, read_count}
use Rattle.dcv_cli.proofs.file_set.autos_over.Goals as goal

pub build_over-requires : goal.build_over-requires
build_over-requires c =
    let place = c.loop-place.place in
    let formula = c.index-formulas-place.result in
    let at = subst (IsReadAt c.requires.read.0 place) (sym c.index-formulas-place.is) (read_at c.requires.read.0 c.args.formulas.now place formula c.requires.read.1 c.loop-place-test.true) in
    record { text = at.text; file = at.file; is = at.is }

pub returns-in-Err-clause-over : goal.returns-in-Err-clause-over
returns-in-Err-clause-over c files are same =
    let place = c.loop-place.place in
    let formula = c.index-formulas-place.result in
    let at = subst (IsReadAt files place) (sym c.index-formulas-place.is) (read_at files c.args.formulas.now place formula are c.loop-place-test.true) in
    OverAt (record {
      earlier = take place files;
      autos = c.loop-place.autos.items;
      within = c.loop-place.invariant files are same;
      file = at.file;
      others = drop (suc place) files;
      are = at.front;
      refusal = c.in-Err.refusal;
      is_refused = c.in-Err.ensures.over at.text at.file at.is;
      is = c.in_file.ensures ∙ ap (λ which. marked which c.in-Err.refusal) (c.number.ensures ∙ ap (λ n. Number (suc n)) (sym at.count));
    })

pub loop-place-preserved : goal.loop-place-preserved
loop-place-preserved c files are same =
    let place = c.loop-place.place in
    let formula = c.index-formulas-place.result in
    let at = subst (IsReadAt files place) (sym c.index-formulas-place.is) (read_at files c.args.formulas.now place formula are c.loop-place-test.true) in
    let has = subst (λ joint. HasAll joint (own_names at.file)) (sym same) (has_own c.names_are_joint.ensures.each files (take place files) (drop (suc place) files) at.file at.front) in
    subst (λ n. AreAutosOver c.args.limits c.args.joint.now (take n files) c.push.new.list.items) (next place)
    (subst (λ files. AreAutosOver c.args.limits c.args.joint.now files c.push.new.list.items) (sym at.further)
    (subst (AreAutosOver c.args.limits c.args.joint.now (take place files ++ at.file ∷ [])) (sym c.in_ok-push-in-Ok.ensures)
    (autos_push c.args.limits c.args.joint.now (take place files) c.loop-place.autos.items at.file c.in-Ok.auto (c.loop-place.invariant files are same)
    (c.in-Ok.ensures.built at.text at.file at.is has))))

pub returns-clause-autos : goal.returns-clause-autos
returns-clause-autos c files are same =
    let count = read_count files c.args.formulas.now are in
    let past = c.loop-place-test.false in
    subst (λ files. AreAutosOver c.args.limits c.args.joint.now files c.loop-place.autos.items) (take_all c.loop-place.place files (omega (arith, past, count)))
    (c.loop-place.invariant files are same)
