use Rattle.std.proofs.Common.{◌≡◌, ◌∷◌, ◌++◌, ℕ, List, ap, sym, ◌∙◌, arith}
use Rattle.std.specs.List.{flat_map}
use Rattle.std.proofs.lemmas.Grind.{common_steps}
use Rattle.std.proofs.lemmas.List.{take_all}
use Rattle.std.proofs.lemmas.List.Folds.{flat_map-map}
use Rattle.dcv_io.proofs.Putting.{puts_one_more, puts_both, puts_same}
use Rattle.dcv_syntax.specs.declared.names.Name.{Name}
use Rattle.dcv_automaton_file.specs.File.{texts_of}
use Rattle.dcv_automaton_file.specs.Lines.{one_listed, listed}
use Rattle.dcv_automaton_file.proofs.lines.put_names.Goals as goal

pub loop-name-preserved : goal.loop-name-preserved
loop-name-preserved g c =
    let listing = c.args.listing.now in
    puts_one_more (λ (name : Name). listing.between.now ++ one_listed listing name.text) c.in-Some.others.now c.loop-name.name-index c.name-item.result _ _ _ c.loop-name-test.true c.loop-name.invariant
    (puts_same _ _ _ _ c.put_one-in-loop-name.ensures
    (ap (λ (name : List ℕ). listing.between.now ++ one_listed listing name) c.as_bytes-in-loop-name.ensures
    ∙ ap (λ (name : Name). listing.between.now ++ one_listed listing name.text) c.name-item.is))

pub returns : goal.returns
returns g c =
    let listing = c.args.listing.now in
    let first = c.in-Some.first.now in
    let others = c.in-Some.others.now in
    let split : c.args.names.now ≡ first ∷ others = grind (arith, common_steps) in
    let after = λ (text : List ℕ). listing.between.now ++ one_listed listing text in
    puts_same _ _ _ _ (puts_both _ _ _ _ _ (puts_same _ _ _ _ c.put_one.ensures (ap (one_listed listing) c.as_bytes.ensures)) c.loop-name.invariant)
    (ap (λ names. one_listed listing first.text ++ flat_map (λ (name : Name). after name.text) names) (take_all c.loop-name.name-index others c.loop-name-test.false)
    ∙ ap (λ more. one_listed listing first.text ++ more) (sym (flat_map-map after (λ (name : Name). name.text) others))
    ∙ ap (λ (names : List Name). listed listing (texts_of names)) (sym split))
