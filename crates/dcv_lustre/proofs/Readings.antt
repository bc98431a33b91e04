-- The subset is one of those in which each text has one fault, or is read as a tree.
use Rattle.std.proofs.Common.{◌≡◌}
use Rattle.dcv_observer.proofs.Readings.{IsSubset}
use Rattle.dcv_lustre.specs.Placed.{PlacedNode}
use Rattle.dcv_lustre.specs.Actions.{ANode}
use Rattle.dcv_lustre.specs.Faults.{subset}
use Rattle.dcv_lustre.specs.Laws.{TextIsReadBack}
use Rattle.dcv_lustre.proofs.DerivedNodes.{text_spells}
use Rattle.dcv_lustre.proofs.EachTree.{tree_stands}
use Rattle.dcv_lustre.proofs.Grammar.{predictive}
use Rattle.dcv_lustre.proofs.JudgedWords.{as_many}

one_whole : (placed other : PlacedNode) → ANode placed ≡ ANode other → placed ≡ other
one_whole placed other same = cc

pub is_subset : IsSubset subset
is_subset = record {
  predictive = predictive;
  one = one_whole;
  stands = λ tree are. let (placed, is, words) = tree_stands tree are in (placed, is);
  as_many = as_many;
}

pub text_is_read_back : TextIsReadBack
text_is_read_back node form well =
    let (placed, spells, is) = text_spells node form in
    record { placed = placed; spelled = spells; is = is; well_named = well }
