use Rattle.dcv_core.specs.TruthViews.{plain_basic}
use Rattle.dcv_build_tests.proofs.Cores.{is_atom}
use Rattle.dcv_build_tests.proofs.atoms.atom_of.Goals as goal

pub new-requires : goal.new-requires
new-requires c = record { atom = is_atom c.args.core.now 0 (plain_basic c.in-Atom.field-0.now) c.in-Atom.ensures }
