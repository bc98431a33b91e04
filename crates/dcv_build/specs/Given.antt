-- The cores that can be built: a core is a list of steps, and so has those of a tree only where some call has made it so.
--     IsCoreOf tree core     the core has the steps of this tree, over its declared variables
--     IsCore core            it has those of some tree
pub use Rattle.dcv_core.specs.Steps.{IsCoreOf}
use Rattle.dcv_core.specs.Core.{CoreTree}
use Rattle.dcv_core.specs.Steps.{PlainCore}

pub record IsCore (core : PlainCore) : Type 0 where
  pub tree : CoreTree
  pub is : IsCoreOf tree core
