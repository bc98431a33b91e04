-- What the steps of a core are: those of a tree, and an atom where there is an atom's operator.
use Rattle.std.proofs.Common.{◌≡◌, ℕ, Option, None, Some, slice_get, map, refl, sym, subst}
use Rattle.std.specs.Option.{option_map}
use Rattle.std.proofs.lemmas.Option.{same_Some}
use Rattle.dcv_core.specs.Core.{CoreTree, PlainBasic}
use Rattle.dcv_core.specs.Steps.{OpAtom, CoreStep, PlainCore, without_core, steps_of}
use Rattle.dcv_atoms.specs.Steps.{IsAtom}
use Rattle.dcv_build.specs.Given.{IsCore}

pub is_core : (core : PlainCore) (declared : ℕ) (tree : CoreTree) → core.declared ≡ declared → core.steps ≡ map without_core (steps_of declared tree) → IsCore core
is_core core declared tree same steps = record {
  tree = tree;
  is = subst (λ k. core.steps ≡ map without_core (steps_of k tree)) (sym same) steps;
}

pub is_atom : (core : PlainCore) (step : ℕ) (basic : PlainBasic) → option_map (λ (s : CoreStep). s.op) (slice_get core.steps step) ≡ Some (OpAtom basic)
    → (form : PlainBasic) × (slots : ℕ) × IsAtom core step form slots
is_atom core step basic here = found (slice_get core.steps step) refl here where
  found : (at : Option CoreStep) → slice_get core.steps step ≡ at → option_map (λ (s : CoreStep). s.op) at ≡ Some (OpAtom basic)
      → (form : PlainBasic) × (slots : ℕ) × IsAtom core step form slots
  found None there is = absurd cc
  found (Some own) there is = (basic, own.slots, record { own = own; there = there; form = same_Some own.op (OpAtom basic) is; width = refl })
