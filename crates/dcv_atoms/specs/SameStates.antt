-- The derived `==` tells whether two states are the same.
use Rattle.std.specs.Prelude.{◌≡◌, nat_eq}
use Rattle.std.proofs.Common.{refl, ap, eqb-true, eq-eqb}
use Rattle.std.specs.Bool.{Decides, beq}
use Rattle.std.specs.Cmp.{unsigned_Decides, booleans_Decides}
use Rattle.std.proofs.lemmas.Bool.{false≢true}
use Rattle.std.proofs.lemmas.Bool.Decides.{Decides-and}
use Rattle.dcv_atoms.specs.declared.states.AtomMacro.{AtomMacro}
use Rattle.dcv_atoms.specs.declared.states.AtomMacro.TheVariants.{Start, First, Good, Last, Bad, Count, Lasted}
use Rattle.dcv_atoms.specs.contracts.states.AtomMacroPartialEq.TheImpl.{eq-value as state_eq}

pub same_states : (a b : AtomMacro) → Decides (state_eq.it a b) (a ≡ b)
same_states Start Start = (λ t. refl, λ e. refl)
same_states First First = (λ t. refl, λ e. refl)
same_states Good Good = (λ t. refl, λ e. refl)
same_states Last Last = (λ t. refl, λ e. refl)
same_states Bad Bad = (λ t. refl, λ e. refl)
same_states (Count m) (Count n) = (λ t. ap Count (eqb-true m n t), λ e. eq-eqb m n cc)
same_states (Lasted m x) (Lasted n y) =
    let parts = Decides-and (nat_eq m n) (beq x y) (unsigned_Decides m n) (booleans_Decides x y) in
    (λ t. let (count, last) = parts.0 t in λ i. Lasted (count i) (last i), λ e. parts.1 (cc, cc))
same_states a b = (λ t. absurd (false≢true t), λ e. cc)
