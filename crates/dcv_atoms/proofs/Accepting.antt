-- The machines of forms accept the forms' words.
use Rattle.std.proofs.Common.{◌≡◌, ℕ, Bool, refl, ◌∙◌}
use Rattle.dcv_syntax.specs.declared.formulas.Relation.{Relation}
use Rattle.dcv_syntax.specs.declared.formulas.Relation.TheVariants.{Equal, Less, AtMost, Greater, AtLeast}
use Rattle.dcv_logic.specs.Satisfaction.{compares}
use Rattle.dcv_language.specs.Atoms.{SettlesAbove}
use Rattle.dcv_language.specs.AtomMachines.{constant_machine, point_machine, run_machine, every_machine, unit_machine, slen_machine, scount_machine, sdur_machine}
use Rattle.dcv_language.specs.MachineLaws.{ConstantMachineAccepts, PointMachineAccepts, RunMachineAccepts, EveryMachineAccepts, UnitMachineAccepts}
use Rattle.dcv_language.specs.MachineLaws.{SlenMachineAccepts, ScountMachineAccepts, SdurMachineAccepts}
use Rattle.dcv_language.specs.MachineLaws.{EqualSettles, LessSettles, AtMostSettles, GreaterSettles, AtLeastSettles}
use Rattle.dcv_shifts.specs.Machines.{back_machine, fore_machine}
use Rattle.dcv_shifts.specs.Laws.{BackMachineAccepts, ForeMachineAccepts}
use Rattle.dcv_syntax.specs.declared.formulas.Bracket.TheVariants.{Point, Run, Every, Unit as TwoInstants}
use Rattle.dcv_syntax.specs.declared.formulas.Count.TheVariants.{Scount, Sdur}
use Rattle.dcv_syntax.specs.declared.propositions.Direction.TheVariants.{Prior, Next}
use Rattle.dcv_core.specs.Core.{TruthSlot, PlainBasic, BasicConstant, BasicBracketed, BasicSlen, BasicCounted, BasicTrack}
use Rattle.dcv_core.specs.Holds.{truth_holds}
use Rattle.dcv_atoms.specs.AtomRows.{atom_machine, kept_constant, constant_found, kept_point, point_found, kept_run, run_found, kept_every, every_found}
use Rattle.dcv_atoms.specs.AtomRows.{kept_unit, unit_found, kept_count, count_found, kept_duration, duration_found}
use Rattle.dcv_atoms.specs.AtomRows.{kept_back, back_found, kept_fore, fore_found}
use Rattle.dcv_atoms.specs.Laws.{MachineAcceptsForm}
use Rattle.dcv_atoms.proofs.Embeddings.{embedded_accepts}
use Rattle.dcv_atoms.proofs.FoundAgain.{constant_again, point_again, run_again, every_again, unit_again, count_again, duration_again, back_again, fore_again}

-- what is known of the machines of `dcv_language`
pub record MachinesAccept : Type 0 where
  pub constant : ConstantMachineAccepts
  pub point : PointMachineAccepts
  pub run : RunMachineAccepts
  pub every : EveryMachineAccepts
  pub unit : UnitMachineAccepts
  pub slen : SlenMachineAccepts
  pub scount : ScountMachineAccepts
  pub sdur : SdurMachineAccepts
  pub back : BackMachineAccepts
  pub fore : ForeMachineAccepts

pub record RelationsSettle : Type 0 where
  pub equal : EqualSettles
  pub less : LessSettles
  pub at_most : AtMostSettles
  pub greater : GreaterSettles
  pub at_least : AtLeastSettles

module _ (accept : MachinesAccept) (settle : RelationsSettle) where
  settles : (relation : Relation) (n : ℕ) → SettlesAbove n (λ count. compares relation count n)
  settles Equal n = settle.equal n
  settles Less n = settle.less n
  settles AtMost n = settle.at_most n
  settles Greater n = settle.greater n
  settles AtLeast n = settle.at_least n

  pub accepts_form : MachineAcceptsForm
  accepts_form slots (BasicConstant truth) word some =
      embedded_accepts kept_constant constant_found constant_again (constant_machine slots truth) word ∙ accept.constant slots truth word some
  accepts_form slots (BasicBracketed Point p) word some =
      embedded_accepts kept_point point_found point_again (point_machine slots (truth_holds p)) word ∙ accept.point slots (truth_holds p) word some
  accepts_form slots (BasicBracketed Run p) word some =
      embedded_accepts kept_run run_found run_again (run_machine slots (truth_holds p)) word ∙ accept.run slots (truth_holds p) word some
  accepts_form slots (BasicBracketed Every p) word some =
      embedded_accepts kept_every every_found every_again (every_machine slots (truth_holds p)) word ∙ accept.every slots (truth_holds p) word some
  accepts_form slots (BasicBracketed TwoInstants p) word some =
      embedded_accepts kept_unit unit_found unit_again (unit_machine slots (truth_holds p)) word ∙ accept.unit slots (truth_holds p) word some
  accepts_form slots (BasicSlen relation n) word some =
      let meets : ℕ → Bool = λ count. compares relation count n in
      embedded_accepts kept_count count_found count_again (slen_machine slots n meets) word ∙ accept.slen slots n meets (settles relation n) word some
  accepts_form slots (BasicCounted Scount p relation n) word some =
      let meets : ℕ → Bool = λ count. compares relation count n in
      embedded_accepts kept_count count_found count_again (scount_machine slots (truth_holds p) n meets) word
      ∙ accept.scount slots (truth_holds p) n meets (settles relation n) word some
  accepts_form slots (BasicCounted Sdur p relation n) word some =
      let meets : ℕ → Bool = λ count. compares relation count n in
      embedded_accepts kept_duration duration_found duration_again (sdur_machine slots (truth_holds p) n meets) word
      ∙ accept.sdur slots (truth_holds p) n meets (settles relation n) word some
  accepts_form slots (BasicTrack Prior p slot) word some =
      embedded_accepts kept_back back_found back_again (back_machine slots (truth_holds p) (truth_holds (TruthSlot slot))) word
      ∙ accept.back slots (truth_holds p) (truth_holds (TruthSlot slot)) word some
  accepts_form slots (BasicTrack Next p slot) word some =
      embedded_accepts kept_fore fore_found fore_again (fore_machine slots (truth_holds p) (truth_holds (TruthSlot slot))) word
      ∙ accept.fore slots (truth_holds p) (truth_holds (TruthSlot slot)) word some

-- each is over the slots of its step
pub atom_slots : (slots : ℕ) (basic : PlainBasic) → (atom_machine slots basic).slots ≡ slots
atom_slots slots (BasicConstant truth) = refl
atom_slots slots (BasicBracketed Point p) = refl
atom_slots slots (BasicBracketed Run p) = refl
atom_slots slots (BasicBracketed Every p) = refl
atom_slots slots (BasicBracketed TwoInstants p) = refl
atom_slots slots (BasicSlen relation n) = refl
atom_slots slots (BasicCounted Scount p relation n) = refl
atom_slots slots (BasicCounted Sdur p relation n) = refl
atom_slots slots (BasicTrack Prior p slot) = refl
atom_slots slots (BasicTrack Next p slot) = refl
