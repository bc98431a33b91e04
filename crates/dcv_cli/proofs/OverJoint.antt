-- One file over the joint names of a set: its names, its core and its automaton there.
use Rattle.dcv_cli.proofs.Common.{◌≡◌, ℕ, List, length, true, refl, sym, ap, ◌∙◌, subst, core_of_file, RawValue}
use Rattle.dcv_cli.proofs.Common.{IsAuto, IsAutomatonOf, IsRead, PlainFile, Limits, IsWithinBudget, NamesFirstOver, Refusal, Formula, Name, texts_of, words_of, steps_of, fault_of_file, None}
use Rattle.dcv_core.specs.Steps.{IsCoreOf, PlainCore}
use Rattle.dcv_joint.specs.Faults.{IsFaultOfCore, IsFaultOfNames, has_few_slots}
use Rattle.dcv_joint.specs.Laws.{FileMeansOver}
use Rattle.dcv_joint.specs.Moved.{moved_core, places_of}
use Rattle.dcv_joint.specs.Names.{HasAll}
use Rattle.dcv_joint.specs.declared.joint.JointFault.{JointFault}
use Rattle.dcv_joint.specs.declared.joint.JointFault.TheVariants.{TooMany, Slots as ManySlotsFault, Memory as MemoryFault}
use Rattle.dcv_scope.specs.declared.faults.ScopeFault.TheVariants.{Slots}
use Rattle.dcv_word.specs.Behaviour.{IsBehaviour}
use Rattle.dcv_cli.specs.FileSet.{fits_over, own_names}
use Rattle.dcv_cli.specs.Joined.{ExtraName, FewSlots, IsAutoOver, IsCoreOver, IsRefusedName, IsRefusedOver, IsSlotsRefusal, ManySlots, NoMemory, NoMemoryForCore, NoMemoryForName, SlotsAre, refusal_of_joint}
use Rattle.dcv_cli.specs.declared.faults.FormulaFault.TheVariants.{Scope}
use Rattle.dcv_cli.specs.declared.formula_file.FormulaFile.{FormulaFile}

-- names that do not fit
pub names_refused : (fault : JointFault) (goal : ℕ) (joint : List (List ℕ)) (names : List Name) → IsFaultOfNames joint names fault
    → IsRefusedName joint names (refusal_of_joint fault goal)
names_refused (TooMany at) goal joint names is = ExtraName at is refl
names_refused ManySlotsFault goal joint names is = absurd is
names_refused MemoryFault goal joint names is = NoMemoryForName refl

module _ {text : List ℕ} {file : PlainFile} {formula : FormulaFile} (is : IsRead text file formula) (joint : List (List ℕ)) (given : List Name)
    (same : given ≡ formula.names.items) where
  own : texts_of given ≡ own_names file
  own = ap texts_of (same ∙ is.names)

  fits_same : has_few_slots (places_of joint (texts_of given)) (length joint) formula.core.steps ≡ fits_over joint file
  fits_same = ap (λ names. has_few_slots (places_of joint names) (length joint) formula.core.steps) own
      ∙ ap (has_few_slots (places_of joint (own_names file)) (length joint)) is.steps

  pub core_is_over : (core : PlainCore) → core.declared ≡ length joint → IsCoreOf (moved_core joint (texts_of given) (core_of_file file)) core
      → has_few_slots (places_of joint (texts_of given)) (length joint) formula.core.steps ≡ true → IsCoreOver joint file core
  core_is_over core declared of few = record {
    declared = declared;
    is = subst (λ names. IsCoreOf (moved_core joint names (core_of_file file)) core) own of;
    fits = sym fits_same ∙ few;
  }

  pub slots_refused : (fault : JointFault) → IsFaultOfCore (places_of joint (texts_of given)) (length joint) formula.core.steps fault → IsSlotsRefusal joint file (refusal_of_joint fault formula.goal)
  slots_refused (TooMany at) fault = absurd fault
  slots_refused ManySlotsFault fault = SlotsAre (sym fits_same ∙ fault) (ap (λ at. Formula (Scope (Slots at))) is.goal)
  slots_refused MemoryFault fault = NoMemoryForCore refl

pub slots_are_over : (limits : Limits) (joint : List (List ℕ)) (file : PlainFile) (refusal : Refusal) → IsSlotsRefusal joint file refusal → IsRefusedOver limits joint file refusal
slots_are_over limits joint file refusal (SlotsAre few e) = ManySlots few e
slots_are_over limits joint file refusal (NoMemoryForCore e) = NoMemory e

module _ {joint : List (List ℕ)} {file : PlainFile} {core : PlainCore} (over : IsCoreOver joint file core) (limits : Limits) where
  pub refused_over : (refusal : Refusal) → NamesFirstOver (steps_of core.declared (moved_core joint (own_names file) (core_of_file file))) limits refusal
      → IsRefusedOver limits joint file refusal
  refused_over refusal is =
      FewSlots over.fits (subst (λ k. NamesFirstOver (steps_of k (moved_core joint (own_names file) (core_of_file file))) limits refusal) over.declared is)

  pub auto_over : FileMeansOver → HasAll joint (own_names file) → fault_of_file file ≡ None → (auto : RawValue) → IsAuto auto
      → IsAutomatonOf core.declared (words_of (moved_core joint (own_names file) (core_of_file file))) auto
      → IsWithinBudget (steps_of core.declared (moved_core joint (own_names file) (core_of_file file))) limits → IsAutoOver limits joint file auto
  auto_over means has none auto is of within = record {
    fits = over.fits;
    within = subst (λ k. IsWithinBudget (steps_of k (moved_core joint (own_names file) (core_of_file file))) limits) over.declared within;
    slots = of.slots ∙ over.declared;
    same = λ word behaves.
        let own_width = subst (λ k. IsBehaviour k word) (sym over.declared) behaves in
        sym (is.canonical.exact word (subst (λ k. IsBehaviour k word) (sym of.slots) own_width)) ∙ of.canonical.exact word own_width ∙ means joint file has none word behaves;
  }
