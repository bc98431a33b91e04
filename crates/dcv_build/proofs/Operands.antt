-- The tables that wait last are those of a step's operands.
use Rattle.std.proofs.Common.{◌≡◌, ℕ, suc, ◌+◌, List, [], ◌∷◌, ◌++◌, reverse, Option, None, Some, slice_get, refl, sym, ap, subst, ◌∙◌, arith}
use Rattle.std.specs.Option.{option_map}
use Rattle.std.proofs.lemmas.Option.{slice_get-map, get_or_from_slice_get, same_Some}
use Rattle.dcv_language.specs.Language.{Language}
use Rattle.dcv_language.specs.Table.{Table}
use Rattle.dcv_core.specs.Core.{CoreTree}
use Rattle.dcv_core.specs.Steps.{PlainOp, PlainStep, CoreStep, PlainCore, without_core, steps_before, steps_of}
use Rattle.dcv_core.specs.StepWords.{TakesOne, TakesTwo}
use Rattle.dcv_core.proofs.StepList.{some_same}
use Rattle.dcv_explore.specs.declared.explorer.Limits.{Limits}
use Rattle.dcv_language.specs.declared.count.Count.{Count}
use Rattle.dcv_shelf.specs.Shelf.{ShelfTable}
use Rattle.dcv_build.specs.Building.{IsNewest, AreWaiting, HasBuilt}
use Rattle.dcv_build.specs.Settled.{IsOwn}
use Rattle.dcv_build.specs.Given.{IsCoreOf}
use Rattle.dcv_build.proofs.PostOrder.{IsAfterOne, IsAfterTwo}
use Rattle.dcv_build.proofs.Progress.{newest_first, two_newest_first}
use Rattle.dcv_build.proofs.SameRows.{table_at}

-- the step of a tree that a core has at a place
module _ (steps : List PlainStep) (n : ℕ) (op : PlainOp) where
  step_by : (found : Option PlainStep) → slice_get steps n ≡ found → option_map (λ (s : CoreStep). s.op) (option_map without_core found) ≡ Some op
      → (step : PlainStep) × (slice_get steps n ≡ Some step) × (step.op ≡ op)
  step_by None there is = absurd cc
  step_by (Some step) there is = (step, there, same_Some step.op op is)

pub step_at : (core : PlainCore) (tree : CoreTree) (n : ℕ) (op : PlainOp) → IsCoreOf tree core → option_map (λ (s : CoreStep). s.op) (slice_get core.steps n) ≡ Some op
    → (step : PlainStep) × (slice_get (steps_of core.declared tree) n ≡ Some step) × (step.op ≡ op)
step_at core tree n op of_tree is =
    let steps = steps_of core.declared tree in
    step_by steps n op (slice_get steps n) refl
    (ap (option_map (λ (s : CoreStep). s.op)) (sym (slice_get-map without_core steps n)) ∙ ap (λ (listed : List CoreStep). option_map (λ (s : CoreStep). s.op) (slice_get listed n)) (sym of_tree) ∙ is)

-- what a table that waits is to the step that takes it
pub record IsOperandAt (limits : Limits) (tables : List Table) (operand : ℕ) (step : PlainStep) (slots : ℕ) (one : ShelfTable) (begin : ℕ) : Type 0 where
  pub table : table_at tables operand ≡ one.table
  pub width : one.slots ≡ slots
  pub begins : begin + steps_before step.core ≡ operand
  pub own : IsOwn limits one

operand_at : (steps : List PlainStep) (limits : Limits) (tables : List Table) (m : ℕ) (one : ShelfTable) (begin : ℕ) → IsNewest steps limits tables m one begin
    → (operand : ℕ) (step : PlainStep) (slots : ℕ) → suc operand ≡ m → slice_get steps operand ≡ Some step → step.slots ≡ slots
    → IsOperandAt limits tables operand step slots one begin
operand_at steps limits tables m one begin newest operand step slots before there width =
    let place : newest.number ≡ operand = omega (arith, newest.last, before) in
    let same : newest.step ≡ step = some_same newest.step step (sym newest.is_there ∙ ap (slice_get steps) place ∙ there) in
    record {
      table = ap (table_at tables) (sym place) ∙ get_or_from_slice_get tables newest.number one.table [] newest.table;
      width = newest.slots ∙ ap (λ (s : PlainStep). s.slots) same ∙ width;
      begins = subst (λ (s : PlainStep). begin + steps_before s.core ≡ newest.number) same newest.begins ∙ place;
      own = newest.own;
    }

-- ---- the operands of a step

module _ (steps : List PlainStep) (limits : Limits) (n : ℕ) (rest : List ShelfTable) (step : PlainStep) where
  pub record HasOneOperand (tables : List Table) (operand : ℕ) (before : PlainStep) (slots : ℕ) (one : ShelfTable) : Type 0 where
    pub begin : ℕ
    pub is : IsOperandAt limits tables operand before slots one begin
    pub begins : begin + steps_before step.core ≡ n
    pub waits : AreWaiting steps limits tables begin (reverse rest)

  pub one_operand : (one : ShelfTable) (counts : List Count) (built : HasBuilt steps limits n (rest ++ one ∷ []) counts) (d slots : ℕ) (operation : Language → Language)
      (takes : TakesOne steps n step d slots operation) → IsAfterOne steps d (steps_before step.core) → HasOneOperand built.tables d takes.step_before slots one
  one_operand one counts built d slots operation takes after =
      let waits = subst (AreWaiting steps limits built.tables n) (newest_first rest one) built.waits in
      let is = operand_at steps limits built.tables n one waits.0 waits.1 d takes.step_before slots takes.is_before takes.is_there takes.width in
      let same = ap (λ (s : PlainStep). steps_before s.core) (some_same after.step takes.step_before (sym after.is_there ∙ takes.is_there)) in
      record {
        begin = waits.0;
        is = is;
        begins = omega (arith, after.size, same, is.begins, takes.is_before);
        waits = waits.2;
      }

  pub record HasTwoOperands (tables : List Table) (c d : ℕ) (first_step second_step : PlainStep) (first second : ShelfTable) : Type 0 where
    pub begin : ℕ
    pub between : ℕ
    pub of_first : IsOperandAt limits tables c first_step step.slots first begin
    pub of_second : IsOperandAt limits tables d second_step step.slots second between
    pub begins : begin + steps_before step.core ≡ n
    pub waits : AreWaiting steps limits tables begin (reverse rest)

  pub two_operands : (first second : ShelfTable) (counts : List Count) (built : HasBuilt steps limits n (rest ++ first ∷ second ∷ []) counts) (c d : ℕ) (operation : Language → Language → Language)
      (takes : TakesTwo steps n step c d operation) → IsAfterTwo steps c d (steps_before step.core)
      → HasTwoOperands built.tables c d takes.first_step takes.second_step first second
  two_operands first second counts built c d operation takes after =
      let waits = subst (AreWaiting steps limits built.tables n) (two_newest_first rest first second) built.waits in
      let of_second = operand_at steps limits built.tables n second waits.0 waits.1 d takes.second_step step.slots takes.second_is_before takes.second_is_there takes.second_width in
      let earlier : suc c ≡ waits.0 = omega (arith, of_second.begins, takes.first_is_before) in
      let of_first = operand_at steps limits built.tables waits.0 first waits.2.0 waits.2.1 c takes.first_step step.slots earlier takes.first_is_there takes.first_width in
      let first_same = ap (λ (s : PlainStep). steps_before s.core) (some_same after.first_step takes.first_step (sym after.first_is_there ∙ takes.first_is_there)) in
      let second_same = ap (λ (s : PlainStep). steps_before s.core) (some_same after.second_step takes.second_step (sym after.second_is_there ∙ takes.second_is_there)) in
      record {
        begin = waits.2.0;
        between = waits.0;
        of_first = of_first;
        of_second = of_second;
        begins = omega (arith, after.size, first_same, second_same, of_first.begins, of_second.begins, takes.first_is_before, takes.second_is_before);
        waits = waits.2.2;
      }
