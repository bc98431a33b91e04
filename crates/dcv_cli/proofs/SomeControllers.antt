-- Where a set has a canonical table within the limits there is a right answer to who asks for a controller: the unit of a controller that
-- wins, or a strategy that beats every controller.
--     GameLaws               the laws that are cited
--     some_synthesis_of      so there is one
use Rattle.dcv_cli.proofs.Common.{◌≡◌, inl, inr, ℕ, ◌+◌, ◌≤◌, List, [], length, refl, sym, ◌∙◌, subst, arith, Word, AreNames}
use Rattle.dcv_cli.proofs.Common.{TextIsReadBack, text_of, IsCanonical, Language, Table, most_states}
use Rattle.dcv_cli.proofs.Common.{most_nodes, ControlValue, controller_by, Wins, ControlsWin, StrategiesBeat, WinsOverSameBehaviours}
use Rattle.dcv_cli.proofs.Common.{BeatsOverSameBehaviours, controller_in, Outcome}
use Rattle.dcv_cli.proofs.Common.{Valid, NotValid, controller_text, strategy_text, SaysController, IsSynthesis, Realisable}
use Rattle.dcv_cli.proofs.Common.{Unrealisable}
use Rattle.dcv_arena.specs.Diagram.{node_count}
use Rattle.dcv_synth.specs.Laws.{HeldStatesAreNotBeaten, UnbeatenStatesAreWin, UnbeatenStatesAreHeld, HasUnit, UnitsKeepTheRules, UnitsWin, ControlsHaveLeastLines}
use Rattle.dcv_synth.specs.Control.{unit_of}
use Rattle.dcv_synth.proofs.UnitOf.{has_unit}
use Rattle.dcv_quotient.proofs.SomeAutomata.{rows_of}
use Rattle.dcv_existence.proofs.SomeControls.{IsControlFor, some_control}
use Rattle.dcv_existence.proofs.SomeSyntheses.{some_synthesis}
use Rattle.dcv_cli.proofs.Syntheses.{says_controller_of, says_strategy_of}

-- ---- what is cited

pub record GameLaws : Type 0 where
  pub not_beaten : HeldStatesAreNotBeaten
  pub win : UnbeatenStatesAreWin
  pub held : UnbeatenStatesAreHeld
  pub controls : ControlsWin
  pub strategies : StrategiesBeat
  pub wins_over : WinsOverSameBehaviours
  pub beats_over : BeatsOverSameBehaviours
  pub units_keep : UnitsKeepTheRules
  pub units_win : UnitsWin
  pub lines_have : ControlsHaveLeastLines
  pub read_back : TextIsReadBack

module _ (laws : GameLaws) (n m : ℕ) (L : Language) (table : Table) (access : List Word) (canonical : IsCanonical (n + m) L table access) where
  -- ---- a controller

  module _ (names : List (List ℕ)) (are : AreNames names) (inputs : length names ≡ n) where
    says_controller : (control : ControlValue) → IsControlFor n m table control → HasUnit names control
        → SaysController n m L names (controller_text (text_of (unit_of names control)))
    says_controller control is has =
        let unit = unit_of names control in
        let (named, form) = laws.units_keep names control has in
        says_controller_of n m L table access canonical laws.controls laws.lines_have laws.wins_over laws.read_back names control unit has is.least refl form named
        (subst (λ k. Wins k m L (controller_by m control) → Wins k m L (controller_in m unit)) is.inputs (laws.units_win names control has m L))

    -- ---- one of the two

    pub some_synthesis_of : m ≤ 8 → length table ≤ most_states → node_count (n + m) (rows_of table) ≤ most_nodes
        → (outcome : Outcome) × IsSynthesis n m L names outcome
    some_synthesis_of outputs states nodes = elim (some_synthesis laws.not_beaten laws.win laws.held n m table canonical.states.nonempty (omega arith)) [
      | inl realisable ↦
          let narrow : n ≤ 32 = let count = are.count in omega arith in
          let (control, is) = some_control n m table canonical.states realisable narrow outputs (omega arith) (omega arith) in
          let next = is.next_nodes in
          let output = is.output_nodes in
          let has = has_unit names control is.is are (inputs ∙ sym is.inputs) (omega arith) (omega arith) in (
            record { status = Valid; out = controller_text (text_of (unit_of names control)); err = [] },
            Realisable (says_controller control is has) refl refl,
          )
      | inr unrealisable ↦ (
        record { status = NotValid; out = strategy_text unrealisable.0; err = [] },
        Unrealisable (says_strategy_of n m L table access canonical laws.strategies laws.beats_over unrealisable.0 unrealisable.1) refl refl,
      )
    ]
