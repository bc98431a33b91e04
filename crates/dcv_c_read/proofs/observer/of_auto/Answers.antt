use Rattle.std.proofs.Common.{◌≡◌, ℕ, List, [], Ok, sym, ap, subst, ◌∙◌}
use Rattle.std.proofs.lemmas.List.{length-map}
use Rattle.std.proofs.lemmas.Result.{IfOk-weaker}
use Rattle.dcv_syntax.specs.declared.names.Name.{Name}
use Rattle.dcv_io.proofs.Putting.{text_taken}
use Rattle.dcv_automaton_text.specs.File.{AccessLine, SuffixLine}
use Rattle.dcv_automaton_file.specs.File.{texts_of, file_of}
use Rattle.dcv_dfa.specs.Raw.{raw_accepts}
use Rattle.dcv_c.specs.Tree.{CUnit}
use Rattle.dcv_c.specs.Placed.{unit_of}
use Rattle.dcv_c.specs.Faults.{IsReadAs}
use Rattle.dcv_c.specs.Laws.{SpellsOne, Observes}
use Rattle.dcv_c.specs.Layout.{text_of}
use Rattle.dcv_c.specs.Observer.{observer_of}
use Rattle.dcv_c_read.proofs.observer.of_auto.Goals as goal
use Rattle.dcv_c_read.proofs.observer.of_auto.Goals.{After-deref}

-- a text is read as one
same : SpellsOne → (text : List ℕ) (unit other : CUnit) → IsReadAs text unit → IsReadAs text other → unit ≡ other
same one text unit other first second = sym first.is ∙ ap unit_of (one text first.placed second.placed first.spelled second.spelled) ∙ second.is

module _ (c : After-deref) (access : List AccessLine) (suffixes : List SuffixLine) where
  abbrev made : CUnit
  made = observer_of (file_of c.args.auto.now (texts_of c.args.names.now) access suffixes)

  pub observes : Observes c.args.auto.now.arena.slots made (raw_accepts c.args.auto.now)
  observes =
      c.observers_accept_the_same.ensures.automaton c.args.auto.now (texts_of c.args.names.now) access suffixes (record {
        is_raw = c.states-states.ensures.raw;
        auto = c.states-states.ensures.auto;
        are_names = c.requires.names;
        slots = length-map c.args.names.now (λ (name : Name). name.text) ∙ c.requires.slots;
        states = c.requires.states;
        nodes = c.requires.nodes;
      })

  pub is_read : IsReadAs c.deref.result.now made
  is_read =
      let text : c.in_ok-text.text.items ≡ text_of made =
      text_taken _ _ c.put_observer.new.target.bytes c.put_observer.new.target.failed (Ok c.in_ok-text.text) _ c.new-text.ensures.bytes c.new-text.ensures.failed (c.put_observer.ensures access suffixes)
      c.in_ok-text.ensures.failed c.in_ok-text.ensures.all in
      subst (λ (bytes : List ℕ). IsReadAs bytes made) (sym (c.deref.ensures.value ∙ text)) (c.texts_spell_units.ensures.back made observes.spellable observes.well_named)

pub unit_of-requires : goal.unit_of-requires
unit_of-requires c =
    let before = (goal.at.unit_of-requires c).After-deref in
    (made before [] [], is_read before [] [])

pub returns-clause-observer : goal.returns-clause-observer
returns-clause-observer c = λ (access : List AccessLine) (suffixes : List SuffixLine).
    let read = is_read (goal.at.returns-clause-observer c).After-deref access suffixes in
    IfOk-weaker c.unit_of.result _ _ (λ unit is. same c.texts_spell_units.ensures.one c.deref.result.now unit _ is read) c.unit_of.ensures

pub returns-clause-accepts : goal.returns-clause-accepts
returns-clause-accepts c =
    let before = (goal.at.returns-clause-accepts c).After-deref in
    let raw = c.args.auto.now in
    IfOk-weaker c.unit_of.result _ _ (λ unit is.
    subst (λ (unit : CUnit). Observes raw.arena.slots unit (raw_accepts raw)) (sym (same c.texts_spell_units.ensures.one c.deref.result.now unit _ is (is_read before [] [])))
    (observes before [] [])) c.unit_of.ensures
