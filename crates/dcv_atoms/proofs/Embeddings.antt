-- A machine over what its states are kept as accepts the same words, and its reached states are what reached states are kept as.
use Rattle.std.proofs.Common.{◌≡◌, [], ◌∷◌, refl, ap, ◌∙◌}
use Rattle.dcv_word.specs.Behaviour.{Word}
use Rattle.dcv_language.specs.Automaton.{WorkingMachine, state_from, state_after, accepts}
use Rattle.dcv_atoms.specs.Embedded.{embedded}

module _ {S T : Type 0} (kept : S → T) (found : T → S) (back : (state : S) → found (kept state) ≡ state) (machine : WorkingMachine S) where
  leads_from : (word : Word) (state : S) → state_from (embedded kept found machine).automaton (kept state) word ≡ kept (state_from machine.automaton state word)
  leads_from [] state = refl
  leads_from (letter ∷ word) state =
      ap (λ from. state_from (embedded kept found machine).automaton (kept (machine.next from letter)) word) (back state)
      ∙ leads_from word (machine.next state letter)

  pub embedded_accepts : (word : Word) → accepts (embedded kept found machine).automaton word ≡ accepts machine.automaton word
  embedded_accepts [] = refl
  embedded_accepts (letter ∷ word) =
      ap (λ state. machine.accepting (found state)) (leads_from (letter ∷ word) machine.start)
      ∙ ap machine.accepting (back (state_after machine.automaton (letter ∷ word)))
