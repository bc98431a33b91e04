-- Runs of automata.
use Rattle.std.proofs.Common.{Bool, List, ◌≡◌, ◌<◌, [], ◌∷◌, ◌++◌, length, refl, ap, subst, ◌∙◌, arith}
use Rattle.std.proofs.lemmas.List.Elements.{All-nil}
use Rattle.dcv_word.specs.Behaviour.{Word}
use Rattle.dcv_language.specs.Automaton.{Automaton, WorkingMachine, IsReached, state_from, state_after, accepts_from, accepts}
use Rattle.dcv_language.proofs.Behaviours.{Widths, Widths-head, Widths-tail, Widths-append, one_letter}

-- a word goes on from where its front leads
pub state_from-append : {S : Type 0} (automaton : Automaton S) (state : S) (u v : Word)
    → state_from automaton state (u ++ v) ≡ state_from automaton (state_from automaton state u) v
state_from-append automaton state [] v = refl
state_from-append automaton state (a ∷ u) v = state_from-append automaton (automaton.next state a) u v

-- of a nonempty word the state decides to which it leads
pub accepts_by_state : {S : Type 0} (automaton : Automaton S) (word : Word) → 0 < length word → accepts automaton word ≡ automaton.accepting (state_after automaton word)
accepts_by_state automaton [] h = absurd (omega arith)
accepts_by_state automaton (a ∷ word) h = refl

-- and so of one that goes on
pub accepts_on : {S : Type 0} (automaton : Automaton S) (u v : Word) → 0 < length (u ++ v) → accepts automaton (u ++ v) ≡ accepts_from automaton (state_after automaton u) v
accepts_on automaton u v h = accepts_by_state automaton (u ++ v) h ∙ ap automaton.accepting (state_from-append automaton automaton.start u v)

-- ---- reached states

kept : {S : Type 0} (machine : WorkingMachine S) (P : S → Type 0)
    → ((state : S) (letter : List Bool) → length letter ≡ machine.slots → P state → P (machine.next state letter))
    → (word : Word) (state : S) → Widths machine.slots word → P state → P (state_from machine.automaton state word)
kept machine P keeps [] state w p = p
kept machine P keeps (a ∷ word) state w p =
    kept machine P keeps word (machine.next state a) (Widths-tail machine.slots a word w) (keeps state a (Widths-head machine.slots a word w) p)

-- What the start has and steps keep, all reached states have. (No contract can state this for all types of states.)
pub reached_has : {S : Type 0} (machine : WorkingMachine S) (P : S → Type 0) → P machine.start
    → ((state : S) (letter : List Bool) → length letter ≡ machine.slots → P state → P (machine.next state letter))
    → (state : S) → IsReached machine state → P state
reached_has machine P start keeps state reached = subst P reached.leads (kept machine P keeps reached.word machine.start reached.widths start)

pub start_is_reached : {S : Type 0} (machine : WorkingMachine S) → IsReached machine machine.start
start_is_reached machine = record { word = []; widths = All-nil (λ (letter : List Bool). length letter ≡ machine.slots); leads = refl }

pub next_is_reached : {S : Type 0} (machine : WorkingMachine S) (state : S) (letter : List Bool) → length letter ≡ machine.slots
    → IsReached machine state → IsReached machine (machine.next state letter)
next_is_reached machine state letter e reached = record {
  word = reached.word ++ letter ∷ [];
  widths = Widths-append machine.slots reached.word (letter ∷ []) reached.widths (one_letter machine.slots letter e);
  leads = state_from-append machine.automaton machine.start reached.word (letter ∷ []) ∙ ap (λ s. machine.next s letter) reached.leads;
}
