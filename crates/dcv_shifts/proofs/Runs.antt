-- The machines of shifts accept the shifts' words: what is accepted from each of their states, by induction on the word.
use Rattle.std.proofs.Common.{◌≡◌, Bool, true, false, cond, not, ◌&&◌, List, [], ◌∷◌, refl, ◌∙◌, arith}
use Rattle.dcv_word.specs.Behaviour.{Word}
use Rattle.dcv_language.specs.Automaton.{accepts_from}
use Rattle.dcv_shifts.specs.Shifts.{goes_back, fore}
use Rattle.dcv_shifts.specs.Machines.{BackState, BackDead, back_after, back_machine}
use Rattle.dcv_shifts.specs.Machines.{ForeState, ForeDead, fore_after, fore_machine}
use Rattle.dcv_shifts.specs.Laws.{BackMachineAccepts, ForeMachineAccepts}
use Rattle.dcv_language.specs.Operations.{iff}

-- ---- back

module _ (P T : List Bool → Bool) where
  abbrev back_from : BackState → Word → Bool
  back_from = accepts_from (back_machine 0 P T).automaton

  from_dead : (word : Word) → back_from BackDead word ≡ false
  from_dead [] = refl
  from_dead (a ∷ word) = from_dead word

  -- what comes after a letter in which P is this, by what T is in the next
  back_step : (was : Bool) (t : Bool) (a : List Bool) (word : Word) → back_from (back_after (P a)) word ≡ goes_back P T a word
      → back_from (cond was (cond t (back_after (P a)) BackDead) (cond t BackDead (back_after (P a)))) word ≡ (iff t was && goes_back P T a word)
  back_step true true a word ih = ih
  back_step true false a word ih = from_dead word
  back_step false true a word ih = from_dead word
  back_step false false a word ih = ih

  after_letter : (was : Bool) (a : List Bool) (word : Word)
      → back_from (back_after was) (a ∷ word) ≡ back_from (cond was (cond (T a) (back_after (P a)) BackDead) (cond (T a) BackDead (back_after (P a)))) word
  after_letter true a word = refl
  after_letter false a word = refl

  from_letter : (letter : List Bool) (word : Word) → back_from (back_after (P letter)) word ≡ goes_back P T letter word
  from_letter letter [] = accepted (P letter)
    where
      accepted : (was : Bool) → back_from (back_after was) [] ≡ true
      accepted true = refl
      accepted false = refl
  from_letter letter (a ∷ word) = after_letter (P letter) a word ∙ back_step (P letter) (T a) a word (from_letter a word)

  first_letter : (t : Bool) (letter : List Bool) (word : Word)
      → back_from (cond t BackDead (back_after (P letter))) word ≡ (not t && goes_back P T letter word)
  first_letter true letter word = from_dead word
  first_letter false letter word = from_letter letter word

pub back_accepts : BackMachineAccepts
back_accepts slots P T [] h = absurd (omega arith)
back_accepts slots P T (letter ∷ letters) h = first_letter P T (T letter) letter letters

-- ---- fore

module _ (P T : List Bool → Bool) where
  abbrev fore_from : ForeState → Word → Bool
  fore_from = accepts_from (fore_machine 0 P T).automaton

  from_lost : (word : Word) → fore_from ForeDead word ≡ false
  from_lost [] = refl
  from_lost (a ∷ word) = from_lost word

  fore_step : (t : Bool) (p : Bool) (a : List Bool) (word : Word) → fore_from (fore_after (T a)) word ≡ fore P T (a ∷ word)
      → fore_from (cond t (cond p (fore_after (T a)) ForeDead) (cond p ForeDead (fore_after (T a)))) word ≡ (iff t p && fore P T (a ∷ word))
  fore_step true true a word ih = ih
  fore_step true false a word ih = from_lost word
  fore_step false true a word ih = from_lost word
  fore_step false false a word ih = ih

  next_letter : (t : Bool) (a : List Bool) (word : Word)
      → fore_from (fore_after t) (a ∷ word) ≡ fore_from (cond t (cond (P a) (fore_after (T a)) ForeDead) (cond (P a) ForeDead (fore_after (T a)))) word
  next_letter true a word = refl
  next_letter false a word = refl

  from_test : (letter : List Bool) (word : Word) → fore_from (fore_after (T letter)) word ≡ fore P T (letter ∷ word)
  from_test letter [] = last (T letter)
    where
      last : (t : Bool) → fore_from (fore_after t) [] ≡ not t
      last true = refl
      last false = refl
  from_test letter (a ∷ word) = next_letter (T letter) a word ∙ fore_step (T letter) (P a) a word (from_test a word)

pub fore_accepts : ForeMachineAccepts
fore_accepts slots P T [] h = absurd (omega arith)
fore_accepts slots P T (letter ∷ letters) h = from_test P T letter letters
