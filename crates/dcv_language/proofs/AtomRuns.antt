-- The machines of the atoms accept the atoms' words: what is accepted from each of their states, by induction on the word.
use Rattle.std.proofs.Common.{◌≡◌, ℕ, suc, ◌+◌, Bool, true, false, cond, ◌&&◌, List, [], ◌∷◌, length, Some, count_by, refl, ap, sym, ◌∙◌, arith}
use Rattle.std.specs.List.{list_all}
use Rattle.std.proofs.lemmas.Bool.{cases_lt}
use Rattle.std.proofs.lemmas.List.Sums.{sum_by-cons}
use Rattle.std.proofs.lemmas.Bool.Decides.{nat_tests}
use Rattle.std.proofs.Common.{⊎_elim}
use Rattle.dcv_word.specs.Behaviour.{Word}
use Rattle.dcv_language.specs.Automaton.{accepts_from}
use Rattle.dcv_language.specs.Atoms.{all_but_last, point, run, unit, SettlesAbove}
use Rattle.dcv_language.specs.AtomMachines.{PointState, PointGood, PointBad, RunState, RunFirst, RunOk, RunLast, RunDead, EveryState, EveryOk, EveryBad, UnitState, UnitOne, UnitDead, Lasted, point_machine, run_machine, every_machine, unit_machine, capped, slen_machine, scount_machine, sdur_machine}
use Rattle.dcv_language.specs.MachineLaws.{ConstantMachineAccepts, PointMachineAccepts, RunMachineAccepts, EveryMachineAccepts, UnitMachineAccepts, SlenMachineAccepts, ScountMachineAccepts, SdurMachineAccepts, EqualSettles, LessSettles, AtMostSettles, GreaterSettles, AtLeastSettles}

-- ---- constants

pub constant_accepts : ConstantMachineAccepts
constant_accepts slots truth [] h = absurd (omega arith)
constant_accepts slots truth (letter ∷ letters) h = refl

-- ---- points

module _ (P : List Bool → Bool) where
  abbrev point_from : PointState → Word → Bool
  point_from = accepts_from (point_machine 0 P).automaton

  from_bad : (word : Word) → point_from PointBad word ≡ false
  from_bad [] = refl
  from_bad (a ∷ word) = from_bad word

  from_point : (b : Bool) (letter : List Bool) (letters : Word) → P letter ≡ b → point_from (cond b PointGood PointBad) letters ≡ point P (letter ∷ letters)
  from_point true letter [] e = sym e
  from_point true letter (a ∷ letters) e = from_bad letters
  from_point false letter [] e = sym e
  from_point false letter (a ∷ letters) e = from_bad letters

pub point_accepts : PointMachineAccepts
point_accepts slots P [] h = absurd (omega arith)
point_accepts slots P (letter ∷ letters) h = from_point P (P letter) letter letters refl

-- ---- runs

module _ (P : List Bool → Bool) where
  abbrev run_from : RunState → Word → Bool
  run_from = accepts_from (run_machine 0 P).automaton

  from_dead : (word : Word) → run_from RunDead word ≡ false
  from_dead [] = refl
  from_dead (a ∷ word) = from_dead word

  -- after a letter of a run that goes on
  run_step : (b : Bool) (word : Word) → run_from RunOk word ≡ list_all P (all_but_last word) → (a : List Bool) → P a ≡ b
      → run_from (cond b RunOk RunLast) word ≡ list_all P (all_but_last (a ∷ word))
  run_step true [] ih a e = refl
  run_step true (c ∷ word) ih a e = ih ∙ ap (λ p. p && list_all P (all_but_last (c ∷ word))) (sym e)
  run_step false [] ih a e = refl
  run_step false (c ∷ word) ih a e = from_dead word ∙ ap (λ p. p && list_all P (all_but_last (c ∷ word))) (sym e)

  from_ok : (word : Word) → run_from RunOk word ≡ list_all P (all_but_last word)
  from_ok [] = refl
  from_ok (a ∷ word) = run_step (P a) word (from_ok word) a refl

  from_first : (b : Bool) (letter : List Bool) (letters : Word) → P letter ≡ b → run_from (cond b RunFirst RunDead) letters ≡ run P (letter ∷ letters)
  from_first true letter [] e = refl
  from_first true letter (a ∷ letters) e = run_step (P a) letters (from_ok letters) a refl ∙ ap (λ p. p && list_all P (all_but_last (a ∷ letters))) (sym e)
  from_first false letter [] e = refl
  from_first false letter (a ∷ letters) e = from_dead letters ∙ ap (λ p. p && list_all P (all_but_last (a ∷ letters))) (sym e)

pub run_accepts : RunMachineAccepts
run_accepts slots P [] h = absurd (omega arith)
run_accepts slots P (letter ∷ letters) h = from_first P (P letter) letter letters refl

-- ---- every

module _ (P : List Bool → Bool) where
  abbrev every_from : EveryState → Word → Bool
  every_from = accepts_from (every_machine 0 P).automaton

  from_broken : (word : Word) → every_from EveryBad word ≡ false
  from_broken [] = refl
  from_broken (a ∷ word) = from_broken word

  every_step : (b : Bool) (word : Word) → every_from EveryOk word ≡ list_all P word → every_from (cond b EveryOk EveryBad) word ≡ (b && list_all P word)
  every_step true word ih = ih
  every_step false word ih = from_broken word

  from_whole : (word : Word) → every_from EveryOk word ≡ list_all P word
  from_whole [] = refl
  from_whole (a ∷ word) = every_step (P a) word (from_whole word)

pub every_accepts : EveryMachineAccepts
every_accepts slots P [] h = absurd (omega arith)
every_accepts slots P (letter ∷ letters) h = every_step P (P letter) letters (from_whole P letters)

-- ---- units

module _ (P : List Bool → Bool) where
  abbrev unit_from : UnitState → Word → Bool
  unit_from = accepts_from (unit_machine 0 P).automaton

  from_over : (word : Word) → unit_from UnitDead word ≡ false
  from_over [] = refl
  from_over (a ∷ word) = from_over word

  from_unit : (b : Bool) (letter : List Bool) (letters : Word) → P letter ≡ b → unit_from (cond b UnitOne UnitDead) letters ≡ unit P (letter ∷ letters)
  from_unit true letter [] e = refl
  from_unit true letter (a ∷ []) e = sym e
  from_unit true letter (a ∷ c ∷ letters) e = from_over letters
  from_unit false letter [] e = refl
  from_unit false letter (a ∷ []) e = sym e
  from_unit false letter (a ∷ c ∷ letters) e = from_over letters

pub unit_accepts : UnitMachineAccepts
unit_accepts slots P [] h = absurd (omega arith)
unit_accepts slots P (letter ∷ letters) h = from_unit P (P letter) letter letters refl

-- ---- measures

length-all_but_last : (letter : List Bool) (letters : Word) → length (all_but_last (letter ∷ letters)) ≡ length letters
length-all_but_last letter [] = refl
length-all_but_last letter (a ∷ letters) = ap suc (length-all_but_last a letters)

count-cons : (P : List Bool → Bool) (letter : List Bool) (letters : Word) → cond (P letter) 1 0 + count_by P letters ≡ count_by P (letter ∷ letters)
count-cons P letter letters = sym (sum_by-cons (λ (x : List Bool). cond (P x) 1 0) letter letters)

-- what is capped meets the test alike
settled : (n : ℕ) (meets : ℕ → Bool) → SettlesAbove n meets → (count : ℕ) → meets (capped n count) ≡ meets count
settled n meets settles count = ⊎_elim
    (λ above. ap meets (omega arith) ∙ sym (settles count above))
    (λ within. ap meets (omega arith))
    (cases_lt n count)

-- one more of what is capped, capped again
capped_more : (n count : ℕ) → capped n (suc (capped n count)) ≡ capped n (suc count)
capped_more n count = omega arith

module _ (n : ℕ) (meets : ℕ → Bool) (settles : SettlesAbove n meets) where
  from_length : (word : Word) (count : ℕ) → accepts_from (slen_machine 0 n meets).automaton (Some (capped n count)) word ≡ meets (count + length word)
  from_length [] count = settled n meets settles count ∙ ap meets (omega arith)
  from_length (a ∷ word) count =
      ap (λ c. accepts_from (slen_machine 0 n meets).automaton (Some c) word) (capped_more n count)
      ∙ from_length word (suc count) ∙ ap meets (omega arith)

  abbrev counts_from : (List Bool → Bool) → ℕ → Word → Bool
  counts_from P count = accepts_from (scount_machine 0 P n meets).automaton (Some count)

  count_step : (P : List Bool → Bool) (word : Word) → ((c : ℕ) → counts_from P (capped n c) word ≡ meets (c + count_by P word))
      → (b : Bool) (count : ℕ) → counts_from P (cond b (capped n (suc (capped n count))) (capped n count)) word ≡ meets (count + (cond b 1 0 + count_by P word))
  count_step P word ih true count = ap (λ c. counts_from P c word) (capped_more n count) ∙ ih (suc count) ∙ ap meets (omega arith)
  count_step P word ih false count = ih count ∙ ap meets (omega arith)

  from_count : (P : List Bool → Bool) (word : Word) (count : ℕ) → counts_from P (capped n count) word ≡ meets (count + count_by P word)
  from_count P [] count = settled n meets settles count ∙ ap meets (omega arith)
  from_count P (a ∷ word) count = count_step P word (from_count P word) (P a) count ∙ ap (λ c. meets (count + c)) (count-cons P a word)

  abbrev lasts_from : (List Bool → Bool) → ℕ → Bool → Word → Bool
  lasts_from P count last = accepts_from (sdur_machine 0 P n meets).automaton (Lasted count last)

  -- the letter at the end of what is read counts once another follows
  last_step : (P : List Bool → Bool) (a b : List Bool) (word : Word)
      → ((c : ℕ) → lasts_from P (capped n c) (P b) word ≡ meets (c + count_by P (all_but_last (b ∷ word))))
      → (holds : Bool) (count : ℕ) → lasts_from P (cond holds (capped n (suc (capped n count))) (capped n count)) (P b) word
      ≡ meets (count + (cond holds 1 0 + count_by P (all_but_last (b ∷ word))))
  last_step P a b word ih true count = ap (λ c. lasts_from P c (P b) word) (capped_more n count) ∙ ih (suc count) ∙ ap meets (omega arith)
  last_step P a b word ih false count = ih count ∙ ap meets (omega arith)

  from_lasted : (P : List Bool → Bool) (word : Word) (a : List Bool) (count : ℕ) → lasts_from P (capped n count) (P a) word ≡ meets (count + count_by P (all_but_last (a ∷ word)))
  from_lasted P [] a count = settled n meets settles count ∙ ap meets (omega arith)
  from_lasted P (b ∷ word) a count =
      last_step P a b word (from_lasted P word b) (P a) count ∙ ap (λ c. meets (count + c)) (count-cons P a (all_but_last (b ∷ word)))

none_capped : (n : ℕ) → 0 ≡ capped n 0
none_capped n = omega arith

one_capped : (n : ℕ) (b : Bool) → cond b 1 0 ≡ capped n (cond b 1 0)
one_capped n true = omega arith
one_capped n false = omega arith

pub slen_accepts : SlenMachineAccepts
slen_accepts slots n meets settles [] h = absurd (omega arith)
slen_accepts slots n meets settles (letter ∷ letters) h =
    ap (λ c. accepts_from (slen_machine slots n meets).automaton (Some c) letters) (none_capped n)
    ∙ from_length n meets settles letters 0
    ∙ ap meets (omega arith ∙ sym (length-all_but_last letter letters))

pub scount_accepts : ScountMachineAccepts
scount_accepts slots P n meets settles [] h = absurd (omega arith)
scount_accepts slots P n meets settles (letter ∷ letters) h =
    ap (λ c. accepts_from (scount_machine slots P n meets).automaton (Some c) letters) (one_capped n (P letter))
    ∙ from_count n meets settles P letters (cond (P letter) 1 0)
    ∙ ap meets (count-cons P letter letters)

pub sdur_accepts : SdurMachineAccepts
sdur_accepts slots P n meets settles [] h = absurd (omega arith)
sdur_accepts slots P n meets settles (letter ∷ letters) h =
    ap (λ c. accepts_from (sdur_machine slots P n meets).automaton (Lasted c (P letter)) letters) (none_capped n)
    ∙ from_lasted n meets settles P letters letter 0
    ∙ ap meets (omega arith)

-- ---- the five comparisons

pub equal_settles : EqualSettles
equal_settles n number above = grind (arith, nat_tests)

pub less_settles : LessSettles
less_settles n number above = grind (arith, nat_tests)

pub at_most_settles : AtMostSettles
at_most_settles n number above = grind (arith, nat_tests)

pub greater_settles : GreaterSettles
greater_settles n number above = grind (arith, nat_tests)

pub at_least_settles : AtLeastSettles
at_least_settles n number above = grind (arith, nat_tests)
