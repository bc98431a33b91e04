-- A text has one syntax fault at most, and none where it has the form.
use Rattle.std.proofs.Common.{◌≡◌, inl, inr, refl, ℕ, ◌+◌, ◌<◌, ◌≤◌, Bool, zero, suc, true, false, List, [], ◌∷◌, take, drop, ◌++◌, sym, ap, ◌∙◌, subst, arith, append_assoc}
use Rattle.std.specs.Prelude.{nat_lt}
use Rattle.std.proofs.lemmas.Bool.Decides.{nat_tests}
use Rattle.std.proofs.lemmas.List.{take-append-drop}
use Rattle.dcv_automaton_text.specs.Form.{HasForm, IsViable, IsSyntaxFault}
use Rattle.dcv_automaton_lines.specs.Laws.{NoFaultOfForm, OneSyntaxFault}

-- a front of a viable text is viable
front_is_viable : (text : List ℕ) (n : ℕ) → IsViable text → IsViable (take n text)
front_is_viable text n is = record {
  more = drop n text ++ is.more;
  file = is.file;
  form =
      subst (λ whole. HasForm whole is.file)
      (ap (λ whole. whole ++ is.more) (sym (take-append-drop n text)) ∙ append_assoc (take n text) (drop n text) is.more) is.form;
}

take_take : (text : List ℕ) (n m : ℕ) → n ≤ m → take n (take m text) ≡ take n text
take_take text zero m few = refl
take_take text (suc n) zero few = absurd (omega (arith, few))
take_take [] (suc n) (suc m) few = refl
take_take (byte ∷ text) (suc n) (suc m) few = ap (λ bytes. byte ∷ bytes) (take_take text n m (omega (arith, few)))

-- a later fault leaves no fault before it
earlier_is_viable : (text : List ℕ) (at later : ℕ) → at < later → IsSyntaxFault text later → IsViable (take (at + 1) text)
earlier_is_viable text at later before fault =
    subst IsViable (take_take text (at + 1) later (omega arith)) (front_is_viable (take later text) (at + 1) fault.viable)

no_earlier_fault : (text : List ℕ) (at later : ℕ) → at < later → IsSyntaxFault text at → IsSyntaxFault text later → ⊥
no_earlier_fault text at later before fault other =
    elim fault.fault [
      | inl (within, stuck) ↦ stuck (earlier_is_viable text at later before other)
      | inr (end, none) ↦ elim other.fault [
        | inl (within, stuck) ↦ absurd (omega (arith, before, end, within))
        | inr (there, none') ↦ absurd (omega (arith, before, end, there))
      ]
    ]

pub one_place : OneSyntaxFault
one_place text at other fault fault' = by (nat_lt at other) refl (nat_lt other at) refl
  where
    by : (before : Bool) → nat_lt at other ≡ before → (behind : Bool) → nat_lt other at ≡ behind → at ≡ other
    by true is behind e = absurd (no_earlier_fault text at other (grind (arith, nat_tests)) fault fault')
    by false is true e = absurd (no_earlier_fault text other at (grind (arith, nat_tests)) fault' fault)
    by false is false e = grind (arith, nat_tests)

pub no_fault_of_form : NoFaultOfForm
no_fault_of_form text file at form fault =
    elim fault.fault [
      | inl (within, stuck) ↦ stuck (record { more = drop (at + 1) text; file = file; form = subst (λ whole. HasForm whole file) (sym (take-append-drop (at + 1) text)) form })
      | inr (end, none) ↦ none file form
    ]
