-- A text spells one unit. It has one fault at most, and none where it is read.
use Rattle.std.proofs.Common.{◌≡◌, ℕ, ◌<◌, Bool, true, false, List, [], ◌∷◌, ◌++◌, length, Some, None, refl, sym, ap, subst, ◌∙◌, arith, append_assoc}
use Rattle.std.specs.Prelude.{nat_lt}
use Rattle.std.proofs.lemmas.Bool.Decides.{nat_tests}
use Rattle.std.proofs.lemmas.List.{length-append}
use Rattle.dcv_observer.specs.declared.fault.ObsFault.TheVariants.{Syntax, Names, Memory}
use Rattle.dcv_observer.specs.Subsets.{first_broken}
use Rattle.dcv_automaton_lines.specs.Pieces.{IsFrontOnly, IsFaultAt}
use Rattle.dcv_automaton_lines.proofs.Pieces.{append_none}
use Rattle.dcv_c_tables.specs.Unit.{Tables}
use Rattle.dcv_tables_read.specs.Form.{HasForm, Form, IsSyntaxFault}
use Rattle.dcv_tables_read.specs.Reading.{IsNamesFault, words_of, judged}
use Rattle.dcv_tables_read.specs.Laws.{SpellsOne, OneFault, NoFaultWhereRead}
use Rattle.dcv_tables_read.proofs.WholeTexts.{unique_tables}
use Rattle.dcv_tables_read.proofs.JudgedWords.{kept_is_unbroken}

pub spells_one : SpellsOne
spells_one text tables other form also =
    unique_tables tables other [] [] form.plain also.plain (ap (λ t. t ++ []) (sym form.spelled ∙ also.spelled))

-- ---- syntax

-- a shorter front of a text, and the byte with which the longer one goes on
record IsLonger (front longer left : List ℕ) : Type 0 where
  next : ℕ
  rest : List ℕ
  more : List ℕ
  left_is : left ≡ next ∷ rest
  longer_is : longer ≡ front ++ next ∷ more

goes_on : (front longer left others : List ℕ) → front ++ left ≡ longer ++ others → length front < length longer → IsLonger front longer left
goes_on [] [] left others same before = absurd (omega (arith, before))
goes_on [] (b ∷ longer) left others same before = record { next = b; rest = longer ++ others; more = longer; left_is = same; longer_is = refl }
goes_on (a ∷ front) [] left others same before = absurd (omega (arith, before))
goes_on (a ∷ front) (b ∷ longer) left others same before =
    let first : b ≡ a = cc in
    let rest : front ++ left ≡ longer ++ others = cc in
    let is = goes_on front longer left others rest (omega (arith, before)) in
    record { next = is.next; rest = is.rest; more = is.more; left_is = is.left_is; longer_is = λ i. first i ∷ is.longer_is i }

module _ (P : List ℕ → Type 0) (text : List ℕ) where
  never_later : (left others : List ℕ) (fault : IsFaultAt P text left) (later : IsFaultAt P text others) → length fault.front < length later.front → ⊥
  never_later left others fault later before =
      let is = goes_on fault.front later.front left others (sym fault.cut ∙ later.cut) before in
      let viable : P (fault.front ++ is.next ∷ (is.more ++ later.viable.more)) =
      subst P (ap (λ t. t ++ later.viable.more) is.longer_is ∙ append_assoc fault.front (is.next ∷ is.more) later.viable.more) later.viable.member in
      subst (λ left. IsFrontOnly P fault.front left) is.left_is fault.fault (is.more ++ later.viable.more) viable

  never_whole : (left : List ℕ) → P text → IsFaultAt P text left → ⊥
  never_whole [] is fault = fault.fault (subst P (fault.cut ∙ append_none fault.front) is)
  never_whole (b ∷ left) is fault = fault.fault left (subst P fault.cut is)

  one_place : (left others : List ℕ) (fault : IsFaultAt P text left) (other : IsFaultAt P text others) → length left ≡ length others
  one_place left others fault other = by (nat_lt (length fault.front) (length other.front)) refl (nat_lt (length other.front) (length fault.front)) refl
    where
      by : (before : Bool) → nat_lt (length fault.front) (length other.front) ≡ before → (after : Bool) → nat_lt (length other.front) (length fault.front) ≡ after → length left ≡ length others
      by true is after e = absurd (never_later left others fault other (grind (arith, nat_tests, is)))
      by false is true e = absurd (never_later others left other fault (grind (arith, nat_tests, e)))
      by false is false e =
          let same : length fault.front ≡ length other.front = grind (arith, nat_tests, is, e) in
          omega (arith, same, ap length fault.cut, ap length other.cut, length-append fault.front left, length-append other.front others)

one_syntax : (text : List ℕ) (at other : ℕ) → IsSyntaxFault text at → IsSyntaxFault text other → at ≡ other
one_syntax text at other is its =
    let same = one_place Form text is.left its.left is.fault its.fault in
    omega (arith, is.cut, its.cut, same)

no_syntax : (text : List ℕ) (tables : Tables) (at : ℕ) → HasForm text tables → IsSyntaxFault text at → ⊥
no_syntax text tables at form fault = never_whole Form text fault.left (tables, form) fault.fault

-- ---- either

one_broken : (text : List ℕ) (f g : Tables) (at other : ℕ) → HasForm text f → HasForm text g → IsNamesFault f at → IsNamesFault g other → at ≡ other
one_broken text f g at other form form' fault fault' =
    let same = spells_one text f g form form' in
    let there : Some at ≡ Some other = sym fault ∙ ap (λ tables. first_broken (words_of tables) (judged tables)) same ∙ fault' in
    cc

pub no_fault_where_read : NoFaultWhereRead
no_fault_where_read text tables (Syntax at) is fault = no_syntax text tables at is.form fault
no_fault_where_read text tables (Names at) is fault =
    let same = spells_one text tables fault.0 is.form fault.1 in
    let wrong : None ≡ Some at = sym (kept_is_unbroken (words_of tables) (judged tables) is.keeps) ∙ ap (λ tables. first_broken (words_of tables) (judged tables)) same ∙ fault.2 in
    absurd cc
no_fault_where_read text tables Memory is fault = fault

pub one_fault : OneFault
one_fault text (Syntax at) (Syntax other) is its = ap (λ at. Syntax at) (one_syntax text at other is its)
one_fault text (Syntax at) (Names other) is its = absurd (no_syntax text its.0 at its.1 is)
one_fault text (Syntax at) Memory is its = absurd its
one_fault text (Names at) (Syntax other) is its = absurd (no_syntax text is.0 other is.1 its)
one_fault text (Names at) (Names other) is its = ap (λ at. Names at) (one_broken text is.0 its.0 at other is.1 its.1 is.2 its.2)
one_fault text (Names at) Memory is its = absurd its
one_fault text Memory other is its = absurd is
