-- Numbers that agree on the names that are known agree on what is read, and so on the store after a step and on what the step returns.
--     Agree known now then      each known name has the same number
use Rattle.std.proofs.Common.{◌≡◌, ℕ, Bool, true, false, not, cond, ◌||◌, nat_eq, List, [], ◌∷◌, ◌++◌, ◌⊎◌, map, fold, inl, inr, refl, sym, ap, subst, ◌∙◌}
use Rattle.std.specs.Prelude.{bytes_eq, slice_index_or}
use Rattle.std.specs.List.{list_any, position_or_len}
use Rattle.std.proofs.lemmas.Bool.{cases_Bool, or_cases, or_from, and_parts, both_ways, not-true}
use Rattle.dcv_observer.specs.Naming.{is_among}
use Rattle.dcv_observer.proofs.Naming.{Name, differs, among_here, among_later, among_append_left, among_append_right, among_append_cases}
use Rattle.dcv_c.specs.Tree.{Item, Constant, Named, Condition, Holds, Equals, Test, Right, Plain, Chosen, Statement, Assign, When}
use Rattle.dcv_c.specs.Tree.{Returned, Fixed, Read, Tested, CUnit}
use Rattle.dcv_c.specs.Meaning.{Numbers, item_number, holds, right_number, assigned, executed, passes, returned_number}
use Rattle.dcv_c.specs.Meaning.{truth_number, numbers_before}
use Rattle.dcv_c.specs.Rules.{keeps_item, keeps_condition, keeps_right, keeps_left, keeps_statement, keeps_statements, known_after, keeps_returned}
use Rattle.dcv_c.specs.Rules.{keeps_new, keeps_apart, before_step, before_parameters, before_locals}
use Rattle.dcv_c.specs.Laws.{NoLeftOverIsRead}
use Rattle.dcv_c.proofs.KeptRules.{all_kept, kept_parts, kept_rules}

-- ---- what is read

abbrev pub Agree : List Name → Numbers → Numbers → Type 0
Agree known now then = (name : Name) → is_among known name ≡ true → now name ≡ then name

module _ (known : List Name) (now then : Numbers) (agree : Agree known now then) where
  same_item : (item : Item) → keeps_item known item ≡ true → item_number now item ≡ item_number then item
  same_item (Constant number) kept = refl
  same_item (Named name) kept = agree name kept

  same_condition : (condition : Condition) → keeps_condition known condition ≡ true → holds now condition ≡ holds then condition
  same_condition (Holds name) kept = ap (λ number. not (nat_eq number 0)) (agree name kept)
  same_condition (Equals name number) kept = ap (λ n. nat_eq n number) (agree name kept)

  same_right : (right : Right) → all_kept (keeps_right known right) ≡ true → right_number now right ≡ right_number then right
  same_right (Plain item) kept = same_item item (and_parts (keeps_item known item) _ kept).0
  same_right (Chosen condition item otherwise) kept =
      let first = and_parts (keeps_condition known condition) _ kept in
      let second = and_parts (keeps_item known item) _ first.1 in
      let third = and_parts (keeps_item known otherwise) _ second.1 in
      let a = same_condition condition first.0 in
      let b = same_item item second.0 in
      let c = same_item otherwise third.0 in
      λ i. cond (a i) (b i) (c i)

  same_tests : (tests : List Test) → all_kept (map (λ (test : Test). is_among known test.name) tests) ≡ true
      → list_any (passes now) tests ≡ list_any (passes then) tests
  same_tests [] kept = refl
  same_tests (test ∷ tests) kept =
      let parts = and_parts (is_among known test.name) _ kept in
      let first = ap (λ n. nat_eq n test.number) (agree test.name parts.0) in
      let rest = same_tests tests parts.1 in
      λ i. first i || rest i

  pub same_returned : (returned : Returned) → all_kept (keeps_returned known returned) ≡ true → returned_number now returned ≡ returned_number then returned
  same_returned (Fixed number) kept = refl
  same_returned (Read name) kept = agree name (and_parts (is_among known name) _ kept).0
  same_returned (Tested tests) kept = ap (λ (b : Bool). cond b 1 0) (same_tests tests kept)

  -- ---- what is assigned

  same_assigned : (left : Name) (number other : ℕ) → number ≡ other → Agree known (assigned now left number) (assigned then left other)
  same_assigned left number other same name among = let e = agree name among in λ i. cond (bytes_eq name left) (same i) (e i)

  known_assigned : (left : Name) (number other : ℕ) → number ≡ other → Agree (left ∷ known) (assigned now left number) (assigned then left other)
  known_assigned left number other same name among =
      elim (cases_Bool (bytes_eq name left)) [
        | inl here ↦
            ap (λ b. cond b number (now name)) here ∙ same ∙ sym (ap (λ b. cond b other (then name)) here)
        | inr differ ↦
            ap (λ b. cond b number (now name)) differ ∙ agree name (later differ (or_cases (bytes_eq name left) (is_among known name) among))
            ∙ sym (ap (λ b. cond b other (then name)) differ)
      ]
    where
      later : bytes_eq name left ≡ false → (bytes_eq name left ≡ true) ⊎ (is_among known name ≡ true) → is_among known name ≡ true
      later differ (inl here) = absurd (both_ways (bytes_eq name left) differ here)
      later differ (inr known) = known

  same_when : (condition : Condition) (left : Name) (item : Item) → keeps_condition known condition ≡ true → keeps_item known item ≡ true
      → Agree known (executed now (When condition left item)) (executed then (When condition left item))
  same_when condition left item condition_kept item_kept name among =
      let test = same_condition condition condition_kept in
      let e = same_assigned left (item_number now item) (item_number then item) (same_item item item_kept) name among in
      let f = agree name among in
      pick (holds now condition) (assigned now left (item_number now item)) now name
      ∙ (λ i. cond (test i) (e i) (f i))
      ∙ sym (pick (holds then condition) (assigned then left (item_number then item)) then name)
    where
      pick : (b : Bool) (f g : Numbers) (name : Name) → cond b f g name ≡ cond b (f name) (g name)
      pick true f g name = refl
      pick false f g name = refl

-- a statement that keeps the rules
same_statement : (unit : CUnit) (known : List Name) (statement : Statement) → all_kept (keeps_statement unit known statement) ≡ true → (now then : Numbers)
    → Agree known now then → Agree (known_after known statement) (executed now statement) (executed then statement)
same_statement unit known (Assign left right) kept now then agree =
    let rest = and_parts (keeps_left unit left) _ kept in
    known_assigned known now then agree left (right_number now right) (right_number then right) (same_right known now then agree right rest.1)
same_statement unit known (When condition left item) kept now then agree =
    let first = and_parts (keeps_condition known condition) _ kept in
    let second = and_parts (keeps_left unit left) _ first.1 in
    let third = and_parts (keeps_item known item) _ second.1 in
    same_when known now then agree condition left item first.0 third.0

-- ---- a step

abbrev Includes : List Name → List Name → Type 0
Includes names known = (name : Name) → is_among names name ≡ true → is_among known name ≡ true

still_known : (names known : List Name) (statement : Statement) → Includes names known → Includes names (known_after known statement)
still_known names known (Assign left right) all name among = among_later left known name (all name among)
still_known names known (When condition left item) all name among = all name among

maps_agree : (f g : Name → ℕ) (names : List Name) → ((name : Name) → is_among names name ≡ true → f name ≡ g name) → map f names ≡ map g names
maps_agree f g [] same = refl
maps_agree f g (n ∷ names) same =
    let head : f n ≡ g n = same n (among_here names n) in
    let tail = maps_agree f g names (λ name h. same name (among_later n names name h)) in
    λ i. head i ∷ tail i

module _ (unit : CUnit) where
  record SameEnd (now then : Numbers) : Type 0 where
    store : map now unit.statics ≡ map then unit.statics
    returned : returned_number now unit.returned ≡ returned_number then unit.returned

  same_end : (statements : List Statement) (known : List Name) → all_kept (keeps_statements unit known statements) ≡ true → Includes unit.statics known
      → (now then : Numbers) → Agree known now then → SameEnd (fold executed now statements) (fold executed then statements)
  same_end [] known kept all now then agree =
      record {
        store = maps_agree now then unit.statics (λ name among. agree name (all name among));
        returned = same_returned known now then agree unit.returned kept;
      }
  same_end (statement ∷ statements) known kept all now then agree =
      let parts = kept_parts (keeps_statement unit known statement) _ kept in
      same_end statements (known_after known statement) parts.1 (still_known unit.statics known statement all)
      (executed now statement) (executed then statement) (same_statement unit known statement parts.0 now then agree)

-- names that stand apart from earlier ones are none of them
pub apart_from : (earlier names : List Name) → all_kept (keeps_apart earlier names) ≡ true → (name : Name) → is_among earlier name ≡ true → is_among names name ≡ false
apart_from earlier [] kept name among = refl
apart_from earlier (n ∷ names) kept name among =
    let parts = and_parts (keeps_new earlier n) _ kept in
    or_from (bytes_eq name n) (is_among names name)
    (differs name n (λ same. both_ways (is_among earlier n) (not-true _ parts.0) (subst (λ m. is_among earlier m ≡ true) same among)))
    (apart_from (earlier ++ n ∷ []) names parts.1 name (among_append_left earlier (n ∷ []) name among))

pub no_left_over_is_read : NoLeftOverIsRead
no_left_over_is_read unit well left_over other store letter =
    let are = kept_rules unit well in
    let first = unit.statics ++ unit.parameters in
    let begins : Agree first (numbers_before unit left_over store letter) (numbers_before unit other store letter) =
    (λ name among.
    let number = slice_index_or (store ++ map truth_number letter) (position_or_len (bytes_eq name) first) 0 in
    let no_local = apart_from (before_locals unit) unit.locals are.locals name (earlier name among) in
    ap (λ b. cond b (left_over name) number) no_local ∙ sym (ap (λ b. cond b (other name) number) no_local)) in
    let end = same_end unit unit.statements first are.statements (λ name among. among_append_left unit.statics unit.parameters name among)
    (numbers_before unit left_over store letter) (numbers_before unit other store letter) begins in
    λ i. record { store = end.store i; returned = end.returned i }
  where
    earlier : (name : Name) → is_among (unit.statics ++ unit.parameters) name ≡ true → is_among (before_locals unit) name ≡ true
    earlier name among =
        elim (among_append_cases unit.statics unit.parameters name among) [
          | inl static ↦
              among_append_left (before_parameters unit) unit.parameters name
              (among_append_left (before_step unit) (unit.step ∷ []) name (among_append_left unit.statics (unit.reset ∷ []) name static))
          | inr parameter ↦ among_append_right (before_parameters unit) unit.parameters name parameter
        ]
