-- Answers are of sets alone, and a pair of sets has one.
use Rattle.std.proofs.Common.{◌≡◌, ℕ, Bool, List, sym, subst, ◌∙◌}
use Rattle.std.specs.Prelude.{◌↔◌}
use Rattle.std.specs.Cmp.{IsTotalOrder}
use Rattle.std.specs.declared.cmp.Ordering.TheVariants.{Equal}
use Rattle.dcv_word.specs.Behaviour.{IsBehaviour}
use Rattle.dcv_word.specs.Word.{shortlex_order}
use Rattle.dcv_language.specs.Language.{Language, HaveSameBehaviours, outside}
use Rattle.dcv_language.specs.Laws.{OneCanonicalTable}
use Rattle.dcv_language.specs.Table.{Table}
use Rattle.dcv_language.proofs.Canonicals.{canonical_for_same_behaviours}
use Rattle.dcv_language.proofs.Sameness.{outside_same, intersection_same}
use Rattle.dcv_dfa.specs.Raw.{RawValue, raw_accepts}
use Rattle.dcv_dfa.specs.Auto.{IsAuto}
use Rattle.dcv_explore.specs.declared.explorer.Limits.{Limits}
use Rattle.dcv_explore.specs.Budget.{Kind, IsWithin}
use Rattle.dcv_explore.proofs.Budgets.{within_excludes_exceeding}
use Rattle.dcv_build.specs.Budget.{IsAutomatonOf}
use Rattle.dcv_implies.specs.Comparison.{difference, AreTablesOf, product, IsProductWithin, IsProductOver, TooMany, Least, IsAnswer}
use Rattle.dcv_implies.specs.Laws.{AnswerOfSameBehaviours, AnswerOfAutomata, OneAnswer}
use Rattle.dcv_implies.proofs.Least.{least_same, one_least_of}

-- ---- sets with the same behaviours

module _ (k : ℕ) (L M L' M' : Language) (one : HaveSameBehaviours k L L') (two : HaveSameBehaviours k M M') where
  tables_same : (first second : Table) → AreTablesOf k L M first second → AreTablesOf k L' M' first second
  tables_same first second are = record {
    first_access = are.first_access;
    first_is = canonical_for_same_behaviours k L L' first are.first_access one are.first_is;
    second_access = are.second_access;
    second_is = canonical_for_same_behaviours k (outside M) (outside M') second are.second_access (outside_same k M M' two) are.second_is;
  }

  difference_same : HaveSameBehaviours k (difference L M) (difference L' M')
  difference_same = intersection_same k L L' (outside M) (outside M') one (outside_same k M M' two)

pub answer_of_same_behaviours : AnswerOfSameBehaviours
answer_of_same_behaviours limits k L M L' M' (TooMany kind) one two is = record {
  first = is.first;
  second = is.second;
  tables = tables_same k L M L' M' one two is.first is.second is.tables;
  exceeds = is.exceeds;
}
answer_of_same_behaviours limits k L M L' M' (Least word) one two (within, least) = (
  record {
    first = within.first;
    second = within.second;
    tables = tables_same k L M L' M' one two within.first within.second within.tables;
    within = within.within;
  },
  least_same k (difference L M) (difference L' M') (difference_same k L M L' M' one two) word least,
)

-- ---- automata

-- a canonical automaton of a set accepts its behaviours
accepts_its_set : (k : ℕ) (L : Language) (auto : RawValue) → IsAuto auto → IsAutomatonOf k L auto → HaveSameBehaviours auto.arena.slots (raw_accepts auto) L
accepts_its_set k L auto is of_set word b =
    sym (is.canonical.exact word b) ∙ of_set.canonical.exact word (subst (λ width. IsBehaviour width word) of_set.slots b)

pub answer_of_automata : AnswerOfAutomata
answer_of_automata limits k L M first second answer first_is second_is first_of second_of is =
    let width = first_of.slots in
    let same = second_of.slots ∙ sym first_of.slots in
    let one = accepts_its_set k L first first_is first_of in
    let two = subst (λ slots. HaveSameBehaviours slots (raw_accepts second) M) same (accepts_its_set k M second second_is second_of) in
    subst (λ slots. IsAnswer limits slots L M answer) width
    (answer_of_same_behaviours limits first.arena.slots (raw_accepts first) (raw_accepts second) L M answer one two is)

-- ---- one answer

module _ (one_canonical : OneCanonicalTable) (limits : Limits) (k : ℕ) (L M : Language) where
  within_is_not_over : (kind : Kind) → IsProductWithin limits k L M → IsProductOver limits k L M kind → ⊥
  within_is_not_over kind within over =
      let one = (one_canonical k L within.first over.first within.tables.first_access over.tables.first_access within.tables.first_is over.tables.first_is).0 in
      let two = (one_canonical k (outside M) within.second over.second within.tables.second_access over.tables.second_access within.tables.second_is over.tables.second_is).0 in
      within_excludes_exceeding (product k over.first over.second) limits kind
      (subst (λ (tables : Table × Table). IsWithin (product k tables.0 tables.1) limits) (λ i. (one i, two i)) within.within) over.exceeds

module _ (one_canonical : OneCanonicalTable) (total : IsTotalOrder shortlex_order) (same : (u v : List (List Bool)) → (shortlex_order u v ≡ Equal) ↔ (u ≡ v)) where
  pub one_answer : OneAnswer
  one_answer limits k L M (TooMany kind) (TooMany other) over there = tt
  one_answer limits k L M (TooMany kind) (Least word) over there = absurd (within_is_not_over one_canonical limits k L M kind there.0 over)
  one_answer limits k L M (Least word) (TooMany kind) here over = absurd (within_is_not_over one_canonical limits k L M kind here.0 over)
  one_answer limits k L M (Least word) (Least other) here there = one_least_of total same k (difference L M) word other here.1 there.1
