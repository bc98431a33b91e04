-- Numbers that move to another shelf, and a number that comes to wait.
use Rattle.std.proofs.Common.{◌≡◌, ℕ, zero, suc, ◌+◌, ◌<◌, ◌≤◌, List, [], ◌∷◌, ◌++◌, length, take, get_or, Some, slice_get, Result, Ok, IfOk, refl, sym, ap, subst, ◌∙◌, arith}
use Rattle.std.proofs.lemmas.List.{map-append, take_more}
use Rattle.std.proofs.lemmas.List.Elements.{All-push}
use Rattle.std.specs.Option.{option_map}
use Rattle.std.proofs.lemmas.Option.{slice_get_within, slice_get-map, same_Some}
use Rattle.dcv_language.specs.declared.count.Count.{Count}
use Rattle.dcv_core.specs.Core.{CoreTree}
use Rattle.dcv_core.specs.Steps.{PlainStep, CoreStep, PlainCore, without_core, steps_of}
use Rattle.dcv_syntax.specs.declared.names.Span.{Span}
use Rattle.dcv_explore.specs.declared.explorer.Limits.{Limits}
use Rattle.dcv_shelf.specs.Shelf.{ShelfTable, KeepsNumbers}
use Rattle.dcv_build.specs.Asked.{at_number, tables_at, AreThere}
use Rattle.dcv_build.specs.Building.{HasBuilt, GoesWith, Goes, ForTree, IsBuilding, IsNoted}
use Rattle.dcv_build.specs.declared.faults.BuildFault.{BuildFault}
use Rattle.dcv_build.specs.declared.building.Building.{Building}
use Rattle.dcv_build.specs.Given.{IsCoreOf}
use Rattle.dcv_build.specs.declared.asked.Answer.{Answer}
use Rattle.dcv_build.proofs.ShelfTables.{at_of, are_kept, tables_kept}

pub push_there : (shelf : List ShelfTable) (numbers : List ℕ) (number : ℕ) → AreThere shelf numbers → number < length shelf → AreThere shelf (numbers ++ number ∷ [])
push_there shelf numbers number all within = All-push (λ n. n < length shelf) numbers number all within

pub push_tables : (shelf : List ShelfTable) (numbers : List ℕ) (number : ℕ) → tables_at shelf (numbers ++ number ∷ []) ≡ tables_at shelf numbers ++ at_number shelf number ∷ []
push_tables shelf numbers number = map-append (at_number shelf) numbers (number ∷ [])

-- one number more has moved
module _ (shelf before after : List ShelfTable) (kept : KeepsNumbers before after) (waiting numbers : List ℕ) (index d new : ℕ) (one : ShelfTable)
    (all : AreThere before numbers) (same : tables_at before numbers ≡ tables_at shelf (take index waiting))
    (within : index < length waiting) (here : slice_get shelf (get_or waiting index d) ≡ Some one) (there : slice_get after new ≡ Some one) where
  pub moved_there : AreThere after (numbers ++ new ∷ [])
  moved_there = push_there after numbers new (are_kept before after kept numbers all) (slice_get_within after new one there)

  pub moved_tables : tables_at after (numbers ++ new ∷ []) ≡ tables_at shelf (take (index + 1) waiting)
  moved_tables =
      push_tables after numbers new
      ∙ (λ i. (tables_kept before after kept numbers all ∙ same) i ++ (at_of after new one there ∙ sym (at_of shelf (get_or waiting index d) one here)) i ∷ [])
      ∙ sym (push_tables shelf (take index waiting) (get_or waiting index d))
      ∙ ap (tables_at shelf) (sym (take_more waiting index d within))

-- ---- the count of a step is noted, and what answers it comes to wait

module _ (core : PlainCore) (step : ℕ) (span : Span) (here : option_map (λ (s : CoreStep). s.span) (slice_get core.steps step) ≡ Some span) where
  -- the span is that of each tree's step
  span_is : (tree : CoreTree) → IsCoreOf tree core → (own : PlainStep) → slice_get (steps_of core.declared tree) step ≡ Some own → span ≡ own.span
  span_is tree is own at =
      same_Some span own.span
      (sym here ∙ ap (λ (listed : List CoreStep). option_map (λ (s : CoreStep). s.span) (slice_get listed step)) is
      ∙ ap (option_map (λ (s : CoreStep). s.span)) (slice_get-map without_core (steps_of core.declared tree) step ∙ ap (option_map without_core) at))

  pub noted : (states nodes : ℕ) (old new : List Count) (count : Count) → count.at ≡ span.start → count.states ≡ states → count.nodes ≡ nodes → new ≡ old ++ count ∷ []
      → IsNoted core step states nodes old new
  noted states nodes old new count place states_are nodes_are added = record {
    count = count;
    added = added;
    is = λ tree is. record {
      place = λ own at. place ∙ ap (λ (s : Span). s.start) (span_is tree is own at);
      states_are = states_are;
      nodes_are = nodes_are;
    };
  }

pub is_pushed : (core : PlainCore) (step : ℕ) (limits : Limits) (shelf : List ShelfTable) (waiting new_waiting : List ℕ) (counts new_counts : List Count) (answer : Answer)
    → new_waiting ≡ waiting ++ answer.number ∷ [] → IsNoted core step answer.states answer.nodes counts new_counts
    → ForTree core (λ steps. GoesWith steps limits step (tables_at shelf waiting) counts shelf answer)
    → ForTree core (λ steps. HasBuilt steps limits (step + 1) (tables_at shelf new_waiting) new_counts)
is_pushed core step limits shelf waiting new_waiting counts new_counts answer waits is_noted goes tree is =
    let steps = steps_of core.declared tree in
    subst (λ (w : List ShelfTable). HasBuilt steps limits (step + 1) w new_counts) (sym (ap (tables_at shelf) waits ∙ push_tables shelf waiting answer.number))
    (subst (HasBuilt steps limits (step + 1) (tables_at shelf waiting ++ at_number shelf answer.number ∷ [])) (sym is_noted.added)
    (goes tree is is_noted.count (is_noted.is tree is)))

pub all_taken : (numbers : List ℕ) (index : ℕ) → length numbers ≤ index → take index numbers ≡ numbers
all_taken [] zero few = refl
all_taken [] (suc index) few = refl
all_taken (number ∷ numbers) zero few = absurd (omega (arith, few))
all_taken (number ∷ numbers) (suc index) few = ap (λ rest. number ∷ rest) (all_taken numbers index (omega (arith, few)))

-- ---- what waits on another shelf is the same

pub still_building : (core : PlainCore) (n : ℕ) (old new : Building) → IsBuilding core n old → new.known.limits ≡ old.known.limits → new.counts ≡ old.counts
    → AreThere new.known.tables new.waiting.items → tables_at new.known.tables new.waiting.items ≡ tables_at old.known.tables old.waiting.items → IsBuilding core n new
still_building core n old new is limits counts there tables = record {
  there = there;
  built = λ tree of_core.
      let steps = steps_of core.declared tree in
      subst (λ (l : Limits). HasBuilt steps l n (tables_at new.known.tables new.waiting.items) new.counts.items) (sym limits)
      (subst (λ (w : List ShelfTable). HasBuilt steps old.known.limits n w new.counts.items) (sym tables)
      (subst (HasBuilt steps old.known.limits n (tables_at old.known.tables old.waiting.items)) (λ i. (sym counts i).items) (is.built tree of_core)));
}

-- ---- a step that was answered

pub pushes : (core : PlainCore) (n : ℕ) (old new : Building) (result : Result Answer BuildFault) (answer : Answer) → result ≡ Ok answer → new.known.limits ≡ old.known.limits
    → new.counts ≡ old.counts
    → ForTree core (λ steps. Goes steps old.known.limits n (tables_at new.known.tables new.waiting.items) old.counts.items new.known.tables result)
    → ForTree core (λ steps. GoesWith steps new.known.limits n (tables_at new.known.tables new.waiting.items) new.counts.items new.known.tables answer)
pushes core n old new result answer is limits counts goes tree of_core =
    let steps = steps_of core.declared tree in
    let waiting = tables_at new.known.tables new.waiting.items in
    subst (λ (l : Limits). GoesWith steps l n waiting new.counts.items new.known.tables answer) (sym limits)
    (subst (λ (listed : List Count). GoesWith steps old.known.limits n waiting listed new.known.tables answer) (λ i. (sym counts i).items)
    (subst (λ (r : Result Answer BuildFault). IfOk r (GoesWith steps old.known.limits n waiting old.counts.items new.known.tables)) is (goes tree of_core).built))
