-- Some step of a core is the first that is over the limits, or all are within.
--     some_budget          one of the two is so
--     counts_within        where all are within, there are their counts
--     table_of_core        and the core's words have a canonical table
use Rattle.std.proofs.Common.{◌≡◌, ◌⊎◌, inl, inr, ℕ, zero, suc, ◌+◌, ◌<◌, ◌≤◌, List, [], ◌∷◌, ◌++◌, length, Some, slice_get, refl, sym, ap, ◌∙◌, subst, arith, length-append}
use Rattle.std.proofs.lemmas.Option.{slice_get_within, slice_get-get_or}
use Rattle.dcv_language.specs.declared.count.Count.{Count}
use Rattle.dcv_word.specs.Behaviour.{Word}
use Rattle.dcv_language.specs.Automaton.{accepts}
use Rattle.dcv_language.specs.Canonical.{IsCanonical}
use Rattle.dcv_language.specs.Table.{Table}
use Rattle.dcv_language.proofs.Canonicals.{canonical_for_same_behaviours}
use Rattle.dcv_language.proofs.Words.{WordLaws}
use Rattle.dcv_core.specs.Core.{CoreTree}
use Rattle.dcv_core.specs.Holds.{words_of}
use Rattle.dcv_core.specs.Steps.{PlainStep, steps_before, steps_of}
use Rattle.dcv_core.proofs.StepList.{some_same, steps_are_operations, last_step_is_core}
use Rattle.dcv_explore.specs.declared.explorer.Limits.{Limits}
use Rattle.dcv_explore.specs.Budget.{Kind, IsWithin}
use Rattle.dcv_explore.proofs.Places.{pushed_cases}
use Rattle.dcv_build.specs.Budget.{row_at, IsStepDone, IsDone, IsWithinBudget, IsOver}
use Rattle.dcv_build.specs.Counts.{IsCount, AreCounts}
use Rattle.dcv_build.specs.Laws.{MachineAcceptsStep, AreCanonicalBefore}
use Rattle.dcv_build.proofs.Progress.{row_slots}
use Rattle.dcv_build.proofs.SameRows.{table_at, row_over}
use Rattle.dcv_quotient.proofs.RowLimits.{within_or_exceeds, table_of_row}

-- ---- the rows of earlier steps stay as they are where a table comes to the others

table_kept : (tables more : List Table) (number : ℕ) → number < length tables → table_at tables number ≡ table_at (tables ++ more) number
table_kept [] more number within = absurd (omega arith)
table_kept (table ∷ tables) more zero within = refl
table_kept (table ∷ tables) more (suc number) within = table_kept tables more number (omega arith)

some_at : {X : Type 0} (xs : List X) (place : ℕ) → place < length xs → (x : X) × (slice_get xs place ≡ Some x)
some_at [] place within = absurd (omega arith)
some_at (x ∷ xs) zero within = (x, refl)
some_at (x ∷ xs) (suc place) within = some_at xs place (omega arith)

module _ (k : ℕ) (tree : CoreTree) (limits : Limits) where
  -- ---- one step more

  -- the first so many steps are done
  record FirstDone (n : ℕ) : Type 0 where
    tables : List Table
    done : IsDone (steps_of k tree) limits tables
    size : length tables ≡ n

  -- or one is over the limits
  record SomeOver : Type 0 where
    kind : Kind
    number : ℕ
    is : IsOver (steps_of k tree) limits kind number

  none_done : FirstDone 0
  none_done = record {
    tables = [];
    done = record { no_more = omega arith; each = λ number step table at there. absurd (let within = slice_get_within [] number table there in omega arith) };
    size = refl;
  }

  module _ (n : ℕ) (first : FirstDone n) (step : PlainStep) (there : slice_get (steps_of k tree) n ≡ Some step) where
    within_grown : (more : List Table) (number : ℕ) (other : PlainStep) → slice_get (steps_of k tree) number ≡ Some other → number ≤ n
        → IsWithin (row_at other first.tables) limits → IsWithin (row_at other (first.tables ++ more)) limits
    within_grown more number other at early here =
        let size = first.size in
        row_over (steps_of k tree) number other first.tables (first.tables ++ more)
        (λ earlier before. table_kept first.tables more earlier (omega arith))
        (λ row. IsWithin row limits) other.op (steps_are_operations k tree number other at) here

    done_with : (table : Table) (access : List Word) → IsCanonical step.slots (words_of step.core) table access → IsWithin (row_at step first.tables) limits
        → IsDone (steps_of k tree) limits (first.tables ++ table ∷ [])
    done_with table access canonical within =
        let size = first.size in
        record {
          no_more = let inside = slice_get_within (steps_of k tree) n step there in omega (arith, size, inside, length-append first.tables (table ∷ []));
          each = λ number other found at here. elim (pushed_cases first.tables table number found here) [
            | inl before ↦
                let old = first.done.each number other found at before in
                record {
                  access = old.access;
                  canonical = old.canonical;
                  within = within_grown (table ∷ []) number other at (omega (arith, size, slice_get_within first.tables number found before)) old.within;
                }
            | inr last ↦
                let same : step ≡ other = some_same step other (sym there ∙ ap (slice_get (steps_of k tree)) (sym (last.0 ∙ size)) ∙ at) in
                let own : IsStepDone limits (first.tables ++ table ∷ []) step table =
                record { access = access; canonical = canonical; within = within_grown (table ∷ []) n step there (omega arith) within } in
                subst (λ (one : PlainStep). IsStepDone limits (first.tables ++ table ∷ []) one found) same
                (subst (λ (one : Table). IsStepDone limits (first.tables ++ table ∷ []) step one) last.1 own)
          ];
        }

    canonical_before : AreCanonicalBefore (steps_of k tree) n first.tables
    canonical_before number other before at =
        let size = first.size in
        let found = first.done.each number other (table_at first.tables number) at (slice_get-get_or first.tables number [] (omega arith)) in
        (found.access, found.canonical)

    done_one_more : WordLaws → MachineAcceptsStep → IsWithin (row_at step first.tables) limits → FirstDone (suc n)
    done_one_more laws accept within =
        let row = row_at step first.tables in
        let found = table_of_row laws row limits within in
        let table = found.0 in
        let access = found.1.0 in
        let over_slots : IsCanonical step.slots (accepts row.machine.automaton) table access =
        subst (λ slots. IsCanonical slots (accepts row.machine.automaton) table access) (row_slots step.op step.slots first.tables) found.1.1 in
        let canonical = canonical_for_same_behaviours step.slots (accepts row.machine.automaton) (words_of step.core) table access
        (accept k tree n step first.tables there canonical_before) over_slots in
        let size = first.size in
        record {
          tables = first.tables ++ table ∷ [];
          done = done_with table access canonical within;
          size = omega (arith, size, length-append first.tables (table ∷ []));
        }

    next_or_over : WordLaws → MachineAcceptsStep → FirstDone (suc n) ⊎ SomeOver
    next_or_over laws accept = elim (within_or_exceeds (row_at step first.tables) limits) [
      | inl within ↦ inl (done_one_more laws accept within)
      | inr more ↦ inr (record {
        kind = more.0;
        number = n;
        is = record { tables = first.tables; done = first.done; before = first.size; step = step; is_there = there; exceeds = more.1 };
      })
    ]

  one_more : WordLaws → MachineAcceptsStep → (n : ℕ) → n < length (steps_of k tree) → FirstDone n ⊎ SomeOver → FirstDone (suc n) ⊎ SomeOver
  one_more laws accept n within (inr over) = inr over
  one_more laws accept n within (inl first) = let (step, there) = some_at (steps_of k tree) n within in next_or_over n first step there laws accept

  upto : WordLaws → MachineAcceptsStep → (n : ℕ) → n ≤ length (steps_of k tree) → FirstDone n ⊎ SomeOver
  upto laws accept zero fits = inl none_done
  upto laws accept (suc n) fits = one_more laws accept n (omega arith) (upto laws accept n (omega arith))

  pub some_budget : WordLaws → MachineAcceptsStep → IsWithinBudget (steps_of k tree) limits ⊎ ((kind : Kind) × ((number : ℕ) × IsOver (steps_of k tree) limits kind number))
  some_budget laws accept = elim (upto laws accept (length (steps_of k tree)) (omega arith)) [
    | inl all ↦ inl (record { tables = all.tables; done = all.done; all = all.size })
    | inr over ↦ inr (over.kind, (over.number, over.is))
  ]

  -- ---- where all are within

  module _ (within : IsWithinBudget (steps_of k tree) limits) where
    record FirstCounts (n : ℕ) : Type 0 where
      counts : List Count
      size : length counts ≡ n
      each : (number : ℕ) (step : PlainStep) (count : Count) → slice_get (steps_of k tree) number ≡ Some step → slice_get counts number ≡ Some count → IsCount within.tables step count

    count_of : (step : PlainStep) → IsWithin (row_at step within.tables) limits → (count : Count) × IsCount within.tables step count
    count_of step fits = (
      record { at = step.span.start; states = fits.states; nodes = (row_at step within.tables).parts + fits.nodes },
      record { place = refl; counts = record { of_rows = fits.nodes; counts = fits.counts; nodes_are = refl } },
    )

    count_more : (n : ℕ) (step : PlainStep) → slice_get (steps_of k tree) n ≡ Some step → FirstCounts n → (one : Count) → IsCount within.tables step one → FirstCounts (suc n)
    count_more n step there first one is =
        let size = first.size in
        record {
          counts = first.counts ++ one ∷ [];
          size = omega (arith, size, length-append first.counts (one ∷ []));
          each = λ number other count at here. elim (pushed_cases first.counts one number count here) [
            | inl before ↦ first.each number other count at before
            | inr last ↦
                let same : step ≡ other = some_same step other (sym there ∙ ap (slice_get (steps_of k tree)) (sym (last.0 ∙ size)) ∙ at) in
                subst (λ (s : PlainStep). IsCount within.tables s count) same (subst (IsCount within.tables step) last.1 is)
          ];
        }

    first_counts : (n : ℕ) → n ≤ length (steps_of k tree) → FirstCounts n
    first_counts zero fits = record { counts = []; size = refl; each = λ number step count at here. absurd (let inside = slice_get_within [] number count here in omega arith) }
    first_counts (suc n) fits =
        let all = within.all in
        let (step, there) = some_at (steps_of k tree) n (omega arith) in
        let done = within.done.each n step (table_at within.tables n) there (slice_get-get_or within.tables n [] (omega arith)) in
        let (one, is) = count_of step done.within in
        count_more n step there (first_counts n (omega arith)) one is

    pub counts_within : (counts : List Count) × AreCounts (steps_of k tree) limits counts
    counts_within = let all = first_counts (length (steps_of k tree)) (omega arith) in
        (all.counts, record { tables = within.tables; done = within.done; all = within.all; one_each = all.size; each = all.each })

    pub table_of_core : (table : Table) × ((access : List Word) × IsCanonical k (words_of tree) table access)
    table_of_core =
        let (step, there, count, core_is, slots_are) = last_step_is_core k tree in
        let all = within.all in
        let table = table_at within.tables (steps_before tree) in
        let done = within.done.each (steps_before tree) step table there (slice_get-get_or within.tables (steps_before tree) [] (omega arith)) in (
          table,
          (done.access, subst (λ slots. IsCanonical slots (words_of tree) table done.access) slots_are (subst (λ (core : CoreTree). IsCanonical step.slots (words_of core) table done.access) core_is done.canonical)),
        )
