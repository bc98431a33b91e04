-- One step more is built: its table stands after the others and waits after those that it did not take, and its counts stand after
-- the others.
use Rattle.std.proofs.Common.{◌≡◌, ℕ, zero, suc, ◌+◌, ◌<◌, ◌≤◌, List, [], ◌∷◌, ◌++◌, length, reverse, Some, slice_get, Result, Ok, Err, inl, inr, refl, sym, ap, subst, ◌∙◌, arith, length-append}
use Rattle.std.proofs.lemmas.List.{reverse-append}
use Rattle.std.proofs.lemmas.Option.{slice_get_within, slice_get-get_or}
use Rattle.dcv_language.specs.declared.count.Count.{Count}
use Rattle.dcv_word.specs.Behaviour.{Word}
use Rattle.dcv_language.specs.Automaton.{WorkingMachine, accepts}
use Rattle.dcv_language.specs.Canonical.{IsCanonical}
use Rattle.dcv_language.specs.Language.{HaveSameBehaviours}
use Rattle.dcv_language.specs.Table.{Table}
use Rattle.dcv_language.proofs.Canonicals.{canonical_for_same_behaviours}
use Rattle.dcv_core.specs.Core.{CoreTree}
use Rattle.dcv_core.specs.Holds.{words_of}
use Rattle.dcv_core.specs.Steps.{PlainOp, OpAtom, OpNot, OpJoined, OpChop, OpStar, OpExists, PlainStep, steps_before, steps_of}
use Rattle.dcv_core.proofs.StepList.{steps_are_operations, some_same}
use Rattle.dcv_atoms.proofs.Accepting.{atom_slots}
use Rattle.dcv_atoms.specs.Laws.{MachineAcceptsStep as MachineAcceptsAtomStep}
use Rattle.dcv_explore.specs.declared.explorer.Limits.{Limits}
use Rattle.dcv_explore.specs.Budget.{IsWithin, Kind, TooManyStates, TooManyNodes, Exceeds}
use Rattle.dcv_explore.proofs.Places.{pushed_cases}
use Rattle.dcv_shelf.specs.Shelf.{ShelfTable, table_of_auto}
use Rattle.dcv_build.specs.declared.asked.Answer.{Answer}
use Rattle.dcv_build.specs.declared.faults.BuildFault.{BuildFault}
use Rattle.dcv_build.specs.declared.faults.BuildFault.TheVariants.{States, Nodes, Memory}
use Rattle.dcv_build.specs.declared.settling.Explored.{Explored}
use Rattle.dcv_build.specs.Budget.{row_at, IsStepDone, IsDone, IsOver, IsFaultOver}
use Rattle.dcv_build.specs.Building.{IsNewest, AreWaiting, HasBuilt, IsNext, Goes, Makes}
use Rattle.dcv_build.specs.Counts.{HasAllCounts, IsCount}
use Rattle.dcv_build.specs.Laws.{AreCanonicalBefore}
use Rattle.dcv_build.specs.Rows.{row_of}
use Rattle.dcv_build.specs.Settled.{IsOwn, IsBuilt, IsPassed, Serves, Answers}
use Rattle.dcv_build.proofs.SameRows.{table_at, row_over}
use Rattle.dcv_build.proofs.ShelfTables.{at_of}
use Rattle.dcv_build.proofs.StepMachines.{machine_accepts_step}

-- ---- lists

pub newest_first : {X : Type 0} (rest : List X) (newest : X) → reverse (rest ++ newest ∷ []) ≡ newest ∷ reverse rest
newest_first rest newest = reverse-append rest (newest ∷ [])

pub two_newest_first : {X : Type 0} (rest : List X) (first second : X) → reverse (rest ++ first ∷ second ∷ []) ≡ second ∷ first ∷ reverse rest
two_newest_first rest first second = reverse-append rest (first ∷ second ∷ [])

still_there : {X : Type 0} (xs more : List X) (place : ℕ) (x : X) → slice_get xs place ≡ Some x → slice_get (xs ++ more) place ≡ Some x
still_there [] more place x there = absurd cc
still_there (y ∷ xs) more zero x there = there
still_there (y ∷ xs) more (suc place) x there = still_there xs more place x there

last_there : {X : Type 0} (xs : List X) (x : X) → slice_get (xs ++ x ∷ []) (length xs) ≡ Some x
last_there [] x = refl
last_there (y ∷ xs) x = last_there xs x

table_kept : (tables more : List Table) (number : ℕ) → number < length tables → table_at tables number ≡ table_at (tables ++ more) number
table_kept [] more number within = absurd (omega arith)
table_kept (table ∷ tables) more zero within = refl
table_kept (table ∷ tables) more (suc number) within = table_kept tables more number (omega arith)

-- ---- what waits, where there are more tables

waiting_grown : (steps : List PlainStep) (limits : Limits) (tables more : List Table) (waiting : List ShelfTable) (n : ℕ)
    → AreWaiting steps limits tables n waiting → AreWaiting steps limits (tables ++ more) n waiting
waiting_grown steps limits tables more [] n waits = waits
waiting_grown steps limits tables more (one ∷ others) n waits =
    let newest = waits.1 in (
      waits.0,
      record {
        number = newest.number;
        step = newest.step;
        last = newest.last;
        is_there = newest.is_there;
        begins = newest.begins;
        table = still_there tables more newest.number one.table newest.table;
        slots = newest.slots;
        own = newest.own;
      },
      waiting_grown steps limits tables more others waits.0 waits.2,
    )

-- ---- the slots of a row

pub row_slots : (op : PlainOp) (slots : ℕ) (tables : List Table) → (row_of op slots tables).machine.slots ≡ slots
row_slots (OpAtom basic) slots tables = atom_slots slots basic
row_slots (OpNot d) slots tables = refl
row_slots (OpJoined connective c d) slots tables = refl
row_slots (OpChop c d) slots tables = refl
row_slots (OpStar d) slots tables = refl
row_slots (OpExists d) slots tables = refl

-- ---- one step more

-- with a table of this machine step n is built, and where the machine is over the limits the step is the first that is
pub record Leads (steps : List PlainStep) (limits : Limits) (n : ℕ) (waiting : List ShelfTable) (counts : List Count) {S : Type 0} (machine : WorkingMachine S) (parts : ℕ) : Type 0 where
  pub next : (one : ShelfTable) (states nodes : ℕ) → IsBuilt machine parts limits one states nodes → IsNext steps limits n waiting counts one states nodes
  pub over : (fault : BuildFault) → IsPassed machine parts limits n fault → IsFaultOver steps limits fault

module _ (k : ℕ) (tree : CoreTree) (limits : Limits) (n : ℕ) (tables : List Table) (size : length tables ≡ n) (done : IsDone (steps_of k tree) limits tables)
    (step : PlainStep) (there : slice_get (steps_of k tree) n ≡ Some step) where
  -- the row of a step up to this one does not change
  within_grown : (more : List Table) (number : ℕ) (other : PlainStep) → slice_get (steps_of k tree) number ≡ Some other → number ≤ n
      → IsWithin (row_at other tables) limits → IsWithin (row_at other (tables ++ more)) limits
  within_grown more number other at early here =
      row_over (steps_of k tree) number other tables (tables ++ more)
      (λ earlier before. table_kept tables more earlier (omega (arith, size)))
      (λ row. IsWithin row limits) other.op (steps_are_operations k tree number other at) here

  count_grown : (more : List Table) (number : ℕ) (other : PlainStep) (count : Count) → slice_get (steps_of k tree) number ≡ Some other → number ≤ n
      → IsCount tables other count → IsCount (tables ++ more) other count
  count_grown more number other count at early is = record {
    place = is.place;
    counts = row_over (steps_of k tree) number other tables (tables ++ more)
        (λ earlier before. table_kept tables more earlier (omega (arith, size)))
        (λ row. HasAllCounts row.machine row.parts count.states count.nodes) other.op (steps_are_operations k tree number other at) is.counts;
  }

  done_with : (table : Table) (access : List Word) → IsCanonical step.slots (words_of step.core) table access → IsWithin (row_at step tables) limits
      → IsDone (steps_of k tree) limits (tables ++ table ∷ [])
  done_with table access canonical within = record {
    no_more = let inside = slice_get_within (steps_of k tree) n step there in omega (arith, size, inside, length-append tables (table ∷ []));
    each = λ number other found at here. elim (pushed_cases tables table number found here) [
      | inl before ↦
          let old = done.each number other found at before in
          record {
            access = old.access;
            canonical = old.canonical;
            within = within_grown (table ∷ []) number other at (omega (arith, size, slice_get_within tables number found before)) old.within;
          }
      | inr last ↦
          let same : step ≡ other = some_same step other (sym there ∙ ap (slice_get (steps_of k tree)) (sym (last.0 ∙ size)) ∙ at) in
          let own : IsStepDone limits (tables ++ table ∷ []) step table =
          record { access = access; canonical = canonical; within = within_grown (table ∷ []) n step there (omega arith) within } in
          subst (λ (one : PlainStep). IsStepDone limits (tables ++ table ∷ []) one found) same
          (subst (λ (one : Table). IsStepDone limits (tables ++ table ∷ []) step one) last.1 own)
    ];
  }

  -- the table waits after those that the step did not take
  module _ (rest : List ShelfTable) (counts : List Count) (one_each : length counts ≡ n)
      (each : (number : ℕ) (other : PlainStep) (count : Count) → slice_get (steps_of k tree) number ≡ Some other → slice_get counts number ≡ Some count → IsCount tables other count)
      (begin : ℕ) (begins : begin + steps_before step.core ≡ n) (waits : AreWaiting (steps_of k tree) limits tables begin (reverse rest)) where
    counted : (table : Table) (count : Count) → IsCount tables step count
        → (number : ℕ) (other : PlainStep) (found : Count) → slice_get (steps_of k tree) number ≡ Some other → slice_get (counts ++ count ∷ []) number ≡ Some found
        → IsCount (tables ++ table ∷ []) other found
    counted table count is number other found at here = elim (pushed_cases counts count number found here) [
      | inl before ↦
          count_grown (table ∷ []) number other found at (omega (arith, one_each, slice_get_within counts number found before)) (each number other found at before)
      | inr last ↦
          let same : step ≡ other = some_same step other (sym there ∙ ap (slice_get (steps_of k tree)) (sym (last.0 ∙ one_each)) ∙ at) in
          let own = count_grown (table ∷ []) n step count there (omega arith) is in
          subst (λ (one : PlainStep). IsCount (tables ++ table ∷ []) one found) same
          (subst (λ (one : Count). IsCount (tables ++ table ∷ []) step one) last.1 own)
    ]

    built_next : (one : ShelfTable) (access : List Word) (count : Count) → IsCanonical step.slots (words_of step.core) one.table access → IsWithin (row_at step tables) limits
        → one.slots ≡ step.slots → IsOwn limits one → IsCount tables step count → HasBuilt (steps_of k tree) limits (n + 1) (rest ++ one ∷ []) (counts ++ count ∷ [])
    built_next one access count canonical within slots own is =
        let newest : IsNewest (steps_of k tree) limits (tables ++ one.table ∷ []) (n + 1) one begin = record {
          number = n;
          step = step;
          last = omega arith;
          is_there = there;
          begins = begins;
          table = subst (λ place. slice_get (tables ++ one.table ∷ []) place ≡ Some one.table) size (last_there tables one.table);
          slots = slots;
          own = own;
        } in
        record {
          tables = tables ++ one.table ∷ [];
          count = omega (arith, size, length-append tables (one.table ∷ []));
          done = done_with one.table access canonical within;
          waits = subst (AreWaiting (steps_of k tree) limits (tables ++ one.table ∷ []) (n + 1)) (sym (newest_first rest one))
              (begin, newest, waiting_grown (steps_of k tree) limits tables (one.table ∷ []) (reverse rest) begin waits);
          one_each = omega (arith, one_each, length-append counts (count ∷ []));
          each = counted one.table count is;
        }

    over_here : (kind : Kind) (at : ℕ) → at ≡ n → Exceeds kind (row_at step tables) limits → IsOver (steps_of k tree) limits kind at
    over_here kind at same exceeds =
        subst (IsOver (steps_of k tree) limits kind) (sym same)
        (record { tables = tables; done = done; before = size; step = step; is_there = there; exceeds = exceeds })

    over_is_first : (fault : BuildFault) → IsPassed (row_at step tables).machine (row_at step tables).parts limits n fault → IsFaultOver (steps_of k tree) limits fault
    over_is_first (States at limit) passed = (passed.1, over_here TooManyStates at passed.0 passed.2)
    over_is_first (Nodes at limit) passed = (passed.1, over_here TooManyNodes at passed.0 passed.2)
    over_is_first Memory passed = tt

    -- the step's row accepts the step's words
    before : AreCanonicalBefore (steps_of k tree) n tables
    before number earlier below at =
        let is = done.each number earlier (table_at tables number) at (slice_get-get_or tables number [] (omega (arith, below, size))) in
        (is.access, is.canonical)

    module _ (atoms : MachineAcceptsAtomStep) where
      accepts_words : HaveSameBehaviours step.slots (accepts (row_at step tables).machine.automaton) (words_of step.core)
      accepts_words = machine_accepts_step steps_are_operations atoms k tree n step tables there before

      pub next_of : (one : ShelfTable) (states nodes : ℕ) → IsBuilt (row_at step tables).machine (row_at step tables).parts limits one states nodes
          → IsNext (steps_of k tree) limits n rest counts one states nodes
      next_of one states nodes built count own =
          let width = row_slots step.op step.slots tables in
          let machine = (row_at step tables).machine in
          built_next one built.access count
          (canonical_for_same_behaviours step.slots (accepts machine.automaton) (words_of step.core) one.table built.access accepts_words
          (subst (λ slots. IsCanonical slots (accepts machine.automaton) one.table built.access) width built.canonical))
          (record {
            states = states;
            nodes = built.counts.of_rows;
            counts = built.counts.counts;
            states_within = built.states_within;
            nodes_within = omega (arith, built.counts.nodes_are, built.nodes_within);
          })
          (built.slots ∙ width) built.own
          (record {
            place = own.place step there;
            counts = subst (λ m. HasAllCounts machine (row_at step tables).parts m count.nodes) (sym own.states_are)
                (subst (HasAllCounts machine (row_at step tables).parts states) (sym own.nodes_are) built.counts);
          })

      pub leads : Leads (steps_of k tree) limits n rest counts (row_at step tables).machine (row_at step tables).parts
      leads = record { next = next_of; over = over_is_first }

-- ---- what a call answers that gives a table of the step's machine

module _ (steps : List PlainStep) (limits : Limits) (n : ℕ) (waiting : List ShelfTable) (counts : List Count) {S : Type 0} (machine : WorkingMachine S) (parts : ℕ)
    (leads : Leads steps limits n waiting counts machine parts) where
  -- on a shelf
  pub goes : (shelf : List ShelfTable) (result : Result Answer BuildFault) → Answers machine parts limits n shelf result → Goes steps limits n waiting counts shelf result
  goes shelf (Ok answer) answers =
      let is = answers.built in
      record {
        built = subst (λ (one : ShelfTable). IsNext steps limits n waiting counts one answer.states answer.nodes) (sym (at_of shelf answer.number is.one is.there))
            (leads.next is.one answer.states answer.nodes is.built);
        over = tt;
      }
  goes shelf (Err fault) answers = record { built = tt; over = leads.over fault answers.over }

  -- once minimised
  pub makes : (result : Result Explored BuildFault) → Serves machine parts limits n result → Makes steps limits n waiting counts result
  makes (Ok explored) serves = record {
    built = λ auto least. leads.next (table_of_auto auto) explored.states explored.nodes (serves.built.each auto least);
    over = tt;
  }
  makes (Err fault) serves = record { built = tt; over = leads.over fault serves.over }
