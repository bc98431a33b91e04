-- What the step of a core asks of the numbers that wait, and what its answer is to the budget, whatever tree the core has the steps of.
use Rattle.std.proofs.Common.{◌≡◌, ℕ, suc, ◌+◌, ◌-◌, ◌<◌, List, [], ◌∷◌, ◌++◌, length, get_or, reverse, Some, slice_get, Result, Ok, refl, sym, ap, subst, ◌∙◌, arith}
use Rattle.std.specs.Option.{option_map}
use Rattle.std.proofs.lemmas.List.{length-map, map-append, append-nil}
use Rattle.std.proofs.lemmas.Option.{slice_get-map, same_Some}
use Rattle.dcv_language.specs.declared.count.Count.{Count}
use Rattle.dcv_language.specs.Language.{Language, outside}
use Rattle.dcv_language.specs.Laws.{OneCanonicalTable}
use Rattle.dcv_language.specs.Operations.{chop, star, projection}
use Rattle.dcv_language.specs.OperationMachines.{not_machine, pair_machine, chop_machine, star_machine, exists_machine}
use Rattle.dcv_language.specs.Table.{Table, automaton_of}
use Rattle.dcv_logic.specs.Connectives.{joins}
use Rattle.dcv_core.specs.Core.{CoreTree, PlainBasic}
use Rattle.dcv_syntax.specs.declared.propositions.Connective.{Connective}
use Rattle.dcv_core.specs.Steps.{PlainOp, OpAtom, OpNot, OpJoined, OpChop, OpStar, OpExists, PlainStep, CoreStep, PlainCore, without_core, steps_before, steps_of}
use Rattle.dcv_core.specs.StepWords.{joined_words, TakesOne, TakesTwo, IsOperation}
use Rattle.dcv_core.proofs.StepList.{steps_are_operations}
use Rattle.dcv_atoms.specs.AtomRows.{atom_machine}
use Rattle.dcv_atoms.specs.Laws.{MachineAcceptsStep as MachineAcceptsAtomStep}
use Rattle.dcv_atoms.specs.Parts.{atom_nodes}
use Rattle.dcv_atoms.specs.Steps.{IsAtom}
use Rattle.dcv_explore.specs.declared.explorer.Limits.{Limits}
use Rattle.dcv_explore.specs.Budget.{Row}
use Rattle.dcv_shelf.specs.Shelf.{ShelfTable, nodes_of_table, KeepsNumbers, IsComplement}
use Rattle.dcv_build.specs.declared.asked.Answer.{Answer}
use Rattle.dcv_build.specs.declared.asked.Asked.{Asked}
use Rattle.dcv_build.specs.declared.asked.Asked.TheVariants.{Joined, Chop, Star, Exists}
use Rattle.dcv_build.specs.declared.faults.BuildFault.{BuildFault}
use Rattle.dcv_build.specs.declared.settling.Explored.{Explored}
use Rattle.dcv_build.specs.Asked.{at_number, tables_at, AreThere, plain_tables, asked_row, AreTwo, IsWide, AreOperands, ServesAsked, AnswersAsked, IsTurned}
use Rattle.dcv_build.specs.Building.{AreWaiting, HasBuilt, IsNext, Goes, Makes, ForTree}
use Rattle.dcv_build.specs.Given.{IsCoreOf, IsCore}
use Rattle.dcv_build.specs.Rows.{pair_row, chop_row, star_row, set_row, row_of}
use Rattle.dcv_build.specs.Tasks.{Here, op_like, numbers_of}
use Rattle.dcv_build.specs.Settled.{IsOwn, IsBuilt, IsPassed, Settles, Answers}
use Rattle.dcv_build.proofs.Answered.{plain_at}
use Rattle.dcv_build.proofs.Negation.{complement_is_built}
use Rattle.dcv_build.proofs.Operands.{step_at, one_operand, two_operands}
use Rattle.dcv_build.proofs.PostOrder.{IsAfterOne, IsAfterTwo, IsAfterOperands, after_operands}
use Rattle.dcv_build.proofs.Progress.{Leads, next_of, leads, goes, makes}
use Rattle.dcv_build.proofs.SameRows.{table_at}
use Rattle.dcv_build.proofs.Settled.{settled_serves}
use Rattle.dcv_build.proofs.ShelfTables.{at_of, tables_kept, front_there, behind_there}
use Rattle.dcv_build.proofs.Waiting.{one_is_there, two_are_there}

pub atom_at : (core : PlainCore) (tree : CoreTree) (n : ℕ) (basic : PlainBasic) (step : PlainStep) → IsCoreOf tree core → slice_get (steps_of core.declared tree) n ≡ Some step
    → step.op ≡ OpAtom basic → IsAtom core n basic step.slots
atom_at core tree n basic step is there form = record {
  own = without_core step;
  there = ap (λ (listed : List CoreStep). slice_get listed n) is ∙ slice_get-map without_core (steps_of core.declared tree) n ∙ ap (option_map without_core) there;
  form = form;
  width = refl;
}

pub atom_here : (core : PlainCore) (n : ℕ) (basic : PlainBasic) → IsCore core → Here core n (OpAtom basic) → (basic : PlainBasic) × (slots : ℕ) × IsAtom core n basic slots
atom_here core n basic known here =
    let found = step_at core known.tree n (OpAtom basic) known.is here in
    (basic, found.0.slots, atom_at core known.tree n basic found.0 known.is found.1 found.2)

pub atom_op : (core : PlainCore) (n : ℕ) (basic : PlainBasic) (slots : ℕ) → IsAtom core n basic slots → Here core n (OpAtom basic)
atom_op core n basic slots atom = ap (option_map (λ (s : CoreStep). s.op)) atom.there ∙ ap Some atom.form

-- ---- an operator of a core, and the same over numbers of the shelf

module _ (tables : List Table) (slots : ℕ) (shelf : List ShelfTable) where
  -- the tables at the numbers are those of the steps, over so many slots
  record TwoAre (a b c d : ℕ) : Type 0 where
    pub width : (at_number shelf a).slots ≡ slots
    pub first : get_or (plain_tables shelf) a [] ≡ table_at tables c
    pub second : get_or (plain_tables shelf) b [] ≡ table_at tables d

  record OneIs (a d width : ℕ) : Type 0 where
    pub wide : (at_number shelf a).slots ≡ width
    pub only : get_or (plain_tables shelf) a [] ≡ table_at tables d

  abbrev TheseAre : Asked → ℕ → ℕ → Type 0
  TheseAre (Joined connective a b) c d = TwoAre a b c d
  TheseAre (Chop a b) c d = TwoAre a b c d
  TheseAre (Star a) c d = OneIs a d slots
  TheseAre (Exists a) c d = OneIs a d (suc slots)

  module _ (P : Row → Type 0) where
    by_two : (row : ℕ → Table → Table → Row) (a b c d : ℕ) → TwoAre a b c d
        → P (row (at_number shelf a).slots (get_or (plain_tables shelf) a []) (get_or (plain_tables shelf) b []))
        → P (row slots (table_at tables c) (table_at tables d))
    by_two row a b c d are here = subst (λ (t : ℕ × (Table × Table)). P (row t.0 t.1.0 t.1.1)) (λ i. (are.width i, (are.first i, are.second i))) here

    by_one : (row : ℕ → Table → Row) (a d width : ℕ) → OneIs a d width
        → P (row (at_number shelf a).slots (get_or (plain_tables shelf) a [])) → P (row width (table_at tables d))
    by_one row a d width is here = subst (λ (t : ℕ × Table). P (row t.0 t.1)) (λ i. (is.wide i, is.only i)) here

    row_is : (asked : Asked) (c d : ℕ) → TheseAre asked c d → P (asked_row shelf asked) → P (row_of (op_like asked c d) slots tables)
    row_is (Joined connective a b) c d are here = by_two (λ slots t u. pair_row (pair_machine slots (joins connective) (automaton_of t) (automaton_of u))) a b c d are here
    row_is (Chop a b) c d are here = by_two (λ slots t u. chop_row (chop_machine slots (automaton_of t) (automaton_of u))) a b c d are here
    row_is (Star a) c d is here = by_one (λ slots t. star_row (star_machine slots (automaton_of t))) a d slots is here
    row_is (Exists a) c d is here =
        let one_less : suc slots - 1 ≡ slots = omega arith in
        subst (λ n. P (set_row (exists_machine n (automaton_of (table_at tables d))))) one_less
        (by_one (λ slots t. set_row (exists_machine (slots - 1) (automaton_of t))) a d (suc slots) is here)

-- ---- the complement of the newest

module _ (k : ℕ) (tree : CoreTree) (limits : Limits) (n : ℕ) (rest : List ShelfTable) (one : ShelfTable) (counts : List Count)
    (built : HasBuilt (steps_of k tree) limits n (rest ++ one ∷ []) counts) (step : PlainStep) (there : slice_get (steps_of k tree) n ≡ Some step) where
  pub not_next : MachineAcceptsAtomStep → OneCanonicalTable → (d : ℕ) → step.op ≡ OpNot d → (turned : ShelfTable) → IsComplement one turned
      → (states nodes : ℕ) → states ≡ length one.table → nodes ≡ nodes_of_table one → IsNext (steps_of k tree) limits n rest counts turned states nodes
  not_next atoms one_canonical d is turned complement states nodes states_are nodes_are =
      let takes = subst (IsOperation (steps_of k tree) n step) is (steps_are_operations k tree n step there) in
      let after = subst (λ (o : PlainOp). IsAfterOperands (steps_of k tree) o (steps_before step.core)) is (after_operands k tree n step there) in
      let at = one_operand (steps_of k tree) limits n rest step one counts built d step.slots outside takes after in
      let own = complement_is_built one_canonical limits one turned at.is.own complement states nodes states_are nodes_are in
      let moved = subst (λ (t : ℕ × Table). IsBuilt (not_machine t.0 (automaton_of t.1)) 0 limits turned states nodes) (λ i. (at.is.width i, sym at.is.table i)) own in
      let row = subst (λ (o : PlainOp). IsBuilt (row_of o step.slots built.tables).machine (row_of o step.slots built.tables).parts limits turned states nodes) (sym is) moved in
      next_of k tree limits n built.tables built.count built.done step there rest counts built.one_each built.each at.begin at.begins at.waits atoms turned states nodes row

-- ---- at a step of a tree

module _ (k : ℕ) (tree : CoreTree) (limits : Limits) (n : ℕ) (shelf : List ShelfTable) (rest : List ℕ) (counts : List Count)
    (step : PlainStep) (there : slice_get (steps_of k tree) n ≡ Some step) where
  operation_is : (op : PlainOp) → step.op ≡ op → IsOperation (steps_of k tree) n step op
  operation_is op is = subst (IsOperation (steps_of k tree) n step) is (steps_are_operations k tree n step there)

  after_is : (op : PlainOp) → step.op ≡ op → IsAfterOperands (steps_of k tree) op (steps_before step.core)
  after_is op is = subst (λ (o : PlainOp). IsAfterOperands (steps_of k tree) o (steps_before step.core)) is (after_operands k tree n step there)

  abbrev Built : List ℕ → Type 0
  Built numbers = HasBuilt (steps_of k tree) limits n (tables_at shelf rest ++ tables_at shelf numbers) counts

  -- the operands of a step: where its own steps begin, what waits then, and what is true of the operands
  record Takes (tables : List Table) (Own These : Type 0) : Type 0 where
    pub begin : ℕ
    pub begins : begin + steps_before step.core ≡ n
    pub waits : AreWaiting (steps_of k tree) limits tables begin (reverse (tables_at shelf rest))
    pub operands : Own
    pub these : These

  takes_two : (a b c d : ℕ) (operation : Language → Language → Language) → TakesTwo (steps_of k tree) n step c d operation → IsAfterTwo (steps_of k tree) c d (steps_before step.core)
      → a < length shelf → b < length shelf → (built : Built (a ∷ b ∷ [])) → Takes built.tables (AreTwo shelf a b) (TwoAre built.tables step.slots shelf a b c d)
  takes_two a b c d operation takes after first_there second_there built =
      let at = two_operands (steps_of k tree) limits n (tables_at shelf rest) step (at_number shelf a) (at_number shelf b) counts built c d operation takes after in
      record {
        begin = at.begin;
        begins = at.begins;
        waits = at.waits;
        operands = record { first = first_there; second = second_there; slots = at.of_first.width ∙ sym at.of_second.width };
        these = record {
          width = at.of_first.width;
          first = plain_at shelf a first_there ∙ sym at.of_first.table;
          second = plain_at shelf b second_there ∙ sym at.of_second.table;
        };
      }

  takes_one : (a d width : ℕ) (operation : Language → Language) → TakesOne (steps_of k tree) n step d width operation → IsAfterOne (steps_of k tree) d (steps_before step.core)
      → a < length shelf → (built : Built (a ∷ [])) → Takes built.tables (IsOwn limits (at_number shelf a)) (OneIs built.tables step.slots shelf a d width)
  takes_one a d width operation takes after own_there built =
      let at = one_operand (steps_of k tree) limits n (tables_at shelf rest) step (at_number shelf a) counts built d width operation takes after in
      record {
        begin = at.begin;
        begins = at.begins;
        waits = at.waits;
        operands = at.is.own;
        these = record { wide = at.is.width; only = plain_at shelf a own_there ∙ sym at.is.table };
      }

  takes_wide : (a d : ℕ) → TakesOne (steps_of k tree) n step d (suc step.slots) projection → IsAfterOne (steps_of k tree) d (steps_before step.core)
      → a < length shelf → (built : Built (a ∷ [])) → Takes built.tables (IsWide shelf a) (OneIs built.tables step.slots shelf a d (suc step.slots))
  takes_wide a d takes after own_there built =
      let is = takes_one a d (suc step.slots) projection takes after own_there built in
      record { begin = is.begin; begins = is.begins; waits = is.waits; operands = record { there = own_there; some = omega (arith, is.these.wide) }; these = is.these }

  takes_star : (a d : ℕ) → TakesOne (steps_of k tree) n step d step.slots star → IsAfterOne (steps_of k tree) d (steps_before step.core)
      → a < length shelf → (built : Built (a ∷ [])) → Takes built.tables (a < length shelf) (OneIs built.tables step.slots shelf a d step.slots)
  takes_star a d takes after own_there built =
      let is = takes_one a d step.slots star takes after own_there built in
      record { begin = is.begin; begins = is.begins; waits = is.waits; operands = own_there; these = is.these }

  -- by the operator
  takes : (asked : Asked) (c d : ℕ) → step.op ≡ op_like asked c d → AreThere shelf (numbers_of asked) → (built : Built (numbers_of asked))
      → Takes built.tables (AreOperands shelf asked) (TheseAre built.tables step.slots shelf asked c d)
  takes (Joined connective a b) c d is all built = takes_two a b c d (joined_words connective) (operation_is (OpJoined connective c d) is) (after_is (OpJoined connective c d) is) (all 0 0 (omega arith)) (all 1 0 (omega arith)) built
  takes (Chop a b) c d is all built = takes_two a b c d chop (operation_is (OpChop c d) is) (after_is (OpChop c d) is) (all 0 0 (omega arith)) (all 1 0 (omega arith)) built
  takes (Star a) c d is all built = takes_star a d (operation_is (OpStar d) is) (after_is (OpStar d) is) (all 0 0 (omega arith)) built
  takes (Exists a) c d is all built = takes_wide a d (operation_is (OpExists d) is) (after_is (OpExists d) is) (all 0 0 (omega arith)) built

  pub asked_operands : (asked : Asked) (c d : ℕ) → step.op ≡ op_like asked c d → AreThere shelf (numbers_of asked) → Built (numbers_of asked) → AreOperands shelf asked
  asked_operands asked c d is all built = (takes asked c d is all built).operands

  -- what is true of the row over the numbers is true of that of the step
  own_row : (P : Row → Type 0) (asked : Asked) (c d : ℕ) → step.op ≡ op_like asked c d → AreThere shelf (numbers_of asked) → (built : Built (numbers_of asked)) → P (asked_row shelf asked)
      → P (row_of step.op step.slots built.tables)
  own_row P asked c d is all built here =
      subst (λ (o : PlainOp). P (row_of o step.slots built.tables)) (sym is) (row_is built.tables step.slots shelf P asked c d (takes asked c d is all built).these here)

  -- no operand is taken
  none_begins : (basic : PlainBasic) → step.op ≡ OpAtom basic → n + steps_before step.core ≡ n
  none_begins basic is = let none : steps_before step.core ≡ 0 = after_is (OpAtom basic) is in omega (arith, none)

  all_wait : (built : Built []) → AreWaiting (steps_of k tree) limits built.tables n (reverse (tables_at shelf rest))
  all_wait built = subst (λ (w : List ShelfTable). AreWaiting (steps_of k tree) limits built.tables n (reverse w)) (append-nil (tables_at shelf rest)) built.waits

  module _ (atoms : MachineAcceptsAtomStep) where
    -- the machine over the numbers leads on
    pub asked_leads : (asked : Asked) (c d : ℕ) → step.op ≡ op_like asked c d → AreThere shelf (numbers_of asked) → Built (numbers_of asked)
        → Leads (steps_of k tree) limits n (tables_at shelf rest) counts (asked_row shelf asked).machine (asked_row shelf asked).parts
    asked_leads asked c d is all built =
        let has = takes asked c d is all built in
        let own = leads k tree limits n built.tables built.count built.done step there (tables_at shelf rest) counts built.one_each built.each has.begin has.begins has.waits atoms in
        record {
          next = λ one states nodes of_asked. own.next one states nodes (own_row (λ (row : Row). IsBuilt row.machine row.parts limits one states nodes) asked c d is all built of_asked);
          over = λ fault passed. own.over fault (own_row (λ (row : Row). IsPassed row.machine row.parts limits n fault) asked c d is all built passed);
        }

    pub atom_leads : (basic : PlainBasic) → step.op ≡ OpAtom basic → Built []
        → Leads (steps_of k tree) limits n (tables_at shelf rest) counts (atom_machine step.slots basic) (atom_nodes step.slots basic)
    atom_leads basic is built =
        subst (λ (o : PlainOp). Leads (steps_of k tree) limits n (tables_at shelf rest) counts (row_of o step.slots built.tables).machine (row_of o step.slots built.tables).parts) is
        (leads k tree limits n built.tables built.count built.done step there (tables_at shelf rest) counts built.one_each built.each n (none_begins basic is) (all_wait built) atoms)

    module _ (after : List ShelfTable) (kept : KeepsNumbers shelf after) (rest_there : AreThere shelf rest) where
      -- what waits does so on the shelf that has grown
      grown : (result : Result Answer BuildFault) → Goes (steps_of k tree) limits n (tables_at shelf rest) counts after result → Goes (steps_of k tree) limits n (tables_at after rest) counts after result
      grown result goes_on = subst (λ (w : List ShelfTable). Goes (steps_of k tree) limits n w counts after result) (sym (tables_kept shelf after kept rest rest_there)) goes_on

      pub asked_goes : (asked : Asked) (c d : ℕ) → step.op ≡ op_like asked c d → AreThere shelf (numbers_of asked) → Built (numbers_of asked)
          → (result : Result Answer BuildFault) → AnswersAsked shelf asked limits n after result → Goes (steps_of k tree) limits n (tables_at after rest) counts after result
      asked_goes asked c d is all built result answers =
          grown result
          (goes (steps_of k tree) limits n (tables_at shelf rest) counts (asked_row shelf asked).machine (asked_row shelf asked).parts (asked_leads asked c d is all built) after result answers)

      pub atom_goes : (basic : PlainBasic) → step.op ≡ OpAtom basic → Built [] → (result : Result Answer BuildFault)
          → Answers (atom_machine step.slots basic) (atom_nodes step.slots basic) limits n after result → Goes (steps_of k tree) limits n (tables_at after rest) counts after result
      atom_goes basic is built result answers =
          grown result
          (goes (steps_of k tree) limits n (tables_at shelf rest) counts (atom_machine step.slots basic) (atom_nodes step.slots basic) (atom_leads basic is built) after result answers)

      pub not_goes : OneCanonicalTable → (a d : ℕ) → step.op ≡ OpNot d → Built (a ∷ []) → (answer : Answer) → IsTurned (at_number shelf a) after answer
          → Goes (steps_of k tree) limits n (tables_at after rest) counts after (Ok answer)
      not_goes one_canonical a d is built answer turned =
          let next = not_next k tree limits n (tables_at shelf rest) (at_number shelf a) counts built step there atoms one_canonical d is turned.turned turned.complement
          answer.states answer.nodes turned.states turned.nodes in
          grown (Ok answer)
          (record {
            built = subst (λ (one : ShelfTable). IsNext (steps_of k tree) limits n (tables_at shelf rest) counts one answer.states answer.nodes)
                (sym (at_of after answer.number turned.turned turned.there)) next;
            over = tt;
          })

-- ---- at a step of a core

module _ (core : PlainCore) (limits : Limits) (n : ℕ) (counts : List Count) where
  abbrev AreBuilt : List ShelfTable → Type 0
  AreBuilt waiting = ForTree core (λ steps. HasBuilt steps limits n waiting counts)

  abbrev GoesOn : List ShelfTable → List ShelfTable → Result Answer BuildFault → Type 0
  GoesOn rest shelf result = ForTree core (λ steps. Goes steps limits n rest counts shelf result)

  abbrev MakesOn : List ShelfTable → Result Explored BuildFault → Type 0
  MakesOn rest result = ForTree core (λ steps. Makes steps limits n rest counts result)

  -- ---- how many wait

  one_waits : (op : PlainOp) (d : ℕ) (slots : PlainStep → ℕ) (operation : Language → Language)
      → ((tree : CoreTree) (step : PlainStep) → IsOperation (steps_of core.declared tree) n step op → TakesOne (steps_of core.declared tree) n step d (slots step) operation)
      → IsCore core → Here core n op → (shelf : List ShelfTable) (waiting : List ℕ) → AreBuilt (tables_at shelf waiting) → 0 < length waiting
  one_waits op d slots operation takes known here shelf waiting built =
      let tree = known.tree in
      let found = step_at core tree n op known.is here in
      let operand = takes tree found.0 (subst (IsOperation (steps_of core.declared tree) n found.0) found.2 (steps_are_operations core.declared tree n found.0 found.1)) in
      let some = one_is_there (steps_of core.declared tree) limits n (tables_at shelf waiting) counts (built tree known.is) (omega (arith, operand.is_before)) in
      omega (arith, some, length-map waiting (at_number shelf))

  two_wait : (op : PlainOp) (c d : ℕ) (operation : Language → Language → Language)
      → ((tree : CoreTree) (step : PlainStep) → IsOperation (steps_of core.declared tree) n step op → TakesTwo (steps_of core.declared tree) n step c d operation)
      → IsCore core → Here core n op → (shelf : List ShelfTable) (waiting : List ℕ) → AreBuilt (tables_at shelf waiting) → 1 < length waiting
  two_wait op c d operation takes known here shelf waiting built =
      let tree = known.tree in
      let found = step_at core tree n op known.is here in
      let operands = takes tree found.0 (subst (IsOperation (steps_of core.declared tree) n found.0) found.2 (steps_are_operations core.declared tree n found.0 found.1)) in
      let more = two_are_there (steps_of core.declared tree) limits n (tables_at shelf waiting) counts (built tree known.is) found.0 c d operation operands in
      omega (arith, more, length-map waiting (at_number shelf))

  pub not_waits : (d : ℕ) → IsCore core → Here core n (OpNot d) → (shelf : List ShelfTable) (waiting : List ℕ) → AreBuilt (tables_at shelf waiting) → 0 < length waiting
  not_waits d = one_waits (OpNot d) d (λ step. step.slots) outside (λ tree step is. is)

  pub star_waits : (d : ℕ) → IsCore core → Here core n (OpStar d) → (shelf : List ShelfTable) (waiting : List ℕ) → AreBuilt (tables_at shelf waiting) → 0 < length waiting
  star_waits d = one_waits (OpStar d) d (λ step. step.slots) star (λ tree step is. is)

  pub exists_waits : (d : ℕ) → IsCore core → Here core n (OpExists d) → (shelf : List ShelfTable) (waiting : List ℕ) → AreBuilt (tables_at shelf waiting) → 0 < length waiting
  exists_waits d = one_waits (OpExists d) d (λ step. suc step.slots) projection (λ tree step is. is)

  pub joined_waits : (connective : Connective) (c d : ℕ) → IsCore core → Here core n (OpJoined connective c d) → (shelf : List ShelfTable) (waiting : List ℕ)
      → AreBuilt (tables_at shelf waiting) → 1 < length waiting
  joined_waits connective c d = two_wait (OpJoined connective c d) c d (joined_words connective) (λ tree step is. is)

  pub chop_waits : (c d : ℕ) → IsCore core → Here core n (OpChop c d) → (shelf : List ShelfTable) (waiting : List ℕ) → AreBuilt (tables_at shelf waiting) → 1 < length waiting
  chop_waits c d = two_wait (OpChop c d) c d chop (λ tree step is. is)

  -- ---- with these taken

  module _ (shelf : List ShelfTable) (old rest : List ℕ) (built : AreBuilt (tables_at shelf old)) (old_there : AreThere shelf old) where
    taken : (numbers : List ℕ) → old ≡ rest ++ numbers → (tree : CoreTree) → IsCoreOf tree core
        → HasBuilt (steps_of core.declared tree) limits n (tables_at shelf rest ++ tables_at shelf numbers) counts
    taken numbers same tree is =
        subst (λ (w : List ShelfTable). HasBuilt (steps_of core.declared tree) limits n w counts) (ap (tables_at shelf) same ∙ map-append (at_number shelf) rest numbers) (built tree is)

    pub rest_are : (numbers : List ℕ) → old ≡ rest ++ numbers → AreThere shelf rest
    rest_are numbers same = front_there shelf rest numbers (subst (AreThere shelf) same old_there)

    pub numbers_are : (numbers : List ℕ) → old ≡ rest ++ numbers → AreThere shelf numbers
    numbers_are numbers same = behind_there shelf rest numbers (subst (AreThere shelf) same old_there)

    module _ (asked : Asked) (c d : ℕ) (same : old ≡ rest ++ numbers_of asked) where
      pub operands_at : IsCore core → Here core n (op_like asked c d) → AreOperands shelf asked
      operands_at known here =
          let found = step_at core known.tree n (op_like asked c d) known.is here in
          asked_operands core.declared known.tree limits n shelf rest counts found.0 found.1 asked c d found.2 (numbers_are (numbers_of asked) same) (taken (numbers_of asked) same known.tree known.is)

      pub goes_on : MachineAcceptsAtomStep → Here core n (op_like asked c d) → (after : List ShelfTable) → KeepsNumbers shelf after
          → (result : Result Answer BuildFault) → AnswersAsked shelf asked limits n after result → GoesOn (tables_at after rest) after result
      goes_on atoms here after kept result answers tree is =
          let found = step_at core tree n (op_like asked c d) is here in
          asked_goes core.declared tree limits n shelf rest counts found.0 found.1 atoms after kept (rest_are (numbers_of asked) same) asked c d found.2
          (numbers_are (numbers_of asked) same) (taken (numbers_of asked) same tree is) result answers

      pub leads_on : MachineAcceptsAtomStep → Here core n (op_like asked c d)
          → ForTree core (λ steps. Leads steps limits n (tables_at shelf rest) counts (asked_row shelf asked).machine (asked_row shelf asked).parts)
      leads_on atoms here tree is =
          let found = step_at core tree n (op_like asked c d) is here in
          asked_leads core.declared tree limits n shelf rest counts found.0 found.1 atoms asked c d found.2 (numbers_are (numbers_of asked) same) (taken (numbers_of asked) same tree is)

      pub makes_on : MachineAcceptsAtomStep → Here core n (op_like asked c d) → (result : Result Explored BuildFault) → ServesAsked shelf asked limits n result → MakesOn (tables_at shelf rest) result
      makes_on atoms here result serves tree is =
          makes (steps_of core.declared tree) limits n (tables_at shelf rest) counts (asked_row shelf asked).machine (asked_row shelf asked).parts (leads_on atoms here tree is) result serves

    module _ (a d : ℕ) (same : old ≡ rest ++ a ∷ []) where
      pub not_goes_on : MachineAcceptsAtomStep → OneCanonicalTable → Here core n (OpNot d) → (after : List ShelfTable) → KeepsNumbers shelf after
          → (answer : Answer) → IsTurned (at_number shelf a) after answer → GoesOn (tables_at after rest) after (Ok answer)
      not_goes_on atoms one_canonical here after kept answer turned tree is =
          let found = step_at core tree n (OpNot d) is here in
          not_goes core.declared tree limits n shelf rest counts found.0 found.1 atoms after kept (rest_are (a ∷ []) same) one_canonical a d found.2
          (taken (a ∷ []) same tree is) answer turned

  -- nothing is taken
  pub atom_goes_on : (shelf : List ShelfTable) (old : List ℕ) (built : AreBuilt (tables_at shelf old)) (old_there : AreThere shelf old) (basic : PlainBasic)
      → MachineAcceptsAtomStep → Here core n (OpAtom basic) → (after : List ShelfTable) → KeepsNumbers shelf after → (result : Result Answer BuildFault)
      → ((slots : ℕ) → IsAtom core n basic slots → Answers (atom_machine slots basic) (atom_nodes slots basic) limits n after result) → GoesOn (tables_at after old) after result
  atom_goes_on shelf old built old_there basic atoms here after kept result answers tree is =
      let found = step_at core tree n (OpAtom basic) is here in
      atom_goes core.declared tree limits n shelf old counts found.0 found.1 atoms after kept old_there basic found.2
      (subst (λ (w : List ShelfTable). HasBuilt (steps_of core.declared tree) limits n w counts) (sym (append-nil (tables_at shelf old))) (built tree is)) result
      (answers found.0.slots (atom_at core tree n basic found.0 is found.1 found.2))

  pub atom_leads_on : (shelf : List ShelfTable) (old : List ℕ) (built : AreBuilt (tables_at shelf old)) (basic : PlainBasic) (slots : ℕ)
      → MachineAcceptsAtomStep → IsAtom core n basic slots
      → ForTree core (λ steps. Leads steps limits n (tables_at shelf old) counts (atom_machine slots basic) (atom_nodes slots basic))
  unfolding atom_at
  atom_leads_on shelf old built basic slots atoms atom tree is =
      let found = step_at core tree n (OpAtom basic) is (atom_op core n basic slots atom) in
      let own = atom_at core tree n basic found.0 is found.1 found.2 in
      let same = ap (λ (s : CoreStep). s.slots) (same_Some own.own atom.own (sym own.there ∙ atom.there)) ∙ atom.width in
      subst (λ width. Leads (steps_of core.declared tree) limits n (tables_at shelf old) counts (atom_machine width basic) (atom_nodes width basic)) same
      (atom_leads core.declared tree limits n shelf old counts found.0 found.1 atoms basic found.2
      (subst (λ (w : List ShelfTable). HasBuilt (steps_of core.declared tree) limits n w counts) (sym (append-nil (tables_at shelf old))) (built tree is)))

  pub atom_makes_on : (shelf : List ShelfTable) (old : List ℕ) (built : AreBuilt (tables_at shelf old)) (basic : PlainBasic) (slots : ℕ)
      → MachineAcceptsAtomStep → IsAtom core n basic slots → (result : Result Explored BuildFault)
      → Settles (atom_machine slots basic) (atom_nodes slots basic) limits n result → MakesOn (tables_at shelf old) result
  atom_makes_on shelf old built basic slots atoms atom result settles tree is =
      makes (steps_of core.declared tree) limits n (tables_at shelf old) counts (atom_machine slots basic) (atom_nodes slots basic)
      (atom_leads_on shelf old built basic slots atoms atom tree is) result (settled_serves (row_of (OpAtom basic) slots []) limits n result settles)
