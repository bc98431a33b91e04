-- The quotient of a table automaton: its states are numbers below their count, so those that are reached are in a list.
use Rattle.std.proofs.Common.{◌≡◌, ℕ, ◌+◌, ◌<◌, List, length, ◌∙◌, subst, arith}
use Rattle.std.specs.List.{range_with_len}
use Rattle.std.proofs.lemmas.Bool.{cases_eq}
use Rattle.std.proofs.lemmas.List.FromFn.{get_or-range_with_len, length-range_with_len}
use Rattle.dcv_word.specs.Behaviour.{Word}
use Rattle.dcv_language.specs.Automaton.{WorkingMachine, IsReached}
use Rattle.dcv_language.specs.Canonical.{IsCanonical}
use Rattle.dcv_language.specs.Table.{Table, IsTable, automaton_of, table_accepts}
use Rattle.dcv_language.proofs.Ascending.{Member, Member-at}
use Rattle.dcv_language.proofs.Bounds.{leads_to-below}
use Rattle.dcv_language.proofs.Complements.{complement_is_canonical}
use Rattle.dcv_quotient.specs.Laws.{SomeCanonicalTable, SomeVerdict}
use Rattle.dcv_quotient.proofs.Reaching.{found_within}
use Rattle.dcv_quotient.proofs.SomeTables.{some_canonical}
use Rattle.dcv_quotient.proofs.SomeVerdicts.{some_verdict}
use Rattle.dcv_quotient.proofs.WordOrder.{word_laws}

-- a number below the count is one of the numbers from 0 on
among_numbers : (count state : ℕ) → state < count → Member state (range_with_len 0 count)
among_numbers count state below =
    let same : 0 + state ≡ state = omega arith in
    subst (λ number. Member number (range_with_len 0 count)) (get_or-range_with_len 0 count state 0 below ∙ same)
    (Member-at (range_with_len 0 count) state 0 (omega (arith, below, length-range_with_len 0 count)))

module _ (k : ℕ) (table : Table) (is : IsTable k table) where
  abbrev machine : WorkingMachine ℕ
  machine = record { slots = k; automaton = automaton_of table }

  among : (state : ℕ) → IsReached machine state → Member state (range_with_len 0 (length table))
  among state reached = among_numbers (length table) state (subst (λ s. s < length table) reached.leads (leads_to-below k table is reached.word))

  quotient : (canonical : Table) × ((access : List Word) × IsCanonical k (table_accepts table) canonical access)
  quotient =
      let (list, all) = found_within machine cases_eq (range_with_len 0 (length table)) among in
      some_canonical machine word_laws cases_eq list all

pub some_canonical_table : SomeCanonicalTable
some_canonical_table = quotient

pub some_verdict_of : SomeVerdict
some_verdict_of = some_verdict word_laws complement_is_canonical
