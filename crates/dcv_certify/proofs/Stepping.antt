-- Where letters lead from all states.
use Rattle.std.proofs.Common.{◌≡◌, ℕ, zero, suc, ◌<◌, ◌+◌, Bool, List, [], ◌∷◌, ◌++◌, length, map, take, fold, set, get_or, Option, None, refl, ap, sym, ◌∙◌, subst, arith}
use Rattle.std.proofs.lemmas.Grind.{take_at_read, take-set_at, fold-append}
use Rattle.std.proofs.lemmas.List.{get_or_default, get_or-map, get_or-take, length-map}
use Rattle.std.specs.List.{All, enumerate_from}
use Rattle.dcv_word.specs.Laws.{LetterStandsAtItsBits}
use Rattle.dcv_language.specs.Table.{Table, IsTable, next_in}
use Rattle.dcv_language.specs.declared.child.Child.{Child}
use Rattle.dcv_language.specs.declared.child.Child.TheVariants.{State, Node as AtNode}
use Rattle.dcv_automaton_text.specs.Meaning.{state_at, table_of}
use Rattle.dcv_automaton_text.specs.File.{AutomatonFile}
use Rattle.dcv_automaton_read.specs.File.{IsRead, state_line}
use Rattle.dcv_automaton_read.specs.Walk.{child_at, leaves_of, IsEarlier, AreOrdered}
use Rattle.dcv_automaton_read.specs.declared.nodes.Node.{Node}
use Rattle.dcv_automaton_read.specs.declared.file.Row.{Row}
use Rattle.dcv_automaton_read.proofs.Walks.{leads, earlier_child}
use Rattle.dcv_certify.proofs.BuiltSets.{some_row, count_of_rows}
use Rattle.dcv_language.proofs.Bounds.{next-below}
use Rattle.dcv_certify.specs.Steps.{LeadTo, IsStep, AreKept}
use Rattle.dcv_certify.specs.declared.steps.Step.{Step}

pub record LeadSoFar (table : Table) (letter : List Bool) (next : List ℕ) (count : ℕ) : Type 0 where
  pub count_is : length next ≡ count
  pub each : (state : ℕ) → state < count → get_or next state 0 ≡ next_in table state letter

pub states_below : (width : ℕ) (table : Table) (letter : List Bool) (next : List ℕ) (count : ℕ) → IsTable width table
    → LeadTo table letter next → length table < count → All (λ state. state < count) next
states_below width table letter next count is leads more state d within =
    let inside : state < length table = omega (arith, within, leads.count) in
    let same = get_or_default next state 0 d within in
    let below = subst (λ n. n < length table) (sym (leads.each state inside)) (next-below width table is state letter inside) in
    subst (λ n. n < count) same (omega (arith, below, more))

-- where no letter is kept
pub none_more : (kept : List (Option Step)) → ((place : ℕ) → get_or kept place None ≡ None) → (place : ℕ)
    → get_or (kept ++ None ∷ []) place None ≡ None
none_more [] none zero = refl
none_more [] none (suc place) = refl
none_more (step ∷ kept) none zero = none 0
none_more (step ∷ kept) none (suc place) = none_more kept (λ place. none (suc place)) place

pub none_kept : (kept : List (Option Step)) (table : Table) → 0 < length kept → ((place : ℕ) → get_or kept place None ≡ None)
    → AreKept table kept
none_kept kept table some none = record { some = some; each = λ place. subst (IsStep table) (sym (none place)) tt }

-- ---- the states of nodes, one after another

leaf_before : (leaves : List ℕ) (place : ℕ) (child : Child) → IsEarlier place child → state_at leaves child ≡ state_at (take place leaves) child
leaf_before leaves place (State number) earlier = refl
leaf_before leaves place (AtNode number) earlier = sym (get_or-take place leaves number 0 earlier)

-- one that is written in place
pub leaves_more : (width : ℕ) (letter : List Bool) (nodes : List Node) (leaves : List ℕ) (place : ℕ) (d : Node) → AreOrdered width nodes → place < length nodes
    → length leaves ≡ length nodes → take place leaves ≡ leaves_of letter (take place nodes)
    → take (place + 1) (set leaves place (state_at leaves (child_at letter (get_or nodes place d)))) ≡ leaves_of letter (take (place + 1) nodes)
unfolding leaves_of
leaves_more width letter nodes leaves place d ordered within same so_far =
    let leaf = λ (leaves : List ℕ) (node : Node). leaves ++ state_at leaves (child_at letter node) ∷ [] in
    let child = child_at letter (get_or nodes place d) in
    take-set_at leaves place (place + 1) (state_at leaves child) refl (omega (arith, within, same))
    ∙ ap (λ state. take place leaves ++ state ∷ []) (leaf_before leaves place child (earlier_child letter width place nodes d ordered within))
    ∙ ap (λ (leaves : List ℕ). leaves ++ state_at leaves child ∷ []) so_far
    ∙ sym (ap (fold leaf []) (take_at_read nodes place d within).1 ∙ fold-append leaf [] (take place nodes) (get_or nodes place d ∷ []))

-- ---- what comes next in each row

pub all_lead : (file : AutomatonFile) (nodes : List Node) → IsRead file nodes → (rows : List Row) → file.state_lines ≡ map state_line (enumerate_from 0 rows)
    → LetterStandsAtItsBits → (letter : List Bool) → length letter ≡ length file.names
    → LeadTo (table_of file) letter (map (λ (row : Row). state_at (leaves_of letter nodes) row.next) rows)
all_lead file nodes read rows lines stands letter width =
    let next = λ (row : Row). state_at (leaves_of letter nodes) row.next in
    let count = count_of_rows file rows lines in record {
      count = length-map rows next ∙ sym count;
      each = λ state inside.
          let within : state < length rows = omega (arith, inside, count) in
          get_or-map next rows state some_row 0 within ∙ leads file nodes read rows state some_row lines within stands letter width;
    }
