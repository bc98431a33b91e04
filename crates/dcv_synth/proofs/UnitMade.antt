-- What is made of a controller is its unit: its statements one by one, and where its names stand.
use Rattle.std.proofs.Common.{◌≡◌, ℕ, zero, suc, ◌+◌, ◌<◌, ◌≤◌, List, [], ◌∷◌, ◌++◌, length, map, take, get_or, refl, sym, ap, ◌∙◌, arith, append_assoc}
use Rattle.std.specs.List.{range_with_len, enumerate_from}
use Rattle.std.proofs.lemmas.List.{map_push, length-map, get_or-map, get_or-append-add, get_or_append_left}
use Rattle.std.proofs.lemmas.List.FromFn.{length-range_with_len, get_or-range_with_len}
use Rattle.std.proofs.lemmas.Option.{slice_get-get_or}
use Rattle.dcv_language.specs.Limits.{most_nodes, number_bound}
use Rattle.dcv_language.specs.declared.child.Child.{Child}
use Rattle.dcv_language.specs.declared.child.Child.TheVariants.{State}
use Rattle.dcv_dfa.specs.NodeLines.{NodeLinesValue, AreReducedRows}
use Rattle.dcv_automaton_file.proofs.Rows.{range_more, numbered_more, below_more}
use Rattle.dcv_c.specs.declared.unit.Reset.{Reset}
use Rattle.dcv_c.specs.declared.unit.Step.{Step}
use Rattle.dcv_c.specs.Seen.{all_names, seen_assignment, seen_statement, seen_returned, seen_unit}
use Rattle.dcv_c.specs.Tree.{Statement, Read}
use Rattle.dcv_c.specs.Observer.{state_name, node_name, parameter_name}
use Rattle.dcv_synth.specs.Units.{ControlLines, output_name, output_node_name, reset_name, step_name, names_of_nodes, local_names, state_choices, all_state_choices}
use Rattle.dcv_synth.specs.Units.{statements_of, unit_of_lines}
use Rattle.dcv_synth.specs.Placing.{unit_names, HasNames, AreFitting}
use Rattle.dcv_synth.specs.declared.statements.Places.{Places}

-- ---- one more of a list

-- one more statement is pushed, which is what is wanted of one more item
pub numbered_pushed : {C X Z : Type 0} (see : C → Z) (say : ℕ × X → Z) (xs : List X) (k : ℕ) (d : X) → k < length xs
    → (first old new : List C) (pushed : C) → map see old ≡ map see first ++ map say (enumerate_from 0 (take k xs))
    → new ≡ old ++ pushed ∷ [] → see pushed ≡ say (k, get_or xs k d)
    → map see new ≡ map see first ++ map say (enumerate_from 0 (take (k + 1) xs))
numbered_pushed see say xs k d within first old new pushed before items one =
    let numbered = enumerate_from 0 (take k xs) in
    let more : map say (enumerate_from 0 (take (k + 1) xs)) ≡ map say numbered ++ say (k, get_or xs k d) ∷ [] =
    ap (map say) (numbered_more xs k d within) ∙ map_push say numbered (k, get_or xs k d) in
    ap (map see) items ∙ map_push see old pushed
    ∙ (λ i. before i ++ one i ∷ [])
    ∙ append_assoc (map see first) (map say numbered) (say (k, get_or xs k d) ∷ [])
    ∙ ap (λ zs. map see first ++ zs) (sym more)

-- two statements are pushed
pub both_pushed : {C Z : Type 0} (see : C → Z) (old mid new : List C) (first second : C) (one other : Z)
    → mid ≡ old ++ first ∷ [] → new ≡ mid ++ second ∷ [] → see first ≡ one → see second ≡ other → map see new ≡ map see old ++ (one ∷ other ∷ [])
both_pushed see old mid new first second one other pushed also is other_is =
    ap (map see) also ∙ map_push see mid second
    ∙ (λ i. (ap (map see) pushed ∙ map_push see old first) i ++ other_is i ∷ [])
    ∙ (λ i. (map see old ++ is i ∷ []) ++ other ∷ [])
    ∙ append_assoc (map see old) (one ∷ []) (other ∷ [])

rows_more : (states : List ℕ) (nexts outputs : List Child) (k : ℕ) → length nexts ≡ length states → length outputs ≡ length states → k < length states
    → all_state_choices (take (suc k) states) (take (suc k) nexts) (take (suc k) outputs)
    ≡ all_state_choices (take k states) (take k nexts) (take k outputs) ++ state_choices (get_or states k 0, (get_or nexts k (State 0), get_or outputs k (State 0)))
rows_more [] nexts outputs k next output within = absurd (omega (arith, within))
rows_more (state ∷ states) [] outputs k next output within = absurd (omega (arith, next))
rows_more (state ∷ states) (n ∷ nexts) [] k next output within = absurd (omega (arith, output))
rows_more (state ∷ states) (n ∷ nexts) (o ∷ outputs) zero next output within = refl
rows_more (state ∷ states) (n ∷ nexts) (o ∷ outputs) (suc k) next output within =
    ap (λ rest. state_choices (state, (n, o)) ++ rest) (rows_more states nexts outputs k (omega (arith, next)) (omega (arith, output)) (omega (arith, within)))

-- both statements of one more state are pushed
pub row_pushed : {C : Type 0} (see : C → Statement) (states : List ℕ) (nexts outputs : List Child) (k : ℕ)
    → length nexts ≡ length states → length outputs ≡ length states → k < length states
    → (first old new : List C) → map see old ≡ map see first ++ all_state_choices (take k states) (take k nexts) (take k outputs)
    → map see new ≡ map see old ++ state_choices (get_or states k 0, (get_or nexts k (State 0), get_or outputs k (State 0)))
    → map see new ≡ map see first ++ all_state_choices (take (k + 1) states) (take (k + 1) nexts) (take (k + 1) outputs)
row_pushed see states nexts outputs k next output within first old new before pushed =
    let row = state_choices (get_or states k 0, (get_or nexts k (State 0), get_or outputs k (State 0))) in
    let one : k + 1 ≡ suc k = omega arith in
    pushed ∙ ap (λ zs. zs ++ row) before
    ∙ append_assoc (map see first) (all_state_choices (take k states) (take k nexts) (take k outputs)) row
    ∙ ap (λ zs. map see first ++ zs)
    (sym (ap (λ n. all_state_choices (take n states) (take n nexts) (take n outputs)) one ∙ rows_more states nexts outputs k next output within))

pub nodes_more : (name : ℕ → List ℕ) (count : ℕ) → names_of_nodes name (count + 1) ≡ names_of_nodes name count ++ name count ∷ []
nodes_more name count =
    let here : 0 + count ≡ count = omega arith in
    ap (map name) (range_more 0 count) ∙ map_push name (range_with_len 0 count) (0 + count) ∙ ap (λ n. names_of_nodes name count ++ name n ∷ []) here

-- ---- all statements in turn

pub in_turn : {C Z : Type 0} (see : C → Z) (empty one two three four five six : List C) (first second last : C) (start next end : Z) (nodes others rows : List Z)
    → empty ≡ [] → one ≡ empty ++ first ∷ [] → see first ≡ start → two ≡ one ++ second ∷ [] → see second ≡ next
    → map see three ≡ map see two ++ nodes → map see four ≡ map see three ++ others → map see five ≡ map see four ++ rows
    → six ≡ five ++ last ∷ [] → see last ≡ end
    → map see six ≡ start ∷ next ∷ nodes ++ (others ++ (rows ++ end ∷ []))
in_turn see empty one two three four five six first second last start next end nodes others rows none pushed first_is also second_is third fourth fifth sixth last_is =
    let begin : map see one ≡ start ∷ [] = ap (map see) (pushed ∙ ap (λ e. e ++ first ∷ []) none) ∙ (λ i. first_is i ∷ []) in
    let both : map see two ≡ start ∷ next ∷ [] = ap (map see) also ∙ map_push see one second ∙ (λ i. begin i ++ second_is i ∷ []) in
    ap (map see) sixth ∙ map_push see five last
    ∙ (λ i. (fifth ∙ ap (λ zs. zs ++ rows) (fourth ∙ ap (λ zs. zs ++ others) (third ∙ ap (λ zs. zs ++ nodes) both))) i ++ last_is i ∷ [])
    ∙ append_assoc ((start ∷ next ∷ nodes) ++ others) rows (end ∷ [])
    ∙ append_assoc (start ∷ next ∷ nodes) others (rows ++ end ∷ [])

-- ---- where the names stand

module _ (names : List (List ℕ)) (places : Places) (outputs : ℕ) (count : length names ≡ places.inputs) where
  abbrev all : List (List ℕ)
  all = unit_names names places.nexts outputs

  parameters_count : length (map parameter_name names) ≡ places.inputs
  parameters_count = length-map names parameter_name ∙ count

  local_at : (k : ℕ) → get_or all (places.inputs + 1 + k) [] ≡ get_or (local_names places.nexts outputs) k []
  local_at k =
      let at : places.inputs + 1 + k ≡ suc (length (map parameter_name names) + k) = omega (arith, parameters_count) in
      ap (λ n. get_or all n []) at ∙ get_or-append-add (map parameter_name names) (local_names places.nexts outputs) k []

  pub has_names : HasNames names outputs places all
  has_names =
      record {
        count = count;
        state = refl;
        inputs = λ slot below.
            let at : 1 + slot ≡ suc slot = omega arith in
            ap (λ n. get_or all n []) at
            ∙ get_or_append_left (map parameter_name names) (local_names places.nexts outputs) [] slot (omega (arith, length-map names parameter_name, below))
            ∙ get_or-map parameter_name names slot [] [] below;
        next = ap (λ n. get_or all n []) (let at : places.inputs + 1 ≡ places.inputs + 1 + 0 = omega arith in at) ∙ local_at 0;
        output = ap (λ n. get_or all n []) (let at : places.inputs + 2 ≡ places.inputs + 1 + 1 = omega arith in at) ∙ local_at 1;
        next_nodes = λ k below.
            let at : places.inputs + 3 + k ≡ places.inputs + 1 + suc (suc k) = omega arith in
            ap (λ n. get_or all n []) at ∙ local_at (suc (suc k))
            ∙ first_in k below;
        output_nodes = λ k below.
            let at : places.inputs + 3 + places.nexts + k ≡ places.inputs + 1 + suc (suc (places.nexts + k)) = omega arith in
            ap (λ n. get_or all n []) at ∙ local_at (suc (suc (places.nexts + k)))
            ∙ last_in k below;
      }
    where
      first_in : (k : ℕ) → k < places.nexts → get_or (names_of_nodes node_name places.nexts ++ names_of_nodes output_node_name outputs) k [] ≡ node_name k
      first_in k below =
          get_or_append_left (names_of_nodes node_name places.nexts) (names_of_nodes output_node_name outputs) [] k
          (omega (arith, length-map (range_with_len 0 places.nexts) node_name, length-range_with_len 0 places.nexts, below))
          ∙ get_or-map node_name (range_with_len 0 places.nexts) k 0 [] (omega (arith, length-range_with_len 0 places.nexts, below))
          ∙ ap node_name (get_or-range_with_len 0 places.nexts k 0 below ∙ (let here : 0 + k ≡ k = omega arith in here))

      last_in : (k : ℕ) → k < outputs → get_or (names_of_nodes node_name places.nexts ++ names_of_nodes output_node_name outputs) (places.nexts + k) [] ≡ output_node_name k
      last_in k below =
          let size : places.nexts ≡ length (names_of_nodes node_name places.nexts) = omega (arith, length-map (range_with_len 0 places.nexts) node_name, length-range_with_len 0 places.nexts) in
          ap (λ n. get_or (names_of_nodes node_name places.nexts ++ names_of_nodes output_node_name outputs) (n + k) []) size
          ∙ get_or-append-add (names_of_nodes node_name places.nexts) (names_of_nodes output_node_name outputs) k []
          ∙ get_or-map output_node_name (range_with_len 0 outputs) k 0 [] (omega (arith, length-range_with_len 0 outputs, below))
          ∙ ap output_node_name (get_or-range_with_len 0 outputs k 0 below ∙ (let here : 0 + k ≡ k = omega arith in here))

-- ---- lines that fit

-- those of a reduced diagram do
pub lines_fit : (slots states : ℕ) (all : NodeLinesValue) → length all.lines ≤ most_nodes → AreReducedRows slots number_bound states all → AreFitting slots all
lines_fit slots states all few is =
    record {
      few = few;
      lines = λ k d within.
          let line = get_or all.lines k d in
          let one = is.lines k line (slice_get-get_or all.lines k d within) in
          record {
            slot = one.slot;
            hi = below_more number_bound k number_bound (length all.lines) line.hi (omega arith) (omega (arith, within)) one.hi_below;
            lo = below_more number_bound k number_bound (length all.lines) line.lo (omega arith) (omega (arith, within)) one.lo_below;
          };
      rows = is.rows;
    }

-- ---- the whole unit

pub record IsMade (all : ControlLines) (statics : List (List ℕ)) (reset : Reset) (step : Step) : Type 0 where
  pub statics_are : statics ≡ state_name ∷ []
  pub reset_is : reset.name ≡ reset_name
  pub assignments_are : reset.assignments.items ≡ record { name = 0; number = 0 } ∷ []
  pub step_is : step.name ≡ step_name
  pub parameters_are : step.parameters.items ≡ map parameter_name all.names
  pub locals_are : step.locals.items ≡ local_names (length all.next.lines) (length all.output.lines)
  pub statements_are : map (seen_statement (unit_names all.names (length all.next.lines) (length all.output.lines))) step.statements.items ≡ statements_of all
  pub returned_is : seen_returned (unit_names all.names (length all.next.lines) (length all.output.lines)) step.returned ≡ Read output_name

pub made_is_unit : (all : ControlLines) (statics : List (List ℕ)) (reset : Reset) (step : Step) → IsMade all statics reset step
    → seen_unit statics reset step ≡ unit_of_lines all
unfolding unit_of_lines
made_is_unit all statics reset step is =
    let names : all_names statics step.parameters.items step.locals.items ≡ unit_names all.names (length all.next.lines) (length all.output.lines) =
    (λ i. is.statics_are i ++ (is.parameters_are i ++ is.locals_are i)) in
    let assignments : map (seen_assignment (all_names statics step.parameters.items step.locals.items)) reset.assignments.items ≡ record { name = state_name; number = 0 } ∷ [] =
    (λ i. map (seen_assignment (names i)) (is.assignments_are i)) in
    let statements = ap (λ ns. map (seen_statement ns) step.statements.items) names ∙ is.statements_are in
    let returned = ap (λ ns. seen_returned ns step.returned) names ∙ is.returned_is in
    λ i. record {
      statics = is.statics_are i;
      reset = is.reset_is i;
      assignments = assignments i;
      step = is.step_is i;
      parameters = is.parameters_are i;
      locals = is.locals_are i;
      statements = statements i;
      returned = returned i;
    }
