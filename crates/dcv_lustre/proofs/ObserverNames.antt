-- The names of a file's observer: each is declared once.
use Rattle.std.proofs.Common.{◌≡◌, ◌≢◌, ℕ, ◌+◌, ◌<◌, ◌^◌, false, true, List, [], ◌∷◌, ◌++◌, length, map, inl, inr, refl, sym, subst, arith}
use Rattle.std.specs.Prelude.{bytes_eq}
use Rattle.std.specs.List.{AllPairs, filter}
use Rattle.std.proofs.lemmas.Bool.{or_from, or_cases, false_from_ne_true, both_ways}
use Rattle.dcv_automaton_text.specs.File.{NodeLine}
use Rattle.dcv_automaton_file.proofs.ObservedFiles.{GoodLines}
use Rattle.dcv_observer.specs.Naming.{is_among, AreDistinct}
use Rattle.dcv_observer.proofs.Naming.{Name, one_name, distinct_append}
use Rattle.dcv_observer.proofs.ObserverNames.{node_names, each_node, next_is_no_node, among_no_nodes, nodes_are_distinct, among_no_variables}
use Rattle.dcv_observer.proofs.ObserverNames.{variables_are_distinct}
use Rattle.dcv_lustre.specs.Tree.{OfTruth, OfNumber, Local}
use Rattle.dcv_lustre.specs.Meaning.{ok, tick}
use Rattle.dcv_lustre.specs.Rules.{is_same_kind}
use Rattle.dcv_lustre.specs.Observer.{state_name, next_name, node_name, input_name, input_names, node_local}

-- ---- names of locals

module _ (names : List Name) (most : ℕ) where
  pub names_of_locals : (number : ℕ) (lines : List NodeLine) → GoodLines names most number lines
      → map (λ (local : Local). local.name) (map node_local lines) ≡ node_names number lines
  names_of_locals number [] good = refl
  names_of_locals number (line ∷ lines) good = λ i. node_name (good.0.number_is i) ∷ names_of_locals (number + 1) lines good.1 i

  pub numbers_of_locals : (number : ℕ) (lines : List NodeLine) → GoodLines names most number lines
      → map (λ (local : Local). local.name) (filter (λ (local : Local). is_same_kind OfNumber local.kind) (map node_local lines)) ≡ node_names number lines
  numbers_of_locals number [] good = refl
  numbers_of_locals number (line ∷ lines) good = λ i. node_name (good.0.number_is i) ∷ numbers_of_locals (number + 1) lines good.1 i

pub truths_of_locals : (lines : List NodeLine)
    → map (λ (local : Local). local.name) (filter (λ (local : Local). is_same_kind OfTruth local.kind) (map node_local lines)) ≡ []
truths_of_locals [] = refl
truths_of_locals (line ∷ lines) = truths_of_locals lines

-- ---- all names of an observer

-- what begins with another letter than `v` and `t` is no input
abbrev pub IsNoInput : Name → Type 0
IsNoInput name = (bytes_eq name tick ≡ false) × ((other : Name) → bytes_eq name (input_name other) ≡ false)

pub no_input : (name : Name) (names : List Name) → IsNoInput name → is_among (input_names names) name ≡ false
no_input name [] is = or_from (bytes_eq name tick) false is.0 refl
no_input name (n ∷ names) is = among_no_variables name (n ∷ names) is.1

pub all_inputs_distinct : (names : List Name) → AllPairs ◌≢◌ names → AreDistinct (input_names names)
all_inputs_distinct [] differ = (refl, tt)
all_inputs_distinct (n ∷ names) differ = variables_are_distinct (n ∷ names) differ

module _ (names : List Name) (lines : List NodeLine) (differ : AllPairs ◌≢◌ names) (few : length lines < 2 ^ 32) where
  abbrev pub locals : List Name
  locals = state_name ∷ next_name ∷ node_names 0 lines

  small : (k : ℕ) → k < 0 + length lines → k < 2 ^ 64
  small k below = omega arith

  pub locals_distinct : AreDistinct (state_name ∷ next_name ∷ node_names 0 lines)
  locals_distinct = (
    or_from (bytes_eq state_name next_name) _ refl (among_no_nodes state_name 0 lines (λ k from below. refl)),
    (among_no_nodes next_name 0 lines (λ k from below. next_is_no_node k (small k below)), nodes_are_distinct 0 lines (omega arith)),
  )

  pub output_is_no_local : is_among (state_name ∷ next_name ∷ node_names 0 lines) ok ≡ false
  output_is_no_local =
      or_from (bytes_eq ok state_name) _ refl (or_from (bytes_eq ok next_name) _ refl (among_no_nodes ok 0 lines (λ k from below. refl)))

  no_node_is_input : (name : Name) → is_among (node_names 0 lines) name ≡ true → is_among (input_names names) name ≡ false
  no_node_is_input name among =
      each_node (λ (n : Name). is_among (input_names names) n ≡ false) (λ k. no_input (node_name k) names (refl, λ other. refl)) 0 lines name among

  pub others_are_no_inputs : (name : Name) → is_among (ok ∷ state_name ∷ next_name ∷ node_names 0 lines) name ≡ true → is_among (input_names names) name ≡ false
  others_are_no_inputs name among =
      elim (or_cases (bytes_eq name ok) (is_among (state_name ∷ next_name ∷ node_names 0 lines) name) among) [
        | inl same ↦ fixed ok same (refl, λ other. refl)
        | inr more ↦ elim (or_cases (bytes_eq name state_name) (is_among (next_name ∷ node_names 0 lines) name) more) [
          | inl same ↦ fixed state_name same (refl, λ other. refl)
          | inr last ↦ elim (or_cases (bytes_eq name next_name) (is_among (node_names 0 lines) name) last) [
            | inl same ↦ fixed next_name same (refl, λ other. refl)
            | inr node ↦ no_node_is_input name node
          ]
        ]
      ]
    where
      fixed : (other : Name) → bytes_eq name other ≡ true → IsNoInput other → is_among (input_names names) name ≡ false
      fixed other same is = subst (λ (n : Name). is_among (input_names names) n ≡ false) (sym (one_name name other same)) (no_input other names is)

  pub all_distinct : AreDistinct (input_names names ++ (ok ∷ state_name ∷ next_name ∷ node_names 0 lines))
  all_distinct =
      distinct_append (input_names names) (ok ∷ state_name ∷ next_name ∷ node_names 0 lines) (all_inputs_distinct names differ)
      (output_is_no_local, locals_distinct)
      (λ name input. false_from_ne_true (is_among (ok ∷ state_name ∷ next_name ∷ node_names 0 lines) name) (λ other.
      both_ways (is_among (input_names names) name) (others_are_no_inputs name other) input))
