-- The names of a controller's unit: each is declared once.
use Rattle.std.proofs.Common.{◌≡◌, ℕ, zero, suc, ◌+◌, ◌<◌, ◌≤◌, ◌^◌, true, false, List, ◌∷◌, ◌++◌, map, inl, inr, refl, sym, ap, subst, ◌∙◌, arith}
use Rattle.std.specs.Prelude.{bytes_eq, nat_eq}
use Rattle.std.specs.List.{range_with_len}
use Rattle.std.proofs.lemmas.Bool.{cases_Bool, or_from, or_left, or_right, or_cases, false≢true, both_ways}
use Rattle.dcv_language.specs.Limits.{most_nodes}
use Rattle.dcv_observer.specs.Naming.{is_among, AreDistinct}
use Rattle.dcv_observer.proofs.Naming.{Name, is_itself, one_name, among_later, among_append_left, among_append_right, among_append_cases, among_neither, distinct_append}
use Rattle.dcv_observer.proofs.ObserverNames.{next_is_no_node, node_is_no_other}
use Rattle.dcv_c.specs.Observer.{next_name, node_name}
use Rattle.dcv_synth.specs.Units.{output_name, output_node_name, names_of_nodes, local_names}

-- ---- names by numbers

module _ (name : ℕ → Name) where
  -- what is so of all of them
  pub each_name : (P : Name → Type 0) → ((k : ℕ) → P (name k)) → (first count : ℕ) (one : Name) → is_among (map name (range_with_len first count)) one ≡ true → P one
  each_name P all first zero one among = absurd (false≢true among)
  each_name P all first (suc count) one among =
      elim (or_cases (bytes_eq one (name first)) (is_among (map name (range_with_len (first + 1) count)) one) among) [
        | inl same ↦ subst P (sym (one_name one (name first) same)) (all first)
        | inr later ↦ each_name P all (first + 1) count one later
      ]

  pub among_none : (one : Name) (first count : ℕ) → ((k : ℕ) → first ≤ k → k < first + count → bytes_eq one (name k) ≡ false)
      → is_among (map name (range_with_len first count)) one ≡ false
  among_none one first zero other = refl
  among_none one first (suc count) other =
      or_from (bytes_eq one (name first)) (is_among (map name (range_with_len (first + 1) count)) one)
      (other first (omega arith) (omega arith))
      (among_none one (first + 1) count (λ k from below. other k (omega (arith, from)) (omega (arith, below))))

  pub name_among : (first count k : ℕ) → first ≤ k → k < first + count → is_among (map name (range_with_len first count)) (name k) ≡ true
  name_among first zero k from below = absurd (omega (arith, from, below))
  name_among first (suc count) k from below =
      elim (cases_Bool (nat_eq k first)) [
        | inl same ↦
            let e : k ≡ first = grind arith in
            or_left _ _ (ap (λ n. bytes_eq (name k) (name n)) (sym e) ∙ is_itself (name k))
        | inr other ↦
            let e : k ≡ first → ⊥ = λ same. both_ways (nat_eq k first) other (grind (arith, same)) in
            or_right _ _ (name_among (first + 1) count k (grind (arith, e, from)) (omega (arith, below)))
      ]

  pub names_distinct : (first count : ℕ) → ((k j : ℕ) → k < j → j < first + count → bytes_eq (name k) (name j) ≡ false) → AreDistinct (map name (range_with_len first count))
  names_distinct first zero differ = tt
  names_distinct first (suc count) differ = (
    among_none (name first) (first + 1) count (λ k from below. differ first k (omega (arith, from)) (omega (arith, below))),
    names_distinct (first + 1) count (λ k j before within. differ k j before (omega (arith, within))),
  )

-- ---- the names of both kinds of nodes

pub node_differs : (k j : ℕ) → k < 2 ^ 64 → j < 2 ^ 64 → (k ≡ j → ⊥) → bytes_eq (node_name k) (node_name j) ≡ false
node_differs k j small also differ = node_is_no_other k j small also differ

pub output_node_differs : (k j : ℕ) → k < 2 ^ 64 → j < 2 ^ 64 → (k ≡ j → ⊥) → bytes_eq (output_node_name k) (output_node_name j) ≡ false
output_node_differs k j small also differ = node_is_no_other k j small also differ

-- ---- the locals

module _ (nexts outputs : ℕ) (few_nexts : nexts ≤ most_nodes) (few_outputs : outputs ≤ most_nodes) where
  abbrev both : List Name
  both = names_of_nodes node_name nexts ++ names_of_nodes output_node_name outputs

  none_of_both : (one : Name) → ((k : ℕ) → k < 2 ^ 64 → bytes_eq one (node_name k) ≡ false) → ((k : ℕ) → bytes_eq one (output_node_name k) ≡ false)
      → is_among both one ≡ false
  none_of_both one first second =
      among_neither (names_of_nodes node_name nexts) (names_of_nodes output_node_name outputs) one
      (among_none node_name one 0 nexts (λ k from below. first k (omega (arith, below, few_nexts))))
      (among_none output_node_name one 0 outputs (λ k from below. second k))

  nexts_are_no_outputs : (one : Name) → is_among (names_of_nodes node_name nexts) one ≡ true → is_among (names_of_nodes output_node_name outputs) one ≡ false
  nexts_are_no_outputs =
      each_name node_name (λ one. is_among (names_of_nodes output_node_name outputs) one ≡ false)
      (λ k. among_none output_node_name (node_name k) 0 outputs (λ j from below. refl)) 0 nexts

  nodes_distinct : AreDistinct both
  nodes_distinct =
      distinct_append (names_of_nodes node_name nexts) (names_of_nodes output_node_name outputs)
      (names_distinct node_name 0 nexts (λ k j before within.
      node_differs k j (omega (arith, before, within, few_nexts)) (omega (arith, within, few_nexts)) (λ same. omega (arith, same, before))))
      (names_distinct output_node_name 0 outputs (λ k j before within.
      output_node_differs k j (omega (arith, before, within, few_outputs)) (omega (arith, within, few_outputs)) (λ same. omega (arith, same, before))))
      nexts_are_no_outputs

  pub locals_distinct : AreDistinct (local_names nexts outputs)
  locals_distinct = (
    or_from (bytes_eq next_name output_name) (is_among both next_name) refl (none_of_both next_name (λ k small. next_is_no_node k small) (λ k. refl)),
    (none_of_both output_name (λ k small. refl) (λ k. refl), nodes_distinct),
  )

  pub output_among : is_among (local_names nexts outputs) output_name ≡ true
  output_among = refl

  pub node_among : (k : ℕ) → k < nexts → is_among (local_names nexts outputs) (node_name k) ≡ true
  node_among k below =
      among_later next_name (output_name ∷ both) (node_name k)
      (among_later output_name both (node_name k)
      (among_append_left (names_of_nodes node_name nexts) (names_of_nodes output_node_name outputs) (node_name k)
      (name_among node_name 0 nexts k (omega arith) (omega (arith, below)))))

  pub output_node_among : (k : ℕ) → k < outputs → is_among (local_names nexts outputs) (output_node_name k) ≡ true
  output_node_among k below =
      among_later next_name (output_name ∷ both) (output_node_name k)
      (among_later output_name both (output_node_name k)
      (among_append_right (names_of_nodes node_name nexts) (names_of_nodes output_node_name outputs) (output_node_name k)
      (name_among output_node_name 0 outputs k (omega arith) (omega (arith, below)))))

  -- what is so of all of them
  pub each_local : (P : Name → Type 0) → P next_name → P output_name → ((k : ℕ) → P (node_name k)) → ((k : ℕ) → P (output_node_name k))
      → (one : Name) → is_among (local_names nexts outputs) one ≡ true → P one
  each_local P next output first second one among =
      elim (or_cases (bytes_eq one next_name) (is_among (output_name ∷ both) one) among) [
        | inl same ↦ subst P (sym (one_name one next_name same)) next
        | inr later ↦ elim (or_cases (bytes_eq one output_name) (is_among both one) later) [
          | inl same ↦ subst P (sym (one_name one output_name same)) output
          | inr nodes ↦ elim (among_append_cases (names_of_nodes node_name nexts) (names_of_nodes output_node_name outputs) one nodes) [
            | inl front ↦ each_name node_name P first 0 nexts one front
            | inr back ↦ each_name output_node_name P second 0 outputs one back
          ]
        ]
      ]

  pub no_local : (one : Name) → bytes_eq one next_name ≡ false → bytes_eq one output_name ≡ false → ((k : ℕ) → bytes_eq one (node_name k) ≡ false)
      → ((k : ℕ) → bytes_eq one (output_node_name k) ≡ false) → is_among (local_names nexts outputs) one ≡ false
  no_local one next output first second =
      or_from (bytes_eq one next_name) (is_among (output_name ∷ both) one) next
      (or_from (bytes_eq one output_name) (is_among both one) output (none_of_both one (λ k small. first k) second))
