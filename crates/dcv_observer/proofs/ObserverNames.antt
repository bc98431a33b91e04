-- The names of an observer that is made of an automaton.
--     node_names number lines       those of nodes with numbers from this one on, one for each line
use Rattle.std.proofs.Common.{◌≡◌, ◌≢◌, ℕ, suc, ◌+◌, ◌<◌, ◌≤◌, ◌^◌, true, false, List, [], ◌∷◌, length, map, get_or, inl, inr, refl, sym, ap, subst, ◌∙◌, arith}
use Rattle.std.proofs.Common.{decimal}
use Rattle.std.specs.Prelude.{bytes_eq, nat_eq}
use Rattle.std.specs.List.{AllPairs}
use Rattle.std.specs.Str.Parse.{AllDigits}
use Rattle.std.proofs.lemmas.Bool.{cases_Bool, or_from, or_left, or_right, or_cases, false≢true, both_ways}
use Rattle.std.proofs.lemmas.Fmt.{decimal_injective, decimal_is_IsNumeral}
use Rattle.std.proofs.lemmas.Str.Parse.{digit_from_value}
use Rattle.dcv_observer.specs.Naming.{is_among, AreDistinct, next_name, node_name, variable_name}
use Rattle.dcv_observer.proofs.Naming.{Name, is_itself, one_name, differs, differs_back}

-- ---- nodes

abbrev pub node_names : {Line : Type 0} → ℕ → List Line → List Name
node_names number [] = []
node_names number (line ∷ lines) = node_name number ∷ node_names (number + 1) lines

no_decimal : (number : ℕ) → number < 2 ^ 64 → bytes_eq (120 ∷ []) (decimal number) ≡ false
no_decimal number small =
    differs (120 ∷ []) (decimal number) (λ same.
    omega (arith, digit_from_value 120 (subst (AllDigits 10) (sym same) (decimal_is_IsNumeral number small).0.1).0))

pub next_is_no_node : (number : ℕ) → number < 2 ^ 64 → bytes_eq next_name (node_name number) ≡ false
next_is_no_node number small = no_decimal number small

pub node_is_not_next : (number : ℕ) → number < 2 ^ 64 → bytes_eq (node_name number) next_name ≡ false
node_is_not_next number small = differs_back next_name (node_name number) (next_is_no_node number small)

pub node_is_no_other : (number other : ℕ) → number < 2 ^ 64 → other < 2 ^ 64 → number ≢ other → bytes_eq (node_name number) (node_name other) ≡ false
node_is_no_other number other small also differ =
    differs (node_name number) (node_name other) (λ same.
    let decimals : decimal number ≡ decimal other = cc in
    differ (decimal_injective number other small also decimals))

module _ {Line : Type 0} where
  -- what is so of the names of all nodes
  pub each_node : (P : Name → Type 0) → ((k : ℕ) → P (node_name k)) → (number : ℕ) (lines : List Line) (name : Name)
      → is_among (node_names number lines) name ≡ true → P name
  each_node P all number [] name among = absurd (false≢true among)
  each_node P all number (line ∷ lines) name among =
      elim (or_cases (bytes_eq name (node_name number)) (is_among (node_names (number + 1) lines) name) among) [
        | inl same ↦ subst P (sym (one_name name (node_name number) same)) (all number)
        | inr later ↦ each_node P all (number + 1) lines name later
      ]

  -- a name that differs from those of all nodes is among none of them
  pub among_no_nodes : (name : Name) (number : ℕ) (lines : List Line)
      → ((k : ℕ) → number ≤ k → k < number + length lines → bytes_eq name (node_name k) ≡ false) → is_among (node_names number lines) name ≡ false
  among_no_nodes name number [] other = refl
  among_no_nodes name number (line ∷ lines) other =
      or_from (bytes_eq name (node_name number)) (is_among (node_names (number + 1) lines) name)
      (other number (omega arith) (omega arith))
      (among_no_nodes name (number + 1) lines (λ k from below. other k (omega arith) (omega arith)))

  pub nodes_are_distinct : (number : ℕ) (lines : List Line) → number + length lines < 2 ^ 64 → AreDistinct (node_names number lines)
  nodes_are_distinct number [] small = tt
  nodes_are_distinct number (line ∷ lines) small = (
    among_no_nodes (node_name number) (number + 1) lines (λ k from below. node_is_no_other number k (omega arith) (omega arith) (λ same. omega (arith, same))),
    nodes_are_distinct (number + 1) lines (omega arith),
  )

  pub node_is_among : (number : ℕ) (lines : List Line) (k : ℕ) → number ≤ k → k < number + length lines
      → is_among (node_names number lines) (node_name k) ≡ true
  node_is_among number [] k from below = absurd (omega arith)
  node_is_among number (line ∷ lines) k from below =
      elim (cases_Bool (nat_eq k number)) [
        | inl same ↦
            let e : k ≡ number = grind arith in
            or_left _ _ (ap (λ n. bytes_eq (node_name k) (node_name n)) (sym e) ∙ is_itself (node_name k))
        | inr other ↦
            let e : k ≡ number → ⊥ = λ same. both_ways (nat_eq k number) other (grind (arith, same)) in
            or_right _ _ (node_is_among (number + 1) lines k (grind (arith, e)) (omega arith))
      ]

-- ---- variables

abbrev rest_of : List ℕ → List ℕ
rest_of [] = []
rest_of (a ∷ []) = []
rest_of (a ∷ b ∷ bytes) = bytes

pub variable_injective : (name other : Name) → variable_name name ≡ variable_name other → name ≡ other
variable_injective name other same = ap rest_of same

-- a name that begins with another letter than `v` is no name of a variable
pub among_no_variables : (name : Name) (names : List Name) → ((other : Name) → bytes_eq name (variable_name other) ≡ false)
    → is_among (map variable_name names) name ≡ false
among_no_variables name [] other = refl
among_no_variables name (n ∷ names) other =
    or_from (bytes_eq name (variable_name n)) (is_among (map variable_name names) name) (other n) (among_no_variables name names other)

once : (name : Name) (names : List Name) → ((k : ℕ) → k < length names → get_or names k [] ≢ name)
    → is_among (map variable_name names) (variable_name name) ≡ false
once name [] other = refl
once name (n ∷ names) other =
    or_from (bytes_eq (variable_name name) (variable_name n)) (is_among (map variable_name names) (variable_name name))
    (differs (variable_name name) (variable_name n) (λ same. other 0 (omega arith) (sym (variable_injective name n same))))
    (once name names (λ k within. other (suc k) (omega arith)))

pub variables_are_distinct : (names : List Name) → AllPairs ◌≢◌ names → AreDistinct (map variable_name names)
variables_are_distinct [] differ = tt
variables_are_distinct (name ∷ names) differ = (
  once name names (λ k within same. differ 0 (suc k) [] (omega arith) (omega arith) (sym same)),
  variables_are_distinct names (λ i j d before within. differ (suc i) (suc j) d (omega arith) (omega arith)),
)

pub variable_is_among : (names : List Name) (name : Name) → is_among names name ≡ true → is_among (map variable_name names) (variable_name name) ≡ true
variable_is_among [] name among = absurd (false≢true among)
variable_is_among (n ∷ names) name among =
    elim (or_cases (bytes_eq name n) (is_among names name) among) [
      | inl same ↦ or_left _ _ (subst (λ (other : Name). bytes_eq (variable_name name) (variable_name other) ≡ true) (one_name name n same) (is_itself (variable_name name)))
      | inr later ↦ or_right _ _ (variable_is_among names name later)
    ]

-- what is so of the names of all variables
pub each_variable : (P : Name → Type 0) → ((name : Name) → P (variable_name name)) → (names : List Name) (name : Name)
    → is_among (map variable_name names) name ≡ true → P name
each_variable P all [] name among = absurd (false≢true among)
each_variable P all (n ∷ names) name among =
    elim (or_cases (bytes_eq name (variable_name n)) (is_among (map variable_name names) name) among) [
      | inl same ↦ subst P (sym (one_name name (variable_name n) same)) (all n)
      | inr later ↦ each_variable P all names name later
    ]
