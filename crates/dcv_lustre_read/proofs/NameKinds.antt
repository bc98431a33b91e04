-- What the rules ask of a name, by its row.
use Rattle.std.proofs.Common.{◌≡◌, ℕ, Bool, true, false, not, cond, ◌&&◌, ◌||◌, List, [], ◌∷◌, ◌++◌, map, refl, sym, ap, subst, ◌∙◌, inl, inr}
use Rattle.std.specs.Prelude.{bytes_eq}
use Rattle.std.specs.List.{filter}
use Rattle.std.proofs.lemmas.Bool.{cases_Bool, or_parts, or_left, or_right, or_cases, both_ways, false≢true, false_from_ne_true}
use Rattle.dcv_observer.specs.Conditions.{Names}
use Rattle.dcv_observer.specs.Naming.{is_among, AreDistinct}
use Rattle.dcv_observer.proofs.Naming.{one_name, among_append_left, among_append_right, among_append_cases, distinct_apart, distinct_behind}
use Rattle.dcv_lustre.specs.Tree.{Kind, OfTruth, OfNumber, Local, Node}
use Rattle.dcv_lustre.specs.Meaning.{ok, local_names, names_of}
use Rattle.dcv_lustre.specs.Rules.{is_same_kind, names_of_kind, kind_of, keeps_name}
use Rattle.dcv_lustre_read.specs.Scope.{Row, Knows, IsFoundAs}

abbrev pub of_kind : Kind → List Local → Names
of_kind kind locals = map (λ (local : Local). local.name) (filter (λ (local : Local). is_same_kind kind local.kind) locals)

abbrev pub named : List Local → Names
named locals = map (λ (local : Local). local.name) locals

-- of locals, with this kind of the first
abbrev pub with_first : Kind → Kind → Local → List Local → Names
with_first asked kind local locals =
    let others = filter (λ (local : Local). is_same_kind asked local.kind) locals in
    map (λ (local : Local). local.name) (cond (is_same_kind asked kind) (local ∷ others) others)

-- ---- locals

of_kind_among : (kind : Kind) (locals : List Local) (name : List ℕ) → is_among (of_kind kind locals) name ≡ true → is_among (named locals) name ≡ true
of_kind_among kind [] name h = h
of_kind_among kind (local ∷ locals) name h = by_kind (of_kind_among kind locals name) (is_same_kind kind local.kind) refl
  where
    in_front : Bool → Type 0
    in_front b = let others = filter (λ (local : Local). is_same_kind kind local.kind) locals in is_among (map (λ (local : Local). local.name) (cond b (local ∷ others) others)) name ≡ true

    by_kind : (is_among (of_kind kind locals) name ≡ true → is_among (named locals) name ≡ true) → (b : Bool) → is_same_kind kind local.kind ≡ b → is_among (named (local ∷ locals)) name ≡ true
    by_kind also true same =
        let here : is_among (local.name ∷ of_kind kind locals) name ≡ true =
        subst in_front same h in
        elim (or_cases (bytes_eq name local.name) _ here) [
          | inl is ↦ or_left _ _ is
          | inr more ↦ or_right (bytes_eq name local.name) _ (also more)
        ]
    by_kind also false other =
        let behind : is_among (of_kind kind locals) name ≡ true =
        subst in_front other h in
        or_right (bytes_eq name local.name) _ (also behind)

pub none_of_kind : (kind : Kind) (locals : List Local) (name : List ℕ) → is_among (named locals) name ≡ false → is_among (of_kind kind locals) name ≡ false
none_of_kind kind locals name none = false_from_ne_true (is_among (of_kind kind locals) name) (λ some. both_ways (is_among (named locals) name) none (of_kind_among kind locals name some))

-- a local is a number where it is no truth
numbers_are : (locals : List Local) (name : List ℕ) → AreDistinct (named locals) → is_among (named locals) name ≡ true
    → is_among (of_kind OfNumber locals) name ≡ not (is_among (of_kind OfTruth locals) name)
numbers_are [] name distinct among = absurd (false≢true among)
numbers_are (local ∷ locals) name distinct among = by_kind (numbers_are locals name distinct.1) local.kind refl
  where
    later : bytes_eq name local.name ≡ false → is_among (named locals) name ≡ true
    later other = elim (or_cases (bytes_eq name local.name) (is_among (named locals) name) among) [
      | inl is ↦ absurd (both_ways (bytes_eq name local.name) other is)
      | inr more ↦ more
    ]

    no_more : bytes_eq name local.name ≡ true → is_among (named locals) name ≡ false
    no_more is = ap (is_among (named locals)) (one_name name local.name is) ∙ distinct.0

    at_kind : (is_among (named locals) name ≡ true → is_among (of_kind OfNumber locals) name ≡ not (is_among (of_kind OfTruth locals) name))
        → (kind : Kind) → is_among (with_first OfNumber kind local locals) name ≡ not (is_among (with_first OfTruth kind local locals) name)
    at_kind also OfTruth =
        elim (cases_Bool (bytes_eq name local.name)) [
          | inl is ↦ none_of_kind OfNumber locals name (no_more is) ∙ ap (λ (b : Bool). not (b || is_among (of_kind OfTruth locals) name)) (sym is)
          | inr other ↦ also (later other) ∙ ap (λ (b : Bool). not (b || is_among (of_kind OfTruth locals) name)) (sym other)
        ]
    at_kind also OfNumber =
        elim (cases_Bool (bytes_eq name local.name)) [
          | inl is ↦ ap (λ (b : Bool). b || is_among (of_kind OfNumber locals) name) is ∙ ap not (sym (none_of_kind OfTruth locals name (no_more is)))
          | inr other ↦ ap (λ (b : Bool). b || is_among (of_kind OfNumber locals) name) other ∙ also (later other)
        ]

    by_kind : (is_among (named locals) name ≡ true → is_among (of_kind OfNumber locals) name ≡ not (is_among (of_kind OfTruth locals) name))
        → (kind : Kind) → kind ≡ local.kind → is_among (of_kind OfNumber (local ∷ locals)) name ≡ not (is_among (of_kind OfTruth (local ∷ locals)) name)
    by_kind also kind is = subst (λ (k : Kind). is_among (with_first OfNumber k local locals) name ≡ not (is_among (with_first OfTruth k local locals) name)) is (at_kind also kind)

-- ---- a node's names

pub no_input : (inputs more : Names) (name : List ℕ) → is_among inputs name ≡ false → is_among (inputs ++ more) name ≡ is_among more name
no_input [] more name none = refl
no_input (i ∷ inputs) more name none =
    let both = or_parts (bytes_eq name i) (is_among inputs name) none in
    ap (λ (b : Bool). b || is_among (inputs ++ more) name) both.0 ∙ no_input inputs more name both.1

same_as_number : (b : Bool) → is_same_kind OfNumber (cond b OfTruth OfNumber) ≡ not b
same_as_number true = refl
same_as_number false = refl

same_as_truth : (b : Bool) → is_same_kind OfTruth (cond b OfTruth OfNumber) ≡ b
same_as_truth true = refl
same_as_truth false = refl

not_both : (a b : Bool) → b ≡ false → (a && b) ≡ false
not_both true b is = is
not_both false b is = refl

module _ (node : Node) (distinct : AreDistinct (names_of node)) (name : List ℕ) where
  local_distinct : AreDistinct (ok ∷ local_names node)
  local_distinct = distinct_behind node.inputs (ok ∷ local_names node) distinct

  no_number : is_among (node.inputs ++ (ok ∷ of_kind OfTruth node.locals)) name ≡ true → is_among (of_kind OfNumber node.locals) name ≡ false
      → is_among (of_kind OfNumber node.locals) name ≡ is_same_kind OfNumber (kind_of node name)
  no_number truth none = none ∙ ap not (sym truth) ∙ sym (same_as_number (is_among (names_of_kind OfTruth node) name))

  number_kind : is_among (names_of node) name ≡ true → is_among (of_kind OfNumber node.locals) name ≡ is_same_kind OfNumber (kind_of node name)
  number_kind among =
      elim (among_append_cases node.inputs (ok ∷ local_names node) name among) [
        | inl input ↦
            no_number (among_append_left node.inputs _ name input)
            (none_of_kind OfNumber node.locals name
            (false_from_ne_true (is_among (local_names node) name) (λ some.
            both_ways (is_among node.inputs name) (distinct_apart node.inputs (ok ∷ local_names node) distinct name (or_right (bytes_eq name ok) _ some)) input)))
        | inr later ↦ elim (or_cases (bytes_eq name ok) (is_among (local_names node) name) later) [
          | inl is ↦
              no_number (among_append_right node.inputs (ok ∷ of_kind OfTruth node.locals) name (or_left _ _ is))
              (none_of_kind OfNumber node.locals name (ap (is_among (local_names node)) (one_name name ok is) ∙ local_distinct.0))
          | inr local ↦
              numbers_are node.locals name local_distinct.1 local
              ∙ ap not (sym (only_truths local))
              ∙ sym (same_as_number (is_among (names_of_kind OfTruth node) name))
        ]
      ]
    where
      only_truths : is_among (local_names node) name ≡ true → is_among (names_of_kind OfTruth node) name ≡ is_among (of_kind OfTruth node.locals) name
      only_truths local =
          no_input node.inputs (ok ∷ of_kind OfTruth node.locals) name (distinct_apart node.inputs (ok ∷ local_names node) distinct name (or_right (bytes_eq name ok) _ local))
          ∙ ap (λ (b : Bool). b || is_among (of_kind OfTruth node.locals) name)
          (false_from_ne_true (bytes_eq name ok) (λ is. both_ways (is_among (local_names node) name) (ap (is_among (local_names node)) (one_name name ok is) ∙ local_distinct.0) local))

  pub of_its_kind : (kind : Kind) → is_among (names_of node) name ≡ true → is_among (names_of_kind kind node) name ≡ is_same_kind kind (kind_of node name)
  of_its_kind OfTruth among = sym (same_as_truth (is_among (names_of_kind OfTruth node) name))
  of_its_kind OfNumber among = number_kind among

  pub of_no_kind : (kind : Kind) → is_among (names_of node) name ≡ false → is_among (names_of_kind kind node) name ≡ false
  of_no_kind kind none = false_from_ne_true (is_among (names_of_kind kind node) name) (λ some. both_ways (is_among (names_of node) name) none (also kind some))
    where
      also : (kind : Kind) → is_among (names_of_kind kind node) name ≡ true → is_among (names_of node) name ≡ true
      also OfTruth some = elim (among_append_cases node.inputs (ok ∷ of_kind OfTruth node.locals) name some) [
        | inl input ↦ among_append_left node.inputs _ name input
        | inr later ↦ among_append_right node.inputs (ok ∷ local_names node) name
            (elim (or_cases (bytes_eq name ok) (is_among (of_kind OfTruth node.locals) name) later) [
              | inl is ↦ or_left _ _ is
              | inr local ↦ or_right (bytes_eq name ok) _ (of_kind_among OfTruth node.locals name local)
            ])
      ]
      also OfNumber some = among_append_right node.inputs (ok ∷ local_names node) name (or_right (bytes_eq name ok) _ (of_kind_among OfNumber node.locals name some))

pub names_distinct : (node : Node) (earlier names : Names) (rows : List Row) → Knows node earlier names rows → AreDistinct (names_of node)
names_distinct node earlier names rows knows = (subst AreDistinct knows.all knows.distinct).1

module _ (node : Node) (earlier names : Names) (rows : List Row) (knows : Knows node earlier names rows) (name : List ℕ) (kind : Kind) where
  distinct : AreDistinct (names_of node)
  distinct = names_distinct node earlier names rows knows

  pub unknown_name : is_among (names_of node) name ≡ false → keeps_name node (node.inputs ++ earlier) kind name ≡ false
  unknown_name none = not_both (is_among (node.inputs ++ earlier) name) _ (of_no_kind node distinct name kind none)

  pub unknown_delayed : is_among (names_of node) name ≡ false → is_among (names_of_kind kind node) name ≡ false
  unknown_delayed none = of_no_kind node distinct name kind none

  pub delayed_as : (row : Row) → IsFoundAs node earlier name row → is_among (names_of_kind kind node) name ≡ is_same_kind kind row.kind
  delayed_as row found = of_its_kind node distinct name kind found.among ∙ ap (is_same_kind kind) (sym found.kind)

  pub name_as : (row : Row) → IsFoundAs node earlier name row → keeps_name node (node.inputs ++ earlier) kind name ≡ (row.is_known && is_same_kind kind row.kind)
  name_as row found = let same = delayed_as row found in λ i. (sym found.is_known) i && same i
