-- A node whose equations stand in order has one trace over each word.
--     StandsInOrder node      what the rules of names say of the names and the equations
use Rattle.std.proofs.Common.{◌≡◌, Bool, true, false, List, [], ◌∷◌, length, map, Option, Some, inl, inr, refl, sym, ap, subst, ◌∙◌, arith}
use Rattle.std.specs.List.{All, AllByRecursion}
use Rattle.std.proofs.lemmas.List.{length-map}
use Rattle.std.proofs.lemmas.List.Elements.{All-from_recursion, recursion_from_All}
use Rattle.std.proofs.lemmas.Bool.{cases_Bool, false_from_ne_true, both_ways}
use Rattle.dcv_word.specs.Behaviour.{Word}
use Rattle.dcv_observer.specs.Naming.{is_among, AreDistinct}
use Rattle.dcv_observer.proofs.Naming.{Name, distinct_front, among_append_left}
use Rattle.dcv_lustre.specs.Tree.{Value, Truth, Equation, Node}
use Rattle.dcv_lustre.specs.Meaning.{Values, Valuation, names_of, value_in, inputs_at, right_value, IsInstant, IsTraceFrom}
use Rattle.dcv_lustre.proofs.Lookups.{lookup, lookup_map, lookup_absent, maps_agree, map_lookup}
use Rattle.dcv_lustre.proofs.Runs.{run, IsInOrder, IsOnNoLeft, run_keeps, run_holds, run_is_one}

pub record StandsInOrder (node : Node) : Type 0 where
  pub distinct : AreDistinct (names_of node)
  pub order : IsInOrder node.equations
  -- an input is on no left side
  pub inputs_free : (name : Name) → is_among node.inputs name ≡ true → IsOnNoLeft node.equations name
  -- what is on no left side is an input, or no name of the node
  pub others_set : (name : Name) → IsOnNoLeft node.equations name → is_among node.inputs name ≡ false → is_among (names_of node) name ≡ false
  -- what is no name of the node is on no left side
  pub names_set : (name : Name) → is_among (names_of node) name ≡ false → IsOnNoLeft node.equations name

module _ (node : Node) (is : StandsInOrder node) (before : Option Values) (letter : List Bool) (width : length (inputs_at node letter) ≡ length node.inputs) where
  abbrev truths : List Value
  truths = map Truth (inputs_at node letter)

  abbrev start : Values
  start = lookup node.inputs truths

  abbrev end : Values
  end = run before start node.equations

  size : length truths ≡ length node.inputs
  size = length-map (inputs_at node letter) Truth ∙ width

  abbrev count : length (map end (names_of node)) ≡ length (names_of node)
  count = length-map (names_of node) end

  start_elsewhere : (name : Name) → is_among node.inputs name ≡ false → start name ≡ Truth false
  start_elsewhere name other = lookup_absent node.inputs truths name other (omega (arith, size))

  inputs_elsewhere : (name : Name) → is_among (names_of node) name ≡ false → is_among node.inputs name ≡ false
  inputs_elsewhere name none = false_from_ne_true (is_among node.inputs name) (λ some.
      both_ways (is_among (names_of node) name) none (among_append_left node.inputs _ name some))

  -- the valuation has for each name what the run leaves there
  value_is_end : (name : Name) → value_in node (map end (names_of node)) name ≡ end name
  value_is_end name =
      elim (cases_Bool (is_among (names_of node) name)) [
        | inl some ↦ lookup_map end (names_of node) name some
        | inr none ↦
            lookup_absent (names_of node) (map end (names_of node)) name none (omega (arith, count))
            ∙ sym (run_keeps before node.equations start name (is.names_set name none) ∙ start_elsewhere name (inputs_elsewhere name none))
      ]

  pub instant_exists : IsInstant node before (map end (names_of node)) letter
  instant_exists =
      let ends : value_in node (map end (names_of node)) ≡ end = λ i name. value_is_end name i in
      record {
        count = count;
        inputs =
            maps_agree (value_in node (map end (names_of node))) start node.inputs (λ name input.
            value_is_end name ∙ run_keeps before node.equations start name (is.inputs_free name input))
            ∙ map_lookup node.inputs truths (distinct_front node.inputs _ is.distinct) size;
        equations =
            subst (λ (values : Values). All (λ (equation : Equation). values equation.left ≡ right_value before values equation.right) node.equations)
            (sym ends)
            (All-from_recursion (λ (equation : Equation). end equation.left ≡ right_value before end equation.right) node.equations (run_holds before node.equations start is.order));
      }

  pub instant_is_one : (now : Valuation) → IsInstant node before now letter → now ≡ map end (names_of node)
  instant_is_one now instant =
      let values = value_in node now in
      let given : (name : Name) → IsOnNoLeft node.equations name → values name ≡ start name =
      λ name free.
      elim (cases_Bool (is_among node.inputs name)) [
        | inl input ↦ sym (ap (λ (vs : List Value). lookup node.inputs vs name) (sym instant.inputs) ∙ lookup_map values node.inputs name input)
        | inr other ↦
            lookup_absent (names_of node) now name (is.others_set name free other) (omega (arith, instant.count))
            ∙ sym (start_elsewhere name other)
      ] in
      let same : (name : Name) → values name ≡ end name =
      run_is_one before node.equations start values is.order given
      (recursion_from_All (λ (equation : Equation). values equation.left ≡ right_value before values equation.right) node.equations instant.equations) in
      sym (map_lookup (names_of node) now is.distinct instant.count) ∙ maps_agree values end (names_of node) (λ name h. same name)

-- ---- traces

module _ (node : Node) (is : StandsInOrder node) where
  pub trace_exists : (before : Option Values) (word : Word) → AllByRecursion (λ letter. length (inputs_at node letter) ≡ length node.inputs) word
      → (trace : List Valuation) × IsTraceFrom node before word trace
  trace_exists before [] widths = ([], tt)
  trace_exists before (letter ∷ word) widths =
      let now = map (run before (lookup node.inputs (map Truth (inputs_at node letter))) node.equations) (names_of node) in
      let later = trace_exists (Some (value_in node now)) word widths.1 in
      (now ∷ later.0, (instant_exists node is before letter widths.0, later.1))

  width_at : (before : Option Values) (now : Valuation) (letter : List Bool) → IsInstant node before now letter
      → length (inputs_at node letter) ≡ length node.inputs
  width_at before now letter instant =
      sym (length-map (inputs_at node letter) Truth) ∙ ap length (sym instant.inputs) ∙ length-map node.inputs (value_in node now)

  pub trace_is_one : (before : Option Values) (word : Word) (trace other : List Valuation) → IsTraceFrom node before word trace
      → IsTraceFrom node before word other → trace ≡ other
  trace_is_one before [] [] [] h k = refl
  trace_is_one before [] [] (now ∷ other) h k = absurd k
  trace_is_one before [] (now ∷ trace) other h k = absurd h
  trace_is_one before (letter ∷ word) [] other h k = absurd h
  trace_is_one before (letter ∷ word) (now ∷ trace) [] h k = absurd k
  trace_is_one before (letter ∷ word) (now ∷ trace) (then ∷ other) h k =
      let width = width_at before now letter h.0 in
      let one : now ≡ then = instant_is_one node is before letter width now h.0 ∙ sym (instant_is_one node is before letter width then k.0) in
      let later = trace_is_one (Some (value_in node now)) word trace other h.1 (subst (λ v. IsTraceFrom node (Some (value_in node v)) word other) (sym one) k.1) in
      λ i. one i ∷ later i
