-- The left side of an equation, and what is known after the equation.
use Rattle.std.proofs.Common.{◌≡◌, ℕ, Bool, true, false, not, ◌&&◌, ◌||◌, List, []}
use Rattle.std.proofs.Common.{◌∷◌, ◌++◌, map, Option, refl, sym, ap, subst, ◌∙◌, inl, inr, append_assoc}
use Rattle.std.specs.Prelude.{bytes_eq}
use Rattle.std.specs.List.{list_all}
use Rattle.std.proofs.lemmas.List.{append-nil}
use Rattle.std.proofs.lemmas.Bool.{or_left, or_right, both_ways, false_from_ne_true}
use Rattle.dcv_lexer.specs.Cuts.{Token}
use Rattle.dcv_observer.specs.Conditions.{Names}
use Rattle.dcv_observer.specs.Naming.{is_among, AreDistinct}
use Rattle.dcv_observer.proofs.Naming.{is_itself, among_append_left, among_append_right, among_append_cases, distinct_apart}
use Rattle.dcv_lustre.specs.declared.node.Equation.{Equation as CodeEquation}
use Rattle.dcv_lustre.specs.Tree.{Equation, Node}
use Rattle.dcv_lustre.specs.Meaning.{ok, local_names, names_of}
use Rattle.dcv_lustre.specs.Placed.{equation_of}
use Rattle.dcv_lustre.specs.Seen.{seen_equation as equation_seen}
use Rattle.dcv_lustre.specs.Rules.{keeps_left, keeps_form, keeps_equation, keeps_equations, lefts_of, words_of_right, has_all_equations}
use Rattle.dcv_lustre_read.specs.declared.scope.Declaration.{Declaration}
use Rattle.dcv_lustre_read.specs.declared.placed.PlacedEquation.{PlacedEquation}
use Rattle.dcv_lustre_read.specs.Seen.{seen_equation}
use Rattle.dcv_lustre_read.specs.Scope.{Row, seen_row, IsRow, Knows, KnowsAll, IsFoundAs, as_known}
use Rattle.dcv_observer.specs.Judged.{IsLeft}
use Rattle.dcv_lustre_read.specs.Judged.{words_of_equations}
use Rattle.dcv_observer.specs.Rows.{changed}
use Rattle.dcv_observer.proofs.Rows.{all_rows, change_rows}
use Rattle.dcv_lustre_read.proofs.NameKinds.{names_distinct, no_input}
use Rattle.dcv_observer.proofs.SoFar.{one_more}
use Rattle.dcv_observer.proofs.Declaring.{or_turned}

-- ---- left sides

lost_first : (a e f : Bool) → a ≡ false → ((a && not e) && f) ≡ false
lost_first a e f is = ap (λ (b : Bool). (b && not e) && f) is

lost_second : (a e f : Bool) → e ≡ true → ((a && not e) && f) ≡ false
lost_second true e f is = ap (λ (b : Bool). not b && f) is
lost_second false e f is = refl

module _ (node : Node) (earlier names : Names) (rows : List Row) (knows : Knows node earlier names rows) (equation : Equation) where
  distinct : AreDistinct (names_of node)
  distinct = names_distinct node earlier names rows knows

  no_left : is_among (ok ∷ local_names node) equation.left ≡ false → keeps_left node earlier equation ≡ false
  no_left none = lost_first (is_among (ok ∷ local_names node) equation.left) (is_among earlier equation.left) (keeps_form node equation.left equation.right) none

  module _ (row : Row) (found : IsFoundAs node earlier equation.left row) where
    pub known_left : row.is_known ≡ true → keeps_left node earlier equation ≡ false
    known_left known =
        elim (among_append_cases node.inputs earlier equation.left (sym found.is_known ∙ known)) [
          | inl input ↦
              no_left (false_from_ne_true (is_among (ok ∷ local_names node) equation.left) (λ some.
              both_ways (is_among node.inputs equation.left) (distinct_apart node.inputs (ok ∷ local_names node) distinct equation.left some) input))
          | inr before ↦ lost_second (is_among (ok ∷ local_names node) equation.left) (is_among earlier equation.left) (keeps_form node equation.left equation.right) before
        ]

-- ---- a name that is known from now on

module _ (node : Node) (earlier : Names) (left : List ℕ) where
  other_known : (inputs : Names) (name : List ℕ) → bytes_eq name left ≡ false → is_among (inputs ++ earlier) name ≡ is_among (inputs ++ (left ∷ earlier)) name
  other_known [] name other = ap (λ (b : Bool). b || is_among earlier name) (sym other)
  other_known (i ∷ inputs) name other = ap (λ (b : Bool). bytes_eq name i || b) (other_known inputs name other)

  known_still : (place : ℕ) (name : List ℕ) (row : Row) → bytes_eq name left ≡ false → IsRow node earlier place name row → IsRow node (left ∷ earlier) place name row
  known_still place name row other is = record { is_at = is.is_at; kind = is.kind; is_known = is.is_known ∙ other_known node.inputs name other }

  known_now : (place : ℕ) (row : Row) → IsRow node earlier place left row → IsRow node (left ∷ earlier) place left (as_known row)
  known_now place row is =
      record { is_at = is.is_at; kind = is.kind; is_known = sym (among_append_right node.inputs (left ∷ earlier) left (or_left _ _ (is_itself left))) }

  marked_knows : (names : Names) (rows : List Row) (row : Row) → Knows node earlier names rows → IsFoundAs node earlier left row
      → Knows node (left ∷ earlier) names (changed as_known row.place rows)
  marked_knows names rows row knows found =
      record {
        all = knows.all;
        distinct = knows.distinct;
        are_rows =
            change_rows (IsRow node earlier) (IsRow node (left ∷ earlier)) as_known left known_still known_now 0 (names_of node) rows row.place
            (names_distinct node earlier names rows knows) knows.are_rows found.within found.is;
      }

  pub marked_then : (names : Names) (rows : List Row) (row : Row) {names_then : Names} {rows_then : List Row} → Knows node earlier names rows → IsFoundAs node earlier left row
      → names_then ≡ names → rows_then ≡ changed as_known row.place rows → Knows node (left ∷ earlier) names_then rows_then
  marked_then names rows row {names_then = names_then} {rows_then = rows_then} knows found same marks =
      subst (λ (ns : Names). Knows node (left ∷ earlier) ns rows_then) (sym same)
      (subst (λ (rs : List Row). Knows node (left ∷ earlier) names rs) (sym marks) (marked_knows names rows row knows found))

-- ---- one more equation

no_or : (b : Bool) → (b || false) ≡ b
no_or true = refl
no_or false = refl

-- the equations so far, of all, and what is left
pub record AreEquationsSoFar (node : Node) (whole : Option ℕ) (words : List Token) (keeps : List Bool) (all : List PlacedEquation)
    (made : List CodeEquation) (later : List PlacedEquation) (names : Names) (rows : List Row) : Type 0 where
  pub earlier : Names
  pub knows : Knows node earlier names rows
  pub are_made : map (equation_seen (names_of node)) made ++ map equation_of (map seen_equation later) ≡ map equation_of (map seen_equation all)
  pub are_lefts : (name : List ℕ) → (is_among earlier name || is_among (lefts_of (map equation_of (map seen_equation later))) name)
      ≡ is_among (lefts_of (map equation_of (map seen_equation all))) name
  pub left : IsLeft whole (words_of_equations (map seen_equation later) ++ words) (keeps_equations node earlier (map equation_of (map seen_equation later)) ++ keeps)

module _ (node : Node) (whole : Option ℕ) (words : List Token) (keeps : List Bool) (all : List PlacedEquation) where
  module _ (made : List CodeEquation) (equation : PlacedEquation) (later : List PlacedEquation) (names : Names) (rows : List Row)
      (sofar : AreEquationsSoFar node whole words keeps all made (equation ∷ later) names rows) where
    -- the words of the next one, and those after it
    pub equation_left : IsLeft whole ((seen_equation equation).left ∷ (words_of_right (seen_equation equation).right ++ (words_of_equations (map seen_equation later) ++ words)))
        (keeps_equation node sofar.earlier (equation_of (seen_equation equation))
        ++ (keeps_equations node ((seen_equation equation).left.bytes ∷ sofar.earlier) (map equation_of (map seen_equation later)) ++ keeps))
    equation_left =
        let here = words_of_right (seen_equation equation).right in
        let there = words_of_equations (map seen_equation later) in
        let kept_here = keeps_equation node sofar.earlier (equation_of (seen_equation equation)) in
        let kept_there = keeps_equations node ((seen_equation equation).left.bytes ∷ sofar.earlier) (map equation_of (map seen_equation later)) in
        subst (λ (ws : List Token). IsLeft whole ((seen_equation equation).left ∷ ws) (kept_here ++ (kept_there ++ keeps))) (append_assoc here there words)
        (subst (λ (ks : List Bool). IsLeft whole ((seen_equation equation).left ∷ ((here ++ there) ++ words)) ks) (append_assoc kept_here kept_there keeps) sofar.left)

    pub equations_more : (more : List CodeEquation) (x : CodeEquation) (names_then : Names) (rows_then : List Row) → more ≡ made ++ x ∷ []
        → (equation_seen (names_of node) x ≡ equation_of (seen_equation equation)) × Knows node ((seen_equation equation).left.bytes ∷ sofar.earlier) names_then rows_then
        × IsLeft whole (words_of_equations (map seen_equation later) ++ words)
        (keeps_equations node ((seen_equation equation).left.bytes ∷ sofar.earlier) (map equation_of (map seen_equation later)) ++ keeps)
        → AreEquationsSoFar node whole words keeps all more later names_then rows_then
    equations_more more x names_then rows_then pushed this =
        record {
          earlier = (seen_equation equation).left.bytes ∷ sofar.earlier;
          knows = this.1;
          are_made = one_more (equation_seen (names_of node)) equation_of made more x (seen_equation equation) (map seen_equation later)
              (map equation_of (map seen_equation all)) pushed this.0 sofar.are_made;
          are_lefts = λ name.
              sym (or_turned (is_among sofar.earlier name) (bytes_eq name (seen_equation equation).left.bytes) (is_among (lefts_of (map equation_of (map seen_equation later))) name))
              ∙ sofar.are_lefts name;
          left = this.2;
        }

  pub equations_end : (made : List CodeEquation) (names : Names) (rows : List Row) → AreEquationsSoFar node whole words keeps all made [] names rows
      → (map (equation_seen (names_of node)) made ≡ map equation_of (map seen_equation all)) × KnowsAll node (map equation_of (map seen_equation all)) names rows × IsLeft whole words keeps
  equations_end made names rows sofar = (
    sym (append-nil (map (equation_seen (names_of node)) made)) ∙ sofar.are_made,
    record { earlier = sofar.earlier; knows = sofar.knows; are_lefts = λ name. sym (no_or (is_among sofar.earlier name)) ∙ sofar.are_lefts name },
    sofar.left,
  )

-- ---- whether all have one

inputs_known : (inputs more earlier others : Names) → ((name : List ℕ) → is_among others name ≡ true → is_among inputs name ≡ true)
    → list_all (is_among (inputs ++ earlier)) (others ++ more) ≡ list_all (is_among (inputs ++ earlier)) more
inputs_known inputs more earlier [] among = refl
inputs_known inputs more earlier (name ∷ others) among =
    ap (λ (b : Bool). b && list_all (is_among (inputs ++ earlier)) (others ++ more)) (among_append_left inputs earlier name (among name (or_left _ _ (is_itself name))))
    ∙ inputs_known inputs more earlier others (λ n h. among n (or_right (bytes_eq n name) _ h))

others_known : (inputs earlier lefts names : Names) → ((name : List ℕ) → is_among names name ≡ true → is_among inputs name ≡ false)
    → ((name : List ℕ) → is_among earlier name ≡ is_among lefts name) → list_all (is_among (inputs ++ earlier)) names ≡ list_all (is_among lefts) names
others_known inputs earlier lefts [] apart same = refl
others_known inputs earlier lefts (name ∷ names) apart same =
    let head = no_input inputs earlier name (apart name (or_left _ _ (is_itself name))) ∙ same name in
    let tail = others_known inputs earlier lefts names (λ n h. apart n (or_right (bytes_eq n name) _ h)) same in
    λ i. head i && tail i

pub all_known : (node : Node) (names : Names) (items : List Declaration) → KnowsAll node node.equations names (map seen_row items)
    → list_all (λ (name : Declaration). name.known) items ≡ has_all_equations node
all_known node names items k =
    let distinct = names_distinct node k.earlier names (map seen_row items) k.knows in
    all_rows seen_row (IsRow node k.earlier) (λ name. name.known) (is_among (node.inputs ++ k.earlier)) (λ n name item is. is.is_known) 0 (names_of node) items k.knows.are_rows
    ∙ inputs_known node.inputs (ok ∷ local_names node) k.earlier node.inputs (λ name h. h)
    ∙ others_known node.inputs k.earlier (lefts_of node.equations) (ok ∷ local_names node) (λ name h. distinct_apart node.inputs (ok ∷ local_names node) distinct name h) k.are_lefts
