-- Where a text is stuck in the functions.
use Rattle.std.proofs.Common.{◌≡◌, ℕ, zero, suc, ◌+◌, ◌<◌, ◌≤◌, Bool, List, [], ◌∷◌, ◌++◌, length, map, drop, get_or, refl, sym, ap, ◌∙◌, subst, arith}
use Rattle.std.specs.Prelude.{codes}
use Rattle.std.specs.List.{join_by, enumerate_from}
use Rattle.std.proofs.lemmas.List.{append_assoc, drop_all}
use Rattle.std.proofs.Math.Seq.{drop-cons}
use Rattle.std.specs.Borrow.{Bor}
use Rattle.std.proofs.lemmas.List.Elements.{All-nil, All-cons}
use Rattle.dcv_automaton_lines.specs.Pieces.{Exactly, IsStuckIn}
use Rattle.dcv_automaton_lines.proofs.Pieces.{append_none}
use Rattle.dcv_observer.specs.Layouts.{Each, Word}
use Rattle.dcv_c_tables.specs.Layout.{text_in, reset_lines, declaration, letter_line, if_some, at_line, loop_line}
use Rattle.dcv_c_tables.specs.Observer.{parameter_name}
use Rattle.dcv_tables_read.specs.Form.{IsNameWord}
use Rattle.dcv_tables_read.specs.Values.{words_in}
use Rattle.dcv_tables_read.specs.Parts.{IsUnique, AreNames, names_text, NamesOf, parameters_text, ParametersSet, body_text, step_text, StepSet}
use Rattle.dcv_tables_read.proofs.Chain.{stuck_in_front, stuck_in_back, stuck_same, stuck_otherwise, lead_first, lead_next, tail_first, tail_next, unique_lead, unique_tail}
use Rattle.dcv_tables_read.proofs.NameLists.{p_is, names_stuck, unique_names}

-- ---- the parameters

abbrev pub int_v : List ℕ
int_v = codes "int v_"

-- as many names
abbrev pub ps : ℕ → List (List ℕ)
ps zero = []
ps (suc count) = codes "p" ∷ ps count

pub ps_are : (count : ℕ) → AreNames count (ps count)
ps_are zero = record { many = refl; each = All-nil IsNameWord }
ps_are (suc count) = let next = ps_are count in record { many = ap suc next.many; each = All-cons IsNameWord (codes "p") (ps count) p_is next.each }

abbrev joined : List (List ℕ) → List ℕ
joined names = join_by (λ name. text_in (declaration name)) (codes ", ") (map parameter_name names)

abbrev opened : List ℕ
opened = codes ")\n{\n"

later_are : (name : List ℕ) (names : List (List ℕ)) → int_v ++ names_text (name ∷ names) ≡ joined (name ∷ names) ++ opened
later_are name [] = ap (λ t. int_v ++ t) (append_none (name ++ opened) ∙ ap (λ name. name ++ opened) (sym (append_none name)))
later_are name (next ∷ names) =
    ap (λ t. int_v ++ t)
    (append_assoc name (codes ", int v_") (names_text (next ∷ names)) ∙ ap (λ t. name ++ (codes ", " ++ t)) (later_are next names)
    ∙ sym (append_assoc name (codes ", " ++ joined (next ∷ names)) opened))

pub parameters_are : (names : List (List ℕ)) → 0 < length names → int_v ++ names_text names ≡ parameters_text names
parameters_are [] some = absurd (omega (arith, some))
parameters_are (name ∷ names) some = later_are name names

pub unique_parameters : (count : ℕ) → IsUnique (AreNames count) parameters_text
unique_parameters count [] [] a b x_is y_is same = refl
unique_parameters count [] (y ∷ ys) a b x_is y_is same = absurd (let none : 0 ≡ suc (length ys) = x_is.many ∙ sym y_is.many in omega arith)
unique_parameters count (x ∷ xs) [] a b x_is y_is same = absurd (let none : suc (length xs) ≡ 0 = x_is.many ∙ sym y_is.many in omega arith)
unique_parameters count (x ∷ xs) (y ∷ ys) a b x_is y_is same =
    unique_lead names_text int_v (unique_names count) (x ∷ xs) (y ∷ ys) a b x_is y_is
    (ap (λ w. w ++ a) (later_are x xs) ∙ same ∙ ap (λ w. w ++ b) (sym (later_are y ys)))

-- none
pub in_void : (count : ℕ) → count ≡ 0 → {text left : List ℕ} → IsStuckIn (Exactly (codes "void)\n{\n")) text left → IsStuckIn (ParametersSet count) text left
in_void count none stuck =
    stuck_same
    (λ text is. record { item = []; valid_item = record { many = sym none; each = All-nil IsNameWord }; is = is.is })
    (λ text is. record { is = is.is ∙ nothing is.item (is.valid_item.many ∙ none) })
    stuck
  where
    nothing : (names : List (List ℕ)) → length names ≡ 0 → parameters_text names ≡ codes "void)\n{\n"
    nothing [] same = refl
    nothing (name ∷ names) same = absurd (omega (arith, same))

module _ (count : ℕ) (some : 0 < count) where
  pub led_is : (names : List (List ℕ)) → AreNames count names → int_v ++ names_text names ≡ parameters_text names
  led_is names is = parameters_are names (let many = is.many in omega (arith, some, many))

  pub in_first : {text left : List ℕ} → IsStuckIn (Exactly int_v) text left → IsStuckIn (ParametersSet count) text left
  in_first stuck = stuck_otherwise led_is (lead_first names_text int_v (ps count) (ps_are count) stuck)

  pub in_names : {text first left : List ℕ} → text ≡ int_v ++ first → IsStuckIn (NamesOf count) first left → IsStuckIn (ParametersSet count) text left
  in_names whole stuck = stuck_otherwise led_is (lead_next names_text int_v whole (names_stuck count stuck))

  pub parameters_read : (names : List (List ℕ)) → AreNames count names → (text first rest : List ℕ) → text ≡ int_v ++ first → first ≡ names_text names ++ rest
      → text ≡ parameters_text names ++ rest
  parameters_read names is text first rest whole read =
      whole ∙ ap (λ t. int_v ++ t) read ∙ sym (append_assoc int_v (names_text names) rest) ∙ ap (λ t. t ++ rest) (led_is names is)

-- ---- all functions

module _ (integer : List ℕ) (some : Bool) (count : ℕ) where
  abbrev reset_text : List ℕ
  reset_text = text_in (reset_lines integer)

  abbrev tail : List (List ℕ) → List ℕ
  tail names = parameters_text names ++ body_text integer some names

  pub in_reset : {text left : List ℕ} → IsStuckIn (Exactly reset_text) text left → IsStuckIn (StepSet integer some count) text left
  in_reset stuck = lead_first tail reset_text (ps count) (ps_are count) stuck

  pub in_parameters : {text begun left : List ℕ} → text ≡ reset_text ++ begun → IsStuckIn (ParametersSet count) begun left → IsStuckIn (StepSet integer some count) text left
  in_parameters whole stuck = lead_next tail reset_text whole (tail_first parameters_text (body_text integer some) stuck)

  pub in_body : {text begun inside left : List ℕ} → text ≡ reset_text ++ begun → (names : List (List ℕ)) → AreNames count names → begun ≡ parameters_text names ++ inside
      → IsStuckIn (Exactly (body_text integer some names)) inside left → IsStuckIn (StepSet integer some count) text left
  in_body whole names is read stuck = lead_next tail reset_text whole (tail_next parameters_text (body_text integer some) (unique_parameters count) names is read stuck)

  pub step_read : (text begun inside rest : List ℕ) → text ≡ reset_text ++ begun → (names : List (List ℕ)) → begun ≡ parameters_text names ++ inside
      → inside ≡ body_text integer some names ++ rest → text ≡ step_text integer some names ++ rest
  step_read text begun inside rest whole names read last =
      whole ∙ ap (λ t. reset_text ++ t) (read ∙ ap (λ t. parameters_text names ++ t) last ∙ sym (append_assoc (parameters_text names) (body_text integer some names) rest))
      ∙ sym (append_assoc reset_text (tail names) rest)

  pub unique_step : IsUnique (AreNames count) (step_text integer some)
  unique_step = unique_lead tail reset_text (unique_tail parameters_text (body_text integer some) (unique_parameters count))

-- ---- the letter's lines

-- those from a place on
abbrev pub letters_from : ℕ → List (Bor (List ℕ)) → List ℕ
letters_from place names = text_in (Each letter_line (enumerate_from place (map parameter_name (words_in (drop place names)))))

pub letters_next : (names : List (Bor (List ℕ))) (place : ℕ) (other : Bor (List ℕ)) → place < length names
    → letters_from place names ≡ text_in (letter_line (place, parameter_name (get_or names place other).now)) ++ letters_from (place + 1) names
letters_next names place other within =
    let next : suc place ≡ place + 1 = omega arith in
    ap (λ (names : List (Bor (List ℕ))). text_in (Each letter_line (enumerate_from place (map parameter_name (words_in names))))) (drop-cons names place other within)
    ∙ ap (λ n. text_in (letter_line (place, parameter_name (get_or names place other).now)) ++ text_in (Each letter_line (enumerate_from (place + 1) (map parameter_name (words_in (drop n names)))))) next

pub letters_end : (names : List (Bor (List ℕ))) (place : ℕ) → length names ≤ place → letters_from place names ≡ []
letters_end names place past =
    ap (λ (names : List (Bor (List ℕ))). text_in (Each letter_line (enumerate_from place (map parameter_name (words_in names))))) (drop_all place names past)

-- ---- the body of a step

module _ (integer : List ℕ) (some : Bool) (names : List (List ℕ)) where
  abbrev locals : List ℕ
  locals = text_in (if_some some (Word (codes "  int letter[variables];\n")))

  abbrev at_text : List ℕ
  at_text = text_in (at_line integer)

  abbrev letters : List ℕ
  letters = text_in (if_some some (Each letter_line (enumerate_from 0 (map parameter_name names))))

  abbrev walk_text : List ℕ → List ℕ
  walk_text walked = codes "  at = row[st];\n" ++ (walked ++ codes "  st = at;\n  return accept[st];\n}\n")

  abbrev walk : List ℕ
  walk = text_in (if_some some loop_line)

  body_is : (locals ++ at_text) ++ (letters ++ walk_text walk) ≡ body_text integer some names
  body_is = append_assoc locals at_text (letters ++ walk_text walk)

  stuck_in_body : {text left : List ℕ} → IsStuckIn (Exactly ((locals ++ at_text) ++ (letters ++ walk_text walk))) text left → IsStuckIn (Exactly (body_text integer some names)) text left
  stuck_in_body {text = text} {left = left} stuck = subst (λ (word : List ℕ). IsStuckIn (Exactly word) text left) body_is stuck

  module _ (letter : List ℕ) (is : letter ≡ locals) where
    pub in_locals : {text left : List ℕ} → IsStuckIn (Exactly (letter ++ at_text)) text left → IsStuckIn (Exactly (body_text integer some names)) text left
    in_locals {text = text} {left = left} stuck =
        stuck_in_body (stuck_in_front (locals ++ at_text) (letters ++ walk_text walk) (subst (λ (word : List ℕ). IsStuckIn (Exactly (word ++ at_text)) text left) is stuck))

    module _ (text named : List ℕ) (whole : text ≡ (letter ++ at_text) ++ named) where
      opens : text ≡ (locals ++ at_text) ++ named
      opens = whole ∙ ap (λ word. (word ++ at_text) ++ named) is

      pub in_letters : {left : List ℕ} → IsStuckIn (Exactly letters) named left → IsStuckIn (Exactly (body_text integer some names)) text left
      in_letters stuck = stuck_in_body (stuck_in_back (locals ++ at_text) (letters ++ walk_text walk) opens (stuck_in_front letters (walk_text walk) stuck))

      module _ (after : List ℕ) (read : named ≡ letters ++ after) (walked : List ℕ) (walk_is : walked ≡ walk) where
        pub in_walk : {left : List ℕ} → IsStuckIn (Exactly (walk_text walked)) after left → IsStuckIn (Exactly (body_text integer some names)) text left
        in_walk {left = left} stuck =
            stuck_in_body (stuck_in_back (locals ++ at_text) (letters ++ walk_text walk) opens
            (stuck_in_back letters (walk_text walk) read (subst (λ (word : List ℕ). IsStuckIn (Exactly (walk_text word)) after left) walk_is stuck)))

        pub body_read : (rest : List ℕ) → after ≡ walk_text walked ++ rest → text ≡ body_text integer some names ++ rest
        body_read rest last =
            opens ∙ ap (λ t. (locals ++ at_text) ++ t) (read ∙ ap (λ t. letters ++ t) (last ∙ ap (λ word. walk_text word ++ rest) walk_is)
            ∙ sym (append_assoc letters (walk_text walk) rest))
            ∙ sym (append_assoc (locals ++ at_text) (letters ++ walk_text walk) rest) ∙ ap (λ t. t ++ rest) body_is
