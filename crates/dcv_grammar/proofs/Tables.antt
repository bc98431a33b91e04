-- The rules of a grammar in its tables.
use Rattle.std.proofs.Common.{◌≡◌, ℕ, zero, suc, ◌+◌, ◌-◌, ◌<◌, ◌≤◌, List, [], ◌∷◌, ◌++◌, length, get_or, map, drop, Some, option_map, refl, sym, ap, ◌∙◌, subst, arith, add-one, drop-cons, length-append}
use Rattle.std.specs.Prelude.{slice_get}
use Rattle.std.specs.List.{flat_map}
use Rattle.std.specs.Borrow.{Bor}
use Rattle.std.proofs.lemmas.List.{length-map}
use Rattle.std.proofs.lemmas.Option.{slice_get-map, slice_get-get_or}
use Rattle.dcv_grammar.specs.declared.grammar.Production.{Production as ProductionTable}
use Rattle.dcv_grammar.specs.Grammar.{Production, production_of}

abbrev pub rules_in : List (Bor (List ProductionTable)) → List Production
rules_in tables = flat_map (λ table. map production_of table.now) tables

-- the rule of the number stands this far after in the tables from an index on
pub record IsLeft (tables : List (Bor (List ProductionTable))) (index behind number : ℕ) : Type 0 where
  pub within : behind < length (rules_in (drop index tables))
  pub same : slice_get (rules_in (drop index tables)) behind ≡ slice_get (rules_in tables) number

get_front : {A : Type 0} (xs ys : List A) (i : ℕ) → i < length xs → slice_get (xs ++ ys) i ≡ slice_get xs i
get_front [] ys i lt = absurd (omega arith)
get_front (x ∷ xs) ys zero lt = refl
get_front (x ∷ xs) ys (suc i) lt = get_front xs ys i (omega arith)

get_behind : {A : Type 0} (xs ys : List A) (i : ℕ) → length xs ≤ i → slice_get (xs ++ ys) i ≡ slice_get ys (i - length xs)
get_behind [] ys i le = ap (slice_get ys) (omega arith)
get_behind (x ∷ xs) ys zero le = absurd (omega arith)
get_behind (x ∷ xs) ys (suc i) le = let e : i - length xs ≡ suc i - length (x ∷ xs) = omega arith in get_behind xs ys i (omega arith) ∙ ap (slice_get ys) e

module _ (tables : List (Bor (List ProductionTable))) (index : ℕ) (d : Bor (List ProductionTable)) (lt : index < length tables) where
  rules_from : rules_in (drop index tables) ≡ map production_of (get_or tables index d).now ++ rules_in (drop (index + 1) tables)
  rules_from =
      let e : drop index tables ≡ get_or tables index d ∷ drop (index + 1) tables = rw (add-one, drop-cons tables index d) in
      ap rules_in e

  pub found_here : (behind number : ℕ) (r : ProductionTable) → IsLeft tables index behind number → behind < length (get_or tables index d).now → slice_get (rules_in tables) number ≡ Some (production_of (get_or (get_or tables index d).now behind r))
  found_here behind number r left here =
      let table = (get_or tables index d).now in
      let inside : behind < length (map production_of table) = subst (λ n. behind < n) (sym (length-map table production_of)) here in
      sym left.same ∙ ap (λ xs. slice_get xs behind) rules_from ∙ get_front (map production_of table) (rules_in (drop (index + 1) tables)) behind inside
      ∙ slice_get-map production_of table behind ∙ ap (option_map production_of) (slice_get-get_or table behind r here)

  pub found_later : (behind number : ℕ) → IsLeft tables index behind number → length (get_or tables index d).now ≤ behind → IsLeft tables (index + 1) (behind - length (get_or tables index d).now) number
  found_later behind number left past =
      let table = (get_or tables index d).now in
      let later = rules_in (drop (index + 1) tables) in
      let long : length (map production_of table) ≡ length table = length-map table production_of in
      let all : length (rules_in (drop index tables)) ≡ length (map production_of table) + length later = ap length rules_from ∙ length-append (map production_of table) later in
      let within = left.within in
      record {
        within = omega arith;
        same = ap (λ n. slice_get later (behind - n)) (sym long) ∙ sym (get_behind (map production_of table) later behind (omega arith)) ∙ sym (ap (λ xs. slice_get xs behind) rules_from) ∙ left.same;
      }
