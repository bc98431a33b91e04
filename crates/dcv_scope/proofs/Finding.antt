-- What a search along the code's lists finds is what stands under the name.
use Rattle.std.proofs.Common.{◌≡◌, ℕ, ◌+◌, suc, Bool, true, false, List, [], ◌∷◌, Option, Some, None, Bor, length, map, refl, sym, ap, ◌∙◌, arith}
use Rattle.std.specs.Prelude.{◌||◌, not, cond, bytes_eq}
use Rattle.std.specs.Bool.{then_some}
use Rattle.std.specs.List.{find, list_any, position_or_len}
use Rattle.std.specs.Option.{option_map, is_some, MatchOption}
use lib.Dec.{ltb}
use Rattle.std.proofs.lemmas.Bool.{lt-ltb, ltb-true, ltb_from_iff}
use Rattle.dcv_syntax.specs.declared.names.Name.{Name}
use Rattle.dcv_syntax.specs.declared.files.Macro.{Macro}
use Rattle.dcv_syntax.specs.Views.{plain_macro}
use Rattle.dcv_logic.specs.Environment.{found}
use Rattle.dcv_scope.specs.Names.{Signature, macro_in_sight, stands_in}
use Rattle.dcv_scope.specs.Sights.{signatures_of}
use Rattle.dcv_scope.specs.Expansions.{places_from}
use Rattle.dcv_scope.specs.Linear.{capped_macro}
use Rattle.dcv_scope.specs.Walk.{parameters_from, argument_at}

-- what is found by a name has the entry that stands under it
module _ {X Y : Type 0} (key : X → List ℕ) (value : X → Y) (name : List ℕ) where
  pub found_of_first : (xs : List X) → option_map value (find (λ (x : X). bytes_eq (key x) name) xs) ≡ found (map (λ (x : X). (key x, value x)) xs) name
  found_of_first [] = refl
  found_of_first (x ∷ xs) = here_or_later (bytes_eq (key x) name) (found_of_first xs)
    where
      here_or_later : (here : Bool)
          → option_map value (find (λ (x : X). bytes_eq (key x) name) xs) ≡ found (map (λ (x : X). (key x, value x)) xs) name
          → option_map value (cond here (Some x) (find (λ (x : X). bytes_eq (key x) name) xs))
          ≡ cond here (Some (value x)) (found (map (λ (x : X). (key x, value x)) xs) name)
      here_or_later true later = refl
      here_or_later false later = later

  pub found_by : (r : Option (Bor X)) (xs : List X) → option_map (λ (x : Bor X). x.now) r ≡ find (λ (x : X). bytes_eq (key x) name) xs
      → option_map (λ (x : Bor X). value x.now) r ≡ found (map (λ (x : X). (key x, value x)) xs) name
  found_by None xs is = ap (option_map value) is ∙ found_of_first xs
  found_by (Some x) xs is = ap (option_map value) is ∙ found_of_first xs

-- where every entry has one value, it is enough to know that there is one
module _ {X Y Z : Type 0} (key : X → List ℕ) (g : Y → Z) (value : Y) (name : List ℕ) where
  pub found_alike : (xs : List X) → then_some (list_any (λ (x : X). bytes_eq (key x) name) xs) (g value) ≡ option_map g (found (map (λ (x : X). (key x, value)) xs) name)
  found_alike [] = refl
  found_alike (x ∷ xs) = here_or_later (bytes_eq (key x) name) (found_alike xs)
    where
      here_or_later : (here : Bool)
          → then_some (list_any (λ (x : X). bytes_eq (key x) name) xs) (g value) ≡ option_map g (found (map (λ (x : X). (key x, value)) xs) name)
          → then_some (here || list_any (λ (x : X). bytes_eq (key x) name) xs) (g value)
          ≡ option_map g (cond here (Some value) (found (map (λ (x : X). (key x, value)) xs) name))
      here_or_later true later = refl
      here_or_later false later = later

-- an entry stands under a name exactly where some entry has the name
pub some_found : {Y : Type 0} (entries : List (List ℕ × Y)) (name : List ℕ)
    → is_some (found entries name) ≡ list_any (λ other. bytes_eq other name) (map (λ (e : List ℕ × Y). e.0) entries)
some_found [] name = refl
some_found {Y} (e ∷ entries) name = here_or_later (bytes_eq e.0 name) (some_found entries name)
  where
    here_or_later : (here : Bool)
        → is_some (found entries name) ≡ list_any (λ other. bytes_eq other name) (map (λ (e : List ℕ × Y). e.0) entries)
        → is_some (cond here (Some e.1) (found entries name))
        ≡ (here || list_any (λ other. bytes_eq other name) (map (λ (e : List ℕ × Y). e.0) entries))
    here_or_later true later = refl
    here_or_later false later = later

-- ---- macros

module _ (macros : List Macro) (name : List ℕ) (r : Option (Bor Macro))
    (is : option_map (λ (m : Bor Macro). m.now) r ≡ find (λ (m : Macro). bytes_eq m.name.text name) macros) where
  macro_found : option_map (λ (m : Bor Macro). (macro_in_sight (plain_macro m.now)).1) r ≡ found (signatures_of macros) name
  macro_found = found_by (λ (m : Macro). m.name.text) (λ (m : Macro). (macro_in_sight (plain_macro m)).1) name r macros is

  is_some-map : {X Y : Type 0} (f : X → Y) (o : Option X) → is_some o ≡ is_some (option_map f o)
  is_some-map f None = refl
  is_some-map f (Some x) = refl

  pub macro_taken : is_some r ≡ stands_in name (map (λ (m : List ℕ × Signature). m.0) (signatures_of macros))
  macro_taken = is_some-map (λ (m : Bor Macro). (macro_in_sight (plain_macro m.now)).1) r ∙ ap is_some macro_found ∙ some_found (signatures_of macros) name

  by_found : (o : Option (Bor Macro)) (under : Option Signature) → option_map (λ (m : Bor Macro). (macro_in_sight (plain_macro m.now)).1) o ≡ under
      → MatchOption o (under ≡ None) (λ (called : Bor Macro). under ≡ Some (macro_in_sight (plain_macro called.now)).1)
  by_found None under e = sym e
  by_found (Some m) under e = sym e

  pub macro_signature : MatchOption r (found (signatures_of macros) name ≡ None) (λ (called : Bor Macro). found (signatures_of macros) name ≡ Some (macro_in_sight (plain_macro called.now)).1)
  macro_signature = by_found r (found (signatures_of macros) name) macro_found

-- ---- places

abbrev pub place_in : List Name → List ℕ → ℕ
place_in names name = position_or_len (λ (n : Name). bytes_eq n.text name) names

one_less : (a b : ℕ) → ltb (1 + a) (suc b) ≡ ltb a b
one_less a b = sym (ltb_from_iff ((λ less. omega (arith, ltb-true a b less)), (λ less. lt-ltb a b (omega (arith, less)))))

found_at_place : (names : List Name) (name : List ℕ) (j : ℕ)
    → cond (ltb (place_in names name) (length names)) (Some (j + place_in names name)) None ≡ found (places_from j names) name
found_at_place [] name j = refl
found_at_place (n ∷ names) name j = here_or_later (bytes_eq n.text name) (place_in names name) (found_at_place names name (j + 1))
  where
    here_or_later : (here : Bool) (place : ℕ)
        → cond (ltb place (length names)) (Some (j + 1 + place)) None ≡ found (places_from (j + 1) names) name
        → cond (ltb (cond (not here) (1 + place) 0) (suc (length names))) (Some (j + cond (not here) (1 + place) 0)) None
        ≡ cond here (Some j) (found (places_from (j + 1) names) name)
    here_or_later true place later = let e : j + 0 ≡ j = omega arith in
        λ i. cond (lt-ltb 0 (suc (length names)) (omega arith) i) (Some (e i)) None
    here_or_later false place later =
        let e : j + (1 + place) ≡ j + 1 + place = omega arith in
        (λ i. cond (one_less place (length names) i) (Some (e i)) None) ∙ later

-- the place of the name, where it is in the list
pub place_found : (names : List Name) (name : List ℕ) → cond (ltb (place_in names name) (length names)) (Some (place_in names name)) None ≡ found (places_from 0 names) name
place_found names name =
    let e : place_in names name ≡ 0 + place_in names name = omega arith in
    ap (λ (k : ℕ). cond (ltb (place_in names name) (length names)) (Some k) None) e ∙ found_at_place names name 0

argument_from : (names : List Name) (name : List ℕ) (j : ℕ)
    → option_map (λ k. capped_macro (argument_at k)) (found (places_from j names) name) ≡ option_map capped_macro (found (parameters_from j names) name)
argument_from [] name j = refl
argument_from (n ∷ names) name j = here_or_later (bytes_eq n.text name) (argument_from names name (j + 1))
  where
    here_or_later : (here : Bool)
        → option_map (λ k. capped_macro (argument_at k)) (found (places_from (j + 1) names) name) ≡ option_map capped_macro (found (parameters_from (j + 1) names) name)
        → option_map (λ k. capped_macro (argument_at k)) (cond here (Some j) (found (places_from (j + 1) names) name))
        ≡ option_map capped_macro (cond here (Some (argument_at j)) (found (parameters_from (j + 1) names) name))
    here_or_later true later = refl
    here_or_later false later = later

pub argument_found : (names : List Name) (name : List ℕ) (r : Option ℕ) → r ≡ cond (ltb (place_in names name) (length names)) (Some (place_in names name)) None
    → option_map (λ k. capped_macro (argument_at k)) r ≡ option_map capped_macro (found (parameters_from 0 names) name)
argument_found names name r is = ap (option_map (λ k. capped_macro (argument_at k))) (is ∙ place_found names name) ∙ argument_from names name 0
