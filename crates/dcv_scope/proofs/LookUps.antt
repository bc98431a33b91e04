-- What is found under a name, and what the loops over shares write.
use Rattle.std.proofs.Common.{◌≡◌, ℕ, zero, suc, ◌+◌, ◌-◌, ◌<◌, ◌≤◌, Bool, true, false, cond, List, [], ◌∷◌, ◌++◌, Option, Some, None, length, map}
use Rattle.std.proofs.Common.{take, drop, refl, ap, ◌∙◌, arith}
use Rattle.std.specs.Prelude.{bytes_eq, slice_index_or, slice_set}
use Rattle.std.specs.Option.{option_map, option_or}
use Rattle.dcv_syntax.specs.declared.files.Macro.{Macro}
use Rattle.dcv_syntax.specs.Views.{plain_macro}
use Rattle.dcv_logic.specs.Environment.{found}
use Rattle.dcv_scope.specs.declared.measures.Share.{Share}
use Rattle.dcv_scope.specs.declared.measures.MacroMeasure.{MacroMeasure}
use Rattle.dcv_scope.specs.Linear.{capped_share, capped_macro}
use Rattle.dcv_scope.specs.Walk.{shares_beside, all_beside, LinearSight, linear_of, macro_too, with_linears, linears_of}

-- ---- names

pub found-append : (xs ys : List (List ℕ × MacroMeasure)) (name : List ℕ) → found (xs ++ ys) name ≡ option_or (found xs name) (found ys name)
found-append [] ys name = refl
found-append (x ∷ xs) ys name = here_or_later (bytes_eq x.0 name) (found-append xs ys name)
  where
    here_or_later : (here : Bool) → found (xs ++ ys) name ≡ option_or (found xs name) (found ys name)
        → cond here (Some x.1) (found (xs ++ ys) name) ≡ option_or (cond here (Some x.1) (found xs name)) (found ys name)
    here_or_later true later = refl
    here_or_later false later = later

pub found_in_turn : (xs ys zs : List (List ℕ × MacroMeasure)) (name : List ℕ) → option_map capped_macro (found (xs ++ (ys ++ zs)) name)
    ≡ option_or (option_or (option_map capped_macro (found xs name)) (option_map capped_macro (found ys name))) (option_map capped_macro (found zs name))
found_in_turn xs ys zs name =
    ap (option_map capped_macro) (found-append xs (ys ++ zs) name ∙ ap (option_or (found xs name)) (found-append ys zs name))
    ∙ each (found xs name) (found ys name) (found zs name)
  where
    each : (a b c : Option MacroMeasure) → option_map capped_macro (option_or a (option_or b c)) ≡ option_or (option_or (option_map capped_macro a) (option_map capped_macro b)) (option_map capped_macro c)
    each (Some a) b c = refl
    each None (Some b) c = refl
    each None None c = refl

-- ---- macros

pub newest : (sight : LinearSight) (macros : List Macro) (i : ℕ) (d : Macro) (name : List ℕ) → i < length macros
    → found (with_linears sight (map plain_macro (take (i + 1) macros))).macros name
    ≡ cond (bytes_eq (slice_index_or macros i d).name.text name) (Some (linear_of (with_linears sight (map plain_macro (take i macros))) (plain_macro (slice_index_or macros i d)))) (found (with_linears sight (map plain_macro (take i macros))).macros name)
newest sight [] i d name lt = absurd (omega (arith, lt))
newest sight (m ∷ macros) zero d name lt = refl
newest sight (m ∷ macros) (suc i) d name lt =
    let next : suc i + 1 ≡ suc (i + 1) = omega arith in
    ap (λ k. found (with_linears sight (map plain_macro (take k (m ∷ macros)))).macros name) next
    ∙ newest (macro_too sight (plain_macro m)) macros i d name (omega (arith, lt))

-- the macro before a place, which has the name or has not
pub newest_here : (sight : LinearSight) (macros : List Macro) (place : ℕ) (d : Macro) (name : List ℕ) → 0 < place → place ≤ length macros
    → bytes_eq (slice_index_or macros (place - 1) d).name.text name ≡ true
    → found (with_linears sight (map plain_macro (take place macros))).macros name
    ≡ Some (linear_of (with_linears sight (map plain_macro (take (place - 1) macros))) (plain_macro (slice_index_or macros (place - 1) d)))
newest_here sight macros place d name some within here =
    let next : place ≡ place - 1 + 1 = omega (arith, some) in
    let m = slice_index_or macros (place - 1) d in
    let before = with_linears sight (map plain_macro (take (place - 1) macros)) in
    ap (λ k. found (with_linears sight (map plain_macro (take k macros))).macros name) next
    ∙ newest sight macros (place - 1) d name (omega (arith, some, within))
    ∙ ap (λ b. cond b (Some (linear_of before (plain_macro m))) (found before.macros name)) here

pub older_there : (sight : LinearSight) (macros : List Macro) (place : ℕ) (d : Macro) (name : List ℕ) → 0 < place → place ≤ length macros
    → bytes_eq (slice_index_or macros (place - 1) d).name.text name ≡ false
    → found (with_linears sight (map plain_macro (take place macros))).macros name
    ≡ found (with_linears sight (map plain_macro (take (place - 1) macros))).macros name
older_there sight macros place d name some within there =
    let next : place ≡ place - 1 + 1 = omega (arith, some) in
    let m = slice_index_or macros (place - 1) d in
    let before = with_linears sight (map plain_macro (take (place - 1) macros)) in
    ap (λ k. found (with_linears sight (map plain_macro (take k macros))).macros name) next
    ∙ newest sight macros (place - 1) d name (omega (arith, some, within))
    ∙ ap (λ b. cond b (Some (linear_of before (plain_macro m))) (found before.macros name)) there

pub measured_at : (sight : LinearSight) (macros : List Macro) (i : ℕ) (d : Macro) (e : MacroMeasure) → i < length macros
    → slice_index_or (map capped_macro (linears_of sight (map plain_macro macros))) i e
    ≡ capped_macro (linear_of (with_linears sight (map plain_macro (take i macros))) (plain_macro (slice_index_or macros i d)))
measured_at sight [] i d e lt = absurd (omega (arith, lt))
measured_at sight (m ∷ macros) zero d e lt = refl
measured_at sight (m ∷ macros) (suc i) d e lt = measured_at (macro_too sight (plain_macro m)) macros i d e (omega (arith, lt))

-- one macro more
pub linears-more : (sight : LinearSight) (macros : List Macro) (i : ℕ) (d : Macro) → i < length macros
    → map capped_macro (linears_of sight (map plain_macro (take (i + 1) macros)))
    ≡ map capped_macro (linears_of sight (map plain_macro (take i macros))) ++ capped_macro (linear_of (with_linears sight (map plain_macro (take i macros))) (plain_macro (slice_index_or macros i d))) ∷ []
linears-more sight [] i d lt = absurd (omega (arith, lt))
linears-more sight (m ∷ macros) zero d lt = refl
linears-more sight (m ∷ macros) (suc i) d lt =
    let next : suc i + 1 ≡ suc (i + 1) = omega arith in
    ap (λ k. map capped_macro (linears_of sight (map plain_macro (take k (m ∷ macros))))) next
    ∙ ap (λ (rest : List MacroMeasure). capped_macro (linear_of sight (plain_macro m)) ∷ rest) (linears-more (macro_too sight (plain_macro m)) macros i d (omega (arith, lt)))

pub length-linears : (sight : LinearSight) (macros : List Macro) → length (map capped_macro (linears_of sight (map plain_macro macros))) ≡ length macros
length-linears sight [] = refl
length-linears sight (m ∷ macros) = ap (λ n. suc n) (length-linears (macro_too sight (plain_macro m)) macros)

-- ---- shares, written one after another

pub written : (g : Option Share → Option Share) (xs : List (Option Share)) (i : ℕ) (d : Option Share) → i < length xs
    → slice_set (map g (take i xs) ++ drop i xs) i (g (slice_index_or xs i d)) ≡ map g (take (i + 1) xs) ++ drop (i + 1) xs
written g [] i d lt = absurd (omega (arith, lt))
written g (x ∷ xs) zero d lt = refl
written g (x ∷ xs) (suc i) d lt =
    let next : suc (i + 1) ≡ suc i + 1 = omega arith in
    ap (λ (rest : List (Option Share)). g x ∷ rest) (written g xs i d (omega (arith, lt)))
    ∙ ap (λ k. map g (take k (x ∷ xs)) ++ drop k (x ∷ xs)) next

pub both_written : (xs ys : List (Option Share)) (i : ℕ) (d e : Option Share) → i < length xs → i < length ys
    → slice_set (map capped_share (all_beside (take i xs) (take i ys)) ++ drop i xs) i (capped_share (shares_beside (slice_index_or xs i d) (slice_index_or ys i e)))
    ≡ map capped_share (all_beside (take (i + 1) xs) (take (i + 1) ys)) ++ drop (i + 1) xs
both_written [] ys i d e lt lt' = absurd (omega (arith, lt))
both_written (x ∷ xs) [] i d e lt lt' = absurd (omega (arith, lt'))
both_written (x ∷ xs) (y ∷ ys) zero d e lt lt' = refl
both_written (x ∷ xs) (y ∷ ys) (suc i) d e lt lt' =
    let next : suc (i + 1) ≡ suc i + 1 = omega arith in
    ap (λ (rest : List (Option Share)). capped_share (shares_beside x y) ∷ rest) (both_written xs ys i d e (omega (arith, lt)) (omega (arith, lt')))
    ∙ ap (λ k. map capped_share (all_beside (take k (x ∷ xs)) (take k (y ∷ ys))) ++ drop k (x ∷ xs)) next
