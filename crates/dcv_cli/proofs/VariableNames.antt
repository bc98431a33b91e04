-- The declared variables of a formula file may be the names of an automaton's variables.
use Rattle.dcv_cli.proofs.Common.{◌≡◌, ◌≢◌, ℕ, zero, suc, ◌+◌, ◌<◌, ◌≤◌, nat_le, Bool, true, false, List, [], ◌∷◌, ◌++◌, length, get_or}
use Rattle.dcv_cli.proofs.Common.{Option, Some, None, refl, sym, ◌∙◌, subst, arith, append_assoc, length-append, if◌then◌else◌, bytes_eq}
use Rattle.dcv_cli.proofs.Common.{bytes_eq-Decides, true≢false, IsPlainName, AreNames, texts_of, NamesAreShort, fault_of_goal}
use Rattle.dcv_cli.proofs.Common.{fault_of_names, fault_of_file, no_bound_shift, ScopeFault, Name, PlainFile, IsFormulaFile}
use Rattle.std.proofs.Common.{append-nil}
use Rattle.std.specs.List.{All, AllPairs}
use Rattle.std.specs.Option.{option_or}
use Rattle.std.proofs.lemmas.Bool.{leb-false}
use Rattle.std.proofs.lemmas.List.Elements.{All-map}
use Rattle.std.proofs.lemmas.List.Quantifiers.{all_pairs_push}
use Rattle.dcv_reader.specs.Laws.{IsShortName}
use Rattle.dcv_scope.proofs.NameRows.{first_fault-append}
use Rattle.dcv_scope.specs.Laws.{HasNoBoundShift}
use Rattle.dcv_scope.specs.Names.{occurs, Declared, fault_at, first_fault, stands_in, nothing_in_sight, occurrences_in_list}
use Rattle.dcv_scope.specs.declared.faults.ScopeFault.TheVariants.{TooMany, Duplicate}

-- ---- no fault of a list of variables

pub none_of_both : (a b : Option ScopeFault) → option_or a b ≡ None → (a ≡ None) × (b ≡ None)
none_of_both None b e = (refl, e)
none_of_both (Some a) b e = absurd (cc)

-- so no prior or next proposition of a file without a fault looks at a quantified variable
pub no_shift_is_bound : (file : PlainFile) → fault_of_file file ≡ None → HasNoBoundShift file
no_shift_is_bound file none = no_bound_shift file (none_of_both (fault_of_names file) (fault_of_goal file) none).1

few_and_new : (many twice : Bool) (at : ℕ) → (if many then Some (TooMany at) else (if twice then Some (Duplicate at) else None)) ≡ None → (many ≡ false) × (twice ≡ false)
few_and_new true twice at e = absurd (cc)
few_and_new false true at e = absurd (cc)
few_and_new false false at e = (refl, refl)

-- a name that does not stand in a list is none of it
is_none_of : (names : List (List ℕ)) (name : List ℕ) → stands_in name names ≡ false → (k : ℕ) (d : List ℕ) → k < length names → get_or names k d ≢ name
is_none_of [] name new k d lt same = absurd (omega arith)
is_none_of (other ∷ names) name new k d lt same = by (λ rest. is_none_of names name rest) (bytes_eq other name) refl k lt same
  where
    by : (stands_in name names ≡ false → (k : ℕ) (d : List ℕ) → k < length names → get_or names k d ≢ name) → (is : Bool) → bytes_eq other name ≡ is → (k : ℕ) → k < length (other ∷ names) → get_or (other ∷ names) k d ≡ name → ⊥
    by rest true is k lt same = let wrong : true ≡ false = rw is at new in true≢false wrong
    by rest false is zero lt same = true≢false (sym ((bytes_eq-Decides other name).1 same) ∙ is)
    by rest false is (suc k) lt same = rest (rw is at new) k d (omega (arith, lt)) same

few_and_differ : (names : List Name) (before : List (List ℕ)) → first_fault (occurrences_in_list Declared nothing_in_sight before names) ≡ None
    → length before ≤ 16 → AllPairs ◌≢◌ before → (length (before ++ texts_of names) ≤ 16) × AllPairs ◌≢◌ (before ++ texts_of names)
few_and_differ [] before none few differ =
    subst (λ (all : List (List ℕ)). (length all ≤ 16) × AllPairs ◌≢◌ all) (sym (append-nil before)) (few, differ)
few_and_differ (name ∷ names) before none few differ =
    let apart = none_of_both (fault_at (occurs name (Declared before) nothing_in_sight)) (first_fault (occurrences_in_list Declared nothing_in_sight (before ++ name.text ∷ []) names)) none in
    let right = few_and_new (nat_le 16 (length before)) (stands_in name.text before) name.span.start apart.0 in
    let some = leb-false 16 (length before) right.0 in
    let longer : length (before ++ name.text ∷ []) ≡ length before + 1 = length-append before (name.text ∷ []) in
    subst (λ (all : List (List ℕ)). (length all ≤ 16) × AllPairs ◌≢◌ all) (append_assoc before (name.text ∷ []) (texts_of names))
    (few_and_differ names (before ++ name.text ∷ []) apart.1 (omega (arith, some, longer))
    (all_pairs_push ◌≢◌ before name.text differ (is_none_of before name.text right.1)))

-- ---- the variables of a formula file

plain_names : (names : List Name) → All IsShortName names → All IsPlainName (texts_of names)
plain_names names short =
    All-map IsPlainName (λ (name : Name). name.text) names (λ k d within. let one = short k d within in record { form = one.form; short = one.short })

pub are_names : NamesAreShort → (text : List ℕ) (file : PlainFile) → IsFormulaFile text file → AreNames (texts_of file.variables)
are_names short text file is =
    let no_fault = (none_of_both (fault_of_names file) (fault_of_goal file) is.has_core).0 in
    let listed = occurrences_in_list Declared nothing_in_sight [] file.variables in
    let none = (none_of_both (first_fault listed) _ (sym (first_fault-append listed _) ∙ no_fault)).0 in
    let (count, differ) = few_and_differ file.variables [] none (omega arith) (λ i j d order within. absurd (omega (arith, order, within))) in
    record { count = count; each = plain_names file.variables (short text file is.sentence.spelled is.sentence.no_fault); differ = differ }
