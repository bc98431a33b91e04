-- What stands under a name in the sight of the code, and which arguments it passes over.
use Rattle.std.proofs.Common.{◌≡◌, ◌≢◌, ℕ, zero, suc, ◌+◌, ◌<◌, ◌≤◌, ◌⊎◌, inl, inr, Bool, true, false, cond, List, [], ◌∷◌, ◌++◌, Some, None}
use Rattle.std.proofs.Common.{length, take, map, refl, sym, ap, subst, ◌∙◌, arith, length-append}
use Rattle.std.specs.Prelude.{bytes_eq, slice_index_or}
use Rattle.std.specs.List.{AllByRecursion, zip}
use Rattle.std.proofs.lemmas.Bool.{false_from_ne_true}
use Rattle.std.proofs.lemmas.List.{map-append, append_assoc, length-map}
use Rattle.std.proofs.lemmas.Slice.Eq.{bytes_eq-Decides}
use Rattle.dcv_syntax.specs.declared.names.Name.{Name}
use Rattle.dcv_syntax.specs.declared.files.Macro.{Macro}
use Rattle.dcv_syntax.specs.declared.propositions.Connective.TheVariants.{Or}
use Rattle.dcv_syntax.specs.Plain.{PlainMacro, PlainPropKind, PropConstant, PropCall, PropNot, PropJoined, PropImplies, PropShifted, PlainArguments}
use Rattle.dcv_syntax.specs.Plain.{no_arguments, argument, PlainPropOperands, no_prop_operands, prop_operand}
use Rattle.dcv_syntax.specs.Views.{plain_macro}
use Rattle.dcv_logic.specs.Environment.{found}
use Rattle.dcv_logic.specs.Newest.{IsNewest}
use Rattle.dcv_scope.specs.declared.measures.MacroMeasure.{MacroMeasure}
use Rattle.dcv_core.specs.Core.{PlainTruth, TruthConstant, TruthNot, TruthJoined, TruthShift, no_truths, truth_operand}
use Rattle.dcv_scope.specs.CoreOf.{Sight, expansion_of, with_expansions, declared_slots, truth_of, truth_of_call}
use Rattle.dcv_scope.specs.CoreOf.{argument_truths, operand_truths}
use Rattle.dcv_scope.specs.Measures.{Measured, macro_measure, with_measures}
use Rattle.dcv_scope.specs.Linear.{uses_parameter, AreMeasuresOf, variables_alone}
use Rattle.dcv_scope.specs.Unused.{PassesOver}
use Rattle.dcv_scope.specs.Expansions.{ExpansionPassesOver, top_sight_of, used_from}
use Rattle.dcv_scope.proofs.Skipped.{macro_skips}

-- ---- macros by name

with_expansions-append : (ms ns : List PlainMacro) (sight : Sight) → with_expansions sight (ms ++ ns) ≡ with_expansions (with_expansions sight ms) ns
with_expansions-append [] ns sight = refl
with_expansions-append (m ∷ ms) ns sight = with_expansions-append ms ns _

pub with_expansions-truths : (ms : List PlainMacro) (sight : Sight) → (with_expansions sight ms).truths ≡ sight.truths
with_expansions-truths [] sight = refl
with_expansions-truths (m ∷ ms) sight = with_expansions-truths ms _

pub top-truths : (variables : List Name) (macros : List Macro) → (top_sight_of variables macros).truths ≡ declared_slots 0 variables
unfolding top_sight_of
top-truths variables macros = with_expansions-truths (map plain_macro macros) _

same_name : (xs ys : List ℕ) → xs ≡ ys → bytes_eq xs ys ≡ true
same_name xs ys e = (bytes_eq-Decides xs ys).1 e

other_name : (xs ys : List ℕ) → xs ≢ ys → bytes_eq xs ys ≡ false
other_name xs ys ne = false_from_ne_true (bytes_eq xs ys) (λ e. ne ((bytes_eq-Decides xs ys).0 e))

-- macros of other names change nothing
passed_over : (ms : List Macro) (sight : Sight) (name : List ℕ) → AllByRecursion (λ (m : Macro). m.name.text ≢ name) ms →
    found (with_expansions sight (map plain_macro ms)).macros name ≡ found sight.macros name
passed_over [] sight name others = refl
passed_over (m ∷ ms) sight name others =
    passed_over ms _ name others.1
    ∙ ap (λ b. cond b (Some (expansion_of sight (plain_macro m))) (found sight.macros name)) (other_name m.name.text name others.0)

pub found_newest : (variables : List Name) (macros : List Macro) (name : List ℕ) (last : Macro) (earlier : List Macro) → IsNewest macros name last earlier →
    found (top_sight_of variables macros).macros name ≡ Some (expansion_of (top_sight_of variables earlier) (plain_macro last))
unfolding top_sight_of
found_newest variables macros name last earlier newest =
    let base = top_sight_of variables [] in
    let after = newest.later.0 in
    let before = top_sight_of variables earlier in
    let expansion = Some (expansion_of before (plain_macro last)) in
    ap (λ (ms : List Macro). found (with_expansions base (map plain_macro ms)).macros name) newest.later.1
    ∙ ap (λ (ms : List PlainMacro). found (with_expansions base ms).macros name) (map-append plain_macro earlier (last ∷ after))
    ∙ ap (λ (sight : Sight). found sight.macros name) (with_expansions-append (map plain_macro earlier) (map plain_macro (last ∷ after)) base)
    ∙ passed_over after _ name newest.later.2
    ∙ ap (λ b. cond b expansion (found before.macros name)) (same_name last.name.text name newest.name)

pub found_none : (variables : List Name) (macros : List Macro) (name : List ℕ) → AllByRecursion (λ (m : Macro). m.name.text ≢ name) macros →
    found (top_sight_of variables macros).macros name ≡ None
unfolding top_sight_of
found_none variables macros name others = passed_over macros _ name others

-- ---- the measures of the macros before one

measures-length : (ms : List PlainMacro) (uses : List MacroMeasure) (sight : Measured) → AreMeasuresOf sight ms uses → length uses ≡ length ms
measures-length [] [] sight m = refl
measures-length (x ∷ ms) (u ∷ uses) sight m = ap suc (measures-length ms uses _ m.1)
measures-length [] (u ∷ uses) sight m = absurd m
measures-length (x ∷ ms) [] sight m = absurd m

-- the measures of some macros of a file, and that of the next
pub record Split (sight : Measured) (earlier : List Macro) (last : Macro) (uses : List MacroMeasure) : Type 0 where
  pub before : AreMeasuresOf sight (map plain_macro earlier) (take (length earlier) uses)
  pub here : (d : MacroMeasure) (j : ℕ) → uses_parameter (slice_index_or uses (length earlier) d) j ≡ false
      → PassesOver j (macro_measure (with_measures sight (map plain_macro earlier)) (plain_macro last))

split_behind : (earlier : List Macro) (last : Macro) (after : List Macro) (uses : List MacroMeasure) (sight : Measured)
    → AreMeasuresOf sight (map plain_macro (earlier ++ last ∷ after)) uses → Split sight earlier last uses
split_behind [] last after [] sight m = absurd m
split_behind [] last after (u ∷ uses) sight m = record { before = tt; here = λ d. m.0.unused }
split_behind (x ∷ earlier) last after [] sight m = absurd m
split_behind (x ∷ earlier) last after (u ∷ uses) sight m =
    let rest = split_behind earlier last after uses _ m.1 in
    record { before = (m.0, rest.before); here = rest.here }

module _ (variables : List Name) (macros : List Macro) (name : List ℕ) (last : Macro) (earlier : List Macro) (newest : IsNewest macros name last earlier)
    (uses : List MacroMeasure) (measured : AreMeasuresOf (variables_alone variables) (map plain_macro macros) uses) where
  split : Split (variables_alone variables) earlier last uses
  split =
      split_behind earlier last newest.later.0 uses (variables_alone variables)
      (subst (λ (ms : List Macro). AreMeasuresOf (variables_alone variables) (map plain_macro ms) uses) newest.later.1 measured)

  pub newest_measures : AreMeasuresOf (variables_alone variables) (map plain_macro earlier) (take (length earlier) uses)
  newest_measures = split.before

  pub newest_skips : (d : MacroMeasure) (j : ℕ) → uses_parameter (slice_index_or uses (length earlier) d) j ≡ false
      → ExpansionPassesOver j (expansion_of (top_sight_of variables earlier) (plain_macro last))
  unfolding top_sight_of
  newest_skips d j unused = macro_skips variables (map plain_macro earlier) (plain_macro last) j (split.here d j unused)

-- ---- arguments that are left out

module _ {X : Type 0} (measure : MacroMeasure) (c : List PlainTruth → X) (skips : (j : ℕ) → uses_parameter measure j ≡ false → PassesOver j c) where
  -- the argument at a place is as it was, and the rest may be left out
  behind_one : (before truths : List PlainTruth) (q : PlainTruth)
      → c ((before ++ q ∷ []) ++ used_from measure (length (before ++ q ∷ [])) truths) ≡ c ((before ++ q ∷ []) ++ truths)
      → c (before ++ q ∷ used_from measure (length before + 1) truths) ≡ c (before ++ q ∷ truths)
  behind_one before truths q rest =
      let next : length before + 1 ≡ length (before ++ q ∷ []) = omega (arith, length-append before (q ∷ [])) in
      ap (λ n. c (before ++ q ∷ used_from measure n truths)) next
      ∙ ap c (sym (append_assoc before (q ∷ []) (used_from measure (length (before ++ q ∷ [])) truths)))
      ∙ rest
      ∙ ap c (append_assoc before (q ∷ []) truths)

  at_place : (before truths : List PlainTruth) (p : PlainTruth) (used : Bool) → uses_parameter measure (length before) ≡ used
      → ((q : PlainTruth) → c (before ++ q ∷ used_from measure (length before + 1) truths) ≡ c (before ++ q ∷ truths))
      → c (before ++ cond used p (TruthConstant false) ∷ used_from measure (length before + 1) truths) ≡ c (before ++ p ∷ truths)
  at_place before truths p true e longer = longer p
  at_place before truths p false e longer = longer (TruthConstant false) ∙ skips (length before) e before refl (TruthConstant false) p truths

  left_out : (truths before : List PlainTruth) → c (before ++ used_from measure (length before) truths) ≡ c (before ++ truths)
  left_out [] before = refl
  left_out (p ∷ truths) before =
      at_place before truths p (uses_parameter measure (length before)) refl (λ q. behind_one before truths q (left_out truths (before ++ q ∷ [])))

  pub used-enough : (truths : List PlainTruth) → c (used_from measure 0 truths) ≡ c truths
  used-enough truths = left_out truths []

-- ---- the slots do not count in propositions

module _ (sight : Sight) (k : ℕ) where
  mutual
    pub truth-slots : (p : PlainPropKind) → truth_of (record sight { slots = k }) p ≡ truth_of sight p
    truth-slots (PropConstant truth) = refl
    truth-slots (PropCall name arguments) = ap (truth_of_call (found sight.truths name.text) (found sight.macros name.text)) (arguments-slots arguments)
    truth-slots (PropNot p span) = ap TruthNot (truth-slots p)
    truth-slots (PropJoined connective operands) = ap (TruthJoined connective) (operands-slots operands)
    truth-slots (PropImplies p p_span q q_span) = λ i. TruthJoined Or (truth_operand (TruthNot (truth-slots p i)) (truth_operand (truth-slots q i) no_truths))
    truth-slots (PropShifted direction form p span) = ap (λ truth. TruthShift direction truth form) (truth-slots p)

    arguments-slots : (arguments : PlainArguments) → argument_truths (record sight { slots = k }) arguments ≡ argument_truths sight arguments
    arguments-slots no_arguments = refl
    arguments-slots (argument p span arguments) = λ i. truth-slots p i ∷ arguments-slots arguments i

    operands-slots : (operands : PlainPropOperands) → operand_truths (record sight { slots = k }) operands ≡ operand_truths sight operands
    operands-slots no_prop_operands = refl
    operands-slots (prop_operand p span outer operands) = λ i. truth_operand (truth-slots p i) (operands-slots operands i)

-- ---- lists side by side

-- where one of two lists has ended, there are no more pairs
pub no_pairs : {X Y U V : Type 0} (f : X → U) (g : Y → V) (xs : List X) (ys : List Y) → (xs ≡ []) ⊎ (ys ≡ []) → zip (map f xs) (map g ys) ≡ []
no_pairs f g [] ys none = refl
no_pairs f g (x ∷ xs) [] none = refl
no_pairs f g (x ∷ xs) (y ∷ ys) (inl e) = cc
no_pairs f g (x ∷ xs) (y ∷ ys) (inr e) = cc

pub length-first : {X : Type 0} (xs : List X) (n : ℕ) → n ≤ length xs → n ≡ length (take n xs)
length-first xs zero le = refl
length-first [] (suc n) le = absurd (omega (arith, le))
length-first (x ∷ xs) (suc n) le = ap suc (length-first xs n (omega (arith, le)))

-- there is a measure for the newest macro of a name
pub newest_within : (variables : List Name) (macros : List Macro) (name : List ℕ) (last : Macro) (earlier : List Macro) (uses : List MacroMeasure)
    → IsNewest macros name last earlier → AreMeasuresOf (variables_alone variables) (map plain_macro macros) uses → length earlier < length uses
newest_within variables macros name last earlier uses newest measured =
    let all : length uses ≡ length macros = measures-length (map plain_macro macros) uses (variables_alone variables) measured ∙ length-map macros plain_macro in
    let split : length macros ≡ length (earlier ++ last ∷ newest.later.0) = ap length newest.later.1 in
    omega (arith, all, split, length-append earlier (last ∷ newest.later.0))
