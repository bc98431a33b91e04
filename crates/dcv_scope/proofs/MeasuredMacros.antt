-- Of a well-named file, the linear measures of macros are their measures.
use Rattle.std.proofs.Common.{◌≡◌, ℕ, zero, suc, ◌+◌, ◌<◌, ◌≤◌, Bool, true, false, cond, ◌||◌, List, [], ◌∷◌, ◌++◌, Option, Some, None, length, map}
use Rattle.std.proofs.Common.{drop, refl, sym, ap, ◌∙◌, subst, length-append, arith}
use Rattle.std.specs.Prelude.{bytes_eq, nat_le}
use denote.Bor.{Bor}
use Rattle.std.specs.List.{zip}
use Rattle.std.specs.Option.{option_or}
use Rattle.std.proofs.lemmas.Bool.{leb-false}
use Rattle.std.proofs.lemmas.Slice.Eq.{bytes_eq-Decides}
use Rattle.dcv_syntax.specs.declared.names.Name.{Name}
use Rattle.dcv_syntax.specs.declared.files.Macro.{Macro}
use Rattle.dcv_syntax.specs.declared.files.File.{File}
use Rattle.dcv_syntax.specs.Plain.{PlainFormulaKind, PlainMacro, PlainFile}
use Rattle.dcv_syntax.specs.Views.{plain_formula_kind, plain_body, plain_macro, plain_file}
use Rattle.dcv_logic.specs.Environment.{found}
use Rattle.dcv_scope.specs.declared.faults.ScopeFault.{ScopeFault}
use Rattle.dcv_scope.specs.declared.faults.ScopeFault.TheVariants.{TooMany, Duplicate, Taken}
use Rattle.dcv_scope.specs.declared.measures.MacroMeasure.{MacroMeasure}
use Rattle.dcv_scope.specs.Names.{InSight, Signature, Parameter, Defined, Declared, Occurrence, occurs, fault_at, first_fault, texts, stands_in}
use Rattle.dcv_scope.specs.Names.{taken_names, macro_in_sight, behind_macro, nothing_in_sight, occurrences_in_list, occurrences_in_body}
use Rattle.dcv_scope.specs.Names.{occurrences_in_macro, occurrences_from, fault_of_names}
use Rattle.dcv_scope.specs.Measures.{Measure, leaf, Measured, measure_of_macro, measure_of_name, macro_measure, with_measures, measure_of_file}
use Rattle.dcv_scope.specs.Linear.{first_measure, later_measures, measure_at, measure_with, numbers_of, capped_numbers, capped_macro, IsMeasureOf}
use Rattle.dcv_scope.specs.Linear.{AreMeasuresOf, variables_alone}
use Rattle.dcv_scope.specs.Walk.{LinearSight, constant, argument_at, linear_of_macro, linear_of_name, linear_of_formula, parameters_from, linear_of}
use Rattle.dcv_scope.specs.Walk.{macro_too, with_linears, linears_of, linear_of_body, leaves, quantified_leaves, declared_alone, linear_measures}
use Rattle.dcv_scope.proofs.Linearity.{at-constant, at-argument, at-linear, values, not_used, own_measure}
use Rattle.dcv_scope.proofs.MeasuredText.{body_agrees, formula_agrees}
use Rattle.dcv_scope.proofs.Matching.{Both, Matched, found_both}
use Rattle.dcv_scope.proofs.NameRows.{first_fault-append}

-- ---- what is in sight outside macros

abbrev MacroAgrees : MacroMeasure → (List Measure → Measure) → Type 0
MacroAgrees m f = (arguments : List Measure) → f arguments ≡ measure_at m arguments

abbrev NameAgrees : MacroMeasure → Measure → Type 0
NameAgrees m x = (m ≡ constant leaf) × (x ≡ leaf)

record Level (sight : LinearSight) (measured : Measured) : Type 0 where
  names : Matched NameAgrees sight.names measured.names
  macros : Matched MacroAgrees sight.macros measured.macros

macro_at : (outer : List Measure) (m : Option MacroMeasure) (f : Option (List Measure → Measure)) (arguments : List MacroMeasure) → Both MacroAgrees m f
    → measure_at (linear_of_macro m arguments) outer ≡ measure_of_macro f (values outer arguments)
macro_at outer None None arguments a = at-constant leaf outer
macro_at outer (Some m) (Some f) arguments a = at-linear outer m arguments ∙ sym (a (values outer arguments))
macro_at outer _ _ arguments a = absurd a

name_at : (outer : List Measure) (n : Option MacroMeasure) (x : Option Measure) (m : Option MacroMeasure) (f : Option (List Measure → Measure)) (arguments : List MacroMeasure)
    → Both NameAgrees n x → Both MacroAgrees m f → measure_at (linear_of_name n m arguments) outer ≡ measure_of_name x f (values outer arguments)
name_at outer None None m f arguments n a = macro_at outer m f arguments a
name_at outer (Some y) (Some x) m f arguments n a = ap (λ k. measure_at k outer) n.0 ∙ at-constant leaf outer ∙ sym n.1
name_at outer _ _ m f arguments n a = absurd n

leaf_at : (n : Option MacroMeasure) (x : Option Measure) (f : Option (List Measure → Measure)) (arguments : List Measure) → Both NameAgrees n x → f ≡ None → measure_of_name x f arguments ≡ leaf
leaf_at None None f arguments n none = ap (λ g. measure_of_macro g arguments) none
leaf_at (Some y) (Some x) f arguments n none = n.1
leaf_at _ _ f arguments n none = absurd n

module _ (outer : List Measure) (sight : LinearSight) (measured : Measured) (level : Level sight measured) (name : List ℕ) (arguments : List MacroMeasure) where
  macro_level : measure_at (linear_of_macro (found sight.macros name) arguments) outer ≡ measure_of_macro (found measured.macros name) (values outer arguments)
  macro_level = macro_at outer (found sight.macros name) (found measured.macros name) arguments (found_both MacroAgrees sight.macros measured.macros name level.macros)

  name_level : measure_at (linear_of_name (found sight.names name) (found sight.macros name) arguments) outer
      ≡ measure_of_name (found measured.names name) (found measured.macros name) (values outer arguments)
  name_level =
      name_at outer (found sight.names name) (found measured.names name) (found sight.macros name) (found measured.macros name) arguments
      (found_both NameAgrees sight.names measured.names name level.names) (found_both MacroAgrees sight.macros measured.macros name level.macros)

-- ---- parameters

later-drop : (arguments : List Measure) (i : ℕ) → later_measures (drop i arguments) ≡ drop (i + 1) arguments
later-drop [] zero = refl
later-drop [] (suc i) =
    let next : suc (i + 1) ≡ suc i + 1 = omega arith in
    let none : List Measure = [] in
    ap (λ k. drop k none) next
later-drop (a ∷ arguments) zero = refl
later-drop (a ∷ arguments) (suc i) =
    let next : suc (i + 1) ≡ suc i + 1 = omega arith in
    later-drop arguments i ∙ ap (λ k. drop k (a ∷ arguments)) next

zip-nothing : (names : List (List ℕ)) → zip names [] ≡ let none : List (List ℕ × Measure) = [] in none
zip-nothing [] = refl
zip-nothing (n ∷ names) = refl

abbrev names_of : List Name → List (List ℕ)
names_of = map (λ (p : Name). p.text)

module _ (outer : List Measure) (sight : LinearSight) (measured : Measured) (level : Level sight measured) (name : List ℕ) (arguments : List MacroMeasure) where
  abbrev Free : List Name → Type 0
  Free [] = Unit {0}
  Free (p ∷ ps) = (bytes_eq p.text name ≡ true → found measured.macros name ≡ None) × Free ps

  parameter-here : (j : ℕ) (x : Measure) (here : Bool) (later : Option MacroMeasure) (now : Option Measure) → j < 8 → first_measure (drop j outer) ≡ x
      → (here ≡ true → measure_of_name now (found measured.macros name) (values outer arguments) ≡ x)
      → (here ≡ false → measure_at (linear_of_name later (found sight.macros name) arguments) outer ≡ measure_of_name now (found measured.macros name) (values outer arguments))
      → measure_at (linear_of_name (cond here (Some (argument_at j)) later) (found sight.macros name) arguments) outer ≡ measure_of_name now (found measured.macros name) (values outer arguments)
  parameter-here j x true later now few is first rest = at-argument j outer few ∙ is ∙ sym (first refl)
  parameter-here j x false later now few is first rest = rest refl

  here-first : (here : Bool) (x : Measure) (now : Option Measure) → here ≡ true → measure_of_name (cond here (Some x) now) (found measured.macros name) (values outer arguments) ≡ x
  here-first true x now e = refl
  here-first false x now e = absurd (cc)

  here-later : (here : Bool) (x y : Measure) (now : Option Measure) → here ≡ false → y ≡ measure_of_name now (found measured.macros name) (values outer arguments)
      → y ≡ measure_of_name (cond here (Some x) now) (found measured.macros name) (values outer arguments)
  here-later true x y now e is = absurd (cc)
  here-later false x y now e is = is

  parameter_agrees : (ps : List Name) (rest : List Measure) (j : ℕ) → rest ≡ drop j outer → j + length ps ≤ 8 → Free ps
      → measure_at (linear_of_name (found (parameters_from j ps ++ sight.names) name) (found sight.macros name) arguments) outer
      ≡ measure_of_name (found (zip (names_of ps) rest ++ measured.names) name) (found measured.macros name) (values outer arguments)
  parameter_agrees [] rest j is few free = name_level outer sight measured level name arguments
  parameter_agrees (p ∷ ps) [] j is few free =
      let later = parameter_agrees ps [] (j + 1) (ap later_measures is ∙ later-drop outer j) (omega (arith, few)) free.1 in
      parameter-here j leaf (bytes_eq p.text name) (found (parameters_from (j + 1) ps ++ sight.names) name) (found measured.names name) (omega (arith, few)) (sym (ap first_measure is))
      (λ here. leaf_at (found sight.names name) (found measured.names name) (found measured.macros name) (values outer arguments)
      (found_both NameAgrees sight.names measured.names name level.names) (free.0 here))
      (λ there. later ∙ ap (λ z. measure_of_name (found (z ++ measured.names) name) (found measured.macros name) (values outer arguments)) (zip-nothing (names_of ps)))
  parameter_agrees (p ∷ ps) (x ∷ rest) j is few free =
      let later = parameter_agrees ps rest (j + 1) (ap later_measures is ∙ later-drop outer j) (omega (arith, few)) free.1 in
      let now = found (zip (names_of ps) rest ++ measured.names) name in
      parameter-here j x (bytes_eq p.text name) (found (parameters_from (j + 1) ps ++ sight.names) name) (cond (bytes_eq p.text name) (Some x) now) (omega (arith, few)) (sym (ap first_measure is))
      (λ here. here-first (bytes_eq p.text name) x now here)
      (λ there. here-later (bytes_eq p.text name) x _ now there later)

-- ---- names without faults

or-none : (a b : Option ScopeFault) → option_or a b ≡ None → (a ≡ None) × (b ≡ None)
or-none None b e = (refl, e)
or-none (Some a) b e = absurd (cc)

append-none : (xs ys : List Occurrence) → first_fault (xs ++ ys) ≡ None → (first_fault xs ≡ None) × (first_fault ys ≡ None)
append-none xs ys e = or-none (first_fault xs) (first_fault ys) (sym (first_fault-append xs ys) ∙ e)

parameter-none : (many twice taken : Bool) (at : ℕ)
    → cond many (Some (TooMany at)) (cond twice (Some (Duplicate at)) (cond taken (Some (Taken at)) None)) ≡ None → (many ≡ false) × (taken ≡ false)
parameter-none true twice taken at e = absurd (cc)
parameter-none false true taken at e = absurd (cc)
parameter-none false false true at e = absurd (cc)
parameter-none false false false at e = (refl, refl)

or-false : (a b : Bool) → a || b ≡ false → (a ≡ false) × (b ≡ false)
or-false true b e = absurd (cc)
or-false false b e = (refl, e)

abbrev names_taken : InSight → List (List ℕ)
names_taken sight = map (λ (m : List ℕ × Signature). m.0) sight.macros

abbrev NotTaken : InSight → List Name → Type 0
NotTaken sight [] = Unit {0}
NotTaken sight (p ∷ ps) = (stands_in p.text (names_taken sight) ≡ false) × NotTaken sight ps

parameters_right : (sight : InSight) (defining : List ℕ) (ps : List Name) (before : List (List ℕ)) → length before ≤ 8
    → first_fault (occurrences_in_list Parameter (record sight { defining = defining ∷ [] }) before ps) ≡ None → (length before + length ps ≤ 8) × NotTaken sight ps
parameters_right sight defining [] before few none = (omega (arith, few), tt)
parameters_right sight defining (p ∷ ps) before few none =
    let inside = record sight { defining = defining ∷ [] } in
    let apart = or-none (fault_at (occurs p (Parameter before) inside)) (first_fault (occurrences_in_list Parameter inside (before ++ p.text ∷ []) ps)) none in
    let right = parameter-none (nat_le 8 (length before)) (stands_in p.text before) (stands_in p.text (taken_names inside)) p.span.start apart.0 in
    let some = leb-false 8 (length before) right.0 in
    let longer : length (before ++ p.text ∷ []) ≡ length before + 1 = length-append before (p.text ∷ []) in
    let later = parameters_right sight defining ps (before ++ p.text ∷ []) (omega (arith, some, longer)) apart.1 in
    (omega (arith, later.0, longer), ((or-false (bytes_eq defining p.text) (stands_in p.text (names_taken sight)) right.1).1, later.1))

-- a macro in sight has a name that is taken
abbrev Known : InSight → Measured → Type 0
Known sight measured = (name : List ℕ) → stands_in name (names_taken sight) ≡ false → found measured.macros name ≡ None

module _ (sight : InSight) (measured : Measured) (known : Known sight measured) (linear : LinearSight) (level : Level linear measured) (outer : List Measure) where
  all_free : (ps : List Name) (name : List ℕ) (arguments : List MacroMeasure) → NotTaken sight ps → Free outer linear measured level name arguments ps
  all_free [] name arguments not = tt
  all_free (p ∷ ps) name arguments not =
      (λ same. subst (λ (n : List ℕ). found measured.macros n ≡ None) ((bytes_eq-Decides p.text name).0 same) (known p.text not.0), all_free ps name arguments not.1)

  macro_agrees : (m : PlainMacro) → first_fault (occurrences_in_macro sight m) ≡ None → macro_measure measured m outer ≡ measure_at (linear_of linear m) outer
  macro_agrees m none =
      let inside = record sight { defining = m.name.text ∷ [] } in
      let body = record inside { variables = texts m.parameters ++ sight.variables } in
      let heading = append-none (occurs m.name Defined sight ∷ occurrences_in_list Parameter inside [] m.parameters) (occurrences_in_body body m.body) none in
      let list = or-none (fault_at (occurs m.name Defined sight)) (first_fault (occurrences_in_list Parameter inside [] m.parameters)) heading.0 in
      let right = parameters_right sight m.name.text m.parameters [] (omega arith) list.1 in
      sym (body_agrees outer m.body _ _ (record {
        names = λ name arguments. parameter_agrees outer linear measured level name arguments m.parameters outer 0 refl right.0 (all_free m.parameters name arguments right.1);
        macros = macro_level outer linear measured level;
      }))

stands-last : (xs : List (List ℕ × Signature)) (x : List ℕ × Signature) (name : List ℕ) → stands_in name (map (λ (m : List ℕ × Signature). m.0) (xs ++ x ∷ [])) ≡ false
    → (stands_in name (map (λ (m : List ℕ × Signature). m.0) xs) ≡ false) × (bytes_eq x.0 name ≡ false)
stands-last [] x name e = (refl, (or-false (bytes_eq x.0 name) false e).0)
stands-last (y ∷ xs) x name e =
    let apart = or-false (bytes_eq y.0 name) (stands_in name (map (λ (m : List ℕ × Signature). m.0) (xs ++ x ∷ []))) e in
    let later = stands-last xs x name apart.1 in
    (neither (bytes_eq y.0 name) (stands_in name (map (λ (m : List ℕ × Signature). m.0) xs)) apart.0 later.0, later.1)
  where
    neither : (a b : Bool) → a ≡ false → b ≡ false → a || b ≡ false
    neither true b e f = absurd (cc)
    neither false b e f = f

none_there : (here : Bool) (f : List Measure → Measure) (was : Option (List Measure → Measure)) → here ≡ false → was ≡ None → cond here (Some f) was ≡ None
none_there true f was there none = absurd (cc)
none_there false f was there none = none

macros_agree : (macros : List PlainMacro) (goal : PlainFormulaKind) (sight : InSight) (linear : LinearSight) (measured : Measured) → Known sight measured → Level linear measured
    → first_fault (occurrences_from sight macros goal) ≡ None
    → AreMeasuresOf measured macros (map capped_macro (linears_of linear macros)) × Level (with_linears linear macros) (with_measures measured macros)
macros_agree [] goal sight linear measured known level none = (tt, level)
macros_agree (m ∷ macros) goal sight linear measured known level none =
    let apart = append-none (occurrences_in_macro sight m) (occurrences_from (behind_macro sight m) macros goal) none in
    let now : (arguments : List Measure) → macro_measure measured m arguments ≡ measure_at (linear_of linear m) arguments =
    λ arguments. macro_agrees sight measured known linear level arguments m apart.0 in
    let with_it : Measured = record measured { macros = (m.name.text, macro_measure measured m) ∷ measured.macros } in
    let further : Level (macro_too linear m) with_it = record { names = level.names; macros = (refl, (now, level.macros)) } in
    let known_further : Known (behind_macro sight m) with_it =
    λ name not. let last = stands-last sight.macros (macro_in_sight m) name not in none_there (bytes_eq m.name.text name) (macro_measure measured m) (found measured.macros name) last.1 (known name last.0) in
    let later = macros_agree macros goal (behind_macro sight m) (macro_too linear m) with_it known_further further apart.1 in
    let here : IsMeasureOf (macro_measure measured m) (capped_macro (linear_of linear m)) = record {
      exact = linear_of linear m;
      capped = refl;
      linear = now;
      unused = λ j not before at one other after. now (before ++ one ∷ after) ∙ not_used (linear_of linear m) j not before at one other after ∙ sym (now (before ++ other ∷ after));
    } in
    ((here, later.0), later.1)

-- ---- files

declared_agree : (names : List Name) → Matched NameAgrees (leaves names) (variables_alone names).names
declared_agree [] = tt
declared_agree (n ∷ names) = (refl, ((refl, refl), declared_agree names))

all_agree : (file : PlainFile) → fault_of_names file ≡ None
    → AreMeasuresOf (variables_alone file.variables) file.macros (linear_measures file.variables file.macros)
    × Level (with_linears (declared_alone file.variables) file.macros) (with_measures (variables_alone file.variables) file.macros)
all_agree file none =
    let outside : InSight = record nothing_in_sight { variables = texts file.variables } in
    let apart = append-none (occurrences_in_list Declared nothing_in_sight [] file.variables) (occurrences_from outside file.macros file.goal.formula.kind) none in
    macros_agree file.macros file.goal.formula.kind outside (declared_alone file.variables) (variables_alone file.variables) (λ name not. refl)
    (record { names = declared_agree file.variables; macros = tt }) apart.1

pub macros_measured : (file : PlainFile) → fault_of_names file ≡ None → AreMeasuresOf (variables_alone file.variables) file.macros (linear_measures file.variables file.macros)
macros_measured file none = (all_agree file none).0

pub names_stay : (sight : LinearSight) (macros : List PlainMacro) → (with_linears sight macros).names ≡ sight.names
names_stay sight [] = refl
names_stay sight (m ∷ macros) = names_stay (macro_too sight m) macros

pub goal_measured : (file : PlainFile) → fault_of_names file ≡ None → (outer : List Measure)
    → measure_at (linear_of_formula (record { names = leaves file.variables; macros = (with_linears (declared_alone file.variables) file.macros).macros }) file.goal.formula.kind) outer
    ≡ measure_of_file file
goal_measured file none outer =
    let level = (all_agree file none).1 in
    let sight = with_linears (declared_alone file.variables) file.macros in
    let measured = with_measures (variables_alone file.variables) file.macros in
    let same : (let s : LinearSight = record { names = leaves file.variables; macros = sight.macros } in s) ≡ sight =
    λ i. record { names = sym (names_stay (declared_alone file.variables) file.macros) i; macros = sight.macros } in
    ap (λ s. measure_at (linear_of_formula s file.goal.formula.kind) outer) same
    ∙ formula_agrees outer file.goal.formula.kind sight measured (record { names = name_level outer sight measured level; macros = macro_level outer sight measured level })

-- ---- what the walk has in sight

pub in_macro : (quantified : List (Bor Name)) (parameters declared : List Name) (earlier : List PlainMacro) (defined : Macro) → quantified ≡ [] → parameters ≡ defined.parameters.items
    → linear_of_body (record {
      names = quantified_leaves quantified ++ (parameters_from 0 parameters ++ leaves declared);
      macros = (with_linears (declared_alone declared) earlier).macros;
    }) (plain_body defined.body)
    ≡ linear_of (with_linears (declared_alone declared) earlier) (plain_macro defined)
in_macro quantified parameters declared earlier defined none same = λ i. linear_of_body (record {
  names = quantified_leaves (none i) ++ (parameters_from 0 (same i) ++ sym (names_stay (declared_alone declared) earlier) i);
  macros = (with_linears (declared_alone declared) earlier).macros;
}) (plain_body defined.body)

own-capped : (m n : MacroMeasure) (x : Measure) → m ≡ capped_macro n → measure_with n.own ≡ x → m.own ≡ capped_numbers (numbers_of x)
unfolding capped_macro
own-capped m n x e is = ap (λ (k : MacroMeasure). k.own) e ∙ ap (λ (y : Measure). capped_numbers (numbers_of y)) is

pub goal_numbers : (file : File) (measure : MacroMeasure) (quantified : List (Bor Name)) (declared : List Name) (macros : List Macro) → quantified ≡ [] → declared ≡ file.variables.items → macros ≡ file.macros.items
    → fault_of_names (plain_file file) ≡ None
    → measure ≡ capped_macro (linear_of_formula (record {
      names = quantified_leaves quantified ++ (parameters_from 0 [] ++ leaves declared);
      macros = (with_linears (declared_alone declared) (map plain_macro macros)).macros;
    }) (plain_formula_kind file.goal.formula.kind))
    → measure.own ≡ capped_numbers (numbers_of (measure_of_file (plain_file file)))
goal_numbers file measure quantified declared macros none same_names same_macros well e =
    let kind = plain_formula_kind file.goal.formula.kind in
    let here : LinearSight = record { names = leaves file.variables.items; macros = (with_linears (declared_alone file.variables.items) (map plain_macro file.macros.items)).macros } in
    own-capped measure (linear_of_formula here kind) (measure_of_file (plain_file file))
    (e ∙ (λ i. capped_macro (linear_of_formula (record {
      names = quantified_leaves (none i) ++ (parameters_from 0 [] ++ leaves (same_names i));
      macros = (with_linears (declared_alone (same_names i)) (map plain_macro (same_macros i))).macros;
    }) kind)))
    (own_measure (linear_of_formula here kind) (measure_of_file (plain_file file)) (goal_measured (plain_file file) well))
