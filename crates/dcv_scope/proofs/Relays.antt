-- A call of a relay stands for its argument, and so does what is left after all of them.
use Rattle.std.proofs.Common.{◌≡◌, ℕ, zero, suc, ◌+◌, ◌<◌, ◌≤◌, Bool, true, false, cond, List, [], ◌∷◌, ◌++◌, Option, Some, None, Vec, Global}
use Rattle.std.proofs.Common.{length, map, get_or, refl, sym, ap, subst, ◌∙◌, arith, length-append, true≢false}
use Rattle.std.proofs.Math.Seq.{get_or-append_seam}
use Rattle.std.proofs.lemmas.List.{append_assoc, get_or_append_left}
use Rattle.std.specs.Prelude.{bytes_eq, slice_index_or, IfSome}
use Rattle.std.specs.List.{zip}
use Rattle.std.specs.Option.{is_some, option_map}
use Rattle.dcv_syntax.specs.declared.names.Name.{Name}
use Rattle.dcv_syntax.specs.declared.files.Macro.{Macro}
use Rattle.dcv_syntax.specs.declared.propositions.Prop.{Prop}
use Rattle.dcv_syntax.specs.declared.propositions.PropKind.{Call}
use Rattle.dcv_syntax.specs.Plain.{PlainPropKind, PropCall, arguments_of, PlainMacroBody, PropBody}
use Rattle.dcv_syntax.specs.Views.{plain_prop_kind, plain_prop, plain_body, plain_macro}
use Rattle.dcv_syntax.proofs.PlainRows.{plain_call}
use Rattle.dcv_logic.specs.Environment.{found}
use Rattle.dcv_logic.specs.Newest.{IsNewest}
use Rattle.dcv_scope.specs.declared.expansion.Meaning.{Meaning}
use Rattle.dcv_scope.specs.declared.expansion.Binding.{Binding}
use Rattle.dcv_scope.specs.declared.expansion.Sight.{Sight as SightOfCode}
use Rattle.dcv_core.specs.Core.{PlainTruth, TruthSlot}
use Rattle.dcv_scope.specs.CoreOf.{Sight, Expansion, PropExpansion, FormulaExpansion, bind_arguments, truth_of, truth_of_call, truth_of_macro}
use Rattle.dcv_scope.specs.CoreOf.{declared_slots, body_expansion, expansion_of}
use Rattle.dcv_scope.specs.Names.{texts}
use Rattle.dcv_scope.specs.Expansions.{meant, names_of, sight_of, top_sight_of, truths_in, parameter_slots, places_from}
use Rattle.dcv_scope.specs.Expansions.{IsRelay, IsRelayTo, AreRelays, IsRelayed, HasNoOthers, StandAlike, IsParameter}
use Rattle.dcv_scope.proofs.InSight.{truth-slots, found_newest, top-truths}
use Rattle.dcv_scope.proofs.TextRows.{truth-Call}

-- ---- a call

hands_on : (e : Expansion) (j : ℕ) → IsRelay j e → (before : List PlainTruth) → length before ≡ j → (one : PlainTruth) (after : List PlainTruth)
    → truth_of_macro (Some e) (before ++ one ∷ after) ≡ one
hands_on (PropExpansion c) j relay before at one after = relay before at one after
hands_on (FormulaExpansion c) j relay before at one after = absurd relay

-- the argument at place j
to_place : (e : Expansion) (sight : Sight) (arguments : List Prop) (j : ℕ) (q d : Prop) → j < length arguments → q ≡ get_or arguments j d
    → (before : List PlainTruth) → IsRelay (length before + j) e
    → truth_of_macro (Some e) (before ++ truths_in sight arguments) ≡ truth_of sight (plain_prop_kind q.kind)
to_place e sight [] j q d lt is before relay = absurd (omega (arith, lt))
to_place e sight (p ∷ arguments) zero q d lt is before relay =
    hands_on e (length before + 0) relay before (omega arith) (truth_of sight (plain_prop_kind p.kind)) (truths_in sight arguments)
    ∙ ap (λ (r : Prop). truth_of sight (plain_prop_kind r.kind)) (sym is)
to_place e sight (p ∷ arguments) (suc j) q d lt is before relay =
    let one = truth_of sight (plain_prop_kind p.kind) in
    let longer : length before + suc j ≡ length (before ++ one ∷ []) + j = omega (arith, length-append before (one ∷ [])) in
    ap (truth_of_macro (Some e)) (sym (append_assoc before (one ∷ []) (truths_in sight arguments)))
    ∙ to_place e sight arguments j q d (omega (arith, lt)) is (before ++ one ∷ []) (subst (λ (k : ℕ). IsRelay k e) longer relay)

pub call_stands : (sight : Sight) (name : Name) (arguments : Vec Prop Global) (j : ℕ) (q d : Prop) → IsRelayed sight name.text j
    → j < length arguments.items
    → q ≡ get_or arguments.items j d → StandAlike sight (plain_prop_kind q.kind) (plain_prop_kind (Call name arguments))
call_stands sight name arguments j q d relayed lt is = λ truths others.
    let now : Sight = record sight { truths = truths } in
    let free = others name.text relayed.free in
    let from_start : j ≡ length {A = PlainTruth} [] + j = omega arith in
    sym (
    truth-Call now name arguments
    ∙ (λ i. truth_of_call (free i) (relayed.stands i) (truths_in now arguments.items))
    ∙ to_place relayed.expansion now arguments.items j q d lt is [] (subst (λ (k : ℕ). IsRelay k relayed.expansion) from_start relayed.relay))

pub alike_in_turn : (sight : Sight) (p q r : PlainPropKind) → StandAlike sight p q → StandAlike sight q r → StandAlike sight p r
alike_in_turn sight p q r first second = λ truths others. first truths others ∙ second truths others

-- ---- a macro

-- places after place k are no less
at_least : (parameters : List Name) (k j : ℕ) (name : List ℕ) → found (places_from k parameters) name ≡ Some j → k ≤ j
at_least [] k j name is = absurd (none_is_some is)
  where
    none_is_some : {X : Type 0} {x : X} → None ≡ Some x → ⊥
    none_is_some e = cc
at_least (p ∷ parameters) k j name is = here_or_later (bytes_eq p.text name) (found (places_from (k + 1) parameters) name) is
    (at_least parameters (k + 1) j name)
  where
    here_or_later : (here : Bool) (later : Option ℕ) → cond here (Some k) later ≡ Some j → (later ≡ Some j → k + 1 ≤ j) → k ≤ j
    here_or_later true later e behind =
        let same : k ≡ j = cc in
        omega (arith, same)
    here_or_later false later e behind = omega (arith, behind e)

-- the argument at the place of a parameter
at_parameter : (parameters : List Name) (k j : ℕ) (name : List ℕ) (before : List PlainTruth) (one : PlainTruth) (after : List PlainTruth)
    (others : List (List ℕ × PlainTruth)) → found (places_from k parameters) name ≡ Some j → k + length before ≡ j
    → found (zip (texts parameters) (before ++ one ∷ after) ++ others) name ≡ Some one
at_parameter [] k j name before one after others is at = absurd (none_is_some is)
  where
    none_is_some : {X : Type 0} {x : X} → None ≡ Some x → ⊥
    none_is_some e = cc
at_parameter (p ∷ parameters) k j name [] one after others is at = here (bytes_eq p.text name) (found (places_from (k + 1) parameters) name) is
    (at_least parameters (k + 1) j name)
  where
    here : (b : Bool) (later : Option ℕ) → cond b (Some k) later ≡ Some j → (later ≡ Some j → k + 1 ≤ j)
        → cond b (Some one) (found (zip (texts parameters) after ++ others) name) ≡ Some one
    here true later e behind = refl
    here false later e behind = absurd (omega (arith, at, behind e))
at_parameter (p ∷ parameters) k j name (x ∷ before) one after others is at =
    there (bytes_eq p.text name) (found (places_from (k + 1) parameters) name)
    (found (zip (texts parameters) (before ++ one ∷ after) ++ others) name) is
    (λ e. at_parameter parameters (k + 1) j name before one after others e (omega (arith, at)))
  where
    there : (b : Bool) (later : Option ℕ) (rest : Option PlainTruth) → cond b (Some k) later ≡ Some j → (later ≡ Some j → rest ≡ Some one)
        → cond b (Some x) rest ≡ Some one
    there true later rest e behind =
        let same : k ≡ j = cc in
        absurd (omega (arith, at, same))
    there false later rest e behind = behind e

-- whatever the parameters stand for, no other name is in sight
no_others : (parameters : List Name) (arguments : List PlainTruth) (others : List (List ℕ × PlainTruth))
    → HasNoOthers (parameter_slots parameters ++ others) (zip (texts parameters) arguments ++ others)
no_others [] arguments others = λ name none. none
no_others (p ∷ parameters) [] others = λ name none. behind parameters name (first (bytes_eq p.text name) _ none)
  where
    first : (b : Bool) (later : Option PlainTruth) → cond b (Some (TruthSlot 0)) later ≡ None → later ≡ None
    first true later e = cc
    first false later e = e

    behind : (parameters : List Name) (name : List ℕ) → found (parameter_slots parameters ++ others) name ≡ None → found others name ≡ None
    behind [] name none = none
    behind (q ∷ parameters) name none = behind parameters name (first (bytes_eq q.text name) _ none)
no_others (p ∷ parameters) (x ∷ arguments) others =
    λ name none. both (bytes_eq p.text name) (found (parameter_slots parameters ++ others) name)
    (found (zip (texts parameters) arguments ++ others) name) none (no_others parameters arguments others name)
  where
    both : (b : Bool) (slot truth : Option PlainTruth) → cond b (Some (TruthSlot 0)) slot ≡ None → (slot ≡ None → truth ≡ None)
        → cond b (Some x) truth ≡ None
    both true slot truth e behind = cc
    both false slot truth e behind = behind e

-- a macro after whose relays a parameter is left
pub is_relay : (top : Sight) (parameters : List Name) (p q : PlainPropKind) (j : ℕ)
    → StandAlike (record { slots = 0; truths = parameter_slots parameters ++ top.truths; macros = top.macros }) q p → IsParameter parameters q j
    → IsRelay j (PropExpansion (λ arguments. truth_of (bind_arguments top (texts parameters) arguments) p))
is_relay top parameters p q j alike parameter = λ before at one after.
    let inside : Sight = bind_arguments top (texts parameters) (before ++ one ∷ after) in
    let found_one = at_parameter parameters 0 j parameter.name.text before one after top.truths parameter.place (omega (arith, at)) in
    sym (truth-slots inside 0 p)
    ∙ sym (alike inside.truths (no_others parameters (before ++ one ∷ after) top.truths))
    ∙ ap (truth_of (record inside { slots = 0 })) parameter.is
    ∙ ap (λ (truth : Option PlainTruth). truth_of_call truth (found top.macros parameter.name.text) []) found_one

-- ---- one macro more

data EndOf {X : Type 0} (xs : List X) (x : X) (before : List X) (one : X) : Type 0 where
  Last : xs ≡ before → x ≡ one → EndOf xs x before one
  Earlier : (after : List X) → xs ≡ before ++ one ∷ after → EndOf xs x before one

-- a member of a list that has one more at its end is that one, or stands in the list
end_of : {X : Type 0} (xs : List X) (x : X) (before : List X) (one : X) (after : List X) → xs ++ x ∷ [] ≡ before ++ one ∷ after
    → EndOf xs x before one
end_of [] x [] one after is = Last refl cc
end_of [] x (y ∷ before) one after is = absurd (omega (arith, ap length is, length-append before (one ∷ after)))
end_of (z ∷ xs) x [] one after is =
    let same : z ≡ one = cc in
    Earlier xs (ap (λ y. y ∷ xs) same)
end_of (z ∷ xs) x (y ∷ before) one after is =
    let same : z ≡ y = cc in
    let rest : xs ++ x ∷ [] ≡ before ++ one ∷ after = cc in
    longer same (end_of xs x before one after rest)
  where
    longer : z ≡ y → EndOf xs x before one → EndOf (z ∷ xs) x (y ∷ before) one
    longer same (Last e is) = Last (λ i. same i ∷ e i) is
    longer same (Earlier rest e) = Earlier rest (λ i. same i ∷ e i)

module _ (variables : List Name) (macros : List Macro) (relays : List (Option ℕ)) (last : Macro) (relay : Option ℕ) where
  abbrev ToPlace : List Macro → Macro → Option ℕ → Type 0
  ToPlace earlier one place = IsRelayTo place (expansion_of (top_sight_of variables earlier) (plain_macro one))

  pub one_more : AreRelays variables macros relays → length relays ≡ length macros → ToPlace macros last relay
      → AreRelays variables (macros ++ last ∷ []) (relays ++ relay ∷ [])
  one_more before long here = λ earlier one after is. at_end earlier one (end_of macros last earlier one after is)
    where
      at_end : (earlier : List Macro) (one : Macro) → EndOf macros last earlier one
          → ToPlace earlier one (slice_index_or (relays ++ relay ∷ []) (length earlier) None)
      at_end earlier one (Last same is) =
          let place : length earlier ≡ length relays = ap length (sym same) ∙ sym long in
          let found_last : relay ≡ slice_index_or (relays ++ relay ∷ []) (length earlier) None = sym (get_or-append_seam relays relay [] None)
          ∙ ap (λ n. slice_index_or (relays ++ relay ∷ []) n None) (sym place) in
          subst (λ (t : List Macro × (Macro × Option ℕ)). ToPlace t.0 t.1.0 t.1.1) (λ i. (same i, (is i, found_last i))) here
      at_end earlier one (Earlier rest is) =
          let fewer : length earlier < length relays = omega (arith, long, ap length is, length-append earlier (one ∷ rest)) in
          subst (ToPlace earlier one) (sym (get_or_append_left relays (relay ∷ []) None (length earlier) fewer)) (before earlier one rest is)

-- the macros before one of them
pub fewer_relays : (variables : List Name) (macros earlier : List Macro) (last : Macro) (after : List Macro) (relays : List (Option ℕ))
    → macros ≡ earlier ++ last ∷ after
    → AreRelays variables macros relays → AreRelays variables earlier relays
fewer_relays variables macros earlier last after relays split all = λ first one rest is.
    all first one (rest ++ last ∷ after) (split ∙ ap (λ (ms : List Macro). ms ++ last ∷ after) is ∙ append_assoc first (one ∷ rest) (last ∷ after))

-- ---- in the sight of the code

pub free_name : (m : Option Meaning) (f : Option PlainTruth) → is_some m ≡ false → option_map meant m ≡ f → f ≡ None
free_name None f none same = sym same
free_name (Some m) f none same = absurd (true≢false none)

pub relay_stands : (s : SightOfCode) (name : List ℕ) (last : Macro) (earlier : List Macro) → found (sight_of s).truths name ≡ None
    → IsNewest s.macros.now name last earlier
    → AreRelays s.variables.now s.macros.now s.relays.now → (place : Option ℕ) → place ≡ slice_index_or s.relays.now (length earlier) None
    → IfSome place (IsRelayed (sight_of s) name)
relay_stands s name last earlier free newest relays None is = tt
relay_stands s name last earlier free newest relays (Some j) is =
    let expansion = expansion_of (top_sight_of s.variables.now earlier) (plain_macro last) in
    record {
      free = free;
      expansion = expansion;
      stands = found_newest s.variables.now s.macros.now name last earlier newest;
      relay = subst (λ (p : Option ℕ). IsRelayTo p expansion) (sym is) (relays earlier last newest.later.0 newest.later.1);
    }

-- the parameter that a call without arguments is
pub is_parameter : (parameters : List Name) (name : Name) (arguments : Vec Prop Global) → length arguments.items ≡ 0 → (place : Option ℕ)
    → place ≡ found (places_from 0 parameters) name.text → IfSome place (IsParameter parameters (plain_prop_kind (Call name arguments)))
is_parameter parameters name arguments none None is = tt
is_parameter parameters name arguments none (Some j) is = record {
  name = name;
  is = plain_call name arguments ∙ ap (λ (props : List Prop). PropCall name (arguments_of (map plain_prop props))) (empty arguments.items none);
  place = sym is;
}
  where
    empty : (props : List Prop) → length props ≡ 0 → props ≡ []
    empty [] none = refl
    empty (p ∷ props) none = absurd (omega (arith, none))

-- the macro that is being defined, in whose sight its parameters stand for anything
pub relay_defined : (names : List Binding) (variables : List Name) (macros : List Macro) (defined : Macro) (body : Prop) (q : PlainPropKind)
    → names_of names ≡ parameter_slots defined.parameters.items ++ declared_slots 0 variables → plain_body defined.body ≡ PropBody (plain_prop body)
    → StandAlike (record { slots = 0; truths = names_of names; macros = (top_sight_of variables macros).macros }) q (plain_prop_kind body.kind)
    → (place : Option ℕ) → IfSome place (IsParameter defined.parameters.items q)
    → IsRelayTo place (expansion_of (top_sight_of variables macros) (plain_macro defined))
relay_defined names variables macros defined body q names_are is alike None parameter = tt
relay_defined names variables macros defined body q names_are is alike (Some j) parameter =
    let top = top_sight_of variables macros in
    let parameters = defined.parameters.items in
    let truths : names_of names ≡ parameter_slots parameters ++ top.truths =
    names_are ∙ ap (λ others. parameter_slots parameters ++ others) (sym (top-truths variables macros)) in
    let same = subst (λ (ts : List (List ℕ × PlainTruth)). StandAlike (record { slots = 0; truths = ts; macros = top.macros }) q
    (plain_prop_kind body.kind)) truths alike in
    subst (λ (b : PlainMacroBody). IsRelay j (body_expansion top (texts parameters) b)) (sym is)
    (is_relay top parameters (plain_prop_kind body.kind) q j same parameter)
