-- What is left to judge after a word that keeps its rule, and the fault at one that does not.
use Rattle.std.proofs.Common.{◌≡◌, ℕ, Bool, true, false, List, ◌∷◌, Option, Some, Result, Ok, Err, refl, sym, ap, subst, ◌∙◌}
use Rattle.std.specs.Result.{IsErrAnd}
use Rattle.dcv_lexer.specs.Cuts.{Token}
use Rattle.dcv_observer.specs.declared.fault.ObsFault.{ObsFault}
use Rattle.dcv_observer.specs.declared.fault.ObsFault.TheVariants.{Syntax, Names as Fault, Memory}
use Rattle.dcv_observer.specs.Judged.{IsLeft, IsBroken, IsFaultOf, Leads}

pub kept : {whole : Option ℕ} {word : Token} {words : List Token} {keep : Bool} {keeps : List Bool}
    → keep ≡ true → IsLeft whole (word ∷ words) (keep ∷ keeps) → IsLeft whole words keeps
kept {whole = whole} {word = word} {words = words} {keeps = keeps} is left =
    record { first = (subst (λ (k : Bool). IsLeft whole (word ∷ words) (k ∷ keeps)) is left).first }

pub broken : {whole : Option ℕ} {word : Token} {words : List Token} {keep : Bool} {keeps : List Bool}
    → keep ≡ false → IsLeft whole (word ∷ words) (keep ∷ keeps) → whole ≡ Some word.start
broken {whole = whole} {word = word} {words = words} {keeps = keeps} is left =
    sym (subst (λ (k : Bool). IsLeft whole (word ∷ words) (k ∷ keeps)) is left).first

-- the answer at a word that is broken
pub broken_word : {fault : ObsFault} {at : ℕ} {keeps : Bool} → fault ≡ Fault at → keeps ≡ false → IsBroken at keeps fault
broken_word {at = at} {keeps = keeps} is not = subst (IsBroken at keeps) (sym is) (not, refl)

-- and of the whole text
pub first_fault : (fault : ObsFault) {whole : Option ℕ} {word : Token} {words : List Token} {keep : Bool} {keeps : List Bool}
    → IsBroken word.start keep fault → IsLeft whole (word ∷ words) (keep ∷ keeps) → IsFaultOf whole fault
first_fault (Syntax place) is left = is
first_fault (Fault place) is left = broken is.0 left ∙ ap Some (sym is.1)
first_fault Memory is left = tt

-- a fault that is handed on
pub leads_on : {A : Type 0} (whole : Option ℕ) (Next : A → Type 0) (result : Result A ObsFault) (fault : ObsFault)
    → IsErrAnd result (λ e. e ≡ fault) → IsFaultOf whole fault → Leads whole Next result
leads_on whole Next (Ok x) fault is told = absurd is
leads_on whole Next (Err e) fault is told = subst (IsFaultOf whole) (sym is) told

pub fault_is : {fault : ObsFault} {whole : Option ℕ} {at : ℕ} → fault ≡ Fault at → whole ≡ Some at → IsFaultOf whole fault
fault_is {whole = whole} is told = subst (IsFaultOf whole) (sym is) told
