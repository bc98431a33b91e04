-- What an answer to words of a text tells of the rules of names. A fault is that of the first word that breaks one.
--     Keeps at keeps Next result     one word, which begins at this offset and keeps its rule or breaks it
--     Leads whole Next result        words of a text whose first broken word begins at an offset, if there is one
--     IsLeft whole words keeps       the words that are not judged yet: the first of them that is broken is the first of all
use Rattle.std.specs.Prelude.{◌≡◌, ℕ, Bool, true, false, List, Option, Some, Result, Ok, Err}
use Rattle.dcv_lexer.specs.Cuts.{Token}
use Rattle.dcv_observer.specs.declared.fault.ObsFault.{ObsFault}
use Rattle.dcv_observer.specs.declared.fault.ObsFault.TheVariants.{Syntax, Names, Memory}
use Rattle.dcv_observer.specs.Subsets.{first_broken}

-- why a word is refused that begins at this offset
abbrev pub IsBroken : ℕ → Bool → ObsFault → Type 0
IsBroken at keeps (Syntax place) = ⊥
IsBroken at keeps (Names place) = (keeps ≡ false) × (place ≡ at)
IsBroken at keeps Memory = Unit {0}

abbrev pub Keeps : {A : Type 0} → ℕ → Bool → (A → Type 0) → Result A ObsFault → Type 0
Keeps at keeps Next (Ok x) = (keeps ≡ true) × Next x
Keeps at keeps Next (Err fault) = IsBroken at keeps fault

-- why a text is refused
abbrev pub IsFaultOf : Option ℕ → ObsFault → Type 0
IsFaultOf whole (Syntax place) = ⊥
IsFaultOf whole (Names place) = whole ≡ Some place
IsFaultOf whole Memory = Unit {0}

abbrev pub Leads : {A : Type 0} → Option ℕ → (A → Type 0) → Result A ObsFault → Type 0
Leads whole Next (Ok x) = Next x
Leads whole Next (Err fault) = IsFaultOf whole fault

pub record IsLeft (whole : Option ℕ) (words : List Token) (keeps : List Bool) : Type 0 where
  pub first : first_broken words keeps ≡ whole
