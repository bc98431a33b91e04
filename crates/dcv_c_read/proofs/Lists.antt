-- Which names are declared so far and which are left, one after another.
use Rattle.std.proofs.Common.{◌≡◌, ℕ, ◌+◌, Bool, true, false, not, ◌&&◌, ◌||◌, List, [], ◌∷◌, ◌++◌, map, Option, Some, refl, sym, ap, subst, ◌∙◌, append_assoc}
use Rattle.std.specs.Prelude.{nat_lt}
use Rattle.std.proofs.lemmas.List.{append-nil}
use Rattle.std.proofs.lemmas.Bool.{and_right}
use Rattle.std.proofs.Math.Bool.{and-true}
use Rattle.dcv_lexer.specs.Cuts.{Token}
use Rattle.dcv_observer.specs.Conditions.{Names}
use Rattle.dcv_observer.specs.Left.{seen}
use Rattle.dcv_observer.proofs.Judging.{broken}
use Rattle.dcv_observer.proofs.SoFar.{text_more}
use Rattle.dcv_observer.specs.declared.items.Item.{Item}
use Rattle.dcv_c.specs.Placed.{bytes_of}
use Rattle.dcv_c.specs.Rules.{keeps_new, keeps_apart}
use Rattle.dcv_c_read.specs.declared.scope.Scope.{Scope}
use Rattle.dcv_c_read.specs.Scope.{Frame, added, with_names, keeps_names, Knows}
use Rattle.dcv_observer.specs.Judged.{IsLeft}

pub record AreDeclaredSoFar (are_left : Bool) (frame : Frame) (whole : Option ℕ) (others : List Token) (keeps : List Bool) (all : List Item) (place : ℕ) (texts : Names) (later : List Item) (scope : Scope) : Type 0 where
  pub knows : Knows (with_names are_left texts frame) scope
  pub texts_are : texts ++ bytes_of (map seen later) ≡ bytes_of (map seen all)
  pub left : IsLeft whole (map seen later ++ others) (keeps_names are_left (frame.earlier ++ texts) place (bytes_of (map seen later)) ++ keeps)

-- ---- names that are added

pushed_name : (texts more : Names) (name text : List ℕ) → text ≡ name → more ≡ texts ++ text ∷ [] → texts ++ name ∷ [] ≡ more
pushed_name texts more name text is pushed = ap (λ (t : List ℕ). texts ++ t ∷ []) (sym is) ∙ sym pushed

added_twice : (are : Bool) (names texts more : Names) (name : List ℕ) → ((names : Names) → (names ++ texts) ++ name ∷ [] ≡ names ++ more)
    → added are (name ∷ []) (added are texts names) ≡ added are more names
added_twice true names texts more name joined = joined names
added_twice false names texts more name joined = refl

-- ---- there are not too many

-- a name keeps its rule if it is new and no parameter too many
first_name : (are_left : Bool) (earlier : Names) (place : ℕ) (name : List ℕ) (names : Names)
    → keeps_names are_left earlier place (name ∷ names) ≡ (keeps_new earlier name && (are_left || nat_lt place 16)) ∷ keeps_names are_left (earlier ++ name ∷ []) (place + 1) names
first_name true earlier place name names = ap (λ (b : Bool). b ∷ keeps_apart (earlier ++ name ∷ []) names) (sym (and-true (keeps_new earlier name)))
first_name false earlier place name names = refl

-- ---- one after another

module _ (are_left : Bool) (frame : Frame) (whole : Option ℕ) (others : List Token) (keeps : List Bool) (all : List Item) where
  names_are : (texts more : Names) (name : List ℕ) → texts ++ name ∷ [] ≡ more → with_names are_left (name ∷ []) (with_names are_left texts frame) ≡ with_names are_left more frame
  names_are texts more name is =
      let joined : (names : Names) → (names ++ texts) ++ name ∷ [] ≡ names ++ more = λ names. append_assoc names texts (name ∷ []) ∙ ap (λ (ts : Names). names ++ ts) is in
      let lefts = added_twice are_left frame.lefts texts more name joined in
      let known = added_twice (not are_left) frame.known texts more name joined in
      λ i. record { earlier = joined frame.earlier i; functions = frame.functions; placed = joined frame.placed i; lefts = lefts i; known = known i }

  module _ (place : ℕ) (texts : Names) (item : Item) (later : List Item) (scope : Scope) (sofar : AreDeclaredSoFar are_left frame whole others keeps all place texts (item ∷ later) scope) where
    first_left : IsLeft whole (seen item ∷ (map seen later ++ others)) ((keeps_new (frame.earlier ++ texts) (seen item).bytes && (are_left || nat_lt place 16))
        ∷ (keeps_names are_left ((frame.earlier ++ texts) ++ (seen item).bytes ∷ []) (place + 1) (bytes_of (map seen later)) ++ keeps))
    first_left =
        subst (λ (ks : List Bool). IsLeft whole (seen item ∷ (map seen later ++ others)) (ks ++ keeps))
        (first_name are_left (frame.earlier ++ texts) place (seen item).bytes (bytes_of (map seen later))) sofar.left

    pub declared_beyond : (are_left || nat_lt place 16) ≡ false → whole ≡ Some item.start
    declared_beyond large = broken (and_right (keeps_new (frame.earlier ++ texts) (seen item).bytes) (are_left || nat_lt place 16) large) first_left

    pub declared_left : (are_left || nat_lt place 16) ≡ true → IsLeft whole (seen item ∷ (map seen later ++ others))
        (keeps_new (frame.earlier ++ texts) (seen item).bytes ∷ (keeps_names are_left ((frame.earlier ++ texts) ++ (seen item).bytes ∷ []) (place + 1) (bytes_of (map seen later)) ++ keeps))
    declared_left small =
        subst (λ (k : Bool). IsLeft whole (seen item ∷ (map seen later ++ others))
        (k ∷ (keeps_names are_left ((frame.earlier ++ texts) ++ (seen item).bytes ∷ []) (place + 1) (bytes_of (map seen later)) ++ keeps)))
        (ap (λ (b : Bool). keeps_new (frame.earlier ++ texts) (seen item).bytes && b) small ∙ and-true (keeps_new (frame.earlier ++ texts) (seen item).bytes)) first_left

    pub declared_more : (more : Names) (text : List ℕ) (next : Scope) → Knows (with_names are_left ((seen item).bytes ∷ []) (with_names are_left texts frame)) next
        × IsLeft whole (map seen later ++ others) (keeps_names are_left ((frame.earlier ++ texts) ++ (seen item).bytes ∷ []) (place + 1) (bytes_of (map seen later)) ++ keeps)
        → more ≡ texts ++ text ∷ [] → text ≡ (seen item).bytes → AreDeclaredSoFar are_left frame whole others keeps all (place + 1) more later next
    declared_more more text next then pushed is =
        let here = pushed_name texts more (seen item).bytes text is pushed in
        record {
          knows = subst (λ (f : Frame). Knows f next) (names_are texts more (seen item).bytes here) then.0;
          texts_are = text_more (bytes_of (map seen all)) texts more (seen item).bytes text (bytes_of (map seen later)) sofar.texts_are is pushed;
          left =
              subst (λ (names : Names). IsLeft whole (map seen later ++ others) (keeps_names are_left names (place + 1) (bytes_of (map seen later)) ++ keeps))
              (append_assoc frame.earlier texts ((seen item).bytes ∷ []) ∙ ap (λ (ts : Names). frame.earlier ++ ts) here) then.1;
        }

  pub declared_end : (texts : Names) (place : ℕ) (scope : Scope) → AreDeclaredSoFar are_left frame whole others keeps all place texts [] scope
      → (texts ≡ bytes_of (map seen all)) × Knows (with_names are_left (bytes_of (map seen all)) frame) scope × IsLeft whole others keeps
  declared_end texts place scope sofar =
      let are : texts ≡ bytes_of (map seen all) = sym (append-nil texts) ∙ sofar.texts_are in
      (are, subst (λ (ts : Names). Knows (with_names are_left ts frame) scope) are sofar.knows, keeps_none are_left (frame.earlier ++ texts) place sofar.left)
    where
      -- none of the names is left
      keeps_none : (are : Bool) (earlier : Names) (n : ℕ) → IsLeft whole others (keeps_names are earlier n [] ++ keeps) → IsLeft whole others keeps
      keeps_none true earlier n left = left
      keeps_none false earlier n left = left
