-- The inputs, and the locals, that are declared so far.
use Rattle.std.proofs.Common.{◌≡◌, ℕ, ◌+◌, ◌<◌, ◌≤◌, Bool, true, false, nat_le, nat_lt, List, [], ◌∷◌, ◌++◌, length, map, Option, subst, arith}
use Rattle.std.proofs.lemmas.Bool.{or_from, or_left, or_right, le-leb, lt-ltb}
use Rattle.std.proofs.lemmas.Bool.Decides.{nat_tests}
use Rattle.dcv_lexer.specs.Cuts.{Token}
use Rattle.dcv_observer.specs.Conditions.{Names}
use Rattle.dcv_observer.specs.Left.{seen}
use Rattle.dcv_observer.specs.declared.items.Item.{Item}
use Rattle.dcv_lustre.specs.declared.node.Local.{Local as CodeLocal}
use Rattle.dcv_lustre.specs.Tree.{Kind, Node}
use Rattle.dcv_lustre.specs.Placed.{bytes_of, local_of}
use Rattle.dcv_lustre.specs.Seen.{seen_local as local_seen}
use Rattle.dcv_lustre_read.specs.declared.placed.PlacedLocal.{PlacedLocal}
use Rattle.dcv_lustre_read.specs.Seen.{seen_local}
use Rattle.dcv_lustre_read.specs.Scope.{Told, Row, told_inputs, told_locals, is_within, IsDeclaring}
use Rattle.dcv_lustre_read.specs.Judged.{words_of_locals, names_of_locals}
use Rattle.dcv_observer.proofs.SoFar.{one_more}

pub within_inputs : (node : Node) (place : ℕ) → place ≤ 16 → is_within node place ≡ true
within_inputs node place small = or_left _ _ (le-leb place 16 small)

pub behind_inputs : (node : Node) (place : ℕ) → length node.inputs < place → is_within node place ≡ true
behind_inputs node place behind = or_right (nat_le place 16) _ (lt-ltb (length node.inputs) place behind)

pub beyond_inputs : (node : Node) (place : ℕ) → 16 < place → place ≤ length node.inputs → is_within node place ≡ false
beyond_inputs node place large within = or_from (nat_le place 16) (nat_lt (length node.inputs) place) (grind (arith, nat_tests)) (grind (arith, nat_tests))

pub record AreInputsSoFar (node : Node) (whole : Option ℕ) (others : List Token) (others_keep : List Bool) (words : List Token) (behind : Names) (told : List Told)
    (all : List Item) (texts : Names) (place : ℕ) (later : List Item) (names : Names) (rows : List Row) : Type 0 where
  pub texts_are : texts ++ bytes_of (map seen later) ≡ bytes_of (map seen all)
  pub count : length names ≡ place + 1
  pub declaring : IsDeclaring node whole others others_keep names rows (map seen later ++ words) (bytes_of (map seen later) ++ behind) (told_inputs (bytes_of (map seen later)) ++ told)

pub record AreLocalsSoFar (node : Node) (whole : Option ℕ) (others : List Token) (others_keep : List Bool)
    (all : List PlacedLocal) (made : List CodeLocal) (later : List PlacedLocal) (names : Names) (rows : List Row) : Type 0 where
  pub are_made : map local_seen made ++ map local_of (map seen_local later) ≡ map local_of (map seen_local all)
  pub behind : length node.inputs < length names
  pub declaring : IsDeclaring node whole others others_keep names rows (words_of_locals (map seen_local later)) (names_of_locals (map seen_local later))
      (told_locals (map local_of (map seen_local later)))

-- the same of an equal kind
pub told_here : {node : Node} {whole : Option ℕ} {others : List Token} {others_keep : List Bool} {names : Names} {rows : List Row} {words : List Token} {later : Names} {told : List Told}
    {kind same : Kind} → kind ≡ same → IsDeclaring node whole others others_keep names rows words later ((kind, false) ∷ told)
    → IsDeclaring node whole others others_keep names rows words later ((same, false) ∷ told)
told_here {node = node} {whole = whole} {others = others} {others_keep = others_keep} {names = names} {rows = rows} {words = words} {later = later} {told = told} is d =
    subst (λ (k : Kind). IsDeclaring node whole others others_keep names rows words later ((k, false) ∷ told)) is d

pub locals_made : {node : Node} {whole : Option ℕ} {others : List Token} {others_keep : List Bool} {all : List PlacedLocal} {made : List CodeLocal} {local : PlacedLocal} {later : List PlacedLocal}
    {names : Names} {rows : List Row} {more : List CodeLocal} (x : CodeLocal) → AreLocalsSoFar node whole others others_keep all made (local ∷ later) names rows → more ≡ made ++ x ∷ []
    → local_seen x ≡ local_of (seen_local local) → map local_seen more ++ map local_of (map seen_local later) ≡ map local_of (map seen_local all)
locals_made {all = all} {made = made} {local = local} {later = later} {more = more} x sofar pushed same =
    one_more local_seen local_of made more x (seen_local local) (map seen_local later) (map local_of (map seen_local all)) pushed same sofar.are_made
