-- What the entries of places tell: of which round they count, and that blank ones tell nothing.
use Rattle.std.proofs.Common.{◌≡◌, ℕ, zero, suc, ◌+◌, ◌≤◌, Bool, true, false, cond, List, [], ◌∷◌, ◌++◌, length, map, set, take, replicate, get_or, None, Some, if◌then◌else◌, ap, subst, ◌∙◌, arith}
use Rattle.std.specs.List.{All}
use Rattle.std.proofs.lemmas.Bool.{ne_eqb}
use Rattle.std.proofs.lemmas.List.{map-set, take_all}
use Rattle.std.proofs.lemmas.List.Elements.{All-head, All-tail, All-replicate}
use Rattle.dcv_arena.specs.declared.nodes.Ref.{Ref}
use Rattle.dcv_arena.specs.declared.nodes.Ref.TheVariants.{Leaf}
use Rattle.dcv_renumber.specs.Became.{HasBecome}
use Rattle.dcv_renumber.specs.Rounds.{became_in, IsUpTo}
use Rattle.dcv_renumber.specs.declared.places.Became.{Became}

abbrev CountsNot : ℕ → Became → Type 0
CountsNot round entry = became_in round entry ≡ None

other_round : (round : ℕ) (entry : Became) → (entry.round ≡ round → ⊥) → CountsNot round entry
other_round round entry other = ap (λ same. cond same (Some entry.new) None) (ne_eqb entry.round round other)

absent : (round : ℕ) (entry : Became) (new : Ref) → CountsNot round entry → Some (became_in round entry) ≡ Some (Some new) → ⊥
absent round entry new none there = cc

nothing : (round : ℕ) (entries : List Became) → All (CountsNot round) entries → (place : ℕ) (new : Ref) → HasBecome (map (became_in round) entries) place new → ⊥
nothing round [] none place new there = cc
nothing round (entry ∷ entries) none zero new there = absent round entry new (All-head (CountsNot round) entry entries none) there
nothing round (entry ∷ entries) none (suc place) new there = nothing round entries (All-tail (CountsNot round) entry entries none) place new there

-- in the next round nothing counts
pub spent : (round : ℕ) (entries : List Became) → All (IsUpTo round) entries → (place : ℕ) (new : Ref) → HasBecome (map (became_in (round + 1)) entries) place new → ⊥
spent round entries up = nothing (round + 1) entries (λ place d within. other_round (round + 1) (get_or entries place d) (λ same. let early : (get_or entries place d).round ≤ round = up place d within in omega arith))

behind : (round : ℕ) (entries more : List Became) → All (CountsNot round) more → (place : ℕ) (new : Ref)
    → HasBecome (map (became_in round) (entries ++ more)) place new → HasBecome (map (became_in round) entries) place new
behind round [] more none place new there = absurd (nothing round more none place new there)
behind round (entry ∷ entries) more none zero new there = there
behind round (entry ∷ entries) more none (suc place) new there = behind round entries more none place new there

abbrev blank : Became
blank = record { round = 0; new = Leaf 0 }

-- blank entries at the end tell nothing
pub lengthened : (round : ℕ) → 1 ≤ round → (ok : Bool) (entries now : List Became) (nodes many : ℕ) → length entries ≤ nodes
    → now ≡ (if ok then take nodes entries ++ replicate many (record { round = 0; new = Leaf 0 }) else entries)
    → (place : ℕ) (new : Ref) → HasBecome (map (became_in round) now) place new → HasBecome (map (became_in round) entries) place new
lengthened round first true entries now nodes many fewer is place new there =
    behind round entries (replicate many blank) (All-replicate (CountsNot round) many blank (other_round round blank (λ same. omega arith))) place new
    (subst (λ entries. HasBecome (map (became_in round) entries) place new) (is ∙ ap (λ front. front ++ replicate many blank) (take_all nodes entries fewer)) there)
lengthened round first false entries now nodes many fewer is place new there = subst (λ entries. HasBecome (map (became_in round) entries) place new) is there

own : (round : ℕ) (new : Ref) → became_in round (record { round = round; new = new }) ≡ Some new
own round new = grind arith

pub written : (round : ℕ) (entries : List Became) (place : ℕ) (new : Ref)
    → map (became_in round) (set entries place (record { round = round; new = new })) ≡ set (map (became_in round) entries) place (Some new)
written round entries place new = map-set (became_in round) entries place _ ∙ ap (set (map (became_in round) entries) place) (own round new)
