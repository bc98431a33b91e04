-- The list of a goal's shifts: it only grows, an inner shift stands before the outer one, and each shift of the goal is the same as one in it.
use Rattle.std.proofs.Common.{◌≡◌, Bool, true, false, List, [], ◌∷◌, ◌++◌, Option, Some, None, refl, sym, ap, subst, ◌∙◌, true≢false}
use Rattle.std.specs.Prelude.{◌||◌, if◌then◌else◌}
use Rattle.std.specs.List.{list_any}
use Rattle.std.proofs.lemmas.List.{append_assoc, append-nil}
use Rattle.dcv_core.specs.Core.{PlainTruth, TruthConstant, TruthSlot, TruthNot, TruthJoined, TruthShift, PlainTruths, no_truths, truth_operand}
use Rattle.dcv_core.specs.Core.{truth_in, CoreTree, CoreAtom, CoreNot, CoreJoined, CoreChop, CoreStar, CoreExists}
use Rattle.dcv_tracks.specs.Shifting.{Shift, same_shift, with_shift, collected, all_collected, collected_by, collected_of, shifts_in}
use Rattle.dcv_tracks.proofs.Sameness.{shift_itself}
use Rattle.dcv_tracks.proofs.Standing.{IsCovered, AreCovered, FormIsCovered, CoreIsCovered}

-- ---- one of a list

or_later : (a b c : Bool) → (b ≡ true → c ≡ true) → (a || b) ≡ true → (a || c) ≡ true
or_later true b c h is = refl
or_later false b c h is = h is

or_second : (a c : Bool) → c ≡ true → (a || c) ≡ true
or_second true c is = refl
or_second false c is = is

any_more : (f : Shift → Bool) (xs ys : List Shift) → list_any f xs ≡ true → list_any f (xs ++ ys) ≡ true
any_more f [] ys is = absurd (true≢false (sym is))
any_more f (x ∷ xs) ys is = or_later (f x) (list_any f xs) (list_any f (xs ++ ys)) (any_more f xs ys) is

any_last : (f : Shift → Bool) (xs : List Shift) (x : Shift) → f x ≡ true → list_any f (xs ++ x ∷ []) ≡ true
any_last f [] x is = ap (λ b. b || false) is
any_last f (y ∷ xs) x is = or_second (f y) (list_any f (xs ++ x ∷ [])) (any_last f xs x is)

-- ---- what is covered stays so

mutual
  covered_more : (seen more : List Shift) (p : PlainTruth) → IsCovered seen p → IsCovered (seen ++ more) p
  covered_more seen more (TruthConstant truth) c = tt
  covered_more seen more (TruthSlot slot) c = tt
  covered_more seen more (TruthNot p) c = covered_more seen more p c
  covered_more seen more (TruthJoined connective operands) c = all_covered_more seen more operands c
  covered_more seen more (TruthShift direction p span) c = any_more (same_shift (record { direction = direction; operand = p; span = span })) seen more c

  all_covered_more : (seen more : List Shift) (operands : PlainTruths) → AreCovered seen operands → AreCovered (seen ++ more) operands
  all_covered_more seen more no_truths c = tt
  all_covered_more seen more (truth_operand p operands) c = (covered_more seen more p c.0, all_covered_more seen more operands c.1)

form_covered_more : (seen more : List Shift) (p : Option PlainTruth) → FormIsCovered seen p → FormIsCovered (seen ++ more) p
form_covered_more seen more None c = tt
form_covered_more seen more (Some p) c = covered_more seen more p c

core_covered_more : (seen more : List Shift) (core : CoreTree) → CoreIsCovered seen core → CoreIsCovered (seen ++ more) core
core_covered_more seen more (CoreAtom basic span) c = form_covered_more seen more (truth_in basic) c
core_covered_more seen more (CoreNot d span) c = core_covered_more seen more d c
core_covered_more seen more (CoreJoined connective a d span) c = (core_covered_more seen more a c.0, core_covered_more seen more d c.1)
core_covered_more seen more (CoreChop a d span) c = (core_covered_more seen more a c.0, core_covered_more seen more d c.1)
core_covered_more seen more (CoreStar d span) c = core_covered_more seen more d c
core_covered_more seen more (CoreExists d span) c = core_covered_more seen more d c

-- ---- how a list grows

-- the shifts in each of these are listed before it, where those are before them
abbrev pub AreOrdered : List Shift → List Shift → Type 0
AreOrdered before [] = Unit {0}
AreOrdered before (shift ∷ shifts) = IsCovered before shift.operand × AreOrdered (before ++ shift ∷ []) shifts

-- the list has more at its end
pub record Grown (seen now : List Shift) : Type 0 where
  pub more : List Shift
  pub is : now ≡ seen ++ more
  pub ordered : AreOrdered seen more

grown_itself : (seen : List Shift) → Grown seen seen
grown_itself seen = record { more = []; is = sym (append-nil seen); ordered = tt }

ordered_both : (before xs ys : List Shift) → AreOrdered before xs → AreOrdered (before ++ xs) ys → AreOrdered before (xs ++ ys)
ordered_both before [] ys one two = subst (λ front. AreOrdered front ys) (append-nil before) two
ordered_both before (x ∷ xs) ys one two =
    (one.0, ordered_both (before ++ x ∷ []) xs ys one.1 (subst (λ front. AreOrdered front ys) (sym (append_assoc before (x ∷ []) xs)) two))

grown_on : (seen mid now : List Shift) → Grown seen mid → Grown mid now → Grown seen now
grown_on seen mid now one two = record {
  more = one.more ++ two.more;
  is = two.is ∙ ap (λ front. front ++ two.more) one.is ∙ append_assoc seen one.more two.more;
  ordered = ordered_both seen one.more two.more one.ordered (subst (λ front. AreOrdered front two.more) one.is two.ordered);
}

covered_on : (seen now : List Shift) → Grown seen now → (p : PlainTruth) → IsCovered seen p → IsCovered now p
covered_on seen now g p c = subst (λ list. IsCovered list p) (sym g.is) (covered_more seen g.more p c)

core_covered_on : (seen now : List Shift) → Grown seen now → (core : CoreTree) → CoreIsCovered seen core → CoreIsCovered now core
core_covered_on seen now g core c = subst (λ list. CoreIsCovered list core) (sym g.is) (core_covered_more seen g.more core c)

shift_added : (seen : List Shift) (shift : Shift) → IsCovered seen shift.operand → Grown seen (with_shift seen shift) × (list_any (same_shift shift) (with_shift seen shift) ≡ true)
shift_added seen shift covered = added (list_any (same_shift shift) seen) refl
  where
    added : (there : Bool) → list_any (same_shift shift) seen ≡ there
        → Grown seen (if there then seen else seen ++ shift ∷ []) × (list_any (same_shift shift) (if there then seen else seen ++ shift ∷ []) ≡ true)
    added true is = (grown_itself seen, is)
    added false is = (record { more = shift ∷ []; is = refl; ordered = (covered, tt) }, any_last (same_shift shift) seen shift (shift_itself shift))

-- ---- the shifts of propositions, forms and goals

mutual
  pub truth_grows : (p : PlainTruth) (seen : List Shift) → Grown seen (collected seen p) × IsCovered (collected seen p) p
  truth_grows (TruthConstant truth) seen = (grown_itself seen, tt)
  truth_grows (TruthSlot slot) seen = (grown_itself seen, tt)
  truth_grows (TruthNot p) seen = truth_grows p seen
  truth_grows (TruthJoined connective operands) seen = truths_grow operands seen
  truth_grows (TruthShift direction p span) seen =
      let shift : Shift = record { direction = direction; operand = p; span = span } in
      let inner = truth_grows p seen in
      let outer = shift_added (collected seen p) shift inner.1 in
      (grown_on seen (collected seen p) (with_shift (collected seen p) shift) inner.0 outer.0, outer.1)

  truths_grow : (operands : PlainTruths) (seen : List Shift) → Grown seen (all_collected seen operands) × AreCovered (all_collected seen operands) operands
  truths_grow no_truths seen = (grown_itself seen, tt)
  truths_grow (truth_operand p operands) seen =
      let one = truth_grows p seen in
      let more = truths_grow operands (collected seen p) in
      let last = all_collected (collected seen p) operands in
      (grown_on seen (collected seen p) last one.0 more.0, (covered_on (collected seen p) last more.0 p one.1, more.1))

form_grows : (p : Option PlainTruth) (seen : List Shift) → Grown seen (collected_by seen p) × FormIsCovered (collected_by seen p) p
form_grows None seen = (grown_itself seen, tt)
form_grows (Some p) seen = truth_grows p seen

-- what a goal adds, with the shifts that it is covered by
abbrev GoalGrows : List Shift → CoreTree → Type 0
GoalGrows seen core = Grown seen (collected_of seen core) × CoreIsCovered (collected_of seen core) core

both_grow : (c d : CoreTree) (seen : List Shift) → GoalGrows seen c → GoalGrows (collected_of seen c) d
    → Grown seen (collected_of (collected_of seen c) d) × (CoreIsCovered (collected_of (collected_of seen c) d) c × CoreIsCovered (collected_of (collected_of seen c) d) d)
both_grow c d seen one two =
    let last = collected_of (collected_of seen c) d in
    (grown_on seen (collected_of seen c) last one.0 two.0, (core_covered_on (collected_of seen c) last two.0 c one.1, two.1))

pub goal_grows : (core : CoreTree) (seen : List Shift) → GoalGrows seen core
goal_grows (CoreAtom basic span) seen = form_grows (truth_in basic) seen
goal_grows (CoreNot d span) seen = goal_grows d seen
goal_grows (CoreJoined connective c d span) seen = both_grow c d seen (goal_grows c seen) (goal_grows d (collected_of seen c))
goal_grows (CoreChop c d span) seen = both_grow c d seen (goal_grows c seen) (goal_grows d (collected_of seen c))
goal_grows (CoreStar d span) seen = goal_grows d seen
goal_grows (CoreExists d span) seen = goal_grows d seen

pub goal_covered : (goal : CoreTree) → CoreIsCovered (shifts_in goal) goal
goal_covered goal = (goal_grows goal []).1

pub shifts_ordered : (goal : CoreTree) → AreOrdered [] (shifts_in goal)
shifts_ordered goal = subst (AreOrdered []) (sym (goal_grows goal []).0.is) (goal_grows goal []).0.ordered
