-- The walk over letters: fronts of letters, marks on the sides of a slot, and the states that a letter splits off.
use Rattle.std.proofs.Common.{◌≡◌, ◌≢◌, inl, inr, ℕ, suc, ◌<◌, ◌≤◌, ◌+◌, ◌==◌, ◌||◌, ◌&&◌, if◌then◌else◌, Bool, true, false, List, [], ◌∷◌, ◌++◌, length, get_or, set, All, refl, ap, sym, subst, ◌∙◌, arith}
use Rattle.std.proofs.lemmas.Bool.{cases_lt, cases_Bool, eq-eqb, ne_eqb}
use Rattle.std.proofs.lemmas.List.{get_or-set_same, get_or-set_other}
use Rattle.std.proofs.lemmas.List.Elements.{All-weaker}
use Rattle.std.proofs.lemmas.List.Folds.{list_any-append}
use Rattle.dcv_word.specs.Behaviour.{Word}
use Rattle.dcv_arena.specs.Arena.{ArenaValue, value_of, KeepsRefs}
use Rattle.dcv_arena.specs.declared.nodes.Ref.{Ref}
use Rattle.dcv_letters.specs.Walk.{AgreeBefore}
use Rattle.dcv_dfa.specs.Raw.{RawValue}
use Rattle.dcv_certificate.specs.Separation.{word_at, accepts_word, TellAlike, has, AreTogether, IsSplit, Advances}
use Rattle.dcv_certificate.specs.Marks.{marked, IsMarkFrom, IsSideOf, AreTold, AreDone, IsSplitOff}
use Rattle.dcv_certificate.specs.Tallies.{AreMarkedAlike}

-- ---- fronts

-- a letter that begins as a front with one slot more
pub front_fixed : (front letter : List Bool) (slot : ℕ) (value : Bool) → slot < length front → AgreeBefore (slot + 1) (set front slot value) letter
    → (get_or letter slot false ≡ value) × AgreeBefore slot front letter
front_fixed front letter slot value h agree = (
  sym (agree slot (omega arith)) ∙ get_or-set_same front slot value false h,
  (λ k below. let other : k ≢ slot = omega arith in sym (get_or-set_other front slot k value false other) ∙ agree k (omega arith)),
)

pub front_longer : (front letter : List Bool) (slot : ℕ) (value : Bool) → slot < length front → get_or letter slot false ≡ value → AgreeBefore slot front letter
    → AgreeBefore (slot + 1) (set front slot value) letter
front_longer front letter slot value h e agree k below = elim (cases_lt k slot) [
  | inl l ↦ let other : k ≢ slot = omega arith in get_or-set_other front slot k value false other ∙ agree k l
  | inr g ↦
      let same : slot ≡ k = omega arith in
      subst (λ k. get_or (set front slot value) k false ≡ get_or letter k false) same (get_or-set_same front slot value false h ∙ sym e)
]

-- a letter that begins as another in all its slots is that letter
pub whole_front : (front letter : List Bool) → length letter ≡ length front → AgreeBefore (length front) front letter → letter ≡ front
whole_front [] [] e agree = refl
whole_front [] (b ∷ letter) e agree = absurd (omega arith)
whole_front (a ∷ front) [] e agree = absurd (omega arith)
whole_front (a ∷ front) (b ∷ letter) e agree =
    let rest = whole_front front letter (omega arith) (λ k h. agree (suc k) (omega arith)) in
    let head = agree 0 (omega arith) in
    λ i. sym head i ∷ rest i

-- ---- marks

module _ (old new : ArenaValue) (kept : KeepsRefs old new) (states slot : ℕ) where
  pub marks_kept : (marks : List (ℕ × Ref)) → All (IsMarkFrom old states slot) marks → All (IsMarkFrom new states slot) marks
  marks_kept = All-weaker (IsMarkFrom old states slot) (IsMarkFrom new states slot) (λ mark m. record {
    is_state = m.is_state;
    is_ref = kept.refs mark.1 m.is_ref;
    level = subst (λ level. slot ≤ level) (sym (kept.levels mark.1 m.is_ref)) m.level;
  })

  pub marked_kept : (marks : List (ℕ × Ref)) (letter : List Bool) (state : ℕ) → All (IsMarkFrom old states slot) marks → marked new marks letter state ≡ marked old marks letter state
  marked_kept [] letter state all = refl
  marked_kept (mark ∷ marks) letter state all =
      let rest = marked_kept marks letter state (λ i d h. all (suc i) d (omega arith)) in
      let same = kept.values mark.1 letter (all 0 mark (omega arith)).is_ref in
      λ i. ((mark.0 == state) && (same i == 1)) || rest i

-- one mark more
or_nothing : (b : Bool) → (b || false) ≡ b
or_nothing true = refl
or_nothing false = refl

pub marked_push : (arena : ArenaValue) (marks : List (ℕ × Ref)) (one : ℕ) (mark : Ref) (letter : List Bool) (state : ℕ)
    → marked arena (marks ++ (one, mark) ∷ []) letter state ≡ (marked arena marks letter state || ((one == state) && (value_of arena mark letter == 1)))
marked_push arena marks one mark letter state =
    list_any-append (λ (mark : ℕ × Ref). (mark.0 == state) && (value_of arena mark.1 letter == 1)) marks ((one, mark) ∷ [])
    ∙ ap (λ b. marked arena marks letter state || b) (or_nothing ((one == state) && (value_of arena mark letter == 1)))

-- a number that is 1 where a truth holds
pub one_or_not : (b : Bool) (value : ℕ) → value ≡ (if b then 1 else 0) → (value == 1) ≡ b
one_or_not true value e = eq-eqb value 1 e
one_or_not false value e = ne_eqb value 1 (λ f. omega arith)

-- ---- what the marks of one side tell

pub told_side : (raw : RawValue) (blocks : List ℕ) (word : Word) (arena : ArenaValue) (slot : ℕ) (front : List Bool) (value : Bool) (marks side : List (ℕ × Ref)) → slot < length front
    → AreTold raw blocks word arena slot front marks → IsSideOf arena slot value marks side → AreTold raw blocks word arena (slot + 1) (set front slot value) side
told_side raw blocks word arena slot front value marks side h told is first second letter t width agree =
    let fixed = front_fixed front letter slot value h agree in
    let one = is first letter fixed.0 in
    let other = is second letter fixed.0 in
    let both = told first second letter t width fixed.1 in
    ((λ e. one ∙ both.0 e ∙ sym other), (λ e. both.1 (sym one ∙ e ∙ other)))

-- in blocks that were split the marks still tell the same
pub told_finer : (raw : RawValue) (listed new_listed : List Word) (blocks new : List ℕ) (from : ℕ) (arena : ArenaValue) (slot : ℕ) (front : List Bool) (marks : List (ℕ × Ref)) → from < length listed
    → Advances raw listed blocks new_listed new → AreTold raw blocks (word_at listed from) arena slot front marks → AreTold raw new (word_at new_listed from) arena slot front marks
told_finer raw listed new_listed blocks new from arena slot front marks within a told first second letter t width agree =
    subst (λ word. TellAlike (accepts_word raw (letter ∷ word)) (marked arena marks letter) first second) (sym (a.words from within))
    (told first second letter (a.finer first second t) width agree)

-- both sides are done
pub done_sides : (raw : RawValue) (listed middle new_listed : List Word) (between new : List ℕ) (from slot : ℕ) (front : List Bool) → slot < length front
    → word_at middle from ≡ word_at listed from → ((first second : ℕ) → AreTogether raw new first second → AreTogether raw between first second)
    → AreDone raw between (word_at listed from) (slot + 1) (set front slot false) → AreDone raw new (word_at middle from) (slot + 1) (set front slot true)
    → AreDone raw new (word_at listed from) slot front
done_sides raw listed middle new_listed between new from slot front h same finer lo hi first second letter t width agree =
    elim (cases_Bool (get_or letter slot false)) [
      | inl high ↦
          subst (λ word. accepts_word raw (letter ∷ word) first ≡ accepts_word raw (letter ∷ word) second) same
          (hi first second letter t width (front_longer front letter slot true h high agree))
      | inr low ↦ lo first second letter (finer first second t) width (front_longer front letter slot false h low agree)
    ]

-- nothing is told apart where the marks are alike in each block
pub done_alike : (raw : RawValue) (blocks : List ℕ) (word : Word) (arena : ArenaValue) (slot : ℕ) (front : List Bool) (marks : List (ℕ × Ref)) → length blocks ≡ length raw.rows
    → AreTold raw blocks word arena slot front marks → AreMarkedAlike blocks marks → AreDone raw blocks word slot front
done_alike raw blocks word arena slot front marks each told alike first second letter t width agree =
    (told first second letter t width agree).1 (alike arena letter first second (omega (arith, each, t.first_is)) (omega (arith, each, t.second_is)) t.same)

-- ---- at one letter

-- what is told at a letter that is a whole front
pub told_at : (raw : RawValue) (blocks : List ℕ) (word : Word) (arena : ArenaValue) (slots : ℕ) (letter : List Bool) (marks : List (ℕ × Ref)) → length letter ≡ raw.arena.slots
    → AreTold raw blocks word arena slots letter marks → (first second : ℕ) → AreTogether raw blocks first second
    → TellAlike (accepts_word raw (letter ∷ word)) (marked arena marks letter) first second
told_at raw blocks word arena slots letter marks width told first second t = told first second letter t width (λ k h. refl)

pub told_by_split_off : (raw : RawValue) (blocks : List ℕ) (word : Word) (letter : List Bool) (test : ℕ → Bool) (part : List ℕ)
    → ((first second : ℕ) → AreTogether raw blocks first second → TellAlike (accepts_word raw (letter ∷ word)) test first second)
    → IsSplitOff raw blocks test part → (first second : ℕ) → AreTogether raw blocks first second → TellAlike (accepts_word raw (letter ∷ word)) (has part) first second
told_by_split_off raw blocks word letter test part told off first second t =
    let one = told first second t in
    let other = off.alike first second t in
    ((λ e. other.0 (one.0 e)), (λ e. one.1 (other.1 e)))

-- after the split the letter tells nothing apart
pub done_at : (raw : RawValue) (blocks : List ℕ) (word : Word) (slots : ℕ) (letter : List Bool) → slots ≡ length letter → length letter ≡ raw.arena.slots
    → ((first second : ℕ) → AreTogether raw blocks first second → accepts_word raw (letter ∷ word) first ≡ accepts_word raw (letter ∷ word) second)
    → AreDone raw blocks word slots letter
done_at raw blocks word slots letter e size done first second other t width agree =
    let same : other ≡ letter = whole_front letter other (omega arith) (λ k h. agree k (omega arith)) in
    subst (λ letter. accepts_word raw (letter ∷ word) first ≡ accepts_word raw (letter ∷ word) second) (sym same) (done first second t)

pub nothing_listed : (part : List ℕ) → length part ≡ 0 → part ≡ []
nothing_listed [] e = refl
nothing_listed (one ∷ part) e = absurd (omega arith)

-- where no state leaves its block, nothing is told apart
pub done_by_part : (raw : RawValue) (blocks : List ℕ) (test : ℕ → Bool) (part : List ℕ) → part ≡ []
    → ((first second : ℕ) → AreTogether raw blocks first second → TellAlike test (has part) first second)
    → (first second : ℕ) → AreTogether raw blocks first second → test first ≡ test second
done_by_part raw blocks test part none told first second t =
    (told first second t).1 (ap (λ part. has part first) none ∙ sym (ap (λ part. has part second) none))

-- and once the blocks are split
pub done_by_split : (raw : RawValue) (blocks new : List ℕ) (test : ℕ → Bool) (part : List ℕ)
    → ((first second : ℕ) → AreTogether raw blocks first second → TellAlike test (has part) first second) → IsSplit (length raw.rows) blocks part new
    → (first second : ℕ) → AreTogether raw new first second → test first ≡ test second
done_by_split raw blocks new test part told split first second t =
    let both = (split.split first second t.first_is t.second_is).0 t.same in
    (told first second (record { first_is = t.first_is; second_is = t.second_is; same = both.0 })).1 both.1
