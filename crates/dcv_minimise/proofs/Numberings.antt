-- The states that are kept, with their access words, numbered: for a start that stands alone, and for one that shares a class.
use Rattle.std.proofs.Common.{◌≡◌, ◌≢◌, ℕ, zero, suc, ◌<◌, Bool, true, false, List, [], ◌∷◌, length, get_or, map, remove, AllPairs, Option, None, Some, is_none, ⊎_elim, refl, ap, sym, ◌∙◌, subst, subst₂, arith}
use Rattle.std.specs.List.{All}
use Rattle.std.proofs.lemmas.Bool.{cases_order}
use Rattle.std.proofs.lemmas.List.{length-map, get_or-map, get_or-take, length-take, get_or_default}
use Rattle.std.proofs.lemmas.List.Elements.{All-cons}
use Rattle.std.proofs.lemmas.List.Kept.{AllPairs-cons}
use Rattle.dcv_word.specs.Behaviour.{Word}
use Rattle.dcv_language.specs.Least.{IsNoLater}
use Rattle.dcv_language.proofs.Words.{Before, asymmetric}
use Rattle.dcv_dfa.specs.Raw.{RawValue, IsRaw, automaton_of}
use Rattle.dcv_refinement.specs.Members.{block_of}
use Rattle.dcv_minimise.specs.Partition.{IsPartition}
use Rattle.dcv_minimise.specs.Classes.{block_at, AreFirsts, firsts_of, HaveSameRow, IsLikeAt, IsFirstLike, kept_of, AreKept}
use Rattle.dcv_minimise.proofs.LeastWords.{word_laws, AreReachedBy, IsAt, before_at, no_later_at, listed_inside}
use Rattle.dcv_minimise.proofs.Moving.{IsMoved, class_of, number_of, moved_ascends, moved_differ, moved_other, length-moved, get_or-moved}

-- ---- what is true of the numbered states

-- a number other than that of a start that stands alone
abbrev pub IsEntered : Bool → ℕ → Type 0
IsEntered true number = 0 < number
IsEntered false number = Unit {0}

-- the state at a place is in the class with this number, and its word is no earlier than the class's
pub record HasNumber (blocks states : List ℕ) (words : List Word) (kept : List ℕ) (access : List Word) (alone : Bool) (place : ℕ) : Type 0 where
  pub number : ℕ
  pub within : number < length kept
  pub entered : IsEntered alone number
  pub same : block_at blocks kept number ≡ block_at blocks states place
  pub no_later : IsNoLater (get_or access number []) (get_or words place [])

-- how the start stands: alone, with a row that no class has; or in a class with its row, before which no class has it
pub record IsAlone (raw : RawValue) (blocks kept : List ℕ) (access : List Word) : Type 0 where
  pub word : get_or access 0 [] ≡ []
  pub is : get_or kept 0 0 ≡ raw.start
  pub other_rows : (number : ℕ) → 0 < number → number < length kept → ¬ HaveSameRow raw blocks raw.start (get_or kept number 0)

pub record IsShared (raw : RawValue) (blocks kept : List ℕ) (access : List Word) : Type 0 where
  pub same : HaveSameRow raw blocks raw.start (get_or kept 0 0)
  pub other_rows : (number : ℕ) → 0 < number → number < length kept → Before (get_or access number []) (get_or access 0 [])
      → ¬ HaveSameRow raw blocks raw.start (get_or kept number 0)

abbrev pub IsStart : RawValue → List ℕ → List ℕ → List Word → Bool → Type 0
IsStart raw blocks kept access true = IsAlone raw blocks kept access
IsStart raw blocks kept access false = IsShared raw blocks kept access

pub record IsNumbering (raw : RawValue) (blocks states : List ℕ) (words : List Word) (kept : List ℕ) (access : List Word) (alone : Bool) : Type 0 where
  pub some : 0 < length kept
  pub beside : length access ≡ length kept
  pub inside : All (λ state. state < length raw.rows) kept
  pub apart : AllPairs (λ first second. block_of blocks first ≢ block_of blocks second) kept
  -- each number but that of a start that stands alone is of a listed state, with its word
  pub at : (number : ℕ) → number < length kept → IsEntered alone number → IsAt states words (get_or kept number 0) (get_or access number [])
  pub each : (place : ℕ) → place < length states → HasNumber blocks states words kept access alone place
  pub in_order : (first second : ℕ) → 0 < first → first < second → second < length kept → Before (get_or access first []) (get_or access second [])
  pub start : IsStart raw blocks kept access alone

-- ---- the first states of the classes

module _ (raw : RawValue) (is : IsRaw raw) (blocks states : List ℕ) (words : List Word) (reached : AreReachedBy raw.arena.slots (automaton_of raw) states words)
    (places : List ℕ) (firsts : AreFirsts blocks states (length states) places) where
  abbrev pub first_states : List ℕ
  first_states = firsts_of states places

  abbrev pub first_words : List Word
  first_words = map (λ place. get_or words place []) places

  states_many : length first_states ≡ length places
  states_many = length-map places (λ place. get_or states place 0)

  words_many : length first_words ≡ length places
  words_many = length-map places (λ place. get_or words place [])

  state_at : (class : ℕ) → class < length places → get_or first_states class 0 ≡ get_or states (get_or places class 0) 0
  state_at class h = get_or-map (λ place. get_or states place 0) places class 0 0 h

  word_at : (class : ℕ) → class < length places → get_or first_words class [] ≡ get_or words (get_or places class 0) []
  word_at class h = get_or-map (λ place. get_or words place []) places class 0 [] h

  -- each stands with its word
  first_at : (class : ℕ) → class < length places → IsAt states words (get_or first_states class 0) (get_or first_words class [])
  first_at class h = record { place = get_or places class 0; within = firsts.within class 0 h; state_is = sym (state_at class h); word_is = sym (word_at class h) }

  firsts_inside : (class : ℕ) → class < length places → get_or first_states class 0 < length raw.rows
  firsts_inside class h = subst (λ state. state < length raw.rows) (sym (state_at class h)) (listed_inside raw is states words reached (get_or places class 0) (firsts.within class 0 h))

  firsts_apart : (first second : ℕ) → first < second → second < length places → block_at blocks first_states first ≢ block_at blocks first_states second
  firsts_apart first second less h same =
      firsts.apart first second 0 less h
      (ap (block_of blocks) (sym (state_at first (omega arith))) ∙ same ∙ ap (block_of blocks) (state_at second h))

  firsts_differ : (first second : ℕ) → first < length places → second < length places → first ≢ second → block_at blocks first_states first ≢ block_at blocks first_states second
  firsts_differ first second h l differ same = ⊎_elim
      (λ equal. differ equal)
      (λ s. ⊎_elim (λ less. firsts_apart first second less l same) (λ more. firsts_apart second first more h (sym same)) s)
      (cases_order first second)

  words_ascend : (first second : ℕ) → first < second → second < length places → Before (get_or first_words first []) (get_or first_words second [])
  words_ascend first second less h =
      subst₂ Before (sym (word_at first (omega arith))) (sym (word_at second h))
      (before_at raw.arena.slots (automaton_of raw) states words reached (get_or places first 0) (get_or places second 0) (firsts.ascend first second 0 less h) (firsts.within second 0 h))

  -- each listed state is in a class
  record HasClassAt (place : ℕ) : Type 0 where
    class : ℕ
    within : class < length places
    same : block_at blocks first_states class ≡ block_at blocks states place
    no_later : IsNoLater (get_or first_words class []) (get_or words place [])

  class_at : (place : ℕ) → place < length states → HasClassAt place
  class_at place h =
      let has = firsts.each place h in
      let class = has.among.0 in
      let here : class < length places = has.among.1 in
      let stands : get_or places class 0 ≡ has.first = get_or_default places class 0 has.first here ∙ has.among.2 in
      record {
        class = class;
        within = here;
        same = ap (block_of blocks) (state_at class here) ∙ ap (block_at blocks states) stands ∙ has.same;
        no_later = subst (λ w. IsNoLater w (get_or words place [])) (sym (word_at class here))
            (subst (λ p. IsNoLater (get_or words p []) (get_or words place [])) (sym stands)
            (no_later_at raw.arena.slots (automaton_of raw) states words reached has.first place has.no_later h));
      }

  -- ---- a start that stands alone

  module _ (partition : IsPartition raw blocks) (others : IsFirstLike raw blocks raw.start first_states None) where
    abbrev alone_kept : List ℕ
    alone_kept = raw.start ∷ first_states

    abbrev alone_access : List Word
    alone_access = [] ∷ first_words

    other_block : (class : ℕ) → class < length places → block_of blocks raw.start ≢ block_at blocks first_states class
    other_block class h same =
        others class 0 (omega (arith, states_many))
        (λ letter size. partition.steps raw.start (get_or first_states class 0) letter is.start (firsts_inside class h) same size)

    alone_at : (number : ℕ) → number < length alone_kept → 0 < number → IsAt states words (get_or alone_kept number 0) (get_or alone_access number [])
    alone_at zero h some = absurd (omega arith)
    alone_at (suc class) h some = first_at class (omega (arith, states_many))

    alone_in_order : (first second : ℕ) → 0 < first → first < second → second < length alone_kept → Before (get_or alone_access first []) (get_or alone_access second [])
    alone_in_order zero second some less h = absurd (omega arith)
    alone_in_order (suc first) zero some less h = absurd (omega arith)
    alone_in_order (suc first) (suc second) some less h = words_ascend first second (omega arith) (omega (arith, states_many))

    alone_other_rows : (number : ℕ) → 0 < number → number < length alone_kept → ¬ HaveSameRow raw blocks raw.start (get_or alone_kept number 0)
    alone_other_rows zero some h = absurd (omega arith)
    alone_other_rows (suc class) some h = others class 0 (omega arith)

    pub alone_numbering : IsNumbering raw blocks states words alone_kept alone_access true
    alone_numbering = record {
      some = omega arith;
      beside = omega (arith, states_many, words_many);
      inside = All-cons (λ state. state < length raw.rows) raw.start first_states is.start
          (λ class d h. let here : class < length places = omega (arith, states_many) in
          subst (λ state. state < length raw.rows) (get_or_default first_states class 0 d h) (firsts_inside class here));
      apart = AllPairs-cons (λ first second. block_of blocks first ≢ block_of blocks second) raw.start first_states
          (λ class d h. let here : class < length places = omega (arith, states_many) in
          subst (λ state. block_of blocks raw.start ≢ block_of blocks state) (get_or_default first_states class 0 d h) (other_block class here))
          (λ i j d less h. let here : j < length places = omega (arith, states_many) in
          subst₂ (λ first second. block_of blocks first ≢ block_of blocks second) (get_or_default first_states i 0 d (omega arith)) (get_or_default first_states j 0 d h) (firsts_apart i j less here));
      at = alone_at;
      each = λ place h. let class = class_at place h in
          record { number = suc class.class; within = omega (arith, states_many, class.within); entered = omega arith; same = class.same; no_later = class.no_later };
      in_order = alone_in_order;
      start = record { word = refl; is = refl; other_rows = alone_other_rows };
    }

  -- ---- a start that shares a class

  module _ (place : ℕ) (like : IsLikeAt raw blocks raw.start first_states place) where
    abbrev shared_kept : List ℕ
    shared_kept = get_or first_states place 0 ∷ remove first_states place

    abbrev shared_access : List Word
    shared_access = get_or first_words place [] ∷ remove first_words place

    here : place < length places
    here = omega (arith, like.within, states_many)

    kept_many : length shared_kept ≡ length places
    kept_many = length-moved first_states place 0 like.within ∙ states_many

    access_many : length shared_access ≡ length places
    access_many = length-moved first_words place [] (omega (arith, here, words_many)) ∙ words_many

    kept_at : (number class d : ℕ) → IsMoved place number class → get_or shared_kept number d ≡ get_or first_states class d
    kept_at number class d moved = get_or-moved first_states place 0 like.within number class d moved

    access_at : (number class : ℕ) → IsMoved place number class → get_or shared_access number [] ≡ get_or first_words class []
    access_at number class moved = get_or-moved first_words place [] (omega (arith, here, words_many)) number class [] moved

    shared_inside : All (λ state. state < length raw.rows) shared_kept
    shared_inside number d h =
        let class = class_of place (length places) number here (omega (arith, kept_many)) in
        subst (λ state. state < length raw.rows)
        (get_or_default first_states class.class 0 d (omega (arith, class.within, states_many)) ∙ sym (kept_at number class.class d class.is))
        (firsts_inside class.class class.within)

    shared_apart : AllPairs (λ first second. block_of blocks first ≢ block_of blocks second) shared_kept
    shared_apart i j d less h =
        let first = class_of place (length places) i here (omega (arith, kept_many)) in
        let second = class_of place (length places) j here (omega (arith, kept_many)) in
        subst₂ (λ first second. block_of blocks first ≢ block_of blocks second)
        (get_or_default first_states first.class 0 d (omega (arith, first.within, states_many)) ∙ sym (kept_at i first.class d first.is))
        (get_or_default first_states second.class 0 d (omega (arith, second.within, states_many)) ∙ sym (kept_at j second.class d second.is))
        (firsts_differ first.class second.class first.within second.within (moved_differ place i j first.class second.class first.is second.is less))

    shared_at : (number : ℕ) → number < length shared_kept → Unit {0} → IsAt states words (get_or shared_kept number 0) (get_or shared_access number [])
    shared_at number h entered =
        let class = class_of place (length places) number here (omega (arith, kept_many)) in
        subst₂ (IsAt states words) (sym (kept_at number class.class 0 class.is)) (sym (access_at number class.class class.is)) (first_at class.class class.within)

    shared_each : (at : ℕ) → at < length states → HasNumber blocks states words shared_kept shared_access false at
    shared_each at h =
        let class = class_at at h in
        let number = number_of place (length places) class.class here class.within in
        record {
          number = number.number;
          within = omega (arith, number.within, kept_many);
          entered = tt;
          same = ap (block_of blocks) (kept_at number.number class.class 0 number.is) ∙ class.same;
          no_later = subst (λ w. IsNoLater w (get_or words at [])) (sym (access_at number.number class.class number.is)) class.no_later;
        }

    shared_in_order : (first second : ℕ) → 0 < first → first < second → second < length shared_kept → Before (get_or shared_access first []) (get_or shared_access second [])
    shared_in_order first second some less h =
        let one = class_of place (length places) first here (omega (arith, kept_many)) in
        let other = class_of place (length places) second here (omega (arith, kept_many)) in
        subst₂ Before (sym (access_at first one.class one.is)) (sym (access_at second other.class other.is))
        (words_ascend one.class other.class (moved_ascends place first second one.class other.class one.is other.is some less) other.within)

    -- a class before it has another row
    earlier_row : (class : ℕ) → class < place → ¬ HaveSameRow raw blocks raw.start (get_or first_states class 0)
    earlier_row class less =
        subst (λ state. ¬ HaveSameRow raw blocks raw.start state) (get_or-take place first_states class 0 less)
        (like.earlier class 0 (omega (arith, length-take place first_states, like.within)))

    shared_other_rows : (number : ℕ) → 0 < number → number < length shared_kept → Before (get_or shared_access number []) (get_or shared_access 0 [])
        → ¬ HaveSameRow raw blocks raw.start (get_or shared_kept number 0)
    shared_other_rows number some h before =
        let class = class_of place (length places) number here (omega (arith, kept_many)) in
        let lesser : Before (get_or first_words class.class []) (get_or first_words place []) = subst (λ w. Before w (get_or first_words place [])) (access_at number class.class class.is) before in
        subst (λ state. ¬ HaveSameRow raw blocks raw.start state) (sym (kept_at number class.class 0 class.is))
        (⊎_elim
        (λ same. absurd (moved_other place number class.class class.is some same))
        (λ s. ⊎_elim
        (λ less. earlier_row class.class less)
        (λ more. absurd (asymmetric word_laws (get_or first_words class.class []) (get_or first_words place []) lesser (words_ascend place class.class more class.within))) s)
        (cases_order class.class place))

    pub shared_numbering : IsNumbering raw blocks states words shared_kept shared_access false
    shared_numbering = record {
      some = omega arith;
      beside = access_many ∙ sym kept_many;
      inside = shared_inside;
      apart = shared_apart;
      at = shared_at;
      each = shared_each;
      in_order = shared_in_order;
      start = record { same = like.same; other_rows = shared_other_rows };
    }

-- ---- the states that are kept

-- the access words of the numbers
pub record HasNumbering (raw : RawValue) (blocks states : List ℕ) (words : List Word) (kept : List ℕ) (alone : Bool) : Type 0 where
  pub access : List Word
  pub is : IsNumbering raw blocks states words kept access alone

module _ (raw : RawValue) (is : IsRaw raw) (blocks states : List ℕ) (words : List Word) (reached : AreReachedBy raw.arena.slots (automaton_of raw) states words)
    (partition : IsPartition raw blocks) where
  by_shared : (places : List ℕ) (firsts : AreFirsts blocks states (length states) places) (shared : Option ℕ) → IsFirstLike raw blocks raw.start (firsts_of states places) shared
      → HasNumbering raw blocks states words (kept_of raw.start (firsts_of states places) shared) (is_none shared)
  by_shared places firsts None others = record { access = _; is = alone_numbering raw is blocks states words reached places firsts partition others }
  by_shared places firsts (Some place) like = record { access = _; is = shared_numbering raw is blocks states words reached places firsts place like }

  pub kept_numbering : (kept : List ℕ) (alone : Bool) → AreKept raw blocks states kept alone → HasNumbering raw blocks states words kept alone
  kept_numbering kept alone are =
      subst₂ (HasNumbering raw blocks states words) (sym are.are) (sym are.stands) (by_shared are.places are.firsts are.shared are.first)
