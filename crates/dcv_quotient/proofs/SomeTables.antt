-- What a machine accepts has a canonical table, where all states that are reached are in a list.
--     Access machine       words, one for each state of the table, from which it is made
--     some_canonical       so there is one
use Rattle.std.proofs.Common.{◌≡◌, ◌≢◌, ◌⊎◌, inl, inr, ℕ, zero, suc, ◌^◌, ◌<◌, Bool, List, [], ◌∷◌, ◌++◌, length, map, drop, get_or, Some, slice_get, AllPairs, refl, sym, ap, ◌∙◌, subst, arith, append-nil}
use Rattle.std.proofs.lemmas.Bool.{cases_lt}
use Rattle.std.proofs.lemmas.List.{append_assoc, length-append, length-map, get_or-map}
use Rattle.std.proofs.lemmas.List.Elements.{All-nil, All-map}
use Rattle.std.proofs.lemmas.Option.{get_or_from_slice_get}
use Rattle.dcv_word.specs.Behaviour.{Word, IsBehaviour}
use Rattle.dcv_word.specs.Letter.{bits_of, letters_of_width}
use Rattle.dcv_word.proofs.AllLetters.{length-letters_of_width, letters_of_width-place}
use Rattle.dcv_word.proofs.Bits.{bits_of-lt}
use Rattle.dcv_language.specs.Apart.{AreApart}
use Rattle.dcv_language.specs.Automaton.{WorkingMachine, state_from, accepts}
use Rattle.dcv_language.specs.Canonical.{access_word, IsStart, IsCanonical}
use Rattle.dcv_language.specs.Language.{Language}
use Rattle.dcv_language.specs.Least.{IsLeastWhere}
use Rattle.dcv_language.specs.Table.{TableState, Table, IsTable, no_state, is_accepting, next_in, automaton_of, leads_to}
use Rattle.dcv_language.proofs.Ascending.{Member, Ascends, Member-at, place_of, pairs_from_Ascends}
use Rattle.dcv_language.proofs.Behaviours.{Widths, Widths-cons, Widths-head, Widths-tail, Widths-append, one_letter, goes_on, behaviour}
use Rattle.dcv_language.proofs.Runs.{accepts_by_state, accepts_on, next_is_reached, start_is_reached}
use Rattle.dcv_language.proofs.Words.{WordLaws, Before, cases_words, before_chain, irreflexive}
use Rattle.dcv_quotient.proofs.Reaching.{SomeLetter, each_letter_or, AllFound, without, others_stay, none_is_new}
use Rattle.dcv_quotient.proofs.ToldApart.{Alike}
use Rattle.dcv_quotient.proofs.LeastWords.{LeastIn, least_or_none, behaviour_or_not}
use Rattle.dcv_quotient.proofs.WordClasses.{st, st_more, reached_by, alike_back, alike_chain, alike_next, alike_more, IsClassLeast, apart_not_alike, apart_by, alike_or_not, differ_if_not, IsLike, Classes, some_classes}

module _ {S : Type 0} (machine : WorkingMachine S) where
  abbrev accepted : Language
  accepted = accepts machine.automaton

  -- the state of this number is that of the word
  pub record IsIndex (words : List Word) (word : Word) (state : ℕ) : Type 0 where
    pub within : state < length words
    pub behaves : IsBehaviour machine.slots (access_word words state)
    pub alike : Alike machine (st machine word) (st machine (access_word words state))

  -- how the start stands
  pub data StartOf (words : List Word) : Type 0 where
    Alone : access_word words 0 ≡ [] → ((word : Word) → IsBehaviour machine.slots word → AreApart machine.slots accepted word []) → StartOf words
    Folded : IsLeastWhere machine.slots (λ other. ¬ (AreApart machine.slots accepted other [])) (access_word words 0) → StartOf words

  pub record Access (words : List Word) : Type 0 where
    pub some : 0 < length words
    pub widths : Widths machine.slots (access_word words 0)
    pub begins : (letter : List Bool) → length letter ≡ machine.slots → Alike machine (st machine (access_word words 0 ++ letter ∷ [])) (st machine (letter ∷ []))
    pub each : (word : Word) → IsBehaviour machine.slots word → (state : ℕ) × IsIndex words word state
    pub least : (state : ℕ) → 0 < state → state < length words → IsClassLeast machine (access_word words state)
    pub in_order : AllPairs Before (drop 1 words)
    pub apart : AllPairs (AreApart machine.slots accepted) words
    pub start : StartOf words

  module _ (words : List Word) (a : Access words) where
    -- ---- the table

    index_by : (word : Word) → (IsBehaviour machine.slots word ⊎ (IsBehaviour machine.slots word → ⊥)) → ℕ
    index_by word (inl behaves) = (a.each word behaves).0
    index_by word (inr not) = 0

    next_index : Word → ℕ
    next_index word = index_by word (behaviour_or_not machine.slots word)

    is_index : (word : Word) (case : IsBehaviour machine.slots word ⊎ (IsBehaviour machine.slots word → ⊥)) → IsBehaviour machine.slots word → IsIndex words word (index_by word case)
    unfolding index_by
    is_index word (inl behaves) again = (a.each word behaves).1
    is_index word (inr not) behaves = absurd (not behaves)

    index_is : (word : Word) → IsBehaviour machine.slots word → IsIndex words word (next_index word)
    unfolding next_index
    index_is word behaves = is_index word (behaviour_or_not machine.slots word) behaves

    within_by : (word : Word) (case : IsBehaviour machine.slots word ⊎ (IsBehaviour machine.slots word → ⊥)) → index_by word case < length words
    unfolding index_by
    within_by word (inl behaves) = (a.each word behaves).1.within
    within_by word (inr not) = a.some

    index_within : (word : Word) → next_index word < length words
    unfolding next_index
    index_within word = within_by word (behaviour_or_not machine.slots word)

    abbrev next_from : Word → List Bool → ℕ
    next_from word letter = next_index (word ++ letter ∷ [])

    abbrev state_of : Word → TableState
    state_of word = record { accepting = accepted word; row = map (next_from word) (letters_of_width machine.slots) }

    abbrev table_of : Table
    table_of = map state_of words

    state_at : (state : ℕ) → state < length words → get_or table_of state no_state ≡ state_of (access_word words state)
    state_at state within = get_or-map state_of words state [] no_state within

    accepting_at : (state : ℕ) → state < length words → is_accepting table_of state ≡ accepted (access_word words state)
    accepting_at state within = ap (λ (s : TableState). s.accepting) (state_at state within)

    next_at : (state : ℕ) (letter : List Bool) → state < length words → length letter ≡ machine.slots → next_in table_of state letter ≡ next_from (access_word words state) letter
    next_at state letter within width =
        let letters = letters_of_width machine.slots in
        let count = length-letters_of_width machine.slots in
        let below = bits_of-lt letter in
        let most : 2 ^ length letter ≡ 2 ^ machine.slots = ap (λ n. 2 ^ n) width in
        let there : slice_get letters (bits_of letter) ≡ Some letter = ap (λ n. slice_get (letters_of_width n) (bits_of letter)) (sym width) ∙ letters_of_width-place letter in
        ap (λ (s : TableState). get_or s.row (bits_of letter) 0) (state_at state within)
        ∙ get_or-map (next_from (access_word words state)) letters (bits_of letter) [] 0 (omega arith)
        ∙ ap (next_from (access_word words state)) (get_or_from_slice_get letters (bits_of letter) letter [] there)

    -- ---- where words lead

    step : (word : Word) (state : ℕ) (letter : List Bool) → IsIndex words word state → length letter ≡ machine.slots → IsIndex words (word ++ letter ∷ []) (next_in table_of state letter)
    step word state letter is width =
        let from = access_word words state in
        let next = index_is (from ++ letter ∷ []) (goes_on machine.slots from (letter ∷ []) is.behaves (one_letter machine.slots letter width)) in
        subst (IsIndex words (word ++ letter ∷ [])) (sym (next_at state letter is.within width)) (record {
          within = next.within;
          behaves = next.behaves;
          alike = alike_chain machine (st machine (word ++ letter ∷ [])) (st machine (from ++ letter ∷ [])) (st machine (access_word words (next_index (from ++ letter ∷ []))))
              (alike_more machine word from letter width is.alike) next.alike;
        })

    longer : (word : Word) (letter : List Bool) → Widths machine.slots word → length letter ≡ machine.slots → IsBehaviour machine.slots (word ++ letter ∷ [])
    longer word letter widths width = record {
      nonempty = omega (arith, length-append word (letter ∷ []));
      widths = Widths-append machine.slots word (letter ∷ []) widths (one_letter machine.slots letter width);
    }

    first_step : (letter : List Bool) → length letter ≡ machine.slots → IsIndex words (letter ∷ []) (next_in table_of 0 letter)
    first_step letter width =
        let from = access_word words 0 in
        let next = index_is (from ++ letter ∷ []) (longer from letter a.widths width) in
        subst (IsIndex words (letter ∷ [])) (sym (next_at 0 letter a.some width)) (record {
          within = next.within;
          behaves = next.behaves;
          alike = alike_chain machine (st machine (letter ∷ [])) (st machine (from ++ letter ∷ [])) (st machine (access_word words (next_index (from ++ letter ∷ []))))
              (alike_back machine (st machine (from ++ letter ∷ [])) (st machine (letter ∷ [])) (a.begins letter width)) next.alike;
        })

    run : (more word : Word) (state : ℕ) → IsIndex words word state → Widths machine.slots more → IsIndex words (word ++ more) (state_from (automaton_of table_of) state more)
    run [] word state is widths = subst (λ (w : Word). IsIndex words w state) (sym (append-nil word)) is
    run (letter ∷ more) word state is widths =
        subst (λ (w : Word). IsIndex words w (state_from (automaton_of table_of) (next_in table_of state letter) more)) (append_assoc word (letter ∷ []) more)
        (run more (word ++ letter ∷ []) (next_in table_of state letter) (step word state letter is (Widths-head machine.slots letter more widths)) (Widths-tail machine.slots letter more widths))

    leads : (word : Word) → IsBehaviour machine.slots word → IsIndex words word (leads_to table_of word)
    leads [] behaves = absurd (let some = behaves.nonempty in omega arith)
    leads (letter ∷ word) behaves =
        run word (letter ∷ []) (next_in table_of 0 letter) (first_step letter (Widths-head machine.slots letter word behaves.widths)) (Widths-tail machine.slots letter word behaves.widths)

    -- a word has one state
    one_index : (word : Word) (state other : ℕ) → IsIndex words word state → IsIndex words word other → state ≡ other
    one_index word state other is are =
        let first = access_word words state in
        let second = access_word words other in
        let same = alike_chain machine (st machine first) (st machine word) (st machine second) (alike_back machine (st machine word) (st machine first) is.alike) are.alike in
        elim (cases_lt state other) [
          | inl before ↦ absurd (apart_not_alike machine first second (a.apart state other [] before are.within) same)
          | inr upto ↦ elim (cases_lt other state) [
            | inl behind ↦ absurd (apart_not_alike machine second first (a.apart other state [] behind is.within) (alike_back machine (st machine first) (st machine second) same))
            | inr from ↦ omega arith
          ]
        ]

    own_index : (state : ℕ) → state < length words → IsBehaviour machine.slots (access_word words state) → IsIndex words (access_word words state) state
    own_index state within behaves = record { within = within; behaves = behaves; alike = λ word widths. refl }

    leads_home : (state : ℕ) → state < length words → IsBehaviour machine.slots (access_word words state) → leads_to table_of (access_word words state) ≡ state
    leads_home state within behaves =
        one_index (access_word words state) (leads_to table_of (access_word words state)) state (leads (access_word words state) behaves) (own_index state within behaves)

    -- ---- it is canonical

    count : length table_of ≡ length words
    count = length-map words state_of

    is_table : IsTable machine.slots table_of
    is_table = record {
      nonempty = omega (arith, count, a.some);
      rows = All-map (λ (s : TableState). length s.row ≡ 2 ^ machine.slots) state_of words
          (λ i d h. length-map (letters_of_width machine.slots) (next_from (get_or words i d)) ∙ length-letters_of_width machine.slots);
      numbers = All-map (λ (s : TableState). (j e : ℕ) → j < length s.row → get_or s.row j e < length table_of) state_of words
          (λ i d h. All-map (λ n. n < length table_of) (next_from (get_or words i d)) (letters_of_width machine.slots)
          (λ j e g. omega (arith, count, index_within (get_or words i d ++ get_or (letters_of_width machine.slots) j e ∷ []))));
    }

    exact : (word : Word) → IsBehaviour machine.slots word → accepts (automaton_of table_of) word ≡ accepted word
    exact word behaves =
        let is = leads word behaves in
        accepts_by_state (automaton_of table_of) word behaves.nonempty
        ∙ accepting_at (leads_to table_of word) is.within
        ∙ accepts_by_state machine.automaton (access_word words (leads_to table_of word)) is.behaves.nonempty
        ∙ sym (is.alike [] (All-nil (λ (letter : List Bool). length letter ≡ machine.slots)))
        ∙ sym (accepts_by_state machine.automaton word behaves.nonempty)

    folded_start : (word : Word) → access_word words 0 ≡ word → IsLeastWhere machine.slots (λ other. ¬ (AreApart machine.slots accepted other [])) word → IsStart machine.slots accepted table_of word
    folded_start [] same least = absurd (let some = least.behaviour.nonempty in omega arith)
    folded_start (letter ∷ word) same least = record {
      leads = ap (leads_to table_of) (sym same) ∙ leads_home 0 a.some (subst (IsBehaviour machine.slots) (sym same) least.behaviour);
      least = least;
    }

    start_is : StartOf words → IsStart machine.slots accepted table_of (access_word words 0)
    start_is (Folded least) = folded_start (access_word words 0) refl least
    start_is (Alone none apart) = subst (IsStart machine.slots accepted table_of) (sym none) (record {
      never_entered = λ word behaves zero_is.
          let is = subst (IsIndex words word) zero_is (leads word behaves) in
          let some = (subst (IsBehaviour machine.slots) none is.behaves).nonempty in
          omega arith;
      rejects = accepting_at 0 a.some ∙ ap accepted none;
      apart = apart;
    })

    canonical_of : IsCanonical machine.slots accepted table_of words
    canonical_of = record {
      states = is_table;
      exact = exact;
      words = sym count;
      start = start_is a.start;
      least = λ state above within.
          let inside : state < length words = omega (arith, count) in
          let class = a.least state above inside in
          record {
            behaviour = class.behaviour;
            member = leads_home state inside class.behaviour;
            least = λ other behaves same. class.least other behaves (subst (IsIndex words other) same (leads other behaves)).alike;
          };
      in_order = a.in_order;
      apart = a.apart;
    }

    pub table_from : (table : Table) × IsCanonical machine.slots accepted table words
    table_from = (table_of, canonical_of)

-- ---- lists in order, without one of their members

module _ (laws : WordLaws) (one : Word) where
  -- it does not stand there again
  not_again : (words : List Word) (there : Member one words) → Ascends Before words → Member one (without one words there) → ⊥
  unfolding without
  not_again [] there order again = absurd there
  not_again (word ∷ words) (inl same) order again = irreflexive laws word (subst (λ (w : Word). Before word w) same (order.0 one again))
  not_again (word ∷ words) (inr later) order (inl same) = irreflexive laws word (subst (λ (w : Word). Before word w) same (order.0 one later))
  not_again (word ∷ words) (inr later) order (inr again) = not_again words later order.1 again

  still_in_order : (words : List Word) (there : Member one words) → Ascends Before words → Ascends Before (without one words there)
  unfolding without
  still_in_order [] there order = absurd there
  still_in_order (word ∷ words) (inl same) order = order.1
  still_in_order (word ∷ words) (inr later) order = ((λ other among. order.0 other (none_is_new one words later other among)), still_in_order words later order.1)

module _ {S : Type 0} (machine : WorkingMachine S) (laws : WordLaws) (same_or_not : (a b : S) → (a ≡ b) ⊎ (a ≡ b → ⊥)) (list : List S) (all : AllFound machine list) where
  -- ---- classes are apart

  least_is_apart : (u v : Word) → IsClassLeast machine u → IsClassLeast machine v → (Alike machine (st machine u) (st machine v) → ⊥) → AreApart machine.slots (accepts machine.automaton) u v
  least_is_apart u v one other not =
      apart_by machine u v one.behaviour other.behaviour
      (differ_if_not machine laws same_or_not list all (st machine u) (st machine v) (reached_by machine u one.behaviour.widths) (reached_by machine v other.behaviour.widths) not)

  -- the later one is not like the earlier one
  not_like_earlier : (u v : Word) → IsClassLeast machine u → IsClassLeast machine v → Before u v → Alike machine (st machine u) (st machine v) → ⊥
  not_like_earlier u v one other before same = other.least u one.behaviour same before

  apart_in_order : (words : List Word) → Ascends Before words → ((word : Word) → Member word words → IsClassLeast machine word) → Ascends (AreApart machine.slots (accepts machine.automaton)) words
  apart_in_order [] order least = tt
  apart_in_order (word ∷ words) order least = (
    (λ other there. least_is_apart word other (least word (inl refl)) (least other (inr there))
        (not_like_earlier word other (least word (inl refl)) (least other (inr there)) (order.0 other there))),
    apart_in_order words order.1 (λ other there. least other (inr there)),
  )

  -- ---- behaviours like the empty word

  abbrev LikeStart : Word → Type 0
  LikeStart word = (letter : List Bool) → length letter ≡ machine.slots → Alike machine (machine.next (st machine word) letter) (machine.next machine.start letter)

  like_start_or_some : (word : Word) → IsBehaviour machine.slots word
      → LikeStart word ⊎ SomeLetter machine.slots (λ letter. Alike machine (machine.next (st machine word) letter) (machine.next machine.start letter))
  like_start_or_some word behaves =
      each_letter_or machine.slots (λ letter. Alike machine (machine.next (st machine word) letter) (machine.next machine.start letter))
      (λ letter width. alike_or_not machine laws same_or_not list all (machine.next (st machine word) letter) (machine.next machine.start letter)
      (next_is_reached machine (st machine word) letter width (reached_by machine word behaves.widths)) (next_is_reached machine machine.start letter width (start_is_reached machine)))

  like_start_or : (word : Word) → IsBehaviour machine.slots word → LikeStart word ⊎ (LikeStart word → ⊥)
  like_start_or word behaves = elim (like_start_or_some word behaves) [
    | inl like ↦ inl like
    | inr some ↦ inr (λ like. some.fails (like some.letter some.width))
  ]

  like_start_by : (u v : Word) → Alike machine (st machine u) (st machine v) → LikeStart v → LikeStart u
  like_start_by u v same like = λ letter width.
      alike_chain machine (machine.next (st machine u) letter) (machine.next (st machine v) letter) (machine.next machine.start letter)
      (alike_next machine (st machine u) (st machine v) letter width same) (like letter width)

  not_apart : (word : Word) → LikeStart word → AreApart machine.slots (accepts machine.automaton) word [] → ⊥
  not_apart word like apart = by apart.suffix apart.tells.first_goes_on.nonempty apart.tells.second_goes_on apart.tells.differ
    where
      by : (suffix : Word) → 0 < length (word ++ suffix) → IsBehaviour machine.slots suffix → accepts machine.automaton (word ++ suffix) ≢ accepts machine.automaton suffix → ⊥
      by [] some behaves differ = absurd (let none = behaves.nonempty in omega arith)
      by (letter ∷ suffix) some behaves differ =
          differ (accepts_on machine.automaton word (letter ∷ suffix) some
          ∙ like letter (Widths-head machine.slots letter suffix behaves.widths) suffix (Widths-tail machine.slots letter suffix behaves.widths))

  apart_if_not : (word : Word) → IsBehaviour machine.slots word → (LikeStart word → ⊥) → AreApart machine.slots (accepts machine.automaton) word []
  apart_if_not word behaves not = elim (like_start_or_some word behaves) [ inl like ↦ absurd (not like) | inr some ↦ by some.letter some.width some.fails ]
    where
      by : (letter : List Bool) → length letter ≡ machine.slots → (Alike machine (machine.next (st machine word) letter) (machine.next machine.start letter) → ⊥)
          → AreApart machine.slots (accepts machine.automaton) word []
      by letter width fails =
          let differ = differ_if_not machine laws same_or_not list all (machine.next (st machine word) letter) (machine.next machine.start letter)
          (next_is_reached machine (st machine word) letter width (reached_by machine word behaves.widths)) (next_is_reached machine machine.start letter width (start_is_reached machine)) fails in
          let suffix = letter ∷ differ.word in
          let first = goes_on machine.slots word suffix behaves (Widths-cons machine.slots letter differ.word width differ.widths) in
          record {
            suffix = suffix;
            tells = record {
              first_goes_on = first;
              second_goes_on = behaviour machine.slots letter differ.word (Widths-cons machine.slots letter differ.word width differ.widths);
              differ = λ same. differ.differ (sym (accepts_on machine.automaton word suffix first.nonempty) ∙ same);
            };
          }

  apart_other_way : (word : Word) → AreApart machine.slots (accepts machine.automaton) word [] → AreApart machine.slots (accepts machine.automaton) [] word
  apart_other_way word apart = record {
    suffix = apart.suffix;
    tells = record { first_goes_on = apart.tells.second_goes_on; second_goes_on = apart.tells.first_goes_on; differ = λ same. apart.tells.differ (sym same) };
  }

  -- ---- the words of the states

  module _ (classes : Classes machine laws same_or_not list all list) where
    like_of : (word : Word) → IsBehaviour machine.slots word → IsLike machine laws same_or_not list all classes.words word
    like_of word behaves =
        classes.each (st machine word) (all.all (st machine word) (reached_by machine word behaves.widths)) word behaves (λ suffix widths. refl)

    index_among : (words : List Word) (word one : Word) → Member one words → IsClassLeast machine one → Alike machine (st machine word) (st machine one) → (state : ℕ) × IsIndex machine words word state
    index_among words word one there least same =
        let (state, within, is) = place_of words one there in (
          state,
          record {
            within = within;
            behaves = subst (IsBehaviour machine.slots) (is []) least.behaviour;
            alike = subst (λ (w : Word). Alike machine (st machine word) (st machine w)) (is []) same;
          },
        )

    least_at : (words : List Word) → ((word : Word) → Member word words → IsClassLeast machine word) → (state : ℕ) → state < length words → IsClassLeast machine (access_word words state)
    least_at words least state within = least (access_word words state) (Member-at words state [] within)

    -- no behaviour is like the empty word
    module _ (none : (word : Word) → Member word classes.words → LikeStart word → ⊥) where
      never_like : (word : Word) → IsBehaviour machine.slots word → LikeStart word → ⊥
      never_like word behaves like =
          let one = like_of word behaves in
          none one.one one.there (like_start_by one.one word (alike_back machine (st machine word) (st machine one.one) one.alike) like)

      all_apart : (word : Word) → IsBehaviour machine.slots word → AreApart machine.slots (accepts machine.automaton) word []
      all_apart word behaves = apart_if_not word behaves (never_like word behaves)

      alone : Access machine ([] ∷ classes.words)
      alone = record {
        some = omega arith;
        widths = All-nil (λ (letter : List Bool). length letter ≡ machine.slots);
        begins = λ letter width word widths. refl;
        each = λ word behaves. let one = like_of word behaves in index_among ([] ∷ classes.words) word one.one (inr one.there) (classes.least one.one one.there) one.alike;
        least = least_behind;
        in_order = pairs_from_Ascends Before classes.words classes.in_order;
        apart = pairs_from_Ascends (AreApart machine.slots (accepts machine.automaton)) ([] ∷ classes.words) (
          (λ word there. apart_other_way word (all_apart word (classes.least word there).behaviour)),
          apart_in_order classes.words classes.in_order classes.least,
        );
        start = Alone refl all_apart;
      }
        where
          least_behind : (state : ℕ) → 0 < state → state < length ([] ∷ classes.words) → IsClassLeast machine (access_word ([] ∷ classes.words) state)
          least_behind zero above within = absurd (omega arith)
          least_behind (suc state) above within = least_at classes.words classes.least state (omega arith)

    -- the least of those that are is the word of the start
    module _ (first : LeastIn laws LikeStart classes.words) where
      abbrev others : List Word
      others = without first.word classes.words first.there

      others_least : (word : Word) → Member word others → IsClassLeast machine word
      others_least word there = classes.least word (none_is_new first.word classes.words first.there word there)

      first_least : IsClassLeast machine first.word
      first_least = classes.least first.word first.there

      not_like_first : (word : Word) → Member word others → Alike machine (st machine first.word) (st machine word) → ⊥
      not_like_first word there same = elim (cases_words laws first.word word) [
        | inl before ↦ not_like_earlier first.word word first_least (others_least word there) before same
        | inr rest ↦ elim rest [
          | inl one ↦ not_again laws first.word classes.words first.there classes.in_order (subst (λ (w : Word). Member w others) (sym one) there)
          | inr after ↦ not_like_earlier word first.word (others_least word there) first_least after (alike_back machine (st machine first.word) (st machine word) same)
        ]
      ]

      where_it_is : (one : Word) → Member one classes.words → Member one (first.word ∷ others)
      where_it_is one there = elim (cases_words laws one first.word) [
        | inl before ↦ inr (others_stay first.word classes.words first.there one there (λ same. irreflexive laws first.word (subst (λ (w : Word). Before w first.word) same before)))
        | inr rest ↦ elim rest [
          | inl same ↦ inl same
          | inr after ↦ inr (others_stay first.word classes.words first.there one there (λ same. irreflexive laws first.word (subst (λ (w : Word). Before first.word w) same after)))
        ]
      ]

      -- a sooner behaviour is apart from the empty word
      first_of_all : (other : Word) → IsBehaviour machine.slots other → ¬ (AreApart machine.slots (accepts machine.automaton) other []) → Before other first.word → ⊥
      first_of_all other behaves near before =
          let one = like_of other behaves in
          let least = classes.least one.one one.there in
          let like : LikeStart other = elim (like_start_or other behaves) [ inl like ↦ like | inr not ↦ absurd (near (apart_if_not other behaves not)) ] in
          let one_like = like_start_by one.one other (alike_back machine (st machine other) (st machine one.one) one.alike) like in
          let not_sooner : Before one.one first.word → ⊥ = first.least one.one one.there one_like in
          let not_before : Before other one.one → ⊥ = least.least other behaves one.alike in
          elim (cases_words laws one.one first.word) [
            | inl sooner ↦ not_sooner sooner
            | inr rest ↦ elim rest [
              | inl same ↦ not_before (subst (λ (w : Word). Before other w) (sym same) before)
              | inr after ↦ not_before (before_chain laws other first.word one.one before after)
            ]
          ]

      begins_alike : (letter : List Bool) → length letter ≡ machine.slots → Alike machine (st machine (first.word ++ letter ∷ [])) (st machine (letter ∷ []))
      begins_alike letter width = subst (λ (p : S). Alike machine p (machine.next machine.start letter)) (sym (st_more machine first.word letter)) (first.holds letter width)

      folded : Access machine (first.word ∷ others)
      folded = record {
        some = omega arith;
        widths = first_least.behaviour.widths;
        begins = begins_alike;
        each = λ word behaves. let one = like_of word behaves in
            index_among (first.word ∷ others) word one.one (where_it_is one.one one.there) (classes.least one.one one.there) one.alike;
        least = least_behind;
        in_order = pairs_from_Ascends Before others (still_in_order laws first.word classes.words first.there classes.in_order);
        apart = pairs_from_Ascends (AreApart machine.slots (accepts machine.automaton)) (first.word ∷ others) (
          (λ word there. least_is_apart first.word word first_least (others_least word there) (not_like_first word there)),
          apart_in_order others (still_in_order laws first.word classes.words first.there classes.in_order) others_least,
        );
        start = Folded (record {
          behaviour = first_least.behaviour;
          member = not_apart first.word first.holds;
          least = λ other behaves near. first_of_all other behaves near;
        });
      }
        where
          least_behind : (state : ℕ) → 0 < state → state < length (first.word ∷ others) → IsClassLeast machine (access_word (first.word ∷ others) state)
          least_behind zero above within = absurd (omega arith)
          least_behind (suc state) above within = least_at others others_least state (omega arith)

    abbrev pub SomeTable : Type 0
    SomeTable = (table : Table) × ((access : List Word) × IsCanonical machine.slots (accepts machine.automaton) table access)

    table_by : (words : List Word) → Access machine words → SomeTable
    table_by words a = let found = table_from machine words a in (found.0, (words, found.1))

    table_of_classes : SomeTable
    table_of_classes = elim (least_or_none laws LikeStart classes.words (λ word there. like_start_or word (classes.least word there).behaviour)) [
      | inl first ↦ table_by (first.word ∷ others first) (folded first)
      | inr none ↦ table_by ([] ∷ classes.words) (alone none)
    ]

  pub some_canonical : (table : Table) × ((access : List Word) × IsCanonical machine.slots (accepts machine.automaton) table access)
  some_canonical = table_of_classes (some_classes machine laws same_or_not list all)
