-- The least behaviours of the classes that a machine tells apart, in order, where all states that are reached are in a list.
--     st word                the state to which the word leads
--     IsClassLeast word      it is the least behaviour that leads to a state like its own
--     Classes xs             for each of these states that is like one to which a behaviour leads there is such a word
--     some_classes           so it is for all states
use Rattle.std.proofs.Common.{◌≡◌, ◌⊎◌, inl, inr, ℕ, ◌<◌, Bool, List, [], ◌∷◌, ◌++◌, length, refl, sym, ap, ◌∙◌, subst, arith}
use Rattle.dcv_word.specs.Behaviour.{Word, IsBehaviour}
use Rattle.dcv_language.specs.Apart.{AreApart}
use Rattle.dcv_language.specs.Automaton.{WorkingMachine, IsReached, state_after, accepts}
use Rattle.dcv_language.specs.Least.{IsLeastWhere}
use Rattle.dcv_language.proofs.Ascending.{Member, Ascends}
use Rattle.dcv_language.proofs.Behaviours.{Widths, Widths-cons, Widths-front, Widths-rest, Widths-append, Widths-head, one_letter, goes_on}
use Rattle.dcv_language.proofs.Runs.{state_from-append, accepts_on, next_is_reached}
use Rattle.dcv_language.proofs.Words.{WordLaws, Before, cases_words, before_chain}
use Rattle.dcv_quotient.proofs.Reaching.{SomeLetter, each_letter_or, each_member_or, AllFound}
use Rattle.dcv_quotient.proofs.ToldApart.{Alike, Differ, alike_or_differ}
use Rattle.dcv_quotient.proofs.LeastWords.{least_where}

-- ---- a word more in a list in order

pub record Inserted (word : Word) (words : List Word) : Type 0 where
  pub result : List Word
  pub in_order : Ascends Before result
  pub has_word : Member word result
  pub keeps : (other : Word) → Member other words → Member other result
  pub only : (other : Word) → Member other result → (other ≡ word) ⊎ Member other words

module _ (laws : WordLaws) where
  insert_by : (word x : Word) (xs : List Word) → Ascends Before (x ∷ xs) → (Before word x ⊎ ((word ≡ x) ⊎ Before x word)) → Inserted word xs → Inserted word (x ∷ xs)
  insert_by word x xs order (inl before) rest = record {
    result = word ∷ x ∷ xs;
    in_order = (
      (λ other there. elim there [
        | inl same ↦ subst (λ (w : Word). Before word w) (sym same) before
        | inr later ↦ before_chain laws word x other before (order.0 other later)
      ]),
      order,
    );
    has_word = inl refl;
    keeps = λ other there. inr there;
    only = λ other there. there;
  }
  insert_by word x xs order (inr (inl same)) rest = record {
    result = x ∷ xs;
    in_order = order;
    has_word = inl same;
    keeps = λ other there. there;
    only = λ other there. inr there;
  }
  insert_by word x xs order (inr (inr after)) rest = record {
    result = x ∷ rest.result;
    in_order = (
      (λ other there. elim (rest.only other there) [ inl same ↦ subst (λ (w : Word). Before x w) (sym same) after | inr among ↦ order.0 other among ]),
      rest.in_order,
    );
    has_word = inr rest.has_word;
    keeps = λ other there. elim there [ inl same ↦ inl same | inr later ↦ inr (rest.keeps other later) ];
    only = λ other there. elim there [
      | inl same ↦ inr (inl same)
      | inr later ↦ elim (rest.only other later) [ inl same ↦ inl same | inr among ↦ inr (inr among) ]
    ];
  }

  insert : (word : Word) (words : List Word) → Ascends Before words → Inserted word words
  insert word [] order = record {
    result = word ∷ [];
    in_order = ((λ other there. absurd there), tt);
    has_word = inl refl;
    keeps = λ other there. absurd there;
    only = λ other there. elim there [ inl same ↦ inl same | inr none ↦ absurd none ];
  }
  insert word (x ∷ xs) order = insert_by word x xs order (cases_words laws word x) (insert word xs order.1)

-- a behaviour is a word with a last letter
pub record Last (word : Word) : Type 0 where
  pub front : Word
  pub letter : List Bool
  pub is : word ≡ front ++ letter ∷ []

pub last_of : (letter : List Bool) (word : Word) → Last (letter ∷ word)
last_of letter [] = record { front = []; letter = letter; is = refl }
last_of letter (next ∷ word) = let rest = last_of next word in record { front = letter ∷ rest.front; letter = rest.letter; is = ap (λ w. letter ∷ w) rest.is }

pub last_of_behaviour : (k : ℕ) (word : Word) → IsBehaviour k word → Last word
last_of_behaviour k [] behaves = absurd (let some = behaves.nonempty in omega arith)
last_of_behaviour k (letter ∷ word) behaves = last_of letter word

module _ {S : Type 0} (machine : WorkingMachine S) where
  abbrev pub st : Word → S
  st word = state_after machine.automaton word

  pub st_more : (word : Word) (letter : List Bool) → st (word ++ letter ∷ []) ≡ machine.next (st word) letter
  st_more word letter = state_from-append machine.automaton machine.start word (letter ∷ [])

  pub reached_by : (word : Word) → Widths machine.slots word → IsReached machine (st word)
  reached_by word widths = record { word = word; widths = widths; leads = refl }

  -- ---- states that are alike

  pub alike_back : (p q : S) → Alike machine p q → Alike machine q p
  alike_back p q same = λ word widths. sym (same word widths)

  pub alike_chain : (p q r : S) → Alike machine p q → Alike machine q r → Alike machine p r
  alike_chain p q r one other = λ word widths. one word widths ∙ other word widths

  pub alike_next : (p q : S) (letter : List Bool) → length letter ≡ machine.slots → Alike machine p q → Alike machine (machine.next p letter) (machine.next q letter)
  alike_next p q letter width same = λ word widths. same (letter ∷ word) (Widths-cons machine.slots letter word width widths)

  pub alike_more : (u v : Word) (letter : List Bool) → length letter ≡ machine.slots → Alike machine (st u) (st v) → Alike machine (st (u ++ letter ∷ [])) (st (v ++ letter ∷ []))
  alike_more u v letter width same =
      subst (λ (p : S). Alike machine p (st (v ++ letter ∷ []))) (sym (st_more u letter))
      (subst (λ (q : S). Alike machine (machine.next (st u) letter) q) (sym (st_more v letter)) (alike_next (st u) (st v) letter width same))

  abbrev pub IsClassLeast : Word → Type 0
  IsClassLeast word = IsLeastWhere machine.slots (λ other. Alike machine (st other) (st word)) word

  -- words that are told apart lead to states that are not alike
  pub apart_not_alike : (u v : Word) → AreApart machine.slots (accepts machine.automaton) u v → Alike machine (st u) (st v) → ⊥
  apart_not_alike u v apart same =
      let suffix = apart.suffix in
      let tells = apart.tells in
      tells.differ (accepts_on machine.automaton u suffix tells.first_goes_on.nonempty
      ∙ same suffix (Widths-rest machine.slots u suffix tells.first_goes_on.widths)
      ∙ sym (accepts_on machine.automaton v suffix tells.second_goes_on.nonempty))

  -- and behaviours that lead to states that differ are apart
  pub apart_by : (u v : Word) → IsBehaviour machine.slots u → IsBehaviour machine.slots v → Differ machine (st u) (st v) → AreApart machine.slots (accepts machine.automaton) u v
  apart_by u v one other differ =
      let suffix = differ.word in
      let first = goes_on machine.slots u suffix one differ.widths in
      let second = goes_on machine.slots v suffix other differ.widths in
      record {
        suffix = suffix;
        tells = record {
          first_goes_on = first;
          second_goes_on = second;
          differ = λ same. differ.differ (sym (accepts_on machine.automaton u suffix first.nonempty) ∙ same ∙ accepts_on machine.automaton v suffix second.nonempty);
        };
      }

  module _ (laws : WordLaws) (same_or_not : (a b : S) → (a ≡ b) ⊎ (a ≡ b → ⊥)) (list : List S) (all : AllFound machine list) where
    pub alike_or_not : (p q : S) → IsReached machine p → IsReached machine q → Alike machine p q ⊎ (Alike machine p q → ⊥)
    alike_or_not p q one other = elim (alike_or_differ machine same_or_not list all p q one other) [
      | inl same ↦ inl same
      | inr differ ↦ inr (λ same. differ.differ (same differ.word differ.widths))
    ]

    pub differ_if_not : (p q : S) → IsReached machine p → IsReached machine q → (Alike machine p q → ⊥) → Differ machine p q
    differ_if_not p q one other not = elim (alike_or_differ machine same_or_not list all p q one other) [ inl same ↦ absurd (not same) | inr differ ↦ differ ]

    -- ---- states like one to which a behaviour leads

    pub record IsEntered (state : S) : Type 0 where
      pub word : Word
      pub behaves : IsBehaviour machine.slots word
      pub alike : Alike machine (st word) state

    abbrev NotEntered : S → Type 0
    NotEntered state = (word : Word) → IsBehaviour machine.slots word → Alike machine (st word) state → ⊥

    module _ (state : S) (reached : IsReached machine state) where
      -- no step from there leads to a state like this
      abbrev NoStep : S → Type 0
      NoStep from = (letter : List Bool) → length letter ≡ machine.slots → Alike machine (machine.next from letter) state → ⊥

      not_step_or : (from : S) → IsReached machine from → (letter : List Bool) → length letter ≡ machine.slots
          → (Alike machine (machine.next from letter) state → ⊥) ⊎ ((Alike machine (machine.next from letter) state → ⊥) → ⊥)
      not_step_or from here letter width = elim (alike_or_not (machine.next from letter) state (next_is_reached machine from letter width here) reached) [
        | inl same ↦ inr (λ not. not same)
        | inr not ↦ inl not
      ]

      no_step_or_some : (from : S) → IsReached machine from → NoStep from ⊎ SomeLetter machine.slots (λ letter. Alike machine (machine.next from letter) state → ⊥)
      no_step_or_some from here = each_letter_or machine.slots (λ letter. Alike machine (machine.next from letter) state → ⊥) (not_step_or from here)

      no_step_or : (from : S) → IsReached machine from → NoStep from ⊎ (NoStep from → ⊥)
      no_step_or from here = elim (no_step_or_some from here) [ inl none ↦ inl none | inr some ↦ inr (λ none. some.fails (none some.letter some.width)) ]

      -- the step is that of a behaviour
      entered_by : (from : S) → IsReached machine from → (letter : List Bool) → length letter ≡ machine.slots → Alike machine (machine.next from letter) state → IsEntered state
      entered_by from here letter width same = record {
        word = here.word ++ letter ∷ [];
        behaves = record {
          nonempty = some_letters here.word;
          widths = Widths-append machine.slots here.word (letter ∷ []) here.widths (one_letter machine.slots letter width);
        };
        alike = subst (λ (p : S). Alike machine p state) (sym (st_more here.word letter ∙ ap (λ s. machine.next s letter) here.leads)) same;
      }
        where
          some_letters : (word : Word) → 0 < length (word ++ letter ∷ [])
          some_letters [] = omega arith
          some_letters (first ∷ word) = omega arith

      entered_from : (from : S) → IsReached machine from → (NoStep from → ⊥) → IsEntered state
      entered_from from here not = elim (no_step_or_some from here) [
        | inl none ↦ absurd (not none)
        | inr some ↦ elim (alike_or_not (machine.next from some.letter) state (next_is_reached machine from some.letter some.width here) reached) [
          | inl same ↦ entered_by from here some.letter some.width same
          | inr other ↦ absurd (some.fails other)
        ]
      ]

      never_entered : ((from : S) → Member from list → NoStep from) → NotEntered state
      never_entered none word behaves same =
          let last = last_of_behaviour machine.slots word behaves in
          let widths = subst (Widths machine.slots) last.is behaves.widths in
          let width = Widths-head machine.slots last.letter [] (Widths-rest machine.slots last.front (last.letter ∷ []) widths) in
          let from = reached_by last.front (Widths-front machine.slots last.front (last.letter ∷ []) widths) in
          none (st last.front) (all.all (st last.front) from) last.letter width
          (subst (λ (p : S). Alike machine p state) (ap st last.is ∙ st_more last.front last.letter) same)

      pub entered_or_not : IsEntered state ⊎ NotEntered state
      entered_or_not = elim (each_member_or NoStep list (λ from there. no_step_or from (all.found.reached from there))) [
        | inl none ↦ inr (never_entered none)
        | inr some ↦ inl (entered_from some.one (all.found.reached some.one some.there) some.fails)
      ]

      -- the least of the behaviours that lead to a state like this
      pub class_least : IsEntered state → (word : Word) × (IsClassLeast word × Alike machine (st word) state)
      class_least entered =
          let (word, least) = least_where laws machine.slots (λ other. Alike machine (st other) state)
          (λ other behaves. alike_or_not (st other) state (reached_by other behaves.widths) reached) entered.word entered.behaves entered.alike in (
            word,
            (
              record {
                behaviour = least.behaviour;
                member = λ suffix widths. refl;
                least = λ other behaves same. least.least other behaves (alike_chain (st other) (st word) state same least.member);
              },
              least.member,
            ),
          )

    -- ---- all classes

    pub record IsLike (words : List Word) (word : Word) : Type 0 where
      pub one : Word
      pub there : Member one words
      pub alike : Alike machine (st word) (st one)

    pub record Classes (xs : List S) : Type 0 where
      pub words : List Word
      pub in_order : Ascends Before words
      pub least : (word : Word) → Member word words → IsClassLeast word
      pub each : (state : S) → Member state xs → (word : Word) → IsBehaviour machine.slots word → Alike machine (st word) state → IsLike words word

    no_class_more : (state : S) (xs : List S) → NotEntered state → Classes xs → Classes (state ∷ xs)
    no_class_more state xs none rest = record {
      words = rest.words;
      in_order = rest.in_order;
      least = rest.least;
      each = λ other there word behaves same. elim there [
        | inl here ↦ absurd (none word behaves (subst (Alike machine (st word)) here same))
        | inr later ↦ rest.each other later word behaves same
      ];
    }

    one_class_more : (state : S) (xs : List S) → (one : Word) → IsClassLeast one → Alike machine (st one) state → (rest : Classes xs) → Inserted one rest.words → Classes (state ∷ xs)
    one_class_more state xs one least alike rest more = record {
      words = more.result;
      in_order = more.in_order;
      least = λ word there. elim (more.only word there) [ inl same ↦ subst IsClassLeast (sym same) least | inr among ↦ rest.least word among ];
      each = λ other there word behaves same. elim there [
        | inl here ↦ record {
          one = one;
          there = more.has_word;
          alike = alike_chain (st word) state (st one) (subst (Alike machine (st word)) here same) (alike_back (st one) state alike);
        }
        | inr later ↦ let like = rest.each other later word behaves same in record { one = like.one; there = more.keeps like.one like.there; alike = like.alike }
      ];
    }

    class_more : (state : S) (xs : List S) → IsReached machine state → IsEntered state ⊎ NotEntered state → Classes xs → Classes (state ∷ xs)
    class_more state xs reached (inr none) rest = no_class_more state xs none rest
    class_more state xs reached (inl entered) rest =
        let (one, (least, alike)) = class_least state reached entered in
        one_class_more state xs one least alike rest (insert laws one rest.words rest.in_order)

    classes_of : (xs : List S) → ((state : S) → Member state xs → IsReached machine state) → Classes xs
    classes_of [] reached = record {
      words = [];
      in_order = tt;
      least = λ word there. absurd there;
      each = λ state there word behaves same. absurd there;
    }
    classes_of (state ∷ xs) reached =
        let here = reached state (inl refl) in
        class_more state xs here (entered_or_not state here) (classes_of xs (λ other later. reached other (inr later)))

    pub some_classes : Classes list
    some_classes = classes_of list all.found.reached
