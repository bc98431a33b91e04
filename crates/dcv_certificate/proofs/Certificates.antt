-- Suffixes that separate the states of a canonical automaton, with a start that stands alone taking part twice, are a certificate.
use Rattle.std.proofs.Common.{◌≡◌, ◌≢◌, ◌⊎◌, inl, inr, ℕ, zero, suc, ◌<◌, ◌≤◌, ◌+◌, Bool, true, false, List, [], ◌∷◌, ◌++◌, length, get_or, All, refl, ap, sym, subst, ◌∙◌, arith}
use Rattle.std.specs.List.{IsAmong}
use Rattle.std.proofs.lemmas.Bool.{cases_lt, cases_Bool, true≢false}
use Rattle.std.proofs.lemmas.List.{length-append, get_or_append_left, get_or_default, append-nil}
use Rattle.std.proofs.lemmas.List.Elements.{All-nil, All-push, All-weaker}
use Rattle.std.proofs.Math.Seq.{get_or-append_seam}
use Rattle.dcv_word.specs.Behaviour.{Word, IsBehaviour}
use Rattle.dcv_arena.specs.Arena.{IsRef, value_of}
use Rattle.dcv_arena.specs.declared.nodes.Ref.TheVariants.{Leaf}
use Rattle.dcv_language.specs.Language.{Language}
use Rattle.dcv_language.specs.Automaton.{state_after}
use Rattle.dcv_language.specs.Table.{leads_to, is_accepting as accepts_in_table}
use Rattle.dcv_language.specs.Apart.{TellsApart}
use Rattle.dcv_language.specs.Canonical.{access_word, IsStart}
use Rattle.dcv_language.specs.Complement.{stands_alone}
use Rattle.dcv_language.specs.Certificate.{GrowsFrom, TellsNewPair, IsNextSuffix, AreToldBy, IsCertificate}
use Rattle.dcv_language.proofs.Behaviours.{Widths, Widths-head, Widths-tail, Widths-cons, Widths-append, Widths-rest}
use Rattle.dcv_language.proofs.Bounds.{leads_to-below}
use Rattle.dcv_language.proofs.Canonicals.{access_least, access_leads, access_apart, entered}
use Rattle.dcv_language.proofs.Runs.{accepts_on, accepts_by_state}
use Rattle.dcv_dfa.specs.Raw.{RawValue, IsRaw, LeadsBelow, row_of, is_accepting, next_in, automaton_of, raw_accepts}
use Rattle.dcv_dfa.specs.Auto.{table_of_states, IsAutoWith}
use Rattle.dcv_dfa.specs.Laws.{TableHasTheStates, TableHasTheFlags, TableLeadsAsTheStates}
use Rattle.dcv_refinement.specs.Members.{block_of}
use Rattle.dcv_certificate.specs.Vertices.{rows_with, with_start}
use Rattle.dcv_certificate.specs.Separation.{AreVertices, word_at, accepts_word, accepts_at, AreListed, IsSeparated}
use Rattle.dcv_certificate.proofs.Counting.{last_or_before}
use Rattle.dcv_certificate.proofs.Separating.{one_block_alike}

-- ---- the states, and the start once more

module _ (raw : RawValue) (is : IsRaw raw) where
  leads_below_more : (extra : ℕ) → All (LeadsBelow raw.arena (length raw.rows + extra)) raw.rows
  leads_below_more extra = All-weaker (LeadsBelow raw.arena (length raw.rows)) (LeadsBelow raw.arena (length raw.rows + extra))
      (λ row below letter width. omega (arith, below letter width)) raw.rows is.numbers

  pub are_vertices : (alone : Bool) → AreVertices (with_start alone raw)
  are_vertices false = record { arena = is.arena; some = omega (arith, is.start); rows = is.rows; flags = is.flags; numbers = is.numbers }
  are_vertices true =
      let more = length-append raw.rows (row_of raw 0 ∷ []) in
      let start : 0 < length raw.rows = omega (arith, is.start) in
      record {
        arena = is.arena;
        some = omega (arith, more);
        rows = All-push (IsRef raw.arena) raw.rows (row_of raw 0) is.rows (is.rows 0 (Leaf 0) start);
        flags = omega (arith, more, length-append raw.accepting (true ∷ []), is.flags);
        numbers = subst (λ n. All (LeadsBelow raw.arena n) (raw.rows ++ row_of raw 0 ∷ [])) (sym more)
            (All-push (LeadsBelow raw.arena (length raw.rows + 1)) raw.rows (row_of raw 0) (leads_below_more 1) (leads_below_more 1 0 (Leaf 0) start));
      }

  row_same : (alone : Bool) (state : ℕ) → state < length raw.rows → row_of (with_start alone raw) state ≡ row_of raw state
  row_same false state h = refl
  row_same true state h = get_or_append_left raw.rows (row_of raw 0 ∷ []) (Leaf 0) state h

  flag_same : (alone : Bool) (state : ℕ) → state < length raw.rows → is_accepting (with_start alone raw) state ≡ is_accepting raw state
  flag_same false state h = refl
  flag_same true state h = get_or_append_left raw.accepting (true ∷ []) false state (omega (arith, is.flags))

  next_below : (state : ℕ) (letter : List Bool) → state < length raw.rows → length letter ≡ raw.arena.slots → next_in raw state letter < length raw.rows
  next_below state letter h width = is.numbers state (Leaf 0) h letter width

  from_same : (alone : Bool) (word : Word) (state : ℕ) → state < length raw.rows → Widths raw.arena.slots word → accepts_word (with_start alone raw) word state ≡ accepts_word raw word state
  from_same alone [] state h w = flag_same alone state h
  from_same alone (letter ∷ word) state h w =
      let width = Widths-head raw.arena.slots letter word w in
      ap (λ row. accepts_word (with_start alone raw) word (value_of raw.arena row letter)) (row_same alone state h)
      ∙ from_same alone word (next_in raw state letter) (next_below state letter h width) (Widths-tail raw.arena.slots letter word w)

  from_last : (word : Word) → 0 < length word → Widths raw.arena.slots word → accepts_word (with_start true raw) word (length raw.rows) ≡ accepts_word raw word 0
  from_last [] some w = absurd (omega arith)
  from_last (letter ∷ word) some w =
      let width = Widths-head raw.arena.slots letter word w in
      ap (λ row. accepts_word (with_start true raw) word (value_of raw.arena row letter)) (get_or-append_seam raw.rows (row_of raw 0) [] (Leaf 0))
      ∙ from_same true word (next_in raw 0 letter) (next_below 0 letter (omega (arith, is.start)) width) (Widths-tail raw.arena.slots letter word w)

  flag_last : is_accepting (with_start true raw) (length raw.rows) ≡ true
  flag_last = ap (λ n. get_or (raw.accepting ++ true ∷ []) n false) (sym is.flags) ∙ get_or-append_seam raw.accepting true [] false

-- ---- suffixes

-- each is a word over the letters
module _ (raw : RawValue) (listed : List Word) (are : AreListed raw listed) where
  widths_below : (bound place : ℕ) → place < bound → place < length listed → Widths raw.arena.slots (word_at listed place)
  widths_below zero place h l = absurd (omega arith)
  widths_below (suc bound) zero h l = subst (λ word. Widths raw.arena.slots word) (sym are.first) (All-nil (λ (letter : List Bool). length letter ≡ raw.arena.slots))
  widths_below (suc bound) (suc place) h l =
      let g = are.grow (suc place) (omega arith) l in
      subst (λ word. Widths raw.arena.slots word) (sym g.grown)
      (Widths-cons raw.arena.slots g.letter (word_at listed g.from) g.width (widths_below bound g.from (omega (arith, g.earlier)) (omega (arith, g.earlier))))

  listed_widths : (place : ℕ) → place < length listed → Widths raw.arena.slots (word_at listed place)
  listed_widths place h = widths_below (suc place) place (omega arith) h

same_or_not : (a b : Bool) → (a ≡ b) ⊎ (a ≢ b)
same_or_not true true = inl refl
same_or_not true false = inr true≢false
same_or_not false true = inr (λ e. true≢false (sym e))
same_or_not false false = inl refl

differ_somewhere : (count : ℕ) (f g : ℕ → Bool) → ¬ ((n : ℕ) → n < count → f n ≡ g n) → (n : ℕ) × ((n < count) × (f n ≢ g n))
differ_somewhere zero f g never = absurd (never (λ n h. absurd (omega arith)))
differ_somewhere (suc count) f g never = elim (same_or_not (f count) (g count)) [
  | inl e ↦
      let found = differ_somewhere count f g (λ all. never (λ n h. elim (last_or_before n count h) [ inl l ↦ all n l | inr s ↦ subst (λ n. f n ≡ g n) (sym s) e ])) in
      (found.0, (omega (arith, found.1.0), found.1.1))
  | inr ne ↦ (count, (omega arith, ne))
]

stands_if : (words : List Word) → stands_alone words ≡ true → access_word words 0 ≡ []
stands_if [] e = absurd (true≢false (sym e))
stands_if ([] ∷ words) e = refl
stands_if ((letter ∷ letters) ∷ words) e = absurd (true≢false (sym e))

stands_then : (words : List Word) → 0 < length words → access_word words 0 ≡ [] → stands_alone words ≡ true
stands_then [] h e = absurd (omega arith)
stands_then ([] ∷ words) h e = refl
stands_then ((letter ∷ letters) ∷ words) h e = absurd (nothing e)
  where
    nothing : (letter ∷ letters) ≡ [] → ⊥
    nothing f = cc

longer_than_nothing : (word : Word) → word ≢ [] → 0 < length word
longer_than_nothing [] ne = absurd (ne refl)
longer_than_nothing (letter ∷ word) ne = omega arith

among : (words : List Word) (place : ℕ) → place < length words → IsAmong words (access_word words place)
among words place h = (place, (h, get_or_default words place [] (get_or words place []) h))

-- ---- the certificate

-- a vertex goes on acting a state does; only a start that stands alone may have another flag
record ActsAs (raw : RawValue) (alone : Bool) (words : List Word) (vertex state : ℕ) : Type 0 where
  vertex_is : vertex < length (rows_with alone raw)
  state_is : state < length raw.rows
  on : (word : Word) → 0 < length word → Widths raw.arena.slots word → accepts_word (with_start alone raw) word vertex ≡ accepts_word raw word state
  here : access_word words state ≢ [] → accepts_word (with_start alone raw) [] vertex ≡ accepts_word raw [] state

-- the empty suffix tells the vertex from another state only where the access word is not empty
record Stands (raw : RawValue) (alone : Bool) (words : List Word) (vertex state other : ℕ) : Type 0 where
  acting : ActsAs raw alone words vertex state
  useful : accepts_word (with_start alone raw) [] vertex ≢ accepts_word (with_start alone raw) [] other → 0 < length (access_word words state)

module _ (raw : RawValue) (alone : Bool) (a : IsAutoWith raw alone) (is : IsRaw raw)
    (has_states : TableHasTheStates) (has_flags : TableHasTheFlags) (leads_as : TableLeadsAsTheStates) where
  states_are : length a.auto.access ≡ length raw.rows
  states_are = a.auto.canonical.words ∙ has_states raw

  widths_of : (state : ℕ) → state < length raw.rows → Widths raw.arena.slots (access_word a.auto.access state)
  widths_of state h = by_word (access_word a.auto.access state) refl
    where
      by_word : (word : Word) → access_word a.auto.access state ≡ word → Widths raw.arena.slots (access_word a.auto.access state)
      by_word [] e = subst (λ word. Widths raw.arena.slots word) (sym e) (All-nil (λ (letter : List Bool). length letter ≡ raw.arena.slots))
      by_word (letter ∷ word) e =
          (access_least raw.arena.slots (raw_accepts raw) (table_of_states raw) a.auto.access a.auto.canonical state (omega (arith, has_states raw)) (λ n. nothing (sym e ∙ n))).behaviour.widths
        where
          nothing : (letter ∷ word) ≡ [] → ⊥
          nothing f = cc

  leads : (state : ℕ) → state < length raw.rows → state_after (automaton_of raw) (access_word a.auto.access state) ≡ state
  leads state h =
      sym (leads_as raw (access_word a.auto.access state) is a.auto.start (widths_of state h))
      ∙ access_leads raw.arena.slots (raw_accepts raw) (table_of_states raw) a.auto.access a.auto.canonical state (omega (arith, has_states raw))

  accepts_after : (state : ℕ) (word : Word) → state < length raw.rows → 0 < length (access_word a.auto.access state ++ word)
      → raw_accepts raw (access_word a.auto.access state ++ word) ≡ accepts_word raw word state
  accepts_after state word h some =
      accepts_on (automaton_of raw) (access_word a.auto.access state) word some ∙ ap (accepts_word raw word) (leads state h)

  count_of : (alone : Bool) → length raw.rows ≤ length (rows_with alone raw)
  count_of false = omega arith
  count_of true = omega (arith, length-append raw.rows (row_of raw 0 ∷ []))

  acts_itself : (state : ℕ) → state < length raw.rows → ActsAs raw alone a.auto.access state state
  acts_itself state h = record {
    vertex_is = omega (arith, count_of alone);
    state_is = h;
    on = λ word some w. from_same raw is alone word state h w;
    here = λ ne. flag_same raw is alone state h;
  }

  acts_again : alone ≡ true → ActsAs raw alone a.auto.access (length raw.rows) 0
  acts_again e =
      subst (λ alone. ActsAs raw alone a.auto.access (length raw.rows) 0) (sym e) (record {
        vertex_is = omega (arith, length-append raw.rows (row_of raw 0 ∷ []));
        state_is = omega (arith, is.start);
        on = λ word some w. from_last raw is word some w;
        here = λ ne. absurd (ne (stands_if a.auto.access (sym a.alone ∙ e)));
      })

  vertex_cases : (alone : Bool) (vertex : ℕ) → vertex < length (rows_with alone raw) → (vertex < length raw.rows) ⊎ ((alone ≡ true) × (vertex ≡ length raw.rows))
  vertex_cases false vertex h = inl h
  vertex_cases true vertex h = elim (cases_lt vertex (length raw.rows)) [
    | inl l ↦ inl l
    | inr l ↦ inr (refl, omega (arith, length-append raw.rows (row_of raw 0 ∷ [])))
  ]

  acts : (vertex : ℕ) → vertex < length (rows_with alone raw) → (state : ℕ) × ActsAs raw alone a.auto.access vertex state
  acts vertex h = elim (vertex_cases alone vertex h) [
    | inl l ↦ (vertex, acts_itself vertex l)
    | inr p ↦ (0, subst (λ vertex. ActsAs raw alone a.auto.access vertex 0) (sym p.1) (acts_again p.0))
  ]

  -- what is accepted after an access word
  same_at : (vertex state : ℕ) (word : Word) → ActsAs raw alone a.auto.access vertex state → IsBehaviour raw.arena.slots (access_word a.auto.access state ++ word)
      → raw_accepts raw (access_word a.auto.access state ++ word) ≡ accepts_word (with_start alone raw) word vertex
  same_at vertex state [] acting b =
      accepts_after state [] acting.state_is b.nonempty ∙ sym (acting.here (λ e. absurd (omega (arith, b.nonempty, ap (λ (word : Word). length word) (append-nil (access_word a.auto.access state) ∙ e)))))
  same_at vertex state (letter ∷ word) acting b =
      accepts_after state (letter ∷ word) acting.state_is b.nonempty
      ∙ sym (acting.on (letter ∷ word) (omega arith) (Widths-rest raw.arena.slots (access_word a.auto.access state) (letter ∷ word) b.widths))

  tells_differ : (first second one other : ℕ) (word : Word) → ActsAs raw alone a.auto.access first one → ActsAs raw alone a.auto.access second other
      → TellsApart raw.arena.slots (raw_accepts raw) (access_word a.auto.access one) (access_word a.auto.access other) word
      → accepts_word (with_start alone raw) word first ≢ accepts_word (with_start alone raw) word second
  tells_differ first second one other word acting bs t e =
      t.differ (same_at first one word acting t.first_goes_on ∙ e ∙ sym (same_at second other word bs t.second_goes_on))

  differ_tells : (first second one other : ℕ) (word : Word) → ActsAs raw alone a.auto.access first one → ActsAs raw alone a.auto.access second other → Widths raw.arena.slots word
      → 0 < length (access_word a.auto.access one ++ word) → 0 < length (access_word a.auto.access other ++ word)
      → accepts_word (with_start alone raw) word first ≢ accepts_word (with_start alone raw) word second
      → TellsApart raw.arena.slots (raw_accepts raw) (access_word a.auto.access one) (access_word a.auto.access other) word
  differ_tells first second one other word acting bs w some also ne =
      let b : IsBehaviour raw.arena.slots (access_word a.auto.access one ++ word) = record { nonempty = some; widths = Widths-append raw.arena.slots (access_word a.auto.access one) word (widths_of one acting.state_is) w } in
      let c : IsBehaviour raw.arena.slots (access_word a.auto.access other ++ word) = record { nonempty = also; widths = Widths-append raw.arena.slots (access_word a.auto.access other) word (widths_of other bs.state_is) w } in
      record {
        first_goes_on = b;
        second_goes_on = c;
        differ = λ e. ne (sym (same_at first one word acting b) ∙ e ∙ same_at second other word bs c);
      }

  -- ---- the empty suffix tells two states apart

  entered_by : Word → ℕ
  entered_by word = leads_to (table_of_states raw) word

  entered_is : (word : Word) → entered_by word < length raw.rows
  unfolding entered_by
  entered_is word = omega (arith, leads_to-below raw.arena.slots (table_of_states raw) a.auto.canonical.states word, has_states raw)

  entered_word : (word : Word) → IsBehaviour raw.arena.slots word → access_word a.auto.access (entered_by word) ≢ []
  unfolding entered_by
  entered_word word b = entered raw.arena.slots (raw_accepts raw) (table_of_states raw) a.auto.access a.auto.canonical word b

  entered_accepts : (word : Word) → IsBehaviour raw.arena.slots word → raw_accepts raw word ≡ is_accepting raw (entered_by word)
  unfolding entered_by
  entered_accepts word b =
      accepts_by_state (automaton_of raw) word b.nonempty ∙ ap (is_accepting raw) (sym (leads_as raw word is a.auto.start b.widths))

  goes_by_nothing : (word : Word) → IsBehaviour raw.arena.slots word → IsBehaviour raw.arena.slots (access_word a.auto.access (entered_by word) ++ [])
  goes_by_nothing word b =
      subst (λ word. IsBehaviour raw.arena.slots word) (sym (append-nil (access_word a.auto.access (entered_by word)))) (record {
        nonempty = longer_than_nothing (access_word a.auto.access (entered_by word)) (entered_word word b);
        widths = widths_of (entered_by word) (entered_is word);
      })

  nothing_accepts : (word : Word) → IsBehaviour raw.arena.slots word → raw_accepts raw (access_word a.auto.access (entered_by word) ++ []) ≡ raw_accepts raw word
  nothing_accepts word b = accepts_after (entered_by word) [] (entered_is word) (goes_by_nothing word b).nonempty ∙ sym (entered_accepts word b)

  empty_tells : 1 < length raw.rows → TellsNewPair raw.arena.slots (raw_accepts raw) a.auto.access [] []
  empty_tells two =
      let apart = access_apart raw.arena.slots (raw_accepts raw) (table_of_states raw) a.auto.access a.auto.canonical 0 1 (omega (arith, has_states raw)) (omega (arith, has_states raw)) (λ e. omega arith) in
      let one = access_word a.auto.access 0 ++ apart.suffix in
      let other = access_word a.auto.access 1 ++ apart.suffix in
      let b = apart.tells.first_goes_on in
      let c = apart.tells.second_goes_on in
      record {
        first = access_word a.auto.access (entered_by one);
        second = access_word a.auto.access (entered_by other);
        first_is_access = among a.auto.access (entered_by one) (omega (arith, entered_is one, states_are));
        second_is_access = among a.auto.access (entered_by other) (omega (arith, entered_is other, states_are));
        tells = record {
          first_goes_on = goes_by_nothing one b;
          second_goes_on = goes_by_nothing other c;
          differ = λ e. apart.tells.differ (sym (nothing_accepts one b) ∙ e ∙ nothing_accepts other c);
        };
        is_new = All-nil (λ (suffix : Word). ¬ TellsApart raw.arena.slots (raw_accepts raw) (access_word a.auto.access (entered_by one)) (access_word a.auto.access (entered_by other)) suffix);
      }

  module _ (listed : List Word) (s : IsSeparated (with_start alone raw) listed) where
    -- ---- each suffix is the next

    in_front : (earlier later : List Word) (suffix : Word) → listed ≡ earlier ++ suffix ∷ later → (place : ℕ) (d : Word) → place < length earlier → word_at listed place ≡ get_or earlier place d
    in_front earlier later suffix e place d h =
        ap (λ words. word_at words place) e ∙ get_or_append_left earlier (suffix ∷ later) [] place h ∙ get_or_default earlier place [] d h

    at_place : (earlier later : List Word) (suffix : Word) → listed ≡ earlier ++ suffix ∷ later → word_at listed (length earlier) ≡ suffix
    at_place earlier later suffix e = ap (λ words. word_at words (length earlier)) e ∙ get_or-append_seam earlier suffix later []

    within : (earlier later : List Word) (suffix : Word) → listed ≡ earlier ++ suffix ∷ later → length earlier < length listed
    within earlier later suffix e = omega (arith, ap length e, length-append earlier (suffix ∷ later))

    grows : (earlier later : List Word) (suffix : Word) → listed ≡ earlier ++ suffix ∷ later → 0 < length earlier → GrowsFrom raw.arena.slots earlier suffix
    grows earlier later suffix e some =
        let g = s.are_listed.grow (length earlier) some (within earlier later suffix e) in
        record {
          letter = g.letter;
          shorter = word_at listed g.from;
          width = g.width;
          from = (g.from, (g.earlier, in_front earlier later suffix e g.from (word_at listed g.from) g.earlier));
          grown = sym (at_place earlier later suffix e) ∙ g.grown;
        }

    tells : (earlier later : List Word) (suffix : Word) → listed ≡ earlier ++ suffix ∷ later → 0 < length earlier → TellsNewPair raw.arena.slots (raw_accepts raw) a.auto.access earlier suffix
    tells earlier later suffix e some =
        let place = length earlier in
        let below = within earlier later suffix e in
        let g = s.are_listed.grow place some below in
        let t = s.are_listed.new place some below in
        let one = acts t.first t.first_is in
        let other = acts t.second t.second_is in
        let long : 0 < length (word_at listed place) = omega (arith, ap length g.grown) in
        let words = differ_tells t.first t.second one.0 other.0 (word_at listed place) one.1 other.1 (listed_widths (with_start alone raw) listed s.are_listed place below)
        (omega (arith, length-append (access_word a.auto.access one.0) (word_at listed place))) (omega (arith, length-append (access_word a.auto.access other.0) (word_at listed place))) t.differ in
        record {
          first = access_word a.auto.access one.0;
          second = access_word a.auto.access other.0;
          first_is_access = among a.auto.access one.0 (omega (arith, one.1.state_is, states_are));
          second_is_access = among a.auto.access other.0 (omega (arith, other.1.state_is, states_are));
          tells = subst (λ word. TellsApart raw.arena.slots (raw_accepts raw) (access_word a.auto.access one.0) (access_word a.auto.access other.0) word) (at_place earlier later suffix e) words;
          is_new = λ i d h tells.
              let is = in_front earlier later suffix e i d h in
              tells_differ t.first t.second one.0 other.0 (word_at listed i) one.1 other.1
              (subst (λ word. TellsApart raw.arena.slots (raw_accepts raw) (access_word a.auto.access one.0) (access_word a.auto.access other.0) word) (sym is) tells) (t.agree i h);
        }

    each : 1 < length raw.rows → (earlier later : List Word) (suffix : Word) → listed ≡ earlier ++ suffix ∷ later → IsNextSuffix raw.arena.slots (raw_accepts raw) a.auto.access earlier suffix
    each two [] later suffix e =
        let empty : suffix ≡ [] = sym (at_place [] later suffix e) ∙ s.are_listed.first in
        record { grows = empty; tells = subst (λ suffix. TellsNewPair raw.arena.slots (raw_accepts raw) a.auto.access [] suffix) (sym empty) (empty_tells two) }
    each two (first ∷ earlier) later suffix e = record {
      grows = grows (first ∷ earlier) later suffix e (omega arith);
      tells = tells (first ∷ earlier) later suffix e (omega arith);
    }

    -- ---- every two access words are told apart

    access_nonempty : (state : ℕ) → 0 < state → state < length raw.rows → 0 < length (access_word a.auto.access state)
    access_nonempty state positive h = (a.auto.canonical.least state positive (omega (arith, has_states raw))).behaviour.nonempty

    stands : (state other : ℕ) → state < other → other < length raw.rows → (vertex : ℕ) × Stands raw alone a.auto.access vertex state other
    stands state other h l = by_word (access_word a.auto.access state) refl
      where
        by_word : (word : Word) → access_word a.auto.access state ≡ word → (vertex : ℕ) × Stands raw alone a.auto.access vertex state other
        by_word (letter ∷ word) e =
            (state, record { acting = acts_itself state (omega arith); useful = λ ne. omega (arith, ap length e) })
        by_word [] e =
            let zero_is : state ≡ 0 = elim (cases_lt 0 state) [ inl p ↦ absurd (omega (arith, access_nonempty state p (omega arith), ap length e)) | inr p ↦ omega arith ] in
            let first : access_word a.auto.access 0 ≡ [] = subst (λ state. access_word a.auto.access state ≡ []) zero_is e in
            let is_alone : alone ≡ true = a.alone ∙ stands_then a.auto.access (omega (arith, states_are)) first in
            elim (cases_Bool (is_accepting (with_start alone raw) other)) [
              | inl accepting ↦
                  let again : is_accepting (with_start alone raw) (length raw.rows) ≡ true = subst (λ alone. is_accepting (with_start alone raw) (length raw.rows) ≡ true) (sym is_alone) (flag_last raw is) in (
                    length raw.rows,
                    record {
                      acting = subst (λ state. ActsAs raw alone a.auto.access (length raw.rows) state) (sym zero_is) (acts_again is_alone);
                      useful = λ ne. absurd (ne (again ∙ sym accepting));
                    },
                  )
              | inr rejecting ↦
                  let rejects : is_accepting (with_start alone raw) state ≡ false =
                  flag_same raw is alone state (omega arith) ∙ ap (is_accepting raw) zero_is ∙ sym (has_flags raw 0 (omega arith)) ∙ start_rejects (access_word a.auto.access 0) a.auto.canonical.start first in
                  (state, record { acting = acts_itself state (omega arith); useful = λ ne. absurd (ne (rejects ∙ sym rejecting)) })
            ]
          where
            start_rejects : (word : Word) → IsStart raw.arena.slots (raw_accepts raw) (table_of_states raw) word → word ≡ [] → accepts_in_table (table_of_states raw) 0 ≡ false
            start_rejects [] start e = start.rejects
            start_rejects (letter ∷ word) start e = absurd (nothing e)
              where
                nothing : (letter ∷ word) ≡ [] → ⊥
                nothing f = cc

    not_together : (vertex state other : ℕ) → ActsAs raw alone a.auto.access vertex state → state < other → other < length raw.rows → block_of s.block_numbers vertex ≢ block_of s.block_numbers other
    not_together vertex state other acting h l same =
        let itself = acts_itself other l in
        let apart = access_apart raw.arena.slots (raw_accepts raw) (table_of_states raw) a.auto.access a.auto.canonical state other (omega (arith, has_states raw)) (omega (arith, has_states raw)) (λ e. omega arith) in
        tells_differ vertex other state other apart.suffix acting itself apart.tells
        (one_block_alike (with_start alone raw) listed (are_vertices raw is alone) s apart.suffix vertex other
        (Widths-rest raw.arena.slots (access_word a.auto.access state) apart.suffix apart.tells.first_goes_on.widths)
        (record { first_is = acting.vertex_is; second_is = itself.vertex_is; same = same }))

    told_pair : (state other : ℕ) → state < other → other < length raw.rows → AreToldBy raw.arena.slots (raw_accepts raw) listed (access_word a.auto.access state) (access_word a.auto.access other)
    told_pair state other h l =
        let v = stands state other h l in
        let itself = acts_itself other l in
        let found = differ_somewhere (length listed) (λ place. accepts_at (with_start alone raw) listed place v.0) (λ place. accepts_at (with_start alone raw) listed place other)
        (λ agree. not_together v.0 state other v.1.acting h l (s.are_blocks.apart v.0 other v.1.acting.vertex_is itself.vertex_is agree)) in
        let word = word_at listed found.0 in
        record {
          suffix = word;
          listed = among listed found.0 found.1.0;
          tells = differ_tells v.0 other state other word v.1.acting itself (listed_widths (with_start alone raw) listed s.are_listed found.0 found.1.0)
              (long_enough v.0 state other word v.1 found.1.1) (omega (arith, length-append (access_word a.auto.access other) word, access_nonempty other (omega arith) l)) found.1.1;
        }
      where
        long_enough : (vertex state other : ℕ) (word : Word) → Stands raw alone a.auto.access vertex state other → accepts_word (with_start alone raw) word vertex ≢ accepts_word (with_start alone raw) word other
            → 0 < length (access_word a.auto.access state ++ word)
        long_enough vertex state other [] v ne = omega (arith, length-append (access_word a.auto.access state) [], v.useful ne)
        long_enough vertex state other (letter ∷ word) v ne = omega (arith, length-append (access_word a.auto.access state) (letter ∷ word))

    pub certificate : 1 < length raw.rows → IsCertificate raw.arena.slots (raw_accepts raw) a.auto.access listed
    certificate two = record {
      each = each two;
      told = λ i j d h l.
          let words = a.auto.access in
          subst (λ word. AreToldBy raw.arena.slots (raw_accepts raw) listed word (get_or words j d)) (get_or_default words i [] d (omega arith))
          (subst (λ word. AreToldBy raw.arena.slots (raw_accepts raw) listed (access_word words i) word) (get_or_default words j [] d l)
          (told_pair i j h (omega (arith, states_are))));
    }

-- with one state there is no suffix
pub no_suffixes : (k : ℕ) (L : Language) (words : List Word) → length words ≡ 1 → IsCertificate k L words []
no_suffixes k L words one = record {
  each = λ earlier later suffix e. absurd (omega (arith, ap length e, length-append earlier (suffix ∷ later)));
  told = λ i j d h l. absurd (omega arith);
}
