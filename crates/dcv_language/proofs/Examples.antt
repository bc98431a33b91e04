-- Worked examples: the definitions tried on small words and tables, by computing. Beside each group stands the wrong reading that it
-- refuses. The variable p is slot 0; letters are written as they stand in a trace, `0` and `1`.
use Rattle.std.proofs.Common.{◌≡◌, ◌⊎◌, inl, inr, ⊎_elim, ℕ, zero, suc, Bool, true, false, not, ◌&&◌, ◌||◌, List, [], ◌∷◌, ◌++◌, length, get_or, All, AllPairs, refl, ap, sym, ◌∙◌, subst, subst₂, arith}
use Rattle.std.specs.declared.cmp.Ordering.TheVariants.{Less, Greater}
use Rattle.std.specs.Prelude.{slice_index_or}
use Rattle.std.specs.List.{IsAmong}
use Rattle.std.proofs.lemmas.Bool.{true≢false, false≢true}
use Rattle.dcv_word.specs.Behaviour.{Word, IsBehaviour}
use Rattle.dcv_word.specs.Laws.{LetterHasItsWidth, BitsOfItsLetter}
use Rattle.dcv_language.specs.Language.{Language, HaveSameBehaviours}
use Rattle.dcv_language.specs.Automaton.{accepts_from}
use Rattle.dcv_language.specs.Table.{TableState, Table, automaton_of, table_accepts, AcceptsExactly}
use Rattle.dcv_language.specs.Apart.{TellsApart, AreApart}
use Rattle.dcv_language.specs.Canonical.{IsCanonical}
use Rattle.dcv_language.specs.Certificate.{IsNextSuffix, AreToldBy, IsCertificate}
use Rattle.dcv_language.specs.Atoms.{constant, point, run, every, unit, slen, scount, sdur}
use Rattle.dcv_language.specs.Operations.{some_below, chop, star, projection}
use Rattle.dcv_language.proofs.Behaviours.{Widths, Widths-head, Widths-tail, Widths-cons, behaviour, one_letter}
use Rattle.dcv_language.proofs.Canonicals.{canonical_for_same_behaviours}
use Rattle.dcv_language.proofs.SmallTables.{shown_canonical}
use Rattle.dcv_language.proofs.Words.{WordLaws}

abbrev p : List Bool → Bool
p letter = slice_index_or letter 0 false

abbrev O : List Bool
O = false ∷ []

abbrev I : List Bool
I = true ∷ []

-- ---- atoms

-- `<p>` is one instant, `[p]` does not ask the last one, `[[p]]` does, `{{p}}` is two instants
point_of_one : (point p (I ∷ []) ≡ true) × (point p (O ∷ []) ≡ false) × (point p (I ∷ I ∷ []) ≡ false)
point_of_one = (refl, refl, refl)

run_skips_the_last : (run p (I ∷ O ∷ []) ≡ true) × (run p (I ∷ []) ≡ false) × (run p (O ∷ I ∷ []) ≡ false)
run_skips_the_last = (refl, refl, refl)

every_asks_the_last : (every p (I ∷ O ∷ []) ≡ false) × (every p (I ∷ I ∷ []) ≡ true)
every_asks_the_last = (refl, refl)

unit_of_two : (unit p (I ∷ O ∷ []) ≡ true) × (unit p (I ∷ []) ≡ false) × (unit p (I ∷ I ∷ I ∷ []) ≡ false)
unit_of_two = (refl, refl, refl)

-- `slen` counts steps, `scount` instants, `sdur` instants but the last
abbrev is_one : ℕ → Bool
is_one zero = false
is_one (suc zero) = true
is_one (suc (suc n)) = false

measures : (slen is_one (O ∷ O ∷ []) ≡ true) × (scount p is_one (O ∷ I ∷ []) ≡ true) × (sdur p is_one (O ∷ I ∷ []) ≡ false) × (sdur p is_one (I ∷ I ∷ []) ≡ true)
measures = (refl, refl, refl, refl)

-- ---- chop: the parts share the letter at the cut

-- `<p>^<p>` is one instant. A second part that began after the cut would make it two.
parts_share_a_letter : (chop (point p) (point p) (I ∷ []) ≡ true) × (chop (point p) (point p) (I ∷ I ∷ []) ≡ false)
parts_share_a_letter = (refl, refl)

-- `[p]^<!p>` on `1 0`: the run ends at the letter that the point is about
run_then_point : chop (run p) (point (λ letter. not (p letter))) (I ∷ O ∷ []) ≡ true
run_then_point = refl

-- ---- star: proper parts, and one letter is a star of nothing

-- of no part at all
one_letter_is_a_star : (star (constant false) (O ∷ []) ≡ true) × (star (constant false) (O ∷ O ∷ []) ≡ false)
one_letter_is_a_star = (refl, refl)

-- `(<p>)*` is one instant: a part of one letter goes nowhere, and an empty one would not either
parts_are_proper : (star (point p) (I ∷ I ∷ []) ≡ false) × (star (point p) (O ∷ []) ≡ true)
parts_are_proper = (refl, refl)

-- `({{p}})*` on `1 1 0` is two parts that share the second letter
two_parts : (star (unit p) (I ∷ I ∷ O ∷ []) ≡ true) × (star (unit p) (I ∷ O ∷ O ∷ []) ≡ false) × (star (unit p) (O ∷ O ∷ []) ≡ false)
two_parts = (refl, refl, refl)

-- the empty word is no star
nothing_is_no_star : star (constant true) [] ≡ false
nothing_is_no_star = refl

-- ---- projection: the further slot has a value at each instant

-- the letters of no variables, and of the quantified one alone
abbrev N : List Bool
N = []

-- `ex q. [q]^<!q>` holds of two instants: q is true and then false. With one value for the whole word it would hold of none.
a_changing_slot : projection (chop (run p) (point (λ letter. not (p letter)))) (N ∷ N ∷ []) ≡ true
a_changing_slot = refl

one_instant_has_no_run : projection (chop (run p) (point (λ letter. not (p letter)))) (N ∷ []) ≡ false
one_instant_has_no_run = refl

-- ---- told apart: the empty word is no behaviour

-- a set that has each behaviour and not the empty word
abbrev nonempty : Language
nonempty [] = false
nonempty (letter ∷ letters) = true

-- nothing tells a behaviour of it from the empty word, although the set has one and not the other
empty_word_does_not_count : AreApart 0 nonempty (N ∷ []) [] → ⊥
empty_word_does_not_count apart = by_suffix apart.suffix apart.tells
  where
    by_suffix : (suffix : Word) → TellsApart 0 nonempty (N ∷ []) [] suffix → ⊥
    by_suffix [] tells = absurd (omega (arith, tells.second_goes_on.nonempty))
    by_suffix (letter ∷ letters) tells = tells.differ refl

-- ---- tables

abbrev state : Bool → List ℕ → TableState
state flag row = record { accepting = flag; row = row }

one_slot : (letter : List Bool) → length letter ≡ 1 → (letter ≡ O) ⊎ (letter ≡ I)
one_slot [] e = absurd (omega arith)
one_slot (false ∷ []) e = inl refl
one_slot (true ∷ []) e = inr refl
one_slot (v ∷ w ∷ letter) e = absurd (omega arith)

-- `true`, over no variables
abbrev true_table : Table
true_table = state true (0 ∷ []) ∷ []

abbrev true_access : List Word
true_access = (N ∷ []) ∷ []

no_slot : (letter : List Bool) → length letter ≡ 0 → letter ≡ []
no_slot [] e = refl
no_slot (v ∷ letter) e = absurd (omega arith)

true_exact : (word : Word) → Widths 0 word → accepts_from (automaton_of true_table) 0 word ≡ true
true_exact [] w = refl
true_exact (a ∷ word) w = ap (λ letter. accepts_from (automaton_of true_table) 0 (letter ∷ word)) (no_slot a (Widths-head 0 a word w)) ∙ true_exact word (Widths-tail 0 a word w)

-- `[[p]]`
abbrev every_table : Table
every_table = state true (1 ∷ 0 ∷ []) ∷ state false (1 ∷ 1 ∷ []) ∷ []

abbrev every_access : List Word
every_access = (I ∷ []) ∷ (O ∷ []) ∷ []

-- `<p>`
abbrev point_table : Table
point_table = state false (1 ∷ 2 ∷ []) ∷ state false (1 ∷ 1 ∷ []) ∷ state true (1 ∷ 1 ∷ []) ∷ []

abbrev point_access : List Word
point_access = [] ∷ (O ∷ []) ∷ (I ∷ []) ∷ []

-- `true^<p>`
abbrev last_table : Table
last_table = state false (0 ∷ 1 ∷ []) ∷ state true (0 ∷ 1 ∷ []) ∷ []

abbrev last_access : List Word
last_access = (O ∷ []) ∷ (I ∷ []) ∷ []

-- `{{!p}}`
abbrev unit_table : Table
unit_table = state false (1 ∷ 2 ∷ []) ∷ state false (3 ∷ 3 ∷ []) ∷ state false (2 ∷ 2 ∷ []) ∷ state true (2 ∷ 2 ∷ []) ∷ []

abbrev unit_access : List Word
unit_access = [] ∷ (O ∷ []) ∷ (I ∷ []) ∷ (O ∷ O ∷ []) ∷ []

by_letter : (P : List Bool → Type 0) → P O → P I → (letter : List Bool) → length letter ≡ 1 → P letter
by_letter P o i letter e = ⊎_elim (λ is. subst P (sym is) o) (λ is. subst P (sym is) i) (one_slot letter e)

-- ---- what the tables accept

-- a fact of nonempty words of one slot is one of behaviours
on_behaviours : (k : ℕ) (L M : Language) → ((a : List Bool) (word : Word) → Widths k (a ∷ word) → L (a ∷ word) ≡ M (a ∷ word)) → HaveSameBehaviours k L M
on_behaviours k L M same [] b = absurd (omega (arith, b.nonempty))
on_behaviours k L M same (a ∷ word) b = same a word b.widths

true_accepts : AcceptsExactly 0 true_table (constant true)
true_accepts = on_behaviours 0 (table_accepts true_table) (constant true) (λ a word w. true_exact (a ∷ word) w)

module _ (table : Table) where
  abbrev from : ℕ → Word → Bool
  from = accepts_from (automaton_of table)

every_dead : (word : Word) → Widths 1 word → from every_table 1 word ≡ false
every_dead [] w = refl
every_dead (a ∷ word) w =
    let rest = every_dead word (Widths-tail 1 a word w) in
    by_letter (λ letter. from every_table 1 (letter ∷ word) ≡ false) rest rest a (Widths-head 1 a word w)

every_alive : (word : Word) → Widths 1 word → from every_table 0 word ≡ every p word
every_alive [] w = refl
every_alive (a ∷ word) w =
    let inner = Widths-tail 1 a word w in
    by_letter (λ letter. from every_table 0 (letter ∷ word) ≡ every p (letter ∷ word)) (every_dead word inner) (every_alive word inner) a (Widths-head 1 a word w)

every_accepts : AcceptsExactly 1 every_table (every p)
every_accepts = on_behaviours 1 (table_accepts every_table) (every p) (λ a word w. every_alive (a ∷ word) w)

point_dead : (word : Word) → Widths 1 word → from point_table 1 word ≡ false
point_dead [] w = refl
point_dead (a ∷ word) w =
    let rest = point_dead word (Widths-tail 1 a word w) in
    by_letter (λ letter. from point_table 1 (letter ∷ word) ≡ false) rest rest a (Widths-head 1 a word w)

point_start : (a : List Bool) (word : Word) → Widths 1 (a ∷ word) → from point_table 0 (a ∷ word) ≡ point p (a ∷ word)
point_start a [] w = by_letter (λ letter. from point_table 0 (letter ∷ []) ≡ point p (letter ∷ [])) refl refl a (Widths-head 1 a [] w)
point_start a (b ∷ word) w =
    let inner = Widths-tail 1 a (b ∷ word) w in
    let after_good = by_letter (λ letter. from point_table 2 (letter ∷ word) ≡ false)
    (point_dead word (Widths-tail 1 b word inner)) (point_dead word (Widths-tail 1 b word inner)) b (Widths-head 1 b word inner) in
    by_letter (λ letter. from point_table 0 (letter ∷ b ∷ word) ≡ false) (point_dead (b ∷ word) inner) after_good a (Widths-head 1 a (b ∷ word) w)

point_accepts : AcceptsExactly 1 point_table (point p)
point_accepts = on_behaviours 1 (table_accepts point_table) (point p) point_start

last_from : (a : List Bool) (word : Word) → Widths 1 (a ∷ word) → from last_table 0 (a ∷ word) ≡ chop (constant true) (point p) (a ∷ word)
last_from a [] w = by_letter (λ letter. from last_table 0 (letter ∷ []) ≡ chop (constant true) (point p) (letter ∷ [])) refl refl a (Widths-head 1 a [] w)
last_from a (b ∷ word) w =
    let rest = last_from b word (Widths-tail 1 a (b ∷ word) w) in
    by_letter (λ letter. from last_table 0 (letter ∷ b ∷ word) ≡ chop (constant true) (point p) (letter ∷ b ∷ word)) rest rest a (Widths-head 1 a (b ∷ word) w)

last_accepts : AcceptsExactly 1 last_table (chop (constant true) (point p))
last_accepts = on_behaviours 1 (table_accepts last_table) (chop (constant true) (point p)) last_from

abbrev not_p : List Bool → Bool
not_p letter = not (p letter)

unit_dead : (word : Word) → Widths 1 word → from unit_table 2 word ≡ false
unit_dead [] w = refl
unit_dead (a ∷ word) w =
    let rest = unit_dead word (Widths-tail 1 a word w) in
    by_letter (λ letter. from unit_table 2 (letter ∷ word) ≡ false) rest rest a (Widths-head 1 a word w)

unit_start : (a : List Bool) (word : Word) → Widths 1 (a ∷ word) → from unit_table 0 (a ∷ word) ≡ unit not_p (a ∷ word)
unit_start a [] w = by_letter (λ letter. from unit_table 0 (letter ∷ []) ≡ false) refl refl a (Widths-head 1 a [] w)
unit_start a (b ∷ []) w =
    let inner = Widths-tail 1 a (b ∷ []) w in
    let width = Widths-head 1 b [] inner in
    by_letter (λ letter. from unit_table 0 (letter ∷ b ∷ []) ≡ unit not_p (letter ∷ b ∷ []))
    (by_letter (λ letter. from unit_table 1 (letter ∷ []) ≡ true) refl refl b width) (unit_dead (b ∷ []) inner) a (Widths-head 1 a (b ∷ []) w)
unit_start a (b ∷ c ∷ word) w =
    let inner = Widths-tail 1 a (b ∷ c ∷ word) w in
    let last = Widths-tail 1 b (c ∷ word) inner in
    let dead = unit_dead word (Widths-tail 1 c word last) in
    let over = by_letter (λ letter. from unit_table 3 (letter ∷ word) ≡ false) dead dead c (Widths-head 1 c word last) in
    by_letter (λ letter. from unit_table 0 (letter ∷ b ∷ c ∷ word) ≡ false)
    (by_letter (λ letter. from unit_table 1 (letter ∷ c ∷ word) ≡ false) over over b (Widths-head 1 b (c ∷ word) inner))
    (unit_dead (b ∷ c ∷ word) inner) a (Widths-head 1 a (b ∷ c ∷ word) w)

unit_accepts : AcceptsExactly 1 unit_table (unit not_p)
unit_accepts = on_behaviours 1 (table_accepts unit_table) (unit not_p) unit_start

-- `[[p]]^[[p]]` is `[[p]]`
chop_after : (b : Bool) (L M : Language) (word : Word) → chop (λ front. b && L front) M word ≡ (b && chop L M word)
chop_after true L M word = refl
chop_after false L M word = none (length word) (λ m. false)
  where
    none : (n : ℕ) (q : ℕ → Bool) → some_below n (λ m. false) ≡ false
    none zero q = refl
    none (suc n) q = none n q

absorbed : (a b : Bool) → ((a && true) && (a && b) || (a && b)) ≡ (a && b)
absorbed true true = refl
absorbed true false = refl
absorbed false b = refl

joined : (a : List Bool) (word : Word) → chop (every p) (every p) (a ∷ word) ≡ every p (a ∷ word)
joined a [] = once (p a)
  where
    once : (b : Bool) → (((b && true) && (b && true)) || false) ≡ (b && true)
    once true = refl
    once false = refl
joined a (b ∷ word) =
    ap (λ rest. ((p a && true) && (p a && every p (b ∷ word))) || rest)
    (chop_after (p a) (every p) (every p) (b ∷ word) ∙ ap (λ rest. p a && rest) (joined b word))
    ∙ absorbed (p a) (every p (b ∷ word))

-- ---- the canonical tables

-- a suffix for each two states
abbrev suffixes_of : List (List Word) → ℕ → ℕ → Word
suffixes_of matrix s t = get_or (get_or matrix s []) t []

module _ (laws : WordLaws) (width : LetterHasItsWidth) (bits : BitsOfItsLetter) where
  -- one state, and none of its own for the start
  pub true_canonical : IsCanonical 0 (constant true) true_table true_access
  true_canonical = shown_canonical laws width bits 0 (constant true) true_table true_access false (λ s t. []) (record {
    nonempty = refl;
    rows = refl;
    numbers = refl;
    words = refl;
    enters = refl;
    apart = refl;
    behave = refl;
    lead = refl;
    begin_early = refl;
    go_on_early = refl;
    ascend = refl;
    start_is_alone = refl;
    alone_rejects = refl;
    other_rows = refl;
  }) true_accepts

  -- the start is the state of `1`, although `0` comes before it
  pub every_canonical : IsCanonical 1 (every p) every_table every_access
  every_canonical = shown_canonical laws width bits 1 (every p) every_table every_access false (λ s t. []) (record {
    nonempty = refl;
    rows = refl;
    numbers = refl;
    words = refl;
    enters = refl;
    apart = refl;
    behave = refl;
    lead = refl;
    begin_early = refl;
    go_on_early = refl;
    ascend = refl;
    start_is_alone = refl;
    alone_rejects = refl;
    other_rows = refl;
  }) every_accepts

  -- and that of `[[p]]^[[p]]` is the same
  pub chop_canonical : IsCanonical 1 (chop (every p) (every p)) every_table every_access
  chop_canonical = canonical_for_same_behaviours 1 (every p) (chop (every p) (every p)) every_table every_access
      (on_behaviours 1 (every p) (chop (every p) (every p)) (λ a word w. sym (joined a word))) every_canonical

  -- the start stands alone: it is told apart from `0` and `1` by `1`
  pub point_canonical : IsCanonical 1 (point p) point_table point_access
  point_canonical = shown_canonical laws width bits 1 (point p) point_table point_access true
      (suffixes_of ((([] ∷ (I ∷ []) ∷ (I ∷ []) ∷ []) ∷ ((I ∷ []) ∷ []) ∷ ((I ∷ []) ∷ []) ∷ []))) (record {
        nonempty = refl;
        rows = refl;
        numbers = refl;
        words = refl;
        enters = refl;
        apart = refl;
        behave = refl;
        lead = refl;
        begin_early = refl;
        go_on_early = refl;
        ascend = refl;
        start_is_alone = refl;
        alone_rejects = refl;
        other_rows = refl;
      }) point_accepts

  -- `1` comes before `0 0`, since it is shorter
  pub unit_canonical : IsCanonical 1 (unit not_p) unit_table unit_access
  unit_canonical = shown_canonical laws width bits 1 (unit not_p) unit_table unit_access true
      (suffixes_of (([] ∷ (O ∷ []) ∷ (O ∷ O ∷ []) ∷ []) ∷ ((O ∷ []) ∷ [] ∷ (O ∷ []) ∷ []) ∷ ((O ∷ O ∷ []) ∷ (O ∷ []) ∷ []) ∷ [])) (record {
        nonempty = refl;
        rows = refl;
        numbers = refl;
        words = refl;
        enters = refl;
        apart = refl;
        behave = refl;
        lead = refl;
        begin_early = refl;
        go_on_early = refl;
        ascend = refl;
        start_is_alone = refl;
        alone_rejects = refl;
        other_rows = refl;
      }) unit_accepts

  -- the start could be either state, and is that of the least word
  pub last_canonical : IsCanonical 1 (chop (constant true) (point p)) last_table last_access
  last_canonical = shown_canonical laws width bits 1 (chop (constant true) (point p)) last_table last_access false (λ s t. []) (record {
    nonempty = refl;
    rows = refl;
    numbers = refl;
    words = refl;
    enters = refl;
    apart = refl;
    behave = refl;
    lead = refl;
    begin_early = refl;
    go_on_early = refl;
    ascend = refl;
    start_is_alone = refl;
    alone_rejects = refl;
    other_rows = refl;
  }) last_accepts

  -- `1` leads to a state with the start's row too, but `0` is less: so the start is not folded into that state
  pub greater_start_is_refused : IsCanonical 1 (chop (constant true) (point p)) (state true (1 ∷ 0 ∷ []) ∷ state false (1 ∷ 0 ∷ []) ∷ []) ((I ∷ []) ∷ (O ∷ []) ∷ []) → ⊥
  greater_start_is_refused c = c.start.least.least (O ∷ []) (behaviour 1 O [] (one_letter 1 O refl)) last_canonical.start.least.member refl

-- ---- tables and certificates that are none

-- a start of its own for `true`: nothing tells a behaviour from the empty word
own_start_is_refused : IsCanonical 0 (constant true) (state false (1 ∷ []) ∷ state true (1 ∷ []) ∷ []) ([] ∷ (N ∷ []) ∷ []) → ⊥
own_start_is_refused c = (c.start.apart (N ∷ []) (behaviour 0 N [] (one_letter 0 N refl))).tells.differ refl

-- access words of `{{!p}}` in the order of their letters, as in a dictionary
dictionary_order_is_refused : (table : Table) → IsCanonical 1 (unit not_p) table ([] ∷ (O ∷ []) ∷ (O ∷ O ∷ []) ∷ (I ∷ []) ∷ []) → ⊥
dictionary_order_is_refused table c = greater (c.in_order 1 2 [] (omega arith) (omega arith))
  where
    greater : Greater ≡ Less → ⊥
    greater e = cc

-- the certificate of `<p>`
two_letters : (a b : List Bool) → length a ≡ 1 → length b ≡ 1 → IsBehaviour 1 (a ∷ b ∷ [])
two_letters a b e f = behaviour 1 a (b ∷ []) (Widths-cons 1 a (b ∷ []) e (one_letter 1 b f))

one_letter_behaves : (a : List Bool) → length a ≡ 1 → IsBehaviour 1 (a ∷ [])
one_letter_behaves a e = behaviour 1 a [] (one_letter 1 a e)

-- the empty suffix tells `0` from `1`
empty_tells : TellsApart 1 (point p) (O ∷ []) (I ∷ []) []
empty_tells = record { first_goes_on = one_letter_behaves O refl; second_goes_on = one_letter_behaves I refl; differ = false≢true }

-- and `1` tells the empty word from both, since it is no longer one instant after them
one_tells : (a : List Bool) → length a ≡ 1 → TellsApart 1 (point p) [] (a ∷ []) (I ∷ [])
one_tells a e = record { first_goes_on = one_letter_behaves I refl; second_goes_on = two_letters a I e refl; differ = true≢false }

-- the empty suffix says nothing of the empty word
empty_tells_nothing : (v : Word) → TellsApart 1 (point p) [] v [] → ⊥
empty_tells_nothing v tells = absurd (omega (arith, tells.first_goes_on.nonempty))

abbrev point_suffixes : List Word
point_suffixes = [] ∷ (I ∷ []) ∷ []

point_each : (earlier later : List Word) (suffix : Word) → point_suffixes ≡ earlier ++ suffix ∷ later → IsNextSuffix 1 (point p) point_access earlier suffix
point_each [] later suffix e =
    let is : suffix ≡ [] = cc in
    subst (IsNextSuffix 1 (point p) point_access []) (sym is) (record {
      grows = refl;
      tells = record {
        first = O ∷ [];
        second = I ∷ [];
        first_is_access = (1, (omega arith, refl));
        second_is_access = (2, (omega arith, refl));
        tells = empty_tells;
        is_new = λ k d h. absurd (omega arith);
      };
    })
point_each (x ∷ []) later suffix e =
    let is_first : x ≡ [] = cc in
    let is : suffix ≡ I ∷ [] = cc in
    subst₂ (λ y. IsNextSuffix 1 (point p) point_access (y ∷ [])) (sym is_first) (sym is) (record {
      grows = record { letter = I; shorter = []; width = refl; from = (0, (omega arith, refl)); grown = refl };
      tells = record {
        first = [];
        second = O ∷ [];
        first_is_access = (0, (omega arith, refl));
        second_is_access = (1, (omega arith, refl));
        tells = one_tells O refl;
        is_new = new;
      };
    })
  where
    new : All (λ other. ¬ TellsApart 1 (point p) [] (O ∷ []) other) ([] ∷ [])
    new zero d h = empty_tells_nothing (O ∷ [])
    new (suc k) d h = absurd (omega arith)
point_each (x ∷ y ∷ []) later suffix e = cc
point_each (x ∷ y ∷ z ∷ earlier) later suffix e = cc

point_told : AllPairs (AreToldBy 1 (point p) point_suffixes) point_access
point_told zero zero d h l = absurd (omega arith)
point_told zero (suc zero) d h l = record { suffix = I ∷ []; listed = (1, (omega arith, refl)); tells = one_tells O refl }
point_told zero (suc (suc zero)) d h l = record { suffix = I ∷ []; listed = (1, (omega arith, refl)); tells = one_tells I refl }
point_told (suc zero) (suc (suc zero)) d h l = record { suffix = []; listed = (0, (omega arith, refl)); tells = empty_tells }
point_told i (suc (suc (suc j))) d h l = absurd (omega arith)
point_told (suc i) zero d h l = absurd (omega arith)
point_told (suc i) (suc zero) d h l = absurd (omega arith)
point_told (suc (suc i)) (suc (suc zero)) d h l = absurd (omega arith)

pub point_certificate : IsCertificate 1 (point p) point_access point_suffixes
point_certificate = record { each = point_each; told = point_told }

-- the empty suffix alone is no certificate of it
empty_suffix_is_not_enough : IsCertificate 1 (point p) point_access ([] ∷ []) → ⊥
empty_suffix_is_not_enough c =
    let told = c.told 0 1 [] (omega arith) (omega arith) in
    by_suffix told.suffix told.listed told.tells
  where
    by_suffix : (suffix : Word) → IsAmong ([] ∷ []) suffix → TellsApart 1 (point p) [] (O ∷ []) suffix → ⊥
    by_suffix [] among tells = empty_tells_nothing (O ∷ []) tells
    by_suffix (a ∷ suffix) (zero, (h, e)) tells = cc
    by_suffix (a ∷ suffix) (suc i, (h, e)) tells = absurd (omega arith)
