-- Lines of each kind: how their first words tell them apart, and what may follow after one.
use Rattle.std.proofs.Common.{◌≡◌, ℕ, ◌+◌, ◌<◌, ◌≤◌, false, List, [], ◌∷◌, ◌++◌, ◌⊎◌, inl, inr, length, refl, sym, ap, ◌∙◌, subst, arith}
use Rattle.std.specs.Prelude.{nat_eq, slice_index_or, if◌then◌else◌}
use Rattle.std.proofs.lemmas.Bool.{cases_lt}
use Rattle.std.proofs.lemmas.List.{append_assoc}
use Rattle.dcv_automaton_text.specs.Form.{is_visible}
use Rattle.dcv_automaton_lines.specs.Pieces.{AreVisible, Exactly, Either, IsNoFurther, IsStuckIn, IsFrontOnly, IsFaultAt}
use Rattle.dcv_automaton_lines.specs.Parts.{closing_word, closing_end, keyword, behind, first_word, rank, BodyOf, LineOf, Keyword, AnyLine, Tail, Last, More, After, Closed}
use Rattle.dcv_automaton_lines.specs.declared.sections.Kind.{Kind}
use Rattle.dcv_automaton_lines.specs.declared.sections.Kind.TheVariants.{Node, State, Access, Suffix, Closing}
use Rattle.dcv_automaton_lines.specs.declared.version.Version.{Version}
use Rattle.dcv_automaton_lines.specs.declared.version.Version.TheVariants.{First, Second}
use Rattle.dcv_automaton_lines.proofs.Pieces.{no_further_either, cut_by, Leads, stuck_after, HasNoLonger, no_longer_nothing, no_further_on}
use Rattle.dcv_automaton_lines.proofs.WordSets.{leads_same}
use Rattle.dcv_automaton_lines.proofs.StepSets.{some_closed}
use Rattle.dcv_automaton_lines.proofs.LineSets.{Some, some_nothing, some_node_body, some_state_body, some_access_body, some_suffix_body, no_longer_node, no_longer_state, no_longer_access, no_longer_suffix}

-- ---- first words

closing_visible : (version : Version) → AreVisible (closing_word version)
closing_visible First = refl
closing_visible Second = refl

closing_invisible : (version : Version) → is_visible (closing_end version) ≡ false
closing_invisible First = refl
closing_invisible Second = refl

keyword_visible : (version : Version) (kind : Kind) → AreVisible (keyword version kind)
keyword_visible version Node = refl
keyword_visible version State = refl
keyword_visible version Access = refl
keyword_visible version Suffix = refl
keyword_visible version Closing = closing_visible version

behind_invisible : (version : Version) (kind : Kind) → is_visible (behind version kind) ≡ false
behind_invisible version Node = refl
behind_invisible version State = refl
behind_invisible version Access = refl
behind_invisible version Suffix = refl
behind_invisible version Closing = closing_invisible version

-- by the second byte and the third
abbrev kind_by : ℕ → ℕ → Kind
kind_by b c =
    if nat_eq b 111 then Node else (if nat_eq b 99 then Access else (if nat_eq b 117 then Suffix else (if nat_eq b 110 then Closing else (if nat_eq c 97 then State else Closing))))

closing_is : (version : Version) → kind_by (slice_index_or (closing_word version) 1 0) (slice_index_or (closing_word version) 2 0) ≡ Closing
closing_is First = refl
closing_is Second = refl

kind_is : (version : Version) (kind : Kind) → kind_by (slice_index_or (keyword version kind) 1 0) (slice_index_or (keyword version kind) 2 0) ≡ kind
kind_is version Node = refl
kind_is version State = refl
kind_is version Access = refl
kind_is version Suffix = refl
kind_is version Closing = closing_is version

keyword_same : (version : Version) (a b : Kind) → keyword version a ≡ keyword version b → a ≡ b
keyword_same version a b same = sym (kind_is version a) ∙ ap (λ word. kind_by (slice_index_or word 1 0) (slice_index_or word 2 0)) same ∙ kind_is version b

abbrev kind_at : ℕ → Kind
kind_at n = if nat_eq n 0 then Node else (if nat_eq n 1 then State else (if nat_eq n 2 then Access else (if nat_eq n 3 then Suffix else Closing)))

kind_at_rank : (kind : Kind) → kind_at (rank kind) ≡ kind
kind_at_rank Node = refl
kind_at_rank State = refl
kind_at_rank Access = refl
kind_at_rank Suffix = refl
kind_at_rank Closing = refl

pub rank_same : (a b : Kind) → rank a ≡ rank b → a ≡ b
rank_same a b same = sym (kind_at_rank a) ∙ ap kind_at same ∙ kind_at_rank b

pub rank_small : (kind : Kind) → rank kind ≤ 4
rank_small Node = omega arith
rank_small State = omega arith
rank_small Access = omega arith
rank_small Suffix = omega arith
rank_small Closing = omega arith

cases_le : (a b : ℕ) → (a ≤ b) ⊎ (b < a)
cases_le a b = elim (cases_lt b a) [ inl above ↦ inr above | inr small ↦ inl small ]

-- ---- the further of two

pub first_further : {P : List ℕ → Type 0} {Q : List ℕ → Type 0} {text left other : List ℕ} → IsStuckIn P text left → IsStuckIn Q text other → length left ≤ length other
    → IsStuckIn (Either P Q) text left
first_further {P = P} {Q = Q} {left = left} {other = other} one two shorter =
    record {
      front = one.front;
      cut = one.cut;
      viable = record { more = one.viable.more; member = record { which = inl one.viable.member } };
      stuck = no_further_either P Q one.front left one.stuck (no_further_on Q two.front other one.front left (sym two.cut ∙ one.cut) shorter two.stuck);
    }

pub second_further : {P : List ℕ → Type 0} {Q : List ℕ → Type 0} {text left other : List ℕ} → IsStuckIn P text other → IsStuckIn Q text left → length left ≤ length other
    → IsStuckIn (Either P Q) text left
second_further {P = P} {Q = Q} {left = left} {other = other} one two shorter =
    record {
      front = two.front;
      cut = two.cut;
      viable = record { more = two.viable.more; member = record { which = inr two.viable.member } };
      stuck = no_further_either P Q two.front left (no_further_on P one.front other two.front left (sym one.cut ∙ two.cut) shorter one.stuck) two.stuck;
    }

-- the first words of two texts that go on
pub record SameWord (a b : Kind) (rest other_rest : List ℕ) : Type 0 where
  pub kinds : a ≡ b
  pub rests : rest ≡ other_rest

pub record SameLine (a b : Kind) (one other : List ℕ) : Type 0 where
  pub kinds : a ≡ b
  pub lines : one ≡ other

-- what follows begins with a line
pub record FirstLine (version : Version) (first : Kind) (text : List ℕ) : Type 0 where
  pub line : List ℕ
  pub back : List ℕ
  pub line_is : AnyLine version first line
  pub whole : text ≡ line ++ back

module _ (version : Version) where
  -- ---- first words from a kind on

  keyword_from : (first next : Kind) → rank next ≡ rank first + 1 → (text : List ℕ) → Keyword version first text → Either (Exactly (first_word version first)) (Keyword version next) text
  keyword_from first next after text is = by (cases_le (rank is.kind) (rank first))
    where
      by : (rank is.kind ≤ rank first) ⊎ (rank first < rank is.kind) → Either (Exactly (first_word version first)) (Keyword version next) text
      by (inl same) =
          let later = is.later in
          let kind = rank_same is.kind first (omega arith) in
          record { which = inl (record { is = is.whole ∙ ap (λ k. first_word version k) kind }) }
      by (inr above) = record { which = inr (record { kind = is.kind; later = omega arith; whole = is.whole }) }

  leads_keyword : (first next : Kind) → rank next ≡ rank first + 1 → Leads (Keyword version first) [] (Either (Exactly (first_word version first)) (Keyword version next))
  leads_keyword first next after =
      leads_same
      (λ text is. elim is.which [
        | inl one ↦ record { kind = first; later = omega arith; whole = one.is }
        | inr other ↦ record { kind = other.kind; later = (let later = other.later in omega arith); whole = other.whole }
      ])
      (keyword_from first next after)

  pub stuck_in_this : (first next : Kind) → rank next ≡ rank first + 1 → {text left other : List ℕ} → IsStuckIn (Exactly (first_word version first)) text left
      → IsStuckIn (Keyword version next) text other → length left ≤ length other → IsStuckIn (Keyword version first) text left
  stuck_in_this first next after one two shorter = stuck_after (leads_keyword first next after) refl (first_further one two shorter)

  pub stuck_in_next : (first next : Kind) → rank next ≡ rank first + 1 → {text left other : List ℕ} → IsStuckIn (Exactly (first_word version first)) text other
      → IsStuckIn (Keyword version next) text left → length left ≤ length other → IsStuckIn (Keyword version first) text left
  stuck_in_next first next after one two shorter = stuck_after (leads_keyword first next after) refl (second_further one two shorter)

  -- ---- lines

  some_body : (kind : Kind) → Some (BodyOf kind)
  some_body Node = some_node_body
  some_body State = some_state_body
  some_body Access = some_access_body
  some_body Suffix = some_suffix_body
  some_body Closing = some_nothing

  no_longer_body : (kind : Kind) → HasNoLonger (BodyOf kind)
  no_longer_body Node = no_longer_node
  no_longer_body State = no_longer_state
  no_longer_body Access = no_longer_access
  no_longer_body Suffix = no_longer_suffix
  no_longer_body Closing = no_longer_nothing

  same_word : (a b : Kind) (rest other_rest : List ℕ) → keyword version a ++ behind version a ∷ rest ≡ keyword version b ++ behind version b ∷ other_rest → SameWord a b rest other_rest
  same_word a b rest other_rest same =
      let read = cut_by is_visible (keyword version a) (keyword version b) rest other_rest (behind version a) (behind version b) (keyword_visible version a) (keyword_visible version b) (behind_invisible version a) (behind_invisible version b) same in
      record { kinds = keyword_same version a b read.same; rests = read.rests }

  leads_body : (first kind : Kind) → rank first ≤ rank kind → Leads (AnyLine version first) (first_word version kind) (BodyOf kind)
  leads_body first kind later =
      record {
        into = λ rest body. record { kind = kind; later = later; line_is = record { body = rest; body_is = body; whole = append_assoc (keyword version kind) (behind version kind ∷ []) rest } };
        from = λ text more rest any same.
            let line = any.line_is in
            let read = same_word any.kind kind (line.body ++ more) rest
            (sym (append_assoc (keyword version any.kind) (behind version any.kind ∷ line.body) more) ∙ ap (λ t. t ++ more) (sym line.whole) ∙ same ∙ append_assoc (keyword version kind) (behind version kind ∷ []) rest) in (
              line.body,
              (
                subst (λ (k : Kind). BodyOf k line.body) read.kinds line.body_is,
                line.whole ∙ ap (λ k. keyword version k ++ behind version k ∷ line.body) read.kinds ∙ sym (append_assoc (keyword version kind) (behind version kind ∷ []) line.body),
              ),
            );
      }

  -- in a line after its first word
  pub stuck_in_body : (first kind : Kind) {text body left : List ℕ} → rank first ≤ rank kind → text ≡ keyword version kind ++ behind version kind ∷ body → IsStuckIn (BodyOf kind) body left
      → IsStuckIn (AnyLine version first) text left
  stuck_in_body first kind {body = body} later whole stuck =
      stuck_after (leads_body first kind later) (whole ∙ sym (append_assoc (keyword version kind) (behind version kind ∷ []) body)) stuck

  module _ (first : Kind) where
    word_before : (text more rest : List ℕ) (any : AnyLine version first text) → text ++ more ≡ rest → first_word version any.kind ++ (any.line_is.body ++ more) ≡ rest
    word_before text more rest any same =
        append_assoc (keyword version any.kind) (behind version any.kind ∷ []) (any.line_is.body ++ more) ∙ sym (append_assoc (keyword version any.kind) (behind version any.kind ∷ any.line_is.body) more)
        ∙ ap (λ t. t ++ more) (sym any.line_is.whole) ∙ same

    word_of : (text : List ℕ) (any : AnyLine version first text) → Keyword version first (first_word version any.kind)
    word_of text any = record { kind = any.kind; later = any.later; whole = refl }

    none_in_word : (front left : List ℕ) → IsNoFurther (Keyword version first) front left → IsNoFurther (AnyLine version first) front left
    none_in_word front [] none = λ text more any same.
        none (first_word version any.kind) (any.line_is.body ++ more) (word_of text any) (word_before text more front any same)
    none_in_word front (b ∷ left) none = λ text more other any same.
        none (first_word version any.kind) (any.line_is.body ++ more) other (word_of text any) (word_before text more (front ++ b ∷ other) any same)

    -- in the first word of a line
    pub stuck_in_keyword : {text left : List ℕ} → IsStuckIn (Keyword version first) text left → IsStuckIn (AnyLine version first) text left
    stuck_in_keyword {left = left} stuck =
        let word = stuck.viable.member in
        let body = some_body word.kind in
        record {
          front = stuck.front;
          cut = stuck.cut;
          viable = record {
            more = stuck.viable.more ++ body.text;
            member = record {
              kind = word.kind;
              later = word.later;
              line_is = record {
                body = body.text;
                body_is = body.is;
                whole = sym (append_assoc stuck.front stuck.viable.more body.text) ∙ ap (λ t. t ++ body.text) word.whole ∙ append_assoc (keyword version word.kind) (behind version word.kind ∷ []) body.text;
              };
            };
          };
          stuck = none_in_word stuck.front left stuck.stuck;
        }

  -- ---- lines and what follows

  pub same_line : (a b : Kind) (one other rest other_rest : List ℕ) → LineOf version a one → LineOf version b other → one ++ rest ≡ other ++ other_rest → SameLine a b one other
  same_line a b one other rest other_rest is are same =
      let read = same_word a b (is.body ++ rest) (are.body ++ other_rest)
      (sym (append_assoc (keyword version a) (behind version a ∷ is.body) rest) ∙ ap (λ t. t ++ rest) (sym is.whole) ∙ same ∙ ap (λ t. t ++ other_rest) are.whole
      ∙ append_assoc (keyword version b) (behind version b ∷ are.body) other_rest) in
      let bodies = (no_longer_body b).same is.body are.body rest other_rest (subst (λ (k : Kind). BodyOf k is.body) read.kinds is.body_is) are.body_is read.rests in
      record { kinds = read.kinds; lines = is.whole ∙ (λ i. keyword version (read.kinds i) ++ behind version (read.kinds i) ∷ bodies i) ∙ sym are.whole }

  after_is : (kind : Kind) → rank kind ≤ 3 → (text : List ℕ) → After version kind text → Tail version kind text
  after_is Node small text is = is
  after_is State small text is = is
  after_is Access small text is = is
  after_is Suffix small text is = is
  after_is Closing small text is = absurd (omega arith)

  tail_is : (kind : Kind) → rank kind ≤ 3 → (text : List ℕ) → Tail version kind text → After version kind text
  tail_is Node small text is = is
  tail_is State small text is = is
  tail_is Access small text is = is
  tail_is Suffix small text is = is
  tail_is Closing small text is = absurd (omega arith)

  closed_of : (kind : Kind) → rank kind ≡ 4 → (text : List ℕ) → After version kind text → Closed version text
  closed_of Node last text is = absurd (omega arith)
  closed_of State last text is = absurd (omega arith)
  closed_of Access last text is = absurd (omega arith)
  closed_of Suffix last text is = absurd (omega arith)
  closed_of Closing last text is = is

  after_closed : (kind : Kind) → kind ≡ Closing → (text : List ℕ) → Closed version text → After version kind text
  after_closed kind last text is = subst (λ (k : Kind). After version k text) (sym last) is

  module _ (first kind : Kind) (front : List ℕ) (later : rank first ≤ rank kind) (line : LineOf version kind front) where
    tail_into : (rest : List ℕ) → After version kind rest → Tail version first (front ++ rest)
    tail_into rest after = by (cases_le (rank kind) 3)
      where
        by : (rank kind ≤ 3) ⊎ (3 < rank kind) → Tail version first (front ++ rest)
        by (inl small) = More first kind (front ++ rest) front rest later small line (after_is kind small rest after) refl
        by (inr last) =
            let most = rank_small kind in
            let ends : kind ≡ Closing = rank_same kind Closing (omega arith) in
            Last first (front ++ rest) front rest (subst (λ (k : Kind). LineOf version k front) ends line) (closed_of kind (omega arith) rest after) refl

    tail_from : (text more rest : List ℕ) → Tail version first text → text ++ more ≡ front ++ rest → (back : List ℕ) × (After version kind back × (text ≡ front ++ back))
    tail_from text more rest (Last _ _ other_front other_back last closed whole) same =
        let read = same_line Closing kind other_front front (other_back ++ more) rest last line
        (sym (append_assoc other_front other_back more) ∙ ap (λ t. t ++ more) (sym whole) ∙ same) in
        (other_back, (after_closed kind (sym read.kinds) other_back closed, whole ∙ ap (λ f. f ++ other_back) read.lines))
    tail_from text more rest (More _ other _ other_front other_back other_later small other_line tail whole) same =
        let read = same_line other kind other_front front (other_back ++ more) rest other_line line
        (sym (append_assoc other_front other_back more) ∙ ap (λ t. t ++ more) (sym whole) ∙ same) in
        (other_back, (subst (λ (k : Kind). After version k other_back) read.kinds (tail_is other small other_back tail), whole ∙ ap (λ f. f ++ other_back) read.lines))

    pub leads_tail : Leads (Tail version first) front (After version kind)
    leads_tail = record { into = tail_into; from = tail_from }

  pub closing_line : LineOf version Closing (first_word version Closing)
  closing_line = record { body = []; body_is = record { is = refl }; whole = refl }

  -- the closing word and some text after it
  pub some_tail : (first : Kind) → Some (Tail version first)
  some_tail first =
      let closed = some_closed version in
      record {
        text = first_word version Closing ++ closed.text;
        is = Last first (first_word version Closing ++ closed.text) (first_word version Closing) closed.text closing_line closed.is refl;
      }

  -- some text after a line of a kind
  some_after : (kind : Kind) → Some (After version kind)
  some_after Node = some_tail Node
  some_after State = some_tail State
  some_after Access = some_tail Access
  some_after Suffix = some_tail Suffix
  some_after Closing = some_closed version

  pub first_line : (first : Kind) (text : List ℕ) → Tail version first text → FirstLine version first text
  first_line first text (Last _ _ front back last closed whole) =
      record { line = front; back = back; line_is = record { kind = Closing; later = rank_small first; line_is = last }; whole = whole }
  first_line first text (More _ kind _ front back later small line tail whole) =
      record { line = front; back = back; line_is = record { kind = kind; later = later; line_is = line }; whole = whole }

  module _ (first : Kind) where
    only_in_line : (front left : List ℕ) → IsNoFurther (AnyLine version first) front left → IsFrontOnly (Tail version first) front left
    only_in_line front [] none = λ tail. let begin = first_line first front tail in none begin.line begin.back begin.line_is (sym begin.whole)
    only_in_line front (b ∷ left) none = λ other tail.
        let begin = first_line first (front ++ b ∷ other) tail in none begin.line begin.back other begin.line_is (sym begin.whole)

    pub stuck_in_line : {text left : List ℕ} → IsStuckIn (AnyLine version first) text left → IsFaultAt (Tail version first) text left
    stuck_in_line {left = left} stuck =
        let any = stuck.viable.member in
        let after = some_after any.kind in
        record {
          front = stuck.front;
          cut = stuck.cut;
          viable = record {
            more = stuck.viable.more ++ after.text;
            member = subst (Tail version first) (append_assoc stuck.front stuck.viable.more after.text)
                (tail_into first any.kind (stuck.front ++ stuck.viable.more) any.later any.line_is after.text after.is);
          };
          fault = only_in_line stuck.front left stuck.stuck;
        }
