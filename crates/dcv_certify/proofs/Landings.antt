-- Where the access words of a file lead, one after another.
use Rattle.std.proofs.Common.{◌≡◌, ◌⊎◌, ◌&&◌, ◌||◌, inl, inr, ⊎_elim, ℕ, zero, suc, ◌+◌, ◌<◌, ◌≤◌, Bool, true, false, List, [], ◌∷◌, ◌++◌, length, map, get_or, set, All, refl, ap, sym, ◌∙◌, subst, arith}
use Rattle.std.proofs.lemmas.Bool.{cases_lt, ltb-true, false≢true}
use Rattle.std.proofs.lemmas.List.{length-map, length-append, length-set, get_or-map, get_or_push, get_or_append_left, get_or-set_same, get_or-set_other}
use Rattle.std.proofs.lemmas.List.Elements.{All-push}
use Rattle.std.specs.Prelude.{nat_eq, nat_lt}
use Rattle.std.specs.Cmp.{unsigned_Decides}
use Rattle.dcv_word.specs.Behaviour.{Word}
use Rattle.dcv_language.specs.Automaton.{state_from}
use Rattle.dcv_language.specs.Table.{Table, IsTable, next_in, leads_to, automaton_of}
use Rattle.dcv_language.proofs.Bounds.{leads_to-below}
use Rattle.dcv_automaton_text.specs.File.{Access, EmptyAccess, StartAccess, AfterAccess, AccessLine, AutomatonFile}
use Rattle.dcv_automaton_text.specs.Meaning.{table_of, access_words_of}
use Rattle.dcv_automaton_text.specs.Rules.{has_width, goes_before, keeps_how_access, IsGood}
use Rattle.dcv_automaton_text.proofs.AccessLines.{IsWordOf, lines_spell}
use Rattle.dcv_certify.proofs.GoodLines.{count_of_words}
use Rattle.dcv_automaton_text.proofs.GoodFiles.{good_file}
use Rattle.dcv_automaton_text.proofs.Kept.{both, AreKept}
use Rattle.dcv_language.specs.declared.certificate.Access.{Access as ReadAccess}
use Rattle.dcv_automaton_read.specs.File.{access_from, accesses_of}
use Rattle.dcv_certify.specs.Certified.{word_at, landed}
use Rattle.dcv_certify.specs.Alike.{is_empty_access, has_no_letters}
use Rattle.dcv_certify.specs.Landing.{followed, GoesOnFrom, AreLanded}

-- state 0's is not there yet
pub record LandedSoFar (file : AutomatonFile) (states : List ℕ) (place : ℕ) : Type 0 where
  pub count : length states ≡ place
  pub some : 0 < place
  pub below : All (λ state. state < file.states) states
  pub each : (state : ℕ) → 0 < state → state < place → get_or states state 0 ≡ landed file state

abbrev pub no_access : AccessLine
no_access = record { number = 0; access = EmptyAccess }

abbrev pub access_at : AutomatonFile → ℕ → Access
access_at file state = (get_or file.access_lines state no_access).access

state-append : (table : Table) (state : ℕ) (word : Word) (letter : List Bool)
    → state_from (automaton_of table) state (word ++ letter ∷ []) ≡ next_in table (state_from (automaton_of table) state word) letter
state-append table state [] letter = refl
state-append table state (first ∷ word) letter = state-append table (next_in table state first) word letter

-- the word of a state leads where its line says
module _ (file : AutomatonFile) (good : IsGood file) where
  pub spelled_at : (state : ℕ) → state < file.states → IsWordOf (access_words_of file) (access_at file state) (word_at file state)
  spelled_at state within = lines_spell file (good_file file good) state no_access (omega (arith, (good_file file good).words))

  followed_is : (states : List ℕ) (access : Access) (word : Word) → IsWordOf (access_words_of file) access word
      → ((before : ℕ) → 0 < before → before < file.states → (letter : List Bool) → access ≡ AfterAccess before letter → get_or states before 0 ≡ landed file before)
      → followed (table_of file) states access ≡ leads_to (table_of file) word
  followed_is states EmptyAccess word is known = sym (ap (leads_to (table_of file)) is)
  followed_is states (StartAccess letter) word is known = sym (ap (leads_to (table_of file)) is)
  followed_is states (AfterAccess before letter) word is known =
      let within : before < file.states = omega (arith, is.is_state, count_of_words file (good_file file good)) in
      ap (λ state. next_in (table_of file) state letter) (known before is.not_start within letter refl)
      ∙ sym (state-append (table_of file) 0 (word_at file before) letter) ∙ sym (ap (leads_to (table_of file)) is.word_is)

  -- the word of the start is empty where it is spelled so
  pub empty_word : has_no_letters file ≡ true → word_at file 0 ≡ []
  empty_word e = by (access_at file 0) (spelled_at 0 (good_file file good).some) e
    where
      by : (access : Access) → IsWordOf (access_words_of file) access (word_at file 0) → is_empty_access access ≡ true → word_at file 0 ≡ []
      by EmptyAccess is e = is
      by (StartAccess letter) is e = absurd (false≢true e)
      by (AfterAccess before letter) is e = absurd (false≢true e)

  pub no_letters : word_at file 0 ≡ [] → has_no_letters file ≡ true
  no_letters empty = by (access_at file 0) (spelled_at 0 (good_file file good).some)
    where
      by : (access : Access) → IsWordOf (access_words_of file) access (word_at file 0) → is_empty_access access ≡ true
      by EmptyAccess is = refl
      by (StartAccess letter) is = absurd (let size = ap length (sym empty ∙ is) in omega arith)
      by (AfterAccess before letter) is =
          absurd (let size = ap length (sym empty ∙ is.word_is) in let more = length-append (get_or (access_words_of file) before []) (letter ∷ []) in omega arith)

  -- what the rules say of the line of a state
  pub kept_at : (state : ℕ) → state < file.states → AreKept (keeps_how_access file state (access_at file state))
  kept_at state within = ((good_file file good).access state no_access (omega (arith, (good_file file good).words))).how

  pub earlier : (state before : ℕ) → goes_before file state before ≡ true → 0 < state → before < state
  earlier state before kept some = by (nat_eq state 0) refl (both (nat_lt 0 before && nat_lt before file.states) (nat_eq state 0 || nat_lt before state) kept).1
    where
      by : (first : Bool) → nat_eq state 0 ≡ first → (first || nat_lt before state) ≡ true → before < state
      by true e kept = absurd (let zero_is = (unsigned_Decides state 0).0 e in omega arith)
      by false e kept = ltb-true before state kept

  pub width : (letter : List Bool) → has_width file letter ≡ true → length letter ≡ length file.names
  width letter kept = (unsigned_Decides (length letter) (length file.names)).0 kept

  -- the line of a state goes on from those of earlier states
  pub goes_on : (states : List ℕ) (state : ℕ) → LandedSoFar file states state → state < file.states → GoesOnFrom file states (access_at file state)
  goes_on states state so_far within = by (access_at file state) (kept_at state within)
    where
      by : (access : Access) → AreKept (keeps_how_access file state access) → GoesOnFrom file states access
      by EmptyAccess kept = tt
      by (StartAccess letter) kept = ((good_file file good).some, width letter kept.1.0)
      by (AfterAccess before letter) kept = (omega (arith, earlier state before kept.0 so_far.some, so_far.count), width letter kept.1.0)

  -- so it leads where its word does
  pub leads_on : (states : List ℕ) (state : ℕ) → LandedSoFar file states state → state < file.states → followed (table_of file) states (access_at file state) ≡ landed file state
  leads_on states state so_far within =
      followed_is states (access_at file state) (word_at file state) (spelled_at state within)
      (λ before later is_state letter is. so_far.each before later (before_it before letter is))
    where
      before_it : (before : ℕ) (letter : List Bool) → access_at file state ≡ AfterAccess before letter → before < state
      before_it before letter is =
          earlier state before (subst (λ access. AreKept (keeps_how_access file state access)) is (kept_at state within)).0 so_far.some

  -- the last is that of state 0, which may go on from any
  pub goes_on_last : (states : List ℕ) → LandedSoFar file states file.states → GoesOnFrom file states (access_at file 0)
  goes_on_last states all = by (access_at file 0) (kept_at 0 (good_file file good).some)
    where
      by : (access : Access) → AreKept (keeps_how_access file 0 access) → GoesOnFrom file states access
      by EmptyAccess kept = tt
      by (StartAccess letter) kept = ((good_file file good).some, width letter kept.1.0)
      by (AfterAccess before letter) kept =
          (is_state (both (nat_lt 0 before && nat_lt before file.states) (nat_eq 0 0 || nat_lt before 0) kept.0).0, width letter kept.1.0)
        where
          is_state : (nat_lt 0 before && nat_lt before file.states) ≡ true → before < length states
          is_state kept = omega (arith, all.count, ltb-true before file.states (both (nat_lt 0 before) (nat_lt before file.states) kept).1)

  pub leads_last : (states : List ℕ) → LandedSoFar file states file.states → followed (table_of file) states (access_at file 0) ≡ landed file 0
  leads_last states all =
      followed_is states (access_at file 0) (word_at file 0) (spelled_at 0 (good_file file good).some) (λ before later is_state letter is. all.each before later is_state)

  pub landed_below : IsTable (length file.names) (table_of file) → length (table_of file) ≡ file.states → (state : ℕ) → landed file state < file.states
  landed_below is_table count state = subst (λ n. landed file state < n) count (leads_to-below (length file.names) (table_of file) is_table (word_at file state))

  -- ---- the lines as they were read

  pub read_at : (read : List ReadAccess) (d : ReadAccess) → map access_from read ≡ accesses_of file → (place : ℕ) → place < length read → access_from (get_or read place d) ≡ access_at file place
  read_at read d same place within =
      let count : length read ≡ length file.access_lines = sym (length-map read access_from) ∙ ap length same ∙ length-map file.access_lines (λ (line : AccessLine). line.access) in
      sym (get_or-map access_from read place d (access_from d) within) ∙ ap (λ (xs : List Access). get_or xs place (access_from d)) same
      ∙ get_or-map (λ (line : AccessLine). line.access) file.access_lines place no_access (access_from d) (omega arith)

  pub length_read : (read : List ReadAccess) → map access_from read ≡ accesses_of file → length read ≡ file.states
  length_read read same =
      sym (length-map read access_from) ∙ ap length same ∙ length-map file.access_lines (λ (line : AccessLine). line.access) ∙ (good_file file good).words

  -- ---- one after another

  pub landed_first : (items : List ℕ) → items ≡ 0 ∷ [] → LandedSoFar file items 1
  landed_first items is = subst (λ items. LandedSoFar file items 1) (sym is) (record {
    count = refl;
    some = omega arith;
    below = λ i d h. first i d h;
    each = λ state later before. absurd (omega arith);
  })
    where
      first : (i d : ℕ) → i < 1 → get_or (0 ∷ []) i d < file.states
      first zero d h = (good_file file good).some
      first (suc i) d h = absurd (omega arith)

  pub landed_more : (states : List ℕ) (place state : ℕ) → LandedSoFar file states place → state ≡ landed file place → landed file place < file.states
      → LandedSoFar file (states ++ state ∷ []) (place + 1)
  landed_more states place state so_far is below = record {
    count = omega (arith, length-append states (state ∷ []), so_far.count);
    some = omega arith;
    below = All-push (λ state. state < file.states) states state so_far.below (subst (λ n. n < file.states) (sym is) below);
    each = λ other later before. by other later (cases_lt other place) (omega arith);
  }
    where
      by : (other : ℕ) → 0 < other → (other < place) ⊎ (place ≤ other) → other ≤ place → get_or (states ++ state ∷ []) other 0 ≡ landed file other
      by other later (inl less) within =
          get_or_append_left states (state ∷ []) 0 other (omega (arith, so_far.count)) ∙ so_far.each other later less
      by other later (inr more) within =
          let same : place ≡ other = omega arith in
          get_or_push states state 0 other (so_far.count ∙ same) ∙ is ∙ ap (landed file) same

  pub all_landed : (states : List ℕ) (state : ℕ) → LandedSoFar file states file.states → state ≡ landed file 0 → AreLanded file (set states 0 state)
  all_landed states state so_far is = record {
    count = length-set states 0 state ∙ so_far.count;
    each = λ other within. by other within;
  }
    where
      by : (other : ℕ) → other < file.states → get_or (set states 0 state) other 0 ≡ landed file other
      by zero within = get_or-set_same states 0 state 0 (omega (arith, so_far.count)) ∙ is
      by (suc other) within = get_or-set_other states 0 (suc other) state 0 (λ e. absurd (omega (arith, e))) ∙ so_far.each (suc other) (omega arith) within

-- ---- the first that leads elsewhere

-- what stands at a place of the states to which the words lead
pub lands_at : (file : AutomatonFile) (states now : List ℕ) (place : ℕ) → AreLanded file states → now ≡ states → place < length now → (place < file.states) × (landed file place ≡ get_or now place 0)
lands_at file states now place are same within =
    let here : place < file.states = omega (arith, ap length same, are.count, within) in
    (here, sym (are.each place here) ∙ ap (λ (xs : List ℕ). get_or xs place 0) (sym same))

pub one_more : (file : AutomatonFile) (place : ℕ) → ((other : ℕ) → other < place → landed file other ≡ other) → landed file place ≡ place
    → (other : ℕ) → other < place + 1 → landed file other ≡ other
one_more file place before here other within =
    ⊎_elim (λ less. before other less) (λ more. let same : place ≡ other = omega arith in subst (λ n. landed file n ≡ n) same here) (cases_lt other place)
