-- What is read from the front of a text of an automaton: its lines, and the whole text or its first fault.
--     Verdict P text      the text is one of the set, or is at fault in it
--     some_form           each text has the form, or a syntax fault
use Rattle.std.proofs.Common.{◌≡◌, ℕ, zero, suc, ◌+◌, ◌-◌, ◌<◌, ◌≤◌, false, List, [], ◌∷◌, ◌++◌, ◌⊎◌, inl, inr, length, take, refl, sym, ap, ◌∙◌, subst, arith}
use Rattle.std.specs.Prelude.{codes}
use Rattle.std.specs.Fmt.{decimal}
use Rattle.std.proofs.lemmas.Bool.{cases_lt}
use Rattle.std.proofs.lemmas.List.{append_assoc, length-append, take_at}
use Rattle.dcv_automaton_text.specs.File.{AutomatonFile}
use Rattle.dcv_automaton_text.specs.Form.{is_visible, HasForm, IsViable, IsSyntaxFault}
use Rattle.dcv_automaton_lines.specs.Laws.{FormOrFault}
use Rattle.dcv_automaton_lines.specs.Pieces.{Exactly, Nothing, Followed, Either, IsFaultAt}
use Rattle.dcv_automaton_lines.specs.Parts.{NodeLo, NodeColon, NodeHi, NodeMark, NodeName, NodeBody, StateRow, StateAnswer, StateBody, LastLetter, EmptyHow, StartHow, AfterHow, AccessHow, AccessBody, LastNumber, ThenHow, SuffixHow, SuffixBody}
use Rattle.dcv_automaton_lines.specs.Parts.{StepNodes, StepStatesNumber, StepStates, StepPlace, StepAt, StepBody, EndLine, WholeStep, StepTail, NoStep, NextStep, Closed, keyword, behind, first_word, rank, BodyOf, Keyword, AnyLine, Tail, Last, More, After, Words, Counted, Stated, Title, Whole, title}
use Rattle.dcv_automaton_lines.specs.declared.sections.Kind.{Kind}
use Rattle.dcv_automaton_lines.specs.declared.sections.Kind.TheVariants.{Node, State, Access, Suffix, Closing}
use Rattle.dcv_automaton_lines.specs.declared.version.Version.{Version}
use Rattle.dcv_automaton_lines.specs.declared.version.Version.TheVariants.{First, Second}
use Rattle.dcv_automaton_lines.proofs.Pieces.{append_none, same_front, HasWords, HasNoLonger, Leads, stuck_after, stuck_is_fault, fault_after, leads_followed, no_longer_followed, no_longer_nothing}
use Rattle.dcv_automaton_lines.proofs.WordSets.{number_words, node_words, target_words, answer_words, name_words, letter_words, exact_words, leads_same}
use Rattle.dcv_automaton_lines.proofs.LineSets.{Some, within, number_of, some_lo, some_colon, some_hi, some_mark, some_name, some_row, some_answer, some_last_letter, some_how_access, some_last_number, some_how_suffix}
use Rattle.dcv_automaton_lines.proofs.LineSets.{some_step_nodes, some_step_states_number, some_step_states, some_step_place, some_step_at, some_step_body}
use Rattle.dcv_automaton_lines.proofs.StepSets.{some_step_tail, leads_step, leads_end, stuck_in_step}
use Rattle.dcv_automaton_lines.proofs.KindSets.{rank_same, rank_small, stuck_in_this, stuck_in_next, stuck_in_keyword, stuck_in_body, leads_tail, some_tail, stuck_in_line}
use Rattle.dcv_automaton_lines.proofs.WholeText.{parts_of, syntax_fault, leads_title, leads_named, leads_titles, fault_in_title, fault_in_names}
use Rattle.dcv_automaton_lines.proofs.ReadWords.{Reads, Ended, StuckAt, reads_after, reads_followed, reads_either, reads_exactly, reads_literal, reads_number, reads_node, reads_target, reads_answer, reads_name, reads_letter, reads_words}

-- ---- lines without their first word

reads_nothing : (text : List ℕ) → Reads Nothing text
reads_nothing text = Ended [] text (record { is = refl }) refl

reads_lo : (text : List ℕ) → Reads NodeLo text
reads_lo text = reads_target 10 refl text

reads_colon : (text : List ℕ) → Reads NodeColon text
reads_colon text = reads_followed 32 (exact_words (codes ":") refl) refl some_lo text (reads_literal (codes ":") 32 text) reads_lo

reads_hi : (text : List ℕ) → Reads NodeHi text
reads_hi text = reads_followed 32 target_words refl some_colon text (reads_target 32 refl text) reads_colon

reads_mark : (text : List ℕ) → Reads NodeMark text
reads_mark text = reads_followed 32 (exact_words (codes "?") refl) refl some_hi text (reads_literal (codes "?") 32 text) reads_hi

reads_node_name : (text : List ℕ) → Reads NodeName text
reads_node_name text = reads_followed 32 name_words refl some_mark text (reads_name 32 (inl refl) text) reads_mark

reads_node_body : (text : List ℕ) → Reads NodeBody text
reads_node_body text = reads_followed 32 node_words refl some_name text (reads_node 32 refl text) reads_node_name

reads_row : (text : List ℕ) → Reads StateRow text
reads_row text = reads_target 10 refl text

reads_state_answer : (text : List ℕ) → Reads StateAnswer text
reads_state_answer text = reads_followed 32 answer_words refl some_row text (reads_answer text) reads_row

reads_state_body : (text : List ℕ) → Reads StateBody text
reads_state_body text = reads_followed 32 number_words refl some_answer text (reads_number 32 refl text) reads_state_answer

reads_last_letter : (text : List ℕ) → Reads LastLetter text
reads_last_letter text = reads_letter 10 (inr refl) text

reads_empty : (text : List ℕ) → Reads EmptyHow text
reads_empty text = reads_literal (codes "empty") 10 text

reads_start : (text : List ℕ) → Reads StartHow text
reads_start text = reads_followed 32 (exact_words (codes "start") refl) refl some_last_letter text (reads_literal (codes "start") 32 text) reads_last_letter

reads_after_state : (text : List ℕ) → Reads AfterHow text
reads_after_state text = reads_followed 32 number_words refl some_last_letter text (reads_number 32 refl text) reads_last_letter

reads_how_access : (text : List ℕ) → Reads AccessHow text
reads_how_access text = reads_either text (reads_empty text) (reads_either text (reads_start text) (reads_after_state text))

reads_access_body : (text : List ℕ) → Reads AccessBody text
reads_access_body text = reads_followed 32 number_words refl some_how_access text (reads_number 32 refl text) reads_how_access

reads_last_number : (text : List ℕ) → Reads LastNumber text
reads_last_number text = reads_number 10 refl text

reads_then : (text : List ℕ) → Reads ThenHow text
reads_then text = reads_followed 32 letter_words refl some_last_number text (reads_letter 32 (inl refl) text) reads_last_number

reads_how_suffix : (text : List ℕ) → Reads SuffixHow text
reads_how_suffix text = reads_either text (reads_empty text) (reads_then text)

reads_suffix_body : (text : List ℕ) → Reads SuffixBody text
reads_suffix_body text = reads_followed 32 number_words refl some_how_suffix text (reads_number 32 refl text) reads_how_suffix

-- ---- the line of a step

reads_step_nodes : (text : List ℕ) → Reads StepNodes text
reads_step_nodes text = reads_followed 32 (exact_words (codes "nodes") refl) refl some_last_number text (reads_literal (codes "nodes") 32 text) reads_last_number

reads_step_states_number : (text : List ℕ) → Reads StepStatesNumber text
reads_step_states_number text = reads_followed 32 number_words refl some_step_nodes text (reads_number 32 refl text) reads_step_nodes

reads_step_states : (text : List ℕ) → Reads StepStates text
reads_step_states text = reads_followed 32 (exact_words (codes "states") refl) refl some_step_states_number text (reads_literal (codes "states") 32 text) reads_step_states_number

reads_step_place : (text : List ℕ) → Reads StepPlace text
reads_step_place text = reads_followed 32 number_words refl some_step_states text (reads_number 32 refl text) reads_step_states

reads_step_at : (text : List ℕ) → Reads StepAt text
reads_step_at text = reads_followed 32 (exact_words (codes "at") refl) refl some_step_place text (reads_literal (codes "at") 32 text) reads_step_place

reads_step_body : (text : List ℕ) → Reads StepBody text
reads_step_body text = reads_followed 32 number_words refl some_step_at text (reads_number 32 refl text) reads_step_at

reads_step : (text : List ℕ) → Reads WholeStep text
reads_step text = reads_followed 32 (exact_words (codes "step") refl) refl some_step_body text (reads_literal (codes "step") 32 text) reads_step_body

-- ---- lines of each kind

reads_body : (kind : Kind) (text : List ℕ) → Reads (BodyOf kind) text
reads_body Node text = reads_node_body text
reads_body State text = reads_state_body text
reads_body Access text = reads_access_body text
reads_body Suffix text = reads_suffix_body text
reads_body Closing text = reads_nothing text

module _ (version : Version) where
  -- the word that closes the sections
  reads_closing_word : (text : List ℕ) → Reads (Exactly (first_word version Closing)) text → Reads (Keyword version Closing) text
  reads_closing_word text (Ended front back is same) = Ended front back (record { kind = Closing; later = omega arith; whole = is.is }) same
  reads_closing_word text (StuckAt left stuck) =
      StuckAt left (stuck_after (leads_same
      (λ front is. record { kind = Closing; later = omega arith; whole = is.is })
      (λ front is. let later = is.later in
      let most = rank_small is.kind in
      let last : is.kind ≡ Closing = rank_same is.kind Closing (omega arith) in
      record { is = is.whole ∙ ap (first_word version) last })) refl stuck)

  -- the first word of a line of this kind, or that of a later one
  this_or_later : (first next : Kind) → rank next ≡ rank first + 1 → (text : List ℕ) → Reads (Exactly (first_word version first)) text → Reads (Keyword version next) text
      → Reads (Keyword version first) text
  this_or_later first next after text (Ended front back is same) other = Ended front back (record { kind = first; later = omega arith; whole = is.is }) same
  this_or_later first next after text (StuckAt left one) (Ended front back is same) =
      Ended front back (record { kind = is.kind; later = (let later = is.later in omega arith); whole = is.whole }) same
  this_or_later first next after text (StuckAt left one) (StuckAt other two) = elim (cases_lt (length other) (length left)) [
    | inl shorter ↦ StuckAt other (stuck_in_next version first next after one two (omega arith))
    | inr longer ↦ StuckAt left (stuck_in_this version first next after one two (omega arith))
  ]

  first_words : (first : Kind) (text : List ℕ) → Reads (Exactly (first_word version first)) text
  first_words first text = reads_exactly (first_word version first) text

  from_closing : (text : List ℕ) → Reads (Keyword version Closing) text
  from_closing text = reads_closing_word text (first_words Closing text)

  from_suffix : (text : List ℕ) → Reads (Keyword version Suffix) text
  from_suffix text = this_or_later Suffix Closing (omega arith) text (first_words Suffix text) (from_closing text)

  from_access : (text : List ℕ) → Reads (Keyword version Access) text
  from_access text = this_or_later Access Suffix (omega arith) text (first_words Access text) (from_suffix text)

  from_state : (text : List ℕ) → Reads (Keyword version State) text
  from_state text = this_or_later State Access (omega arith) text (first_words State text) (from_access text)

  from_node : (text : List ℕ) → Reads (Keyword version Node) text
  from_node text = this_or_later Node State (omega arith) text (first_words Node text) (from_state text)

  reads_keyword : (first : Kind) (text : List ℕ) → Reads (Keyword version first) text
  reads_keyword Node text = from_node text
  reads_keyword State text = from_state text
  reads_keyword Access text = from_access text
  reads_keyword Suffix text = from_suffix text
  reads_keyword Closing text = from_closing text

  body_of_line : (first kind : Kind) → rank first ≤ rank kind → (text back : List ℕ) → text ≡ keyword version kind ++ behind version kind ∷ back → Reads (BodyOf kind) back
      → Reads (AnyLine version first) text
  body_of_line first kind later text back whole (Ended body rest is same) =
      Ended (keyword version kind ++ behind version kind ∷ body) rest
      (record { kind = kind; later = later; line_is = record { body = body; body_is = is; whole = refl } })
      (whole ∙ ap (λ b. keyword version kind ++ behind version kind ∷ b) same ∙ sym (append_assoc (keyword version kind) (behind version kind ∷ body) rest))
  body_of_line first kind later text back whole (StuckAt left stuck) = StuckAt left (stuck_in_body version first kind later whole stuck)

  line_by : (first : Kind) (text : List ℕ) → Reads (Keyword version first) text → Reads (AnyLine version first) text
  line_by first text (Ended front back is same) =
      body_of_line first is.kind is.later text back
      (same ∙ ap (λ f. f ++ back) is.whole ∙ append_assoc (keyword version is.kind) (behind version is.kind ∷ []) back) (reads_body is.kind back)
  line_by first text (StuckAt left stuck) = StuckAt left (stuck_in_keyword version first stuck)

  reads_line : (first : Kind) (text : List ℕ) → Reads (AnyLine version first) text
  reads_line first text = line_by first text (reads_keyword first text)

-- ---- texts that are whole, or at fault

pub data Verdict (P : List ℕ → Type 0) (text : List ℕ) : Type 0 where
  Spelled : P text → Verdict P text
  Faulty : (left : List ℕ) → IsFaultAt P text left → Verdict P text

verdict_after : {P : List ℕ → Type 0} {Q : List ℕ → Type 0} {f text rest : List ℕ} → Leads P f Q → text ≡ f ++ rest → Verdict Q rest → Verdict P text
verdict_after {P = P} {rest = rest} leads whole (Spelled is) = Spelled (subst P (sym whole) (leads.into rest is))
verdict_after leads whole (Faulty left fault) = Faulty left (fault_after leads whole fault)

verdict_followed : {P : List ℕ → Type 0} {Q : List ℕ → Type 0} (end : ℕ) → HasWords P → is_visible end ≡ false → Some Q → (text : List ℕ)
    → Reads (Followed P end Nothing) text → ((rest : List ℕ) → Verdict Q rest) → Verdict (Followed P end Q) text
verdict_followed end words ends some text (Ended front back is same) next =
    verdict_after (leads_followed words end ends is.word is.word_is) (same ∙ ap (λ f. f ++ back) (is.whole ∙ ap (λ b. is.word ++ end ∷ b) is.back_is.is)) (next back)
verdict_followed end words ends some text (StuckAt left stuck) next = Faulty left (stuck_is_fault (within some stuck))

verdict_nothing : (text : List ℕ) → Verdict Nothing text
verdict_nothing [] = Spelled (record { is = refl })
verdict_nothing (b ∷ text) =
    Faulty (b ∷ text) (record {
      front = [];
      cut = refl;
      viable = record { more = []; member = record { is = refl } };
      fault = λ other is. let wrong : b ∷ other ≡ [] = is.is in cc;
    })

-- ---- after the sections

behind_is_shorter : (front word back rest text : List ℕ) (end : ℕ) → front ≡ word ++ end ∷ back → text ≡ front ++ rest → length rest < length text
behind_is_shorter front word back rest text end is whole =
    let sizes : length text ≡ length (front ++ rest) = ap length whole in
    let parts = length-append front rest in
    let line : length front ≡ length (word ++ end ∷ back) = ap length is in
    let words = length-append word (end ∷ back) in
    omega arith

steps_by : (text : List ℕ) → ((rest : List ℕ) → length rest < length text → Verdict StepTail rest) → Reads (Either EndLine WholeStep) text → Verdict StepTail text
steps_by text next (StuckAt left stuck) = Faulty left (stuck_in_step stuck)
steps_by text next (Ended front back is same) = elim is.which [
  | inl end ↦ verdict_after leads_end (same ∙ ap (λ f. f ++ back) end.is) (verdict_nothing back)
  | inr step ↦ verdict_after (leads_step front step) same (next back (behind_is_shorter front step.word step.back back text 32 step.whole same))
]

reads_step_line : (text : List ℕ) → Reads (Either EndLine WholeStep) text
reads_step_line text = reads_either text (reads_exactly (codes "end\n") text) (reads_step text)

steps_within : (most : ℕ) (text : List ℕ) → length text ≤ most → Verdict StepTail text
steps_within zero text fits = steps_by text (λ rest less. absurd (omega arith)) (reads_step_line text)
steps_within (suc most) text fits = steps_by text (λ rest less. steps_within most rest (omega arith)) (reads_step_line text)

verdict_closed : (version : Version) (text : List ℕ) → Verdict (Closed version) text
verdict_closed First text = verdict_nothing text
verdict_closed Second text =
    verdict_followed 10 number_words refl some_step_tail text (reads_number 10 refl text) (λ rest. steps_within (length rest) rest (omega arith))

module _ (version : Version) where
  -- ---- sections

  verdict_behind : (kind : Kind) (text : List ℕ) → ((first : Kind) → Verdict (Tail version first) text) → Verdict (After version kind) text
  verdict_behind Node text next = next Node
  verdict_behind State text next = next State
  verdict_behind Access text next = next Access
  verdict_behind Suffix text next = next Suffix
  verdict_behind Closing text next = verdict_closed version text

  tail_by : (first : Kind) (text : List ℕ) → ((kind : Kind) (rest : List ℕ) → length rest < length text → Verdict (Tail version kind) rest) → Reads (AnyLine version first) text
      → Verdict (Tail version first) text
  tail_by first text next (StuckAt left stuck) = Faulty left (stuck_in_line version first stuck)
  tail_by first text next (Ended front back any same) =
      let shorter = behind_is_shorter front (keyword version any.kind) any.line_is.body back text (behind version any.kind) any.line_is.whole same in
      verdict_after (leads_tail version first any.kind front any.later any.line_is) same (verdict_behind any.kind back (λ kind. next kind back shorter))

  tail_within : (most : ℕ) (first : Kind) (text : List ℕ) → length text ≤ most → Verdict (Tail version first) text
  tail_within zero first text fits = tail_by first text (λ kind rest less. absurd (omega arith)) (reads_line version first text)
  tail_within (suc most) first text fits = tail_by first text (λ kind rest less. tail_within most kind rest (omega arith)) (reads_line version first text)

  some_counted : Some (Counted version)
  some_counted =
      let rest = some_tail version Node in
      record { text = decimal 0 ++ 10 ∷ rest.text; is = record { word = decimal 0; back = rest.text; word_is = number_of 0 (omega arith); back_is = rest.is; whole = refl } }

  verdict_counted : (text : List ℕ) → Verdict (Counted version) text
  verdict_counted text =
      verdict_followed 10 number_words refl (some_tail version Node) text (reads_number 10 refl text) (λ rest. tail_within (length rest) Node rest (omega arith))

  verdict_stated : (text : List ℕ) → Verdict (Stated version) text
  verdict_stated text = verdict_followed 32 (exact_words (codes "states") refl) refl some_counted text (reads_literal (codes "states") 32 text) verdict_counted

-- ---- the whole text

names_by : (version : Version) (text named : List ℕ) → text ≡ title version ++ named → Reads Words named → Verdict Whole text
names_by version text named is (Ended names stated are same) = verdict_after (leads_title version) is (verdict_after (leads_named version names are) same (verdict_stated version stated))
names_by version text named is (StuckAt left stuck) = Faulty left (fault_in_names version text named left is stuck)

title_by : (text : List ℕ) → Reads Title text → Verdict Whole text
title_by text (Ended front back is same) = names_by is.version text back (same ∙ ap (λ f. f ++ back) is.whole) (reads_words back)
title_by text (StuckAt left stuck) = Faulty left (fault_in_title text left stuck)

pub verdict_whole : (text : List ℕ) → Verdict Whole text
verdict_whole text = title_by text (reads_after leads_titles refl (reads_either text (reads_exactly (title First) text) (reads_exactly (title Second) text)))

-- ---- no text of the form begins another

same_behind : {P : List ℕ → Type 0} {Q : List ℕ → Type 0} (f : List ℕ) → Leads P f Q → (one back other rest other_rest : List ℕ) → one ≡ f ++ back → P other
    → one ++ rest ≡ other ++ other_rest → ((other_back : List ℕ) → Q other_back → back ++ rest ≡ other_back ++ other_rest → back ≡ other_back) → one ≡ other
same_behind f leads one back other rest other_rest is are same behind =
    let begin : f ++ (back ++ rest) ≡ other ++ other_rest = sym (append_assoc f back rest) ∙ ap (λ t. t ++ rest) (sym is) ∙ same in
    let (other_back, (back_is, whole)) = leads.from other other_rest (back ++ rest) are (sym begin) in
    let rests : back ++ rest ≡ other_back ++ other_rest = same_front f (back ++ rest) (other_back ++ other_rest)
    (begin ∙ ap (λ t. t ++ other_rest) whole ∙ append_assoc f other_back other_rest) in
    is ∙ ap (λ b. f ++ b) (behind other_back back_is rests) ∙ sym whole

steps_same : (one other rest other_rest : List ℕ) → StepTail one → StepTail other → one ++ rest ≡ other ++ other_rest → one ≡ other
steps_same one other rest other_rest (NoStep _ end) are same =
    same_behind (codes "end\n") leads_end one [] other rest other_rest end.is are same (λ back none rests. sym none.is)
steps_same one other rest other_rest (NextStep _ front back line tail whole) are same =
    same_behind front (leads_step front line) one back other rest other_rest whole are same
    (λ other_back other_tail rests. steps_same back other_back rest other_rest tail other_tail rests)

no_longer_closed : (version : Version) → HasNoLonger (Closed version)
no_longer_closed First = no_longer_nothing
no_longer_closed Second = no_longer_followed number_words 10 refl (record { same = steps_same })

module _ (version : Version) where
  -- what stands after a line, where it is not the last
  tail_behind : (kind : Kind) → rank kind ≤ 3 → (text : List ℕ) → After version kind text → Tail version kind text
  tail_behind Node small text is = is
  tail_behind State small text is = is
  tail_behind Access small text is = is
  tail_behind Suffix small text is = is
  tail_behind Closing small text is = absurd (omega arith)

  tails_same : (first : Kind) (one other rest other_rest : List ℕ) → Tail version first one → Tail version first other → one ++ rest ≡ other ++ other_rest → one ≡ other
  tails_same first one other rest other_rest (Last _ _ front back last closed whole) are same =
      same_behind front (leads_tail version first Closing front (rank_small first) last) one back other rest other_rest whole are same
      (λ other_back other_closed rests. (no_longer_closed version).same back other_back rest other_rest closed other_closed rests)
  tails_same first one other rest other_rest (More _ kind _ front back later small line tail whole) are same =
      same_behind front (leads_tail version first kind front later line) one back other rest other_rest whole are same
      (λ other_back behind rests. tails_same kind back other_back rest other_rest tail (tail_behind kind small other_back behind) rests)

  no_longer_stated : HasNoLonger (Stated version)
  no_longer_stated =
      no_longer_followed (exact_words (codes "states") refl) 32 refl (no_longer_followed number_words 10 refl (record { same = tails_same Node }))

wholes_same : (one other rest other_rest : List ℕ) → Whole one → Whole other → one ++ rest ≡ other ++ other_rest → one ≡ other
wholes_same one other rest other_rest is are same =
    let named = is.back_is in
    same_behind (title is.version) (leads_title is.version) one is.back other rest other_rest is.whole are same
    (λ back back_is rests. same_behind named.names (leads_named is.version named.names named.names_are) is.back named.back back rest other_rest named.whole back_is rests
    (λ stated stated_is others. (no_longer_stated is.version).same named.back stated rest other_rest named.back_is stated_is others))

-- so the text itself is of the form, and no longer one
no_more : (text more : List ℕ) → text ≡ text ++ more → more ≡ []
no_more text [] same = refl
no_more text (b ∷ more) same =
    let sizes : length text ≡ length (text ++ b ∷ more) = ap length same in
    let parts = length-append text (b ∷ more) in
    absurd (omega arith)

has_form : (text : List ℕ) → Whole text → (file : AutomatonFile) × HasForm text file
has_form text whole =
    let beyond : IsFaultAt Whole (text ++ 0 ∷ []) (0 ∷ []) = record {
      front = text;
      cut = refl;
      viable = record { more = []; member = subst Whole (sym (append_none text)) whole };
      fault = λ other longer.
          let wrong = no_more text (0 ∷ other) (wholes_same text (text ++ 0 ∷ other) (0 ∷ other) [] whole longer (sym (append_none (text ++ 0 ∷ other)))) in cc;
    } in
    let (within, fault) = syntax_fault (text ++ 0 ∷ []) (0 ∷ []) beyond in
    let sizes = length-append text (0 ∷ []) in
    let place : length (text ++ 0 ∷ []) - 1 ≡ length text = omega arith in
    let front : take (length (text ++ 0 ∷ []) - 1) (text ++ 0 ∷ []) ≡ text = ap (λ n. take n (text ++ 0 ∷ [])) place ∙ take_at text (0 ∷ []) (length text) refl in
    let viable : IsViable text = subst IsViable front fault.viable in
    let same = wholes_same text (text ++ viable.more) viable.more [] whole (parts_of (text ++ viable.more) viable.file viable.form) (sym (append_none (text ++ viable.more))) in
    (viable.file, subst (λ (t : List ℕ). HasForm t viable.file) (sym same) viable.form)

form_by : (text : List ℕ) → Verdict Whole text → ((at : ℕ) × IsSyntaxFault text at) ⊎ ((file : AutomatonFile) × HasForm text file)
form_by text (Spelled is) = inr (has_form text is)
form_by text (Faulty left fault) = inl (length text - length left, (syntax_fault text left fault).1)

-- each text is of the form, or has a syntax fault
pub some_form : FormOrFault
some_form text = form_by text (verdict_whole text)
