-- What is at the front of any text: a unit, or the place where the text is stuck in the form. So each text has a fault, or is read.
--     reads_..            the same of each part
use Rattle.std.proofs.Common.{◌≡◌, ℕ, zero, suc, ◌-◌, ◌<◌, Bool, true, false, ◌⊎◌, inl, inr, List, [], ◌∷◌, ◌++◌, length, Option, Some, None, refl, sym, ap, ◌∙◌, subst, arith}
use Rattle.std.specs.Prelude.{codes, IsTrue, nat_lt}
use Rattle.std.specs.Fmt.{decimal}
use Rattle.std.specs.List.{list_all}
use Rattle.std.proofs.lemmas.List.{append_assoc}
use Rattle.dcv_tokens.specs.Tokens.{is_word_byte}
use Rattle.dcv_automaton_lines.specs.Pieces.{Exactly, Nothing, Followed, Either, IsStuckIn, IsFaultAt}
use Rattle.dcv_automaton_lines.specs.Parts.{NumberWord}
use Rattle.dcv_automaton_lines.specs.Stops.{IsNumberEnd}
use Rattle.dcv_automaton_lines.proofs.Pieces.{append_none, stuck_is_fault}
use Rattle.dcv_automaton_lines.proofs.LineSets.{Some as Inhabited}
use Rattle.dcv_automaton_lines.proofs.ReadWords.{Reads, Ended, StuckAt, reads_after, reads_either, reads_exactly, reads_number}
use Rattle.dcv_observer.specs.Subsets.{first_broken}
use Rattle.dcv_observer.specs.declared.fault.ObsFault.{ObsFault}
use Rattle.dcv_observer.specs.declared.fault.ObsFault.TheVariants.{Syntax, Names}
use Rattle.dcv_c_tables.specs.Unit.{Tables}
use Rattle.dcv_c_tables.specs.Layout.{text_in, type_of, reset_lines, char_type, variable_head, high_head, low_head, row_head, accept_head}
use Rattle.dcv_tables_read.specs.Form.{HasForm, Form}
use Rattle.dcv_tables_read.specs.Reading.{words_of, judged, HasFault, IsReadAs}
use Rattle.dcv_tables_read.specs.Laws.{SomeReading}
use Rattle.dcv_tables_read.specs.declared.entries.Entry.{Entry}
use Rattle.dcv_tables_read.specs.declared.entries.Entry.TheVariants.{Number, Answer}
use Rattle.dcv_tables_read.specs.Parts.{Spellings, Then, IsUnique, ended, Counted, CountSet, CountsSet, EntrySet, LineSet, LinesOf, lines_text, ArraySet, NodesSet, StatesSet, StopsNames, NameSet, NamesOf, after_name, names_text, parameters_text, ParametersSet, body_text, StepSet, integer_of}
use Rattle.dcv_tables_read.proofs.Chain.{leads_next, stuck_first, stuck_otherwise, lead_first, lead_next, tail_first, tail_next}
use Rattle.dcv_tables_read.proofs.Numbers.{counted_stuck, zero_is, unique_count, counts_end, AllCounts, counts_whole, counts_stuck, some_last, some_later, unique_counts}
use Rattle.dcv_tables_read.proofs.LineLists.{some_entry, led, line_is, unique_led, unique_line, some_lines, unique_lines, lines_from, lines_stuck, one_is, nil_is, answer_stuck}
use Rattle.dcv_tables_read.proofs.NameLists.{IsAfterWord, stuck_at_once, name_end_stuck, stops, unique_next, some_names, names_from, names_stuck}
use Rattle.dcv_tables_read.proofs.ArrayTexts.{opening_text, closing_text, zeros, zeros_are, some_array, closed, unique_array, three_from, three_stuck, some_highs, none_is, both_from, both_stuck, unique_nodes, unique_states}
use Rattle.dcv_tables_read.proofs.StepTexts.{int_v, ps, ps_are, unique_parameters, in_void, led_is}
use Rattle.dcv_tables_read.proofs.WholeTexts.{unit_from, unit_stuck, some_step, some_after_nodes, some_after_counts, more_is_fault, syntax_fault}
use Rattle.dcv_tables_read.proofs.JudgedWords.{unbroken_is_kept}
use Rattle.dcv_tables_read.proofs.WholeLemmas.{many_words}

-- ---- parts of parts

reads_by : {P : List ℕ → Type 0} {Q : List ℕ → Type 0} {text : List ℕ} → ((text : List ℕ) → Q text → P text) → ((left : List ℕ) → IsStuckIn Q text left → IsStuckIn P text left)
    → Reads Q text → Reads P text
reads_by from within (Ended front back is same) = Ended front back (from front is) same
reads_by from within (StuckAt left stuck) = StuckAt left (within left stuck)

module _ {X : Type 0} {valid : X → Type 0} (spelled : X → List ℕ) where
  reads_then : {Q : X → List ℕ → Type 0} {text : List ℕ} → IsUnique valid spelled → ((x : X) → valid x → Inhabited (Q x)) → Reads (Spellings valid spelled) text
      → ((x : X) (rest : List ℕ) → Reads (Q x) rest) → Reads (Then valid spelled Q) text
  reads_then unique some (Ended front back is same) next =
      reads_after (leads_next unique is.item is.valid_item) (same ∙ ap (λ f. f ++ back) is.is) (next is.item back)
  reads_then unique some (StuckAt left stuck) next = StuckAt left (stuck_first some stuck)

  reads_otherwise : {other : X → List ℕ} {text : List ℕ} → ((x : X) → valid x → spelled x ≡ other x) → Reads (Spellings valid spelled) text → Reads (Spellings valid other) text
  reads_otherwise same read =
      reads_by (λ text is. record { item = is.item; valid_item = is.valid_item; is = is.is ∙ same is.item is.valid_item }) (λ left stuck. stuck_otherwise same stuck) read

  -- after a word
  led_by : (word : List ℕ) {text rest : List ℕ} → text ≡ word ++ rest → Reads (Spellings valid spelled) rest → Reads (Spellings valid (λ x. word ++ spelled x)) text
  led_by word whole (Ended front back is same) =
      Ended (word ++ front) back (record { item = is.item; valid_item = is.valid_item; is = ap (λ t. word ++ t) is.is })
      (whole ∙ ap (λ t. word ++ t) same ∙ sym (append_assoc word front back))
  led_by word whole (StuckAt left stuck) = StuckAt left (lead_next spelled word whole stuck)

  word_by : (word : List ℕ) (x : X) → valid x → {text : List ℕ} → ((rest : List ℕ) → Reads (Spellings valid spelled) rest) → Reads (Exactly word) text
      → Reads (Spellings valid (λ x. word ++ spelled x)) text
  word_by word x x_is next (Ended front back is same) = led_by word (same ∙ ap (λ f. f ++ back) is.is) (next back)
  word_by word x x_is next (StuckAt left stuck) = StuckAt left (lead_first spelled word x x_is stuck)

  reads_lead : (word : List ℕ) (x : X) → valid x → ((rest : List ℕ) → Reads (Spellings valid spelled) rest) → (text : List ℕ) → Reads (Spellings valid (λ x. word ++ spelled x)) text
  reads_lead word x x_is next text = word_by word x x_is next (reads_exactly word text)

  -- before a word
  tail_by : (tail : X → List ℕ) → IsUnique valid spelled → (x : X) → valid x → {text rest : List ℕ} → text ≡ spelled x ++ rest → Reads (Exactly (tail x)) rest
      → Reads (Spellings valid (λ x. spelled x ++ tail x)) text
  tail_by tail unique x x_is whole (Ended front back is same) =
      Ended (spelled x ++ front) back (record { item = x; valid_item = x_is; is = ap (λ t. spelled x ++ t) is.is })
      (whole ∙ ap (λ t. spelled x ++ t) same ∙ sym (append_assoc (spelled x) front back))
  tail_by tail unique x x_is whole (StuckAt left stuck) = StuckAt left (tail_next spelled tail unique x x_is whole stuck)

  reads_tail : (tail : X → List ℕ) → IsUnique valid spelled → {text : List ℕ} → Reads (Spellings valid spelled) text → Reads (Spellings valid (λ x. spelled x ++ tail x)) text
  reads_tail tail unique (Ended front back is same) =
      tail_by tail unique is.item is.valid_item (same ∙ ap (λ f. f ++ back) is.is) (reads_exactly (tail is.item) back)
  reads_tail tail unique (StuckAt left stuck) = StuckAt left (tail_first spelled tail stuck)

-- ---- the counts line

counted_from : (end : ℕ) (text : List ℕ) → Followed NumberWord end Nothing text → Counted end text
counted_from end text is =
    record {
      item = is.word_is.number;
      valid_item = is.word_is.small;
      is = is.whole ∙ ap (λ word. word ++ end ∷ is.back) is.word_is.is ∙ ap (λ back. decimal is.word_is.number ++ end ∷ back) is.back_is.is;
    }

reads_counted : (end : ℕ) → IsNumberEnd end → (text : List ℕ) → Reads (Counted end) text
reads_counted end is_end text = reads_by (counted_from end) (λ left stuck. counted_stuck end stuck) (reads_number end is_end text)

reads_count : (lead : List ℕ) (end : ℕ) → IsNumberEnd end → (text : List ℕ) → Reads (CountSet lead end) text
reads_count lead end is_end text = reads_lead (ended end) lead 0 zero_is (reads_counted end is_end) text

counts_from : (text : List ℕ) → AllCounts text → CountsSet text
counts_from text is =
    let nodes = is.back_is in
    let variables = nodes.back_is in
    record {
      item = record { states = is.item; nodes = nodes.item; variables = variables.item };
      valid_item = record { states = is.valid_item; nodes = nodes.valid_item; variables = variables.valid_item };
      is = counts_whole is.item nodes.item variables.item text is.back nodes.back variables.back [] is.whole nodes.whole variables.whole
          (variables.back_is.is ∙ sym (append_none counts_end)) ∙ append_none _;
    }

reads_counts : (text : List ℕ) → Reads CountsSet text
reads_counts text =
    reads_by counts_from (λ left stuck. counts_stuck stuck)
    (reads_then _ (unique_count (codes "enum { states = ") 44 refl) (λ _ _. some_later) (reads_count (codes "enum { states = ") 44 refl text)
    (λ _ one. reads_then _ (unique_count (codes " nodes = ") 44 refl) (λ _ _. some_last) (reads_count (codes " nodes = ") 44 refl one)
    (λ _ two. reads_then _ (unique_count (codes " variables = ") 32 refl) (λ _ _. record { text = counts_end; is = record { is = refl } }) (reads_count (codes " variables = ") 32 refl two)
    (λ _ three. reads_exactly counts_end three))))

-- ---- arrays

answer_from : (text : List ℕ) → Either (Exactly (codes "0,")) (Exactly (codes "1,")) text → EntrySet Answer text
answer_from text is = elim is.which [
  | inl none ↦ record { item = 0; valid_item = omega arith; is = none.is ∙ ap (λ d. d ++ 44 ∷ []) (sym nil_is) }
  | inr one ↦ record { item = 1; valid_item = omega arith; is = one.is ∙ ap (λ d. d ++ 44 ∷ []) (sym one_is) }
]

reads_entry : (entry : Entry) (text : List ℕ) → Reads (EntrySet entry) text
reads_entry Number text = reads_counted 44 refl text
reads_entry Answer text = reads_by answer_from (λ left stuck. answer_stuck stuck) (reads_either text (reads_exactly (codes "0,") text) (reads_exactly (codes "1,") text))

reads_line : (entry : Entry) (text : List ℕ) → Reads (LineSet entry) text
reads_line entry text =
    reads_otherwise _ (λ number _. line_is number)
    (reads_tail led (λ _. codes "\n") (unique_led entry) (reads_lead (ended 44) (codes "  ") 0 (some_entry entry) (reads_entry entry) text))

reads_lines : (entry : Entry) (count : ℕ) (text : List ℕ) → Reads (LinesOf entry count) text
reads_lines entry zero text = Ended [] text (record { is = refl }) refl
reads_lines entry (suc count) text =
    reads_then _ (unique_line entry) (λ _ _. some_lines entry count) (reads_line entry text) (λ _ rest. reads_lines entry count rest)

reads_array : (entry : Entry) (integer head : List ℕ) (count : ℕ) (text : List ℕ) → Reads (ArraySet entry integer head count) text
reads_array entry integer head count text =
    reads_lead closed (opening_text integer head) (zeros count) (zeros_are entry count)
    (λ opened. reads_tail lines_text (λ _. closing_text) (unique_lines entry count)
    (reads_by (lines_from entry count) (λ left stuck. lines_stuck entry count stuck) (reads_lines entry count opened)))
    text

reads_nodes : (integer : List ℕ) (count : ℕ) (text : List ℕ) → Reads (NodesSet integer count) text
reads_nodes integer zero text = Ended [] text (record { item = []; valid_item = none_is; is = refl }) refl
reads_nodes integer (suc count) text =
    let some : 0 < suc count = omega arith in
    reads_by (three_from integer (suc count) some) (λ left stuck. three_stuck integer (suc count) some stuck)
    (reads_then _ (unique_array Number char_type variable_head (suc count)) (λ _ _. some_highs integer (suc count) some) (reads_array Number char_type variable_head (suc count) text)
    (λ _ one. reads_then _ (unique_array Number integer high_head (suc count)) (λ _ _. some_array Number integer low_head (suc count)) (reads_array Number integer high_head (suc count) one)
    (λ _ two. reads_array Number integer low_head (suc count) two)))

reads_states : (integer : List ℕ) (count : ℕ) (text : List ℕ) → Reads (StatesSet integer count) text
reads_states integer count text =
    reads_by (both_from integer count) (λ left stuck. both_stuck integer count stuck)
    (reads_then _ (unique_array Number integer row_head count) (λ _ _. some_array Answer char_type accept_head count) (reads_array Number integer row_head count text)
    (λ _ one. reads_array Answer char_type accept_head count one))

-- ---- names

-- the letters, digits and underscores at the front, and the text after them
record NameCut (text : List ℕ) : Type 0 where
  name : List ℕ
  rest : List ℕ
  bytes : IsTrue (list_all is_word_byte name)
  after : IsAfterWord rest
  whole : text ≡ name ++ rest

cut_name : (text : List ℕ) → NameCut text
cut_name [] = record { name = []; rest = []; bytes = refl; after = tt; whole = refl }
cut_name (b ∷ text) = by (is_word_byte b) refl (cut_name text)
  where
    by : (passed : Bool) → is_word_byte b ≡ passed → NameCut text → NameCut (b ∷ text)
    by true is cut = record { name = b ∷ cut.name; rest = cut.rest; bytes = rw (is, cut.bytes) refl; after = cut.after; whole = ap (λ t. b ∷ t) cut.whole }
    by false is cut = record { name = []; rest = b ∷ text; bytes = refl; after = is; whole = refl }

name_by : (behind : List ℕ) → StopsNames behind → (text name rest : List ℕ) → IsTrue (list_all is_word_byte name) → IsAfterWord rest → text ≡ name ++ rest → Reads (Exactly behind) rest
    → Reads (NameSet behind) text
name_by behind ends text [] rest bytes after whole read = StuckAt rest (subst (λ (text : List ℕ). IsStuckIn (NameSet behind) text rest) (sym whole) (stuck_at_once behind rest after))
name_by behind ends text (b ∷ name) rest bytes after whole (Ended front back is same) =
    Ended ((b ∷ name) ++ front) back (record { item = b ∷ name; valid_item = record { some = omega arith; bytes = bytes }; is = ap (λ t. (b ∷ name) ++ t) is.is })
    (whole ∙ ap (λ t. (b ∷ name) ++ t) same ∙ sym (append_assoc (b ∷ name) front back))
name_by behind ends text (b ∷ name) rest bytes after whole (StuckAt left stuck) =
    StuckAt left (name_end_stuck behind (b ∷ name) rest left text ends (record { some = omega arith; bytes = bytes }) after whole stuck)

reads_name : (behind : List ℕ) → StopsNames behind → (text : List ℕ) → Reads (NameSet behind) text
reads_name behind ends text = let cut = cut_name text in name_by behind ends text cut.name cut.rest cut.bytes cut.after cut.whole (reads_exactly behind cut.rest)

reads_names : (count : ℕ) (text : List ℕ) → Reads (NamesOf count) text
reads_names zero text = Ended [] text (record { is = refl }) refl
reads_names (suc count) text =
    reads_then _ (unique_next count) (λ _ _. some_names count) (reads_name (after_name count) (stops count) text) (λ _ rest. reads_names count rest)

-- ---- functions

reads_parameters : (count : ℕ) (text : List ℕ) → Reads (ParametersSet count) text
reads_parameters zero text =
    reads_by (λ text is. record { item = []; valid_item = ps_are 0; is = is.is }) (λ left stuck. in_void 0 refl stuck) (reads_exactly (codes "void)\n{\n") text)
reads_parameters (suc count) text =
    reads_otherwise _ (led_is (suc count) (omega arith))
    (reads_lead names_text int_v (ps (suc count)) (ps_are (suc count))
    (λ first. reads_by (names_from (suc count)) (λ left stuck. names_stuck (suc count) stuck) (reads_names (suc count) first)) text)

reads_step : (integer : List ℕ) (some : Bool) (count : ℕ) (text : List ℕ) → Reads (StepSet integer some count) text
reads_step integer some count text =
    reads_lead (λ names. parameters_text names ++ body_text integer some names) (text_in (reset_lines integer)) (ps count) (ps_are count)
    (λ begun. reads_tail parameters_text (body_text integer some) (unique_parameters count) (reads_parameters count begun)) text

-- ---- the whole

reads_form : (text : List ℕ) → Reads Form text
reads_form text =
    reads_by unit_from (λ left stuck. unit_stuck stuck)
    (reads_then _ unique_counts (λ counts _. some_after_counts counts) (reads_counts text)
    (λ counts arrays. reads_then _ (unique_nodes (integer_of counts) counts.nodes) (λ _ _. some_after_nodes counts) (reads_nodes (integer_of counts) counts.nodes arrays)
    (λ _ behind. reads_then _ (unique_states (integer_of counts) counts.states) (λ _ _. some_step counts) (reads_states (integer_of counts) counts.states behind)
    (λ _ functions. reads_step (integer_of counts) (nat_lt 0 counts.nodes) counts.variables functions))))

abbrev Outcome : List ℕ → Type 0
Outcome text = ((fault : ObsFault) × HasFault text fault) ⊎ ((tables : Tables) × IsReadAs text tables)

stuck_at : (text left : List ℕ) → IsFaultAt Form text left → Outcome text
stuck_at text left fault = let at = length text - length left in inl (Syntax at, syntax_fault text left at fault refl)

judged_by : (text : List ℕ) (tables : Tables) → HasForm text tables → (broken : Option ℕ) → first_broken (words_of tables) (judged tables) ≡ broken → Outcome text
judged_by text tables form (Some at) is = inl (Names at, (tables, form, is))
judged_by text tables form None is =
    inr (tables, record { form = form; keeps = unbroken_is_kept (words_of tables) (judged tables) (many_words tables (type_of tables) refl) is })

ended_by : (text front back : List ℕ) (tables : Tables) → HasForm front tables → text ≡ front ++ back → Outcome text
ended_by text front [] tables form same =
    judged_by text tables (record { plain = form.plain; spelled = same ∙ append_none front ∙ form.spelled }) (first_broken (words_of tables) (judged tables)) refl
ended_by text front (b ∷ back) tables form same =
    stuck_at text (b ∷ back) (more_is_fault tables text (b ∷ back) form.plain (same ∙ ap (λ f. f ++ b ∷ back) form.spelled) (λ none. cc))

read_by : (text : List ℕ) → Reads Form text → Outcome text
read_by text (Ended front back is same) = ended_by text front back is.0 is.1 same
read_by text (StuckAt left stuck) = stuck_at text left (stuck_is_fault stuck)

pub some_reading : SomeReading
some_reading text = read_by text (reads_form text)
