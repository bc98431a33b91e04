-- Where a text is stuck in the counts line, or in a line of an array.
use Rattle.std.proofs.Common.{◌≡◌, ℕ, List, [], ◌∷◌, ◌++◌, refl, sym, ap, ◌∙◌, arith}
use Rattle.std.specs.Prelude.{codes}
use Rattle.std.specs.Char.{is_ascii_digit}
use Rattle.std.specs.Fmt.{decimal}
use Rattle.std.proofs.lemmas.Fmt.{decimal_injective}
use Rattle.std.proofs.lemmas.List.{append_assoc}
use Rattle.dcv_automaton_text.specs.Form.{IsNumber}
use Rattle.dcv_automaton_text.proofs.Words.{digits_are}
use Rattle.dcv_automaton_lines.specs.Pieces.{Exactly, Nothing, Followed, IsStuckIn}
use Rattle.dcv_automaton_lines.specs.Parts.{NumberWord}
use Rattle.dcv_automaton_lines.specs.Stops.{IsNumberEnd}
use Rattle.dcv_automaton_lines.proofs.Pieces.{cut_by}
use Rattle.dcv_automaton_lines.proofs.LineSets.{Some}
use Rattle.dcv_tables_read.specs.Parts.{Then, IsUnique, ended, Counted, count_text, CountSet, CountsValue, AreCounts, counts_text, CountsSet}
use Rattle.dcv_tables_read.proofs.Chain.{same_behind, stuck_same, stuck_first, stuck_next, some_then, lead_first, lead_next, unique_lead}

-- ---- a number and its end

pub counted_stuck : (end : ℕ) {text left : List ℕ} → IsStuckIn (Followed NumberWord end Nothing) text left → IsStuckIn (Counted end) text left
counted_stuck end stuck =
    stuck_same
    (λ text is. record {
      item = is.word_is.number;
      valid_item = is.word_is.small;
      is = is.whole ∙ ap (λ word. word ++ end ∷ is.back) is.word_is.is ∙ ap (λ back. decimal is.word_is.number ++ end ∷ back) is.back_is.is;
    })
    (λ text is. record {
      word = decimal is.item;
      back = [];
      word_is = record { number = is.item; small = is.valid_item; is = refl };
      back_is = record { is = refl };
      whole = is.is;
    })
    stuck

pub unique_ended : (end : ℕ) → IsNumberEnd end → IsUnique IsNumber (ended end)
unique_ended end no_digit x y a b x_is y_is same =
    let read = cut_by is_ascii_digit (decimal x) (decimal y) a b end end (digits_are x x_is) (digits_are y y_is) no_digit no_digit
    (sym (append_assoc (decimal x) (end ∷ []) a) ∙ same ∙ append_assoc (decimal y) (end ∷ []) b) in
    decimal_injective x y (omega arith) (omega arith) read.same

-- ---- counts

pub zero_is : IsNumber 0
zero_is = omega arith

pub lead_stuck : (lead : List ℕ) (end : ℕ) {text left : List ℕ} → IsStuckIn (Exactly lead) text left → IsStuckIn (CountSet lead end) text left
lead_stuck lead end stuck = lead_first (ended end) lead 0 zero_is stuck

pub number_stuck : (lead : List ℕ) (end : ℕ) {text rest left : List ℕ} → text ≡ lead ++ rest → IsStuckIn (Followed NumberWord end Nothing) rest left
    → IsStuckIn (CountSet lead end) text left
number_stuck lead end whole stuck = lead_next (ended end) lead whole (counted_stuck end stuck)

pub unique_count : (lead : List ℕ) (end : ℕ) → IsNumberEnd end → IsUnique IsNumber (count_text lead end)
unique_count lead end no_digit = unique_lead (ended end) lead (unique_ended end no_digit)

abbrev states_count : ℕ → List ℕ
states_count = count_text (codes "enum { states = ") 44

abbrev nodes_count : ℕ → List ℕ
nodes_count = count_text (codes " nodes = ") 44

abbrev variables_count : ℕ → List ℕ
variables_count = count_text (codes " variables = ") 32

abbrev pub counts_end : List ℕ
counts_end = codes "};\n\n"

abbrev pub LastCount : List ℕ → Type 0
LastCount = Then IsNumber variables_count (λ _. Exactly counts_end)

abbrev pub LaterCounts : List ℕ → Type 0
LaterCounts = Then IsNumber nodes_count (λ _. LastCount)

abbrev pub AllCounts : List ℕ → Type 0
AllCounts = Then IsNumber states_count (λ _. LaterCounts)

one_count : (lead rest : List ℕ) (end number : ℕ) → count_text lead end number ++ rest ≡ lead ++ (decimal number ++ end ∷ rest)
one_count lead rest end number = append_assoc lead (ended end number) rest ∙ ap (λ t. lead ++ t) (append_assoc (decimal number) (end ∷ []) rest)

pub counts_are : (states nodes variables : ℕ) → states_count states ++ (nodes_count nodes ++ (variables_count variables ++ counts_end))
    ≡ counts_text (record { states = states; nodes = nodes; variables = variables })
counts_are states nodes variables =
    one_count (codes "enum { states = ") (nodes_count nodes ++ (variables_count variables ++ counts_end)) 44 states
    ∙ ap (λ t. codes "enum { states = " ++ (decimal states ++ 44 ∷ t))
    (one_count (codes " nodes = ") (variables_count variables ++ counts_end) 44 nodes
    ∙ ap (λ t. codes " nodes = " ++ (decimal nodes ++ 44 ∷ t)) (one_count (codes " variables = ") counts_end 32 variables))

pub counts_whole : (states nodes variables : ℕ) (text one two three rest : List ℕ) → text ≡ states_count states ++ one → one ≡ nodes_count nodes ++ two
    → two ≡ variables_count variables ++ three → three ≡ counts_end ++ rest
    → text ≡ counts_text (record { states = states; nodes = nodes; variables = variables }) ++ rest
counts_whole states nodes variables text one two three rest a b c d =
    a ∙ ap (λ t. states_count states ++ t) (b ∙ ap (λ t. nodes_count nodes ++ t) (c ∙ ap (λ t. variables_count variables ++ t) d
    ∙ sym (append_assoc (variables_count variables) counts_end rest)) ∙ sym (append_assoc (nodes_count nodes) (variables_count variables ++ counts_end) rest))
    ∙ sym (append_assoc (states_count states) (nodes_count nodes ++ (variables_count variables ++ counts_end)) rest)
    ∙ ap (λ t. t ++ rest) (counts_are states nodes variables)

pub counts_stuck : {text left : List ℕ} → IsStuckIn AllCounts text left → IsStuckIn CountsSet text left
counts_stuck stuck =
    stuck_same
    (λ text is.
    let nodes = is.back_is in
    let variables = nodes.back_is in
    record {
      item = record { states = is.item; nodes = nodes.item; variables = variables.item };
      valid_item = record { states = is.valid_item; nodes = nodes.valid_item; variables = variables.valid_item };
      is = is.whole ∙ ap (λ t. states_count is.item ++ t) (nodes.whole ∙ ap (λ t. nodes_count nodes.item ++ t)
          (variables.whole ∙ ap (λ t. variables_count variables.item ++ t) variables.back_is.is)) ∙ counts_are is.item nodes.item variables.item;
    })
    (λ text is.
    let counts = is.item in
    record {
      item = counts.states;
      valid_item = is.valid_item.states;
      back = nodes_count counts.nodes ++ (variables_count counts.variables ++ counts_end);
      back_is = record {
        item = counts.nodes;
        valid_item = is.valid_item.nodes;
        back = variables_count counts.variables ++ counts_end;
        back_is = record { item = counts.variables; valid_item = is.valid_item.variables; back = counts_end; back_is = record { is = refl }; whole = refl };
        whole = refl;
      };
      whole = is.is ∙ sym (counts_are counts.states counts.nodes counts.variables);
    })
    stuck

pub some_last : Some LastCount
some_last = some_then 0 zero_is (record { text = counts_end; is = record { is = refl } })

pub some_later : Some LaterCounts
some_later = some_then 0 zero_is some_last

pub in_states : {text left : List ℕ} → IsStuckIn (CountSet (codes "enum { states = ") 44) text left → IsStuckIn CountsSet text left
in_states stuck = counts_stuck (stuck_first (λ x is. some_later) stuck)

module _ (states : ℕ) (states_is : IsNumber states) {text one : List ℕ} (whole : text ≡ states_count states ++ one) where
  behind_states : {left : List ℕ} → IsStuckIn LaterCounts one left → IsStuckIn CountsSet text left
  behind_states stuck = counts_stuck (stuck_next (unique_count (codes "enum { states = ") 44 refl) states states_is whole stuck)

  pub in_nodes : {left : List ℕ} → IsStuckIn (CountSet (codes " nodes = ") 44) one left → IsStuckIn CountsSet text left
  in_nodes stuck = behind_states (stuck_first (λ x is. some_last) stuck)

  module _ (nodes : ℕ) (nodes_is : IsNumber nodes) {two : List ℕ} (next : one ≡ nodes_count nodes ++ two) where
    behind_nodes : {left : List ℕ} → IsStuckIn LastCount two left → IsStuckIn CountsSet text left
    behind_nodes stuck = behind_states (stuck_next (unique_count (codes " nodes = ") 44 refl) nodes nodes_is next stuck)

    pub in_variables : {left : List ℕ} → IsStuckIn (CountSet (codes " variables = ") 32) two left → IsStuckIn CountsSet text left
    in_variables stuck = behind_nodes (stuck_first (λ x is. record { text = counts_end; is = record { is = refl } }) stuck)

    pub in_end : (variables : ℕ) → IsNumber variables → {three : List ℕ} → two ≡ variables_count variables ++ three → {left : List ℕ} → IsStuckIn (Exactly counts_end) three left → IsStuckIn CountsSet text left
    in_end variables variables_is last stuck = behind_nodes (stuck_next (unique_count (codes " variables = ") 32 refl) variables variables_is last stuck)

abbrev after_nodes : CountsValue → List ℕ → List ℕ
after_nodes counts rest = variables_count counts.variables ++ (counts_end ++ rest)

abbrev after_states : CountsValue → List ℕ → List ℕ
after_states counts rest = nodes_count counts.nodes ++ after_nodes counts rest

opened : (counts : CountsValue) (rest : List ℕ) → states_count counts.states ++ after_states counts rest ≡ counts_text counts ++ rest
opened counts rest = counts_whole counts.states counts.nodes counts.variables _ _ _ _ rest refl refl refl refl

pub unique_counts : IsUnique AreCounts counts_text
unique_counts x y a b x_is y_is spelled =
    let same = opened x a ∙ spelled ∙ sym (opened y b) in
    let states = unique_count (codes "enum { states = ") 44 refl x.states y.states (after_states x a) (after_states y b) x_is.states y_is.states same in
    let behind = same_behind (states_count x.states) (states_count y.states) (ap states_count states) same in
    let nodes = unique_count (codes " nodes = ") 44 refl x.nodes y.nodes (after_nodes x a) (after_nodes y b) x_is.nodes y_is.nodes behind in
    let last = same_behind (nodes_count x.nodes) (nodes_count y.nodes) (ap nodes_count nodes) behind in
    let variables = unique_count (codes " variables = ") 32 refl x.variables y.variables (counts_end ++ a) (counts_end ++ b) x_is.variables y_is.variables last in
    λ i. record { states = states i; nodes = nodes i; variables = variables i }
