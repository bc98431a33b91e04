-- Where a text of several parts is stuck: in a part, or after it.
use Rattle.std.proofs.Common.{◌≡◌, ℕ, List, [], ◌∷◌, ◌++◌, Result, Ok, Err, refl, sym, ap, ◌∙◌, subst}
use Rattle.std.specs.Result.{IsErrAnd}
use Rattle.std.proofs.lemmas.List.{append_assoc}
use Rattle.dcv_automaton_lines.specs.Pieces.{Exactly, IsNoFurther, IsStuckIn}
use Rattle.dcv_automaton_lines.specs.Stops.{IsStuckBy, IsStuckStop}
use Rattle.dcv_automaton_lines.specs.declared.stop.Stuck.{Stuck}
use Rattle.dcv_automaton_lines.specs.declared.stop.Stop.{Stop}
use Rattle.dcv_automaton_lines.specs.declared.stop.Stop.TheVariants.{Syntax, Memory}
use Rattle.dcv_automaton_lines.proofs.Pieces.{same_front, Leads, stuck_after}
use Rattle.dcv_automaton_lines.proofs.WordSets.{leads_same}
use Rattle.dcv_automaton_lines.proofs.LineSets.{Some}
use Rattle.dcv_tables_read.specs.Parts.{Spellings, Then, After, IsUnique}

pub same_behind : (front other : List ℕ) {a b : List ℕ} → front ≡ other → front ++ a ≡ other ++ b → a ≡ b
same_behind front other {a = a} {b = b} fronts same = same_front other a b (sym (ap (λ f. f ++ a) fronts) ∙ same)

-- ---- sets with the same texts

pub stuck_same : {P : List ℕ → Type 0} {Q : List ℕ → Type 0} {text left : List ℕ} → ((text : List ℕ) → Q text → P text) → ((text : List ℕ) → P text → Q text)
    → IsStuckIn Q text left → IsStuckIn P text left
stuck_same into from stuck = stuck_after (leads_same into from) refl stuck

-- ---- within the first part

-- each text of the set begins with one of the other, and each of these begins one of the set
pub record Opens (P W : List ℕ → Type 0) : Type 0 where
  pub front : (text : List ℕ) → W text → (word : List ℕ) × (back : List ℕ) × (P word × (text ≡ word ++ back))
  pub whole : (word : List ℕ) → P word → (back : List ℕ) × W (word ++ back)

module _ {P : List ℕ → Type 0} {W : List ℕ → Type 0} (opens : Opens P W) where
  no_further_within : (front left : List ℕ) → IsNoFurther P front left → IsNoFurther W front left
  no_further_within front [] none = λ text more is same.
      let (word, back, (word_is, whole)) = opens.front text is in
      none word (back ++ more) word_is (sym (append_assoc word back more) ∙ ap (λ t. t ++ more) (sym whole) ∙ same)
  no_further_within front (b ∷ left) none = λ text more other is same.
      let (word, back, (word_is, whole)) = opens.front text is in
      none word (back ++ more) other word_is (sym (append_assoc word back more) ∙ ap (λ t. t ++ more) (sym whole) ∙ same)

  pub stuck_within : {text left : List ℕ} → IsStuckIn P text left → IsStuckIn W text left
  stuck_within {left = left} stuck =
      let (back, is) = opens.whole (stuck.front ++ stuck.viable.more) stuck.viable.member in
      record {
        front = stuck.front;
        cut = stuck.cut;
        viable = record { more = stuck.viable.more ++ back; member = subst W (append_assoc stuck.front stuck.viable.more back) is };
        stuck = no_further_within stuck.front left stuck.stuck;
      }

module _ {X : Type 0} {valid : X → Type 0} {spelled : X → List ℕ} {Q : X → List ℕ → Type 0} where
  pub stuck_first : {text left : List ℕ} → ((x : X) → valid x → Some (Q x)) → IsStuckIn (Spellings valid spelled) text left → IsStuckIn (Then valid spelled Q) text left
  stuck_first some stuck =
      stuck_within
      (record {
        front = λ text is. (spelled is.item, is.back, (record { item = is.item; valid_item = is.valid_item; is = refl }, is.whole));
        whole = λ word is.
            let next = some is.item is.valid_item in
            (next.text, record { item = is.item; valid_item = is.valid_item; back = next.text; back_is = next.is; whole = ap (λ w. w ++ next.text) is.is });
      })
      stuck

  pub leads_next : IsUnique valid spelled → (x : X) → valid x → Leads (Then valid spelled Q) (spelled x) (Q x)
  leads_next unique x is =
      record {
        into = λ rest back_is. record { item = x; valid_item = is; back = rest; back_is = back_is; whole = refl };
        from = λ text more rest parts same.
            let one = unique parts.item x (parts.back ++ more) rest parts.valid_item is
            (sym (append_assoc (spelled parts.item) parts.back more) ∙ ap (λ t. t ++ more) (sym parts.whole) ∙ same) in
            (parts.back, (subst (λ (x : X). Q x parts.back) one parts.back_is, parts.whole ∙ ap (λ x. spelled x ++ parts.back) one));
      }

  pub stuck_next : {text rest left : List ℕ} → IsUnique valid spelled → (x : X) → valid x → text ≡ spelled x ++ rest → IsStuckIn (Q x) rest left
      → IsStuckIn (Then valid spelled Q) text left
  stuck_next unique x is whole stuck = stuck_after (leads_next unique x is) whole stuck

  pub some_then : (x : X) → valid x → Some (Q x) → Some (Then valid spelled Q)
  some_then x is next = record { text = spelled x ++ next.text; is = record { item = x; valid_item = is; back = next.text; back_is = next.is; whole = refl } }

-- ---- after a word

module _ {word : List ℕ} {Q : List ℕ → Type 0} where
  pub stuck_word : {text left : List ℕ} → Some Q → IsStuckIn (Exactly word) text left → IsStuckIn (After word Q) text left
  stuck_word some stuck =
      stuck_within
      (record {
        front = λ text is. (word, is.back, (record { is = refl }, is.whole));
        whole = λ other is. (some.text, record { back = some.text; back_is = some.is; whole = ap (λ w. w ++ some.text) is.is });
      })
      stuck

  pub stuck_behind : {text rest left : List ℕ} → text ≡ word ++ rest → IsStuckIn Q rest left → IsStuckIn (After word Q) text left
  stuck_behind whole stuck =
      stuck_after
      (record {
        into = λ rest is. record { back = rest; back_is = is; whole = refl };
        from = λ text more rest is same. (is.back, (is.back_is, is.whole));
      })
      whole stuck

-- one word of two parts
pub split_word : (one other text : List ℕ) → After one (Exactly other) text → Exactly (one ++ other) text
split_word one other text is = record { is = is.whole ∙ ap (λ back. one ++ back) is.back_is.is }

pub join_word : (one other text : List ℕ) → Exactly (one ++ other) text → After one (Exactly other) text
join_word one other text is = record { back = other; back_is = record { is = refl }; whole = is.is }

pub stuck_in_front : (one other : List ℕ) {text left : List ℕ} → IsStuckIn (Exactly one) text left → IsStuckIn (Exactly (one ++ other)) text left
stuck_in_front one other stuck = stuck_same (split_word one other) (join_word one other) (stuck_word (record { text = other; is = record { is = refl } }) stuck)

pub stuck_in_back : (one other : List ℕ) {text rest left : List ℕ} → text ≡ one ++ rest → IsStuckIn (Exactly other) rest left → IsStuckIn (Exactly (one ++ other)) text left
stuck_in_back one other whole stuck = stuck_same (split_word one other) (join_word one other) (stuck_behind whole stuck)

-- ---- spellings with something before or after them

module _ {X : Type 0} {valid : X → Type 0} {spelled : X → List ℕ} where
  pub some_spelling : (x : X) → valid x → Some (Spellings valid spelled)
  some_spelling x is = record { text = spelled x; is = record { item = x; valid_item = is; is = refl } }

  -- spelled otherwise
  pub stuck_otherwise : {other : X → List ℕ} {text left : List ℕ} → ((x : X) → valid x → spelled x ≡ other x) → IsStuckIn (Spellings valid spelled) text left
      → IsStuckIn (Spellings valid other) text left
  stuck_otherwise same stuck =
      stuck_same
      (λ text is. record { item = is.item; valid_item = is.valid_item; is = is.is ∙ same is.item is.valid_item })
      (λ text is. record { item = is.item; valid_item = is.valid_item; is = is.is ∙ sym (same is.item is.valid_item) })
      stuck

  pub stuck_spelled : {other : X → List ℕ} {text left : List ℕ} → ((x : X) → spelled x ≡ other x) → IsStuckIn (Spellings valid spelled) text left
      → IsStuckIn (Spellings valid other) text left
  stuck_spelled same stuck = stuck_otherwise (λ x _. same x) stuck

  pub unique_same : {other : X → List ℕ} → ((x : X) → spelled x ≡ other x) → IsUnique valid spelled → IsUnique valid other
  unique_same same unique = λ x y a b x_is y_is e. unique x y a b x_is y_is (ap (λ w. w ++ a) (same x) ∙ e ∙ ap (λ w. w ++ b) (sym (same y)))

module _ {X : Type 0} {valid : X → Type 0} (spelled : X → List ℕ) where
  lead_same : (word : List ℕ) {text left : List ℕ} → IsStuckIn (After word (Spellings valid spelled)) text left → IsStuckIn (Spellings valid (λ x. word ++ spelled x)) text left
  lead_same word stuck =
      stuck_same
      (λ text is. record { item = is.back_is.item; valid_item = is.back_is.valid_item; is = is.whole ∙ ap (λ back. word ++ back) is.back_is.is })
      (λ text is. record { back = spelled is.item; back_is = record { item = is.item; valid_item = is.valid_item; is = refl }; whole = is.is })
      stuck

  pub lead_first : (word : List ℕ) (x : X) → valid x → {text left : List ℕ} → IsStuckIn (Exactly word) text left → IsStuckIn (Spellings valid (λ x. word ++ spelled x)) text left
  lead_first word x is stuck = lead_same word (stuck_word (some_spelling x is) stuck)

  pub lead_next : (word : List ℕ) {text rest left : List ℕ} → text ≡ word ++ rest → IsStuckIn (Spellings valid spelled) rest left
      → IsStuckIn (Spellings valid (λ x. word ++ spelled x)) text left
  lead_next word whole stuck = lead_same word (stuck_behind whole stuck)

  tail_same : (tail : X → List ℕ) {text left : List ℕ} → IsStuckIn (Then valid spelled (λ x. Exactly (tail x))) text left → IsStuckIn (Spellings valid (λ x. spelled x ++ tail x)) text left
  tail_same tail stuck =
      stuck_same
      (λ text is. record { item = is.item; valid_item = is.valid_item; is = is.whole ∙ ap (λ back. spelled is.item ++ back) is.back_is.is })
      (λ text is. record { item = is.item; valid_item = is.valid_item; back = tail is.item; back_is = record { is = refl }; whole = is.is })
      stuck

  pub tail_first : (tail : X → List ℕ) {text left : List ℕ} → IsStuckIn (Spellings valid spelled) text left → IsStuckIn (Spellings valid (λ x. spelled x ++ tail x)) text left
  tail_first tail stuck = tail_same tail (stuck_first (λ x is. record { text = tail x; is = record { is = refl } }) stuck)

  pub tail_next : (tail : X → List ℕ) → IsUnique valid spelled → (x : X) → valid x → {text rest left : List ℕ} → text ≡ spelled x ++ rest
      → IsStuckIn (Exactly (tail x)) rest left → IsStuckIn (Spellings valid (λ x. spelled x ++ tail x)) text left
  tail_next tail unique x is whole stuck = tail_same tail (stuck_next unique x is whole stuck)

  pub unique_lead : (word : List ℕ) → IsUnique valid spelled → IsUnique valid (λ x. word ++ spelled x)
  unique_lead word unique = λ x y a b x_is y_is same.
      unique x y a b x_is y_is
      (same_front word (spelled x ++ a) (spelled y ++ b) (sym (append_assoc word (spelled x) a) ∙ same ∙ append_assoc word (spelled y) b))

  pub unique_tail : (tail : X → List ℕ) → IsUnique valid spelled → IsUnique valid (λ x. spelled x ++ tail x)
  unique_tail tail unique = λ x y a b x_is y_is same.
      unique x y (tail x ++ a) (tail y ++ b) x_is y_is (sym (append_assoc (spelled x) (tail x) a) ∙ same ∙ append_assoc (spelled y) (tail y) b)

-- ---- a word in parts, read one after another

-- of the whole this part is left, and this of the text
pub record ReadSoFar (whole text part rest : List ℕ) : Type 0 where
  pub spelled : (behind : List ℕ) → rest ≡ part ++ behind → text ≡ whole ++ behind
  pub fault : (left : List ℕ) → IsStuckIn (Exactly part) rest left → IsStuckIn (Exactly whole) text left

pub none_read : (whole text : List ℕ) → ReadSoFar whole text whole text
none_read whole text = record { spelled = λ behind is. is; fault = λ left stuck. stuck }

module _ {whole text part rest : List ℕ} (so_far : ReadSoFar whole text part rest) (word more : List ℕ) (parts : part ≡ word ++ more) where
  pub part_stuck : {left : List ℕ} → IsStuckIn (Exactly word) rest left → IsStuckIn (Exactly whole) text left
  part_stuck {left = left} stuck =
      so_far.fault left (subst (λ (part : List ℕ). IsStuckIn (Exactly part) rest left) (sym parts) (stuck_in_front word more stuck))

  pub part_read : {behind : List ℕ} → rest ≡ word ++ behind → ReadSoFar whole text more behind
  part_read read =
      record {
        spelled = λ end is. so_far.spelled end (read ∙ ap (λ t. word ++ t) is ∙ sym (append_assoc word more end) ∙ ap (λ t. t ++ end) (sym parts));
        fault = λ left stuck.
            so_far.fault left (subst (λ (part : List ℕ). IsStuckIn (Exactly part) rest left) (sym parts) (stuck_in_back word more read stuck));
      }

pub all_read : {whole text part rest : List ℕ} → ReadSoFar whole text part rest → part ≡ [] → text ≡ whole ++ rest
all_read {rest = rest} so_far none = so_far.spelled rest (ap (λ t. t ++ rest) (sym none))

-- ---- exits

module _ {T : Type 0} (P : List ℕ → Type 0) (text : List ℕ) where
  pub stops : (result : Result T Stop) (stuck : Stuck) → IsErrAnd result (λ e. e ≡ Syntax stuck) → IsStuckIn P text stuck.left.now → IsStuckStop P text result
  stops (Ok read) stuck is here = absurd is
  stops (Err (Syntax other)) stuck is here = subst (λ (e : Stuck). IsStuckIn P text e.left.now) (sym (let same : other ≡ stuck = cc in same)) here
  stops (Err Memory) stuck is here = tt

  pub no_memory : (result : Result T Stop) → IsErrAnd result (λ e. e ≡ Memory) → IsStuckStop P text result
  no_memory (Ok read) is = tt
  no_memory (Err (Syntax other)) is = absurd (let wrong : Syntax other ≡ Memory = is in cc)
  no_memory (Err Memory) is = tt

  pub stop_passes : (Q : List ℕ → Type 0) (rest : List ℕ) (result : Result T Stop) (stop : Stop) → IsErrAnd result (λ e. e ≡ stop)
      → ((left : List ℕ) → IsStuckIn Q rest left → IsStuckIn P text left) → IsStuckBy Q rest stop → IsStuckStop P text result
  stop_passes Q rest result (Syntax stuck) is over here = stops result stuck is (over stuck.left.now here)
  stop_passes Q rest result Memory is over here = no_memory result is
