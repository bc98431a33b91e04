-- Where a text of several words is stuck: in a word, after it, in one of two sets.
use Rattle.std.proofs.Common.{◌≡◌, ℕ, suc, ◌≤◌, Bool, true, false, ◌&&◌, List, [], ◌∷◌, ◌++◌, inl, inr, length, refl, sym, ap, ◌∙◌, subst, arith}
use Rattle.std.specs.List.{list_all}
use Rattle.std.proofs.lemmas.List.{append_assoc, length-append}
use Rattle.dcv_automaton_text.specs.Form.{is_visible}
use Rattle.dcv_automaton_lines.specs.Pieces.{AreVisible, Nothing, Followed, Either, Begins, IsNoFurther, IsStuckIn, IsFrontOnly, IsFaultAt}

-- ---- lists

pub same_front : (front one other : List ℕ) → front ++ one ≡ front ++ other → one ≡ other
same_front [] one other same = same
same_front (x ∷ front) one other same = same_front front one other (let behind : front ++ one ≡ front ++ other = cc in behind)

pub append_none : (xs : List ℕ) → xs ++ [] ≡ xs
append_none [] = refl
append_none (x ∷ xs) = ap (λ rest. x ∷ rest) (append_none xs)

pub both : (a b : Bool) → (a && b) ≡ true → (a ≡ true) × (b ≡ true)
both true b h = (refl, h)
both false b h = absurd cc

-- a word up to a byte that fails a test
pub record IsCut (word other rest other_rest : List ℕ) (end other_end : ℕ) : Type 0 where
  pub same : word ≡ other
  pub ends : end ≡ other_end
  pub rests : rest ≡ other_rest

pub cut_by : (test : ℕ → Bool) (word other rest other_rest : List ℕ) (end other_end : ℕ) → list_all test word ≡ true → list_all test other ≡ true
    → test end ≡ false → test other_end ≡ false → word ++ end ∷ rest ≡ other ++ other_end ∷ other_rest → IsCut word other rest other_rest end other_end
cut_by test [] [] rest other_rest end other_end w o e f same = record { same = refl; ends = cc; rests = cc }
cut_by test [] (b ∷ other) rest other_rest end other_end w o e f same =
    let first : end ≡ b = cc in
    let seen = (both (test b) (list_all test other) o).0 in
    absurd (let wrong : true ≡ false = sym seen ∙ ap test (sym first) ∙ e in cc)
cut_by test (a ∷ word) [] rest other_rest end other_end w o e f same =
    let first : a ≡ other_end = cc in
    let seen = (both (test a) (list_all test word) w).0 in
    absurd (let wrong : true ≡ false = sym seen ∙ ap test first ∙ f in cc)
cut_by test (a ∷ word) (b ∷ other) rest other_rest end other_end w o e f same =
    let first : a ≡ b = cc in
    let behind : word ++ end ∷ rest ≡ other ++ other_end ∷ other_rest = cc in
    let read = cut_by test word other rest other_rest end other_end (both (test a) (list_all test word) w).1
    (both (test b) (list_all test other) o).1 e f behind in
    record { same = λ i. first i ∷ read.same i; ends = read.ends; rests = read.rests }

-- no byte that fails the test stands in a word that keeps it
pub not_within : (test : ℕ → Bool) (front word rest : List ℕ) (end : ℕ) → list_all test front ≡ true → test end ≡ false → word ++ end ∷ rest ≡ front → ⊥
not_within test [] [] rest end h e same = cc
not_within test [] (a ∷ word) rest end h e same = cc
not_within test (b ∷ front) [] rest end h e same =
    let first : end ≡ b = cc in
    let seen = (both (test b) (list_all test front) h).0 in
    let wrong : true ≡ false = sym seen ∙ ap test (sym first) ∙ e in cc
not_within test (b ∷ front) (a ∷ word) rest end h e same =
    not_within test front word rest end (both (test b) (list_all test front) h).1 e (let behind : word ++ end ∷ rest ≡ front = cc in behind)

-- ---- sets after words

pub record HasWords (P : List ℕ → Type 0) : Type 0 where
  pub visible : (word : List ℕ) → P word → AreVisible word

-- what is left of the texts of a set after a front
pub record Leads (P : List ℕ → Type 0) (front : List ℕ) (Q : List ℕ → Type 0) : Type 0 where
  pub into : (rest : List ℕ) → Q rest → P (front ++ rest)
  pub from : (text more rest : List ℕ) → P text → text ++ more ≡ front ++ rest → (back : List ℕ) × (Q back × (text ≡ front ++ back))

-- of the texts of a set none begins another
pub record HasNoLonger (P : List ℕ → Type 0) : Type 0 where
  pub same : (one other rest other_rest : List ℕ) → P one → P other → one ++ rest ≡ other ++ other_rest → one ≡ other

module _ {P : List ℕ → Type 0} {Q : List ℕ → Type 0} {f : List ℕ} (leads : Leads P f Q) where
  back_of : (text more rest : List ℕ) → P text → text ++ more ≡ f ++ rest → (back : List ℕ) × (Q back × (back ++ more ≡ rest))
  back_of text more rest is same =
      let (back, (back_is, whole)) = leads.from text more rest is same in
      (back, (back_is, same_front f (back ++ more) rest (sym (append_assoc f back more) ∙ ap (λ t. t ++ more) (sym whole) ∙ same)))

  no_further_behind : (front left : List ℕ) → IsNoFurther Q front left → IsNoFurther P (f ++ front) left
  no_further_behind front [] none = λ text more is same. let (back, (back_is, whole)) = back_of text more front is same in none back more back_is whole
  no_further_behind front (b ∷ left) none = λ text more other is same.
      let (back, (back_is, whole)) = back_of text more (front ++ b ∷ other) is (same ∙ append_assoc f front (b ∷ other)) in
      none back more other back_is whole

  begins_behind : (front : List ℕ) → Begins Q front → Begins P (f ++ front)
  begins_behind front begins =
      record { more = begins.more; member = subst P (sym (append_assoc f front begins.more)) (leads.into (front ++ begins.more) begins.member) }

  pub stuck_after : {text rest left : List ℕ} → text ≡ f ++ rest → IsStuckIn Q rest left → IsStuckIn P text left
  stuck_after {left = left} whole stuck =
      record {
        front = f ++ stuck.front;
        cut = whole ∙ ap (λ rest. f ++ rest) stuck.cut ∙ sym (append_assoc f stuck.front left);
        viable = begins_behind stuck.front stuck.viable;
        stuck = no_further_behind stuck.front left stuck.stuck;
      }

  only_behind : (front left : List ℕ) → IsFrontOnly Q front left → IsFrontOnly P (f ++ front) left
  only_behind front [] none = λ is.
      let (back, (back_is, whole)) = back_of (f ++ front) [] front is (append_none (f ++ front)) in
      none (subst Q (sym (append_none back) ∙ whole) back_is)
  only_behind front (b ∷ left) none = λ other is.
      let (back, (back_is, whole)) = back_of ((f ++ front) ++ b ∷ other) [] (front ++ b ∷ other) is (append_none _ ∙ append_assoc f front (b ∷ other)) in
      none other (subst Q (sym (append_none back) ∙ whole) back_is)

  pub fault_after : {text rest left : List ℕ} → text ≡ f ++ rest → IsFaultAt Q rest left → IsFaultAt P text left
  fault_after {left = left} whole fault =
      record {
        front = f ++ fault.front;
        cut = whole ∙ ap (λ rest. f ++ rest) fault.cut ∙ sym (append_assoc f fault.front left);
        viable = begins_behind fault.front fault.viable;
        fault = only_behind fault.front left fault.fault;
      }

stuck_only : (P : List ℕ → Type 0) (front left : List ℕ) → IsNoFurther P front left → IsFrontOnly P front left
stuck_only P front [] none = λ is. none front [] is (append_none front)
stuck_only P front (b ∷ left) none = λ other is. none (front ++ b ∷ other) [] other is (append_none _)

pub stuck_is_fault : {P : List ℕ → Type 0} {text left : List ℕ} → IsStuckIn P text left → IsFaultAt P text left
stuck_is_fault {left = left} stuck = record { front = stuck.front; cut = stuck.cut; viable = stuck.viable; fault = stuck_only _ stuck.front left stuck.stuck }

-- ---- words

module _ {P : List ℕ → Type 0} {Q : List ℕ → Type 0} (words : HasWords P) (end : ℕ) (ends : is_visible end ≡ false) where
  pub leads_followed : (word : List ℕ) → P word → Leads (Followed P end Q) (word ++ end ∷ []) Q
  leads_followed word is =
      record {
        into = λ rest back_is. record { word = word; back = rest; word_is = is; back_is = back_is; whole = append_assoc word (end ∷ []) rest };
        from = λ text more rest parts same.
            let read = cut_by is_visible parts.word word (parts.back ++ more) rest end end (words.visible parts.word parts.word_is) (words.visible word is) ends ends
            (sym (append_assoc parts.word (end ∷ parts.back) more) ∙ ap (λ t. t ++ more) (sym parts.whole) ∙ same ∙ append_assoc word (end ∷ []) rest) in
            (parts.back, (parts.back_is, parts.whole ∙ ap (λ w. w ++ end ∷ parts.back) read.same ∙ sym (append_assoc word (end ∷ []) parts.back)));
      }

  pub stuck_behind : {text word rest left : List ℕ} → P word → text ≡ word ++ end ∷ rest → IsStuckIn Q rest left → IsStuckIn (Followed P end Q) text left
  stuck_behind {word = word} {rest = rest} is whole stuck =
      stuck_after (leads_followed word is) (whole ∙ sym (append_assoc word (end ∷ []) rest)) stuck

  pub no_longer_followed : HasNoLonger Q → HasNoLonger (Followed P end Q)
  no_longer_followed none =
      record {
        same = λ one other rest other_rest a b same.
            let read = cut_by is_visible a.word b.word (a.back ++ rest) (b.back ++ other_rest) end end (words.visible a.word a.word_is) (words.visible b.word b.word_is) ends ends
            (sym (append_assoc a.word (end ∷ a.back) rest) ∙ ap (λ t. t ++ rest) (sym a.whole) ∙ same ∙ ap (λ t. t ++ other_rest) b.whole ∙ append_assoc b.word (end ∷ b.back) other_rest) in
            let backs = none.same a.back b.back rest other_rest a.back_is b.back_is read.rests in
            a.whole ∙ ap (λ w. w ++ end ∷ a.back) read.same ∙ ap (λ back. b.word ++ end ∷ back) backs ∙ sym b.whole;
      }

module _ (P : List ℕ → Type 0) (Q : List ℕ → Type 0) (end : ℕ) (some : List ℕ) (some_is : Q some) where
  piece : (text : List ℕ) (parts : Followed P end Q text) → Followed P end Nothing (parts.word ++ end ∷ [])
  piece text parts = record { word = parts.word; back = []; word_is = parts.word_is; back_is = record { is = refl }; whole = refl }

  piece_before : (text more rest : List ℕ) (parts : Followed P end Q text) → text ++ more ≡ rest → (parts.word ++ end ∷ []) ++ (parts.back ++ more) ≡ rest
  piece_before text more rest parts same =
      append_assoc parts.word (end ∷ []) (parts.back ++ more) ∙ sym (append_assoc parts.word (end ∷ parts.back) more) ∙ ap (λ t. t ++ more) (sym parts.whole) ∙ same

  no_further_within : (front left : List ℕ) → IsNoFurther (Followed P end Nothing) front left → IsNoFurther (Followed P end Q) front left
  no_further_within front [] none = λ text more parts same.
      none (parts.word ++ end ∷ []) (parts.back ++ more) (piece text parts) (piece_before text more front parts same)
  no_further_within front (b ∷ left) none = λ text more other parts same.
      none (parts.word ++ end ∷ []) (parts.back ++ more) other (piece text parts) (piece_before text more (front ++ b ∷ other) parts same)

  -- a text that is stuck in its first word
  pub stuck_within : {text left : List ℕ} → IsStuckIn (Followed P end Nothing) text left → IsStuckIn (Followed P end Q) text left
  stuck_within {left = left} stuck =
      let parts = stuck.viable.member in
      record {
        front = stuck.front;
        cut = stuck.cut;
        viable = record {
          more = stuck.viable.more ++ some;
          member = record {
            word = parts.word;
            back = some;
            word_is = parts.word_is;
            back_is = some_is;
            whole = sym (append_assoc stuck.front stuck.viable.more some) ∙ ap (λ t. t ++ some) (parts.whole ∙ ap (λ back. parts.word ++ end ∷ back) parts.back_is.is)
                ∙ append_assoc parts.word (end ∷ []) some;
          };
        };
        stuck = no_further_within stuck.front left stuck.stuck;
      }

pub no_longer_nothing : HasNoLonger Nothing
no_longer_nothing = record { same = λ one other rest other_rest a b same. a.is ∙ sym b.is }

-- ---- one of two sets

-- no text of the set begins with the first byte of this one, and none is empty
pub record IsAway (P : List ℕ → Type 0) (text : List ℕ) : Type 0 where
  pub differs : (b : ℕ) (rest more : List ℕ) → P (b ∷ rest) → text ≡ b ∷ more → ⊥
  pub some : P [] → ⊥

module _ {P : List ℕ → Type 0} {text : List ℕ} (away : IsAway P text) where
  pub no_further_away : (front left : List ℕ) → text ≡ front ++ left → IsNoFurther P front left
  no_further_away front [] whole = λ t more is same. first t more is same
    where
      first : (t more : List ℕ) → P t → t ++ more ≡ front → ⊥
      first [] more is same = away.some is
      first (b ∷ rest) more is same = away.differs b rest (rest ++ more) is (whole ∙ append_none front ∙ sym same)
  no_further_away [] (c ∷ left) whole = λ t more other is same. first t more other is same
    where
      first : (t more other : List ℕ) → P t → t ++ more ≡ c ∷ other → ⊥
      first [] more other is same = away.some is
      first (b ∷ rest) more other is same = away.differs b rest left is (whole ∙ (let e : c ∷ left ≡ b ∷ left = cc in e))
  no_further_away (d ∷ front) (c ∷ left) whole = λ t more other is same. first t more other is same
    where
      first : (t more other : List ℕ) → P t → t ++ more ≡ (d ∷ front) ++ c ∷ other → ⊥
      first [] more other is same = away.some is
      first (b ∷ rest) more other is same = away.differs b rest (front ++ c ∷ left) is (whole ∙ (let e : d ∷ (front ++ c ∷ left) ≡ b ∷ (front ++ c ∷ left) = cc in e))

module _ (P : List ℕ → Type 0) (Q : List ℕ → Type 0) where
  pub no_further_either : (front left : List ℕ) → IsNoFurther P front left → IsNoFurther Q front left → IsNoFurther (Either P Q) front left
  no_further_either front [] p q = λ text more is same. elim is.which [ inl one ↦ p text more one same | inr other ↦ q text more other same ]
  no_further_either front (b ∷ left) p q = λ text more rest is same. elim is.which [ inl one ↦ p text more rest one same | inr other ↦ q text more rest other same ]

module _ {P : List ℕ → Type 0} {Q : List ℕ → Type 0} where
  pub stuck_in_first : {text left : List ℕ} → IsStuckIn P text left → IsAway Q text → IsStuckIn (Either P Q) text left
  stuck_in_first {left = left} stuck away =
      record {
        front = stuck.front;
        cut = stuck.cut;
        viable = record { more = stuck.viable.more; member = record { which = inl stuck.viable.member } };
        stuck = no_further_either _ _ stuck.front left stuck.stuck (no_further_away away stuck.front left stuck.cut);
      }

  pub stuck_in_second : {text left : List ℕ} → IsStuckIn Q text left → IsAway P text → IsStuckIn (Either P Q) text left
  stuck_in_second {left = left} stuck away =
      record {
        front = stuck.front;
        cut = stuck.cut;
        viable = record { more = stuck.viable.more; member = record { which = inr stuck.viable.member } };
        stuck = no_further_either _ _ stuck.front left (no_further_away away stuck.front left stuck.cut) stuck.stuck;
      }

  pub no_longer_either : HasNoLonger P → HasNoLonger Q → ((one other rest other_rest : List ℕ) → P one → Q other → one ++ rest ≡ other ++ other_rest → ⊥) → HasNoLonger (Either P Q)
  no_longer_either p q apart =
      record {
        same = λ one other rest other_rest a b same.
            elim a.which [
              | inl first ↦ elim b.which [ inl second ↦ p.same one other rest other_rest first second same | inr second ↦ absurd (apart one other rest other_rest first second same) ]
              | inr first ↦ elim b.which [ inl second ↦ absurd (apart other one other_rest rest second first (sym same)) | inr second ↦ q.same one other rest other_rest first second same ]
            ];
      }

-- ---- the further of two

-- of two ways to cut a list, the one with less after it has the longer front
pub longer_front : (front left further rest : List ℕ) → front ++ left ≡ further ++ rest → length rest ≤ length left
    → (more : List ℕ) × ((further ≡ front ++ more) × (left ≡ more ++ rest))
longer_front [] left further rest same shorter = (further, (refl, same))
longer_front (x ∷ front) left [] rest same shorter =
    let sizes : length rest ≡ suc (length (front ++ left)) = ap length (sym same) in
    let parts = length-append front left in
    absurd (omega arith)
longer_front (x ∷ front) left (y ∷ further) rest same shorter =
    let first : x ≡ y = cc in
    let behind : front ++ left ≡ further ++ rest = cc in
    let (more, (whole, is)) = longer_front front left further rest behind shorter in
    (more, ((λ i. sym first i ∷ whole i), is))

module _ (P : List ℕ → Type 0) (front : List ℕ) where
  no_further_more : (left more rest : List ℕ) → left ≡ more ++ rest → IsNoFurther P front left → IsNoFurther P (front ++ more) rest
  no_further_more [] [] [] same none = λ text more is e. none text more is (e ∙ append_none front)
  no_further_more [] [] (d ∷ rest) same none = absurd (let wrong : [] ≡ d ∷ rest = same in cc)
  no_further_more [] (m ∷ more) rest same none = absurd (let wrong : [] ≡ m ∷ (more ++ rest) = same in cc)
  no_further_more (c ∷ left) [] [] same none = absurd (let wrong : c ∷ left ≡ [] = same in cc)
  no_further_more (c ∷ left) [] (d ∷ rest) same none = λ text more other is e.
      let first : d ≡ c = cc in
      none text more other is (e ∙ ap (λ f. f ++ d ∷ other) (append_none front) ∙ ap (λ b. front ++ b ∷ other) first)
  no_further_more (c ∷ left) (m ∷ more) [] same none = λ text behind is e.
      let first : m ≡ c = cc in
      none text behind more is (e ∙ ap (λ b. front ++ b ∷ more) first)
  no_further_more (c ∷ left) (m ∷ more) (d ∷ rest) same none = λ text behind other is e.
      let first : m ≡ c = cc in
      none text behind (more ++ d ∷ other) is (e ∙ append_assoc front (m ∷ more) (d ∷ other) ∙ ap (λ b. front ++ b ∷ (more ++ d ∷ other)) first)

module _ (P : List ℕ → Type 0) where
  -- where a text was stuck before, it still is
  pub no_further_on : (front left further rest : List ℕ) → front ++ left ≡ further ++ rest → length rest ≤ length left → IsNoFurther P front left
      → IsNoFurther P further rest
  no_further_on front left further rest same shorter none =
      let (more, (whole, is)) = longer_front front left further rest same shorter in
      subst (λ (front : List ℕ). IsNoFurther P front rest) (sym whole) (no_further_more P front left more rest is none)
