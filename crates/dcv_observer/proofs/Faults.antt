-- The syntax fault of a text, by what was read of its items.
use Rattle.std.proofs.Common.{◌≡◌, ℕ, ◌+◌, ◌<◌, Bool, true, false, List, [], ◌∷◌, ◌++◌, length, map, take, Option, Some, None, refl, sym, ap, subst, ◌∙◌}
use Rattle.std.proofs.Common.{arith, length-append, append_assoc, append-nil}
use Rattle.std.specs.Prelude.{slice_get}
use Rattle.std.specs.Option.{option_map_or}
use Rattle.std.proofs.Math.Seq.{take-append_seam, take-append-add}
use Rattle.std.proofs.lemmas.List.{length-map, map-append}
use Rattle.dcv_grammar.specs.declared.grammar.ContextFree.{ContextFree as GrammarTables}
use Rattle.dcv_grammar.specs.declared.reader.Reading.{Reading}
use Rattle.dcv_grammar.specs.Grammar.{grammar_of, ContextFree, IsSentence, IsViable, IsFaultAt, IsVerdict}
use Rattle.dcv_grammar.specs.Predictive.{IsPredictive}
use Rattle.dcv_grammar.specs.Taking.{HasTaken, IsTaken, IsEnded}
use Rattle.dcv_grammar.proofs.Readings.{taken_is_kept, none_begins, fault_here, fault_past}
use Rattle.dcv_grammar.proofs.Steps.{one_verdict}
use Rattle.dcv_grammar.proofs.Verdicts.{some_verdict}
use Rattle.dcv_lexer.specs.Lexicon.{Lexicon}
use Rattle.dcv_lexer.specs.Cuts.{Token}
use Rattle.dcv_observer.specs.declared.items.Items.{Items}
use Rattle.dcv_observer.specs.Items.{HasItems, token_class, offset_at, IsSentenceText, IsSyntaxFault, IsSyntaxVerdict}
use Rattle.dcv_observer.specs.declared.items.Item.{Item}
use Rattle.dcv_observer.specs.Left.{seen, left, items_from, GivesOne}
use Rattle.dcv_lexer.specs.Reading.{lexicon_in}
use Rattle.dcv_observer.proofs.Cutting.{has_items, one_list}

item_there : (read : List Token) (item : Token) (more : List Token) → slice_get (read ++ item ∷ more) (length read) ≡ Some item
item_there [] item more = refl
item_there (first ∷ read) item more = item_there read item more

nothing_past : (items : List Token) → slice_get items (length items) ≡ None
nothing_past [] = refl
nothing_past (item ∷ items) = nothing_past items

module _ (lexicon : Lexicon) (grammar : ContextFree) (text : List ℕ) where
  abbrev classes_of : List Token → List ℕ
  classes_of items = map (token_class lexicon) items

  abbrev start_of : Option Token → ℕ
  start_of found = option_map_or (λ token. token.start) found (length text)

  -- the item after those with which a sentence may begin
  pub fault_at_item : (read : List Token) (item : Token) (more : List Token) → HasItems lexicon text (read ++ item ∷ more) → IsViable grammar (classes_of read)
      → ¬ IsViable grammar (classes_of read ++ token_class lexicon item ∷ []) → IsSyntaxFault lexicon grammar text item.start
  fault_at_item read item more has viable none =
      let done = classes_of read in
      let class = token_class lexicon item in
      let all = done ++ class ∷ classes_of more in
      let is : classes_of (read ++ item ∷ more) ≡ all = map-append (token_class lexicon) read (item ∷ more) in
      let front : take (length done) all ≡ done = take-append_seam done (class ∷ classes_of more) in
      let one_more : take (length done + 1) all ≡ take (length done) all ++ class ∷ [] =
      take-append-add done (class ∷ classes_of more) 1 ∙ ap (λ l. l ++ class ∷ []) (sym front) in
      let inside : length done < length all = omega (arith, length-append done (class ∷ classes_of more)) in
      let fault = fault_here grammar all (length done) class inside one_more (subst (IsViable grammar) (sym front) viable)
      (λ some. none (subst (λ l. IsViable grammar (l ++ class ∷ [])) front some)) in
      record {
        items = read ++ item ∷ more;
        place = length done;
        has = has;
        fault = subst (λ l. IsFaultAt grammar l (length done)) (sym is) fault;
        offset = sym (ap (λ n. start_of (slice_get (read ++ item ∷ more) n)) (length-map read (token_class lexicon)) ∙ ap start_of (item_there read item more));
      }

  -- the end of items that are no sentence
  pub fault_at_end : (items : List Token) → HasItems lexicon text items → IsViable grammar (classes_of items) → ¬ IsSentence grammar (classes_of items)
      → IsSyntaxFault lexicon grammar text (length text)
  fault_at_end items has viable none = record {
    items = items;
    place = length items;
    has = has;
    fault = fault_past grammar (classes_of items) (length items) (sym (length-map items (token_class lexicon))) viable none;
    offset = sym (ap start_of (nothing_past items));
  }

  -- ---- one verdict

  pub some_found : IsPredictive grammar → (verdict : Option ℕ) × IsSyntaxVerdict lexicon grammar text verdict
  some_found p =
      let items = items_from lexicon 0 text in
      let (verdict, is) = some_verdict grammar p (classes_of items) in
      found items (has_items lexicon text) verdict is
    where
      found : (items : List Token) → HasItems lexicon text items → (verdict : Option ℕ) → IsVerdict grammar (classes_of items) verdict
          → (verdict : Option ℕ) × IsSyntaxVerdict lexicon grammar text verdict
      found items has None is = (None, (items, has, is))
      found items has (Some place) is =
          (Some (offset_at text items place), record { items = items; place = place; has = has; fault = is; offset = refl })

  not_both : IsSentenceText lexicon grammar text → (at : ℕ) → IsSyntaxFault lexicon grammar text at → ⊥
  not_both (items, has, sentence) at fault =
      let same = one_list lexicon text fault.items items fault.has has in
      let never : None ≡ Some fault.place =
      one_verdict grammar (classes_of items) None (Some fault.place) sentence (subst (λ l. IsFaultAt grammar (classes_of l) fault.place) same fault.fault) in
      cc

  pub one_found : (verdict other : Option ℕ) → IsSyntaxVerdict lexicon grammar text verdict → IsSyntaxVerdict lexicon grammar text other → verdict ≡ other
  one_found None None v w = refl
  one_found None (Some at) v w = absurd (not_both v at w)
  one_found (Some at) None v w = absurd (not_both w at v)
  one_found (Some at) (Some other) v w =
      let same = one_list lexicon text v.items w.items v.has w.has in
      let places : Some v.place ≡ Some w.place =
      one_verdict grammar (classes_of w.items) (Some v.place) (Some w.place)
      (subst (λ l. IsFaultAt grammar (classes_of l) v.place) same v.fault) w.fault in
      let place : v.place ≡ w.place = cc in
      ap Some (v.offset ∙ (λ i. offset_at text (same i) (place i)) ∙ sym w.offset)

-- ---- the loop over the items

-- where it has passed these items, with which a sentence may begin
pub record IsWithin (lexicon : Lexicon) (tables : GrammarTables) (text : List ℕ) (reading : Reading) (items : Items) : Type 0 where
  pub same_grammar : reading.grammar ≡ tables
  pub same_lexicon : lexicon_in items.lexer ≡ lexicon
  pub passed : List Token
  pub has : HasItems lexicon text (passed ++ left items)
  pub taken : HasTaken reading (map (token_class lexicon) passed)

-- it has passed none
pub at_start : (lexicon : Lexicon) (tables : GrammarTables) (text : List ℕ) (reading : Reading) (items : Items) → reading.grammar ≡ tables
    → lexicon_in items.lexer ≡ lexicon → HasItems lexicon text (left items) → HasTaken reading [] → IsWithin lexicon tables text reading items
at_start lexicon tables text reading items is written has taken =
    record { same_grammar = is; same_lexicon = written; passed = []; has = has; taken = taken }

module _ (lexicon : Lexicon) (tables : GrammarTables) (text : List ℕ) (reading : Reading) (items : Items)
    (within : IsWithin lexicon tables text reading items) where
  abbrev grammar : ContextFree
  grammar = grammar_of tables

  abbrev taken : List ℕ
  taken = map (token_class lexicon) within.passed

  some_begin : IsViable grammar taken
  some_begin = subst (λ t. IsViable (grammar_of t) taken) within.same_grammar within.taken.viable

  -- one more item, and whether a sentence may begin with it too
  module _ (item : Item) (next : Items) (new : Reading) (viable : Bool) (gives : GivesOne items item next) (same : new.grammar ≡ reading.grammar)
      (told : (taken : List ℕ) → HasTaken reading taken → IsTaken viable new (taken ++ item.class ∷ [])) where
    class_is : item.class ≡ token_class lexicon (seen item)
    class_is = gives.class ∙ ap (λ l. token_class l (seen item)) within.same_lexicon

    has_more : HasItems lexicon text (within.passed ++ seen item ∷ left next)
    has_more = subst (λ l. HasItems lexicon text (within.passed ++ l)) gives.gives within.has

    pub item_refused : viable ≡ false → IsSyntaxFault lexicon grammar text item.start
    item_refused refused =
        fault_at_item lexicon grammar text within.passed (seen item) (left next) has_more some_begin
        (subst (λ class. ¬ IsViable grammar (taken ++ class ∷ [])) class_is
        (none_begins reading new tables same within.same_grammar viable (taken ++ item.class ∷ []) (told taken within.taken) refused))

    pub item_taken : viable ≡ true → IsWithin lexicon tables text new next
    item_taken kept = record {
      same_grammar = same ∙ within.same_grammar;
      same_lexicon = gives.lexicon ∙ within.same_lexicon;
      passed = within.passed ++ seen item ∷ [];
      has = subst (HasItems lexicon text) (sym (append_assoc within.passed (seen item ∷ []) (left next))) has_more;
      taken = subst (HasTaken new) ((λ i. taken ++ class_is i ∷ []) ∙ sym (map-append (token_class lexicon) within.passed (seen item ∷ [])))
          (taken_is_kept reading new tables same within.same_grammar viable (taken ++ item.class ∷ []) (told taken within.taken) kept);
    }

  -- no item is left, and whether those that were passed are a sentence
  module _ (whole : Bool) (none : left items ≡ [])
      (told : (taken : List ℕ) → HasTaken reading taken → IsEnded whole (grammar_of reading.grammar) taken) where
    has_all : HasItems lexicon text within.passed
    has_all = subst (HasItems lexicon text) (ap (λ l. within.passed ++ l) none ∙ append-nil within.passed) within.has

    ended : (b : Bool) → whole ≡ b → IsEnded b grammar taken
    ended b same =
        subst (λ t. IsEnded b (grammar_of t) taken) within.same_grammar
        (subst (λ w. IsEnded w (grammar_of reading.grammar) taken) same (told taken within.taken))

    pub end_refused : whole ≡ false → IsSyntaxFault lexicon grammar text (length text)
    end_refused refused = fault_at_end lexicon grammar text within.passed has_all some_begin (ended false refused)

    pub end_reached : whole ≡ true → IsSentenceText lexicon grammar text
    end_reached kept = (within.passed, has_all, ended true kept)
