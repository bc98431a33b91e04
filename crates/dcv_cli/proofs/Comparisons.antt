-- What is right where two formula files are compared.
use Rattle.dcv_cli.proofs.Common.{◌≡◌, ◌≢◌, ℕ, ◌+◌, Bool, true, false, List, [], ◌∷◌, length, Option, None, Some, refl, sym, ap, ◌∙◌, subst}
use Rattle.dcv_cli.proofs.Common.{codes, IsTrue, ◌↔◌, not, is_some, bytes_eq, bytes_eq-Decides, length-map, true≢false, Asks, Disk, held_of}
use Rattle.dcv_cli.proofs.Common.{asks_in_turn, Puts, puts_both, Word, PlainFile, Name, models, line, Language, IsLeastOf, TooManyStates}
use Rattle.dcv_cli.proofs.Common.{TooManyNodes, Limits, IsAutomatonOf, IsWithinBudget, Built, IsAuto, raw_accepts, difference, letters_of, IsIncluded}
use Rattle.dcv_cli.proofs.Common.{TooMany, Least, NoneWhereIncluded, texts_of, WithinBudget, NamesFirstOver, steps_of_file}
use Rattle.dcv_cli.proofs.Common.{comparison_text, compared, have_same_texts, OverProduct, WithinProduct, IsCompared, Declared}
use Rattle.dcv_cli.proofs.Common.{IsBuilt, IsFormulaFile, OnText, Refused, Read as ReadFile, Texts, OnHeld, ForHeld, IsHeldText, Fulfils}
use Rattle.dcv_cli.proofs.Common.{is_determined, status_of, FulfilsOver, Implies, OnTrue, IsSomeAnd, Outcome, IsExplained, refused, Outside, LeavesFor, is_answer}
use Rattle.dcv_cli.proofs.Common.{status_of_least, States, Nodes, Refusal, Product, Which, Only}
use Rattle.dcv_cli.proofs.Common.{First, Second}
use Rattle.clap.proofs.WalkLemmas.{both}
use Rattle.dcv_io.specs.Putting.{Put}
use Rattle.dcv_word.specs.Word.{WordValue}
use Rattle.dcv_language.specs.VerdictText.{shown}
use Rattle.dcv_implies.specs.Comparison.{IsProductWithin, IsProductOver, Answer, IsAnswer}
use Rattle.dcv_implies.specs.Laws.{AnswerOfAutomata}
use Rattle.dcv_implies.specs.declared.faults.OutsideFault.{OutsideFault}
use Rattle.dcv_implies.specs.declared.faults.OutsideFault.TheVariants as outside
use Rattle.dcv_io.specs.Disk.{WhereTold, ReadsAtMost}
use Rattle.dcv_cli.specs.Comparison.{LeavesComparison, OfSecond}
use Rattle.dcv_cli.proofs.Outcomes.{explains_over}
use Rattle.dcv_cli.proofs.ThreeEnds.{for_text, on_true_weaker}
use Rattle.dcv_cli.proofs.TwoFiles.{later_held, some_same}
use Rattle.dcv_cli.specs.Performed.{LeavesOne}
use Rattle.dcv_cli.specs.Refusal.{most_bytes, refusal_of_outside}

-- ---- what is written

pub puts_difference : (old mid new : Put) (least : Option WordValue) → is_some least ≡ true → Puts old mid (line (codes "does not imply"))
    → Puts mid new (shown (codes "counterexample") (letters_of least)) → Puts old new (comparison_text (letters_of least))
puts_difference old mid new None some first second = absurd (true≢false (sym some))
puts_difference old mid new (Some word) some first second = puts_both old mid new _ _ first second

pub answers_least : (least : Option Word) → IsTrue (is_answer (status_of_least least))
answers_least None = refl
answers_least (Some word) = refl

-- ---- inclusion

pub none_is : NoneWhereIncluded → (k : ℕ) (L M : Language) (least : Option Word) → IsLeastOf k (difference L M) least → (least ≡ None) ↔ IsIncluded k L M
none_is none k L M None is = ((λ e. (none k L M).0 is), (λ included. refl))
none_is none k L M (Some word) is = (
  (λ e. let wrong : Some word ≡ None = e in cc),
  (λ included.
      let wrong : not true ≡ true = subst (λ (b : Bool). not b ≡ true) is.member ((none k L M).1 included word is.behaviour) in absurd (true≢false (sym wrong))),
)

-- ---- names

have_own_texts : (names : List (List ℕ)) → have_same_texts names names ≡ true
have_own_texts [] = refl
have_own_texts (name ∷ names) = rw ((bytes_eq-Decides name name).1 refl) (have_own_texts names)

same_texts : (names others : List (List ℕ)) → have_same_texts names others ≡ true → names ≡ others
same_texts [] [] is = refl
same_texts [] (other ∷ others) is = absurd (true≢false (sym is))
same_texts (name ∷ names) [] is = absurd (true≢false (sym is))
same_texts (name ∷ names) (other ∷ others) is =
    let tests = both (bytes_eq name other) _ is in λ i. (bytes_eq-Decides name other).0 tests.0 i ∷ same_texts names others tests.1 i

pub count_same : (names others : List Name) → texts_of names ≡ texts_of others → length names ≡ length others
count_same names others same =
    sym (length-map names (λ (name : Name). name.text)) ∙ ap length same ∙ length-map others (λ (name : Name). name.text)

module _ (given others : List Name) (one other : PlainFile) (result : Bool) (is : result ≡ have_same_texts (texts_of given) (texts_of others))
    (first : given ≡ one.variables) (second : others ≡ other.variables) where
  there : have_same_texts (texts_of one.variables) (texts_of other.variables) ≡ result
  there = sym (is ∙ (λ i. have_same_texts (texts_of (first i)) (texts_of (second i))))

  pub names_same : result ≡ true → texts_of one.variables ≡ texts_of other.variables
  names_same found = same_texts (texts_of one.variables) (texts_of other.variables) (there ∙ found)

  pub names_differ : result ≡ false → texts_of one.variables ≢ texts_of other.variables
  names_differ none same =
      true≢false (sym (have_own_texts (texts_of one.variables)) ∙ ap (have_same_texts (texts_of one.variables)) same ∙ there ∙ none)

-- ---- files that were built

module _ (limits : Limits) (one other : PlainFile) where
  -- the first is over the limits
  pub explains_first_over : (refusal : Refusal) → texts_of one.variables ≡ texts_of other.variables → NamesFirstOver (steps_of_file one) limits refusal
      → IsExplained (IsCompared limits one other) First refusal
  explains_first_over refusal same is = on_true_weaker (is_determined (status_of refusal)) (Declared same) (explains_over limits First _ one refusal is)

  -- the first is not, and the second is
  pub explains_second_over : (refusal : Refusal) → texts_of one.variables ≡ texts_of other.variables → IsWithinBudget (steps_of_file one) limits
      → NamesFirstOver (steps_of_file other) limits refusal → IsExplained (IsCompared limits one other) Second refusal
  explains_second_over refusal same within is =
      on_true_weaker (is_determined (status_of refusal)) (λ right. Declared same (WithinBudget within right)) (explains_over limits Second _ other refusal is)

  module _ (move : AnswerOfAutomata) (none : NoneWhereIncluded) (first second : Built) (first_auto : IsAuto first.auto) (second_auto : IsAuto second.auto)
      (same : texts_of one.variables ≡ texts_of other.variables) (of_one : IsBuilt one limits first) (of_other : IsBuilt other limits second) where
    -- what is answered of the automata is answered of the files
    answer : (found : Answer) → IsAnswer limits first.auto.arena.slots (raw_accepts first.auto) (raw_accepts second.auto) found → IsAnswer limits (length one.variables) (models one) (models other) found
    answer found is =
        move limits (length one.variables) (models one) (models other) first.auto second.auto found first_auto second_auto of_one.automaton
        (subst (λ k. IsAutomatonOf k (models other) second.auto) (count_same other.variables one.variables (sym same)) of_other.automaton) is

    pub compares : (least : Option Word) → IsProductWithin limits first.auto.arena.slots (raw_accepts first.auto) (raw_accepts second.auto)
        → IsLeastOf first.auto.arena.slots (difference (raw_accepts first.auto) (raw_accepts second.auto)) least → IsCompared limits one other (compared least)
    compares least within is =
        let found = answer (Least least) (within, is) in
        Declared same (WithinBudget of_one.within (WithinBudget of_other.within (WithinProduct found.0 (record {
          least = least;
          is_least = found.1;
          included = none_is none (length one.variables) (models one) (models other) least found.1;
          says = refl;
        }))))

    pub explains_product : (fault : OutsideFault)
        → ((limit : ℕ) → fault ≡ outside.States limit → (limit ≡ limits.states) × IsProductOver limits first.auto.arena.slots (raw_accepts first.auto) (raw_accepts second.auto) TooManyStates)
        → ((limit : ℕ) → fault ≡ outside.Nodes limit → (limit ≡ limits.nodes) × IsProductOver limits first.auto.arena.slots (raw_accepts first.auto) (raw_accepts second.auto) TooManyNodes)
        → IsExplained (IsCompared limits one other) Only (refusal_of_outside fault)
    explains_product (outside.States limit) states nodes =
        let over = states limit refl in
        Declared same (WithinBudget of_one.within (WithinBudget of_other.within
        (OverProduct States (answer (TooMany TooManyStates) over.1) (ap (λ n. refused (Product States n) Only) over.0))))
    explains_product (outside.Nodes limit) states nodes =
        let over = nodes limit refl in
        Declared same (WithinBudget of_one.within (WithinBudget of_other.within
        (OverProduct Nodes (answer (TooMany TooManyNodes) over.1) (ap (λ n. refused (Product Nodes n) Only) over.0))))
    explains_product outside.Memory states nodes = tt

-- ---- the second file

-- what is right where it is determined, is right for each
pub on_true_each : (b : Bool) {X Y : Type 0} (P : Y → X → Type 0) (Q : X → Type 0) → ((y : Y) (x : X) → P y x → OnTrue b (Q x)) → OnTrue b ((y : Y) (x : X) → P y x → Q x)
on_true_each true P Q each = each
on_true_each false P Q each = tt

on_held : (text : Option (List ℕ)) {A B : List ℕ → Type 0} → ((text : List ℕ) → A text → B text) → IsSomeAnd text A → IsSomeAnd text B
on_held None from on = absurd on
on_held (Some text) from on = from text on

on_text : {text : List ℕ} {which : Which} {A B : PlainFile → Outcome → Type 0} {outcome : Outcome} → ((file : PlainFile) → A file outcome → B file outcome)
    → OnText text which A outcome → OnText text which B outcome
on_text from (Refused refusal is e) = Refused refusal is e
on_text from (ReadFile file is right) = ReadFile file is (from file right)

-- what is right for the second file, after the first, is right for both
pub fulfils_both : (told told' : Option Disk) (first second text : List ℕ) (limits : Limits) (one : PlainFile) (outcome : Outcome) → held_of told' ≡ held_of told
    → IsHeldText told first text → IsFormulaFile text one → (Right : PlainFile → Outcome → Type 0)
    → ((file : PlainFile) (outcome : Outcome) → Right file outcome → IsCompared limits one file outcome)
    → ForHeld told' (λ held. OnHeld (held 0) second (λ text. OnText text Second Right) outcome) → FulfilsOver (Implies first second limits) told outcome
fulfils_both told told' first second text limits one outcome same there formula Right from right =
    later_held told told' first text (λ held. OnHeld (held 0) second (λ text. OnText text Second Right) outcome)
    (λ held. Fulfils (Implies first second limits) held outcome) same there moves right
  where
    moves : (held late : Texts) → held 0 first ≡ Some text → held 1 ≡ late 0 → OnHeld (late 0) second (λ text. OnText text Second Right) outcome
        → Fulfils (Implies first second limits) held outcome
    moves held late there same right =
        let second_right = on_held (late 0 second) (λ text. on_text (λ file. from file outcome)) right in
        rw there (ReadFile one formula (subst (λ held. OnHeld held second (λ text. OnText text Second (IsCompared limits one)) outcome) (sym same) second_right))

-- what was read of a file that is held is told from before the other was opened
pub reads_from : (told mid after : Option Disk) (name : List ℕ) (most : ℕ) → held_of mid ≡ held_of told → WhereTold (ReadsAtMost name most) mid after → WhereTold (ReadsAtMost name most) told after
reads_from None None after name most same read = read
reads_from None (Some disk) after name most same read = let wrong : Some disk.held ≡ None = same in cc
reads_from (Some disk) None after name most same read = let wrong : None ≡ Some disk.held = same in cc
reads_from (Some disk) (Some mid) None name most same read = absurd read
reads_from (Some disk) (Some mid) (Some after) name most same read =
    subst (λ (held : List ℕ → Option (List ℕ)). ReadsAtMost name most (record mid { held = held }) after) (some_same mid.held disk.held same) read

-- nothing was written where the second file failed, after a first without a fault
pub leaves_both : (first second text : List ℕ) (limits : Limits) (file : PlainFile) (before from after : Outside) (bytes : List ℕ) → Asks (first ∷ []) before.asked from.asked
    → held_of from.told ≡ held_of before.told → IsHeldText before.told first text → IsFormulaFile text file → LeavesOne most_bytes second from after bytes
    → LeavesFor (Implies first second limits) before after bytes
leaves_both first second text limits file before from after bytes asked same there is left =
    let both = asks_in_turn before.asked from.asked after.asked (first ∷ []) (second ∷ []) asked left.holds.asked in
    for_text before.told first text (λ held. LeavesComparison first second held before after bytes) there
    (λ held here. OfSecond both (reads_from before.told from.told after.told second (most_bytes + 1) same left.holds.read) (record { text = text; there = here; file = file; is = is }) left.holds.none)
