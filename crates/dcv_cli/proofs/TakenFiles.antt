-- The files of a set, taken one after another: what is right for all of them is right for their names, and a command that ends before has ended as it may.
use Rattle.dcv_cli.proofs.Common.{◌≡◌, ℕ, ◌+◌, List, [], ◌∷◌, ◌++◌, length, Option, None, Some, Result, Ok, Err, arith, refl, sym, ap, ◌∙◌, subst, append_assoc}
use Rattle.dcv_cli.proofs.Common.{OnTrue, Disk, held_of, Asks, PlainFile, Refusal, Status, Texts, ForHeld, IsHeldText, OfHeldText, Outcome}
use Rattle.dcv_cli.proofs.Common.{refused, Outside, Stream, with_output, Answers, Performs, Takes, ending, IsRefused, Refused, Read}
use Rattle.dcv_cli.proofs.Common.{is_determined, status_of, only, IsExplained, IsRead, Appends, RisesIf, is_open, is_read, Only, take-length}
use Rattle.std.specs.Borrow.{Bor}
use Rattle.dcv_cli.proofs.Common.{zero, suc, take, drop, map, get_or, ◌<◌, ◌≤◌}
use Rattle.std.proofs.Common.{length-append, append-nil}
use Rattle.dcv_io.proofs.Asking.{asks_further, asks_in_turn, asks_none, asks_no_prefix}
use Rattle.dcv_cli.specs.FileSet.{HaveFormulas, IsOfSet, LeavesSet, OnFiles}
use Rattle.dcv_cli.specs.Joined.{AreHeldTexts, AreReadAs, LeavesFiles, OnHeldFiles, StopsTaking, TakesAll, most_calls}
use Rattle.dcv_cli.specs.Refusal.{marked, most_bytes}
use Rattle.dcv_cli.specs.declared.formula_file.FormulaFile.{FormulaFile}
use Rattle.dcv_cli.specs.declared.refusal.Refusal.TheVariants.{Memory}
use Rattle.dcv_cli.specs.declared.refused.Refused.{Refused as RefusedRun}
use Rattle.dcv_cli.specs.declared.refused.Which.TheVariants.{Number}
use Rattle.dcv_cli.proofs.Comparisons.{reads_from}
use Rattle.dcv_cli.proofs.ThreeEnds.{ends_refused, input_of, marked_explains, marked_none, moved, no_cause, no_input_refusal, nothing_told, on_true, on_true_weaker, risen}
use Rattle.dcv_cli.proofs.TwoFiles.{some_same}

-- ---- texts that are held one after another

-- from this time on
abbrev pub AreHeldFrom : Texts → ℕ → List (List ℕ) → List (List ℕ) → Type 0
AreHeldFrom held time [] [] = Unit {0}
AreHeldFrom held time (name ∷ names) (text ∷ texts) = (held time name ≡ Some text) × AreHeldFrom held (suc time) names texts
AreHeldFrom held time _ _ = ⊥

-- the first text first
abbrev in_turn : List (List ℕ) → Texts
in_turn [] time name = None
in_turn (text ∷ texts) zero name = Some text
in_turn (text ∷ texts) (suc time) name = in_turn texts time name

held_later : (held late : Texts) (time : ℕ) (names texts : List (List ℕ)) → ((t : ℕ) → held (suc t) ≡ late t) → AreHeldFrom late time names texts
    → AreHeldFrom held (suc time) names texts
held_later held late time [] [] same are = tt
held_later held late time (name ∷ names) (text ∷ texts) same (is, are) =
    (ap (λ (of : List ℕ → Option (List ℕ)). of name) (same time) ∙ is, held_later held late (suc time) names texts same are)
held_later held late time [] (text ∷ texts) same are = absurd are
held_later held late time (name ∷ names) [] same are = absurd are

silent_in_turn : (names texts : List (List ℕ)) → AreHeldTexts None names texts → AreHeldFrom (in_turn texts) 0 names texts
silent_in_turn [] [] are = tt
silent_in_turn (name ∷ names) (text ∷ texts) (is, are) =
    (refl, held_later (in_turn (text ∷ texts)) (in_turn texts) 0 names texts (λ t. refl) (silent_in_turn names texts are))
silent_in_turn [] (text ∷ texts) are = absurd are
silent_in_turn (name ∷ names) [] are = absurd are

told_from : (disk : Disk) (time : ℕ) (names texts : List (List ℕ)) → AreHeldTexts (Some disk) names texts → AreHeldFrom (λ time. disk.held) time names texts
told_from disk time [] [] are = tt
told_from disk time (name ∷ names) (text ∷ texts) (is, are) = (is, told_from disk (suc time) names texts are)
told_from disk time [] (text ∷ texts) are = absurd are
told_from disk time (name ∷ names) [] are = absurd are

-- what holds of the texts that are held, or may be
pub for_texts : (told : Option Disk) (names texts : List (List ℕ)) (P : Texts → Type 0) → AreHeldTexts told names texts
    → ((held : Texts) → AreHeldFrom held 0 names texts → P held) → ForHeld told P
for_texts None names texts P are fact = record { held = in_turn texts; same = tt; holds = fact (in_turn texts) (silent_in_turn names texts are) }
for_texts (Some disk) names texts P are fact =
    record { held = λ time. disk.held; same = λ time. refl; holds = fact (λ time. disk.held) (told_from disk 0 names texts are) }

-- ---- lists that grow

pub texts_push : (told : Option Disk) (names texts : List (List ℕ)) (name text : List ℕ) → AreHeldTexts told names texts → IsHeldText told name text
    → AreHeldTexts told (names ++ name ∷ []) (texts ++ text ∷ [])
texts_push told [] [] name text are is = (is, tt)
texts_push told (first ∷ names) (one ∷ texts) name text are is = (are.0, texts_push told names texts name text are.1 is)
texts_push told [] (one ∷ texts) name text are is = absurd are
texts_push told (first ∷ names) [] name text are is = absurd are

pub reads_push : (texts : List (List ℕ)) (files : List PlainFile) (formulas : List FormulaFile) (text : List ℕ) (file : PlainFile) (formula : FormulaFile)
    → AreReadAs texts files formulas → IsRead text file formula → AreReadAs (texts ++ text ∷ []) (files ++ file ∷ []) (formulas ++ formula ∷ [])
reads_push [] [] [] text file formula are is = (is, tt)
reads_push (one ∷ texts) (first ∷ files) (other ∷ formulas) text file formula are is = (are.0, reads_push texts files formulas text file formula are.1 is)
reads_push [] [] (other ∷ formulas) text file formula are is = absurd are
reads_push [] (first ∷ files) formulas text file formula are is = absurd are
reads_push (one ∷ texts) [] formulas text file formula are is = absurd are
reads_push (one ∷ texts) (first ∷ files) [] text file formula are is = absurd are

-- the text at the end
held_at_end : (held : Texts) (time : ℕ) (names texts : List (List ℕ)) (name text : List ℕ) → AreHeldFrom held time (names ++ name ∷ []) (texts ++ text ∷ [])
    → length texts ≡ length names → AreHeldFrom held time names texts × (held (time + length names) name ≡ Some text)
held_at_end held time [] [] name text are beside = let all : time + 0 ≡ time = omega arith in (tt, ap (λ t. held t name) all ∙ are.0)
held_at_end held time (first ∷ names) (one ∷ texts) name text are beside =
    let fewer : length texts ≡ length names = omega (arith, beside) in
    let (others, last) = held_at_end held (suc time) names texts name text are.1 fewer in
    let same : time + suc (length names) ≡ suc time + length names = omega arith in
    ((are.0, others), ap (λ t. held t name) same ∙ last)
held_at_end held time [] (one ∷ texts) name text are beside = absurd (omega (arith, beside))
held_at_end held time (first ∷ names) [] name text are beside = absurd (omega (arith, beside))

pub beside_texts : (told : Option Disk) (names texts : List (List ℕ)) → AreHeldTexts told names texts → length texts ≡ length names
beside_texts told [] [] are = refl
beside_texts told (name ∷ names) (text ∷ texts) are = ap suc (beside_texts told names texts are.1)
beside_texts told [] (text ∷ texts) are = absurd are
beside_texts told (name ∷ names) [] are = absurd are

-- ---- what is right for the files is right for their names

on_all : (RightFor : List PlainFile → Outcome → Type 0) (held : Texts) (time : ℕ) (read : List PlainFile) (names texts : List (List ℕ)) (files : List PlainFile)
    (formulas : List FormulaFile) (outcome : Outcome) → AreHeldFrom held time names texts → AreReadAs texts files formulas → RightFor (read ++ files) outcome
    → OnFiles held time read names RightFor outcome
on_all RightFor held time read [] [] [] [] outcome there are right = subst (λ files. RightFor files outcome) (append-nil read) right
on_all RightFor held time read (name ∷ names) (text ∷ texts) (file ∷ files) (formula ∷ formulas) outcome (is, there) (one, are) right =
    rw is (Read file one.spelled (on_all RightFor held (suc time) (read ++ file ∷ []) names texts files formulas outcome there are
    (subst (λ files. RightFor files outcome) (sym (append_assoc read (file ∷ []) files)) right)))
on_all RightFor held time read [] [] [] (formula ∷ formulas) outcome there are right = absurd are
on_all RightFor held time read [] [] (file ∷ files) formulas outcome there are right = absurd are
on_all RightFor held time read [] (text ∷ texts) files formulas outcome there are right = absurd there
on_all RightFor held time read (name ∷ names) [] files formulas outcome there are right = absurd there
on_all RightFor held time read (name ∷ names) (text ∷ texts) [] formulas outcome there are right = absurd are
on_all RightFor held time read (name ∷ names) (text ∷ texts) (file ∷ files) [] outcome there are right = absurd are

-- and a text that is refused after the others is right for them
on_refused : (RightFor : List PlainFile → Outcome → Type 0) (held : Texts) (time : ℕ) (read : List PlainFile) (names texts : List (List ℕ)) (files : List PlainFile)
    (formulas : List FormulaFile) (name text : List ℕ) (others : List (List ℕ)) (refusal : Refusal) (number : ℕ) → AreHeldFrom held time names texts
    → AreReadAs texts files formulas → number ≡ time + length names → held number name ≡ Some text → IsRefused text refusal
    → OnFiles held time read (names ++ name ∷ others) RightFor (refused refusal (Number (suc number)))
on_refused RightFor held time read [] [] [] [] name text others refusal number there are same is refuses =
    let now : number ≡ time = omega (arith, same) in
    let here : held time name ≡ Some text = subst (λ t. held t name ≡ Some text) now is in
    rw here (Refused refusal refuses (ap (λ t. refused refusal (Number (suc t))) now))
on_refused RightFor held time read (first ∷ names) (one ∷ texts) (file ∷ files) (formula ∷ formulas) name text others refusal number (here, there) (is_read, are) same is refuses =
    let further : number ≡ suc time + length names = omega (arith, same) in
    rw here (Read file is_read.spelled (on_refused RightFor held (suc time) (read ++ file ∷ []) names texts files formulas name text others refusal number there are further is refuses))
on_refused RightFor held time read [] [] [] (formula ∷ formulas) name text others refusal number there are same is refuses = absurd are
on_refused RightFor held time read [] [] (file ∷ files) formulas name text others refusal number there are same is refuses = absurd are
on_refused RightFor held time read [] (one ∷ texts) files formulas name text others refusal number there are same is refuses = absurd there
on_refused RightFor held time read (first ∷ names) [] files formulas name text others refusal number there are same is refuses = absurd there
on_refused RightFor held time read (first ∷ names) (one ∷ texts) [] formulas name text others refusal number there are same is refuses = absurd are
on_refused RightFor held time read (first ∷ names) (one ∷ texts) (file ∷ files) [] name text others refusal number there are same is refuses = absurd are

have_formulas : (held : Texts) (time : ℕ) (names texts : List (List ℕ)) (files : List PlainFile) (formulas : List FormulaFile) → AreHeldFrom held time names texts
    → AreReadAs texts files formulas → HaveFormulas held time names
have_formulas held time [] texts files formulas there are = tt
have_formulas held time (name ∷ names) (text ∷ texts) (file ∷ files) (formula ∷ formulas) (is, there) (one, are) =
    (record { text = text; there = is; file = file; is = one.spelled }, have_formulas held (suc time) names texts files formulas there are)
have_formulas held time (name ∷ names) [] files formulas there are = absurd there
have_formulas held time (name ∷ names) (text ∷ texts) [] formulas there are = absurd are
have_formulas held time (name ∷ names) (text ∷ texts) (file ∷ files) [] there are = absurd are

-- ---- files that were taken

pub takes_none : (of : Outside) → TakesAll [] [] of of
takes_none of = record {
  texts = [];
  files = [];
  there = tt;
  are = tt;
  asked = asks_none of.asked;
  calls = omega arith;
  opened = refl;
  read = refl;
  held = refl;
}

calls_more : (earlier : List (List ℕ)) (name : List ℕ) (others : List (List ℕ)) (before mid after : ℕ) → mid ≤ before + most_calls earlier → after ≤ mid + most_bytes + 2
    → after ≤ before + most_calls (earlier ++ name ∷ others)
calls_more earlier name others before mid after few further =
    let count = length-append earlier (name ∷ others) in omega arith

-- nothing changes for what is told of before, where what is held is the same
held_before : (told mid : Option Disk) (name text : List ℕ) → held_of mid ≡ held_of told → IsHeldText mid name text → IsHeldText told name text
held_before None None name text same is = tt
held_before (Some disk) (Some other) name text same is =
    let held : other.held ≡ disk.held = some_same other.held disk.held same in
    sym (ap (λ (held : List ℕ → Option (List ℕ)). held name) held) ∙ is
held_before None (Some other) name text same is = let wrong : Some other.held ≡ None = same in cc
held_before (Some disk) None name text same is = let wrong : None ≡ Some disk.held = same in cc

module _ {earlier : List (List ℕ)} {formulas : List FormulaFile} {old mid : Outside} (all : TakesAll earlier formulas old mid) where
  -- one more
  pub takes_more : {T : Type 0} {value : T} (name text : List ℕ) (file : PlainFile) (formula : FormulaFile) (new : Outside) → Takes most_bytes name (Ok value) mid new
      → IsHeldText mid.told name text → IsRead text file formula → TakesAll (earlier ++ name ∷ []) (formulas ++ formula ∷ []) old new
  takes_more name text file formula new takes there is = record {
    texts = all.texts ++ text ∷ [];
    files = all.files ++ file ∷ [];
    there = texts_push old.told earlier all.texts name text all.there (held_before old.told mid.told name text all.held there);
    are = reads_push all.texts all.files formulas text file formula all.are is;
    asked = asks_in_turn old.asked mid.asked new.asked earlier (name ∷ []) all.asked takes.asked;
    calls = calls_more earlier name [] old.calls mid.calls new.calls all.calls takes.calls;
    opened = takes.opened ∙ all.opened;
    read = takes.read ∙ all.read;
    held = takes.held ∙ all.held;
  }

  module _ (name : List ℕ) (others : List (List ℕ)) (RightFor : List PlainFile → Outcome → Type 0) (out : Stream) where
    abbrev names : List (List ℕ)
    names = earlier ++ name ∷ others

    abbrev before : Outside
    before = with_output old out

    explains : (refusal : Refusal) → OnTrue (is_determined (status_of refusal)) (OfHeldText mid.told name (λ text. IsRefused text refusal))
        → IsExplained (OnHeldFiles names RightFor old.told) (Number (suc (length earlier))) refusal
    explains refusal explained = on_true_weaker (is_determined (status_of refusal)) right explained
      where
        right : OfHeldText mid.told name (λ text. IsRefused text refusal) → OnHeldFiles names RightFor old.told (refused refusal (Number (suc (length earlier))))
        right found =
            let beside = beside_texts old.told earlier all.texts all.there in
            for_texts old.told (earlier ++ name ∷ []) (all.texts ++ found.text ∷ []) (λ held. OnFiles held 0 [] names RightFor (refused refusal (Number (suc (length earlier)))))
            (texts_push old.told earlier all.texts name found.text all.there (held_before old.told mid.told name found.text all.held found.there))
            (λ held there.
            let (first, last) = held_at_end held 0 earlier all.texts name found.text there beside in
            let same : 0 + length earlier ≡ length earlier = omega arith in
            on_refused RightFor held 0 [] earlier all.texts all.files formulas name found.text others refusal (length earlier) first all.are (sym same)
            (subst (λ t. held t name ≡ Some found.text) same last) found.is)

    leaves : {T : Type 0} (refusal : Refusal) (new : Outside) → Takes {T = T} most_bytes name (Err refusal) mid new → LeavesFiles names before (with_output new out) []
    leaves refusal new takes =
        for_texts old.told earlier all.texts (λ held. LeavesSet names held before (with_output new out) []) all.there
        (λ held there. record {
          earlier = earlier;
          name = name;
          others = others;
          are = refl;
          asked = asks_in_turn old.asked mid.asked new.asked earlier (name ∷ []) all.asked takes.asked;
          read = reads_from old.told mid.told new.told name (most_bytes + 1) all.held takes.bytes;
          have = have_formulas held 0 earlier all.texts all.files formulas there all.are;
          none = refl;
        })

    -- the next file failed, or is refused
    pub performs_refused : {T : Type 0} (refusal : Refusal) (new : Outside) → Takes {T = T} most_bytes name (Err refusal) mid new
        → OnTrue (is_determined (status_of refusal)) (OfHeldText mid.told name (λ text. IsRefused text refusal))
        → Performs (OnHeldFiles names RightFor old.told) (LeavesFiles names) names (most_calls names) (Err (marked (Number (suc (length earlier))) refusal)) before (with_output new out)
    performs_refused refusal new takes explained =
        let which = Number (suc (length earlier)) in
        let some : (bytes : List ℕ) × LeavesFiles names before (with_output new out) bytes × Appends out.written out.written bytes =
        ([], leaves refusal new takes, nothing_told out.written) in
        let opened = subst (λ n. RisesIf (is_open refusal) n new.open_faults) all.opened takes.opened in
        let read = subst (λ n. RisesIf (is_read refusal) n new.read_faults) all.read takes.read in
        record {
          ends = ends_refused (OnHeldFiles names RightFor old.told) out out refusal (marked which refusal).which takes.taking (marked_none which refusal)
              (marked_explains (OnHeldFiles names RightFor old.told) which refusal (explains refusal explained)) (nothing_told out.written) refl;
          left = on_true _ some;
          asked = asks_further old.asked mid.asked new.asked earlier (name ∷ others) all.asked (1, takes.asked);
          calls = calls_more earlier name others old.calls mid.calls new.calls all.calls takes.calls;
          input = input_of refusal _ _ _ _ takes.taking opened read;
          opened = risen (is_open refusal) _ _ opened;
          read = risen (is_read refusal) _ _ read;
          held = takes.held ∙ all.held;
        }

  -- memory ran out between two files
  pub performs_memory : (others : List (List ℕ)) → StopsTaking (earlier ++ others) (only Memory) old mid
  performs_memory others asked limits tuples out =
      let names = earlier ++ others in
      let RightFor = IsOfSet asked limits tuples in
      let count = length-append earlier others in
      let few = all.calls in
      record {
        ends = ends_refused (OnHeldFiles names RightFor old.told) out out Memory Only refl refl tt (nothing_told out.written) refl;
        left = tt;
        asked = asks_further old.asked mid.asked mid.asked earlier others all.asked (asks_no_prefix mid.asked others);
        calls = omega arith;
        input = (all.opened, all.read);
        opened = tt;
        read = tt;
        held = all.held;
      }

  -- after the last
  pub performs_all : (RightFor : List PlainFile → Outcome → Type 0) {result : Result Status RefusedRun} {out new : Stream} → Answers (RightFor all.files) result out new
      → Performs (OnHeldFiles earlier RightFor old.told) (LeavesFiles earlier) earlier (most_calls earlier) result (with_output old out) (with_output mid new)
  performs_all RightFor {result = result} is =
      let none = no_input_refusal result is.no_input in
      let right : (outcome : Outcome) → RightFor all.files outcome → OnHeldFiles earlier RightFor old.told outcome = λ outcome right.
      for_texts old.told earlier all.texts (λ held. OnFiles held 0 [] earlier RightFor outcome) all.there
      (λ held there. on_all RightFor held 0 [] earlier all.texts all.files formulas outcome there all.are right) in
      record {
        ends = moved right is.ends;
        left = rw is.no_input tt;
        asked = (length earlier, subst (λ names. Asks names old.asked mid.asked) (sym (take-length earlier)) all.asked);
        calls = all.calls;
        input = no_cause (ending result) _ _ _ _ is.no_input (all.opened, all.read);
        opened = rw none.0 tt;
        read = rw none.1 tt;
        held = all.held;
      }

-- ---- the names, as the code has them

pub split_names : (names : List (Bor (List ℕ))) (place : ℕ) (d : Bor (List ℕ)) → place < length names
    → map (λ (name : Bor (List ℕ)). name.now) names
    ≡ map (λ (name : Bor (List ℕ)). name.now) (take place names) ++ (get_or names place d).now ∷ map (λ (name : Bor (List ℕ)). name.now) (drop (suc place) names)
split_names [] place d within = absurd (omega (arith, within))
split_names (name ∷ names) zero d within = refl
split_names (name ∷ names) (suc place) d within = ap (λ others. name.now ∷ others) (split_names names place d (omega (arith, within)))

pub one_name_more : (names : List (Bor (List ℕ))) (place : ℕ) (d : Bor (List ℕ)) → place < length names
    → map (λ (name : Bor (List ℕ)). name.now) (take (suc place) names) ≡ map (λ (name : Bor (List ℕ)). name.now) (take place names) ++ (get_or names place d).now ∷ []
one_name_more [] place d within = absurd (omega (arith, within))
one_name_more (name ∷ names) zero d within = refl
one_name_more (name ∷ names) (suc place) d within = ap (λ others. name.now ∷ others) (one_name_more names place d (omega (arith, within)))

reads_count : (texts : List (List ℕ)) (files : List PlainFile) (formulas : List FormulaFile) → AreReadAs texts files formulas → length formulas ≡ length texts
reads_count [] [] [] are = refl
reads_count (text ∷ texts) (file ∷ files) (formula ∷ formulas) are = ap suc (reads_count texts files formulas are.1)
reads_count [] [] (formula ∷ formulas) are = absurd are
reads_count [] (file ∷ files) formulas are = absurd are
reads_count (text ∷ texts) [] formulas are = absurd are
reads_count (text ∷ texts) (file ∷ files) [] are = absurd are

pub takes_count : (names : List (List ℕ)) (formulas : List FormulaFile) (old new : Outside) → TakesAll names formulas old new → length formulas ≡ length names
takes_count names formulas old new all = reads_count all.texts all.files formulas all.are ∙ beside_texts old.told names all.texts all.there
