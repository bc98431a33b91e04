-- The files of a set over the names of all of them: what the loops over them keep, and what is right at their end.
use Rattle.dcv_cli.proofs.Common.{◌≡◌, ℕ, ◌+◌, ◌<◌, zero, suc, List, [], ◌∷◌, ◌++◌, length, take, drop, map, get_or, Option, None, Some, arith, refl, sym, ap, ◌∙◌}
use Rattle.dcv_cli.proofs.Common.{subst, inl, inr, IsTrue, OnTrue, option_map, Language, raw_accepts, RawValue, Limits, PlainFile, Outcome}
use Rattle.dcv_cli.proofs.Common.{IsRead, Refusal, Only, IsExplained, NamesFirstOver, Budget, Memory, refused as refused_as, only, status_of, has_cause}
use Rattle.dcv_cli.proofs.Common.{is_of_text, is_determined}
use Rattle.std.specs.List.{All}
use Rattle.std.specs.Option.{option_or}
use Rattle.dcv_command.specs.declared.words.SetQuestion.{SetQuestion}
use Rattle.dcv_command.specs.declared.words.SetQuestion.TheVariants.{Together, Follows}
use Rattle.dcv_joint.specs.Faults.{most_names, too_many_at}
use Rattle.dcv_joint.specs.Names.{HasAll, joint_from, joint_names, with_new}
use Rattle.dcv_joint.specs.Laws.{JointHasEach}
use Rattle.dcv_together.specs.Answers.{Answer, TooMany, Least, IsFollowingFirst}
use Rattle.dcv_together.specs.Laws.{HaveSameBehavioursEach, PossibleOfSets, StuckOfSets, FollowingOfSets}
use Rattle.dcv_cli.specs.FileSet.{AreBudgeted, FewFollowing, FewTuples, IsAnswered, IsOfSet, Joined, ManyNames, OverLimits, OverSlots}
use Rattle.dcv_cli.specs.FileSet.{TooManyFollowing, TooManyTuples, WithinLimits, extra_in, joint_of, models_over, own_names, steps_over}
use Rattle.dcv_cli.specs.Joined.{AreAutosOver, AreRead, AreReadAs, ExtraAt, FewSlots, FilesAreOver, IsExtraName, IsJoinedSet, IsRefusedOver, IsUnjoined}
use Rattle.dcv_cli.specs.Joined.{IsAutoOver, IsWhole, ManySlots, NamesAreMany, NoMemory, NoMemoryForAutos, NoMemoryForNames, OverAt}
use Rattle.dcv_cli.specs.Joined.{ExtraName, IsJoint, IsRefusedName, NoMemoryForName}
use Rattle.dcv_cli.specs.declared.file_set.JoinedSet.{JoinedSet}
use Rattle.dcv_cli.specs.declared.formula_file.FormulaFile.{FormulaFile}
use Rattle.dcv_cli.specs.declared.refused.Refused.{Refused}
use Rattle.dcv_cli.specs.declared.refused.Which.TheVariants.{Number}
use Rattle.dcv_cli.specs.Refusal.{marked}
use Rattle.dcv_cli.proofs.Outcomes.{over_is_of_text}
use Rattle.dcv_cli.proofs.ThreeEnds.{marked_explains, marked_none, on_true_weaker}
use Rattle.std.proofs.Common.{drop_of_length-le, ◌≤◌}
use Rattle.std.proofs.lemmas.List.Elements.{All-cons, All-nil}

-- ---- the file at a place

pub next : (place : ℕ) → suc place ≡ place + 1
next place = omega arith

pub record IsReadAt (files : List PlainFile) (place : ℕ) (formula : FormulaFile) : Type 0 where
  pub file : PlainFile
  pub text : List ℕ
  pub is : IsRead text file formula
  pub rest : drop place files ≡ file ∷ drop (suc place) files
  pub front : files ≡ take place files ++ file ∷ drop (suc place) files
  pub count : length (take place files) ≡ place
  pub further : take (suc place) files ≡ take place files ++ file ∷ []

pub read_at : (files : List PlainFile) (formulas : List FormulaFile) (place : ℕ) (d : FormulaFile) → AreRead files formulas → place < length formulas
    → IsReadAt files place (get_or formulas place d)
read_at [] [] place d are within = absurd (omega (arith, within))
read_at (file ∷ files) (formula ∷ formulas) zero d ((text, is), are) within =
    record { file = file; text = text; is = is; rest = refl; front = refl; count = refl; further = refl }
read_at (file ∷ files) (formula ∷ formulas) (suc place) d (first, are) within =
    let at = read_at files formulas place d are (omega (arith, within)) in
    record {
      file = at.file;
      text = at.text;
      is = at.is;
      rest = at.rest;
      front = ap (λ files. file ∷ files) at.front;
      count = ap suc at.count;
      further = ap (λ files. file ∷ files) at.further;
    }
read_at [] (formula ∷ formulas) place d are within = absurd are
read_at (file ∷ files) [] place d are within = absurd are

pub read_count : (files : List PlainFile) (formulas : List FormulaFile) → AreRead files formulas → length files ≡ length formulas
read_count [] [] are = refl
read_count (file ∷ files) (formula ∷ formulas) are = ap suc (read_count files formulas are.1)
read_count [] (formula ∷ formulas) are = absurd are
read_count (file ∷ files) [] are = absurd are

-- the texts do not matter any more
pub reads_only : (texts : List (List ℕ)) (files : List PlainFile) (formulas : List FormulaFile) → AreReadAs texts files formulas → AreRead files formulas
reads_only [] [] [] are = tt
reads_only (text ∷ texts) (file ∷ files) (formula ∷ formulas) are = ((text, are.0), reads_only texts files formulas are.1)
reads_only [] [] (formula ∷ formulas) are = absurd are
reads_only [] (file ∷ files) formulas are = absurd are
reads_only (text ∷ texts) [] formulas are = absurd are
reads_only (text ∷ texts) (file ∷ files) [] are = absurd are

-- ---- names

-- the names of the files before this place are joined
pub record AreJoining (files : List PlainFile) (joint : List (List ℕ)) (place : ℕ) : Type 0 where
  pub extra : extra_in [] 1 files ≡ extra_in joint (suc place) (drop place files)
  pub names : joint_of files ≡ joint_from joint (map own_names (drop place files))

pub joining_begins : (files : List PlainFile) → AreJoining files [] 0
joining_begins files = record { extra = refl; names = refl }

module _ {files : List PlainFile} {joint : List (List ℕ)} {place : ℕ} (so : AreJoining files joint place) {formula : FormulaFile} (at : IsReadAt files place formula) where
  there : extra_in [] 1 files ≡ extra_in joint (suc place) (at.file ∷ drop (suc place) files)
  there = so.extra ∙ ap (extra_in joint (suc place)) at.rest

  pub joining_goes_on : too_many_at most_names joint at.file.variables ≡ None → AreJoining files (with_new joint (own_names at.file)) (suc place)
  joining_goes_on fit = record {
    extra = there ∙ ap (λ (found : Option ℕ). option_or (option_map (λ at. (suc place, at)) found) (extra_in (with_new joint (own_names at.file)) (suc (suc place)) (drop (suc place) files))) fit;
    names = so.names ∙ ap (λ files. joint_from joint (map own_names files)) at.rest;
  }

  pub joining_stops : (byte : ℕ) → too_many_at most_names joint at.file.variables ≡ Some byte → extra_in [] 1 files ≡ Some (suc place, byte)
  joining_stops byte extra =
      there ∙ ap (λ (found : Option ℕ). option_or (option_map (λ at. (suc place, at)) found) (extra_in (with_new joint (own_names at.file)) (suc (suc place)) (drop (suc place) files))) extra

  pub joining_refused : (refusal : Refusal) → IsRefusedName joint at.file.variables refusal → IsExtraName files (marked (Number (suc place)) refusal)
  joining_refused refusal (ExtraName byte extra e) =
      subst (λ (refusal : Refusal). IsExtraName files (marked (Number (suc place)) refusal)) (sym e) (ExtraAt (suc place) byte (joining_stops byte extra) refl)
  joining_refused refusal (NoMemoryForName e) = subst (λ (refusal : Refusal). IsExtraName files (marked (Number (suc place)) refusal)) (sym e) (NoMemoryForNames refl)

pub joining_ends : (files : List PlainFile) (formulas : List FormulaFile) (joint : List (List ℕ)) (place : ℕ) → AreRead files formulas → length formulas ≤ place
    → AreJoining files joint place → IsJoint files joint
joining_ends files formulas joint place are past so =
    let count = read_count files formulas are in
    let none : drop place files ≡ [] = drop_of_length-le files (omega (arith, past, count)) in
    record {
      fits = so.extra ∙ ap (extra_in joint (suc place)) none;
      is = sym (so.names ∙ ap (λ files. joint_from joint (map own_names files)) none);
    }

-- ---- automata

pub autos_push : (limits : Limits) (joint : List (List ℕ)) (files : List PlainFile) (autos : List RawValue) (file : PlainFile) (auto : RawValue)
    → AreAutosOver limits joint files autos → IsAutoOver limits joint file auto → AreAutosOver limits joint (files ++ file ∷ []) (autos ++ auto ∷ [])
autos_push limits joint [] [] file auto are is = (is, tt)
autos_push limits joint (first ∷ files) (one ∷ autos) file auto are is = (are.0, autos_push limits joint files autos file auto are.1 is)
autos_push limits joint [] (one ∷ autos) file auto are is = absurd are
autos_push limits joint (first ∷ files) [] file auto are is = absurd are

own_of_all : (earlier others : List PlainFile) (file : PlainFile) → map own_names (earlier ++ file ∷ others) ≡ map own_names earlier ++ own_names file ∷ map own_names others
own_of_all [] others file = refl
own_of_all (first ∷ earlier) others file = ap (λ lists. own_names first ∷ lists) (own_of_all earlier others file)

-- the joint names of the files have those of each file
pub has_own : JointHasEach → (files earlier others : List PlainFile) (file : PlainFile) → files ≡ earlier ++ file ∷ others → HasAll (joint_of files) (own_names file)
has_own each files earlier others file are =
    subst (λ lists. HasAll (joint_names lists) (own_names file)) (sym (ap (map own_names) are ∙ own_of_all earlier others file))
    (each (map own_names earlier) (map own_names others) (own_names file))

-- what can be asked of the set
pub whole : (limits : Limits) (joint : List (List ℕ)) (files : List PlainFile) (autos : List RawValue) → AreAutosOver limits joint files autos
    → (length autos ≡ length files) × All (λ (auto : RawValue). auto.arena.slots ≡ length joint) autos
whole limits joint [] [] are = (refl, All-nil (λ (auto : RawValue). auto.arena.slots ≡ length joint))
whole limits joint (file ∷ files) (auto ∷ autos) (is, are) =
    let others = whole limits joint files autos are in
    (ap suc others.0, All-cons (λ (auto : RawValue). auto.arena.slots ≡ length joint) auto autos is.slots others.1)
whole limits joint [] (auto ∷ autos) are = absurd are
whole limits joint (file ∷ files) [] are = absurd are

pub is_whole : (limits : Limits) (files : List PlainFile) (set : JoinedSet) → 0 < length files → IsJoinedSet limits files set → IsWhole set
is_whole limits files set some is =
    let of = whole limits (joint_of files) files set.autos.items is.autos in
    let count = of.0 in
    record {
      some = omega (arith, some, count);
      widths = subst (λ (names : List (List ℕ)). All (λ (auto : RawValue). auto.arena.slots ≡ length names) set.autos.items) (sym is.names.is) of.1;
    }

-- ---- what is right for the automata is right for the files

-- files that are within the limits have what is right otherwise
pub all_within : (limits : Limits) (joint : List (List ℕ)) (number : ℕ) (files : List PlainFile) (autos : List RawValue) (RightFor : Outcome → Type 0) (outcome : Outcome)
    → AreAutosOver limits joint files autos → RightFor outcome → AreBudgeted limits joint number RightFor files outcome
all_within limits joint number [] [] RightFor outcome are right = right
all_within limits joint number (file ∷ files) (auto ∷ autos) RightFor outcome (is, are) right =
    WithinLimits is.fits is.within (all_within limits joint (suc number) files autos RightFor outcome are right)
all_within limits joint number [] (auto ∷ autos) RightFor outcome are right = absurd are
all_within limits joint number (file ∷ files) [] RightFor outcome are right = absurd are

-- and the first that is not is named after them
module _ (limits : Limits) (joint : List (List ℕ)) (RightFor : Outcome → Type 0) where
  over_here : (number : ℕ) (file : PlainFile) (files : List PlainFile) (refusal : Refusal) → IsRefusedOver limits joint file refusal
      → IsExplained (AreBudgeted limits joint number RightFor (file ∷ files)) (Number number) refusal
  over_here number file files refusal (ManySlots few e) = subst (IsExplained (AreBudgeted limits joint number RightFor (file ∷ files)) (Number number)) (sym e) (OverSlots few refl)
  over_here number file files refusal (NoMemory e) = subst (IsExplained (AreBudgeted limits joint number RightFor (file ∷ files)) (Number number)) (sym e) tt
  over_here number file files refusal (FewSlots fits names) = by refusal names
    where
      by : (refusal : Refusal) → NamesFirstOver (steps_over joint file) limits refusal → IsExplained (AreBudgeted limits joint number RightFor (file ∷ files)) (Number number) refusal
      by (Budget over) is = OverLimits fits over is refl
      by Memory is = tt
      by _ is = absurd is

  over_later : (number : ℕ) (earlier : List PlainFile) (autos : List RawValue) (file : PlainFile) (others : List PlainFile) (refusal : Refusal)
      → AreAutosOver limits joint earlier autos → IsRefusedOver limits joint file refusal
      → IsExplained (AreBudgeted limits joint number RightFor (earlier ++ file ∷ others)) (Number (number + length earlier)) refusal
  over_later number [] [] file others refusal are is =
      let same : number + 0 ≡ number = omega arith in
      subst (λ n. IsExplained (AreBudgeted limits joint number RightFor (file ∷ others)) (Number n) refusal) (sym same) (over_here number file others refusal is)
  over_later number (first ∷ earlier) (auto ∷ autos) file others refusal (one, are) is =
      let same : suc number + length earlier ≡ number + suc (length earlier) = omega arith in
      on_true_weaker (is_determined (status_of refusal)) (λ right. WithinLimits one.fits one.within right)
      (subst (λ n. IsExplained (AreBudgeted limits joint (suc number) RightFor (earlier ++ file ∷ others)) (Number n) refusal) same
      (over_later (suc number) earlier autos file others refusal are is))
  over_later number [] (auto ∷ autos) file others refusal are is = absurd are
  over_later number (first ∷ earlier) [] file others refusal are is = absurd are

refused_is_of_text : (limits : Limits) (joint : List (List ℕ)) (file : PlainFile) (refusal : Refusal) → IsRefusedOver limits joint file refusal → IsTrue (is_of_text refusal)
refused_is_of_text limits joint file refusal (ManySlots few e) = subst (λ (r : Refusal). IsTrue (is_of_text r)) (sym e) refl
refused_is_of_text limits joint file refusal (NoMemory e) = subst (λ (r : Refusal). IsTrue (is_of_text r)) (sym e) refl
refused_is_of_text limits joint file refusal (FewSlots fits names) = over_is_of_text (steps_over joint file) limits refusal names

-- what is known of a refusal of the set
pub record IsSetRefusal (Right : Outcome → Type 0) (refused : Refused) : Type 0 where
  pub explained : IsExplained Right refused.which refused.refusal
  pub own : IsTrue (is_of_text refused.refusal)
  pub of_none : OnTrue (has_cause (status_of refused.refusal)) (refused.which ≡ Only)

only_memory : (Right : Outcome → Type 0) → IsSetRefusal Right (only Memory)
only_memory Right = record { explained = tt; own = refl; of_none = refl }

pub unjoined : (question : SetQuestion) (limits : Limits) (tuples : ℕ) (files : List PlainFile) (refused : Refused) → IsUnjoined limits files refused
    → IsSetRefusal (IsOfSet question limits tuples files) refused
unjoined question limits tuples files refused (NamesAreMany (ExtraAt number at extra e)) =
    subst (IsSetRefusal (IsOfSet question limits tuples files)) (sym e) (record { explained = ManyNames number at extra refl; own = refl; of_none = tt })
unjoined question limits tuples files refused (NamesAreMany (NoMemoryForNames e)) = subst (IsSetRefusal (IsOfSet question limits tuples files)) (sym e) (only_memory _)
unjoined question limits tuples files refused (FilesAreOver fits (NoMemoryForAutos e)) = subst (IsSetRefusal (IsOfSet question limits tuples files)) (sym e) (only_memory _)
unjoined question limits tuples files refused (FilesAreOver fits (OverAt first)) =
    subst (IsSetRefusal (IsOfSet question limits tuples files)) (sym first.is)
    (record {
      explained = marked_explains (IsOfSet question limits tuples files) (Number (suc (length first.earlier))) first.refusal
          (on_true_weaker (is_determined (status_of first.refusal)) right
          (subst (λ n. IsExplained (AreBudgeted limits (joint_of files) 1 (IsAnswered question tuples (joint_of files) (map (models_over (joint_of files)) files))
          (first.earlier ++ first.file ∷ first.others)) (Number n) first.refusal) one_more
          (over_later limits (joint_of files) (IsAnswered question tuples (joint_of files) (map (models_over (joint_of files)) files)) 1 first.earlier first.autos first.file
          first.others first.refusal first.within first.is_refused)));
      own = refused_is_of_text limits (joint_of files) first.file first.refusal first.is_refused;
      of_none = marked_none (Number (suc (length first.earlier))) first.refusal;
    })
  where
    one_more : 1 + length first.earlier ≡ suc (length first.earlier)
    one_more = omega arith

    right : AreBudgeted limits (joint_of files) 1 (IsAnswered question tuples (joint_of files) (map (models_over (joint_of files)) files)) (first.earlier ++ first.file ∷ first.others)
        (refused_as first.refusal (Number (suc (length first.earlier)))) → IsOfSet question limits tuples files (refused_as first.refusal (Number (suc (length first.earlier))))
    right budgeted =
        Joined fits (subst (λ listed. AreBudgeted limits (joint_of files) 1 (IsAnswered question tuples (joint_of files) (map (models_over (joint_of files)) files)) listed
        (refused_as first.refusal (Number (suc (length first.earlier))))) (sym first.are) budgeted)

same_each : (limits : Limits) (joint : List (List ℕ)) (files : List PlainFile) (autos : List RawValue) → AreAutosOver limits joint files autos
    → HaveSameBehavioursEach (length joint) (map raw_accepts autos) (map (models_over joint) files)
same_each limits joint [] [] are = tt
same_each limits joint (file ∷ files) (auto ∷ autos) (is, are) = (is.same, same_each limits joint files autos are)
same_each limits joint [] (auto ∷ autos) are = absurd are
same_each limits joint (file ∷ files) [] are = absurd are

module _ (possible_same : PossibleOfSets) (stuck_same : StuckOfSets) (following_same : FollowingOfSets) where
  following_first : (limit k : ℕ) (Ls Ms : List Language) (answer : Answer) → HaveSameBehavioursEach k Ls Ms → IsFollowingFirst limit k Ls answer → IsFollowingFirst limit k Ms answer
  following_first limit k (L ∷ Ls) (M ∷ Ms) answer (first, others) is = following_same limit k L M Ls Ms answer first others is
  following_first limit k [] Ms answer same is = absurd is
  following_first limit k (L ∷ Ls) [] answer same is = absurd same

  answered_same : (question : SetQuestion) (tuples : ℕ) (names : List (List ℕ)) (Ls Ms : List Language) (outcome : Outcome)
      → HaveSameBehavioursEach (length names) Ls Ms → IsAnswered question tuples names Ls outcome → IsAnswered question tuples names Ms outcome
  answered_same Together tuples names Ls Ms outcome same (TooManyTuples (inl is) e) = TooManyTuples (inl (possible_same tuples (length names) Ls Ms TooMany same is)) e
  answered_same Together tuples names Ls Ms outcome same (TooManyTuples (inr is) e) = TooManyTuples (inr (stuck_same tuples (length names) Ls Ms TooMany same is)) e
  answered_same Together tuples names Ls Ms outcome same (FewTuples example stuck is is' e) =
      FewTuples example stuck (possible_same tuples (length names) Ls Ms (Least example) same is) (stuck_same tuples (length names) Ls Ms (Least stuck) same is') e
  answered_same Follows tuples names Ls Ms outcome same (TooManyFollowing is e) = TooManyFollowing (following_first tuples (length names) Ls Ms TooMany same is) e
  answered_same Follows tuples names Ls Ms outcome same (FewFollowing least is e) = FewFollowing least (following_first tuples (length names) Ls Ms (Least least) same is) e

  pub answers_set : (question : SetQuestion) (limits : Limits) (tuples : ℕ) (files : List PlainFile) (set : JoinedSet) → IsJoinedSet limits files set → (outcome : Outcome)
      → IsAnswered question tuples set.joint (map raw_accepts set.autos.items) outcome → IsOfSet question limits tuples files outcome
  answers_set question limits tuples files set is outcome answered =
      let joint = joint_of files in
      let right = answered_same question tuples joint (map raw_accepts set.autos.items) (map (models_over joint) files) outcome
      (same_each limits joint files set.autos.items is.autos)
      (subst (λ names. IsAnswered question tuples names (map raw_accepts set.autos.items) outcome) is.names.is answered) in
      Joined is.names.fits (all_within limits joint 1 files set.autos.items (IsAnswered question tuples joint (map (models_over joint) files)) outcome is.autos right)
