-- Commands that go on after their first file: what is right for the rest, after that, is right for all.
use Rattle.dcv_cli.proofs.Common.{◌≡◌, ℕ, ◌+◌, List, [], ◌∷◌, Option, None, Some, Result, Ok, arith, refl, sym, ◌∙◌, subst, if◌then◌else◌, Disk}
use Rattle.dcv_cli.proofs.Common.{held_of, Appends, Texts, ForHeld, IsHeldText, Outcome, Outside, Stream, with_output, Answers, Performs}
use Rattle.dcv_cli.proofs.Common.{Takes, ending, is_input, Status}
use Rattle.std.specs.Prelude.{nat_eq}
use Rattle.dcv_io.proofs.Asking.{asks_further}
use Rattle.dcv_cli.specs.declared.refused.Refused.{Refused}
use Rattle.dcv_cli.proofs.ThreeEnds.{moved, on_true_weaker, performs_none}

-- what is held as the second file is opened, after a text that was held as the first was
abbrev later : List ℕ → Texts → Texts
later text held time name = if nat_eq time 0 then Some text else held 0 name

pub some_same : {T : Type 0} (one other : T) → Some one ≡ Some other → one ≡ other
some_same one other e = cc

pub later_held : (told told' : Option Disk) (name text : List ℕ) (P Q : Texts → Type 0) → held_of told' ≡ held_of told → IsHeldText told name text
    → ((held late : Texts) → held 0 name ≡ Some text → held 1 ≡ late 0 → P late → Q held) → ForHeld told' P → ForHeld told Q
later_held None None name text P Q same there moves is =
    record { held = later text is.held; same = tt; holds = moves (later text is.held) is.held refl refl is.holds }
later_held None (Some disk) name text P Q same there moves is = let wrong : Some disk.held ≡ None = same in cc
later_held (Some disk) None name text P Q same there moves is = let wrong : None ≡ Some disk.held = same in cc
later_held (Some disk) (Some disk') name text P Q same there moves is =
    let held : disk.held ≡ is.held 0 = sym (some_same disk'.held disk.held same) ∙ sym (is.same 0) in
    record { held = λ time. disk.held; same = λ time. refl; holds = moves (λ time. disk.held) is.held there held is.holds }

-- the first file was taken
module _ {T : Type 0} {value : T} {first : List ℕ} {old mid : Outside} {limit : ℕ} (takes : Takes limit first (Ok value) old mid) (out : Stream) where
  abbrev before : Outside
  before = with_output old out

  -- what is seen after it, but for these counts
  abbrev counted : ℕ → ℕ → Outside
  counted opened read = record before { told = mid.told; asked = mid.asked; calls = mid.calls; open_faults = opened; read_faults = read }

  module _ {One Other : Outcome → Type 0} (moves : (outcome : Outcome) → One outcome → Other outcome) (result : Result Status Refused) where
    pub performs_later : {Left Leaves : Outside → Outside → List ℕ → Type 0} (others : List (List ℕ)) (calls : ℕ) (after : Outside)
        → ((bytes : List ℕ) → Left (counted old.open_faults old.read_faults) after bytes → Leaves before after bytes)
        → Performs One Left others calls result (with_output mid out) after → Performs Other Leaves (first ∷ others) (limit + 2 + calls) result before after
    performs_later {Left = Left} {Leaves = Leaves} others calls after leaves given =
        let is = subst (λ n. Performs One Left others calls result (counted old.open_faults n) after) takes.read
        (subst (λ n. Performs One Left others calls result (counted n mid.read_faults) after) takes.opened given) in
        let left : (some : (bytes : List ℕ) × Left (counted old.open_faults old.read_faults) after bytes × Appends out.written after.written bytes)
        → (bytes : List ℕ) × Leaves before after bytes × Appends out.written after.written bytes = λ some. (some.0, leaves some.0 some.1, some.2) in
        record {
          ends = moved moves is.ends;
          left = on_true_weaker (is_input (ending result)) left is.left;
          asked = asks_further old.asked mid.asked after.asked (first ∷ []) others takes.asked is.asked;
          calls = let few = takes.calls in let further = is.calls in omega arith;
          input = is.input;
          opened = is.opened;
          read = is.read;
          held = is.held ∙ takes.held;
        }

    -- no other file is read
    pub performs_answered : {Leaves : Outside → Outside → List ℕ → Type 0} (new : Stream) → Answers One result out new
        → Performs Other Leaves (first ∷ []) (limit + 2) result before (with_output mid new)
    performs_answered {Leaves = Leaves} new answers =
        let all : limit + 2 + 0 ≡ limit + 2 = omega arith in
        subst (λ most. Performs Other Leaves (first ∷ []) most result before (with_output mid new)) all
        (performs_later [] 0 (with_output mid new) (λ bytes none. absurd none) (performs_none {Left = λ _ _ _. ⊥} [] 0 mid answers))
