-- An encoding of propositions over slots as lists of numbers, and its inverse. The model of `Core` needs it, so that proofs can
-- tell its values apart. A proposition is written after its operands, and is read by a machine with a stack of propositions and one of lists.
use Rattle.std.specs.Prelude.{◌≡◌, ℕ, zero, suc, Bool, true, false, List, [], ◌∷◌, ◌++◌, slice_index_or, refl}
use Rattle.std.specs.Coded.{Coded, code_by, coded×, coded_list, coded_ℕ}
use Rattle.std.proofs.Common.{ap, sym, ◌∙◌}
use Rattle.std.proofs.lemmas.List.{append_assoc, append-nil}
use Rattle.dcv_syntax.specs.declared.names.Span.{Span}
use Rattle.dcv_syntax.specs.declared.propositions.Connective.{Connective}
use Rattle.dcv_syntax.specs.declared.propositions.Connective.TheVariants.{And, Or, Iff}
use Rattle.dcv_syntax.specs.declared.propositions.Direction.{Direction}
use Rattle.dcv_syntax.specs.declared.propositions.Direction.TheVariants.{Prior, Next}
use Rattle.dcv_core.specs.Core.{PlainTruth, TruthConstant, TruthSlot, TruthNot, TruthJoined, TruthShift, PlainTruths, no_truths, truth_operand}

-- what is written: which form it is, and two numbers
abbrev Written : Type 0
Written = List (ℕ × (ℕ × ℕ))

abbrev bit : Bool → ℕ
bit false = 0
bit true = 1

abbrev connective_form : Connective → ℕ
connective_form And = 3
connective_form Or = 4
connective_form Iff = 5

abbrev shift_form : Direction → ℕ
shift_form Prior = 6
shift_form Next = 7

abbrev mutual
  written : PlainTruth → Written
  written (TruthConstant truth) = (0, (bit truth, 0)) ∷ []
  written (TruthSlot slot) = (1, (slot, 0)) ∷ []
  written (TruthNot p) = written p ++ (2, (0, 0)) ∷ []
  written (TruthJoined connective operands) = all_written operands ++ (connective_form connective, (0, 0)) ∷ []
  written (TruthShift direction p span) = written p ++ (shift_form direction, (span.start, span.end)) ∷ []

  all_written : PlainTruths → Written
  all_written no_truths = (8, (0, 0)) ∷ []
  all_written (truth_operand p operands) = written p ++ (all_written operands ++ (9, (0, 0)) ∷ [])

-- ---- the machine

record Stacks : Type 0 where
  truths : List PlainTruth
  lists : List PlainTruths

abbrev with_truth : PlainTruth → Stacks → Stacks
with_truth p s = record s { truths = p ∷ s.truths }

abbrev with_list : PlainTruths → Stacks → Stacks
with_list ps s = record s { lists = ps ∷ s.lists }

abbrev truth_of_bit : ℕ → PlainTruth
truth_of_bit zero = TruthConstant false
truth_of_bit (suc n) = TruthConstant true

abbrev changed : (PlainTruth → PlainTruth) → List PlainTruth → List PlainTruth
changed f [] = []
changed f (p ∷ truths) = f p ∷ truths

abbrev listed : Connective → List PlainTruths → List PlainTruth → Stacks
listed connective [] truths = record { truths = truths; lists = [] }
listed connective (ps ∷ lists) truths = record { truths = TruthJoined connective ps ∷ truths; lists = lists }

abbrev longer : List PlainTruth → List PlainTruths → Stacks
longer (p ∷ truths) (ps ∷ lists) = record { truths = truths; lists = truth_operand p ps ∷ lists }
longer truths lists = record { truths = truths; lists = lists }

-- what the machine does at each form, in the order of their numbers
abbrev actions : List (ℕ → ℕ → Stacks → Stacks)
actions =
    (λ m n s. with_truth (truth_of_bit m) s)
    ∷ (λ m n s. with_truth (TruthSlot m) s)
    ∷ (λ m n s. record s { truths = changed TruthNot s.truths })
    ∷ (λ m n s. listed And s.lists s.truths)
    ∷ (λ m n s. listed Or s.lists s.truths)
    ∷ (λ m n s. listed Iff s.lists s.truths)
    ∷ (λ m n s. record s { truths = changed (λ p. TruthShift Prior p (record { start = m; end = n })) s.truths })
    ∷ (λ m n s. record s { truths = changed (λ p. TruthShift Next p (record { start = m; end = n })) s.truths })
    ∷ (λ m n s. with_list no_truths s)
    ∷ (λ m n s. longer s.truths s.lists)
    ∷ []

abbrev step : ℕ → ℕ → ℕ → Stacks → Stacks
step form = slice_index_or actions form (λ m n s. s)

abbrev run : Written → Stacks → Stacks
run [] s = s
run ((form, (m, n)) ∷ rest) s = run rest (step form m n s)

abbrev first_truth : List PlainTruth → PlainTruth
first_truth [] = TruthConstant false
first_truth (p ∷ truths) = p

abbrev read : Written → PlainTruth
read word = first_truth (run word (record { truths = []; lists = [] })).truths

-- ---- what was written is read

bit-read : (truth : Bool) → truth_of_bit (bit truth) ≡ TruthConstant truth
bit-read false = refl
bit-read true = refl

joined-read : (connective : Connective) (operands : PlainTruths) (s : Stacks)
    → step (connective_form connective) 0 0 (with_list operands s) ≡ with_truth (TruthJoined connective operands) s
joined-read And operands s = refl
joined-read Or operands s = refl
joined-read Iff operands s = refl

shift-read : (direction : Direction) (p : PlainTruth) (span : Span) (s : Stacks)
    → step (shift_form direction) span.start span.end (with_truth p s) ≡ with_truth (TruthShift direction p span) s
shift-read Prior p span s = refl
shift-read Next p span s = refl

mutual
  runs : (p : PlainTruth) (rest : Written) (s : Stacks) → run (written p ++ rest) s ≡ run rest (with_truth p s)
  runs (TruthConstant truth) rest s = ap (λ p. run rest (with_truth p s)) (bit-read truth)
  runs (TruthSlot slot) rest s = refl
  runs (TruthNot p) rest s = ap (λ word. run word s) (append_assoc (written p) ((2, (0, 0)) ∷ []) rest) ∙ runs p ((2, (0, 0)) ∷ rest) s
  runs (TruthJoined connective operands) rest s =
      ap (λ word. run word s) (append_assoc (all_written operands) ((connective_form connective, (0, 0)) ∷ []) rest)
      ∙ all_run operands ((connective_form connective, (0, 0)) ∷ rest) s
      ∙ ap (run rest) (joined-read connective operands s)
  runs (TruthShift direction p span) rest s =
      ap (λ word. run word s) (append_assoc (written p) ((shift_form direction, (span.start, span.end)) ∷ []) rest)
      ∙ runs p ((shift_form direction, (span.start, span.end)) ∷ rest) s
      ∙ ap (run rest) (shift-read direction p span s)

  all_run : (operands : PlainTruths) (rest : Written) (s : Stacks) → run (all_written operands ++ rest) s ≡ run rest (with_list operands s)
  all_run no_truths rest s = refl
  all_run (truth_operand p operands) rest s =
      ap (λ word. run word s) (append_assoc (written p) (all_written operands ++ (9, (0, 0)) ∷ []) rest)
      ∙ runs p ((all_written operands ++ (9, (0, 0)) ∷ []) ++ rest) s
      ∙ ap (λ word. run word (with_truth p s)) (append_assoc (all_written operands) ((9, (0, 0)) ∷ []) rest)
      ∙ all_run operands ((9, (0, 0)) ∷ rest) (with_truth p s)

pub read-written : (p : PlainTruth) → read (written p) ≡ p
read-written p =
    ap (λ word. read word) (sym (append-nil (written p)))
    ∙ ap (λ (s : Stacks). first_truth s.truths) (runs p [] (record { truths = []; lists = [] }))

abbrev pub truth_code : Coded PlainTruth
truth_code = code_by Written (coded_list (coded× coded_ℕ (coded× coded_ℕ coded_ℕ))) written read read-written
