-- What a text is that is given as a formula file: refused, or one file.
use Rattle.dcv_cli.proofs.Common.{◌≡◌, ℕ, ◌<◌, List, length, None, Some, arith, PlainFile, SpellsOne, fault_of_file, ScopeFault, Refusal}
use Rattle.dcv_cli.proofs.Common.{IsRefused, TooLong, Faulty, HasNoCore, IsSentence, IsFormulaFile, most_bytes}

-- a text that is too long is no sentence
pub long_or_read : (text : List ℕ) (file : PlainFile) → most_bytes < length text → IsSentence text file → ⊥
long_or_read text file long is = let fits = is.fits in omega arith

-- a file that has a fault is not without one
has_or_none : (f g : PlainFile) (fault : ScopeFault) → f ≡ g → fault_of_file f ≡ Some fault → fault_of_file g ≡ None → ⊥
has_or_none f g fault same has none = let wrong : Some fault ≡ None = cc in cc

module _ (one_tree : SpellsOne) where
  pub one_sentence : (text : List ℕ) (f g : PlainFile) → IsSentence text f → IsSentence text g → f ≡ g
  one_sentence text f g s t = one_tree text f g s.spelled t.spelled

  pub one_file : (text : List ℕ) (f g : PlainFile) → IsFormulaFile text f → IsFormulaFile text g → f ≡ g
  one_file text f g s t = one_sentence text f g s.sentence t.sentence

  -- a text is refused, or is a formula file
  pub refused_or_read : (text : List ℕ) (refusal : Refusal) (file : PlainFile) → IsRefused text refusal → IsFormulaFile text file → ⊥
  refused_or_read text refusal file (TooLong long e) is = long_or_read text file long is.sentence
  refused_or_read text refusal file (Faulty short fault first e) is = is.sentence.no_fault fault first.has
  refused_or_read text refusal file (HasNoCore other holds fault has e) is =
      has_or_none other file fault (one_sentence text other file holds is.sentence) has is.has_core
