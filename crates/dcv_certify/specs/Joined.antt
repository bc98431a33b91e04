-- For the proofs: which states no suffix tells apart, by the numbers of their entries.
--     joined numbers states first second          two states have one number, or the second has that of the start with its other flag
--     HasMate, HasNoMate ..                       the first state after this one that is joined to it, and that there is none before a place
--     IsFirstJoined, HasNoneJoined ..             the first two states that are joined, and that there are none
--     AreAllOwn numbers                           each entry has its own number
--     IsLeastOther numbers count found            of the first entries with the number of another the one whose number is least, and which is
--                                                 itself the least of these
use Rattle.std.specs.Prelude.{◌≡◌, ◌≢◌, ℕ, ◌<◌, Bool, ◌&&◌, ◌||◌, nat_eq, List, length, Option, None, Some, IsTrue, IsFalse}
use Rattle.dcv_certify.specs.Certified.{IsNoLaterPair}
use Rattle.dcv_certify.specs.Split.{number_at}

abbrev pub joined : List ℕ → ℕ → ℕ → ℕ → Bool
joined numbers states first second =
    nat_eq (number_at numbers first) (number_at numbers second) || (nat_eq first 0 && nat_eq (number_at numbers states) (number_at numbers second))

abbrev pub HasNoMate : List ℕ → ℕ → ℕ → ℕ → Type 0
HasNoMate numbers states first place = (second : ℕ) → first < second → second < place → IsFalse (joined numbers states first second)

pub record HasMate (numbers : List ℕ) (states first second : ℕ) : Type 0 where
  pub behind : first < second
  pub is_state : second < states
  pub is : IsTrue (joined numbers states first second)
  pub none_before : HasNoMate numbers states first second

pub record IsFirstJoined (numbers : List ℕ) (states first second : ℕ) : Type 0 where
  pub mate : HasMate numbers states first second
  pub none_before : (other : ℕ) → other < first → HasNoMate numbers states other states

abbrev pub HasNoneJoined : List ℕ → ℕ → Type 0
HasNoneJoined numbers states = (first : ℕ) → first < states → HasNoMate numbers states first states

-- ---- entries with the number of another

abbrev pub AreOwnBefore : List ℕ → ℕ → Type 0
AreOwnBefore numbers count = (entry : ℕ) → entry < count → number_at numbers entry ≡ entry

abbrev pub AreAllOwn : List ℕ → Type 0
AreAllOwn numbers = AreOwnBefore numbers (length numbers)

pub record IsLeastPair (numbers : List ℕ) (count first second : ℕ) : Type 0 where
  pub is_entry : second < count
  pub number : number_at numbers second ≡ first
  pub other : first ≢ second
  pub least : (entry : ℕ) → entry < count → number_at numbers entry ≢ entry → IsNoLaterPair first second (number_at numbers entry) entry

abbrev pub IsLeastOther : List ℕ → ℕ → Option (ℕ × ℕ) → Type 0
IsLeastOther numbers count None = AreOwnBefore numbers count
IsLeastOther numbers count (Some (first, second)) = IsLeastPair numbers count first second
