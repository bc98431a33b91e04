-- What is written in two pieces is what is written in one.
use Rattle.std.proofs.Common.{◌≡◌, ℕ, ◌+◌, ◌-◌, ◌≤◌, List, ◌++◌, length, take, drop, Option, Some, None, refl, ap, sym, ◌∙◌, arith, append_assoc, length-append}
use Rattle.std.proofs.lemmas.List.{drop-drop, take_rest, length-drop, take-append-le}
use Rattle.std.proofs.Math.Seq.{take-add, take-append-add}
use Rattle.dcv_io.specs.Written.{appended, Appends, AppendsPrefix, AppendsStrictPrefix}

pub appended-appended : (written : Option (List ℕ)) (first second : List ℕ) → appended (appended written first) second ≡ appended written (first ++ second)
appended-appended None first second = refl
appended-appended (Some before) first second = ap Some (append_assoc before first second)

-- the first n bytes, and then the next k
pub appended-take : (written : Option (List ℕ)) (bytes : List ℕ) (n k : ℕ) → appended (appended written (take n bytes)) (take k (drop n bytes)) ≡ appended written (take (n + k) bytes)
appended-take written bytes n k =
    appended-appended written (take n bytes) (take k (drop n bytes)) ∙ ap (appended written) (sym (take-add n k bytes))

-- n bytes were written, and then k of the rest
pub Appends-more : (first second third : Option (List ℕ)) (bytes rest : List ℕ) (n k : ℕ) → rest ≡ drop n bytes → Appends first second (take n bytes) → Appends second third (take k rest) → Appends first third (take (n + k) bytes)
Appends-more first second third bytes rest n k left before now =
    now ∙ ap (λ x. appended x (take k rest)) before ∙ ap (λ x. appended (appended first (take n bytes)) (take k x)) left ∙ appended-take first bytes n k

pub rest-drop : (bytes rest : List ℕ) (n k : ℕ) → rest ≡ drop n bytes → take (length rest - k) (drop k rest) ≡ drop (n + k) bytes
rest-drop bytes rest n k left = take_rest rest k ∙ ap (drop k) left ∙ drop-drop k n bytes

pub within_both : (bytes rest : List ℕ) (n k : ℕ) → n ≤ length bytes → rest ≡ drop n bytes → k ≤ length rest → n + k ≤ length bytes
within_both bytes rest n k within left fits = omega (arith, ap length left, length-drop n bytes)

-- some bytes but not all are some bytes
pub strict_is_prefix : (old new : Option (List ℕ)) (bytes : List ℕ) → AppendsStrictPrefix old new bytes → AppendsPrefix old new bytes
strict_is_prefix old new bytes part = (part.0, omega (arith, part.1), part.2)

-- these bytes, and then some of the others but not all
pub appends_further : (old mid new : Option (List ℕ)) (first second : List ℕ) → Appends old mid first → AppendsStrictPrefix mid new second → AppendsStrictPrefix old new (first ++ second)
appends_further old mid new first second whole part =
    let taken : take (length first + part.0) (first ++ second) ≡ first ++ take part.0 second = take-append-add first second part.0 in (
      length first + part.0,
      omega (arith, length-append first second, part.1),
      part.2 ∙ ap (λ w. appended w (take part.0 second)) whole ∙ appended-appended old first (take part.0 second) ∙ ap (appended old) (sym taken),
    )

-- some of these bytes but not all, where more were to follow
pub appends_less : (old new : Option (List ℕ)) (first second : List ℕ) → AppendsStrictPrefix old new first → AppendsStrictPrefix old new (first ++ second)
appends_less old new first second part = (
  part.0,
  omega (arith, length-append first second, part.1),
  part.2 ∙ ap (appended old) (sym (take-append-le part.0 first second (omega (arith, part.1)))),
)
