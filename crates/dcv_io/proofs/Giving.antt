-- What a file gives in two reads is what it gives in one.
use Rattle.std.proofs.Common.{◌≡◌, ℕ, ◌+◌, ◌≤◌, List, ◌++◌, length, Option, Some, None, ap, sym, ◌∙◌, arith, append_assoc, length-append}
use Rattle.dcv_io.specs.Disk.{Disk, WhereTold, Gives, GivesAtMost}

gives_both : (first second third : Disk) (one other : List ℕ) → Gives one first second → Gives other second third → Gives (one ++ other) first third
gives_both first second third one other x y =
    let rest : x.rest ≡ other ++ y.rest = cc in
    record {
      rest = y.rest;
      before = x.before ∙ ap (λ left. Some (one ++ left)) rest ∙ ap Some (sym (append_assoc one other y.rest));
      after = y.after;
    }

pub gives_in_turn : (first second third : Option Disk) (one other : List ℕ) → WhereTold (Gives one) first second → WhereTold (Gives other) second third → WhereTold (Gives (one ++ other)) first third
gives_in_turn None None None one other x y = tt
gives_in_turn None None (Some third) one other x y = absurd y
gives_in_turn None (Some second) third one other x y = absurd x
gives_in_turn (Some first) None third one other x y = absurd x
gives_in_turn (Some first) (Some second) None one other x y = absurd y
gives_in_turn (Some first) (Some second) (Some third) one other x y = gives_both first second third one other x y

-- these bytes, and then at most so many more
pub gives_at_most : (first second third : Option Disk) (one : List ℕ) (more most : ℕ) → GivesAtMost more second third → WhereTold (Gives one) first second → length one + more ≤ most → GivesAtMost most first third
gives_at_most first second third one more most y x fits = record {
  bytes = one ++ y.bytes;
  fits = omega (arith, length-append one y.bytes, y.fits);
  given = gives_in_turn first second third one y.bytes x y.given;
}
