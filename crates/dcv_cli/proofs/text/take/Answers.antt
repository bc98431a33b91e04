-- A text that is too long is one of those that are held, or may be.
use Rattle.dcv_cli.proofs.Common.{◌≡◌, ◌∙◌, ◌<◌, ap, arith, refl, subst, suc, Vec, Global, ℕ, List, length, Err, Option, None, Some, Disk, WhereTold, ReadsPast}
use Rattle.dcv_cli.proofs.Common.{OfHeldText}
use Rattle.dcv_io.specs.Taking.{IfTooLong}
use Rattle.std.proofs.Common.{replicate}
use Rattle.std.proofs.Math.ListN.{length-replicate}
use Rattle.dcv_cli.proofs.ThreeEnds.{on_true}
use Rattle.dcv_cli.proofs.text.take.Goals as goal

-- some text is longer than n bytes
longer_text : (n : ℕ) → (text : List ℕ) × (n < length text)
longer_text n = (replicate (suc n) 0, omega (arith, length-replicate {A = ℕ} (suc n) 0))

longer_is_held : (told new : Option Disk) (name : List ℕ) (limit : ℕ) → WhereTold (ReadsPast name limit) told new → OfHeldText told name (λ text. limit < length text)
longer_is_held None None name limit past = let text = longer_text limit in record { text = text.0; there = tt; is = text.1 }
longer_is_held (Some disk) (Some new) name limit past = record { text = past.bytes; there = past.there; is = past.longer }
longer_is_held _ _ name limit past = absurd past

pub returns-in-Err-TooLong-clause-refused : goal.returns-in-Err-TooLong-clause-refused
returns-in-Err-TooLong-clause-refused g c =
    let at = c.in-Err-TooLong in
    let told = g.F.Files.told c.args.files.now in
    let new = g.F.Files.told c.read_all.new.files in
    let found : (c.args.too_long ≡ c.args.too_long) × OfHeldText told c.args.name.now (λ text. c.args.limit < length text) = (
      refl,
      longer_is_held told new c.args.name.now c.args.limit
          (subst (λ (limit : ℕ). WhereTold (ReadsPast c.args.name.now limit) told new) c.from.ensures
          (subst (λ result. IfTooLong {T = Vec ℕ Global} result (λ _. WhereTold (ReadsPast c.args.name.now c.from.result) told new)) (at.is ∙ ap Err at.field-0-is)
          c.read_all.ensures.too_long)),
    ) in
    on_true _ found
