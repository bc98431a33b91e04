-- A set is included in another exactly where no behaviour of it is outside the other.
use Rattle.std.proofs.Common.{◌≡◌, Bool, true, false, not, ◌&&◌, refl, sym}
use Rattle.std.specs.Prelude.{IsTrue}
use Rattle.dcv_implies.specs.Laws.{NoneWhereIncluded, IncludedBothWays}

not_both : (a b : Bool) → IsTrue (not (a && not b)) → IsTrue a → IsTrue b
not_both true true n h = refl
not_both true false n h = absurd cc
not_both false b n h = absurd cc

follows : (a b : Bool) → (IsTrue a → IsTrue b) → IsTrue (not (a && not b))
follows true true h = refl
follows true false h = absurd (let no : IsTrue false = h refl in cc)
follows false b h = refl

both_ways : (a b : Bool) → (IsTrue a → IsTrue b) → (IsTrue b → IsTrue a) → a ≡ b
both_ways true b h g = sym (h refl)
both_ways false true h g = g refl
both_ways false false h g = refl

pub none_where_included : NoneWhereIncluded
none_where_included k L M = (
  λ none word b member. not_both (L word) (M word) (none word b) member,
  λ included word b. follows (L word) (M word) (included word b),
)

pub included_both_ways : IncludedBothWays
included_both_ways k L M here there word b = both_ways (L word) (M word) (here word b) (there word b)
