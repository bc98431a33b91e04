-- The least behaviour of which something is true, in shortlex order.
--     IsLeastWhere k P word      P is true of this behaviour, and of none that comes before it
--     IsNoLater first second     the first word is the second, or comes before it
use Rattle.std.specs.Prelude.{◌≢◌, ℕ}
use Rattle.std.specs.declared.cmp.Ordering.TheVariants.{Less, Greater}
use Rattle.dcv_word.specs.Word.{shortlex_order}
use Rattle.dcv_word.specs.Behaviour.{Word, IsBehaviour}

pub record IsLeastWhere (k : ℕ) (P : Word → Type 0) (word : Word) : Type 0 where
  pub behaviour : IsBehaviour k word
  pub member : P word
  pub least : (other : Word) → IsBehaviour k other → P other → shortlex_order other word ≢ Less

abbrev pub IsNoLater : Word → Word → Type 0
IsNoLater first second = shortlex_order first second ≢ Greater
