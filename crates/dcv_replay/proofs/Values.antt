-- What holds of a replay holds of one with the same parts.
use Rattle.std.proofs.Common.{◌≡◌, ℕ, List, sym, subst}
use Rattle.dcv_replay.specs.declared.replay.Select.{Select}
use Rattle.dcv_replay.specs.Program.{ReplayValue, Selects}

pub same_parts : (P : ReplayValue → Type 0) (width inputs answer width' inputs' answer' : ℕ) (selects selects' : List Select) (store store' : List ℕ)
    → width' ≡ width → inputs' ≡ inputs → selects' ≡ selects → answer' ≡ answer → store' ≡ store
    → P (record { program = record { width = width; steps = Selects inputs selects answer }; store = store })
    → P (record { program = record { width = width'; steps = Selects inputs' selects' answer' }; store = store' })
same_parts P width inputs answer width' inputs' answer' selects selects' store store' w i s a t fact =
    subst P (λ j. record { program = record { width = sym w j; steps = Selects (sym i j) (sym s j) (sym a j) }; store = sym t j }) fact
