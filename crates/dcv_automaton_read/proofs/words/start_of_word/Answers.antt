use Rattle.std.proofs.Common.{◌≡◌, ℕ, List, [], ◌∷◌, drop, refl, arith}
use Rattle.dcv_automaton_read.specs.Starts.{start_of_word}
use Rattle.dcv_automaton_read.proofs.words.start_of_word.Goals as goal

here : (text : List ℕ) (left : ℕ) → left ≡ 0 → start_of_word text left ≡ 0
here [] left none = refl
here (b ∷ text) left none = rw none refl

pub returns-then-left-eq0 : goal.returns-then-left-eq0
returns-then-left-eq0 c =
    let found = here (drop c.loop-at.at c.args.text.now) c.loop-at.left (omega arith) in
    omega (arith, found, c.loop-at.invariant)
