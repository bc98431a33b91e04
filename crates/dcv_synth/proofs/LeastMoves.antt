-- The least moves of the states that have a rank beat every controller.
use Rattle.std.proofs.Common.{◌≡◌, ◌⊎◌, inl, inr, ⊎_elim, ℕ, zero, suc, ◌+◌, ◌<◌, ◌≤◌, Bool, true, false, not, ◌||◌, List, [], ◌∷◌, ◌++◌, length, refl, ap, sym, ◌∙◌, subst, arith}
use Rattle.std.proofs.lemmas.Bool.{true≢false}
use Rattle.dcv_word.specs.Behaviour.{Word, IsBehaviour}
use Rattle.dcv_language.specs.Automaton.{Automaton, state_from, state_after, accepts}
use Rattle.dcv_language.proofs.Behaviours.{Widths, Widths-append, one_letter}
use Rattle.dcv_synth.specs.Game.{Controller, Environment, HasWidth, play_after, play, IsBeatenBy}
use Rattle.dcv_synth.specs.Tracks.{least_track}
use Rattle.dcv_synth.specs.Winning.{leads, is_lost, is_losing, is_beaten, IsRank}
use Rattle.dcv_synth.specs.Play.{IsStartOr, environment_of, MovesSo}
use Rattle.dcv_synth.specs.Laws.{LeastMovesBeat}
use Rattle.dcv_synth.proofs.Tracks.{each-at, least-has}

state-append : (automaton : Automaton ℕ) (state : ℕ) (word : Word) (letter : List Bool)
    → state_from automaton state (word ++ letter ∷ []) ≡ automaton.next (state_from automaton state word) letter
state-append automaton state [] letter = refl
state-append automaton state (first ∷ word) letter = state-append automaton (automaton.next state first) word letter

record Ranked (n m : ℕ) (automaton : Automaton ℕ) (state bound : ℕ) : Type 0 where
  pub rank : ℕ
  pub is : IsRank n m automaton state rank
  pub within : rank ≤ bound

module _ (n m : ℕ) (automaton : Automaton ℕ) where
  first_from : (state count from : ℕ) → is_beaten n m automaton (from + count) state ≡ true → ((other : ℕ) → other < from → is_beaten n m automaton other state ≡ false)
      → Ranked n m automaton state (from + count)
  first_from state zero from e below =
      let here : from + 0 ≡ from = omega arith in
      record { rank = from; is = record { beaten = ap (λ b. is_beaten n m automaton b state) (sym here) ∙ e; least = below }; within = omega arith }
  first_from state (suc count) from e below =
      let next : suc from + count ≡ from + suc count = omega arith in
      by (is_beaten n m automaton from state) refl
      (λ more. subst (Ranked n m automaton state) next (first_from state count (suc from) (ap (λ b. is_beaten n m automaton b state) next ∙ e) more))
    where
      by : (b : Bool) → is_beaten n m automaton from state ≡ b → (((other : ℕ) → other < suc from → is_beaten n m automaton other state ≡ false) → Ranked n m automaton state (from + suc count))
          → Ranked n m automaton state (from + suc count)
      by true is go = record { rank = from; is = record { beaten = is; least = below }; within = omega arith }
      by false is go =
          go (λ other h. ⊎_elim
          (λ less. below other less)
          (λ same. ap (λ b. is_beaten n m automaton b state) same ∙ is)
          (last other h))
        where
          last : (other : ℕ) → other < suc from → (other < from) ⊎ (other ≡ from)
          last other h = grind arith

  rank_within : (state bound : ℕ) → is_beaten n m automaton bound state ≡ true → Ranked n m automaton state bound
  rank_within state bound e =
      let same : 0 + bound ≡ bound = omega arith in
      subst (Ranked n m automaton state) same (first_from state bound 0 (ap (λ b. is_beaten n m automaton b state) same ∙ e) (λ other h. absurd (omega arith)))

record Falls (automaton : Automaton ℕ) (environment : Environment) (controller : Controller) (before : List (List Bool)) (letters : Word) (state rank : ℕ) : Type 0 where
  pub count : ℕ
  pub some : 0 < count
  pub within : count ≤ rank
  pub rejected : automaton.accepting (state_from automaton state (play_after environment controller before letters count)) ≡ false

module _ (n m : ℕ) (automaton : Automaton ℕ) (moves : ℕ → List Bool) (so : MovesSo n m automaton moves)
    (controller : Controller) (wide : HasWidth n m controller) where
  abbrev environment : Environment
  environment = environment_of automaton moves

  falls : (bound rank : ℕ) (before : List (List Bool)) (letters : Word) (state : ℕ) → rank ≤ bound → state_after automaton letters ≡ state
      → IsStartOr automaton automaton.accepting state → IsRank n m automaton state rank → Widths n before
      → Falls automaton environment controller before letters state rank
  falls bound zero before letters state within at from is w = absurd (true≢false (sym is.beaten))
  falls zero (suc rank) before letters state within at from is w = absurd (omega arith)
  falls (suc bound) (suc rank) before letters state within at from is w =
      let beaten = is_beaten n m automaton rank in
      let so_far = before ++ environment letters ∷ [] in
      let letter = environment letters ++ controller so_far in
      let next = automaton.next state letter in
      let move : environment letters ≡ least_track n (is_losing m automaton beaten state) = ap moves at ∙ so.least state (suc rank) from is in
      let losing : is_losing m automaton beaten state (environment letters) ≡ true = ap (is_losing m automaton beaten state) move ∙ least-has n (is_losing m automaton beaten state) is.beaten in
      let inputs : IsBehaviour n so_far = record {
        nonempty = omega (arith, length-push before (environment letters));
        widths = Widths-append n before (environment letters ∷ []) w (one_letter n (environment letters) (so.width (state_after automaton letters)));
      } in
      let lost : is_lost automaton beaten next ≡ true = each-at m (λ output. is_lost automaton beaten (leads automaton state (environment letters) output)) losing (controller so_far) (wide so_far inputs) in
      let after : state_after automaton (letters ++ letter ∷ []) ≡ next = state-append automaton automaton.start letters letter ∙ ap (λ s. automaton.next s letter) at in
      by (automaton.accepting next) refl lost
      (λ accepting ranked. falls bound ranked.rank so_far (letters ++ letter ∷ []) next (omega (arith, within, ranked.within)) after (inr accepting) ranked.is inputs.widths)
    where
      length-push : (xs : List (List Bool)) (x : List Bool) → length (xs ++ x ∷ []) ≡ suc (length xs)
      length-push [] x = refl
      length-push (y ∷ xs) x = ap suc (length-push xs x)

      so_far : List (List Bool)
      so_far = before ++ environment letters ∷ []

      letter : List Bool
      letter = environment letters ++ controller so_far

      next : ℕ
      next = automaton.next state letter

      by : (b : Bool) → automaton.accepting next ≡ b → (not (automaton.accepting next) || is_beaten n m automaton rank next) ≡ true
          → (automaton.accepting next ≡ true → (ranked : Ranked n m automaton next rank) → Falls automaton environment controller so_far (letters ++ letter ∷ []) next ranked.rank)
          → Falls automaton environment controller before letters state (suc rank)
      by false e lost go = record { count = 1; some = omega arith; within = omega arith; rejected = e }
      by true e lost go =
          let ranked = rank_within n m automaton next rank (later (automaton.accepting next) (is_beaten n m automaton rank next) e lost) in
          let rest = go e ranked in
          record { count = suc rest.count; some = omega arith; within = omega (arith, rest.within, ranked.within); rejected = rest.rejected }
        where
          later : (a b : Bool) → a ≡ true → (not a || b) ≡ true → b ≡ true
          later true b e h = h
          later false b e h = absurd (true≢false (sym e))

  falls_from_start : (rank : ℕ) → IsRank n m automaton automaton.start rank → IsBeatenBy (accepts automaton) environment rank controller
  falls_from_start rank is =
      let fallen = falls rank rank [] [] automaton.start (omega arith) refl (inl refl) is (λ i d h. absurd (omega (arith, h))) in
      record { count = fallen.count; some = fallen.some; within = fallen.within; outside = out fallen.count fallen.some fallen.rejected }
    where
      out : (count : ℕ) → 0 < count → automaton.accepting (state_from automaton automaton.start (play environment controller count)) ≡ false
          → accepts automaton (play environment controller count) ≡ false
      out zero some e = absurd (omega arith)
      out (suc count) some e = e

pub least_moves_beat : LeastMovesBeat
least_moves_beat n m automaton moves rank so is = record {
  width = λ letters. so.width (state_after automaton letters);
  beats = λ controller wide. falls_from_start n m automaton moves so controller wide rank is;
}
