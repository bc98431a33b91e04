-- One move more.
use Rattle.std.proofs.Common.{◌≢◌, ℕ, ◌<◌, List, ◌∷◌, [], ◌++◌, length, set, inl, inr, Contains, sym, ap, subst, ◌∙◌, get_or-set_other, get_or-set_same}
use Rattle.std.proofs.lemmas.Bool.{cases_eq}
use Rattle.std.proofs.lemmas.List.Elements.{Contains-push, Contains-push_cases, Contains-append_left}
use Rattle.dcv_refinement.specs.Members.{block_of}
use Rattle.dcv_minimise.specs.Division.{move_to, HasMoved}
use Rattle.dcv_minimise.specs.declared.refine.division.Move.{Move}

module _ (moves : List Move) (move : Move) (old now : List ℕ) (inside : move.state < length now) where
  has_moved_here : HasMoved (moves ++ move ∷ []) old (set now move.state move.number) move.state
  has_moved_here =
      inl (subst (λ number. Contains (moves ++ move ∷ []) (move_to move.state number)) (sym (get_or-set_same now move.state move.number 0 inside)) (Contains-push moves move))

  has_moved_else : (state : ℕ) → state ≢ move.state → HasMoved moves old now state → HasMoved (moves ++ move ∷ []) old (set now move.state move.number) state
  has_moved_else state other was =
      let same = get_or-set_other now move.state state move.number 0 other in
      elim was [
        | inl one ↦
            inl (subst (λ number. Contains (moves ++ move ∷ []) (move_to state number)) (sym same) (Contains-append_left moves (move ∷ []) (move_to state (block_of now state)) one))
        | inr stays ↦ inr (
          same ∙ stays.0,
          λ number c.
              elim (Contains-push_cases moves move (move_to state number) c) [ inl before ↦ stays.1 number before | inr last ↦ other (sym (ap (λ move. move.state) last)) ],
        )
      ]

  pub has_moved_more : (state : ℕ) → HasMoved moves old now state → HasMoved (moves ++ move ∷ []) old (set now move.state move.number) state
  has_moved_more state was = elim (cases_eq state move.state) [
    | inl same ↦ subst (HasMoved (moves ++ move ∷ []) old (set now move.state move.number)) (sym same) has_moved_here
    | inr other ↦ has_moved_else state other was
  ]
