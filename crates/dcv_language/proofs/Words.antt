-- The order of words, from the laws of dcv_word.
use Rattle.std.proofs.Common.{append-nil, ◌≡◌, ◌⊎◌, inl, inr, ⊎_elim, Bool, List, [], ◌∷◌, ◌++◌, length, refl, ap, sym, ◌∙◌, subst, arith, length-append}
use Rattle.std.specs.declared.cmp.Ordering.TheVariants.{Less, Equal, Greater}
use Rattle.std.specs.Ordering.{ordering_reverse, ordering_then}
use Rattle.std.proofs.lemmas.Bool.{cases_order}
use Rattle.dcv_word.specs.Behaviour.{Word}
use Rattle.dcv_word.specs.Word.{shortlex_order}
use Rattle.dcv_word.specs.Laws.{WordsAreInOrder, EqualWordsAreSame, ShorterIsLess, CommonFrontIsIgnored, CommonEndIsIgnored, EndsAfterADifferenceAreIgnored}
use Rattle.dcv_language.specs.Least.{IsNoLater}
use Rattle.dcv_language.specs.Laws.{LaterWordsGoOnLater, LaterLettersGoOnLater}

-- what dcv_word says of the order
pub record WordLaws : Type 0 where
  pub total : WordsAreInOrder
  pub same : EqualWordsAreSame
  pub shorter : ShorterIsLess
  pub front : CommonFrontIsIgnored
  pub end : CommonEndIsIgnored
  pub ends : EndsAfterADifferenceAreIgnored

abbrev pub Before : Word → Word → Type 0
Before u v = shortlex_order u v ≡ Less

less_or_greater : Less ≡ Greater → ⊥
less_or_greater e = cc

less_or_equal : Less ≡ Equal → ⊥
less_or_equal e = cc

module _ (laws : WordLaws) where
  pub irreflexive : (u : Word) → Before u u → ⊥
  irreflexive u h = less_or_equal (sym h ∙ (laws.same u u).1 refl)

  pub before_chain : (u v w : Word) → Before u v → Before v w → Before u w
  before_chain = laws.total.trans

  pub asymmetric : (u v : Word) → Before u v → Before v u → ⊥
  asymmetric u v h k = irreflexive u (before_chain u v u h k)

  pub cases_words : (u v : Word) → Before u v ⊎ ((u ≡ v) ⊎ Before v u)
  cases_words u v =
      elim (shortlex_order u v) as (λ o. shortlex_order u v ≡ o → Before u v ⊎ ((u ≡ v) ⊎ Before v u)) [
        | Less ↦ λ e. inl e
        | Equal ↦ λ e. inr (inl ((laws.same u v).0 e))
        | Greater ↦ λ e. inr (inr (laws.total.antisymm v u ∙ ap ordering_reverse e))
      ] refl

  -- later is the other way round
  pub not_later : (u v : Word) → IsNoLater u v → Before v u → ⊥
  not_later u v n h = n (laws.total.antisymm u v ∙ ap ordering_reverse h)

  pub no_later : (u v : Word) → (Before v u → ⊥) → IsNoLater u v
  no_later u v n e = n (laws.total.antisymm v u ∙ ap ordering_reverse e)

  pub before_no_later : (u v : Word) → Before u v → IsNoLater u v
  before_no_later u v h e = less_or_greater (sym h ∙ e)

  pub cases_no_later : (u v : Word) → IsNoLater u v → Before u v ⊎ (u ≡ v)
  cases_no_later u v n = ⊎_elim (λ b. inl b) (λ s. ⊎_elim (λ e. inr e) (λ h. absurd (not_later u v n h)) s) (cases_words u v)

  pub no_later_chain : (u v w : Word) → IsNoLater u v → IsNoLater v w → IsNoLater u w
  no_later_chain u v w n m = no_later u w (λ h.
      ⊎_elim (λ b. not_later v w m (before_chain w u v h b)) (λ e. not_later v w m (subst (λ x. Before w x) e h)) (cases_no_later u v n))

  pub no_later_before : (u v w : Word) → IsNoLater u v → Before v w → Before u w
  no_later_before u v w n h = ⊎_elim (λ b. before_chain u v w b h) (λ e. subst (λ x. Before x w) (sym e) h) (cases_no_later u v n)

  pub before_no_later_chain : (u v w : Word) → Before u v → IsNoLater v w → Before u w
  before_no_later_chain u v w h n = ⊎_elim (λ b. before_chain u v w h b) (λ e. subst (λ x. Before u x) e h) (cases_no_later v w n)

  -- a front comes no later than the whole
  pub front_before : (u v w : Word) → Before (u ++ v) w → Before u w
  front_before u [] w h = subst (λ x. Before x w) (append-nil u) h
  front_before u (a ∷ v) w h = before_chain u (u ++ a ∷ v) w (laws.shorter u (u ++ a ∷ v) (omega (arith, length-append u (a ∷ v)))) h

  -- neither of two words is before the other only where they are one
  pub same_words : (u v : Word) → (Before u v → ⊥) → (Before v u → ⊥) → u ≡ v
  same_words u v n m = ⊎_elim (λ h. absurd (n h)) (λ s. ⊎_elim (λ e. e) (λ h. absurd (m h)) s) (cases_words u v)

  pub no_later_end : (u v : Word) (a : List Bool) → IsNoLater u v → IsNoLater (u ++ a ∷ []) (v ++ a ∷ [])
  no_later_end u v a n e = n (sym (laws.end u v (a ∷ [])) ∙ e)

  pub later_words_go_on_later : LaterWordsGoOnLater
  later_words_go_on_later u v a b h = ⊎_elim
      (λ level. laws.ends u v (a ∷ []) (b ∷ []) level (λ e. irreflexive u (subst (λ x. Before u x) (sym e) h)) refl ∙ h)
      (λ s. ⊎_elim
      (λ short. laws.shorter (u ++ a ∷ []) (v ++ b ∷ []) (omega (arith, length-append u (a ∷ []), length-append v (b ∷ []))))
      (λ long. absurd (asymmetric u v h (laws.shorter v u long))) s)
      (cases_order (length u) (length v))

  pub later_letters_go_on_later : LaterLettersGoOnLater
  later_letters_go_on_later word a b h = laws.front word (a ∷ []) (b ∷ []) ∙ ap (λ o. ordering_then o Equal) h
