-- Laws of what a grammar derives.
use Rattle.std.proofs.Common.{◌≡◌, ℕ, zero, suc, ◌+◌, ◌<◌, ◌≤◌, Bool, true, false, cond, List, [], ◌∷◌, ◌++◌, length, Option, Some, None, refl, sym, ap, ◌∙◌, subst, inl, inr, arith, append_assoc, append-nil}
use Rattle.std.specs.Prelude.{nat_lt, slice_get, Contains, IsSomeAnd}
use Rattle.std.proofs.lemmas.Bool.{ltb-true, lt-ltb}
use Rattle.dcv_grammar.specs.declared.grammar.Symbol.{Symbol}
use Rattle.dcv_grammar.specs.declared.grammar.Symbol.TheVariants.{Class, Rule}
use Rattle.dcv_grammar.specs.Grammar.{Production, ContextFree, bodies, IsBody, Derives, nothing, by_class, by_body, IsReached, at_start, in_body, past_class}
use Rattle.dcv_grammar.specs.Picked.{body_for}
use Rattle.dcv_grammar.specs.Predictive.{Hint, hint_at, is_empty, weight_of, height_above, are_known}
use Rattle.dcv_grammar.proofs.Hints.{both_left, both_right, both, IsFirst, first_class, first_rule, first_later, first_append, empty_append, IsGuarded, guarded_class, guarded_rule, guarded_one, guarded_append, weight_append_full, weight_append_empty}
use Rattle.dcv_grammar.proofs.Facts.{Agrees, RuleFacts, Facts}

some_and : {A : Type 0} (o : Option A) (P : A → Type 0) → IsSomeAnd o P → (x : A) × (o ≡ Some x) × P x
some_and None P h = absurd h
some_and (Some x) P h = (x, refl, h)

and_some : {A : Type 0} (o : Option A) (P : A → Type 0) (x : A) → o ≡ Some x → P x → IsSomeAnd o P
and_some o P x e p = subst (λ v. IsSomeAnd v P) (sym e) p

at_index : {A : Type 0} (xs : List A) (n : ℕ) → n < length xs → (x : A) × (slice_get xs n ≡ Some x)
at_index [] n lt = absurd (omega arith)
at_index (x ∷ xs) zero lt = (x, refl)
at_index (x ∷ xs) (suc n) lt = at_index xs n (omega arith)

module _ (g : ContextFree) where
  pub rule_at : (n : ℕ) → n < length g.productions → (rule : Production) × (slice_get g.productions n ≡ Some rule)
  rule_at n lt = at_index g.productions n lt

  -- the rule that has a body
  pub rule_with : (n : ℕ) (body : List Symbol) → IsBody g n body → (rule : Production) × (slice_get g.productions n ≡ Some rule) × Contains (bodies rule) body
  rule_with n body b = some_and (slice_get g.productions n) (λ rule. Contains (bodies rule) body) b

  pub body_in : (n : ℕ) (rule : Production) (body : List Symbol) → slice_get g.productions n ≡ Some rule → Contains (bodies rule) body → IsBody g n body
  body_in n rule body e m = and_some (slice_get g.productions n) (λ r. Contains (bodies r) body) rule e m

  pub from_rule : {n : ℕ} {s : List Symbol} {w : List ℕ} → Derives g (Rule n ∷ s) w → (body : List Symbol) × IsBody g n body × Derives g (body ++ s) w
  from_rule (by_body body b d) = (body, b, d)

  pub from_class : {k c : ℕ} {s : List Symbol} {w : List ℕ} → Derives g (Class k ∷ s) (c ∷ w) → (k ≡ c) × Derives g s w
  from_class (by_class d) = (refl, d)

  pub not_at_end : {k : ℕ} {s : List Symbol} → ¬ Derives g (Class k ∷ s) []
  not_at_end d = elim d [ ]

  pub not_past_end : {c : ℕ} {w : List ℕ} → ¬ Derives g [] (c ∷ w)
  not_past_end d = elim d [ ]

  pub derives_append : {a b : List Symbol} {u v : List ℕ} → Derives g a u → Derives g b v → Derives g (a ++ b) (u ++ v)
  derives_append nothing e = e
  derives_append (by_class d) e = by_class (derives_append d e)
  derives_append {b} {u} {v} (by_body {symbols} body i d) e =
      by_body body i (subst (λ s. Derives g s (u ++ v)) (append_assoc body symbols b) (derives_append d e))

module _ (g : ContextFree) (h : List Hint) (facts : Facts g h) where
  pub agrees_at : (n : ℕ) (body : List Symbol) → IsBody g n body → Agrees h (hint_at h n) body
  agrees_at n body b = let r = rule_with g n body b in (facts.rules n r.0 r.1).agree body r.2

  -- what symbols derive is nothing only if they may, and begins with what may come first
  abbrev Begins : List Symbol → List ℕ → Type 0
  Begins s [] = is_empty h s ≡ true
  Begins s (c ∷ w) = IsFirst h s c

  begins_body : (n : ℕ) (body s : List Symbol) (w : List ℕ) → IsBody g n body → Begins (body ++ s) w → Begins (Rule n ∷ s) w
  begins_body n body s [] b e =
      let both_empty = sym (empty_append h body s) ∙ e in
      let a = agrees_at n body b in
      both (hint_at h n).empty (is_empty h s) (a.empty (both_left (is_empty h body) (is_empty h s) both_empty)) (both_right (is_empty h body) (is_empty h s) both_empty)
  begins_body n body s (c ∷ w) b f =
      let a = agrees_at n body b in
      elim (first_append h body s c f) [
        | inl i ↦ first_rule h n s c (a.first c i)
        | inr p ↦ first_later h n s c (a.empty p.0) p.1
      ]

  pub begins : {s : List Symbol} {w : List ℕ} → Derives g s w → Begins s w
  begins nothing = refl
  begins (by_class {class} {symbols} d) = first_class h class symbols
  begins (by_body {number} {symbols} {classes} body b d) = begins_body number body symbols classes b (begins d)

  -- a body in the place of its rule is followed as well as the rule
  pub guarded_body : (n : ℕ) (body s : List Symbol) → IsBody g n body → IsGuarded h (Rule n ∷ s) → IsGuarded h (body ++ s)
  guarded_body n body s b guarded =
      let a = agrees_at n body b in
      let r = guarded_rule h n s guarded in
      guarded_append h body s a.guarded r.1 (λ c m f. r.0 c (a.never c m) f)

  -- The next class picks the body that is to be taken.
  pub body_picked : (n : ℕ) (rule : Production) (body s : List Symbol) (w : List ℕ) → slice_get g.productions n ≡ Some rule → IsGuarded h (Rule n ∷ s) → IsBody g n body → Derives g (body ++ s) w → body_for rule (slice_get w 0) ≡ body
  body_picked n rule body s w e guarded b d =
      let r = rule_with g n body b in
      let same : r.0 ≡ rule = cc in
      let m = subst (λ x. Contains (bodies x) body) same r.2 in
      let at = facts.rules n rule e in
      by_next n rule body s w at m guarded (begins d)
    where
      by_next : (n : ℕ) (rule : Production) (body s : List Symbol) (w : List ℕ) → RuleFacts h (hint_at h n) rule → Contains (bodies rule) body → IsGuarded h (Rule n ∷ s) → Begins (body ++ s) w → body_for rule (slice_get w 0) ≡ body
      by_next n rule body s [] at m guarded e = sym (at.alone body m (both_left (is_empty h body) (is_empty h s) (sym (empty_append h body s) ∙ e)))
      by_next n rule body s (c ∷ w) at m guarded f =
          elim (first_append h body s c f) [
            | inl i ↦ at.picks body c m i
            | inr p ↦
                let alone = at.alone body m p.0 in
                elim (at.never (subst (λ x. is_empty h x ≡ true) alone p.0) c) [
                  | inl i ↦ i ∙ sym alone
                  | inr never ↦ absurd ((guarded_rule h n s guarded).0 c never p.1)
                ]
          ]

  -- taking a body lowers the weight
  pub weight_falls : (n : ℕ) (body s : List Symbol) → IsBody g n body → weight_of h (body ++ s) < weight_of h (Rule n ∷ s)
  weight_falls n body s b =
      let a = agrees_at n body b in
      by_empty (is_empty h body) refl a
    where
      by_empty : (t : Bool) → is_empty h body ≡ t → Agrees h (hint_at h n) body → weight_of h (body ++ s) < weight_of h (Rule n ∷ s)
      by_empty true e a =
          let full = ap (λ t. (hint_at h n).weight + (cond t (weight_of h s) 0)) (a.empty e) in
          let low = a.weight in
          omega (arith, weight_append_empty h body s e, full)
      by_empty false e a =
          let low = a.weight in
          omega (arith, weight_append_full h body s e)

  -- the rules among the symbols have numbers that the grammar has
  pub IsKnown : List Symbol → Type 0
  IsKnown s = are_known (length h) s ≡ true

  known_append : (a b : List Symbol) → are_known (length h) a ≡ true → are_known (length h) b ≡ true → are_known (length h) (a ++ b) ≡ true
  known_append [] b ka kb = kb
  known_append (Class k ∷ a) b ka kb = known_append a b ka kb
  known_append (Rule n ∷ a) b ka kb =
      let t = nat_lt n (length h) in
      both t (are_known (length h) (a ++ b)) (both_left t (are_known (length h) a) ka) (known_append a b (both_right t (are_known (length h) a) ka) kb)

  pub known_rule : (n : ℕ) (s : List Symbol) → IsKnown (Rule n ∷ s) → (n < length g.productions) × IsKnown s
  unfolding IsKnown
  known_rule n s k =
      let lt = ltb-true n (length h) (both_left (nat_lt n (length h)) (are_known (length h) s) k) in
      (subst (λ m. n < m) facts.count lt, both_right (nat_lt n (length h)) (are_known (length h) s) k)

  pub known_class : (k : ℕ) (s : List Symbol) → IsKnown (Class k ∷ s) → IsKnown s
  unfolding IsKnown
  known_class k s e = e

  pub known_body : (n : ℕ) (body s : List Symbol) → IsBody g n body → IsKnown (Rule n ∷ s) → IsKnown (body ++ s)
  unfolding IsKnown
  known_body n body s b k =
      known_append body s (agrees_at n body b).known (both_right (nat_lt n (length h)) (are_known (length h) s) k)

  pub known_start : IsKnown (Rule g.start ∷ [])
  unfolding IsKnown
  known_start = both (nat_lt g.start (length h)) true (lt-ltb g.start (length h) (subst (λ m. g.start < m) (sym facts.count) facts.start)) refl

  -- Where the rules of at most a height derive something, so do symbols below it.
  some_of_each : (k : ℕ) → ((n : ℕ) → n < length g.productions → (hint_at h n).height + 1 ≤ k → (w : List ℕ) × Derives g (Rule n ∷ []) w) → (s : List Symbol) → IsKnown s → height_above h s ≤ k → (w : List ℕ) × Derives g s w
  some_of_each k each [] known low = ([], nothing)
  some_of_each k each (Class c ∷ s) known low =
      let rest = some_of_each k each s (known_class c s known) low in
      (c ∷ rest.0, by_class rest.1)
  some_of_each k each (Rule n ∷ s) known low =
      let parts = known_rule n s known in
      let first = each n parts.0 (omega arith) in
      let rest = some_of_each k each s parts.1 (omega arith) in
      (first.0 ++ rest.0, derives_append g first.1 rest.1)

  -- each rule derives something, by the bodies taken otherwise
  some_of_rule : (k : ℕ) (n : ℕ) → n < length g.productions → (hint_at h n).height + 1 ≤ k → (w : List ℕ) × Derives g (Rule n ∷ []) w
  unfolding IsKnown
  some_of_rule zero n lt low = absurd (omega arith)
  some_of_rule (suc k) n lt low =
      let rule = rule_at g n lt in
      let at = facts.rules n rule.0 rule.1 in
      let body = rule.0.otherwise in
      let b = body_in g n rule.0 body rule.1 (0, omega arith, refl) in
      let high = at.height in
      let some = some_of_each k (some_of_rule k) body (agrees_at n body b).known (omega arith) in
      (some.0, by_body body b (subst (λ s. Derives g s some.0) (sym (append-nil body)) some.1))

  -- known symbols derive something
  pub some_derived : (s : List Symbol) → IsKnown s → (w : List ℕ) × Derives g s w
  some_derived s known = some_of_each (height_above h s) (some_of_rule (height_above h s)) s known (omega arith)

  -- Symbols that stand after the beginning of a sentence are known, and guarded.
  pub reached_known : {s : List Symbol} → IsReached g s → IsKnown s
  reached_known at_start = known_start
  reached_known (in_body {number} {symbols} body b r) = known_body number body symbols b (reached_known r)
  reached_known (past_class {class} {symbols} r) = known_class class symbols (reached_known r)

  pub reached_guarded : {s : List Symbol} → IsReached g s → IsGuarded h s
  reached_guarded at_start = guarded_one h g.start
  reached_guarded (in_body {number} {symbols} body b r) = guarded_body number body symbols b (reached_guarded r)
  reached_guarded (past_class {class} {symbols} r) = guarded_class h class symbols (reached_guarded r)
