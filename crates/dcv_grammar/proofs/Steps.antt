-- The steps of the reader.
use Rattle.std.proofs.Common.{◌≡◌, ◌⊎◌, ◌↔◌, ℕ, zero, suc, ◌+◌, ◌<◌, ◌≤◌, Bool, true, false, cond, List, [], ◌∷◌, ◌++◌, length, map, take, drop, Option, Some, None, refl, sym, ap, ◌∙◌, subst, inl, inr, arith, append_assoc, append-nil}
use Rattle.std.specs.Prelude.{◌==◌, slice_get, Contains, IfNone, is_some}
use Rattle.std.proofs.lemmas.List.{take-append-drop, take-take, take_all}
use Rattle.std.proofs.lemmas.Bool.Decides.{nat_tests}
use Rattle.std.specs.List.{list_any}
use Rattle.dcv_grammar.specs.declared.grammar.Symbol.{Symbol}
use Rattle.dcv_grammar.specs.declared.grammar.Symbol.TheVariants.{Class, Rule}
use Rattle.dcv_grammar.specs.Grammar.{Alternative, Production, ContextFree, bodies, Derives, nothing, by_class, by_body, IsReached, at_start, in_body, past_class, IsSentence, IsViable, IsFaultAt, IsVerdict}
use Rattle.dcv_grammar.specs.Picked.{picked, body_for}
use Rattle.dcv_grammar.specs.Predictive.{IsPredictive, weight_of}
use Rattle.dcv_grammar.specs.Machine.{Follows, Wants, with_wanted}
use Rattle.dcv_grammar.proofs.Facts.{facts, hints}
use Rattle.dcv_grammar.proofs.Derivations.{body_in, from_rule, from_class, not_at_end, not_past_end, body_picked, weight_falls, known_rule, some_derived, reached_known, reached_guarded}

-- the body that a class picks is a body
picked_contained : (choices : List Alternative) (otherwise : List Symbol) (c : ℕ) → Contains (otherwise ∷ map (λ choice. choice.body) choices) (picked choices otherwise c)
picked_contained [] otherwise c = (0, omega arith, refl)
picked_contained (choice ∷ choices) otherwise c =
    by_test (list_any (λ k. k == c) choice.classes) choice.body (map (λ choice. choice.body) choices) otherwise (picked choices otherwise c) (picked_contained choices otherwise c)
  where
    by_test : (b : Bool) (body : List Symbol) (bodies : List (List Symbol)) (otherwise later : List Symbol) → Contains (otherwise ∷ bodies) later → Contains (otherwise ∷ body ∷ bodies) (cond b body later)
    by_test true body bodies otherwise later h = (1, omega arith, refl)
    by_test false body bodies otherwise later (zero, lt, e) = (0, omega arith, e)
    by_test false body bodies otherwise later (suc k, lt, e) = (suc (suc k), omega arith, e)

body_contained : (rule : Production) (next : Option ℕ) → Contains (bodies rule) (body_for rule next)
body_contained rule None = (0, omega arith, refl)
body_contained rule (Some c) = picked_contained rule.alternatives rule.otherwise c

-- what falls as bodies are taken
pub stack_weight : ContextFree → List Symbol → ℕ
stack_weight g s = weight_of (hints g) s

-- A stack derives what an old one does, where this class comes next.
pub record IsStackFor (g : ContextFree) (next : Option ℕ) (old new : List Symbol) : Type 0 where
  pub reached : IsReached g new
  pub same : (w : List ℕ) → slice_get w 0 ≡ next → Derives g old w ↔ Derives g new w

module _ (g : ContextFree) (p : IsPredictive g) where
  -- the rule on top is in the table
  pub in_table : (n : ℕ) (s : List Symbol) → IsReached g (Rule n ∷ s) → n < length g.productions
  in_table n s r = (known_rule g (hints g) (facts g p) n s (reached_known g (hints g) (facts g p) r)).0

  pub weight_less : (n : ℕ) (s : List Symbol) (rule : Production) (next : Option ℕ) → slice_get g.productions n ≡ Some rule → stack_weight g (body_for rule next ++ s) < stack_weight g (Rule n ∷ s)
  unfolding stack_weight
  weight_less n s rule next e =
      let body = body_for rule next in
      weight_falls g (hints g) (facts g p) n body s (body_in g n rule body e (body_contained rule next))

  step_same : (n : ℕ) (s : List Symbol) (rule : Production) (next : Option ℕ) (w : List ℕ) → IsReached g (Rule n ∷ s) → slice_get g.productions n ≡ Some rule → slice_get w 0 ≡ next → Derives g (Rule n ∷ s) w ↔ Derives g (body_for rule next ++ s) w
  step_same n s rule next w r e at =
      let body = body_for rule next in
      let guarded = reached_guarded g (hints g) (facts g p) r in (
        λ d.
            let f = from_rule g d in
            let picked = body_picked g (hints g) (facts g p) n rule f.0 s w e guarded f.1 f.2 in
            let same : f.0 ≡ body = sym picked ∙ ap (body_for rule) at in
            subst (λ b. Derives g (b ++ s) w) same f.2,
        λ d. by_body body (body_in g n rule body e (body_contained rule next)) d,
      )

  -- the body that is picked in the place of its rule
  pub stack_step : (next : Option ℕ) (old : List Symbol) (n : ℕ) (s : List Symbol) (rule : Production) → slice_get g.productions n ≡ Some rule → IsStackFor g next old (Rule n ∷ s) → IsStackFor g next old (body_for rule next ++ s)
  stack_step next old n s rule e stack =
      let body = body_for rule next in
      record {
        reached = in_body body (body_in g n rule body e (body_contained rule next)) stack.reached;
        same = λ w at.
            let one = stack.same w at in
            let two = step_same n s rule next w stack.reached e at in
            (λ d. two.0 (one.0 d), λ d. one.1 (two.1 d));
      }

  -- some more makes a sentence of what was read
  pub viable_so_far : (done : List ℕ) (stack : List Symbol) → Follows g done stack → IsViable g done
  viable_so_far done stack f =
      let some = some_derived g (hints g) (facts g p) stack (reached_known g (hints g) (facts g p) f.reached) in
      (some.0, (f.same some.0).1 some.1)

module _ (g : ContextFree) where
  pub stack_for_itself : (next : Option ℕ) (s : List Symbol) → IsReached g s → IsStackFor g next s s
  stack_for_itself next s r = record { reached = r; same = λ w at. (λ d. d, λ d. d) }

  pub wants_class : (next : Option ℕ) (old : List Symbol) (c : ℕ) (s : List Symbol) → IsStackFor g next old (Class c ∷ s) → Wants g next old (Some c) s
  wants_class next old c s stack = record { reached = stack.reached; same = stack.same; ended = tt }

  pub wants_nothing : (next : Option ℕ) (old : List Symbol) → IsStackFor g next old [] → Wants g next old None []
  wants_nothing next old stack = record { reached = stack.reached; same = stack.same; ended = refl }

  pub follows_nothing : Follows g [] (Rule g.start ∷ [])
  follows_nothing = record { reached = at_start; same = λ w. (λ d. d, λ d. d) }

  -- the class that was wanted came
  pub follows_class : (done : List ℕ) (stack : List Symbol) (c : ℕ) (new : List Symbol) → Follows g done stack → Wants g (Some c) stack (Some c) new → Follows g (done ++ c ∷ []) new
  follows_class done stack c new f wants =
      record {
        reached = past_class wants.reached;
        same = λ w.
            let again : (done ++ c ∷ []) ++ w ≡ done ++ (c ∷ w) = append_assoc done (c ∷ []) w in
            let step = wants.same (c ∷ w) refl in (
              λ d. (from_class g (step.0 ((f.same (c ∷ w)).0 (subst (IsSentence g) again d)))).1,
              λ d. subst (IsSentence g) (sym again) ((f.same (c ∷ w)).1 (step.1 (by_class d))),
            );
      }

  -- where another class was wanted than came, nothing more makes a sentence
  pub no_more_viable : (done : List ℕ) (stack : List Symbol) (c : ℕ) (wanted : Option ℕ) (new : List Symbol) → Follows g done stack → Wants g (Some c) stack wanted new → (wanted ≡ Some c → ⊥) → ¬ IsViable g (done ++ c ∷ [])
  no_more_viable done stack c wanted new f wants other (more, d) =
      let again : (done ++ c ∷ []) ++ more ≡ done ++ (c ∷ more) = append_assoc done (c ∷ []) more in
      stuck wanted new wants.ended other ((wants.same (c ∷ more) refl).0 ((f.same (c ∷ more)).0 (subst (IsSentence g) again d)))
    where
      stuck : (wanted : Option ℕ) (new : List Symbol) → IfNone wanted (new ≡ []) → (wanted ≡ Some c → ⊥) → Derives g (with_wanted wanted new) (c ∷ more) → ⊥
      stuck None new e other d = not_past_end g (subst (λ s. Derives g s (c ∷ more)) e d)
      stuck (Some k) new e other d = other (ap Some (from_class g d).0)

  -- what was read is a sentence where nothing is wanted at its end
  pub whole_sentence : (done : List ℕ) (stack : List Symbol) (new : List Symbol) → Follows g done stack → Wants g None stack None new → IsSentence g done
  whole_sentence done stack new f wants =
      subst (IsSentence g) (append-nil done) ((f.same []).1 ((wants.same [] refl).1 (subst (λ s. Derives g s []) (sym wants.ended) nothing)))

  pub no_sentence : (done : List ℕ) (stack : List Symbol) (k : ℕ) (new : List Symbol) → Follows g done stack → Wants g None stack (Some k) new → ¬ IsSentence g done
  no_sentence done stack k new f wants d =
      not_at_end g ((wants.same [] refl).0 ((f.same []).0 (subst (IsSentence g) (sym (append-nil done)) d)))

  -- the beginnings of a viable list are viable
  viable_front : (cs : List ℕ) (k : ℕ) → IsViable g cs → IsViable g (take k cs)
  viable_front cs k (more, d) =
      (drop k cs ++ more, subst (IsSentence g) (ap (λ xs. xs ++ more) (sym (take-append-drop k cs)) ∙ append_assoc (take k cs) (drop k cs) more) d)

  viable_before : (cs : List ℕ) (j k : ℕ) → j ≤ k → IsViable g (take k cs) → IsViable g (take j cs)
  viable_before cs j k le v = subst (IsViable g) (take-take j k cs le) (viable_front (take k cs) j v)

  viable_sentence : (cs : List ℕ) → IsSentence g cs → IsViable g cs
  viable_sentence cs d = ([], subst (IsSentence g) (sym (append-nil cs)) d)

  -- a sentence has no fault
  no_fault : (cs : List ℕ) (k : ℕ) → IsSentence g cs → ¬ IsFaultAt g cs k
  no_fault cs k d fault = elim fault.fault [
    | inl f ↦ f.1 (viable_front cs (k + 1) (viable_sentence cs d))
    | inr f ↦ f.1 d
  ]

  fault_within : (cs : List ℕ) (k : ℕ) → IsFaultAt g cs k → k ≤ length cs
  fault_within cs k fault = elim fault.fault [ inl f ↦ omega (arith, f.0) | inr f ↦ omega (arith, f.0) ]

  -- no later place is a fault
  not_later : (cs : List ℕ) (j k : ℕ) → j < k → IsFaultAt g cs j → ¬ IsFaultAt g cs k
  not_later cs j k lt early late =
      elim early.fault [
        | inl f ↦ f.1 (viable_before cs (j + 1) k (omega arith) late.viable)
        | inr f ↦ absurd (omega (arith, f.0, fault_within cs k late))
      ]

  -- there is one verdict
  pub one_verdict : (cs : List ℕ) (a b : Option ℕ) → IsVerdict g cs a → IsVerdict g cs b → a ≡ b
  one_verdict cs None None v w = refl
  one_verdict cs None (Some k) v w = absurd (no_fault cs k v w)
  one_verdict cs (Some k) None v w = absurd (no_fault cs k w v)
  one_verdict cs (Some j) (Some k) v w = ap Some (elim (lt_cases j k) [
    | inl lt ↦ absurd (not_later cs j k lt v w)
    | inr (inl gt) ↦ absurd (not_later cs k j gt w v)
    | inr (inr e) ↦ e
  ])
    where
      lt_cases : (j k : ℕ) → (j < k) ⊎ ((k < j) ⊎ (j ≡ k))
      lt_cases j k = grind (arith, nat_tests)

  -- the verdict at a token, and at the end
  pub verdict_at : IsPredictive g → (cs : List ℕ) (place c : ℕ) (stack : List Symbol) (wanted : Option ℕ) (new : List Symbol) → place < length cs → take (place + 1) cs ≡ take place cs ++ c ∷ [] → Follows g (take place cs) stack → Wants g (Some c) stack wanted new → (wanted ≡ Some c → ⊥) → IsVerdict g cs (Some place)
  verdict_at p cs place c stack wanted new lt e f wants other =
      record {
        viable = viable_so_far g p (take place cs) stack f;
        fault = inl (lt, λ v. no_more_viable (take place cs) stack c wanted new f wants other (subst (IsViable g) e v));
      }

  pub sentence_at_end : (cs : List ℕ) (stack : List Symbol) (wanted : Option ℕ) (new : List Symbol) → Follows g cs stack → Wants g None stack wanted new → is_some wanted ≡ false → IsSentence g cs
  sentence_at_end cs stack None new f wants e = whole_sentence cs stack new f wants
  sentence_at_end cs stack (Some k) new f wants e = cc

  pub fault_at_end : IsPredictive g → (cs : List ℕ) (n : ℕ) (stack : List Symbol) (wanted : Option ℕ) (new : List Symbol) → n ≡ length cs → Follows g cs stack → Wants g None stack wanted new → is_some wanted ≡ true → IsVerdict g cs (Some n)
  fault_at_end p cs n stack None new all f wants e = cc
  fault_at_end p cs n stack (Some k) new all f wants e =
      record {
        viable = subst (IsViable g) (sym (take_all n cs (omega arith))) (viable_so_far g p cs stack f);
        fault = inr (all, no_sentence cs stack k new f wants);
      }
