-- Laws of derivation trees.
use Rattle.std.proofs.Common.{◌≡◌, ℕ, List, [], ◌∷◌, ◌++◌, map, Some, refl, sym, ap, ◌∙◌, subst, append_assoc}
use Rattle.std.specs.Prelude.{slice_get}
use Rattle.std.proofs.lemmas.List.{map-append}
use Rattle.dcv_grammar.specs.declared.grammar.Symbol.{Symbol}
use Rattle.dcv_grammar.specs.declared.grammar.Symbol.TheVariants.{Class, Rule}
use Rattle.dcv_grammar.specs.Grammar.{ContextFree, Production, IsBody, Derives, nothing, by_class, by_body, IsReached, in_body, past_class}
use Rattle.dcv_grammar.specs.Picked.{body_for}
use Rattle.dcv_grammar.specs.Predictive.{IsPredictive}
use Rattle.dcv_grammar.specs.Trees.{Nodes, done, leaf, node, leaves, join, AreTrees}
use Rattle.dcv_grammar.proofs.Facts.{facts, hints}
use Rattle.dcv_grammar.proofs.Derivations.{rule_with, derives_append, body_picked, reached_guarded}

module _ {T : Type 0} where
  pub leaves_join : (a b : Nodes T) → leaves (join a b) ≡ leaves a ++ leaves b
  leaves_join done b = refl
  leaves_join (leaf t a) b = ap (λ l. t ∷ l) (leaves_join a b)
  leaves_join (node n i a) b = ap (λ l. leaves i ++ l) (leaves_join a b) ∙ sym (append_assoc (leaves i) (leaves a) (leaves b))

module _ {T : Type 0} (g : ContextFree) (class_of : T → ℕ) where
  -- what trees of some symbols are
  pub no_trees : (a : Nodes T) → AreTrees g class_of [] a → a ≡ done
  no_trees done h = refl
  no_trees (leaf t a) h = absurd h
  no_trees (node n i a) h = absurd h

  pub class_tree : (c : ℕ) (s : List Symbol) (a : Nodes T) → AreTrees g class_of (Class c ∷ s) a → (t : T) × (next : Nodes T) × (a ≡ leaf t next) × (class_of t ≡ c) × AreTrees g class_of s next
  class_tree c s done h = absurd h
  class_tree c s (leaf t a) h = (t, a, refl, h.0, h.1)
  class_tree c s (node n i a) h = absurd h

  pub rule_tree : (n : ℕ) (s : List Symbol) (a : Nodes T) → AreTrees g class_of (Rule n ∷ s) a → (body : List Symbol) × (inner : Nodes T) × (next : Nodes T) × (a ≡ node n inner next) × IsBody g n body × AreTrees g class_of body inner × AreTrees g class_of s next
  rule_tree n s done h = absurd h
  rule_tree n s (leaf t a) h = absurd h
  rule_tree n s (node m i a) h = (h.1.0, i, a, ap (λ k. node k i a) h.0, h.1.1, h.1.2, h.2)

  pub trees_join : (s v : List Symbol) (a b : Nodes T) → AreTrees g class_of s a → AreTrees g class_of v b → AreTrees g class_of (s ++ v) (join a b)
  trees_join [] v done b h k = k
  trees_join [] v (leaf t a) b h k = absurd h
  trees_join [] v (node n i a) b h k = absurd h
  trees_join (Class c ∷ s) v done b h k = absurd h
  trees_join (Class c ∷ s) v (leaf t a) b h k = (h.0, trees_join s v a b h.1 k)
  trees_join (Class c ∷ s) v (node n i a) b h k = absurd h
  trees_join (Rule n ∷ s) v done b h k = absurd h
  trees_join (Rule n ∷ s) v (leaf t a) b h k = absurd h
  trees_join (Rule n ∷ s) v (node m i a) b h k = (h.0, h.1, trees_join s v a b h.2 k)

  -- trees of symbols and of those after them are trees of each
  abbrev pub Parts : List Symbol → List Symbol → Nodes T → Type 0
  Parts s v all = (a : Nodes T) × (b : Nodes T) × (all ≡ join a b) × AreTrees g class_of s a × AreTrees g class_of v b

  pub trees_parts : (s v : List Symbol) (all : Nodes T) → AreTrees g class_of (s ++ v) all → Parts s v all
  trees_parts [] v all h = (done, all, refl, tt, h)
  trees_parts (Class c ∷ s) v all h =
      let (t, next, e, k, more) = class_tree c (s ++ v) all h in
      let (a, b, i, ha, hb) = trees_parts s v next more in
      (leaf t a, b, e ∙ ap (leaf t) i, (k, ha), hb)
  trees_parts (Rule n ∷ s) v all h =
      let (body, inner, next, e, k, hi, more) = rule_tree n (s ++ v) all h in
      let (a, b, i, ha, hb) = trees_parts s v next more in
      (node n inner a, b, e ∙ ap (node n inner) i, (refl, (body, k, hi), ha), hb)

  -- the leaves of trees are derived
  pub derives_leaves : (s : List Symbol) (a : Nodes T) → AreTrees g class_of s a → Derives g s (map class_of (leaves a))
  derives_leaves [] done h = nothing
  derives_leaves [] (leaf t a) h = absurd h
  derives_leaves [] (node n i a) h = absurd h
  derives_leaves (Class c ∷ s) done h = absurd h
  derives_leaves (Class c ∷ s) (leaf t a) h = subst (λ k. Derives g (Class k ∷ s) (class_of t ∷ map class_of (leaves a))) h.0 (by_class (derives_leaves s a h.1))
  derives_leaves (Class c ∷ s) (node n i a) h = absurd h
  derives_leaves (Rule n ∷ s) done h = absurd h
  derives_leaves (Rule n ∷ s) (leaf t a) h = absurd h
  derives_leaves (Rule n ∷ s) (node m i a) h =
      let inside = derives_leaves h.1.0 i h.1.2 in
      let behind = derives_leaves s a h.2 in
      by_body h.1.0 h.1.1 (subst (Derives g (h.1.0 ++ s)) (sym (map-append class_of (leaves i) (leaves a))) (derives_append g inside behind))

  -- what is derived are the leaves of trees
  abbrev pub SomeTrees : List Symbol → List T → Type 0
  SomeTrees s tokens = (a : Nodes T) × AreTrees g class_of s a × (leaves a ≡ tokens)

  class_trees : (c : ℕ) (s : List Symbol) (w : List ℕ) (tokens : List T) → map class_of tokens ≡ c ∷ w → ((more : List T) → map class_of more ≡ w → SomeTrees s more) → SomeTrees (Class c ∷ s) tokens
  class_trees c s w [] e rest = cc
  class_trees c s w (t ∷ tokens) e rest =
      let same : class_of t ≡ c = cc in
      let same_rest : map class_of tokens ≡ w = cc in
      let (a, h, i) = rest tokens same_rest in
      (leaf t a, (same, h), ap (λ l. t ∷ l) i)

  no_leaves : (tokens : List T) → map class_of tokens ≡ [] → SomeTrees [] tokens
  no_leaves [] e = (done, tt, refl)
  no_leaves (t ∷ tokens) e = cc

  pub trees_derived : {s : List Symbol} {w : List ℕ} → Derives g s w → (tokens : List T) → map class_of tokens ≡ w → SomeTrees s tokens
  trees_derived nothing tokens e = no_leaves tokens e
  trees_derived (by_class {class} {symbols} {classes} d) tokens e = class_trees class symbols classes tokens e (trees_derived d)
  trees_derived (by_body {number} {symbols} body b d) tokens e =
      let (all, h, i) = trees_derived d tokens e in
      let (inner, next, j, hi, hn) = trees_parts body symbols all h in
      (node number inner next, (refl, (body, b, hi), hn), sym (leaves_join inner next) ∙ ap leaves (sym j) ∙ i)

  -- what stood after symbols that trees were read of stands after the beginning of a sentence, as they do
  pub reached_behind : (s behind : List Symbol) (a : Nodes T) → AreTrees g class_of s a → IsReached g (s ++ behind) → IsReached g behind
  reached_behind [] behind a h r = r
  reached_behind (Class c ∷ s) behind done h r = absurd h
  reached_behind (Class c ∷ s) behind (leaf t a) h r = reached_behind s behind a h.1 (past_class r)
  reached_behind (Class c ∷ s) behind (node n i a) h r = absurd h
  reached_behind (Rule n ∷ s) behind done h r = absurd h
  reached_behind (Rule n ∷ s) behind (leaf t a) h r = absurd h
  reached_behind (Rule n ∷ s) behind (node m i a) h r =
      reached_behind s behind a h.2 (reached_behind h.1.0 (s ++ behind) i h.1.2 (in_body h.1.0 h.1.1 r))

module _ {T : Type 0} (g : ContextFree) (class_of : T → ℕ) (p : IsPredictive g) where
  -- The first of the tokens picks the body that is inside the first node.
  pub body_inside : (n : ℕ) (rule : Production) (body s behind : List Symbol) (inner next : Nodes T) (r tokens : List T) → slice_get g.productions n ≡ Some rule → IsReached g (Rule n ∷ (s ++ behind)) → IsBody g n body → AreTrees g class_of body inner → AreTrees g class_of s next → Derives g behind (map class_of r) → (leaves inner ++ leaves next) ++ r ≡ tokens → body_for rule (slice_get (map class_of tokens) 0) ≡ body
  body_inside n rule body s behind inner next r tokens at reached b hi hn d e =
      let derived = derives_append g (derives_leaves g class_of body inner hi) (derives_append g (derives_leaves g class_of s next hn) d) in
      let all = map class_of (leaves inner) ++ (map class_of (leaves next) ++ map class_of r) in
      let same : all ≡ map class_of tokens =
      ap (λ l. map class_of (leaves inner) ++ l) (sym (map-append class_of (leaves next) r))
      ∙ sym (map-append class_of (leaves inner) (leaves next ++ r))
      ∙ ap (map class_of) (sym (append_assoc (leaves inner) (leaves next) r) ∙ e) in
      body_picked g (hints g) (facts g p) n rule body (s ++ behind) (map class_of tokens) at (reached_guarded g (hints g) (facts g p) reached) b (subst (Derives g (body ++ (s ++ behind))) same derived)

  -- Tokens that begin with symbols do so in one way, whatever stands after them.
  pub one_reading : (s v1 v2 : List Symbol) (a b : Nodes T) (r q : List T) → IsReached g (s ++ v1) → IsReached g (s ++ v2) → AreTrees g class_of s a → AreTrees g class_of s b → leaves a ++ r ≡ leaves b ++ q → Derives g v1 (map class_of r) → Derives g v2 (map class_of q) → (a ≡ b) × (r ≡ q)
  one_reading [] v1 v2 done b r q r1 r2 ha hb e dr dq =
      let eb = no_trees g class_of b hb in
      (sym eb, e ∙ ap (λ x. leaves x ++ q) eb)
  one_reading [] v1 v2 (leaf t a) b r q r1 r2 ha hb e dr dq = absurd ha
  one_reading [] v1 v2 (node n i a) b r q r1 r2 ha hb e dr dq = absurd ha
  one_reading (Class c ∷ s) v1 v2 done b r q r1 r2 ha hb e dr dq = absurd ha
  one_reading (Class c ∷ s) v1 v2 (leaf t a) b r q r1 r2 ha hb e dr dq =
      let (u, next, eb, k, hn) = class_tree g class_of c s b hb in
      let all : t ∷ (leaves a ++ r) ≡ u ∷ (leaves next ++ q) = e ∙ ap (λ x. leaves x ++ q) eb in
      let same : t ≡ u = cc in
      let same_rest : leaves a ++ r ≡ leaves next ++ q = cc in
      let rest = one_reading s v1 v2 a next r q (past_class r1) (past_class r2) ha.1 hn same_rest dr dq in
      (ap (λ x. leaf x a) same ∙ ap (leaf u) rest.0 ∙ sym eb, rest.1)
  one_reading (Class c ∷ s) v1 v2 (node n i a) b r q r1 r2 ha hb e dr dq = absurd ha
  one_reading (Rule n ∷ s) v1 v2 done b r q r1 r2 ha hb e dr dq = absurd ha
  one_reading (Rule n ∷ s) v1 v2 (leaf t a) b r q r1 r2 ha hb e dr dq = absurd ha
  one_reading (Rule n ∷ s) v1 v2 (node m i a) b r q r1 r2 ha hb e dr dq =
      let (body, inner, next, eb, k, hi, hn) = rule_tree g class_of n s b hb in
      let (rule, at, _) = rule_with g n body k in
      let all : (leaves i ++ leaves a) ++ r ≡ (leaves inner ++ leaves next) ++ q = e ∙ ap (λ x. leaves x ++ q) eb in
      let tokens = (leaves i ++ leaves a) ++ r in
      let one = body_inside n rule ha.1.0 s v1 i a r tokens at r1 ha.1.1 ha.1.2 ha.2 dr refl in
      let two = body_inside n rule body s v2 inner next q tokens at r2 k hi hn dq (sym all) in
      let same_body : body ≡ ha.1.0 = sym two ∙ one in
      let hi2 = subst (λ x. AreTrees g class_of x inner) same_body hi in
      let regrouped : leaves i ++ (leaves a ++ r) ≡ leaves inner ++ (leaves next ++ q) = sym (append_assoc (leaves i) (leaves a) r) ∙ all ∙ append_assoc (leaves inner) (leaves next) q in
      let d1 = subst (Derives g (s ++ v1)) (sym (map-append class_of (leaves a) r)) (derives_append g (derives_leaves g class_of s a ha.2) dr) in
      let d2 = subst (Derives g (s ++ v2)) (sym (map-append class_of (leaves next) q)) (derives_append g (derives_leaves g class_of s next hn) dq) in
      let inside = one_reading ha.1.0 (s ++ v1) (s ++ v2) i inner (leaves a ++ r) (leaves next ++ q) (in_body ha.1.0 ha.1.1 r1) (in_body ha.1.0 ha.1.1 r2) ha.1.2 hi2 regrouped d1 d2 in
      let after1 = reached_behind g class_of ha.1.0 (s ++ v1) i ha.1.2 (in_body ha.1.0 ha.1.1 r1) in
      let after2 = reached_behind g class_of ha.1.0 (s ++ v2) i ha.1.2 (in_body ha.1.0 ha.1.1 r2) in
      let rest = one_reading s v1 v2 a next r q after1 after2 ha.2 hn inside.1 dr dq in
      (ap (λ x. node x i a) ha.0 ∙ ap (λ x. node n x a) inside.0 ∙ ap (node n inner) rest.0 ∙ sym eb, rest.1)
