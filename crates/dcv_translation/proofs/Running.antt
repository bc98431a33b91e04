-- The steps of a translation, over plain lists of steps and parts.
use Rattle.std.proofs.Common.{◌≡◌, ℕ, zero, suc, Bool, true, false, cond, if◌then◌else◌, ◌+◌, ◌*◌, ◌<◌, List, [], ◌∷◌, ◌++◌, length, map, take, drop, reverse, Option, Some, None, refl, sym, ap, ◌∙◌, subst, arith}
use Rattle.std.proofs.Common.{append_assoc, append-nil, length-append}
use Rattle.std.specs.Prelude.{◌==◌, slice_get, is_some, Contains, option_map, IfSome}
use Rattle.std.specs.Option.{option_to_list}
use Rattle.std.specs.List.{list_any}
use Rattle.std.proofs.lemmas.List.{length-map, map-append, reverse-append, reverse-reverse}
use Rattle.std.proofs.Math.Seq.{take-append_seam, drop-append_seam}
use Rattle.dcv_grammar.specs.declared.grammar.Symbol.{Symbol}
use Rattle.dcv_grammar.specs.declared.grammar.Symbol.TheVariants.{Class as ClassSymbol, Rule as RuleSymbol}
use Rattle.dcv_grammar.specs.Grammar.{ContextFree, Alternative, Production, bodies, IsBody, IsReached, IsSentence, IsViable, at_start, in_body, past_class}
use Rattle.dcv_grammar.specs.Machine.{Follows, Wants}
use Rattle.dcv_grammar.specs.Picked.{picked, body_for}
use Rattle.dcv_grammar.specs.Predictive.{IsPredictive}
use Rattle.dcv_grammar.specs.Trees.{Nodes, done, leaf, node, leaves, join, AreTrees, IsTree}
use Rattle.dcv_grammar.proofs.Facts.{facts, hints}
use Rattle.dcv_grammar.proofs.Derivations.{rule_at, body_in, body_picked, reached_guarded}
use Rattle.dcv_grammar.proofs.Steps.{IsStackFor, stack_weight, in_table, weight_less, stack_step, follows_class, no_more_viable, sentence_at_end}
use Rattle.dcv_grammar.proofs.TreeLaws.{leaves_join, trees_join, derives_leaves}
use Rattle.dcv_lexer.specs.Cuts.{Token}
use Rattle.dcv_translation.specs.declared.machine.Step.{Step}
use Rattle.dcv_translation.specs.declared.machine.Step.TheVariants.{Class, Rule, Close}
use Rattle.dcv_translation.specs.Scheme.{Scheme, parts_of_token, parts_of}
use Rattle.dcv_translation.specs.UnderWay.{step_of, symbols_of, Runs, IsUnderWay, Fits, with_class, Advances, Takes}

-- ---- the body that is picked

picked_contained : (choices : List Alternative) (otherwise : List Symbol) (c : ℕ)
    → Contains (otherwise ∷ map (λ choice. choice.body) choices) (picked choices otherwise c)
picked_contained [] otherwise c = (0, omega arith, refl)
picked_contained (choice ∷ choices) otherwise c =
    by_test (list_any (λ k. k == c) choice.classes) choice.body (map (λ choice. choice.body) choices) otherwise (picked choices otherwise c)
    (picked_contained choices otherwise c)
  where
    by_test : (b : Bool) (body : List Symbol) (bodies : List (List Symbol)) (otherwise later : List Symbol) → Contains (otherwise ∷ bodies) later
        → Contains (otherwise ∷ body ∷ bodies) (cond b body later)
    by_test true body bodies otherwise later h = (1, omega arith, refl)
    by_test false body bodies otherwise later (zero, lt, e) = (0, omega arith, e)
    by_test false body bodies otherwise later (suc k, lt, e) = (suc (suc k), omega arith, e)

body_contained : (rule : Production) (next : Option ℕ) → Contains (bodies rule) (body_for rule next)
body_contained rule None = (0, omega arith, refl)
body_contained rule (Some c) = picked_contained rule.alternatives rule.otherwise c

-- ---- steps

-- the ends of bodies among the steps
abbrev pub ends_in : List Step → ℕ
ends_in [] = 0
ends_in (Class class ∷ steps) = ends_in steps
ends_in (Rule number ∷ steps) = ends_in steps
ends_in (Close rule first ∷ steps) = 1 + ends_in steps

-- what falls as steps are taken
abbrev pub steps_weight : ContextFree → List Step → ℕ
steps_weight grammar steps = 2 * stack_weight grammar (symbols_of steps) + ends_in steps

symbols_opened : (body : List Symbol) (steps : List Step) → symbols_of (map step_of body ++ steps) ≡ body ++ symbols_of steps
symbols_opened [] steps = refl
symbols_opened (ClassSymbol class ∷ body) steps = ap (λ (l : List Symbol). ClassSymbol class ∷ l) (symbols_opened body steps)
symbols_opened (RuleSymbol number ∷ body) steps = ap (λ (l : List Symbol). RuleSymbol number ∷ l) (symbols_opened body steps)

ends_opened : (body : List Symbol) (steps : List Step) → ends_in (map step_of body ++ steps) ≡ ends_in steps
ends_opened [] steps = refl
ends_opened (ClassSymbol class ∷ body) steps = ends_opened body steps
ends_opened (RuleSymbol number ∷ body) steps = ends_opened body steps

pub opened_is_less : (grammar : ContextFree) → IsPredictive grammar → (number first : ℕ) (steps : List Step) (rule : Production) (next : Option ℕ)
    → slice_get grammar.productions number ≡ Some rule
    → steps_weight grammar (map step_of (body_for rule next) ++ Close number first ∷ steps) < steps_weight grammar (Rule number ∷ steps)
opened_is_less grammar p number first steps rule next at =
    let body = body_for rule next in
    let less = weight_less grammar p number (symbols_of steps) rule next at in
    let symbols : stack_weight grammar (symbols_of (map step_of body ++ Close number first ∷ steps)) ≡ stack_weight grammar (body ++ symbols_of steps) =
    ap (stack_weight grammar) (symbols_opened body (Close number first ∷ steps)) in
    let ends : ends_in (map step_of body ++ Close number first ∷ steps) ≡ 1 + ends_in steps = ends_opened body (Close number first ∷ steps) in
    omega (arith, less, symbols, ends)

module _ {Part : Type 0} (scheme : Scheme Part) where
  abbrev class_of : Token → ℕ
  class_of = scheme.class

  -- what a token of a class stands for, where a test tells whether it stands for anything
  pub parts_where : (class : ℕ) (token : Token) (test truth : Bool) → test ≡ scheme.has_part class → test ≡ truth
      → parts_of_token scheme class token ≡ (if truth then scheme.of_token token ∷ [] else [])
  parts_where class token test truth tells is = ap (λ b. if b then scheme.of_token token ∷ [] else []) (sym tells ∙ is)

  -- ---- trees

  -- the trees with which steps run are those of the symbols to come
  trees_run : (steps : List Step) (trees : Nodes Token) (parts all : List Part) → Runs scheme steps trees parts all
      → AreTrees scheme.grammar class_of (symbols_of steps) trees
  trees_run [] done parts all runs = tt
  trees_run [] (leaf token next) parts all runs = absurd runs
  trees_run [] (node rule inner next) parts all runs = absurd runs
  trees_run (Class class ∷ steps) done parts all runs = absurd runs
  trees_run (Class class ∷ steps) (leaf token next) parts all runs = (runs.0, trees_run steps next _ all runs.1)
  trees_run (Class class ∷ steps) (node rule inner next) parts all runs = absurd runs
  trees_run (Rule number ∷ steps) done parts all runs = absurd runs
  trees_run (Rule number ∷ steps) (leaf token next) parts all runs = absurd runs
  trees_run (Rule number ∷ steps) (node rule inner next) parts all runs = (runs.0, runs.1, trees_run steps next _ all runs.2)
  trees_run (Close rule first ∷ steps) trees parts all runs = trees_run steps trees _ all runs.2

  -- the parts of trees are made of their symbols, before the steps after them
  runs_through : (symbols : List Symbol) (trees : Nodes Token) → AreTrees scheme.grammar class_of symbols trees
      → (steps : List Step) (next : Nodes Token) (parts all : List Part) → Runs scheme steps next (parts ++ parts_of scheme trees) all
      → Runs scheme (map step_of symbols ++ steps) (join trees next) parts all
  runs_through [] done are steps next parts all runs = subst (λ (l : List Part). Runs scheme steps next l all) (append-nil parts) runs
  runs_through [] (leaf token trees) are steps next parts all runs = absurd are
  runs_through [] (node rule inner trees) are steps next parts all runs = absurd are
  runs_through (ClassSymbol class ∷ symbols) done are steps next parts all runs = absurd are
  runs_through (ClassSymbol class ∷ symbols) (leaf token trees) are steps next parts all runs =
      let behind = parts_of scheme trees in
      let own = parts_of_token scheme class token in (
        are.0,
        runs_through symbols trees are.1 steps next (parts ++ own) all
            (subst (λ (l : List Part). Runs scheme steps next l all)
            ((λ i. parts ++ (parts_of_token scheme (are.0 i) token ++ behind)) ∙ sym (append_assoc parts own behind)) runs),
      )
  runs_through (ClassSymbol class ∷ symbols) (node rule inner trees) are steps next parts all runs = absurd are
  runs_through (RuleSymbol number ∷ symbols) done are steps next parts all runs = absurd are
  runs_through (RuleSymbol number ∷ symbols) (leaf token trees) are steps next parts all runs = absurd are
  runs_through (RuleSymbol number ∷ symbols) (node rule inner trees) are steps next parts all runs =
      let part = scheme.action rule (parts_of scheme inner) in (
        are.0,
        are.1,
        runs_through symbols trees are.2 steps next (parts ++ part ∷ []) all
            (subst (λ (l : List Part). Runs scheme steps next l all) (sym (append_assoc parts (part ∷ []) (parts_of scheme trees))) runs),
      )

  -- whatever trees come for symbols, the steps after them have the parts that they need
  fits_through : (symbols : List Symbol) (steps : List Step) (parts : List Part)
      → ((trees : Nodes Token) → AreTrees scheme.grammar class_of symbols trees → Fits scheme steps (parts ++ parts_of scheme trees))
      → Fits scheme (map step_of symbols ++ steps) parts
  fits_through [] steps parts behind = subst (λ (l : List Part). Fits scheme steps l) (append-nil parts) (behind done tt)
  fits_through (ClassSymbol class ∷ symbols) steps parts behind = λ token is.
      let own = parts_of_token scheme class token in
      fits_through symbols steps (parts ++ own) (λ trees are.
      subst (λ (l : List Part). Fits scheme steps l)
      ((λ i. parts ++ (parts_of_token scheme (is i) token ++ parts_of scheme trees)) ∙ sym (append_assoc parts own (parts_of scheme trees)))
      (behind (leaf token trees) (is, are)))
  fits_through (RuleSymbol number ∷ symbols) steps parts behind = λ body inner is are_inner.
      let part = scheme.action number (parts_of scheme inner) in
      fits_through symbols steps (parts ++ part ∷ []) (λ trees are.
      subst (λ (l : List Part). Fits scheme steps l) (sym (append_assoc parts (part ∷ []) (parts_of scheme trees)))
      (behind (node number inner trees) (refl, (body, is, are_inner), are)))

  -- ---- one step

  -- at the end of a body its parts are there, and become that of its rule
  runs_close : (rule : ℕ) (body : List Symbol) (inner next : Nodes Token) (steps : List Step) (parts all : List Part) → IsBody scheme.grammar rule body
      → AreTrees scheme.grammar class_of body inner → Runs scheme steps next (parts ++ scheme.action rule (parts_of scheme inner) ∷ []) all
      → Runs scheme (Close rule (length parts) ∷ steps) next (parts ++ parts_of scheme inner) all
  runs_close rule body inner next steps parts all is are runs =
      let own = drop-append_seam parts (parts_of scheme inner) in
      let before = take-append_seam parts (parts_of scheme inner) in (
        omega (arith, length-append parts (parts_of scheme inner)),
        record { body = body; is_body = is; trees = inner; derived = are; stand = sym own },
        subst (λ (l : List Part). Runs scheme steps next l all) (λ i. sym before i ++ scheme.action rule (sym own i) ∷ []) runs,
      )

  fits_close : (rule : ℕ) (body : List Symbol) (inner : Nodes Token) (steps : List Step) (parts : List Part) → IsBody scheme.grammar rule body
      → AreTrees scheme.grammar class_of body inner → Fits scheme steps (parts ++ scheme.action rule (parts_of scheme inner) ∷ [])
      → Fits scheme (Close rule (length parts) ∷ steps) (parts ++ parts_of scheme inner)
  fits_close rule body inner steps parts is are fits =
      let own = drop-append_seam parts (parts_of scheme inner) in
      let before = take-append_seam parts (parts_of scheme inner) in (
        omega (arith, length-append parts (parts_of scheme inner)),
        record { body = body; is_body = is; trees = inner; derived = are; stand = sym own },
        subst (λ (l : List Part). Fits scheme steps l) (λ i. sym before i ++ scheme.action rule (sym own i) ∷ []) fits,
      )

  -- a body in the place of its rule
  pub fits_opened : (number : ℕ) (body : List Symbol) (steps : List Step) (parts : List Part) → IsBody scheme.grammar number body
      → Fits scheme (Rule number ∷ steps) parts → Fits scheme (map step_of body ++ Close number (length parts) ∷ steps) parts
  fits_opened number body steps parts is fits =
      fits_through body (Close number (length parts) ∷ steps) parts
      (λ trees are. fits_close number body trees steps parts is are (fits body trees is are))

  pub start_fits : (number : ℕ) → Fits scheme (Rule number ∷ []) []
  start_fits number = λ body trees is are. tt

  pub start_under_way : (tokens : List Token) (tree : Nodes Token) → IsTree scheme.grammar class_of tokens tree
      → IsUnderWay scheme (Rule scheme.grammar.start ∷ []) [] tokens (parts_of scheme tree)
  start_under_way tokens done is = absurd is.derived
  start_under_way tokens (leaf token next) is = absurd is.derived
  start_under_way tokens (node rule inner done) is = record {
    reached = at_start;
    trees = node rule inner done;
    runs = (is.derived.0, is.derived.1, refl);
    leaves_left = is.whole;
  }
  start_under_way tokens (node rule inner (leaf token next)) is = absurd is.derived.2
  start_under_way tokens (node rule inner (node other within next)) is = absurd is.derived.2

  -- a sentence has one part
  pub one_part : (tree : Nodes Token) → AreTrees scheme.grammar class_of (RuleSymbol scheme.grammar.start ∷ []) tree
      → (part : Part) × (parts_of scheme tree ≡ part ∷ [])
  one_part done are = absurd are
  one_part (leaf token next) are = absurd are
  one_part (node rule inner done) are = (scheme.action rule (parts_of scheme inner), refl)
  one_part (node rule inner (leaf token next)) are = absurd are.2
  one_part (node rule inner (node other within next)) are = absurd are.2

  module _ (p : IsPredictive scheme.grammar) where
    -- a body is taken in the place of its rule
    pub opened : (number : ℕ) (steps : List Step) (rule : Production) (next : Option ℕ) (parts all : List Part) (left : List Token)
        → slice_get scheme.grammar.productions number ≡ Some rule → slice_get (map class_of left) 0 ≡ next → IsUnderWay scheme (Rule number ∷ steps) parts left all
        → IsUnderWay scheme (map step_of (body_for rule next) ++ Close number (length parts) ∷ steps) parts left all
    opened number steps rule next parts all left at comes under = by under.trees under.runs under.leaves_left
      where
        by : (trees : Nodes Token) → Runs scheme (Rule number ∷ steps) trees parts all → leaves trees ≡ left
            → IsUnderWay scheme (map step_of (body_for rule next) ++ Close number (length parts) ∷ steps) parts left all
        by done runs is = absurd runs
        by (leaf token follows) runs is = absurd runs
        by (node other inner follows) runs is =
            let body = runs.1.0 in
            let behind = symbols_of steps in
            let follow = trees_run steps follows _ all runs.2 in
            let derived = derives_leaves scheme.grammar class_of (body ++ behind) (join inner follows) (trees_join scheme.grammar class_of body behind inner follows runs.1.2 follow) in
            let same_leaves : leaves (join inner follows) ≡ left = leaves_join inner follows ∙ is in
            let picked : body_for rule (slice_get (map class_of left) 0) ≡ body =
            ap (λ l. body_for rule (slice_get (map class_of l) 0)) (sym same_leaves)
            ∙ body_picked scheme.grammar (hints scheme.grammar) (facts scheme.grammar p) number rule body behind (map class_of (leaves (join inner follows))) at
            (reached_guarded scheme.grammar (hints scheme.grammar) (facts scheme.grammar p) under.reached) runs.1.1 derived in
            let is_body : body ≡ body_for rule next = sym picked ∙ ap (body_for rule) comes in
            let closing = Close number (length parts) ∷ steps in
            let runs_on = subst (λ (n : ℕ). Runs scheme steps follows (parts ++ scheme.action n (parts_of scheme inner) ∷ []) all) runs.0 runs.2 in
            subst (λ (b : List Symbol). IsUnderWay scheme (map step_of b ++ closing) parts left all) is_body (record {
              reached = subst (IsReached scheme.grammar) (sym (symbols_opened body closing)) (in_body body runs.1.1 under.reached);
              trees = join inner follows;
              runs = runs_through body inner runs.1.2 closing follows parts all (runs_close number body inner follows steps parts all runs.1.1 runs.1.2 runs_on);
              leaves_left = same_leaves;
            })

  -- a body ends
  pub closed : (rule first : ℕ) (steps : List Step) (parts all : List Part) (left : List Token) → IsUnderWay scheme (Close rule first ∷ steps) parts left all
      → IsUnderWay scheme steps (take first parts ++ scheme.action rule (drop first parts) ∷ []) left all
  closed rule first steps parts all left under =
      record { reached = under.reached; trees = under.trees; runs = under.runs.2; leaves_left = under.leaves_left }

  -- the token is there
  pub taken : (class : ℕ) (steps : List Step) (parts all : List Part) (token : Token) (left : List Token)
      → IsUnderWay scheme (Class class ∷ steps) parts (token ∷ left) all → IsUnderWay scheme steps (parts ++ parts_of_token scheme class token) left all
  taken class steps parts all token left under = by under.trees under.runs under.leaves_left
    where
      by : (trees : Nodes Token) → Runs scheme (Class class ∷ steps) trees parts all → leaves trees ≡ token ∷ left
          → IsUnderWay scheme steps (parts ++ parts_of_token scheme class token) left all
      by done runs is = absurd runs
      by (leaf other next) runs is =
          let same : other ≡ token = cc in
          let same_left : leaves next ≡ left = cc in
          record {
            reached = past_class under.reached;
            trees = next;
            runs = subst (λ (t : Token). Runs scheme steps next (parts ++ parts_of_token scheme class t) all) same runs.1;
            leaves_left = same_left;
          }
      by (node rule inner next) runs is = absurd runs

  -- no class is left where no token is
  pub no_class : (class : ℕ) (steps : List Step) (parts all : List Part) → IsUnderWay scheme (Class class ∷ steps) parts [] all → ⊥
  no_class class steps parts all under = by under.trees under.runs under.leaves_left
    where
      by : (trees : Nodes Token) → Runs scheme (Class class ∷ steps) trees parts all → leaves trees ≡ [] → ⊥
      by done runs is = absurd runs
      by (leaf other next) runs is = cc
      by (node rule inner next) runs is = absurd runs

  pub all_made : (parts all : List Part) (left : List Token) → IsUnderWay scheme [] parts left all → parts ≡ all
  all_made parts all left under = by under.trees under.runs
    where
      by : (trees : Nodes Token) → Runs scheme [] trees parts all → parts ≡ all
      by done runs = runs
      by (leaf other next) runs = absurd runs
      by (node rule inner next) runs = absurd runs

  -- the machine stops at the end
  pub end_reached : (wanted : Option ℕ) (steps : List Step) (parts all : List Part) → IsUnderWay scheme (with_class wanted steps) parts [] all → parts ≡ all
  end_reached None steps parts all under = all_made parts all [] under
  end_reached (Some class) steps parts all under = absurd (no_class class steps parts all under)

-- ---- the steps as the code keeps them: the last is the next

map-reverse : {A B : Type 0} (f : A → B) (list : List A) → map f (reverse list) ≡ reverse (map f list)
map-reverse f [] = refl
map-reverse f (x ∷ list) =
    ap (map f) (reverse-append (x ∷ []) list)
    ∙ map-append f (reverse list) (x ∷ [])
    ∙ ap (λ l. l ++ f x ∷ []) (map-reverse f list)
    ∙ sym (reverse-append (f x ∷ []) (map f list))

-- the steps of symbols after one more step
pub steps_pushed : (old : List Step) (step : Step) (symbols : List Symbol)
    → reverse ((old ++ step ∷ []) ++ map step_of (reverse symbols)) ≡ map step_of symbols ++ step ∷ reverse old
steps_pushed old step symbols =
    reverse-append (old ++ step ∷ []) (map step_of (reverse symbols))
    ∙ (λ i. (ap reverse (map-reverse step_of symbols) ∙ reverse-reverse (map step_of symbols)) i ++ reverse-append old (step ∷ []) i)

-- the step that was popped was the next
pub next_is : (steps before : List Step) (popped step : Step) → steps ≡ before ++ popped ∷ [] → popped ≡ step → reverse steps ≡ step ∷ reverse before
next_is steps before popped step e is = ap reverse e ∙ (reverse-append before (popped ∷ []) ∙ ap (λ x. x ∷ reverse before) is)

-- ---- one turn of the machine

-- what the loop keeps
pub record Keeps {Part : Type 0} (scheme : Scheme Part) (next : Option ℕ) (begun : List Step) (begun_parts : List Part) (steps : List Step)
    (parts : List Part) : Type 0 where
  pub stack : IsStackFor scheme.grammar next (symbols_of begun) (symbols_of steps)
  pub fits : Fits scheme steps parts
  pub goes : (left : List Token) (all : List Part) → slice_get (map (scheme.class) left) 0 ≡ next
      → IsUnderWay scheme begun begun_parts left all → IsUnderWay scheme steps parts left all

module _ {Part : Type 0} (scheme : Scheme Part) (next : Option ℕ) (begun : List Step) (begun_parts : List Part) where
  -- of the steps as the code keeps them
  module _ (before after : List Step) (parts new_parts : List Part) (keeps : Keeps scheme next begun begun_parts before parts) where
    module _ (p : IsPredictive scheme.grammar) (number first : ℕ) (steps : List Step) (top : before ≡ Rule number ∷ steps) where
      kept : Keeps scheme next begun begun_parts (Rule number ∷ steps) parts
      kept = subst (λ (l : List Step). Keeps scheme next begun begun_parts l parts) top keeps

      pub known_rule : number < length scheme.grammar.productions
      known_rule = in_table scheme.grammar p number (symbols_of steps) kept.stack.reached

      turned_to_body : (rule : Production) → slice_get scheme.grammar.productions number ≡ Some rule
          → Keeps scheme next begun begun_parts (map step_of (body_for rule next) ++ Close number (length parts) ∷ steps) parts
      turned_to_body rule at =
          let body = body_for rule next in
          let closing = Close number (length parts) ∷ steps in
          record {
            stack = subst (IsStackFor scheme.grammar next (symbols_of begun)) (sym (symbols_opened body closing))
                (stack_step scheme.grammar p next (symbols_of begun) number (symbols_of steps) rule at kept.stack);
            fits = fits_opened scheme number body steps parts (body_in scheme.grammar number rule body at (body_contained rule next)) kept.fits;
            goes = λ left all comes under. opened scheme p number steps rule next parts all left at comes (kept.goes left all comes under);
          }

      pub body_turn : (first ≡ length parts) → new_parts ≡ parts
          → ((rule : Production) → slice_get scheme.grammar.productions number ≡ Some rule → after ≡ map step_of (body_for rule next) ++ Close number first ∷ steps)
          → Keeps scheme next begun begun_parts after new_parts × (steps_weight scheme.grammar after < steps_weight scheme.grammar before)
      body_turn size same told =
          let (rule, at) = rule_at scheme.grammar number known_rule in
          let is = told rule at ∙ ap (λ n. map step_of (body_for rule next) ++ Close number n ∷ steps) size in
          let less = opened_is_less scheme.grammar p number (length parts) steps rule next at in (
            subst (λ (both : List Step × List Part). Keeps scheme next begun begun_parts both.0 both.1) (λ i. (sym is i, sym same i)) (turned_to_body rule at),
            omega (arith, less, ap (steps_weight scheme.grammar) is, ap (steps_weight scheme.grammar) top),
          )

-- ---- one token, and the end

module _ {Part : Type 0} (scheme : Scheme Part) (old new : List Step) (old_parts parts : List Part) (wanted : Option ℕ) where
  pub takes : (token : Token) (class : ℕ) → class ≡ scheme.class token → Advances scheme (Some class) old old_parts wanted new parts
      → wanted ≡ Some class → (new_parts : List Part) → new_parts ≡ parts ++ parts_of_token scheme class token → Takes scheme token true old old_parts new new_parts
  takes token class is advances same new_parts made =
      let g = scheme.grammar in
      let one = subst (λ w. Wants g (Some class) (symbols_of old) w (symbols_of new)) same advances.wants in
      let fits : Fits scheme (Class class ∷ new) parts = subst (λ w. Fits scheme (with_class w new) parts) same advances.fits in
      record {
        follows = λ passed f. subst (λ k. Follows g (passed ++ k ∷ []) (symbols_of new)) is (follows_class g passed (symbols_of old) class (symbols_of new) f one);
        fits = subst (λ (l : List Part). Fits scheme new l) (sym made) (fits token (sym is));
        goes = λ left all under. subst (λ (l : List Part). IsUnderWay scheme new l left all) (sym made)
            (taken scheme class new parts all token left
            (subst (λ w. IsUnderWay scheme (with_class w new) parts (token ∷ left) all) same (advances.goes (token ∷ left) all (ap Some (sym is)) under)));
      }

  pub sticks : (token : Token) (class : ℕ) → class ≡ scheme.class token → Advances scheme (Some class) old old_parts wanted new parts
      → (wanted ≡ Some class → ⊥) → (new_parts : List Part) → Takes scheme token false old old_parts new new_parts
  sticks token class is advances other new_parts = record {
    none = λ passed f. subst (λ k. ¬ IsViable scheme.grammar (passed ++ k ∷ [])) is
        (no_more_viable scheme.grammar passed (symbols_of old) class wanted (symbols_of new) f advances.wants other);
  }

  -- nothing is wanted at the end of a sentence
  pub ends : Advances scheme None old old_parts wanted new parts → is_some wanted ≡ false → (passed : List ℕ) → Follows scheme.grammar passed (symbols_of old)
      → IsSentence scheme.grammar passed
  ends advances none passed f = sentence_at_end scheme.grammar passed (symbols_of old) wanted (symbols_of new) f advances.wants none

  pub no_whole : Advances scheme None old old_parts wanted new parts → is_some wanted ≡ true → (whole : Part) → IsUnderWay scheme old old_parts [] (whole ∷ []) → ⊥
  no_whole advances some whole under = stuck wanted some (advances.goes [] (whole ∷ []) refl under)
    where
      stuck : (wanted : Option ℕ) → is_some wanted ≡ true → IsUnderWay scheme (with_class wanted new) parts [] (whole ∷ []) → ⊥
      stuck None some under = cc
      stuck (Some class) some under = no_class scheme class new parts (whole ∷ []) under

  pub whole_made : Advances scheme None old old_parts wanted new parts → (whole : Part) → IsUnderWay scheme old old_parts [] (whole ∷ []) → parts ≡ whole ∷ []
  whole_made advances whole under = end_reached scheme wanted new parts (whole ∷ []) (advances.goes [] (whole ∷ []) refl under)

-- ---- the last part

pub whatever_was_popped : {A : Type 0} {Fact : Type 0} (popped : Option A) → Fact → IfSome popped (λ _. Fact)
whatever_was_popped None fact = tt
whatever_was_popped (Some part) fact = fact

-- the one part that was there is popped
pub only_popped : {A B : Type 0} (f : A → B) (old new : List A) (popped : Option A) (only : B) → old ≡ new ++ option_to_list popped
    → (0 < length old → is_some popped ≡ true) → map f old ≡ only ∷ [] → option_map f popped ≡ Some only
only_popped f old new None only split some made =
    let size : length old ≡ 1 = sym (length-map old f) ∙ ap length made in
    let never : false ≡ true = some (omega (arith, size)) in
    cc
only_popped f old new (Some part) only split some made =
    ap Some (last_is (map f new) (f part) only (sym (map-append f new (part ∷ [])) ∙ sym (ap (map f) split) ∙ made))
  where
    last_is : {A : Type 0} (before : List A) (last only : A) → before ++ last ∷ [] ≡ only ∷ [] → last ≡ only
    last_is [] last only e = cc
    last_is (x ∷ before) last only e =
        let none : before ++ last ∷ [] ≡ [] = cc in
        absurd (omega (arith, length-append before (last ∷ []), ap length none))
