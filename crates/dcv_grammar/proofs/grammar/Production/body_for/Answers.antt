use Rattle.std.proofs.Common.{◌≡◌, ◌==◌, ℕ, true, false, List, ◌∷◌, get_or, drop, map, length, ap, ◌∙◌, sym, ◌+◌, ◌<◌, cond, drop-cons, add-one}
use Rattle.std.specs.List.{list_any}
use Rattle.dcv_grammar.specs.declared.grammar.Symbol.{Symbol}
use Rattle.dcv_grammar.specs.declared.grammar.Alternative.{Alternative as AlternativeTable}
use Rattle.dcv_grammar.specs.Grammar.{production_of, alternative_of}
use Rattle.dcv_grammar.specs.Picked.{body_for, picked}
use Rattle.dcv_grammar.proofs.grammar.Production.body_for.Goals as goal

-- what the alternatives from a place on pick is decided by the one there, or left to those after it
picked_at : (alternatives : List AlternativeTable) (otherwise : List Symbol) (class i : ℕ) (d : AlternativeTable) → i < length alternatives → picked (map alternative_of (drop i alternatives)) otherwise class ≡ cond (list_any (λ k. k == class) (get_or alternatives i d).classes.now) (get_or alternatives i d).body.now (picked (map alternative_of (drop (i + 1) alternatives)) otherwise class)
picked_at alternatives otherwise class i d lt =
    let e : drop i alternatives ≡ get_or alternatives i d ∷ drop (i + 1) alternatives = rw (add-one, drop-cons alternatives i d) in
    ap (λ xs. picked (map alternative_of xs) otherwise class) e

picked_here : (alternatives : List AlternativeTable) (otherwise : List Symbol) (class i : ℕ) (d : AlternativeTable) (all : List Symbol) → i < length alternatives → list_any (λ k. k == class) (get_or alternatives i d).classes.now ≡ true → picked (map alternative_of (drop i alternatives)) otherwise class ≡ all → (get_or alternatives i d).body.now ≡ all
picked_here alternatives otherwise class i d all lt test whole =
    let later = picked (map alternative_of (drop (i + 1) alternatives)) otherwise class in
    sym (ap (λ b. cond b (get_or alternatives i d).body.now later) test) ∙ sym (picked_at alternatives otherwise class i d lt) ∙ whole

picked_later : (alternatives : List AlternativeTable) (otherwise : List Symbol) (class i : ℕ) (d : AlternativeTable) (all : List Symbol) → i < length alternatives → list_any (λ k. k == class) (get_or alternatives i d).classes.now ≡ false → picked (map alternative_of (drop i alternatives)) otherwise class ≡ all → picked (map alternative_of (drop (i + 1) alternatives)) otherwise class ≡ all
picked_later alternatives otherwise class i d all lt test whole =
    let later = picked (map alternative_of (drop (i + 1) alternatives)) otherwise class in
    sym (ap (λ b. cond b (get_or alternatives i d).body.now later) test) ∙ sym (picked_at alternatives otherwise class i d lt) ∙ whole

pub returns-then-has_class : goal.returns-then-has_class
returns-then-has_class c =
    let self = c.args.self.now in
    picked_here self.alternatives.now self.otherwise.now c.in-Some.class c.loop-alternative.alternative-index _ (body_for (production_of self) c.args.next) c.loop-alternative-test.true
    (sym c.has_class.ensures ∙ c.if-has_class.true)
    (c.loop-alternative.invariant ∙ sym (ap (body_for (production_of self)) c.in-Some.is))

pub loop-alternative-preserved : goal.loop-alternative-preserved
loop-alternative-preserved c =
    let self = c.args.self.now in
    picked_later self.alternatives.now self.otherwise.now c.in-Some.class c.loop-alternative.alternative-index _ (picked (map alternative_of self.alternatives.now) self.otherwise.now c.in-Some.class) c.loop-alternative-test.true
    (sym c.has_class.ensures ∙ c.if-has_class.false)
    c.loop-alternative.invariant
