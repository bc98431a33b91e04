-- What is put into a target in turn.
use Rattle.std.proofs.Common.{◌≡◌, ◌<◌, ◌+◌, ◌-◌, ◌∷◌, ◌++◌, ◌∙◌, ℕ, true, false, List, [], length, take, drop, Option, Some, None, Result, Ok, Err, Vec, Global}
use Rattle.std.proofs.Common.{refl, sym, ap, subst, arith, append_assoc, append-nil, get_or}
use Rattle.std.proofs.lemmas.List.{take-append-drop, take_rest, take_more}
use Rattle.std.proofs.lemmas.Grind.{flat_map-append}
use Rattle.std.specs.List.{flat_map}
use Rattle.std.specs.Prelude.{Bool, OnOk, OnErr, is_err, is_ok, IfOk, ⊤, if◌then◌else◌}
use Rattle.std.specs.Bool.{OnTrue, OnFalse}
use Rattle.std.specs.declared.alloc.AllocError.{AllocError}
use Rattle.std.specs.Borrow.{GName, MutBor}
use Rattle.dcv_io.specs.Faults.{RisesIf, raised}
use Rattle.dcv_io.specs.Written.{appended, Appends, AppendsStrictPrefix}
use Rattle.dcv_io.specs.Putting.{Put, Holds, Puts, standing_as, block_put, text_put}
use Rattle.dcv_io.specs.declared.fault.Failed.{Failed}
use Rattle.dcv_io.proofs.Appending.{appended-appended, appends_further, appends_less}

pub puts_nothing : (put : Put) → Puts put put []
puts_nothing put = record {
  same = refl;
  behind = λ written faults text holds. subst (λ (t : List ℕ). Holds written faults t put) (sym (append-nil text)) holds;
}

pub puts_both : (old mid new : Put) (one other : List ℕ) → Puts old mid one → Puts mid new other → Puts old new (one ++ other)
puts_both old mid new one other first second = record {
  same = second.same ∙ first.same;
  behind = λ written faults text holds.
      subst (λ (t : List ℕ). Holds written faults t new) (append_assoc text one other)
      (second.behind written faults (text ++ one) (first.behind written faults text holds));
}

pub puts_same : (old new : Put) (one other : List ℕ) → Puts old new one → one ≡ other → Puts old new other
puts_same old new one other puts is = subst (λ (t : List ℕ). Puts old new t) is puts

pub puts_further : (old mid new : Put) (one other all : List ℕ) → Puts old mid one → Puts mid new other → all ≡ one ++ other → Puts old new all
puts_further old mid new one other all first second is =
    puts_same old new (one ++ other) all (puts_both old mid new one other first second) (sym is)

-- more waits, or nothing is taken any more
pub puts_held : (loans : List GName) (out : Option (List ℕ)) (count : ℕ) (last failed : Bool) (held more : List ℕ)
    → Puts (standing_as loans out count last held failed) (standing_as loans out count last (held ++ more) failed) more
puts_held loans out count last false held more = record {
  same = refl;
  behind = λ written faults text holds.
      record {
        whole = (holds.whole.0, holds.whole.1, ap (λ t. t ++ more) holds.whole.2 ∙ append_assoc holds.whole.0 held more);
        front = tt;
        count = holds.count;
        once = tt;
        stops = tt;
      };
}
puts_held loans out count last true held more = record {
  same = refl;
  behind = λ written faults text holds.
      record { whole = tt; front = appends_less written out text more holds.front; count = holds.count; once = holds.once; stops = holds.stops };
}

-- what waits is written
pub puts_written : (loans : List GName) (old new : Option (List ℕ)) (before after : ℕ) (last_before last_after : Bool) (held : List ℕ) (result : Result ⊤ Failed)
    → OnOk result (Appends old new held) → OnErr result (AppendsStrictPrefix old new held) → RisesIf (is_err result) before after
    → OnErr result (after ≡ raised before) → OnErr result (last_after ≡ true)
    → Puts (standing_as loans old before last_before held false) (standing_as loans new after last_after [] (is_err result)) []
puts_written loans old new before after last_before last_after held (Ok done) whole front rises once stops = record {
  same = refl;
  behind = λ written faults text holds.
      record {
        whole = (
          holds.whole.0 ++ held,
          whole ∙ ap (λ w. appended w held) holds.whole.1 ∙ appended-appended written holds.whole.0 held,
          ap (λ t. t ++ []) holds.whole.2,
        );
        front = tt;
        count = rises ∙ holds.count;
        once = tt;
        stops = tt;
      };
}
puts_written loans old new before after last_before last_after held (Err failed) whole front rises once stops = record {
  same = refl;
  behind = λ written faults text holds.
      record {
        whole = tt;
        front = subst (λ (t : List ℕ). AppendsStrictPrefix written new (t ++ [])) (sym holds.whole.2)
            (appends_less written new (holds.whole.0 ++ held) [] (appends_further written old new holds.whole.0 held holds.whole.1 front));
        count = subst (λ (n : ℕ). RisesIf true n after) holds.count rises;
        once = once ∙ ap raised holds.count;
        stops = stops;
      };
}

-- ---- loops

-- what is put of one element more
pub flat_map_more : {X : Type 0} (f : X → List ℕ) (xs : List X) (n : ℕ) (d : X) → n < length xs
    → flat_map f (take (n + 1) xs) ≡ flat_map f (take n xs) ++ f (get_or xs n d)
flat_map_more f xs n d below =
    ap (flat_map f) (take_more xs n d below) ∙ flat_map-append f (take n xs) (get_or xs n d ∷ [])
    ∙ ap (λ last. flat_map f (take n xs) ++ last) (append-nil (f (get_or xs n d)))

pub puts_one_more : {X : Type 0} (f : X → List ℕ) (xs : List X) (n : ℕ) (d : X) (old mid new : Put) → n < length xs
    → Puts old mid (flat_map f (take n xs)) → Puts mid new (f (get_or xs n d)) → Puts old new (flat_map f (take (n + 1) xs))
puts_one_more f xs n d old mid new below first second =
    puts_further old mid new (flat_map f (take n xs)) (f (get_or xs n d)) (flat_map f (take (n + 1) xs)) first second
    (flat_map_more f xs n d below)

-- ---- the loop of a block

-- a part of what is left was put after what had been
pub puts_part : (loans : List GName) (old mid : Put) (out : Option (List ℕ)) (count : ℕ) (last failed : Bool) (held more_held : List ℕ) (done rest : List ℕ) (n : ℕ)
    → Puts old mid done → Puts mid (standing_as loans out count last held failed) [] → more_held ≡ held ++ take n rest
    → Puts old (standing_as loans out count last more_held failed) (done ++ take n rest)
puts_part loans old mid out count last failed held more_held done rest n before room taken =
    let now = standing_as loans out count last more_held failed in
    let filled = subst (λ (h : List ℕ). Puts (standing_as loans out count last held failed) (standing_as loans out count last h failed) (take n rest))
    (sym taken) (puts_held loans out count last failed held (take n rest)) in
    puts_both old mid now done (take n rest) before (puts_both mid (standing_as loans out count last held failed) now [] (take n rest) room filled)

pub left_of_part : (bytes done rest : List ℕ) (n : ℕ) → bytes ≡ done ++ rest → bytes ≡ (done ++ take n rest) ++ take (length rest - n) (drop n rest)
left_of_part bytes done rest n is =
    is ∙ ap (λ left. done ++ left) (sym (take-append-drop n rest) ∙ ap (λ left. take n rest ++ left) (sym (take_rest rest n)))
    ∙ sym (append_assoc done (take n rest) (take (length rest - n) (drop n rest)))

pub puts_all : (old new : Put) (bytes done rest : List ℕ) → Puts old new done → bytes ≡ done ++ rest → length rest ≡ 0 → Puts old new bytes
puts_all old new bytes done [] puts is none = subst (λ (t : List ℕ). Puts old new t) (sym (is ∙ append-nil done)) puts
puts_all old new bytes done (x ∷ rest) puts is none = absurd (omega (arith, none))

-- ---- from the first to the last

appends_nothing : (written : Option (List ℕ)) → Appends written written []
appends_nothing None = refl
appends_nothing (Some bytes) = ap Some (sym (append-nil bytes))

-- since nothing had been put
pub puts_from_nothing : (old new : Put) (text : List ℕ) → old.held ≡ [] → old.failed ≡ false → Puts old new text → Holds old.out old.faults text new
puts_from_nothing old new text none going puts =
    puts.behind old.out old.faults [] (record {
      whole = subst (λ (b : Bool). OnFalse b ((sent : List ℕ) × Appends old.out old.out sent × ([] ≡ sent ++ old.held))) (sym going)
          ([], appends_nothing old.out, sym none);
      front = subst (λ (b : Bool). OnTrue b (AppendsStrictPrefix old.out old.out [])) (sym going) tt;
      count = subst (λ (b : Bool). RisesIf b old.faults old.faults) (sym going) refl;
      once = subst (λ (b : Bool). OnTrue b (old.faults ≡ raised old.faults)) (sym going) tt;
      stops = subst (λ (b : Bool). OnTrue b (old.last_failed ≡ true)) (sym going) tt;
    })

-- nothing waits, and no call has failed
pub all_is_out : (written : Option (List ℕ)) (faults : ℕ) (text : List ℕ) (new : Put) → Holds written faults text new → new.held ≡ []
    → OnFalse new.failed (Appends written new.out text)
all_is_out written faults text new holds none =
    let out : OnFalse new.failed ((sent : List ℕ) × Appends written new.out sent × (text ≡ sent ++ new.held)) → OnFalse new.failed (Appends written new.out text) =
    elim new.failed as (λ b. OnFalse b ((sent : List ℕ) × Appends written new.out sent × (text ≡ sent ++ new.held)) → OnFalse b (Appends written new.out text)) [
      | true ↦ λ h. tt
      | false ↦ λ h. subst (λ (t : List ℕ). Appends written new.out t) (sym (h.2 ∙ ap (λ held. h.0 ++ held) none ∙ append-nil h.0)) h.1
    ] in
    out holds.whole

-- ---- a text in memory

-- more is put after what there is, or there is no memory for it
pub puts_more : (old new more : List ℕ) (result : Result ⊤ AllocError) → 0 < length more → new ≡ (if is_ok result then old ++ more else old)
    → Puts (text_put old false) (text_put new (is_err result)) more
puts_more old new more (Ok done) some is = record {
  same = refl;
  behind = λ written faults text holds.
      let (sent, there, all) = holds.whole in
      record {
        whole = (
          sent ++ more,
          ap Some is ∙ ap (λ w. appended w more) there ∙ appended-appended written sent more,
          ap (λ t. t ++ more) (all ∙ append-nil sent) ∙ sym (append-nil (sent ++ more)),
        );
        front = tt;
        count = holds.count;
        once = tt;
        stops = tt;
      };
}
puts_more old new more (Err failed) some is = record {
  same = refl;
  behind = λ written faults text holds.
      let (sent, there, all) = holds.whole in
      let stays : AppendsStrictPrefix (Some old) (Some new) more = (0, some, ap Some (is ∙ sym (append-nil old))) in
      record {
        whole = tt;
        front = subst (λ (t : List ℕ). AppendsStrictPrefix written (Some new) (t ++ more)) (sym (all ∙ append-nil sent))
            (appends_further written (Some old) (Some new) sent more there stays);
        count = subst (λ (n : ℕ). RisesIf true n 1) holds.count (record { risen = refl; no_lower = omega arith });
        once = subst (λ (n : ℕ). 1 ≡ raised n) holds.count refl;
        stops = refl;
      };
}

bytes_of : Option (List ℕ) → List ℕ
bytes_of None = []
bytes_of (Some bytes) = bytes

-- a text to which this was put from nothing is this
pub text_is : (new text : List ℕ) → Puts (text_put [] false) (text_put new false) text → new ≡ text
unfolding bytes_of puts_from_nothing
text_is new text puts =
    let (sent, there, all) = (puts_from_nothing (text_put [] false) (text_put new false) text refl refl puts).whole in
    ap bytes_of there ∙ sym (all ∙ append-nil sent)

-- a text was put from nothing, and then taken
pub text_taken : (start : List ℕ) (going : Bool) (bytes : Vec ℕ Global) (failed : Bool) (result : Result (Vec ℕ Global) AllocError) (text : List ℕ)
    → start ≡ [] → going ≡ false → Puts (text_put start going) (text_put bytes.items failed) text
    → IfOk result (λ taken. failed ≡ false) → IfOk result (λ taken. taken ≡ bytes) → IfOk result (λ taken. taken.items ≡ text)
text_taken start going bytes failed (Ok taken) text none goes puts whole is =
    let Ends : Bool → List ℕ → Bool → Type 0 = λ b items f. Puts (text_put items b) (text_put bytes.items f) text in
    ap (λ (v : Vec ℕ Global). v.items) is
    ∙ text_is bytes.items text
    (subst (λ (f : Bool). Ends false [] f) whole (subst (λ (b : Bool). Ends b [] failed) goes (subst (λ (items : List ℕ). Ends going items failed) none puts)))
text_taken start going bytes failed (Err none) text _ _ puts whole is = tt

-- ---- a block in front of a sink

ok_of : (result : Result ⊤ Failed) (b : Bool) (X : Type 0) → is_err result ≡ b → OnFalse b X → OnOk result X
ok_of (Ok done) b X is h = subst (λ (c : Bool). OnFalse c X) (sym is) h
ok_of (Err failed) b X is h = tt

err_of : (result : Result ⊤ Failed) (b : Bool) (X : Type 0) → is_err result ≡ b → OnTrue b X → OnErr result X
err_of (Ok done) b X is h = tt
err_of (Err failed) b X is h = subst (λ (c : Bool). OnTrue c X) (sym is) h

-- A text was put into a block in front of a sink, and then the block was finished: the sink has the text, or a front of it.
module _ {S : Type 0} (written : S → Option (List ℕ)) (faults : S → ℕ) (last : S → Bool) (sink first second third : MutBor S) (none some left : List ℕ)
    (going going_on failed : Bool) (result : Result ⊤ Failed) (end_sink : S) (text : List ℕ) (at : first ≡ sink) (holds_none : none ≡ []) (goes : going ≡ false)
    (put : Puts (block_put written faults last first none going) (block_put written faults last second some going_on) text)
    (finish : Puts (block_put written faults last second some going_on) (block_put written faults last third left failed) [])
    (holds_nothing : left ≡ []) (is : is_err result ≡ failed) (ends : sink.ghost_name ≡ third.ghost_name → end_sink ≡ third.now) where
  start : Put
  start = block_put written faults last first none going

  end : Put
  end = block_put written faults last third left failed

  puts : Puts start end text
  unfolding start end
  puts = puts_same start end (text ++ []) text (puts_both start (block_put written faults last second some going_on) end text [] put finish) (append-nil text)

  is_last : end_sink ≡ third.now
  unfolding start end
  is_last = ends (sym (ap (λ (names : List GName). get_or names 0 sink.ghost_name) puts.same ∙ ap (λ (s : MutBor S). s.ghost_name) at))

  holds : Holds (written sink.now) (faults sink.now) text end
  unfolding start end
  holds = subst (λ (s : MutBor S). Holds (written s.now) (faults s.now) text end) at (puts_from_nothing start end text holds_none goes puts)

  pub all_sent : OnOk result (Appends (written sink.now) (written end_sink) text)
  unfolding end
  all_sent = subst (λ (s : S). OnOk result (Appends (written sink.now) (written s) text)) (sym is_last)
      (ok_of result failed (Appends (written sink.now) (written third.now) text) is
      (all_is_out (written sink.now) (faults sink.now) text end holds holds_nothing))

  pub front_sent : OnErr result (AppendsStrictPrefix (written sink.now) (written end_sink) text)
  unfolding end
  front_sent = subst (λ (s : S). OnErr result (AppendsStrictPrefix (written sink.now) (written s) text)) (sym is_last)
      (err_of result failed (AppendsStrictPrefix (written sink.now) (written third.now) text) is holds.front)

  pub faults_counted : RisesIf (is_err result) (faults sink.now) (faults end_sink)
  unfolding end
  faults_counted = subst (λ (s : S). RisesIf (is_err result) (faults sink.now) (faults s)) (sym is_last)
      (subst (λ (b : Bool). RisesIf b (faults sink.now) (faults third.now)) (sym is) holds.count)

  pub failed_once : OnErr result (faults end_sink ≡ raised (faults sink.now))
  unfolding end
  failed_once = subst (λ (s : S). OnErr result (faults s ≡ raised (faults sink.now))) (sym is_last)
      (err_of result failed (faults third.now ≡ raised (faults sink.now)) is holds.once)

  pub stopped_there : OnErr result (last end_sink ≡ true)
  unfolding end
  stopped_there = subst (λ (s : S). OnErr result (last s ≡ true)) (sym is_last) (err_of result failed (last third.now ≡ true) is holds.stops)
