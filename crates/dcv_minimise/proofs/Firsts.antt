-- The first state of each class, one state after another.
use Rattle.std.proofs.Common.{◌≡◌, ◌≢◌, ℕ, ◌+◌, ◌<◌, Bool, true, false, List, [], ◌∷◌, ◌++◌, length, get_or, set, replicate, ◌⊎◌, inl, inr, ⊎_elim, refl, ap, sym, ◌∙◌, subst, arith}
use Rattle.std.specs.List.{All}
use Rattle.std.proofs.lemmas.Bool.{cases_lt, cases_eq, false≢true}
use Rattle.std.proofs.lemmas.List.{get_or_past, get_or-set_same, get_or-set_other, get_or-replicate, length-set, length-replicate, length-map, map_push, get_or-map, get_or_default}
use Rattle.std.proofs.lemmas.List.Elements.{All-push, All-weaker, All-nil, Contains-push, Contains-append_left}
use Rattle.std.proofs.lemmas.List.Quantifiers.{all_pairs_push}
use Rattle.dcv_reach.specs.Reached.{states_of}
use Rattle.dcv_reach.specs.declared.reached.Found.{Found}
use Rattle.dcv_minimise.specs.Classes.{block_at, HasFirst, AreFirsts, HasFirsts, IsMet, AreMet}

module _ (blocks states : List ℕ) where
  -- ---- at the beginning

  pub no_firsts : AreFirsts blocks states 0 []
  no_firsts = record {
    within = All-nil (λ place. place < 0);
    ascend = λ i j d less inside. absurd (omega arith);
    apart = λ i j d less inside. absurd (omega arith);
    each = λ place inside. absurd (omega arith);
  }

  pub begun : (start : ℕ) (kept : List ℕ) → kept ≡ start ∷ [] → HasFirsts blocks states 0 start kept
  begun start kept are = record { places = []; firsts = no_firsts; are = are }

  pub none_met : (met : List Bool) → met ≡ replicate (length blocks) false → AreMet blocks states 0 met
  none_met met are = record {
    beside = ap length are ∙ length-replicate (length blocks) false;
    all = λ place inside. absurd (omega arith);
    no_others = λ block is. absurd (false≢true (sym (nowhere block) ∙ ap (λ m. get_or m block false) (sym are) ∙ is));
  }
    where
      nowhere : (block : ℕ) → get_or (replicate (length blocks) false) block false ≡ false
      nowhere block = ⊎_elim
          (λ inside. get_or-replicate (length blocks) block false false inside)
          (λ past. get_or_past (replicate (length blocks) false) block false (omega (arith, length-replicate (length blocks) false)))
          (cases_lt block (length blocks))

  -- ---- a state of a class that was met

  module _ (count : ℕ) (met : List Bool) (are_met : AreMet blocks states count met) (places : List ℕ) (firsts : AreFirsts blocks states count places) where
    abbrev here : ℕ
    here = block_at blocks states count

    -- what is so of the states so far and of the next one is so of one state more
    one_more : (P : ℕ → Type 0) → ((place : ℕ) → place < count → P place) → P count → (place : ℕ) → place < count + 1 → P place
    one_more P before last place inside = ⊎_elim
        (λ same. subst P (sym same) last)
        (λ differ. before place (omega arith))
        (cases_eq place count)

    met_within : All (λ place. place < count + 1) places
    met_within = All-weaker (λ place. place < count) (λ place. place < count + 1) (λ place inside. omega arith) places firsts.within

    -- the class has its first state already
    first_of_met : get_or met here false ≡ true → HasFirst blocks states places count
    first_of_met is =
        let earlier = are_met.no_others here is in
        let first = firsts.each earlier.place earlier.within in
        record { first = first.first; among = first.among; same = first.same ∙ earlier.is; no_later = omega (arith, first.no_later, earlier.within) }

    pub met_firsts : get_or met here false ≡ true → AreFirsts blocks states (count + 1) places
    met_firsts is = record {
      within = met_within;
      ascend = firsts.ascend;
      apart = firsts.apart;
      each = one_more (HasFirst blocks states places) firsts.each (first_of_met is);
    }

    pub met_again : get_or met here false ≡ true → AreMet blocks states (count + 1) met
    met_again is = record {
      beside = are_met.beside;
      all = one_more (λ place. get_or met (block_at blocks states place) false ≡ true) are_met.all is;
      no_others = λ block found. let earlier = are_met.no_others block found in record { place = earlier.place; within = omega (arith, earlier.within); is = earlier.is };
    }

    -- ---- the first state of a class

    -- it is in no class that was met
    new_class : get_or met here false ≡ false → (place : ℕ) → place < count → block_at blocks states place ≢ here
    new_class new place inside same = false≢true (sym new ∙ ap (λ block. get_or met block false) (sym same) ∙ are_met.all place inside)

    kept_first : (place : ℕ) → HasFirst blocks states places place → HasFirst blocks states (places ++ count ∷ []) place
    kept_first place has = record { first = has.first; among = Contains-append_left places (count ∷ []) has.first has.among; same = has.same; no_later = has.no_later }

    pub new_firsts : get_or met here false ≡ false → AreFirsts blocks states (count + 1) (places ++ count ∷ [])
    new_firsts new = record {
      within = All-push (λ place. place < count + 1) places count met_within (omega arith);
      ascend = all_pairs_push (λ first second. first < second) places count firsts.ascend (λ k d inside. firsts.within k d inside);
      apart = all_pairs_push (λ first second. block_at blocks states first ≢ block_at blocks states second) places count firsts.apart
          (λ k d inside. new_class new (get_or places k d) (firsts.within k d inside));
      each = one_more (HasFirst blocks states (places ++ count ∷ []))
          (λ place inside. kept_first place (firsts.each place inside))
          (record { first = count; among = Contains-push places count; same = refl; no_later = omega arith });
    }

    pub newly_met : here < length blocks → AreMet blocks states (count + 1) (set met here true)
    newly_met inside =
        let within : here < length met = omega (arith, are_met.beside) in
        record {
          beside = length-set met here true ∙ are_met.beside;
          all = one_more (λ place. get_or (set met here true) (block_at blocks states place) false ≡ true)
              (λ place before. stays (block_at blocks states place) (are_met.all place before) within)
              (get_or-set_same met here true false within);
          no_others = λ block found. by_place block found (cases_eq block here);
        }
      where
        stays : (block : ℕ) → get_or met block false ≡ true → here < length met → get_or (set met here true) block false ≡ true
        stays block is within = ⊎_elim
            (λ same. subst (λ b. get_or (set met here true) b false ≡ true) (sym same) (get_or-set_same met here true false within))
            (λ differ. get_or-set_other met here block true false differ ∙ is)
            (cases_eq block here)

        by_place : (block : ℕ) → get_or (set met here true) block false ≡ true → (block ≡ here) ⊎ (block ≡ here → ⊥) → IsMet blocks states (count + 1) block
        by_place block found (inl same) = record { place = count; within = omega arith; is = sym same }
        by_place block found (inr differ) =
            let earlier = are_met.no_others block (sym (get_or-set_other met here block true false differ) ∙ found) in
            record { place = earlier.place; within = omega (arith, earlier.within); is = earlier.is }

  -- ---- the same of the list that is kept

  module _ (count start : ℕ) (met : List Bool) (kept : List ℕ) (are_met : AreMet blocks states count met) (has : HasFirsts blocks states count start kept) where
    pub again_kept : get_or met (block_at blocks states count) false ≡ true → HasFirsts blocks states (count + 1) start kept
    again_kept is = record { places = has.places; firsts = met_firsts count met are_met has.places has.firsts is; are = has.are }

    pub newly_kept : get_or met (block_at blocks states count) false ≡ false → HasFirsts blocks states (count + 1) start (kept ++ get_or states count 0 ∷ [])
    newly_kept new = record {
      places = has.places ++ count ∷ [];
      firsts = new_firsts count met are_met has.places has.firsts new;
      are = ap (λ list. list ++ get_or states count 0 ∷ []) has.are ∙ ap (λ list. start ∷ list) (sym (map_push (λ place. get_or states place 0) has.places count));
    }

-- ---- the same of the states that a search found

-- the state at a place
found_state : (found : List Found) (place : ℕ) (one : Found) → place < length found → one ≡ get_or found place one → get_or (states_of found) place 0 ≡ one.state
found_state found place one within is = get_or-map (λ (one : Found). one.state) found place one 0 within ∙ ap (λ (one : Found). one.state) (sym is)

pub one_inside : (found : List Found) (bound place : ℕ) (one : Found) → place < length found → one ≡ get_or found place one → All (λ state. state < bound) (states_of found) → one.state < bound
one_inside found bound place one within is all =
    let inside : place < length (states_of found) = omega (arith, length-map found (λ (one : Found). one.state)) in
    subst (λ state. state < bound) (found_state found place one within is) (all place 0 inside)

module _ (blocks : List ℕ) (found : List Found) (start place : ℕ) (met : List Bool) (kept : List ℕ) (one : Found) (within : place < length found) (is : one ≡ get_or found place one)
    (are_met : AreMet blocks (states_of found) place met) (has : HasFirsts blocks (states_of found) place start kept) where
  -- what is read of the block that was met
  pub read_at : (flag truth : Bool) → get_or blocks one.state 0 < length met → flag ≡ get_or met (get_or blocks one.state 0) flag → flag ≡ truth
      → get_or met (block_at blocks (states_of found) place) false ≡ truth
  read_at flag truth inside read is_truth =
      ap (λ state. get_or met (get_or blocks state 0) false) (found_state found place one within is)
      ∙ get_or_default met (get_or blocks one.state 0) false flag inside ∙ sym read ∙ is_truth

  pub newly_met_at : get_or met (block_at blocks (states_of found) place) false ≡ false → get_or blocks one.state 0 < length blocks
      → AreMet blocks (states_of found) (place + 1) (set met (get_or blocks one.state 0) true)
  newly_met_at new inside =
      let state_is = found_state found place one within is in
      let here : block_at blocks (states_of found) place < length blocks = subst (λ state. get_or blocks state 0 < length blocks) (sym state_is) inside in
      subst (λ state. AreMet blocks (states_of found) (place + 1) (set met (get_or blocks state 0) true)) state_is
      (newly_met blocks (states_of found) place met are_met has.places has.firsts here)

  pub newly_kept_at : get_or met (block_at blocks (states_of found) place) false ≡ false → (after : List ℕ) → after ≡ kept ++ one.state ∷ []
      → HasFirsts blocks (states_of found) (place + 1) start after
  newly_kept_at new after are =
      subst (HasFirsts blocks (states_of found) (place + 1) start) (ap (λ state. kept ++ state ∷ []) (found_state found place one within is) ∙ sym are)
      (newly_kept blocks (states_of found) place start met kept are_met has new)
