-- Each canonical table has a certificate. It begins with the empty suffix; then, while some letter before a suffix tells two access words
-- apart that none tells apart yet, that is the next one. There are finitely many pairs, so this ends; and then each word that tells two
-- access words apart has a suffix that does, by induction on the word from its first letter.
--     some_certificate_of      the certificate of a canonical table
use Rattle.std.proofs.Common.{◌≡◌, ◌⊎◌, inl, inr, ℕ, zero, suc, ◌<◌, ◌≤◌, Bool, List, [], ◌∷◌, ◌++◌, length, get_or, refl, sym, ap, ◌∙◌, subst, arith, append-nil, append_assoc, length-append}
use Rattle.std.proofs.lemmas.Bool.{cases_lt}
use Rattle.dcv_word.specs.Behaviour.{Word, IsBehaviour}
use Rattle.dcv_language.specs.Apart.{TellsApart}
use Rattle.dcv_language.specs.Canonical.{access_word, IsCanonical}
use Rattle.dcv_language.specs.Certificate.{GrowsInTurn, IsNextSuffix, IsCertificate}
use Rattle.dcv_language.specs.Language.{Language}
use Rattle.dcv_language.specs.Table.{Table, leads_to}
use Rattle.dcv_language.proofs.Ascending.{Member, Member-at, IsAmong-from_Member}
use Rattle.dcv_language.proofs.Behaviours.{Widths-head, Widths-front, Widths-rest, goes_on}
use Rattle.dcv_language.proofs.Bounds.{alike, leads_to-below}
use Rattle.dcv_language.proofs.Canonicals.{entered_least}
use Rattle.dcv_quotient.proofs.Reaching.{letters_or, each_or, without, one_fewer, others_stay, none_is_new}
use Rattle.dcv_quotient.proofs.ToldApart.{in_front, in_back, pairs_of, among_pairs, only_pairs}
use Rattle.dcv_quotient.proofs.ToldWords.{tells_or_not, Told, told_or_not, told_by}

-- ---- words, one after another

-- a list with one more at its end is split at that one, or before
split_before : {X : Type 0} (xs : List X) (x : X) (earlier later : List X) (y : X) → xs ++ x ∷ [] ≡ earlier ++ y ∷ later
    → ((earlier ≡ xs) × (y ≡ x)) ⊎ ((rest : List X) × (xs ≡ earlier ++ y ∷ rest))
split_before [] x [] later y e = inl (refl, cc)
split_before [] x (first ∷ earlier) later y e = absurd (let size = ap length e in omega (arith, length-append earlier (y ∷ later)))
split_before (z ∷ xs) x [] later y e = let head : z ≡ y = cc in inr (xs, λ i. head i ∷ xs)
split_before {X} (z ∷ xs) x (first ∷ earlier) later y e =
    let head : z ≡ first = cc in
    let tail : xs ++ x ∷ [] ≡ earlier ++ y ∷ later = cc in
    by head (split_before xs x earlier later y tail)
  where
    by : z ≡ first → ((earlier ≡ xs) × (y ≡ x)) ⊎ ((rest : List X) × (xs ≡ earlier ++ y ∷ rest))
        → ((first ∷ earlier ≡ z ∷ xs) × (y ≡ x)) ⊎ ((rest : List X) × (z ∷ xs ≡ first ∷ earlier ++ y ∷ rest))
    by head (inl (same, last)) = inl ((λ i. sym head i ∷ same i), last)
    by head (inr (rest, same)) = inr (rest, λ i. head i ∷ same i)

grown : (k : ℕ) (earlier : List Word) (letter : List Bool) (shorter : Word) → length letter ≡ k → Member shorter earlier → GrowsInTurn k earlier (letter ∷ shorter)
grown k [] letter shorter width there = absurd there
grown k (first ∷ others) letter shorter width there =
    record { letter = letter; shorter = shorter; width = width; from = IsAmong-from_Member (first ∷ others) shorter there; grown = refl }

-- ---- what is told

module _ (k : ℕ) (L : Language) where
  module _ (table : Table) (access : List Word) (c : IsCanonical k L table access) where
    -- the access word of the state to which a behaviour leads
    record IsReplaced (word one : Word) : Type 0 where
      there : Member one access
      behaves : IsBehaviour k one
      leads : leads_to table word ≡ leads_to table one

    replaced : (word : Word) → IsBehaviour k word → (one : Word) × IsReplaced word one
    replaced word behaves =
        let state = leads_to table word in
        let least = entered_least k L table access c word behaves in
        let below : state < length access = (let within = leads_to-below k table c.states word in let words = c.words in omega arith) in
        (access_word access state, record { there = Member-at access state [] below; behaves = least.behaviour; leads = sym least.member })

    -- words that lead to the same states are told apart by the same suffixes
    carry : (u v x y suffix : Word) → IsBehaviour k x → IsBehaviour k y → leads_to table u ≡ leads_to table x → leads_to table v ≡ leads_to table y
        → TellsApart k L u v suffix → TellsApart k L x y suffix
    carry u v x y suffix bx by same same' tells =
        let widths = Widths-rest k u suffix tells.first_goes_on.widths in
        let one = goes_on k x suffix bx widths in
        let other = goes_on k y suffix by widths in
        record {
          first_goes_on = one;
          second_goes_on = other;
          differ = λ e.
              tells.differ (alike k L table c.exact u x suffix same tells.first_goes_on one ∙ e ∙ sym (alike k L table c.exact v y suffix same' tells.second_goes_on other));
        }

    one_on : (u v : Word) (letter : List Bool) (suffix : Word) → TellsApart k L u v (letter ∷ suffix) → TellsApart k L (u ++ letter ∷ []) (v ++ letter ∷ []) suffix
    one_on u v letter suffix tells =
        let first : u ++ letter ∷ suffix ≡ (u ++ letter ∷ []) ++ suffix = sym (append_assoc u (letter ∷ []) suffix) in
        let second : v ++ letter ∷ suffix ≡ (v ++ letter ∷ []) ++ suffix = sym (append_assoc v (letter ∷ []) suffix) in
        record {
          first_goes_on = subst (IsBehaviour k) first tells.first_goes_on;
          second_goes_on = subst (IsBehaviour k) second tells.second_goes_on;
          differ = λ e. tells.differ (ap L first ∙ e ∙ sym (ap L second));
        }

    one_back : (u v : Word) (letter : List Bool) (suffix : Word) → TellsApart k L (u ++ letter ∷ []) (v ++ letter ∷ []) suffix → TellsApart k L u v (letter ∷ suffix)
    one_back u v letter suffix tells =
        let first : (u ++ letter ∷ []) ++ suffix ≡ u ++ letter ∷ suffix = append_assoc u (letter ∷ []) suffix in
        let second : (v ++ letter ∷ []) ++ suffix ≡ v ++ letter ∷ suffix = append_assoc v (letter ∷ []) suffix in
        record {
          first_goes_on = subst (IsBehaviour k) first tells.first_goes_on;
          second_goes_on = subst (IsBehaviour k) second tells.second_goes_on;
          differ = λ e. tells.differ (ap L first ∙ e ∙ sym (ap L second));
        }

    longer_behaves : (u : Word) (letter : List Bool) (suffix : Word) → IsBehaviour k ((u ++ letter ∷ []) ++ suffix) → IsBehaviour k (u ++ letter ∷ [])
    longer_behaves u letter suffix behaves = record {
      nonempty = omega (arith, length-append u (letter ∷ []));
      widths = Widths-front k (u ++ letter ∷ []) suffix behaves.widths;
    }

    -- a letter before a suffix tells no more apart than the suffixes do
    abbrev Closed : List Word → Type 0
    Closed suffixes = (suffix : Word) → Member suffix suffixes → (letter : List Bool) → length letter ≡ k → (u v : Word) → Member u access → Member v access
        → TellsApart k L u v (letter ∷ suffix) → Told k L u v suffixes

    all_told : (suffixes : List Word) → Member [] suffixes → Closed suffixes → (word u v : Word)
        → Member u access → Member v access → TellsApart k L u v word → Told k L u v suffixes
    all_told suffixes begins closed [] u v one other tells = record { suffix = []; there = begins; tells = tells }
    all_told suffixes begins closed (letter ∷ word) u v one other tells =
        let on = one_on u v letter word tells in
        let bu = longer_behaves u letter word on.first_goes_on in
        let bv = longer_behaves v letter word on.second_goes_on in
        let (x, rx) = replaced (u ++ letter ∷ []) bu in
        let (y, ry) = replaced (v ++ letter ∷ []) bv in
        let told = all_told suffixes begins closed word x y rx.there ry.there
        (carry (u ++ letter ∷ []) (v ++ letter ∷ []) x y word rx.behaves ry.behaves rx.leads ry.leads on) in
        let back = carry x y (u ++ letter ∷ []) (v ++ letter ∷ []) told.suffix bu bv (sym rx.leads) (sym ry.leads) told.tells in
        let width = Widths-head k letter [] (Widths-rest k u (letter ∷ []) bu.widths) in
        closed told.suffix told.there letter width u v one other (one_back u v letter told.suffix back)

    -- ---- the first suffix

    -- a suffix that tells two access words apart
    record TellsSome (suffix : Word) : Type 0 where
      first : Word
      second : Word
      first_there : Member first access
      second_there : Member second access
      tells : TellsApart k L first second suffix

    -- two states that are apart lead to two that one of accepts
    empty_tells : 1 < length access → TellsSome []
    empty_tells some =
        let apart = c.apart 0 1 [] (omega arith) some in
        let u = access_word access 0 ++ apart.suffix in
        let v = access_word access 1 ++ apart.suffix in
        let tells = apart.tells in
        let (x, rx) = replaced u tells.first_goes_on in
        let (y, ry) = replaced v tells.second_goes_on in
        let whole : TellsApart k L u v [] = record {
          first_goes_on = subst (IsBehaviour k) (sym (append-nil u)) tells.first_goes_on;
          second_goes_on = subst (IsBehaviour k) (sym (append-nil v)) tells.second_goes_on;
          differ = λ e. tells.differ (ap L (sym (append-nil u)) ∙ e ∙ ap L (append-nil v));
        } in
        record { first = x; second = y; first_there = rx.there; second_there = ry.there; tells = carry u v x y [] rx.behaves ry.behaves rx.leads ry.leads whole }

    -- ---- one suffix after another

    record AreNext (suffixes : List Word) : Type 0 where
      begins : Member [] suffixes
      each : (earlier later : List Word) (suffix : Word) → suffixes ≡ earlier ++ suffix ∷ later → IsNextSuffix k L access earlier suffix

    abbrev Pairs : Type 0
    Pairs = List (Word × Word)

    -- the pairs that are not told apart are among these
    record AreLeft (suffixes : List Word) (left : Pairs) : Type 0 where
      access_words : (pair : Word × Word) → Member pair left → Member pair.0 access × Member pair.1 access
      all : (u v : Word) → Member u access → Member v access → (Told k L u v suffixes → ⊥) → Member (u, v) left

    record NewSuffix (suffixes : List Word) (left : Pairs) : Type 0 where
      letter : List Bool
      width : length letter ≡ k
      shorter : Word
      from : Member shorter suffixes
      pair : Word × Word
      there : Member pair left
      tells : TellsApart k L pair.0 pair.1 (letter ∷ shorter)
      new : Told k L pair.0 pair.1 suffixes → ⊥

    abbrev TellsNoMore : List Word → Word → List Bool → (Word × Word) → Type 0
    TellsNoMore suffixes shorter letter pair = TellsApart k L pair.0 pair.1 (letter ∷ shorter) → Told k L pair.0 pair.1 suffixes

    no_more_or_new : (suffixes : List Word) (left : Pairs) (shorter : Word) → Member shorter suffixes → (letter : List Bool) → length letter ≡ k
        → (pair : Word × Word) → Member pair left → TellsNoMore suffixes shorter letter pair ⊎ NewSuffix suffixes left
    no_more_or_new suffixes left shorter from letter width pair there = by (told_or_not k L pair.0 pair.1 suffixes) (tells_or_not k L pair.0 pair.1 (letter ∷ shorter))
      where
        by : Told k L pair.0 pair.1 suffixes ⊎ (Told k L pair.0 pair.1 suffixes → ⊥)
            → TellsApart k L pair.0 pair.1 (letter ∷ shorter) ⊎ (TellsApart k L pair.0 pair.1 (letter ∷ shorter) → ⊥)
            → TellsNoMore suffixes shorter letter pair ⊎ NewSuffix suffixes left
        by (inl told) tells = inl (λ again. told)
        by (inr none) (inr not) = inl (λ tells. absurd (not tells))
        by (inr none) (inl tells) = inr (record { letter = letter; width = width; shorter = shorter; from = from; pair = pair; there = there; tells = tells; new = none })

    abbrev NoMore : List Word → Pairs → Word → Type 0
    NoMore suffixes left shorter = (letter : List Bool) → length letter ≡ k → (pair : Word × Word) → Member pair left → TellsNoMore suffixes shorter letter pair

    closed_or_new : (suffixes : List Word) (left : Pairs) → AreLeft suffixes left → Closed suffixes ⊎ NewSuffix suffixes left
    closed_or_new suffixes left are = by searched
      where
        searched : ((shorter : Word) → Member shorter suffixes → NoMore suffixes left shorter) ⊎ NewSuffix suffixes left
        searched = each_or (NoMore suffixes left) (NewSuffix suffixes left) suffixes (λ shorter from.
            letters_or k (λ letter. (pair : Word × Word) → Member pair left → TellsNoMore suffixes shorter letter pair) (NewSuffix suffixes left) (λ letter width.
            each_or (TellsNoMore suffixes shorter letter) (NewSuffix suffixes left) left (λ pair there. no_more_or_new suffixes left shorter from letter width pair there)))

        by : ((shorter : Word) → Member shorter suffixes → NoMore suffixes left shorter) ⊎ NewSuffix suffixes left → Closed suffixes ⊎ NewSuffix suffixes left
        by (inr new) = inr new
        by (inl no_more) = inl (λ suffix there letter width u v one other tells. elim (told_or_not k L u v suffixes) [
          | inl told ↦ told
          | inr none ↦ no_more suffix there letter width (u, v) (are.all u v one other none) tells
        ])

    module _ (suffixes : List Word) (left : Pairs) (next : AreNext suffixes) (are : AreLeft suffixes left) (new : NewSuffix suffixes left) where
      abbrev one_more : Word
      one_more = new.letter ∷ new.shorter

      abbrev more : List Word
      more = suffixes ++ one_more ∷ []

      is_next : IsNextSuffix k L access suffixes one_more
      is_next = record {
        grows = grown k suffixes new.letter new.shorter new.width new.from;
        tells = record {
          first = new.pair.0;
          second = new.pair.1;
          first_is_access = IsAmong-from_Member access new.pair.0 (are.access_words new.pair new.there).0;
          second_is_access = IsAmong-from_Member access new.pair.1 (are.access_words new.pair new.there).1;
          tells = new.tells;
          is_new = λ i d h tells. new.new (record { suffix = get_or suffixes i d; there = Member-at suffixes i d h; tells = tells });
        };
      }

      are_next : AreNext more
      are_next = record {
        begins = in_front [] suffixes (one_more ∷ []) next.begins;
        each = λ earlier later suffix split. elim (split_before suffixes one_more earlier later suffix split) [
          | inl last ↦ subst (λ (words : List Word). IsNextSuffix k L access words suffix) (sym last.0) (subst (IsNextSuffix k L access suffixes) (sym last.1) is_next)
          | inr before ↦ next.each earlier before.0 suffix before.1
        ];
      }

      are_left : AreLeft more (without new.pair left new.there)
      are_left = record {
        access_words = λ pair there. are.access_words pair (none_is_new new.pair left new.there pair there);
        all = λ u v one other none.
            others_stay new.pair left new.there (u, v) (are.all u v one other (λ told. none (record {
              suffix = told.suffix;
              there = in_front told.suffix suffixes (one_more ∷ []) told.there;
              tells = told.tells;
            }))) (λ same. none (record {
              suffix = one_more;
              there = in_back one_more suffixes (one_more ∷ []) (inl refl);
              tells = subst (λ (pair : Word × Word). TellsApart k L pair.0 pair.1 one_more) (sym same) new.tells;
            }));
      }

    record Finished : Type 0 where
      suffixes : List Word
      next : AreNext suffixes
      closed : Closed suffixes

    one_step : (suffixes : List Word) (left : Pairs) → AreNext suffixes → (are : AreLeft suffixes left) → Closed suffixes ⊎ NewSuffix suffixes left
        → ((more : List Word) (rest : Pairs) → length rest < length left → AreNext more → AreLeft more rest → Finished) → Finished
    one_step suffixes left next are (inl closed) go = record { suffixes = suffixes; next = next; closed = closed }
    one_step suffixes left next are (inr new) go =
        go (suffixes ++ (new.letter ∷ new.shorter) ∷ []) (without new.pair left new.there) (let fewer = one_fewer new.pair left new.there in omega arith)
        (are_next suffixes left next are new) (are_left suffixes left next are new)

    finished_by : (most : ℕ) (suffixes : List Word) (left : Pairs) → length left ≤ most → AreNext suffixes → AreLeft suffixes left → Finished
    finished_by zero suffixes left fits next are = one_step suffixes left next are (closed_or_new suffixes left are) (λ more rest fewer. absurd (omega arith))
    finished_by (suc most) suffixes left fits next are =
        one_step suffixes left next are (closed_or_new suffixes left are) (λ more rest fewer. finished_by most more rest (omega arith))

    -- ---- the certificate

    finished : 1 < length access → Finished
    finished some =
        finished_by (length (pairs_of access access)) ([] ∷ []) (pairs_of access access) (omega arith)
        (record { begins = inl refl; each = first_is_next })
        (record { access_words = λ pair there. only_pairs access access pair there; all = λ u v one other none. among_pairs u v access access one other })
      where
        first_is_next : (earlier later : List Word) (suffix : Word) → [] ∷ [] ≡ earlier ++ suffix ∷ later → IsNextSuffix k L access earlier suffix
        first_is_next (first ∷ earlier) later suffix split = absurd (let size = ap length split in omega (arith, length-append earlier (suffix ∷ later)))
        first_is_next [] later suffix split =
            let empty : suffix ≡ [] = cc in
            let told = empty_tells some in
            record {
              grows = empty;
              tells = record {
                first = told.first;
                second = told.second;
                first_is_access = IsAmong-from_Member access told.first told.first_there;
                second_is_access = IsAmong-from_Member access told.second told.second_there;
                tells = subst (TellsApart k L told.first told.second) (sym empty) told.tells;
                is_new = λ i d h. absurd (omega arith);
              };
            }

    certificate_of : Finished → (suffixes : List Word) × IsCertificate k L access suffixes
    certificate_of done = (
      done.suffixes,
      record {
        each = done.next.each;
        told = λ i j d h l.
            let apart = c.apart i j d h l in
            told_by k L (get_or access i d) (get_or access j d) done.suffixes
            (all_told done.suffixes done.next.begins done.closed apart.suffix (get_or access i d) (get_or access j d)
            (Member-at access i d (omega arith)) (Member-at access j d l) apart.tells);
      },
    )

    no_suffix : length access ≤ 1 → IsCertificate k L access []
    no_suffix one = record {
      each = λ earlier later suffix split. absurd (let size = ap length split in omega (arith, length-append earlier (suffix ∷ later)));
      told = λ i j d h l. absurd (omega arith);
    }

    certified : (suffixes : List Word) × IsCertificate k L access suffixes
    certified = elim (cases_lt 1 (length access)) [ inl some ↦ certificate_of (finished some) | inr one ↦ ([], no_suffix one) ]

pub some_certificate_of : (k : ℕ) (L : Language) (table : Table) (access : List Word) → IsCanonical k L table access
    → (suffixes : List Word) × IsCertificate k L access suffixes
some_certificate_of = certified
