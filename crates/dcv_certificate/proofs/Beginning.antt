-- The empty suffix alone, with a block for each flag.
use Rattle.std.proofs.Common.{◌≡◌, ℕ, zero, suc, ◌<◌, Bool, true, false, List, [], ◌∷◌, length, map, get_or, All, refl, ap, sym, subst, ◌∙◌, arith}
use Rattle.std.specs.Bool.{beq}
use Rattle.std.proofs.lemmas.List.{length-map, get_or-map}
use Rattle.dcv_dfa.specs.Raw.{RawValue, is_accepting}
use Rattle.dcv_language.specs.declared.certificate.Suffix.{Suffix}
use Rattle.dcv_language.specs.declared.certificate.Suffix.TheVariants.{Empty}
use Rattle.dcv_refinement.specs.Members.{block_of}
use Rattle.dcv_certificate.specs.Proof.{suffix_words, GoOnFromEarlier}
use Rattle.dcv_certificate.specs.Vertices.{HasFlagged}
use Rattle.dcv_certificate.proofs.Counting.{one_if}
use Rattle.dcv_certificate.specs.Separation.{AreVertices, Agree, TellAlike, has, AreListed, AreBlocks, AreParts, IsSeparation, accepts_at}

same_flag : (a b : Bool) → one_if a ≡ one_if b → a ≡ b
same_flag true true e = refl
same_flag true false e = absurd (omega arith)
same_flag false true e = absurd (omega arith)
same_flag false false e = refl

same_beq : (a b flag : Bool) → beq a flag ≡ beq b flag → a ≡ b
same_beq true true flag e = refl
same_beq false false flag e = refl
same_beq true false true e = cc
same_beq true false false e = cc
same_beq false true true e = cc
same_beq false true false e = cc

none_earlier : GoOnFromEarlier (Empty ∷ [])
none_earlier zero from letter e = absurd cc
none_earlier (suc place) from letter e = absurd cc

module _ (raw : RawValue) (v : AreVertices raw) where
  block_is : (state : ℕ) → state < length raw.rows → block_of (map one_if raw.accepting) state ≡ one_if (is_accepting raw state)
  block_is state h = get_or-map one_if raw.accepting state false 0 (omega (arith, v.flags))

  listed_nothing : AreListed raw ([] ∷ [])
  listed_nothing = record {
    some = omega arith;
    first = refl;
    grow = λ place positive below. absurd (omega arith);
    new = λ place positive below. absurd (omega arith);
  }

  agree_all : (first second : ℕ) → is_accepting raw first ≡ is_accepting raw second → Agree raw ([] ∷ []) 1 first second
  agree_all first second e zero below = e
  agree_all first second e (suc place) below = absurd (omega arith)

  flag_blocks : AreBlocks raw ([] ∷ []) (map one_if raw.accepting)
  flag_blocks = record {
    each = length-map raw.accepting one_if ∙ v.flags;
    together = λ first second t. agree_all first second (same_flag (is_accepting raw first) (is_accepting raw second) (sym (block_is first t.first_is) ∙ t.same ∙ block_is second t.second_is));
    apart = λ first second h l agree. block_is first h ∙ ap one_if (agree 0 (omega arith)) ∙ sym (block_is second l);
  }

  flag_part : (flag : Bool) (part : List ℕ) → HasFlagged raw.accepting flag part → AreParts raw ([] ∷ []) (part ∷ [])
  flag_part flag part is = record {
    each = refl;
    part = by_place;
  }
    where
      by_place : (place first second : ℕ) → place < 1 → first < length raw.rows → second < length raw.rows → Agree raw ([] ∷ []) place first second
          → TellAlike (accepts_at raw ([] ∷ []) place) (has (get_or (part ∷ []) place [])) first second
      by_place zero first second below h l agree =
          let one = is first (omega (arith, v.flags)) in
          let other = is second (omega (arith, v.flags)) in (
            (λ e. one ∙ ap (λ accepting. beq accepting flag) e ∙ sym other),
            (λ e. same_beq (is_accepting raw first) (is_accepting raw second) flag (sym one ∙ e ∙ other)),
          )
      by_place (suc place) first second below h l agree = absurd (omega arith)

  pub begun : (suffixes : List Suffix) (blocks : List ℕ) (parts : List (List ℕ)) (flag : Bool) (part : List ℕ) → suffixes ≡ Empty ∷ [] → blocks ≡ map one_if raw.accepting
      → parts ≡ part ∷ [] → HasFlagged raw.accepting flag part → IsSeparation raw suffixes blocks parts
  unfolding suffix_words
  begun suffixes blocks parts flag part one are list is =
      subst (λ suffixes. IsSeparation raw suffixes blocks parts) (sym one)
      (subst (λ blocks. IsSeparation raw (Empty ∷ []) blocks parts) (sym are)
      (subst (λ parts. IsSeparation raw (Empty ∷ []) (map one_if raw.accepting) parts) (sym list)
      (record { earlier = none_earlier; are_listed = listed_nothing; are_blocks = flag_blocks; are_parts = flag_part flag part is })))

  pub two_blocks : All (λ block. block < 2) (map one_if raw.accepting)
  two_blocks i d h =
      let size = length-map raw.accepting one_if in
      subst (λ n. n < 2) (sym (get_or-map one_if raw.accepting i false d (omega (arith, size)))) (below_two (get_or raw.accepting i false))
    where
      below_two : (flag : Bool) → one_if flag < 2
      below_two true = omega arith
      below_two false = omega arith
