-- Each text has a verdict as a trace.
use Rattle.std.proofs.Common.{◌≡◌, ◌≢◌, ◌⊎◌, ℕ, zero, suc, ◌+◌, ◌<◌, ◌≤◌, Bool, true, false, List, [], ◌∷◌, ◌++◌, length, map, inl, inr, refl, sym, ap, ◌∙◌, arith}
use Rattle.std.proofs.lemmas.Bool.Decides.{nat_tests}
use Rattle.std.specs.Prelude.{nat_eq}
use Rattle.dcv_word.specs.Behaviour.{Word}
use Rattle.dcv_word.specs.TraceLine.{digit_of, line_feed, trace_line}
use Rattle.dcv_replay.specs.TraceText.{carriage_return, most_lines, IsLineEnd, BeginsWithLine, AreLines, BeginsWithNoLine, Verdict, HasVerdict, Good, Bad, Long, Nothing}

-- P, or not
IsDecided : Type 0 → Type 0
IsDecided P = P ⊎ (P → ⊥)

same_number : (c d : ℕ) → IsDecided (c ≡ d)
unfolding IsDecided
same_number c d = by (nat_eq c d) refl where
  by : (same : Bool) → nat_eq c d ≡ same → (c ≡ d) ⊎ ((c ≡ d) → ⊥)
  by true is = inl (grind (arith, nat_tests))
  by false is = inr (λ same. grind (arith, nat_tests))

-- ---- the line at the front, without its end

-- digits of so many values, and what follows
record HasDigits (count : ℕ) (text : List ℕ) : Type 0 where
  letter : List Bool
  rest : List ℕ
  fits : length letter ≡ count
  spelled : text ≡ map digit_of letter ++ rest

no_digits_in_nothing : (count : ℕ) → HasDigits (suc count) [] → ⊥
no_digits_in_nothing count has = by has.letter has.fits has.spelled where
  by : (letter : List Bool) → length letter ≡ suc count → [] ≡ map digit_of letter ++ has.rest → ⊥
  by [] fits spelled = omega (arith, fits)
  by (value ∷ letter) fits spelled = omega (arith, ap length spelled)

with_digit : (value : Bool) (count : ℕ) (c : ℕ) (text : List ℕ) → c ≡ digit_of value → HasDigits count text → HasDigits (suc count) (c ∷ text)
with_digit value count c text is has = record {
  letter = value ∷ has.letter;
  rest = has.rest;
  fits = ap suc has.fits;
  spelled = let tail = has.spelled in cc;
}

digits_behind : (count c : ℕ) (text : List ℕ) → HasDigits (suc count) (c ∷ text) → HasDigits count text
digits_behind count c text has = by has.letter has.fits has.spelled where
  by : (letter : List Bool) → length letter ≡ suc count → c ∷ text ≡ map digit_of letter ++ has.rest → HasDigits count text
  by [] fits spelled = absurd (omega (arith, fits))
  by (value ∷ letter) fits spelled = record { letter = letter; rest = has.rest; fits = omega (arith, fits); spelled = cc }

first_digit : (count c : ℕ) (text : List ℕ) → HasDigits (suc count) (c ∷ text) → (c ≡ digit_of true) ⊎ (c ≡ digit_of false)
first_digit count c text has = by has.letter has.fits has.spelled where
  by : (letter : List Bool) → length letter ≡ suc count → c ∷ text ≡ map digit_of letter ++ has.rest → (c ≡ digit_of true) ⊎ (c ≡ digit_of false)
  by [] fits spelled = absurd (omega (arith, fits))
  by (true ∷ letter) fits spelled = inl cc
  by (false ∷ letter) fits spelled = inr cc

digits_decided : (count : ℕ) (text : List ℕ) → IsDecided (HasDigits count text)
unfolding IsDecided
digits_decided zero text = inl (record { letter = []; rest = text; fits = refl; spelled = refl })
digits_decided (suc count) [] = inr (no_digits_in_nothing count)
digits_decided (suc count) (c ∷ text) = elim (digits_decided count text) [
  | inl has ↦ elim (same_number c (digit_of true)) [
    | inl one ↦ inl (with_digit true count c text one has)
    | inr no_one ↦ elim (same_number c (digit_of false)) [
      | inl nought ↦ inl (with_digit false count c text nought has)
      | inr no_nought ↦ inr (λ other. elim (first_digit count c text other) [ inl one ↦ no_one one | inr nought ↦ no_nought nought ])
    ]
  ]
  | inr none ↦ inr (λ has. none (digits_behind count c text has))
]

record HasFront (width : ℕ) (text : List ℕ) : Type 0 where
  letter : List Bool
  rest : List ℕ
  fits : length letter ≡ width
  spelled : text ≡ trace_line letter ++ rest

front_of_digits : (width : ℕ) (text : List ℕ) → HasDigits (suc width) text → HasFront (suc width) text
front_of_digits width text has = by has.letter has.fits has.spelled where
  by : (letter : List Bool) → length letter ≡ suc width → text ≡ map digit_of letter ++ has.rest → HasFront (suc width) text
  by [] fits spelled = absurd (omega (arith, fits))
  by (value ∷ letter) fits spelled = record { letter = value ∷ letter; rest = has.rest; fits = fits; spelled = spelled }

digits_of_front : (width : ℕ) (text : List ℕ) → HasFront (suc width) text → HasDigits (suc width) text
digits_of_front width text has = by has.letter has.fits has.spelled where
  by : (letter : List Bool) → length letter ≡ suc width → text ≡ trace_line letter ++ has.rest → HasDigits (suc width) text
  by [] fits spelled = absurd (omega (arith, fits))
  by (value ∷ letter) fits spelled = record { letter = value ∷ letter; rest = has.rest; fits = fits; spelled = spelled }

-- a dash begins the line of a letter without variables
dash_of_front : (text : List ℕ) → HasFront 0 text → (rest : List ℕ) × (text ≡ 45 ∷ rest)
dash_of_front text has = by has.letter has.fits has.spelled where
  by : (letter : List Bool) → length letter ≡ 0 → text ≡ trace_line letter ++ has.rest → (rest : List ℕ) × (text ≡ 45 ∷ rest)
  by [] fits spelled = (has.rest, spelled)
  by (value ∷ letter) fits spelled = absurd (omega (arith, fits))

front_decided : (width : ℕ) (text : List ℕ) → IsDecided (HasFront width text)
unfolding IsDecided
front_decided zero [] = inr (λ has. let dash = dash_of_front [] has in omega (arith, ap length dash.1))
front_decided zero (c ∷ text) = elim (same_number c 45) [
  | inl dash ↦ inl (record { letter = []; rest = text; fits = refl; spelled = cc })
  | inr other ↦ inr (λ has. let dash = dash_of_front (c ∷ text) has in let same : c ∷ text ≡ 45 ∷ dash.0 = dash.1 in let is_dash : c ≡ 45 = cc in other is_dash)
]
front_decided (suc width) text = elim (digits_decided (suc width) text) [
  | inl has ↦ inl (front_of_digits width text has)
  | inr none ↦ inr (λ has. none (digits_of_front width text has))
]

-- ---- its end

some_bytes : (c : ℕ) (text : List ℕ) → c ∷ text ≢ []
some_bytes c text same = cc

record HasEnd (text : List ℕ) : Type 0 where
  end : List ℕ
  after : List ℕ
  ends : IsLineEnd end after
  is : text ≡ end ++ after

no_end : (c : ℕ) (text : List ℕ) → c ≢ line_feed → ((d : ℕ) (more : List ℕ) → c ≡ carriage_return → text ≡ d ∷ more → d ≡ line_feed → ⊥) → HasEnd (c ∷ text) → ⊥
no_end c text no_feed no_return has = elim has.ends [
  | inl feed ↦
      let same : c ∷ text ≡ line_feed ∷ has.after = has.is ∙ ap (λ end. end ++ has.after) feed in
      let is_feed : c ≡ line_feed = cc in
      no_feed is_feed
  | inr (inl return) ↦
      let same : c ∷ text ≡ carriage_return ∷ (line_feed ∷ has.after) = has.is ∙ ap (λ end. end ++ has.after) return in
      let is_return : c ≡ carriage_return = cc in
      let behind : text ≡ line_feed ∷ has.after = cc in
      no_return line_feed has.after is_return behind refl
  | inr (inr (none, nothing)) ↦ some_bytes c text (has.is ∙ ap (λ end. end ++ has.after) none ∙ nothing)
]

end_decided : (text : List ℕ) → IsDecided (HasEnd text)
unfolding IsDecided
end_decided [] = inl (record { end = []; after = []; ends = inr (inr (refl, refl)); is = refl })
end_decided (c ∷ text) = elim (same_number c line_feed) [
  | inl feed ↦ inl (record { end = line_feed ∷ []; after = text; ends = inl refl; is = cc })
  | inr no_feed ↦ elim (same_number c carriage_return) [
    | inl return ↦ by text return no_feed
    | inr no_return ↦ inr (no_end c text no_feed (λ d more return is feed. no_return return))
  ]
] where
  by : (text : List ℕ) → c ≡ carriage_return → c ≢ line_feed → HasEnd (c ∷ text) ⊎ (HasEnd (c ∷ text) → ⊥)
  by [] return no_feed = inr (no_end c [] no_feed (λ d more return is feed. omega (arith, ap length is)))
  by (d ∷ text) return no_feed = elim (same_number d line_feed) [
    | inl feed ↦ inl (record { end = carriage_return ∷ line_feed ∷ []; after = text; ends = inr (inl refl); is = cc })
    | inr other ↦ inr (no_end c (d ∷ text) no_feed (λ e more return is feed. let same : d ∷ text ≡ e ∷ more = is in let first : d ≡ e = cc in other (first ∙ feed)))
  ]

-- ---- a line

-- lines of one width at the front of a text leave one rest
same_rest_of_digits : (a b : List Bool) (rest other : List ℕ) → length a ≡ length b → map digit_of a ++ rest ≡ map digit_of b ++ other → rest ≡ other
same_rest_of_digits [] [] rest other fits same = same
same_rest_of_digits [] (v ∷ b) rest other fits same = absurd (omega (arith, fits))
same_rest_of_digits (v ∷ a) [] rest other fits same = absurd (omega (arith, fits))
same_rest_of_digits (v ∷ a) (w ∷ b) rest other fits same = same_rest_of_digits a b rest other (omega (arith, fits)) cc

same_rest : (a b : List Bool) (rest other : List ℕ) → length a ≡ length b → trace_line a ++ rest ≡ trace_line b ++ other → rest ≡ other
same_rest [] [] rest other fits same = let both : 45 ∷ rest ≡ 45 ∷ other = same in cc
same_rest [] (v ∷ b) rest other fits same = absurd (omega (arith, fits))
same_rest (v ∷ a) [] rest other fits same = absurd (omega (arith, fits))
same_rest (v ∷ a) (w ∷ b) rest other fits same = same_rest_of_digits (v ∷ a) (w ∷ b) rest other fits same

record HasLine (width : ℕ) (text : List ℕ) : Type 0 where
  letter : List Bool
  after : List ℕ
  begins : BeginsWithLine width text letter after

line_or_none : (width : ℕ) (text : List ℕ) → HasLine width text ⊎ BeginsWithNoLine width text
unfolding IsDecided
line_or_none width text = elim (front_decided width text) [
  | inl front ↦ elim (end_decided front.rest) [
    | inl ended ↦ inl (record {
      letter = front.letter;
      after = ended.after;
      begins = record { fits = front.fits; end = ended.end; ends = ended.ends; spelled = front.spelled ∙ ap (λ rest. trace_line front.letter ++ rest) ended.is };
    })
    | inr none ↦ inr (λ letter after begins. none (record {
      end = begins.end;
      after = after;
      ends = begins.ends;
      is = same_rest front.letter letter front.rest (begins.end ++ after) (front.fits ∙ sym begins.fits) (sym front.spelled ∙ begins.spelled);
    }))
  ]
  | inr none ↦ inr (λ letter after begins. none (record { letter = letter; rest = begins.end ++ after; fits = begins.fits; spelled = begins.spelled }))
]

-- ---- all lines

-- what comes of a text of which so many lines are read at most
data Reads (width count : ℕ) (text : List ℕ) : Type 0 where
  Whole : (letters : Word) → length letters ≤ count → AreLines width letters text [] → Reads width count text
  Stuck : (letters : Word) (rest : List ℕ) → AreLines width letters text rest → length letters < count → rest ≢ [] → BeginsWithNoLine width rest → Reads width count text
  Full : (letters : Word) (rest : List ℕ) → AreLines width letters text rest → length letters ≡ count → rest ≢ [] → Reads width count text

one_more : (width count : ℕ) (text : List ℕ) (line : HasLine width text) → Reads width count line.after → Reads width (suc count) text
one_more width count text line (Whole letters few lines) = Whole (line.letter ∷ letters) (omega (arith, few)) (line.after, line.begins, lines)
one_more width count text line (Stuck letters rest lines few some none) = Stuck (line.letter ∷ letters) rest (line.after, line.begins, lines) (omega (arith, few)) some none
one_more width count text line (Full letters rest lines full some) = Full (line.letter ∷ letters) rest (line.after, line.begins, lines) (ap suc full) some

reads : (count : ℕ) (width : ℕ) (text : List ℕ) → Reads width count text
reads count width [] = Whole [] (omega arith) refl
reads zero width (c ∷ text) = Full [] (c ∷ text) refl refl (some_bytes c text)
reads (suc count) width (c ∷ text) = elim (line_or_none width (c ∷ text)) [
  | inl line ↦ one_more width count (c ∷ text) line (reads count width line.after)
  | inr none ↦ Stuck [] (c ∷ text) refl (omega arith) (some_bytes c text) none
]

verdict_of : (width : ℕ) (text : List ℕ) → Reads width most_lines text → (verdict : Verdict) × HasVerdict width text verdict
verdict_of width text (Whole [] few lines) = (Nothing, lines)
verdict_of width text (Whole (letter ∷ letters) few lines) = (Good (letter ∷ letters), record { some = omega arith; few = few; lines = lines })
verdict_of width text (Stuck letters rest lines few some none) =
    (Bad letters (length letters + 1), record { rest = rest; lines = lines; few = few; number = refl; some = some; bad = none })
verdict_of width text (Full letters rest lines full some) = (Long letters, record { rest = rest; lines = lines; full = full; some = some })

pub some_verdict : (width : ℕ) (text : List ℕ) → (verdict : Verdict) × HasVerdict width text verdict
some_verdict width text = verdict_of width text (reads most_lines width text)
