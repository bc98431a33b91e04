-- The laws that `src/laws.rt` proves: what the searches find, what the counts count, and each temporal form in words.
use Rattle.std.specs.Prelude.{◌≡◌, ℕ, ◌+◌, ◌-◌, ◌<◌, ◌≤◌, Bool, true, length, ◌⊎◌}
use Rattle.std.specs.Bool.{Decides}
use Rattle.std.specs.List.{count_by, range_with_len}
use Rattle.dcv_syntax.specs.declared.names.Name.{Name}
use Rattle.dcv_syntax.specs.declared.names.Span.{Span}
use Rattle.dcv_syntax.specs.Plain.{PlainProp, PlainFormulaKind, FormulaBracketed, FormulaApplied, FormulaQuantified, PlainFormulaOperands, no_formula_operands, formula_operand}
use Rattle.dcv_logic.specs.Track.{Track, truth_at, track_of}
use Rattle.dcv_logic.specs.Search.{some_between, each_between, count_from, count_between}
use Rattle.dcv_language.specs.Operations.{some_track}
use Rattle.dcv_logic.specs.Environment.{Environment, bind}
use Rattle.dcv_logic.specs.Value.{value}
use Rattle.dcv_logic.specs.Connectives.{star}
use Rattle.dcv_logic.specs.Satisfaction.{satisfies, chop_holds}
use Rattle.dcv_syntax.specs.declared.formulas.Bracket.TheVariants.{Run, Every}
use Rattle.dcv_syntax.specs.declared.formulas.Unary.TheVariants.{Star, Somewhere, Everywhere}
use Rattle.dcv_syntax.specs.declared.formulas.Quantifier.TheVariants.{Exists, ForAll}

-- ---- searches, tracks and counts

-- `some_between` is true exactly where there is an instant m from b to e that has p
abbrev pub SomeBetweenIsThere : Type 0
SomeBetweenIsThere = (b e : ℕ) (p : ℕ → Bool) → Decides (some_between b e p) ((m : ℕ) × (b ≤ m) × (m ≤ e) × (p m ≡ true))

-- `each_between` exactly where every instant m from b to e has p
abbrev pub EachBetweenIsEvery : Type 0
EachBetweenIsEvery = (b e : ℕ) (p : ℕ → Bool) → Decides (each_between b e p) ((m : ℕ) → b ≤ m → m ≤ e → p m ≡ true)

-- `some_track` exactly where there is a list of n truths that has p
abbrev pub SomeTrackIsThere : Type 0
SomeTrackIsThere = (n : ℕ) (p : Track → Bool) → Decides (some_track n p) ((track : Track) × (length track ≡ n) × (p track ≡ true))

-- the track of a value has as many truths as there are instants
abbrev pub TrackHasEachInstant : Type 0
TrackHasEachInstant = (n : ℕ) (f : ℕ → Bool) → length (track_of n f) ≡ n

-- and at each of them the value
abbrev pub TrackHasItsValues : Type 0
TrackHasItsValues = (n : ℕ) (f : ℕ → Bool) (i : ℕ) → i < n → truth_at (track_of n f) i ≡ f i

-- `count_from` counts among n instants, i the first of them
abbrev pub CountFromCounts : Type 0
CountFromCounts = (i n : ℕ) (p : ℕ → Bool) → count_from i n p ≡ count_by p (range_with_len i n)

-- `count_between` counts among the instants from b to e, which are e + 1 - b
abbrev pub CountBetweenCounts : Type 0
CountBetweenCounts = (b e : ℕ) (p : ℕ → Bool) → count_between b e p ≡ count_by p (range_with_len b (e + 1 - b))

-- ---- forms over parts of an interval

-- `[P]` holds exactly where b < e, and P at every instant i with b ≤ i < e
abbrev pub RunInWords : Type 0
RunInWords = (env : Environment) (p : PlainProp) (b e : ℕ) →
    Decides (satisfies env (FormulaBracketed Run p) b e) ((b < e) × ((i : ℕ) → b ≤ i → i < e → value env p.kind i ≡ true))

-- `[[P]]` exactly where P at every instant i with b ≤ i ≤ e
abbrev pub EveryInWords : Type 0
EveryInWords = (env : Environment) (p : PlainProp) (b e : ℕ) →
    Decides (satisfies env (FormulaBracketed Every p) b e) ((i : ℕ) → b ≤ i → i ≤ e → value env p.kind i ≡ true)

-- A chop of one operand is that operand,
abbrev pub ChopOfOne : Type 0
ChopOfOne = (env : Environment) (d : PlainFormulaKind) (span outer : Span) (b e : ℕ) → b ≤ e →
    Decides (chop_holds env (formula_operand d span outer no_formula_operands) b e) (satisfies env d b e ≡ true)

-- and one of more, `D ^ E ^ ..`, holds exactly where some m with b ≤ m ≤ e has D on [b,m] and the chop `E ^ ..` of the
-- rest on [m,e].
abbrev pub ChopInWords : Type 0
ChopInWords = (env : Environment) (d : PlainFormulaKind) (span outer : Span) (rest : PlainFormulaOperands) (b e : ℕ) →
    Decides (chop_holds env (formula_operand d span outer rest) b e)
    ((m : ℕ) × (b ≤ m) × (m ≤ e) × (satisfies env d b m ≡ true) × (chop_holds env rest m e ≡ true))

-- `D*` holds exactly where e = b, or some m with b < m ≤ e has D on [b,m] and `D*` on [m,e]
abbrev pub StarInWords : Type 0
StarInWords = (env : Environment) (d : PlainFormulaKind) (span : Span) (b e : ℕ) → b ≤ e →
    Decides (satisfies env (FormulaApplied Star d span) b e)
    ((e ≡ b) ⊎ ((m : ℕ) × (b < m) × (m ≤ e) × (satisfies env d b m ≡ true) × (satisfies env (FormulaApplied Star d span) m e ≡ true)))

-- the bound of `star` does not matter, where it is no less than the steps of the interval
abbrev pub StarBoundIsFree : Type 0
StarBoundIsFree = (d : ℕ → ℕ → Bool) (n b e : ℕ) → e - b ≤ n → star d n b e ≡ star d (e - b) b e

-- `<>D` holds exactly where some x, y with b ≤ x ≤ y ≤ e have D on [x,y]
abbrev pub SomewhereInWords : Type 0
SomewhereInWords = (env : Environment) (d : PlainFormulaKind) (span : Span) (b e : ℕ) →
    Decides (satisfies env (FormulaApplied Somewhere d span) b e)
    ((x : ℕ) × (y : ℕ) × (b ≤ x) × (x ≤ y) × (y ≤ e) × (satisfies env d x y ≡ true))

-- `[]D` exactly where all such x, y have
abbrev pub EverywhereInWords : Type 0
EverywhereInWords = (env : Environment) (d : PlainFormulaKind) (span : Span) (b e : ℕ) →
    Decides (satisfies env (FormulaApplied Everywhere d span) b e)
    ((x y : ℕ) → b ≤ x → x ≤ y → y ≤ e → satisfies env d x y ≡ true)

-- ---- quantifiers

-- `ex p. D` holds exactly where D does for some truths of p, one for each instant of the behaviour
abbrev pub ExistsInWords : Type 0
ExistsInWords = (env : Environment) (name : Name) (d : PlainFormulaKind) (span : Span) (b e : ℕ) →
    Decides (satisfies env (FormulaQuantified Exists name d span) b e)
    ((track : Track) × (length track ≡ env.instants) × (satisfies (bind env name.text track) d b e ≡ true))

-- `all p. D` exactly where D does for all of them
abbrev pub ForAllInWords : Type 0
ForAllInWords = (env : Environment) (name : Name) (d : PlainFormulaKind) (span : Span) (b e : ℕ) →
    Decides (satisfies env (FormulaQuantified ForAll name d span) b e)
    ((track : Track) → length track ≡ env.instants → satisfies (bind env name.text track) d b e ≡ true)
