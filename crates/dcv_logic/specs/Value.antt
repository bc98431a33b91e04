-- The value of a proposition at an instant: an equation for each form, below the form as it is written in a file.
use Rattle.std.specs.Prelude.{ℕ, ◌+◌, ◌-◌, nat_lt, Bool, true, false, ◌&&◌, ◌||◌, not, List, [], ◌∷◌, Option, Some, None}
use Rattle.dcv_syntax.specs.Plain.{PlainPropKind, PropConstant, PropCall, PropNot, PropJoined, PropImplies, PropShifted, PlainArguments, no_arguments, argument, PlainPropOperands, no_prop_operands, prop_operand}
use Rattle.dcv_syntax.specs.declared.propositions.Connective.{Connective}
use Rattle.dcv_syntax.specs.declared.propositions.Direction.{Direction}
use Rattle.dcv_syntax.specs.declared.propositions.Direction.TheVariants.{Prior, Next}
use Rattle.dcv_logic.specs.Connectives.{joins, of_none}
use Rattle.dcv_logic.specs.Track.{Track, truth_at, track_of}
use Rattle.dcv_logic.specs.Environment.{Environment, Meaning, PropMeaning, FormulaMeaning, found}

-- a variable, parameter or quantified name: its track, where there are no arguments
abbrev pub track_value : Track → List Track → ℕ → Bool
track_value track [] i = truth_at track i
track_value track (other ∷ arguments) i = false

-- a proposition macro: what it means for the arguments. A formula macro has no value, nor has a name without a meaning.
abbrev pub macro_value : Option Meaning → List Track → ℕ → Bool
macro_value None arguments i = false
macro_value (Some (PropMeaning m)) arguments i = m arguments i
macro_value (Some (FormulaMeaning m)) arguments i = false

-- a name with its arguments: a track in sight hides a macro
abbrev pub call_value : Option Track → Option Meaning → List Track → ℕ → Bool
call_value (Some track) macro arguments i = track_value track arguments i
call_value None macro arguments i = macro_value macro arguments i

-- what f is one instant earlier, or later, where that is one of the n instants
abbrev pub shifted : Direction → ℕ → (ℕ → Bool) → ℕ → Bool
shifted Prior n f i = nat_lt 0 i && f (i - 1)
shifted Next n f i = nat_lt (i + 1) n && f (i + 1)

abbrev mutual
  -- the truth of a proposition at an instant
  pub value : Environment → PlainPropKind → ℕ → Bool
  -- true, false
  value env (PropConstant truth) i = truth
  -- p, m(P, Q, ..)
  value env (PropCall name arguments) i =
      call_value (found env.tracks name.text) (found env.macros name.text) (argument_tracks env arguments) i
  -- !P
  value env (PropNot p span) i = not (value env p i)
  -- P && Q && .., P || Q || .., P <=> Q <=> ..
  value env (PropJoined connective operands) i = joined_value env connective (of_none connective) operands i
  -- P => Q
  value env (PropImplies p p_span q q_span) i = not (value env p i) || value env q i
  -- -P, and +P, which looks beyond an interval, up to the last instant of the behaviour
  value env (PropShifted direction form p span) i = shifted direction env.instants (value env p) i

  -- the track of each argument has its values at all instants of the behaviour
  pub argument_tracks : Environment → PlainArguments → List Track
  argument_tracks env no_arguments = []
  argument_tracks env (argument p span arguments) = track_of env.instants (value env p) ∷ argument_tracks env arguments

  -- from the left: each operand is joined to those before it
  pub joined_value : Environment → Connective → Bool → PlainPropOperands → ℕ → Bool
  joined_value env connective so_far no_prop_operands i = so_far
  joined_value env connective so_far (prop_operand p span outer operands) i = joined_value env connective (joins connective so_far (value env p i)) operands i
