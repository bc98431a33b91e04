-- Operations on sets of words. (The complement is `outside` of `Language`.)
--     intersection, union, agreement    words in both, in one or the other, in both or neither
--     chop L M                          a front of the word is in L and the rest in M, and they share the letter at the cut
--     star L                            one letter, or parts of two letters or more, each in L, the next part beginning with the last's last letter
--     projection L                      some track in a further slot, the last, brings the word into L
use Rattle.std.specs.Prelude.{ℕ, zero, suc, Bool, true, false, not, ◌&&◌, ◌||◌, List, [], ◌∷◌, ◌++◌, length, take, drop}
use Rattle.dcv_word.specs.Behaviour.{Word}
use Rattle.dcv_language.specs.Language.{Language}

-- some m below n has p
abbrev pub some_below : ℕ → (ℕ → Bool) → Bool
some_below zero p = false
some_below (suc n) p = p zero || some_below n (λ m. p (suc m))

-- some list of n truths has p
abbrev pub some_track : ℕ → (List Bool → Bool) → Bool
some_track zero p = p []
some_track (suc n) p = some_track n (λ track. p (false ∷ track)) || some_track n (λ track. p (true ∷ track))

-- two truths are the same
abbrev pub iff : Bool → Bool → Bool
iff true b = b
iff false b = not b

abbrev pub intersection : Language → Language → Language
intersection L M = λ word. L word && M word

abbrev pub union : Language → Language → Language
union L M = λ word. L word || M word

abbrev pub agreement : Language → Language → Language
agreement L M = λ word. iff (L word) (M word)

-- the letter at some instant m is the last of the front and the first of the rest
abbrev pub chop : Language → Language → Language
chop L M word = some_below (length word) (λ m. L (take (suc m) word) && M (drop m word))

-- A star of at most n parts. Its first part is the first letter with a front of the others, so it has two letters at least.
abbrev pub star_within : ℕ → Language → Language
star_within n L [] = false
star_within n L (letter ∷ []) = true
star_within zero L (letter ∷ other ∷ letters) = false
star_within (suc n) L (letter ∷ other ∷ letters) = chop (λ front. L (letter ∷ front)) (star_within n L) (other ∷ letters)

-- no word has more parts than letters
abbrev pub star : Language → Language
star L word = star_within (length word) L word

-- each letter with a truth of the track in a further slot
abbrev pub with_track : Word → List Bool → Word
with_track [] track = []
with_track (letter ∷ letters) [] = []
with_track (letter ∷ letters) (truth ∷ track) = (letter ++ truth ∷ []) ∷ with_track letters track

abbrev pub projection : Language → Language
projection L word = some_track (length word) (λ track. L (with_track word track))
