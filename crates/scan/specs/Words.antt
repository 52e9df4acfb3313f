-- The words of a line.
use Rattle.std.specs.Prelude.{ℕ, cond, List, [], ◌∷◌, take, drop}
use Rattle.std.specs.List.{prefix_len}
use Rattle.scan.specs.declared.bytes.Kind.TheVariants.{Blank, Solid}
use Rattle.scan.specs.Bytes.{blank, is_of}

-- b before the first of the words ws, or before a blank or the end, where it is a word by itself
abbrev pub before : ℕ → List ℕ → List (List ℕ) → List (List ℕ)
before b [] ws = (b ∷ []) ∷ ws
before b (c ∷ bs) [] = (b ∷ []) ∷ []
before b (c ∷ bs) (w ∷ ws) = cond (blank c) ((b ∷ []) ∷ w ∷ ws) ((b ∷ w) ∷ ws)

-- words are separated by blanks
unfoldable pub words_of : List ℕ → List (List ℕ)
words_of [] = []
words_of (b ∷ bs) = cond (blank b) (words_of bs) (before b bs (words_of bs))

-- a line from its next word on
abbrev pub skipped : List ℕ → List ℕ
skipped bs = drop (prefix_len (is_of Blank) bs) bs

-- a line after its next word
abbrev pub after_of : List ℕ → List ℕ
after_of bs = drop (prefix_len (is_of Solid) (skipped bs)) (skipped bs)

abbrev pub first_of : List ℕ → List ℕ
first_of bs = take (prefix_len (is_of Solid) (skipped bs)) (skipped bs)
