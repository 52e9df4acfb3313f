-- Trees over bridges, each with a number of its own: who stands above whom. Assumes nothing.
use Rattle.std.specs.Prelude.{◌≡◌, ℕ, zero, suc, Bool, true, false, not, ◌&&◌, ◌||◌, List, [], ◌∷◌, ◌==◌, nat_lt}

-- above: who stands above a bridge, itself if nobody; far: how far from the top of its part
pub record Tree : Type 0 where
  pub number : ℕ
  pub above : ℕ → ℕ
  pub far : ℕ → ℕ

-- does it look like a tree over the first n bridges: whoever isn't at the top stands below somebody nearer to it
unfoldable pub looks : ℕ → Tree → Bool
looks zero t = true
looks (suc b) t = (t.above b == b || nat_lt (t.far (t.above b)) (t.far b)) && looks b t

abbrev pub joined : Tree → ℕ → ℕ → Bool
joined t b c = not (b == c) && (t.above b == c || t.above c == b)

-- a walk along a tree, the latest place first, that never goes straight back
pub data Walk (t : Tree) : List ℕ → Type 0 where
  here : (b : ℕ) → Walk t (b ∷ [])
  first : {b : ℕ} (c : ℕ) → joined t b c ≡ true → Walk t (c ∷ (b ∷ []))
  on : {a b : ℕ} {bs : List ℕ} (c : ℕ) → Walk t (b ∷ (a ∷ bs)) → joined t b c ≡ true → (c == a) ≡ false → Walk t (c ∷ (b ∷ (a ∷ bs)))

unfoldable pub is_in : ℕ → List ℕ → Bool
is_in n [] = false
is_in n (x ∷ xs) = x == n || is_in n xs

unfoldable pub different : List ℕ → Bool
different [] = true
different (x ∷ xs) = not (is_in x xs) && different xs

unfoldable pub all_below : ℕ → List ℕ → Bool
all_below n [] = true
all_below n (x ∷ xs) = nat_lt x n && all_below n xs
