-- Tables by bridge: what, if anything, waits for each number.
use Rattle.std.specs.Prelude.{◌≡◌, ℕ, ◌<◌, Bool, cond, ◌&&◌, Some, None, Option, ◌==◌, nat_lt}
use Rattle.sets.specs.Sets.{has}

-- which bridges are in a set of bits
abbrev pub member : ℕ → ℕ → Bool
member bits k = nat_lt k 128 && has bits k

-- of what waits and what comes the newer
abbrev pub newest : {X : Type 0} → (X → X → Bool) → X → Option X → X
newest newer x None = x
newest newer x (Some y) = cond (newer x y) x y

-- x comes for bridge b
abbrev pub noted : {X : Type 0} → (X → X → Bool) → ℕ → X → (ℕ → Option X) → ℕ → Option X
noted newer b x t k = cond (k == b) (Some (newest newer x (t k))) (t k)

-- nothing waits any longer for bridge b
abbrev pub removed : {X : Type 0} → ℕ → (ℕ → Option X) → ℕ → Option X
removed b t k = cond (k == b) None (t k)

-- x waits for b, and nothing for a lower bridge
abbrev pub First : {X : Type 0} → (ℕ → Option X) → ℕ → X → Type 0
First t b x = (t b ≡ Some x) × ((k : ℕ) → k < b → t k ≡ None)
