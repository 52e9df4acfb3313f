-- Rows of every second byte.
use Rattle.std.proofs.Common.{◌≡◌, ℕ, zero, suc, ◌+◌, ◌*◌, ◌<◌, List, length, get_or, refl, ap, ◌∙◌, arith}
use Rattle.messages.specs.TreeBytes.{row}

pub length-row : (b : List ℕ) (i n : ℕ) → length (row b i n) ≡ n
unfolding row
length-row b i zero = refl
length-row b i (suc n) = ap suc (length-row b (i + 2) n)

pub get_or-row : (b : List ℕ) (i n k : ℕ) → k < n → get_or (row b i n) k 0 ≡ get_or b (i + 2 * k) 0
unfolding row
get_or-row b i zero k h = absurd (omega arith)
get_or-row b i (suc n) zero h = ap (λ j. get_or b j 0) (omega arith)
get_or-row b i (suc n) (suc k) h = get_or-row b (i + 2) n k (omega arith) ∙ ap (λ j. get_or b j 0) (omega arith)
