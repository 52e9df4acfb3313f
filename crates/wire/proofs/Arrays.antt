-- Arrays of what a closure that changes nothing gives.
use Rattle.std.proofs.Common.{◌≡◌, ℕ, zero, suc, ◌+◌, ◌<◌, List, get_or, sym, subst, arith}
use denote.Param.Members.{Mut, Called}
use Rattle.std.specs.Array.{IsFromFnResult, IsFromFnResultFrom}

-- of each place from i on
made_from : {F B : Type 0} (g : Mut F (ℕ × Unit {0}) B) (P : ℕ → B → Type 0) (f : F) (ys : List B) (d : B)
    → ((i : ℕ) (y : B) (q : F) → Called g f (i, tt) y q → P i y × (q ≡ f))
    → (n i : ℕ) → IsFromFnResultFrom g f ys i n → (k : ℕ) → k < n → P (i + k) (get_or ys (i + k) d)
made_from g P f ys d step zero i h k l = absurd (omega arith)
made_from g P f ys d step (suc n) i (q, y, e, c, rest) zero l =
    let here : i ≡ i + 0 = omega arith in
    subst (λ j. P j (get_or ys j d)) here (subst (P i) (sym (e.1 d)) (step i y q c).0)
made_from {F} g P f ys d step (suc n) i (q, y, e, c, rest) (suc k) l =
    let there : i + 1 + k ≡ i + suc k = omega arith in
    let next = subst (λ (p : F). IsFromFnResultFrom g p ys (i + 1) n) (step i y q c).1 rest in
    subst (λ j. P j (get_or ys j d)) there (made_from g P f ys d step n (i + 1) next k (omega arith))

-- of each place
pub made_each : {F B : Type 0} (g : Mut F (ℕ × Unit {0}) B) (P : ℕ → B → Type 0) (f : F) (ys : List B) (d : B) {n : ℕ}
    → ((i : ℕ) (y : B) (q : F) → Called g f (i, tt) y q → P i y × (q ≡ f)) → IsFromFnResult g f ys n → (k : ℕ) → k < n → P k (get_or ys k d)
made_each g P f ys d {n} step m k l =
    let here : 0 + k ≡ k = omega arith in
    subst (λ j. P j (get_or ys j d)) here (made_from g P f ys d step n 0 m.each k l)
