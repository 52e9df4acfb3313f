-- No copy of a frame comes to a bridge where that copy was. Assumes nothing.
use Rattle.std.proofs.Common.{◌≡◌, ℕ, zero, suc, ◌<◌, Bool, true, List, [], ◌∷◌, sym, refl, subst, arith}
use mathlib.Core.List.{Memᴰ}
use Rattle.trees.specs.Tree.{Tree, looks, Walk, is_in, different, all_below}
use Rattle.bridges.specs.Net.{Copy, Rules}
use Rattle.bridges.specs.Fabric.{Event, run}
use Rattle.trees.proofs.Simple.{simple}
use Rattle.bridges.proofs.Keeps.{keeps}

no_round_of : (r : Rules) (n : ℕ) (t : Tree) (b : ℕ) (bs : List ℕ) → looks n t ≡ true → Walk t (b ∷ bs) → (0 < n → all_below n (b ∷ bs) ≡ true) → (n ≡ 0 → bs ≡ []) → different (b ∷ bs) ≡ true
unfolding different is_in
no_round_of r zero t b bs l w h z = subst (λ cs. different (b ∷ cs) ≡ true) (sym (z refl)) refl
no_round_of r (suc n) t b bs l w h z = simple (suc n) t l (b ∷ bs) (h (omega arith)) w

pub no_round : (lax : Bool) (r : Rules) (es : List Event) (x : Copy) → Memᴰ x (run lax r es).copies → different (x.at ∷ x.trail) ≡ true
no_round lax r es x m = let o = (keeps lax r es).walks x m in no_round_of r r.bridges o.t x.at x.trail o.good o.walk o.inside o.still
