-- A copy whose tree nobody announced is dropped.
-- Assumes nothing.
use Rattle.std.proofs.Common.{◌≡◌, refl}
use Rattle.bridges.specs.Net.{Rules, Copy, World, NoTree, handle}

pub dropped : (r : Rules) (x : Copy) (w : World) → handle r x NoTree w ≡ w
dropped r x w = refl
