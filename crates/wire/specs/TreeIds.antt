-- The number of a tree in eight bytes: sequence number (4), announcer (1), nonce (3).
use Rattle.std.specs.Prelude.{◌≡◌, ℕ, ◌+◌, List, ◌∷◌, ◌++◌, slice_index}
use Rattle.trees.specs.declared.tree_id.TreeId.{TreeId}
use Rattle.wire.specs.Bytes.{three, four, in_three, in_four}

pub record TreeIdSays (b : List ℕ) (i : ℕ) (t : TreeId) : Type 0 where
  pub seq : t.seq ≡ four b i
  pub announcer : t.announcer.value ≡ slice_index b (i + 4)
  pub nonce : t.nonce ≡ three b (i + 5)

abbrev pub tree_id_bytes : TreeId → List ℕ
tree_id_bytes t = in_four t.seq ++ (t.announcer.value ∷ in_three t.nonce)
