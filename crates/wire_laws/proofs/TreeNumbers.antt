-- The number of a tree, there and back.
use Rattle.std.proofs.Common.{◌≡◌, ℕ, ◌+◌, ◌*◌, ◌^◌, List, [], ◌∷◌, ◌++◌, get_or, sym, ◌∙◌}
use Rattle.crc.specs.Burst.{Bytes}
use Rattle.trees.specs.declared.tree_id.TreeId.{TreeId}
use Rattle.trees.proofs.Ids.{one_number_one_id}
use Rattle.wire.specs.Bytes.{in_three, in_four}
use Rattle.wire.specs.TreeIds.{TreeIdSays, tree_id_bytes}
use Rattle.wire_laws.proofs.Numbers.{in-three-at, in-four-at}

pub one_id : (b : List ℕ) (i : ℕ) (s t : TreeId) → TreeIdSays b i s → TreeIdSays b i t → s ≡ t
one_id b i s t p q =
    let a : s.seq ≡ t.seq = p.seq ∙ sym q.seq in
    let c : s.announcer.value ≡ t.announcer.value = p.announcer ∙ sym q.announcer in
    let d : s.nonce ≡ t.nonce = p.nonce ∙ sym q.nonce in
    one_number_one_id s t (λ j. (a j * 256 + c j) * 2 ^ 24 + d j)

-- the bytes of a tree's number that stands at a place
pub id_bytes : (b : List ℕ) (i : ℕ) (t : TreeId) → Bytes b → TreeIdSays b i t
    → tree_id_bytes t
    ≡ get_or b i 0 ∷ get_or b (i + 1) 0 ∷ get_or b (i + 2) 0 ∷ get_or b (i + 3) 0 ∷ get_or b (i + 4) 0 ∷ get_or b (i + 5) 0 ∷ get_or b (i + 5 + 1) 0 ∷ get_or b (i + 5 + 2) 0 ∷ []
id_bytes b i t h s =
    (λ j. in_four (s.seq j) ++ (s.announcer j ∷ in_three (s.nonce j)))
    ∙ (λ j. in-four-at b i h j ++ (get_or b (i + 4) 0 ∷ in-three-at b (i + 5) h j))
