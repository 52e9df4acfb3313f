-- The number of a tree, and its order in words. Assumes nothing.
use Rattle.std.specs.Prelude.{◌≡◌, ℕ, ◌+◌, ◌*◌, ◌^◌, ◌<◌, ◌⊎◌}
use Rattle.trees.specs.declared.tree_id.TreeId.{TreeId}

-- the number that its 8 bytes make, high byte first: 4 of the sequence number, 1 of the announcer, 3 of the nonce
abbrev pub id_number : TreeId → ℕ
id_number i = (i.seq * 256 + i.announcer.value) * 2 ^ 24 + i.nonce

-- a comes before b: by the sequence number, then by the announcer, then by the nonce
abbrev pub Before : TreeId → TreeId → Type 0
Before a b =
    (a.seq < b.seq)
    ⊎ ((a.seq ≡ b.seq)
    × ((a.announcer.value < b.announcer.value)
    ⊎ ((a.announcer.value ≡ b.announcer.value) × (a.nonce < b.nonce))))

abbrev pub OrderedByParts : Type 0
OrderedByParts = (a b : TreeId) → (id_number a < id_number b → Before a b) × (Before a b → id_number a < id_number b)

abbrev pub OneNumberOneId : Type 0
OneNumberOneId = (a b : TreeId) → id_number a ≡ id_number b → a ≡ b
