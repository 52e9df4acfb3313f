-- The number of a tree is its parts, high part first.
use Rattle.std.proofs.Common.{◌≡◌, ℕ, ◌^◌, ◌<◌, ap, ◌∙◌, subst, arith}
use native.Mathlib.Bridge.{le_prop}
use Rattle.sets.proofs.Members.{same_id}
use Rattle.sets.specs.declared.bridge_id.BridgeId.{BridgeId}
use Rattle.trees.specs.Ids.{OrderedByParts, OneNumberOneId}

pub ordered_by_parts : OrderedByParts
ordered_by_parts a b = (λ h. grind arith, λ h. grind arith)

pub one_number_one_id : OneNumberOneId
one_number_one_id a b e = along b.seq b.announcer b.nonce seq (same_id a.announcer b.announcer announcer) nonce b.three_bytes
  where
    seq : a.seq ≡ b.seq
    seq = omega arith

    announcer : a.announcer.value ≡ b.announcer.value
    announcer = omega arith

    nonce : a.nonce ≡ b.nonce
    nonce = omega arith

    along : (s : ℕ) (r : BridgeId) (n : ℕ) → a.seq ≡ s → a.announcer ≡ r → a.nonce ≡ n → (l : n < 2 ^ 24) → a ≡ record { seq = s; announcer = r; nonce = n; three_bytes = l }
    along s r n p q t l =
        let last : (l : n < 2 ^ 24) → a ≡ record { seq = a.seq; announcer = a.announcer; nonce = n; three_bytes = l } = subst (λ m. (l : m < 2 ^ 24) → a ≡ record { seq = a.seq; announcer = a.announcer; nonce = m; three_bytes = l }) t (λ l. ap (λ h. record { seq = a.seq; announcer = a.announcer; nonce = a.nonce; three_bytes = h }) (le_prop a.three_bytes l)) in
        last l ∙ (λ i. record { seq = p i; announcer = q i; nonce = n; three_bytes = l })
