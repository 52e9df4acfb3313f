-- An acknowledgement: 5, incarnation of who says it (4), kind (1), and of a link state (kind 3) its bridge (1), incarnation (4), count (6); of a tree (kind 4)
-- its number (8); sum (4).
use Rattle.std.specs.Prelude.{◌≡◌, ℕ, cond, List, [], ◌∷◌, ◌++◌, Some, None, Option, Result, MatchResult, ◌==◌, nat_lt, slice_index}
use Rattle.sets.specs.declared.bridge_id.BridgeId.{BridgeId}
use Rattle.wire.specs.declared.fault.Fault.{Fault}
use Rattle.wire.specs.declared.fault.Fault.TheVariants.{Malformed, NotThere}
use Rattle.wire.specs.declared.count.Count.{Count}
use Rattle.messages.specs.declared.ack.Ack.{Ack}
use Rattle.messages.specs.declared.ack.Acked.{Acked}
use Rattle.messages.specs.declared.ack.Acked.TheVariants.{LinkState, Tree}
use Rattle.wire.specs.Bytes.{four, six, in_four, in_six, whole, with_sum}
use Rattle.wire.specs.TreeIds.{TreeIdSays, tree_id_bytes}

-- the kind of what is acknowledged
abbrev pub ack_kind : List ℕ → ℕ
ack_kind b = slice_index b 5

-- why it is refused, by what it acknowledges
abbrev pub link_state_ack_fault : List ℕ → Option Fault
link_state_ack_fault b = cond (ack_kind b == 3) (cond (nat_lt (slice_index b 6) 128) None (Some NotThere)) (Some Malformed)

abbrev pub tree_ack_fault : List ℕ → Option Fault
tree_ack_fault b = cond (ack_kind b == 4) (cond (nat_lt (slice_index b 10) 128) None (Some NotThere)) (Some Malformed)

abbrev pub ack_fault : List ℕ → Option Fault
ack_fault b = cond (whole 5 21 b) (link_state_ack_fault b) (cond (whole 5 18 b) (tree_ack_fault b) (Some Malformed))

-- what it says is had
abbrev pub AckedSays : List ℕ → Acked → Type 0
AckedSays b (LinkState bridge incarnation count) =
    (ack_kind b ≡ 3) × (bridge.value ≡ slice_index b 6) × (incarnation ≡ four b 7) × (count.value ≡ six b 11)
AckedSays b (Tree t) = (ack_kind b ≡ 4) × TreeIdSays b 6 t

pub record AckSays (b : List ℕ) (m : Ack) : Type 0 where
  pub incarnation : m.incarnation ≡ four b 1
  pub acked : AckedSays b m.acked

abbrev pub DecodesAck : List ℕ → Result Ack Fault → Type 0
DecodesAck b r = MatchResult r (λ m. (ack_fault b ≡ None) × AckSays b m) (λ e. ack_fault b ≡ Some e)

abbrev pub DecodesLinkStateAck : List ℕ → Result Ack Fault → Type 0
DecodesLinkStateAck b r = MatchResult r (λ m. (link_state_ack_fault b ≡ None) × AckSays b m) (λ e. link_state_ack_fault b ≡ Some e)

abbrev pub DecodesTreeAck : List ℕ → Result Ack Fault → Type 0
DecodesTreeAck b r = MatchResult r (λ m. (tree_ack_fault b ≡ None) × AckSays b m) (λ e. tree_ack_fault b ≡ Some e)

abbrev pub acked_link_state : BridgeId → ℕ → Count → List ℕ
acked_link_state bridge incarnation count = bridge.value ∷ (in_four incarnation ++ in_six count.value)

abbrev pub ack_head : ℕ → ℕ → List ℕ
ack_head incarnation kind = 5 ∷ (in_four incarnation ++ (kind ∷ []))

abbrev pub acked_bytes : ℕ → Acked → List ℕ
acked_bytes incarnation (LinkState bridge of count) = ack_head incarnation 3 ++ acked_link_state bridge of count
acked_bytes incarnation (Tree t) = ack_head incarnation 4 ++ tree_id_bytes t

abbrev pub ack_bytes : Ack → List ℕ
ack_bytes m = with_sum (acked_bytes m.incarnation m.acked)
