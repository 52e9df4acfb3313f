-- A frame between bridges: 1, by (1), for (1), tree (8), vlan (2), a station's frame, sum (4): 31 to 1,529 bytes in all.
use Rattle.std.specs.Prelude.{◌≡◌, ℕ, ◌-◌, Bool, cond, ◌&&◌, List, ◌∷◌, ◌++◌, length, take, drop, Some, None, Option, Result, MatchResult, ◌==◌, nat_le, nat_lt, slice_index}
use Rattle.wire.specs.declared.fault.Fault.{Fault}
use Rattle.wire.specs.declared.fault.Fault.TheVariants.{Malformed, NotThere}
use Rattle.frames.specs.declared.forwarded.Header.{Header}
use Rattle.wire.specs.Bytes.{two, in_two, summed, with_sum}
use Rattle.frames.specs.StationFrames.{station_fault}
use Rattle.wire.specs.TreeIds.{TreeIdSays, tree_id_bytes}

-- the bridges and the vlan that the header names are there
abbrev pub header_there : List ℕ → Bool
header_there b = nat_lt (slice_index b 1) 128 && (nat_lt (slice_index b 2) 128 && (nat_lt (slice_index b 7) 128 && (nat_le 1 (two b 11) && nat_le (two b 11) 4094)))

-- what the header says
pub record HeaderSays (b : List ℕ) (h : Header) : Type 0 where
  pub by : h.by.value ≡ slice_index b 1
  pub next : h.next.value ≡ slice_index b 2
  pub tree : TreeIdSays b 3 h.tree
  pub vlan : h.vlan ≡ two b 11

abbrev pub header_fault : List ℕ → Option Fault
header_fault b = cond (nat_le 13 (length b)) (cond (header_there b) None (Some NotThere)) (Some Malformed)

abbrev pub DecodesHeader : List ℕ → Result Header Fault → Type 0
DecodesHeader b r = MatchResult r (λ h. (header_fault b ≡ None) × HeaderSays b h) (λ e. header_fault b ≡ Some e)

-- the station's frame inside: all but the header and the sum
abbrev pub frame_in : List ℕ → List ℕ
frame_in b = take (length b - 17) (drop 13 b)

abbrev pub or_else : Option Fault → Option Fault → Option Fault
or_else None f = f
or_else (Some e) f = Some e

-- why it is refused: a fault of the frame inside comes first
abbrev pub forwarded_fault : List ℕ → Option Fault
forwarded_fault b = cond (slice_index b 0 == 1 && summed b) (or_else (station_fault (frame_in b)) (header_fault b)) (Some Malformed)

abbrev pub DecodesForwarded : List ℕ → Result Header Fault → Type 0
DecodesForwarded b r = MatchResult r (λ h. (forwarded_fault b ≡ None) × HeaderSays b h) (λ e. forwarded_fault b ≡ Some e)

abbrev pub header_bytes : Header → List ℕ
header_bytes h = 1 ∷ h.by.value ∷ h.next.value ∷ (tree_id_bytes h.tree ++ in_two h.vlan)

abbrev pub forwarded_bytes : Header → List ℕ → List ℕ
forwarded_bytes h frame = with_sum (header_bytes h ++ frame)
