-- A station's frame: to (6), from (6), body (2 to 1,500).
use Rattle.std.specs.Prelude.{◌≡◌, ℕ, ◌%◌, true, false, cond, ◌&&◌, List, length, take, drop, Some, None, Option, Result, MatchResult, ◌==◌, nat_le, slice_index}
use Rattle.wire.specs.declared.fault.Fault.{Fault}
use Rattle.wire.specs.declared.fault.Fault.TheVariants.{Malformed, GroupSender}
use Rattle.frames.specs.declared.station_frame.StationFrame.{StationFrame}
use Rattle.frames.specs.declared.station_frame.AtAccess.{AtAccess}
use Rattle.frames.specs.declared.station_frame.AtAccess.TheVariants.{Hello, Frame}
use Rattle.wire.specs.Bytes.{whole}

-- why it is refused
abbrev pub station_fault : List ℕ → Option Fault
station_fault b = cond (nat_le 14 (length b) && nat_le (length b) 1512) (cond (slice_index b 6 % 2 == 1) (Some GroupSender) None) (Some Malformed)

-- what it says
pub record StationFrameSays (b : List ℕ) (f : StationFrame) : Type 0 where
  pub to : f.to ≡ take 6 b
  pub from : f.from ≡ take 6 (drop 6 b)
  pub bytes : f.bytes.now ≡ b

abbrev pub DecodesStationFrame : List ℕ → Result StationFrame Fault → Type 0
DecodesStationFrame b r = MatchResult r (λ f. (station_fault b ≡ None) × StationFrameSays b f) (λ e. station_fault b ≡ Some e)

-- at an access port 14 bytes with first byte 2 and a right sum are a hello, and all else is read as a frame
abbrev pub ReadAs : List ℕ → AtAccess → Type 0
ReadAs b Hello = whole 2 14 b ≡ true
ReadAs b (Frame f) = (whole 2 14 b ≡ false) × (station_fault b ≡ None) × StationFrameSays b f

abbrev pub ReadsAtAccess : List ℕ → Result AtAccess Fault → Type 0
ReadsAtAccess b r = MatchResult r (ReadAs b) (λ e. (whole 2 14 b ≡ false) × (station_fault b ≡ Some e))
