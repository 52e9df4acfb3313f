-- Into bytes and back: for each kind of message.
use Rattle.std.specs.Prelude.{◌≡◌, ℕ, ◌^◌, ◌<◌, ◌≤◌, List, length, None, Option, slice_index}
use Rattle.crc.specs.Burst.{Bytes}
use Rattle.trees.specs.declared.spanning_tree.Tree.{Tree}
use Rattle.wire.specs.declared.fault.Fault.{Fault}
use Rattle.messages.specs.declared.ack.Ack.{Ack}
use Rattle.messages.specs.declared.ack.Acked.{Acked}
use Rattle.messages.specs.declared.ack.Acked.TheVariants as acked
use Rattle.frames.specs.declared.forwarded.Header.{Header}
use Rattle.messages.specs.declared.hello.Hello.{Hello}
use Rattle.messages.specs.declared.link_state.LinkState.{LinkState}
use Rattle.frames.specs.declared.settings.Settings.{Settings}
use Rattle.messages.specs.Acks.{ack_fault, AckSays, ack_bytes}
use Rattle.frames.specs.ForwardedFrames.{forwarded_fault, HeaderSays, forwarded_bytes, frame_in}
use Rattle.messages.specs.Hellos.{hello_fault, HelloSays, hello_bytes}
use Rattle.messages.specs.LinkStates.{link_state_fault, LinkStateSays, link_state_bytes}
use Rattle.frames.specs.SettingsBytes.{settings_fault, SettingsSay, settings_bytes}
use Rattle.frames.specs.StationFrames.{station_fault}
use Rattle.messages.specs.TreeBytes.{tree_fault, TreeSays, tree_bytes}

-- a way to write messages M, of which those that fit are all that there are, and to read them
pub record RoundTrip (M : Type 0) (Fits : M → Type 0) (fault : List ℕ → Option Fault) (Says : List ℕ → M → Type 0) (bytes : M → List ℕ) : Type 0 where
  -- what is written is read as what was written
  pub comes_back : (m : M) → Fits m → (fault (bytes m) ≡ None) × Says (bytes m) m
  -- what is read as a message is what is written of it, byte for byte
  pub same_bytes : (b : List ℕ) (m : M) → Bytes b → fault b ≡ None → Says b m → bytes m ≡ b
  -- two different messages never have the same bytes
  pub different : (m n : M) → Fits m → Fits n → bytes m ≡ bytes n → m ≡ n

-- each number fits its type, as those of the code do
abbrev pub HelloFits : Hello → Type 0
HelloFits m = (m.incarnation < 2 ^ 32) × (m.heard < 2 ^ 32)

abbrev pub LinkStateFits : LinkState → Type 0
LinkStateFits m = (m.incarnation < 2 ^ 32) × (m.neighbours.bits < 2 ^ 128)

abbrev pub AckedFits : Acked → Type 0
AckedFits (acked.LinkState bridge incarnation count) = incarnation < 2 ^ 32
AckedFits (acked.Tree t) = t.seq < 2 ^ 32

abbrev pub AckFits : Ack → Type 0
AckFits m = (m.incarnation < 2 ^ 32) × AckedFits m.acked

abbrev pub TreeFits : Tree → Type 0
TreeFits t = (t.id.seq < 2 ^ 32) × (length t.parent ≡ 128) × (length t.depth ≡ 128)

-- a header and the station's frame behind it, with a vlan that is there
abbrev pub Framed : Type 0
Framed = Header × List ℕ

abbrev pub FramedFits : Framed → Type 0
FramedFits (h, frame) = (h.tree.seq < 2 ^ 32) × (1 ≤ h.vlan) × (h.vlan ≤ 4094) × (station_fault frame ≡ None)

abbrev pub FramedSays : List ℕ → Framed → Type 0
FramedSays b (h, frame) = HeaderSays b h × (frame ≡ frame_in b)

abbrev pub framed_bytes : Framed → List ℕ
framed_bytes (h, frame) = forwarded_bytes h frame

-- settings that can be, with no vlan at ports that are not there
pub record SettingsFit (m : Settings) : Type 0 where
  pub start : 0 < m.incarnation
  pub incarnation : m.incarnation < 2 ^ 32
  pub many : length m.vlans ≡ 16
  pub vlans : (k : ℕ) → k < m.ports → slice_index m.vlans k ≤ 4094
  pub others : (k : ℕ) → k < 16 → (k < m.ports → ⊥) → slice_index m.vlans k ≡ 0

pub record RoundTrips : Type 0 where
  pub hellos : RoundTrip Hello HelloFits hello_fault HelloSays hello_bytes
  pub link_states : RoundTrip LinkState LinkStateFits link_state_fault LinkStateSays link_state_bytes
  pub acks : RoundTrip Ack AckFits ack_fault AckSays ack_bytes
  pub trees : RoundTrip Tree TreeFits tree_fault TreeSays tree_bytes
  pub frames : RoundTrip Framed FramedFits forwarded_fault FramedSays framed_bytes
  pub settings : RoundTrip Settings SettingsFit settings_fault SettingsSay settings_bytes
