-- Settings: 6, number (1), incarnation (4, not 0), ports (1), for each port its vlan (2, 0 for none); no sum.
use Rattle.std.specs.Prelude.{◌≡◌, ℕ, zero, suc, ◌+◌, ◌*◌, ◌/◌, ◌%◌, ◌<◌, Bool, true, cond, not, ◌&&◌, List, [], ◌∷◌, ◌++◌, length, Some, None, Option, Result, MatchResult, ◌==◌, nat_le, nat_lt, slice_index}
use Rattle.wire.specs.declared.fault.Fault.{Fault}
use Rattle.wire.specs.declared.fault.Fault.TheVariants.{Malformed, BadSettings}
use Rattle.frames.specs.declared.settings.Settings.{Settings}
use Rattle.wire.specs.Bytes.{two, four, in_four, pairs_of}

-- the kind and the length are those of settings
abbrev pub are_settings : List ℕ → Bool
are_settings b = nat_le 7 (length b) && (slice_index b 0 == 6 && length b == 7 + 2 * slice_index b 6)

-- the vlan of a port
abbrev pub vlan_in : List ℕ → ℕ → ℕ
vlan_in b port = two b (7 + 2 * port)

-- the vlan of each of n ports is one, or none
unfoldable pub vlans_can_be : List ℕ → ℕ → Bool
vlans_can_be b zero = true
vlans_can_be b (suc n) = nat_le (vlan_in b n) 4094 && vlans_can_be b n

abbrev pub can_be : List ℕ → Bool
can_be b = nat_lt (slice_index b 1) 128 && (not (four b 2 == 0) && (nat_le (slice_index b 6) 16 && vlans_can_be b (slice_index b 6)))

-- why they are refused
abbrev pub settings_fault : List ℕ → Option Fault
settings_fault b = cond (are_settings b) (cond (can_be b) None (Some BadSettings)) (Some Malformed)

-- the vlans of n ports, and none for ports that are not there
pub record VlansSay (b : List ℕ) (n : ℕ) (vlans : List ℕ) : Type 0 where
  pub there : (k : ℕ) → k < n → slice_index vlans k ≡ vlan_in b k
  pub others : (k : ℕ) → k < 16 → (k < n → ⊥) → slice_index vlans k ≡ 0

-- what they say
pub record SettingsSay (b : List ℕ) (m : Settings) : Type 0 where
  pub bridge : m.bridge.value ≡ slice_index b 1
  pub incarnation : m.incarnation ≡ four b 2
  pub ports : m.ports ≡ slice_index b 6
  pub vlans : VlansSay b (slice_index b 6) m.vlans

abbrev pub DecodesSettings : List ℕ → Result Settings Fault → Type 0
DecodesSettings b r = MatchResult r (λ m. (settings_fault b ≡ None) × SettingsSay b m) (λ e. settings_fault b ≡ Some e)

abbrev pub settings_head : Settings → List ℕ
settings_head m = 6 ∷ m.bridge.value ∷ (in_four m.incarnation ++ (m.ports ∷ []))

-- the vlans of n ports, in two bytes each
abbrev pub in_twos : List ℕ → ℕ → List ℕ
in_twos vlans n = pairs_of (λ k. slice_index vlans k / 256 % 256) (λ k. slice_index vlans k % 256) 0 n

abbrev pub settings_bytes : Settings → List ℕ
settings_bytes m = settings_head m ++ in_twos m.vlans m.ports
