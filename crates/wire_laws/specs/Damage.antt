-- What becomes of a message that is damaged, or cut, on its way.
use Rattle.std.specs.Prelude.{◌≡◌, ℕ, ◌-◌, ◌<◌, ◌⊎◌, List, length, take, drop, Some, None, ◌≢◌}
use Rattle.crc.specs.Crc.{bits_of}
use Rattle.crc.specs.Burst.{Bytes, Window}
use Rattle.wire.specs.declared.fault.Fault.TheVariants.{Malformed}
use Rattle.messages.specs.Messages.{kind_of, message_fault}
use Rattle.frames.specs.SettingsBytes.{settings_fault}

-- what stands before the sum, and the sum
abbrev pub body_of : List ℕ → List ℕ
body_of b = take (length b - 4) b

abbrev pub sum_of : List ℕ → List ℕ
sum_of b = drop (length b - 4) b

-- what came differs from what was sent within 32 bits in a row before the sum
pub record BodyDamaged (sent came : List ℕ) : Type 0 where
  pub as_long : length sent ≡ length came
  pub sum : sum_of sent ≡ sum_of came
  pub burst : Window (bits_of (body_of sent)) (bits_of (body_of came))

-- or in the sum alone
pub record SumDamaged (sent came : List ℕ) : Type 0 where
  pub as_long : length sent ≡ length came
  pub body : body_of sent ≡ body_of came

-- a message so damaged is refused
abbrev pub DamageTold : Type 0
DamageTold = (sent came : List ℕ) → Bytes sent → Bytes came → message_fault sent ≡ None → BodyDamaged sent came ⊎ SumDamaged sent came → (sent ≢ came)
    → message_fault came ≡ Some Malformed

-- a message of one length that is cut is refused; of frames, which have many lengths, one that is cut below the least of them
abbrev pub CutTold : Type 0
CutTold = (sent : List ℕ) (n : ℕ) → message_fault sent ≡ None → n < length sent → (kind_of sent ≡ 1 → n < 31) → message_fault (take n sent) ≡ Some Malformed

-- settings that are cut are refused
abbrev pub CutSettingsTold : Type 0
CutSettingsTold = (b : List ℕ) (n : ℕ) → settings_fault b ≡ None → n < length b → settings_fault (take n b) ≡ Some Malformed

pub record Told : Type 0 where
  pub damage : DamageTold
  pub cut : CutTold
  pub cut_settings : CutSettingsTold
