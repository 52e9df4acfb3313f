-- Why a frame was not taken.
use Rattle.std.specs.Prelude.{ℕ, List, length, if◌then◌else◌, nat_le, codes}
use Rattle.rows.specs.declared.refused.Refused.{Refused}
use Rattle.rows.specs.declared.refused.Refused.TheVariants.{TooLong, NoRoom}

-- what keeps a frame out of a row, if it is not taken
abbrev pub why : List ℕ → Refused
why f = if nat_le (length f) 1529 then NoRoom else TooLong

-- in words
abbrev pub text_of : Refused → List ℕ
text_of TooLong = codes "the frame is too long"
text_of NoRoom = codes "no room for another frame"
