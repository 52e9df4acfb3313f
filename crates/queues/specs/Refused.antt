-- Why a port did not take a frame, in words.
use Rattle.std.specs.Prelude.{ℕ, List, codes}
use Rattle.rows.specs.Refused as row
use Rattle.queues.specs.declared.refused.Refused.{Refused}
use Rattle.queues.specs.declared.refused.Refused.TheVariants.{NoPort, ByRow}

abbrev pub text_of : Refused → List ℕ
text_of NoPort = codes "no such port"
text_of (ByRow why) = row.text_of why
