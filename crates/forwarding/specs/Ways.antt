-- The way of a frame as the code says it. Assumes nothing.
use Rattle.std.specs.Prelude.{Ok, Err, Result}
use Rattle.forwarding.specs.declared.fault.Fault.{Fault}
use Rattle.forwarding.specs.declared.frames.Along.{Along}
use Rattle.forwarding.specs.declared.frames.Along.TheVariants as along
use Rattle.forwarding.specs.Replies.{Way, Refuse, Newest, Older}

abbrev pub chosen : Along → Way
chosen along.Newest = Newest
chosen along.Older = Older

abbrev pub way_of : Result Along Fault → Way
way_of (Ok a) = chosen a
way_of (Err f) = Refuse f
