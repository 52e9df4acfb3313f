-- What the acknowledgements say.
use Rattle.std.specs.Prelude.{ℕ, Bool, cond, ◌&&◌, ◌||◌, None, Option, ◌==◌, nat_lt, slice_get}
use Rattle.pending.specs.declared.version.Version.{Version}
use Rattle.pending.specs.declared.acks.Acks.{Acks}
use Rattle.pending.specs.Tables.{member}

-- the higher count, then the higher incarnation
abbrev pub later : Version → Version → Bool
later v w = nat_lt w.count v.count || (v.count == w.count && nat_lt w.incarnation v.incarnation)

abbrev pub higher : ℕ → ℕ → Bool
higher m n = nat_lt n m

-- of the versions those count whose bridge is in the set
abbrev pub acks_of : {V : Type 0} → Acks V → ℕ → Option V
acks_of a k = cond (member a.waits.bits k) (slice_get a.newest k) None
