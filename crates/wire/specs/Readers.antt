-- What a reader takes from its bytes, which stay what they are.
use Rattle.std.specs.Prelude.{◌≡◌, ℕ, ◌+◌, ◌<◌, ◌≤◌, length, max, Result, MatchResult}
use Rattle.wire.specs.declared.fault.Fault.{Fault}
use Rattle.wire.specs.declared.fault.Fault.TheVariants.{Malformed, NotThere}
use Rattle.wire.specs.declared.reader.Reader.{Reader}

-- the reader n bytes further on
abbrev pub past : ℕ → Reader → Reader
past n r = record { bytes = r.bytes; pos = r.pos + n }

-- the reader at the end of its bytes, or behind it where it was
abbrev pub spent : Reader → Reader
spent r = record { bytes = r.bytes; pos = max r.pos (length r.bytes.now) }

-- there are n bytes more
abbrev pub Holds : ℕ → Reader → Type 0
Holds n r = r.pos + n ≤ length r.bytes.now

-- the next n bytes are taken and say x; where there are fewer, the reader is as `short` says
abbrev pub Reads : {A : Type 0} → ℕ → Reader → Reader → Reader → Result A Fault → (A → Type 0) → Type 0
Reads n old new short r Says =
    MatchResult r (λ x. Holds n old × Says x × (new ≡ past n old)) (λ e. (length old.bytes.now < old.pos + n) × (e ≡ Malformed) × (new ≡ short))

-- the same where one of the n bytes is a bridge's number: they are taken too where it is none
abbrev pub ReadsNamed : {A : Type 0} → ℕ → ℕ → Reader → Reader → Reader → Result A Fault → (A → Type 0) → Type 0
ReadsNamed n bridge old new short r Says =
    MatchResult r (λ x. Holds n old × (bridge < 128) × Says x × (new ≡ past n old))
    (λ e. (Holds n old → (128 ≤ bridge) × (e ≡ NotThere) × (new ≡ past n old)) × (length old.bytes.now < old.pos + n → (e ≡ Malformed) × (new ≡ short)))
