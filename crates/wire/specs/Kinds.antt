-- The first byte of each kind of messages.
use Rattle.std.specs.Prelude.{◌≡◌, ℕ}
use Rattle.wire.specs.declared.kind.Kind.{Kind}
use Rattle.wire.specs.declared.kind.Kind.TheVariants.{Frame, Hello, LinkState, Tree, Ack, Settings}

abbrev pub byte_of : Kind → ℕ
byte_of Frame = 1
byte_of Hello = 2
byte_of LinkState = 3
byte_of Tree = 4
byte_of Ack = 5
byte_of Settings = 6

-- no kind of messages begins with this byte
abbrev pub NamesNoKind : ℕ → Type 0
NamesNoKind byte = (kind : Kind) → byte ≡ byte_of kind → ⊥
