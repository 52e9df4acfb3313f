-- Any message between bridges: its first byte is its kind.
use Rattle.std.specs.Prelude.{◌≡◌, ℕ, cond, List, Some, None, Option, Result, MatchResult, ◌==◌, slice_index}
use Rattle.wire.specs.declared.fault.Fault.{Fault}
use Rattle.wire.specs.declared.fault.Fault.TheVariants.{Malformed}
use Rattle.messages.specs.declared.message.Message.{Message}
use Rattle.messages.specs.declared.message.Message.TheVariants as message
use Rattle.messages.specs.Acks.{ack_fault, AckSays}
use Rattle.frames.specs.ForwardedFrames.{forwarded_fault, HeaderSays}
use Rattle.messages.specs.Hellos.{hello_fault, HelloSays}
use Rattle.messages.specs.LinkStates.{link_state_fault, LinkStateSays}
use Rattle.messages.specs.TreeBytes.{tree_fault, TreeSays}

-- the kind of a message, 0 of nothing at all, which is no kind
abbrev pub kind_of : List ℕ → ℕ
kind_of b = slice_index b 0

-- why it is refused, by its kind
abbrev pub message_fault : List ℕ → Option Fault
message_fault b =
    cond (kind_of b == 1) (forwarded_fault b)
    (cond (kind_of b == 2) (hello_fault b)
    (cond (kind_of b == 3) (link_state_fault b)
    (cond (kind_of b == 4) (tree_fault b)
    (cond (kind_of b == 5) (ack_fault b) (Some Malformed)))))

-- what it says, by its kind
abbrev pub MessageSays : List ℕ → Message → Type 0
MessageSays b (message.Frame h) = (kind_of b ≡ 1) × HeaderSays b h
MessageSays b (message.Hello m) = (kind_of b ≡ 2) × HelloSays b m
MessageSays b (message.LinkState m) = (kind_of b ≡ 3) × LinkStateSays b m
MessageSays b (message.Tree t) = (kind_of b ≡ 4) × TreeSays b t
MessageSays b (message.Ack m) = (kind_of b ≡ 5) × AckSays b m

abbrev pub DecodesMessage : List ℕ → Result Message Fault → Type 0
DecodesMessage b r = MatchResult r (λ m. (message_fault b ≡ None) × MessageSays b m) (λ e. message_fault b ≡ Some e)
