-- What waits to be sent by a port, what leaves next, and what then waits.
use Rattle.std.specs.Prelude.{ℕ, zero, suc, ◌+◌, Bool, true, false, cond, not, ◌&&◌, ◌||◌, Some, None, Option, ◌==◌}
use Rattle.std.specs.Option.{option_map}
use Rattle.pending.specs.declared.version.Version.{Version}
use Rattle.pending.specs.declared.messages.Pending.{Pending}
use Rattle.pending.specs.declared.control.Control.{Control}
use Rattle.pending.specs.declared.control.Control.TheVariants as control
use Rattle.pending.specs.Tables.{member, noted, removed}
use Rattle.pending.specs.Acks.{later, higher, acks_of}

-- by bridge: the acknowledgement that waits, if one does, and whether a link state and a tree wait
pub record Waits : Type 0 where
  pub hello : Bool
  pub link_ack : ℕ → Option Version
  pub tree_ack : ℕ → Option ℕ
  pub link_state : ℕ → Bool
  pub tree : ℕ → Bool

abbrev pub waits : Pending → Waits
waits p = record { hello = p.hello; link_ack = acks_of p.link_acks; tree_ack = acks_of p.tree_acks; link_state = member p.link_states.bits; tree = member p.trees.bits }

abbrev pub nothing : Waits
nothing = record { hello = false; link_ack = λ k. None; tree_ack = λ k. None; link_state = λ k. false; tree = λ k. false }

-- a message, with its bridge by number
pub data Message : Type 0 where
  Hello : Message
  AckLinkState : ℕ → Version → Message
  AckTree : ℕ → ℕ → Message
  LinkState : ℕ → Message
  Tree : ℕ → Message

abbrev pub message_of : Control → Message
message_of control.Hello = Hello
message_of (control.AckLinkState a) = AckLinkState a.bridge.value a.version
message_of (control.AckTree a) = AckTree a.bridge.value a.version
message_of (control.LinkState b) = LinkState b.value
message_of (control.Tree a) = Tree a.value

abbrev pub with_hello : Waits → Waits
with_hello w = record w { hello = true }

abbrev pub with_link_ack : ℕ → Version → Waits → Waits
with_link_ack b v w = record w { link_ack = noted later b v w.link_ack }

abbrev pub with_tree_ack : ℕ → ℕ → Waits → Waits
with_tree_ack a n w = record w { tree_ack = noted higher a n w.tree_ack }

abbrev pub with_link_state : ℕ → Waits → Waits
with_link_state b w = record w { link_state = λ k. (k == b) || w.link_state k }

-- the same of each bridge in a set of bits
abbrev pub with_link_states : ℕ → Waits → Waits
with_link_states bits w = record w { link_state = λ k. member bits k || w.link_state k }

abbrev pub with_tree : ℕ → Waits → Waits
with_tree a w = record w { tree = λ k. (k == a) || w.tree k }

abbrev pub with_trees : ℕ → Waits → Waits
with_trees bits w = record w { tree = λ k. member bits k || w.tree k }

abbrev pub without : Message → Waits → Waits
without Hello w = record w { hello = false }
without (AckLinkState b v) w = record w { link_ack = removed b w.link_ack }
without (AckTree a n) w = record w { tree_ack = removed a w.tree_ack }
without (LinkState b) w = record w { link_state = λ k. not (k == b) && w.link_state k }
without (Tree a) w = record w { tree = λ k. not (k == a) && w.tree k }

-- the first of two, if it is there, else the second
abbrev pub or_else : Option Message → Option Message → Option Message
or_else None y = y
or_else (Some x) y = Some x

-- what f gives for the lowest bridge for which it gives anything, from k on among n
unfoldable pub lowest : (ℕ → Option Message) → ℕ → ℕ → Option Message
lowest f k zero = None
lowest f k (suc n) = or_else (f k) (lowest f (k + 1) n)

-- the message of each kind for a bridge, if one waits
abbrev pub hellos : Waits → Option Message
hellos w = cond w.hello (Some Hello) None

abbrev pub link_acks_for : Waits → ℕ → Option Message
link_acks_for w k = option_map (AckLinkState k) (w.link_ack k)

abbrev pub tree_acks_for : Waits → ℕ → Option Message
tree_acks_for w k = option_map (AckTree k) (w.tree_ack k)

abbrev pub link_states_for : Waits → ℕ → Option Message
link_states_for w k = cond (w.link_state k) (Some (LinkState k)) None

abbrev pub trees_for : Waits → ℕ → Option Message
trees_for w k = cond (w.tree k) (Some (Tree k)) None

-- a hello first, then acknowledgements of link states and of trees, then link states, then trees; of each kind the lowest bridge first
abbrev pub next_of : Waits → Option Message
next_of w = or_else (hellos w) (or_else (lowest (link_acks_for w) 0 128) (or_else (lowest (tree_acks_for w) 0 128) (or_else (lowest (link_states_for w) 0 128) (lowest (trees_for w) 0 128))))

abbrev pub taken : Option Message → Waits → Waits
taken None w = w
taken (Some m) w = without m w

abbrev pub after_next : Waits → Waits
after_next w = taken (next_of w) w
