-- A link state: 3, bridge (1), incarnation (4), count (6), neighbours (16, a bit for each bridge), sum (4).
use Rattle.std.specs.Prelude.{◌≡◌, ℕ, cond, List, ◌∷◌, ◌++◌, take, drop, Some, None, Option, Result, MatchResult, nat_lt, slice_index}
use Rattle.sets.specs.Sets.{bytes_of, number_of}
use Rattle.wire.specs.declared.fault.Fault.{Fault}
use Rattle.wire.specs.declared.fault.Fault.TheVariants.{Malformed, NotThere}
use Rattle.messages.specs.declared.link_state.LinkState.{LinkState}
use Rattle.wire.specs.Bytes.{four, six, in_four, in_six, whole, with_sum}

-- why it is refused
abbrev pub link_state_fault : List ℕ → Option Fault
link_state_fault b = cond (whole 3 32 b) (cond (nat_lt (slice_index b 1) 128) None (Some NotThere)) (Some Malformed)

-- what it says
pub record LinkStateSays (b : List ℕ) (m : LinkState) : Type 0 where
  pub bridge : m.bridge.value ≡ slice_index b 1
  pub incarnation : m.incarnation ≡ four b 2
  pub count : m.count.value ≡ six b 6
  pub neighbours : m.neighbours.bits ≡ number_of (take 16 (drop 12 b))

abbrev pub DecodesLinkState : List ℕ → Result LinkState Fault → Type 0
DecodesLinkState b r = MatchResult r (λ m. (link_state_fault b ≡ None) × LinkStateSays b m) (λ e. link_state_fault b ≡ Some e)

abbrev pub link_state_head : LinkState → List ℕ
link_state_head m = 3 ∷ m.bridge.value ∷ (in_four m.incarnation ++ in_six m.count.value)

abbrev pub link_state_bytes : LinkState → List ℕ
link_state_bytes m = with_sum (link_state_head m ++ bytes_of m.neighbours.bits)
