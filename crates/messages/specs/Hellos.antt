-- A hello: 2, bridge (1), incarnation (4), heard (4), sum (4).
use Rattle.std.specs.Prelude.{◌≡◌, ℕ, cond, List, ◌∷◌, ◌++◌, Some, None, Option, Result, MatchResult, nat_lt, slice_index}
use Rattle.wire.specs.declared.fault.Fault.{Fault}
use Rattle.wire.specs.declared.fault.Fault.TheVariants.{Malformed, NotThere}
use Rattle.messages.specs.declared.hello.Hello.{Hello}
use Rattle.wire.specs.Bytes.{four, in_four, whole, with_sum}

-- why it is refused
abbrev pub hello_fault : List ℕ → Option Fault
hello_fault b = cond (whole 2 14 b) (cond (nat_lt (slice_index b 1) 128) None (Some NotThere)) (Some Malformed)

-- what it says
pub record HelloSays (b : List ℕ) (m : Hello) : Type 0 where
  pub bridge : m.bridge.value ≡ slice_index b 1
  pub incarnation : m.incarnation ≡ four b 2
  pub heard : m.heard ≡ four b 6

abbrev pub DecodesHello : List ℕ → Result Hello Fault → Type 0
DecodesHello b r = MatchResult r (λ m. (hello_fault b ≡ None) × HelloSays b m) (λ e. hello_fault b ≡ Some e)

abbrev pub hello_bytes : Hello → List ℕ
hello_bytes m = with_sum (2 ∷ m.bridge.value ∷ (in_four m.incarnation ++ in_four m.heard))
