-- What leaves next: the lowest bridge for which anything waits, and the first kind of which anything waits.
use Rattle.std.proofs.Common.{◌≡◌, ℕ, zero, suc, ◌+◌, ◌<◌, ◌≤◌, true, false, cond, Some, None, Option, sym, refl, ap, ◌∙◌, arith}
use native.Mathlib.Decide.{ℕ_discrete, dec_lt}
use Rattle.std.proofs.lemmas.Bool.Decides.{nat_tests}
use Rattle.std.specs.Option.{option_map}
use Rattle.std.specs.Option.{MatchOption, IsSomeAnd}
use Rattle.sets.specs.Sets.{has, MembersAre}
use Rattle.sets.specs.declared.bridge_id.BridgeId.{BridgeId}
use Rattle.pending.specs.declared.control.Control.{Control}
use Rattle.pending.specs.declared.control.Control.TheVariants as control
use Rattle.pending.specs.Tables.{member, First}
use Rattle.pending.specs.Waits.{Waits, Message, message_of, Tree, lowest, link_acks_for, tree_acks_for, link_states_for, trees_for, next_of}

from : (f : ℕ → Option Message) (k n b : ℕ) (m : Message) → k ≤ b → b < k + n → f b ≡ Some m → ((j : ℕ) → j < b → f j ≡ None) → lowest f k n ≡ Some m
unfolding lowest
from f k zero b m low high here below = absurd (omega arith)
from f k (suc n) b m low high here below =
    elim (ℕ_discrete k b) [ yes e ↦ rw (ap f e ∙ here) refl | no ne ↦ rw (below k (omega arith)) (from f (k + 1) n b m (omega arith) (omega arith) here below) ]

none_from : (f : ℕ → Option Message) (k n : ℕ) → ((j : ℕ) → f j ≡ None) → lowest f k n ≡ None
unfolding lowest
none_from f k zero no_one = refl
none_from f k (suc n) no_one = rw (no_one k) (none_from f (k + 1) n no_one)

pub table_first : {X : Type 0} (mk : ℕ → X → Message) (t : ℕ → Option X) (b : ℕ) (x : X) → b < 128 → First t b x → lowest (λ k. option_map (mk k) (t k)) 0 128 ≡ Some (mk b x)
table_first mk t b x lt is = from (λ k. option_map (mk k) (t k)) 0 128 b (mk b x) (omega arith) (omega arith) (ap (option_map (mk b)) is.0) (λ j h. ap (option_map (mk j)) (is.1 j h))

pub table_none : {X : Type 0} (mk : ℕ → X → Message) (t : ℕ → Option X) → ((k : ℕ) → t k ≡ None) → lowest (λ k. option_map (mk k) (t k)) 0 128 ≡ None
table_none mk t is = none_from (λ k. option_map (mk k) (t k)) 0 128 (λ j. ap (option_map (mk j)) (is j))

pub set_first : (mk : ℕ → Message) (bits b : ℕ) → b < 128 → has bits b ≡ true → ((k : ℕ) → k < b → has bits k ≡ false) → lowest (λ k. cond (member bits k) (Some (mk k)) None) 0 128 ≡ Some (mk b)
set_first mk bits b lt here below = from (λ k. cond (member bits k) (Some (mk k)) None) 0 128 b (mk b) (omega arith) (omega arith) (grind (arith, nat_tests, lt, here)) (λ j h. grind (arith, nat_tests, below j h))

pub set_none : (mk : ℕ → Message) (bits : ℕ) → ((k : ℕ) → k < 128 → has bits k ≡ false) → lowest (λ k. cond (member bits k) (Some (mk k)) None) 0 128 ≡ None
set_none mk bits is = none_from (λ k. cond (member bits k) (Some (mk k)) None) 0 128 (λ j. elim (dec_lt j 128) [ yes h ↦ grind (arith, nat_tests, is j h) | no h ↦ grind (arith, nat_tests, h) ])

-- the tree that leaves, if one does
pub tree_first : (bits : ℕ) (s : Option BridgeId) (m : Option Control) → MatchOption s (MembersAre bits (λ _. false)) (λ b. (has bits b.value ≡ true) × ((k : ℕ) → k < b.value → has bits k ≡ false))
    → MatchOption s (m ≡ None) (λ b. IsSomeAnd m (λ c. c ≡ control.Tree b)) → lowest (λ k. cond (member bits k) (Some (Tree k)) None) 0 128 ≡ option_map message_of m
tree_first bits None m none is = set_none Tree bits none ∙ ap (option_map message_of) (sym is)
tree_first bits (Some b) None first is = absurd is
tree_first bits (Some b) (Some c) first is = set_first Tree bits b.value b.ok first.0 first.1 ∙ ap (λ d. Some (message_of d)) (sym is)

-- a kind of message leaves only where those before it have nothing
pub second : (w : Waits) (m : Message) → w.hello ≡ false → lowest (link_acks_for w) 0 128 ≡ Some m → Some m ≡ next_of w
second w m p q = rw (p, q) refl

pub third : (w : Waits) (m : Message) → w.hello ≡ false → lowest (link_acks_for w) 0 128 ≡ None → lowest (tree_acks_for w) 0 128 ≡ Some m → Some m ≡ next_of w
third w m p q r = rw (p, q, r) refl

pub fourth : (w : Waits) (m : Message) → w.hello ≡ false → lowest (link_acks_for w) 0 128 ≡ None → lowest (tree_acks_for w) 0 128 ≡ None → lowest (link_states_for w) 0 128 ≡ Some m → Some m ≡ next_of w
fourth w m p q r s = rw (p, q, r, s) refl

pub fifth : (w : Waits) (x : Option Message) → w.hello ≡ false → lowest (link_acks_for w) 0 128 ≡ None → lowest (tree_acks_for w) 0 128 ≡ None → lowest (link_states_for w) 0 128 ≡ None → lowest (trees_for w) 0 128 ≡ x → x ≡ next_of w
fifth w x p q r s t = rw (p, q, r, s, t) refl
