-- Link states, there and back.
use Rattle.std.proofs.Common.{◌≡◌, ℕ, zero, suc, ◌^◌, ◌<◌, true, cond, List, ◌∷◌, ◌++◌, length, get_or, take, drop, Some, None, sym, refl, ap, ◌∙◌, subst, arith, lt-ltb}
use Rattle.crc.specs.Burst.{Bytes}
use Rattle.sets.proofs.Members.{same_id}
use Rattle.wire.specs.declared.fault.Fault.TheVariants.{Malformed, NotThere}
use native.Mathlib.Bridge.{le_prop}
use Rattle.sets.specs.Sets.{bytes_of, number_of, Bytes16}
use Rattle.sets.proofs.InBytes.{number_back, bytes_back}
use Rattle.wire.specs.declared.count.Count.{Count}
use Rattle.messages.specs.declared.link_state.LinkState.{LinkState}
use Rattle.wire.specs.Bytes.{in_four, in_six, whole, with_sum}
use Rattle.messages.specs.LinkStates.{link_state_fault, LinkStateSays, link_state_head, link_state_bytes}
use Rattle.wire_laws.specs.RoundTrips.{RoundTrip, LinkStateFits}
use Rattle.wire_laws.proofs.Numbers.{byte_at, four-back, six-back, in-four-at, in-six-at, front, take-front}
use Rattle.wire_laws.proofs.Whole.{is_whole, whole-bytes, whole_is, whole_of}

-- a count is its value
pub same_count : (a b : Count) → a.value ≡ b.value → a ≡ b
same_count a b e = along b.value e b.six_bytes
  where
    along : (w : ℕ) → a.value ≡ w → (l : w < 2 ^ 48) → a ≡ record { value = w; six_bytes = l }
    along w p = subst (λ v. (l : v < 2 ^ 48) → a ≡ record { value = v; six_bytes = l }) p (λ l. ap (λ q. record { value = a.value; six_bytes = q }) (le_prop a.six_bytes l))

says : (m : LinkState) → LinkStateFits m → LinkStateSays (link_state_bytes m) m
unfolding bytes_of
says m h = record {
  bridge = refl;
  incarnation = sym (four-back m.incarnation h.0);
  count = sym (six-back m.count.value m.count.six_bytes);
  neighbours = sym (number_back m.neighbours.bits h.1);
}

pub comes_back : (m : LinkState) → LinkStateFits m → (link_state_fault (link_state_bytes m) ≡ None) × LinkStateSays (link_state_bytes m) m
unfolding bytes_of
comes_back m h =
    let w : whole 3 32 (link_state_bytes m) ≡ true = is_whole 3 32 (link_state_head m ++ bytes_of m.neighbours.bits) refl refl in
    ((λ i. cond (w i) (cond (lt-ltb m.bridge.value 128 m.bridge.ok i) None (Some NotThere)) (Some Malformed)), says m h)

-- 16 bytes of a longer string
sixteen : (b : List ℕ) → Bytes b → length b ≡ 32 → Bytes16 (front 12 16 b)
sixteen b h l = record { many = refl; small = each } where
  each : (i : ℕ) → i < 16 → get_or (front 12 16 b) i 0 < 256
  each i s = all 12 16 i where
    all : (j n k : ℕ) → get_or (front j n b) k 0 < 256
    all j zero k = omega arith
    all j (suc n) zero = byte_at b j h
    all j (suc n) (suc k) = all (suc j) n k

pub same_bytes : (b : List ℕ) (m : LinkState) → Bytes b → link_state_fault b ≡ None → LinkStateSays b m → link_state_bytes m ≡ b
same_bytes b m h e s =
    let w : whole 3 32 b ≡ true = whole_of (whole 3 32 b) _ _ e in
    let l : length b ≡ 32 = (whole_is 3 32 b w).0 in
    let k : get_or b 0 0 ≡ 3 = (whole_is 3 32 b w).1 in
    let t : take 16 (drop 12 b) ≡ front 12 16 b = take-front 16 12 b (omega arith) in
    let n : bytes_of m.neighbours.bits ≡ front 12 16 b = ap bytes_of (s.neighbours ∙ ap number_of t) ∙ bytes_back (front 12 16 b) (sixteen b h l) in
    (λ i. with_sum ((3 ∷ s.bridge i ∷ (in_four (s.incarnation i) ++ in_six (s.count i))) ++ n i))
    ∙ (λ i. with_sum ((sym k i ∷ get_or b 1 0 ∷ (in-four-at b 2 h i ++ in-six-at b 6 h i)) ++ front 12 16 b)) ∙ whole-bytes 3 28 b h w

pub one_message : (b : List ℕ) (m n : LinkState) → LinkStateSays b m → LinkStateSays b n → m ≡ n
one_message b m n p q =
    let e = same_id m.bridge n.bridge (p.bridge ∙ sym q.bridge) in
    let f = p.incarnation ∙ sym q.incarnation in
    let g = same_count m.count n.count (p.count ∙ sym q.count) in
    let s : m.neighbours.bits ≡ n.neighbours.bits = p.neighbours ∙ sym q.neighbours in
    λ i. record { bridge = e i; incarnation = f i; count = g i; neighbours = record { bits = s i } }

pub link_states : RoundTrip LinkState LinkStateFits link_state_fault LinkStateSays link_state_bytes
link_states = record {
  comes_back = comes_back;
  same_bytes = same_bytes;
  different = λ m n h k e. one_message (link_state_bytes m) m n (says m h) (subst (λ b. LinkStateSays b n) (sym e) (says n k));
}
