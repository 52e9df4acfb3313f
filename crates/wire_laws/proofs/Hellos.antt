-- Hellos, there and back.
use Rattle.std.proofs.Common.{◌≡◌, ℕ, true, cond, List, ◌∷◌, ◌++◌, get_or, Some, None, sym, refl, ◌∙◌, subst, lt-ltb}
use Rattle.crc.specs.Burst.{Bytes}
use Rattle.sets.proofs.Members.{same_id}
use Rattle.wire.specs.declared.fault.Fault.TheVariants.{Malformed, NotThere}
use Rattle.messages.specs.declared.hello.Hello.{Hello}
use Rattle.wire.specs.Bytes.{in_four, whole, with_sum}
use Rattle.messages.specs.Hellos.{hello_fault, HelloSays, hello_bytes}
use Rattle.wire_laws.specs.RoundTrips.{RoundTrip, HelloFits}
use Rattle.wire_laws.proofs.Numbers.{four-back, in-four-at}
use Rattle.wire_laws.proofs.Whole.{is_whole, whole-bytes, whole_is, whole_of}

says : (m : Hello) → HelloFits m → HelloSays (hello_bytes m) m
says m h = record { bridge = refl; incarnation = sym (four-back m.incarnation h.0); heard = sym (four-back m.heard h.1) }

pub comes_back : (m : Hello) → HelloFits m → (hello_fault (hello_bytes m) ≡ None) × HelloSays (hello_bytes m) m
comes_back m h =
    let body = 2 ∷ m.bridge.value ∷ (in_four m.incarnation ++ in_four m.heard) in
    let w : whole 2 14 (hello_bytes m) ≡ true = is_whole 2 14 body refl refl in
    ((λ i. cond (w i) (cond (lt-ltb m.bridge.value 128 m.bridge.ok i) None (Some NotThere)) (Some Malformed)), says m h)

pub same_bytes : (b : List ℕ) (m : Hello) → Bytes b → hello_fault b ≡ None → HelloSays b m → hello_bytes m ≡ b
same_bytes b m h e s =
    let w : whole 2 14 b ≡ true = whole_of (whole 2 14 b) _ _ e in
    let k : get_or b 0 0 ≡ 2 = (whole_is 2 14 b w).1 in
    (λ i. with_sum (2 ∷ s.bridge i ∷ (in_four (s.incarnation i) ++ in_four (s.heard i))))
    ∙ (λ i. with_sum (sym k i ∷ get_or b 1 0 ∷ (in-four-at b 2 h i ++ in-four-at b 6 h i))) ∙ whole-bytes 2 10 b h w

pub one_message : (b : List ℕ) (m n : Hello) → HelloSays b m → HelloSays b n → m ≡ n
one_message b m n p q =
    let e = same_id m.bridge n.bridge (p.bridge ∙ sym q.bridge) in
    let f = p.incarnation ∙ sym q.incarnation in
    let g = p.heard ∙ sym q.heard in
    λ i. record { bridge = e i; incarnation = f i; heard = g i }

pub hellos : RoundTrip Hello HelloFits hello_fault HelloSays hello_bytes
hellos = record {
  comes_back = comes_back;
  same_bytes = same_bytes;
  different = λ m n h k e. one_message (hello_bytes m) m n (says m h) (subst (λ b. HelloSays b n) (sym e) (says n k));
}
