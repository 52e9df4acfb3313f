-- Frames between bridges, there and back.
use Rattle.std.proofs.Common.{◌≡◌, ℕ, ◌+◌, ◌-◌, ◌^◌, ◌<◌, ◌≤◌, true, cond, ◌&&◌, eqb, leb, List, ◌∷◌, ◌++◌, length, get_or, take, drop, Some, None, Option, sym, refl, ap, ◌∙◌, subst, arith, length-append, lt-ltb, eqb-true, le-leb, leb-true}
use Rattle.crc.specs.Burst.{Bytes}
use Rattle.sets.proofs.Members.{same_id}
use Rattle.wire.specs.declared.fault.Fault.{Fault}
use Rattle.wire.specs.declared.fault.Fault.TheVariants.{Malformed, NotThere}
use Rattle.std.proofs.lemmas.List.{take-append-le, take_all, length-take}
use Rattle.crc.specs.Crc.{crc_of}
use Rattle.frames.specs.declared.forwarded.Header.{Header}
use Rattle.wire.specs.Bytes.{two, in_two, in_four, summed, with_sum}
use Rattle.frames.specs.StationFrames.{station_fault}
use Rattle.frames.specs.ForwardedFrames.{header_there, HeaderSays, header_fault, frame_in, or_else, forwarded_fault, header_bytes, forwarded_bytes}
use Rattle.wire_laws.specs.RoundTrips.{RoundTrip, Framed, FramedFits, FramedSays, framed_bytes}
use Rattle.wire_laws.proofs.Numbers.{two_back, three_back, four-back, in-two-at, front, take-front, take_split}
use Rattle.wire_laws.proofs.TreeNumbers.{one_id, id_bytes}
use Rattle.wire_laws.proofs.Whole.{and_both, and_first, and_second, sum_fits, summed-is, body_of, whole_of, then_of}

says_header : (h : Header) (f : List ℕ) → h.tree.seq < 2 ^ 32 → h.vlan ≤ 4094 → HeaderSays (forwarded_bytes h f) h
says_header h f s v = record {
  by = refl;
  next = refl;
  tree = record { seq = sym (four-back h.tree.seq s); announcer = refl; nonce = sym (three_back h.tree.nonce h.tree.three_bytes) };
  vlan = sym (two_back h.vlan (omega arith));
}

length-frame : (h : Header) (f : List ℕ) → length (forwarded_bytes h f) ≡ length f + 17
length-frame h f = length-append (header_bytes h ++ f) (in_four (crc_of (header_bytes h ++ f))) ∙ (let e = length-append (header_bytes h) f in omega arith)

frame_back : (h : Header) (f : List ℕ) → frame_in (forwarded_bytes h f) ≡ f
frame_back h f =
    let n : length (forwarded_bytes h f) - 17 ≡ length f = omega (arith, length-frame h f) in
    let s = in_four (crc_of (header_bytes h ++ f)) in
    ap (λ k. take k (f ++ s)) n ∙ take-append-le (length f) f s (omega arith) ∙ take_all (length f) f (omega arith)

there : (h : Header) (f : List ℕ) → 1 ≤ h.vlan → h.vlan ≤ 4094 → header_there (forwarded_bytes h f) ≡ true
there h f l u =
    let e : two (forwarded_bytes h f) 11 ≡ h.vlan = two_back h.vlan (omega arith) in
    and_both _ _ (lt-ltb h.by.value 128 h.by.ok)
    (and_both _ _ (lt-ltb h.next.value 128 h.next.ok)
    (and_both _ _ (lt-ltb h.tree.announcer.value 128 h.tree.announcer.ok)
    (and_both _ _ (le-leb 1 (two (forwarded_bytes h f) 11) (subst (λ n. 1 ≤ n) (sym e) l)) (le-leb (two (forwarded_bytes h f) 11) 4094 (subst (λ n. n ≤ 4094) (sym e) u)))))

comes_back : (m : Framed) → FramedFits m → (forwarded_fault (framed_bytes m) ≡ None) × FramedSays (framed_bytes m) m
comes_back (h, f) (s, l, u, g) =
    let b = forwarded_bytes h f in
    let w : (eqb (get_or b 0 0) 1 && summed b) ≡ true = sum_fits (header_bytes h ++ f) in
    let k : leb 13 (length b) ≡ true = le-leb 13 (length b) (omega (arith, length-frame h f)) in (
      (λ i. cond (w i) (or_else (station_fault (frame_back h f i)) (header_fault b)) (Some Malformed))
          ∙ ap (λ x. or_else x (header_fault b)) g ∙ (λ i. cond (k i) (cond (there h f l u i) None (Some NotThere)) (Some Malformed)),
      (says_header h f s u, sym (frame_back h f)),
    )

-- the frame inside was not refused
inside : (x y : Option Fault) → or_else x y ≡ None → x ≡ None
inside None y e = refl
inside (Some f) y e = e

-- a frame that is not refused has at least 14 bytes
frame_long : (b : List ℕ) → station_fault b ≡ None → 14 ≤ length b
frame_long b e = let t = whole_of (leb 14 (length b) && leb (length b) 1512) _ _ e in leb-true 14 (length b) (and_first (leb 14 (length b)) (leb (length b) 1512) t)

frame_whole : (b : List ℕ) → 14 ≤ length (frame_in b) → 31 ≤ length b
frame_whole b h = omega (arith, length-take (length b - 17) (drop 13 b))

same_bytes : (b : List ℕ) (m : Framed) → Bytes b → forwarded_fault b ≡ None → FramedSays b m → framed_bytes m ≡ b
same_bytes b (h, f) ok e (s, g) =
    let w = whole_of (eqb (get_or b 0 0) 1 && summed b) _ _ e in
    let k : get_or b 0 0 ≡ 1 = eqb-true (get_or b 0 0) 1 (and_first (eqb (get_or b 0 0) 1) (summed b) w) in
    let sum : summed b ≡ true = and_second (eqb (get_or b 0 0) 1) (summed b) w in
    let i = frame_long (frame_in b) (inside (station_fault (frame_in b)) (header_fault b) (then_of (eqb (get_or b 0 0) 1 && summed b) _ _ e)) in
    let n : 31 ≤ length b = frame_whole b i in
    let head : header_bytes h ≡ front 0 13 b =
    (λ j. sym k j ∷ s.by j ∷ s.next j ∷ (id_bytes b 3 h.tree ok s.tree j ++ in_two (s.vlan j)))
    ∙ (λ j. get_or b 0 0 ∷ get_or b 1 0 ∷ get_or b 2 0 ∷ (front 3 8 b ++ in-two-at b 11 ok j)) in
    let t : length b - 4 ≡ 13 + (length b - 17) = omega arith in
    let body : header_bytes h ++ f ≡ body_of b =
    (λ j. head j ++ g j) ∙ ap (λ r. r ++ frame_in b) (sym (take-front 13 0 b (omega arith)))
    ∙ sym (ap (λ m. take m b) t ∙ take_split 13 (length b - 17) b (omega arith)) in
    ap with_sum body ∙ sym (summed-is b ok sum)

one_message : (b : List ℕ) (m n : Framed) → FramedSays b m → FramedSays b n → m ≡ n
one_message b (h, f) (k, g) (p, q) (r, t) =
    let a = same_id h.by k.by (p.by ∙ sym r.by) in
    let c = same_id h.next k.next (p.next ∙ sym r.next) in
    let d = one_id b 3 h.tree k.tree p.tree r.tree in
    let v = p.vlan ∙ sym r.vlan in
    let e = q ∙ sym t in
    λ i. (record { by = a i; next = c i; tree = d i; vlan = v i }, e i)

pub frames : RoundTrip Framed FramedFits forwarded_fault FramedSays framed_bytes
frames = record {
  comes_back = comes_back;
  same_bytes = same_bytes;
  different = λ m n h k e. one_message (framed_bytes m) m n (comes_back m h).1 (subst (λ b. FramedSays b n) (sym e) (comes_back n k).1);
}
