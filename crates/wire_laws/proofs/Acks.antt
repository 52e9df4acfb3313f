-- Acknowledgements, there and back.
use Rattle.std.proofs.Common.{◌≡◌, ℕ, ◌^◌, ◌<◌, Bool, true, false, cond, eqb, List, [], ◌∷◌, ◌++◌, get_or, Some, None, sym, refl, ap, ◌∙◌, subst, arith, lt-ltb, eqb-true}
use Rattle.crc.specs.Burst.{Bytes}
use Rattle.sets.proofs.Members.{same_id}
use Rattle.wire.specs.declared.fault.Fault.TheVariants.{Malformed, NotThere}
use Rattle.messages.specs.declared.ack.Ack.{Ack}
use Rattle.messages.specs.declared.ack.Acked.{Acked}
use Rattle.messages.specs.declared.ack.Acked.TheVariants as acked
use Rattle.wire.specs.Bytes.{four, in_four, in_six, whole, with_sum}
use Rattle.wire.specs.TreeIds.{tree_id_bytes}
use Rattle.messages.specs.Acks.{ack_kind, ack_fault, link_state_ack_fault, tree_ack_fault, AckSays, AckedSays, ack_head, acked_link_state, ack_bytes}
use Rattle.wire_laws.specs.RoundTrips.{RoundTrip, AckFits, AckedFits}
use Rattle.wire_laws.proofs.LinkStates.{same_count}
use Rattle.wire_laws.proofs.Numbers.{three_back, four-back, six-back, in-four-at, in-six-at, front}
use Rattle.wire_laws.proofs.TreeNumbers.{one_id, id_bytes}
use Rattle.wire_laws.proofs.Whole.{is_whole, whole-bytes, whole_is, whole_of}

says_acked : (inc : ℕ) (k : Acked) → AckedFits k → AckedSays (ack_bytes record { incarnation = inc; acked = k }) k
says_acked inc (acked.LinkState bridge of count) h = (refl, refl, sym (four-back of h), sym (six-back count.value count.six_bytes))
says_acked inc (acked.Tree t) h = (refl, record { seq = sym (four-back t.seq h); announcer = refl; nonce = sym (three_back t.nonce t.three_bytes) })

says_start : (inc : ℕ) (k : Acked) → inc < 2 ^ 32 → inc ≡ four (ack_bytes record { incarnation = inc; acked = k }) 1
says_start inc (acked.LinkState bridge of count) h = sym (four-back inc h)
says_start inc (acked.Tree t) h = sym (four-back inc h)

says : (m : Ack) → AckFits m → AckSays (ack_bytes m) m
says m h = record { incarnation = says_start m.incarnation m.acked h.0; acked = says_acked m.incarnation m.acked h.1 }

not_refused : (inc : ℕ) (k : Acked) → ack_fault (ack_bytes record { incarnation = inc; acked = k }) ≡ None
not_refused inc (acked.LinkState bridge of count) =
    let w : whole 5 21 (ack_bytes record { incarnation = inc; acked = acked.LinkState bridge of count }) ≡ true =
    is_whole 5 21 (ack_head inc 3 ++ acked_link_state bridge of count) refl refl in
    λ i. cond (w i) (cond (lt-ltb bridge.value 128 bridge.ok i) None (Some NotThere)) (cond (whole 5 18 (ack_bytes record { incarnation = inc; acked = acked.LinkState bridge of count })) (Some Malformed) (Some Malformed))
not_refused inc (acked.Tree t) =
    let w : whole 5 18 (ack_bytes record { incarnation = inc; acked = acked.Tree t }) ≡ true =
    is_whole 5 18 (ack_head inc 4 ++ tree_id_bytes t) refl refl in
    λ i. cond (w i) (cond (lt-ltb t.announcer.value 128 t.announcer.ok i) None (Some NotThere)) (Some Malformed)

-- which of the two lengths it has
length_by_kind : (b : List ℕ) (t u : Bool) → cond t (link_state_ack_fault b) (cond u (tree_ack_fault b) (Some Malformed)) ≡ None
    → (ack_kind b ≡ 3 → t ≡ true) × (ack_kind b ≡ 4 → u ≡ true)
length_by_kind b true u e =
    let k : ack_kind b ≡ 3 = eqb-true (ack_kind b) 3 (whole_of (eqb (ack_kind b) 3) _ _ e) in
    (λ _. refl, λ l. absurd (omega (arith, sym k ∙ l)))
length_by_kind b false true e =
    let k : ack_kind b ≡ 4 = eqb-true (ack_kind b) 4 (whole_of (eqb (ack_kind b) 4) _ _ e) in
    (λ l. absurd (omega (arith, sym k ∙ l)), λ _. refl)
length_by_kind b false false e = absurd (let z : ◌≡◌ {A = ℕ} 0 1 = cc in omega arith)

same_acked : (b : List ℕ) (inc : ℕ) (k : Acked) → Bytes b → ack_fault b ≡ None → inc ≡ four b 1 → AckedSays b k
    → ack_bytes record { incarnation = inc; acked = k } ≡ b
same_acked b inc (acked.LinkState bridge of count) h e s (k, p, q, r) =
    let w : whole 5 21 b ≡ true = (length_by_kind b (whole 5 21 b) (whole 5 18 b) e).0 k in
    let n : get_or b 0 0 ≡ 5 = (whole_is 5 21 b w).1 in
    (λ i. with_sum ((5 ∷ (in_four (s i) ++ (sym k i ∷ []))) ++ (p i ∷ (in_four (q i) ++ in_six (r i)))))
    ∙ (λ i. with_sum ((sym n i ∷ (in-four-at b 1 h i ++ (get_or b 5 0 ∷ []))) ++ (get_or b 6 0 ∷ (in-four-at b 7 h i ++ in-six-at b 11 h i))))
    ∙ whole-bytes 5 17 b h w
same_acked b inc (acked.Tree t) h e s (k, p) =
    let w : whole 5 18 b ≡ true = (length_by_kind b (whole 5 21 b) (whole 5 18 b) e).1 k in
    let n : get_or b 0 0 ≡ 5 = (whole_is 5 18 b w).1 in
    (λ i. with_sum ((5 ∷ (in_four (s i) ++ (sym k i ∷ []))) ++ id_bytes b 6 t h p i))
    ∙ (λ i. with_sum ((sym n i ∷ (in-four-at b 1 h i ++ (get_or b 5 0 ∷ []))) ++ front 6 8 b)) ∙ whole-bytes 5 14 b h w

one_acked : (b : List ℕ) (k l : Acked) → AckedSays b k → AckedSays b l → k ≡ l
one_acked b (acked.LinkState a x c) (acked.LinkState d y f) (k, p, q, r) (l, s, t, u) =
    let e = same_id a d (p ∙ sym s) in
    let g = q ∙ sym t in
    let v = same_count c f (r ∙ sym u) in
    λ i. acked.LinkState (e i) (g i) (v i)
one_acked b (acked.LinkState a x c) (acked.Tree t) (k, p, q, r) (l, s) = absurd (omega (arith, sym k ∙ l))
one_acked b (acked.Tree t) (acked.LinkState a x c) (l, s) (k, p, q, r) = absurd (omega (arith, sym k ∙ l))
one_acked b (acked.Tree t) (acked.Tree u) (k, p) (l, q) = ap acked.Tree (one_id b 6 t u p q)

pub one_message : (b : List ℕ) (m n : Ack) → AckSays b m → AckSays b n → m ≡ n
one_message b m n p q =
    let f = p.incarnation ∙ sym q.incarnation in
    let g = one_acked b m.acked n.acked p.acked q.acked in
    λ i. record { incarnation = f i; acked = g i }

pub acks : RoundTrip Ack AckFits ack_fault AckSays ack_bytes
acks = record {
  comes_back = λ m h. (not_refused m.incarnation m.acked, says m h);
  same_bytes = λ b m h e s. same_acked b m.incarnation m.acked h e s.incarnation s.acked;
  different = λ m n h k e. one_message (ack_bytes m) m n (says m h) (subst (λ b. AckSays b n) (sym e) (says n k));
}
