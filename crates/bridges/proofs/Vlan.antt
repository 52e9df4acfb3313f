-- Who gets a frame is of its sender's VLAN and isn't its sender, and each frame has one sender. Assumes nothing.
use Rattle.std.proofs.Common.{◌≡◌, ℕ, suc, ◌<◌, ◌≤◌, Bool, true, false, cond, not, ◌&&◌, ◌||◌, eqb, ltb, ◌⊎◌, List, [], ◌∷◌, sym, refl, ◌∙◌, subst, inl, inr, arith}
use mathlib.Core.List.Memᴰ
use mathlib.Core.List.{Memᴰ}
use Rattle.std.proofs.lemmas.Bool.Decides.{nat_tests}
use Rattle.std.proofs.lemmas.Bool.{cond_both, or_right, eqb-true}
use Rattle.trees.specs.Tree.{Tree}
use Rattle.bridges.specs.Net.{Frame, Copy, Where, Unknown, Here, Behind, Got, Rules, World, toward, knows, without, with_copies, send_by}
use Rattle.bridges.specs.Fabric.{Event, Send, Arrive, Lose, Believe, Announce, Adopt, Move, Forget, Crash, Turn, goes_by, may_hand, handed, forward, happen, run}
use Rattle.bridges.specs.Guarantee.{some, makes, sent_by}
use Rattle.bridges.proofs.Changes.{pick_mem, without-mem, arrive_by, announce_by, adopt_by, send_by_lem}
use Rattle.bridges.proofs.Keeps.{Onward, toward-mem, handed-mem}

abbrev new_frame : Rules → World → ℕ → ℕ → ℕ → Frame
new_frame r w s d n = record { number = w.next; from = s; to = d; colour = r.colour s; tree = n }

-- what holds of all frames that are under way, and of all that was handed over
module _ (P : Frame → Type 0) (Q : Got → Type 0) where
  pub record CarriedOf (copies : List Copy) (got : List Got) : Type 0 where
    pub frames : (x : Copy) → Memᴰ x copies → P x.frame
    pub given : (g : Got) → Memᴰ g got → Q g

  abbrev pub Carried : World → Type 0
  Carried w = CarriedOf w.copies w.got

  module _ (lax : Bool) (r : Rules) (give : (w : World) (x : Copy) (k : Where) (s : ℕ) → P x.frame → may_hand lax r w x k s ≡ true → Q (record { frame = x.frame.number; station = s; bridge = x.at })) where
    carried_less : (i : ℕ) (w : World) → Carried w → Carried (with_copies (without i w.copies) w)
    carried_less i w c = record { frames = λ x m. c.frames x (without-mem i w.copies m); given = c.given }

    carried_forward : (x : Copy) (t : Tree) (w : World) → P x.frame → Carried w → Carried (forward lax r x t w)
    carried_forward x t w p c = record {
      frames = λ y m. elim (Memᴰ.append_cases (toward t w.up x known r.bridges) m) [ inl m' ↦ same y (toward-mem t w.up x known r.bridges y m') | inr m' ↦ c.frames y m' ];
      given = λ g m. elim (Memᴰ.append_cases (handed lax r w x known r.stations) m) [ inl m' ↦ new g (handed-mem lax r w x known r.stations g m') | inr m' ↦ c.given g m' ];
    }
      where
        known : Where
        known = goes_by lax x (knows w x)

        same : (y : Copy) → Onward t w.up x known r.bridges y → P y.frame
        same y o = subst (λ z. P z.frame) (sym o.is) p

        new : (g : Got) → (s : ℕ) × (g ≡ record { frame = x.frame.number; station = s; bridge = x.at }) × (may_hand lax r w x known s ≡ true) → Q g
        new g h = subst (λ z. Q z) (sym h.1) (give w x known h.0 p h.2)

    pub carried_step : (e : Event) (w : World) →
        ((s d n : ℕ) (ns : List ℕ) → e ≡ Send s d → w.holds (w.home s) ≡ n ∷ ns → (lax || ltb (w.home s) r.bridges) ≡ true → s < r.stations → d < r.stations → P (new_frame r w s d n)) →
        Carried w → Carried (happen lax r e w)
    unfolding send_by
    carried_step (Send s d) w new c = send_by_lem lax r Carried s d w c (λ n ns h l ls ld. record {
      frames = λ x m. elim (Memᴰ.cases_cons m) [ inl q ↦ subst (λ z. P z.frame) (sym q) (new s d n ns refl h l ls ld) | inr m' ↦ c.frames x m' ];
      given = c.given;
    })
    carried_step (Arrive i) w new c = let less = carried_less i w c in arrive_by lax r Carried i w.copies (with_copies (without i w.copies) w) (λ _. less) (λ _ _ _. less)
        (λ x t p _ _. carried_forward x t (with_copies (without i w.copies) w) (c.frames x (pick_mem p)) less)
    carried_step (Lose i) w new c = carried_less i w c
    carried_step (Believe a b k) w new c = c
    carried_step (Announce t) w new c = announce_by lax r Carried t w c (λ _. c)
    carried_step (Adopt b n) w new c = adopt_by lax r Carried b n w c (λ _ _ _. c)
    carried_step (Move s b) w new c = cond_both (not lax || ltb b r.bridges) _ w Carried (λ _. c) (λ _. c)
    carried_step (Forget b n s) w new c = c
    carried_step (Crash b) w new c = c
    carried_step (Turn b n s ok) w new c = c

-- a frame was sent by whom it names, and is of that station's VLAN
abbrev Named : Bool → Rules → List Event → Frame → Type 0
Named lax r es f = (sent_by lax r es f.number f.from f.to ≡ true) × (f.colour ≡ r.colour f.from)

abbrev Rightly : Bool → Rules → List Event → Got → Type 0
Rightly lax r es g = (s : ℕ) × (d : ℕ) × (sent_by lax r es g.frame s d ≡ true) × (r.colour g.station ≡ r.colour s) × (lax ≡ false → g.station ≡ s → ⊥)

sent_stays : (lax : Bool) (r : Rules) (e : Event) (es : List Event) (f s d : ℕ) → sent_by lax r es f s d ≡ true → sent_by lax r (e ∷ es) f s d ≡ true
unfolding sent_by
sent_stays lax r (Send a b) es f s d h = or_right _ _ h
sent_stays lax r (Arrive i) es f s d h = h
sent_stays lax r (Lose i) es f s d h = h
sent_stays lax r (Believe a b c) es f s d h = h
sent_stays lax r (Announce t) es f s d h = h
sent_stays lax r (Adopt b n) es f s d h = h
sent_stays lax r (Move a b) es f s d h = h
sent_stays lax r (Forget b n a) es f s d h = h
sent_stays lax r (Crash b) es f s d h = h
sent_stays lax r (Turn b n a ok) es f s d h = h

-- what a station may be handed
may_colour : (lax : Bool) (r : Rules) (w : World) (x : Copy) (k : Where) (s : ℕ) → may_hand lax r w x k s ≡ true → r.colour s ≡ x.frame.colour
may_colour lax r w x Unknown s h = grind (arith, nat_tests)
may_colour lax r w x Here s h = grind (arith, nat_tests)
may_colour lax r w x (Behind c) s h = grind (arith, nat_tests)

may_other : (lax : Bool) (r : Rules) (w : World) (x : Copy) (k : Where) (s : ℕ) → may_hand lax r w x k s ≡ true → lax ≡ false → s ≡ x.frame.from → ⊥
may_other lax r w x Unknown s h l e = grind (arith, nat_tests)
may_other lax r w x Here s h l e = grind (arith, nat_tests)
may_other lax r w x (Behind c) s h l e = grind (arith, nat_tests)

module _ (lax : Bool) (r : Rules) where
  rightly : (es : List Event) (w : World) (x : Copy) (k : Where) (s : ℕ) → Named lax r es x.frame → may_hand lax r w x k s ≡ true → Rightly lax r es (record { frame = x.frame.number; station = s; bridge = x.at })
  rightly es w x k s p h = (x.frame.from, x.frame.to, p.0, may_colour lax r w x k s h ∙ p.1, may_other lax r w x k s h)

  all_named : (es : List Event) → Carried (Named lax r es) (Rightly lax r es) (run lax r es)
  unfolding run sent_by
  all_named [] = record { frames = λ x m. absurd (Memᴰ.not-nil m); given = λ g m. absurd (Memᴰ.not-nil m) }
  all_named (e ∷ es) = carried_step (Named lax r (e ∷ es)) (Rightly lax r (e ∷ es)) lax r (rightly (e ∷ es)) e (run lax r es) new
      (let c = all_named es in record {
        frames = λ x m. let p = c.frames x m in (sent_stays lax r e es x.frame.number x.frame.from x.frame.to p.0, p.1);
        given = λ g m. let q = c.given g m in (q.0, q.1, sent_stays lax r e es g.frame q.0 q.1 q.2, q.3, q.4);
      })
    where
      w : World
      w = run lax r es

      made : (p : Bool) (a f s d : ℕ) (hs : List ℕ) (n : ℕ) (ns : List ℕ) (o : Bool) → hs ≡ n ∷ ns → p ≡ true → s < a → d < a → (((p && (ltb s a && ltb d a)) && some hs) && (eqb f f && (eqb s s && eqb d d)) || o) ≡ true
      made p a f s d [] n ns o e h ls ld = absurd (grind arith)
      made p a f s d (m ∷ ms) n ns o e h ls ld = grind (arith, nat_tests)

      new : (s d n : ℕ) (ns : List ℕ) → e ≡ Send s d → w.holds (w.home s) ≡ n ∷ ns → (lax || ltb (w.home s) r.bridges) ≡ true → s < r.stations → d < r.stations → Named lax r (e ∷ es) (new_frame r w s d n)
      new s d n ns q h l ls ld = (subst (λ z. sent_by lax r (z ∷ es) w.next s d ≡ true) (sym q) (made (lax || ltb (w.home s) r.bridges) r.stations w.next s d (w.holds (w.home s)) n ns (sent_by lax r es w.next s d) h l ls ld), refl)

pub right_vlan : (lax : Bool) (r : Rules) (es : List Event) (g : Got) → Memᴰ g (run lax r es).got → Rightly lax r es g
right_vlan lax r es g m = (all_named lax r es).given g m

-- frames are numbered one by one
pub next_grows : (lax : Bool) (r : Rules) (e : Event) (w : World) → w.next ≤ (happen lax r e w).next
unfolding send_by
next_grows lax r e w = go e w
  where
    P : ℕ → World → Type 0
    P n v = n ≤ v.next

    same : (n : ℕ) → n ≤ n
    same n = omega arith

    one_up : (n : ℕ) → n ≤ suc n
    one_up n = omega arith

    go : (e : Event) (w : World) → w.next ≤ (happen lax r e w).next
    go (Send s d) w = send_by_lem lax r (P w.next) s d w (same w.next) (λ n ns _ _ _ _. one_up w.next)
    go (Arrive i) w = arrive_by lax r (P w.next) i w.copies (with_copies (without i w.copies) w) (λ _. same w.next) (λ _ _ _. same w.next) (λ _ _ _ _ _. same w.next)
    go (Lose i) w = same w.next
    go (Believe a b c) w = same w.next
    go (Announce t) w = announce_by lax r (P w.next) t w (same w.next) (λ _. same w.next)
    go (Adopt b n) w = adopt_by lax r (P w.next) b n w (same w.next) (λ _ _ _. same w.next)
    go (Move s b) w = cond_both (not lax || ltb b r.bridges) _ w (P w.next) (λ _. same w.next) (λ _. same w.next)
    go (Forget b n s) w = same w.next
    go (Crash b) w = same w.next
    go (Turn b n s ok) w = same w.next

-- a send that makes a frame numbers the next one
pub makes-next : (lax : Bool) (r : Rules) (w : World) (s d : ℕ) → makes lax r w s d ≡ true → (happen lax r (Send s d) w).next ≡ suc w.next
unfolding send_by
makes-next lax r w s d h = go ((lax || ltb (w.home s) r.bridges) && (ltb s r.stations && ltb d r.stations)) (w.holds (w.home s)) h
  where
    go : (p : Bool) (hs : List ℕ) → (p && some hs) ≡ true → (cond p (send_by r s d hs w) w).next ≡ suc w.next
    go true [] h = absurd (grind arith)
    go true (n ∷ ns) h = refl
    go false hs h = absurd (grind arith)

either_sent : (m p q x : Bool) → ((m && (p && q)) || x) ≡ true → ((m ≡ true) × (p ≡ true) × (q ≡ true)) ⊎ (x ≡ true)
either_sent m p q x h = grind arith

module _ (lax : Bool) (r : Rules) where
  -- a frame that was sent has an older number than the next
  pub sent_before : (es : List Event) (f s d : ℕ) → sent_by lax r es f s d ≡ true → f < (run lax r es).next
  unfolding run sent_by
  sent_before [] f s d h = absurd (grind arith)
  sent_before (Send a b ∷ es) f s d h =
      let w = run lax r es in
      elim (either_sent (makes lax r w a b) (eqb w.next f) (eqb a s && eqb b d) (sent_by lax r es f s d) h) [
        | inl q ↦ let n = makes-next lax r w a b q.0 in let e = eqb-true w.next f q.1 in grind (arith, n, e)
        | inr q ↦ let n = next_grows lax r (Send a b) w in let i = sent_before es f s d q in grind (arith, n, i)
      ]
  sent_before (Arrive i ∷ es) f s d h = let n = next_grows lax r (Arrive i) (run lax r es) in let j = sent_before es f s d h in grind (arith, n, j)
  sent_before (Lose i ∷ es) f s d h = sent_before es f s d h
  sent_before (Believe a b c ∷ es) f s d h = sent_before es f s d h
  sent_before (Announce t ∷ es) f s d h = let n = next_grows lax r (Announce t) (run lax r es) in let j = sent_before es f s d h in grind (arith, n, j)
  sent_before (Adopt b m ∷ es) f s d h = let n = next_grows lax r (Adopt b m) (run lax r es) in let j = sent_before es f s d h in grind (arith, n, j)
  sent_before (Move a b ∷ es) f s d h = let n = next_grows lax r (Move a b) (run lax r es) in let j = sent_before es f s d h in grind (arith, n, j)
  sent_before (Forget b m a ∷ es) f s d h = sent_before es f s d h
  sent_before (Crash b ∷ es) f s d h = sent_before es f s d h
  sent_before (Turn b m a ok ∷ es) f s d h = sent_before es f s d h

  pub one_sender : (es : List Event) (f s d s' d' : ℕ) → sent_by lax r es f s d ≡ true → sent_by lax r es f s' d' ≡ true → (s ≡ s') × (d ≡ d')
  unfolding sent_by
  one_sender [] f s d s' d' h k = absurd (grind arith)
  one_sender (Send a b ∷ es) f s d s' d' h k =
      elim (either_sent (makes lax r (run lax r es) a b) (eqb (run lax r es).next f) (eqb a s && eqb b d) (sent_by lax r es f s d) h) [
        | inl p ↦ elim (either_sent (makes lax r (run lax r es) a b) (eqb (run lax r es).next f) (eqb a s' && eqb b d') (sent_by lax r es f s' d') k) [
          | inl q ↦ both a b s d s' d' p.2 q.2
          | inr q ↦ absurd (clash f (run lax r es).next p.1 (sent_before es f s' d' q))
        ]
        | inr p ↦ elim (either_sent (makes lax r (run lax r es) a b) (eqb (run lax r es).next f) (eqb a s' && eqb b d') (sent_by lax r es f s' d') k) [
          | inl q ↦ absurd (clash f (run lax r es).next q.1 (sent_before es f s d p))
          | inr q ↦ one_sender es f s d s' d' p q
        ]
      ]
    where
      both : (a b s d s' d' : ℕ) → (eqb a s && eqb b d) ≡ true → (eqb a s' && eqb b d') ≡ true → (s ≡ s') × (d ≡ d')
      both a b s d s' d' p q = grind (arith, nat_tests)

      clash : (f n : ℕ) → eqb n f ≡ true → f < n → ⊥
      clash f n p q = grind (arith, nat_tests)
  one_sender (Arrive i ∷ es) f s d s' d' h k = one_sender es f s d s' d' h k
  one_sender (Lose i ∷ es) f s d s' d' h k = one_sender es f s d s' d' h k
  one_sender (Believe a b c ∷ es) f s d s' d' h k = one_sender es f s d s' d' h k
  one_sender (Announce t ∷ es) f s d s' d' h k = one_sender es f s d s' d' h k
  one_sender (Adopt b m ∷ es) f s d s' d' h k = one_sender es f s d s' d' h k
  one_sender (Move a b ∷ es) f s d s' d' h k = one_sender es f s d s' d' h k
  one_sender (Forget b m a ∷ es) f s d s' d' h k = one_sender es f s d s' d' h k
  one_sender (Crash b ∷ es) f s d s' d' h k = one_sender es f s d s' d' h k
  one_sender (Turn b m a ok ∷ es) f s d s' d' h k = one_sender es f s d s' d' h k
