-- What quiet events leave as it is. Assumes nothing.
use Rattle.std.proofs.Common.{◌≡◌, ℕ, zero, suc, ◌+◌, ◌<◌, Bool, true, false, not, ◌&&◌, ◌||◌, eqb, ltb, List, [], ◌∷◌, sym, refl, ◌∙◌, subst, inl, inr, arith}
use mathlib.Core.List.Memᴰ
use mathlib.Core.List.{Memᴰ}
use Rattle.std.proofs.lemmas.Bool.Decides.{nat_tests}
use Rattle.std.proofs.lemmas.Bool.{cond_both, eqb-false}
use Rattle.trees.specs.Tree.{Tree, joined}
use Rattle.bridges.specs.Net.{Copy, Where, Unknown, Got, Rules, World, came_by, knows, without, with_copies, send_by}
use Rattle.bridges.specs.Fabric.{Event, Send, Arrive, Lose, Believe, Announce, Adopt, Move, Forget, Crash, Turn, goes_by, may_hand, handed, turned, happen}
use Rattle.bridges.specs.Guarantee.{moves, forgets, quiet, is_copy_of}
use Rattle.bridges.proofs.Changes.{at3-tells, Pick, now, later, pick_mem, arrive_by, announce_by, adopt_by, send_by_lem}
use Rattle.bridges.proofs.Keeps.{handed-mem}
use Rattle.bridges.proofs.Counts.{one, one_same, count}

pub quiet-stays : (t : Tree) (f d : ℕ) (w : World) (e : Event) → quiet t f d w e ≡ true → moves d e ≡ false
quiet-stays t f d w (Send a b) h = refl
quiet-stays t f d w (Arrive i) h = refl
quiet-stays t f d w (Lose i) h = refl
quiet-stays t f d w (Believe a b c) h = refl
quiet-stays t f d w (Announce u) h = refl
quiet-stays t f d w (Adopt b n) h = refl
quiet-stays t f d w (Move a b) h = grind arith
quiet-stays t f d w (Forget b n a) h = refl
quiet-stays t f d w (Crash b) h = refl
quiet-stays t f d w (Turn b n a ok) h = grind arith

pub quiet-holds : (lax : Bool) (r : Rules) (t : Tree) (f d : ℕ) (e : Event) (w : World) → quiet t f d w e ≡ true → (happen lax r e w).holds ≡ w.holds
unfolding send_by
quiet-holds lax r t f d e w h = go e w h
  where
    P : (ℕ → List ℕ) → World → Type 0
    P hs v = v.holds ≡ hs

    go : (e : Event) (w : World) → quiet t f d w e ≡ true → (happen lax r e w).holds ≡ w.holds
    go (Send a b) w h = send_by_lem lax r (P w.holds) a b w refl (λ _ _ _ _ _ _. refl)
    go (Arrive i) w h = arrive_by lax r (P w.holds) i w.copies (with_copies (without i w.copies) w) (λ _. refl) (λ _ _ _. refl) (λ _ _ _ _ _. refl)
    go (Lose i) w h = refl
    go (Believe a b c) w h = refl
    go (Announce u) w h = announce_by lax r (P w.holds) u w refl (λ _. refl)
    go (Adopt b n) w h = absurd (grind arith)
    go (Move a b) w h = cond_both (not lax || ltb b r.bridges) _ w (P w.holds) (λ _. refl) (λ _. refl)
    go (Forget b n a) w h = refl
    go (Crash b) w h = absurd (grind arith)
    go (Turn b n a ok) w h = refl

same : (p q a b : ℕ) → (eqb p a && eqb q b) ≡ true → (p ≡ a) × (q ≡ b)
same p q a b e = grind (arith, nat_tests)

-- every link along the tree is believed to be up
abbrev pub Open : ℕ → Tree → (ℕ → ℕ → Bool) → Type 0
Open n t up = (b c : ℕ) → b < n → c < n → joined t b c ≡ true → up b c ≡ true

pub quiet-open : (lax : Bool) (r : Rules) (t : Tree) (f d : ℕ) (e : Event) (w : World) → quiet t f d w e ≡ true → Open r.bridges t w.up → Open r.bridges t (happen lax r e w).up
unfolding send_by
quiet-open lax r t f d e w h k = go e w h k
  where
    P : World → Type 0
    P v = Open r.bridges t v.up

    go : (e : Event) (w : World) → quiet t f d w e ≡ true → P w → P (happen lax r e w)
    go (Send a b) w h k = send_by_lem lax r P a b w k (λ _ _ _ _ _ _. k)
    go (Arrive i) w h k = arrive_by lax r P i w.copies (with_copies (without i w.copies) w) (λ _. k) (λ _ _ _. k) (λ _ _ _ _ _. k)
    go (Lose i) w h k = k
    go (Believe a b c) w h k = λ p q lp lq j. cond_both (eqb p a && eqb q b) c (w.up p q) (λ x. x ≡ true) (λ e. told p q j e) (λ _. k p q lp lq j)
      where
        told : (p q : ℕ) → joined t p q ≡ true → (eqb p a && eqb q b) ≡ true → c ≡ true
        told p q j e = open_or c (joined t a b) h (subst (λ z. joined t z b ≡ true) (same p q a b e).0 (subst (λ z. joined t p z ≡ true) (same p q a b e).1 j))
          where
            open_or : (x y : Bool) → (x || not y) ≡ true → y ≡ true → x ≡ true
            open_or x y = grind arith
    go (Announce u) w h k = announce_by lax r P u w k (λ _. k)
    go (Adopt b n) w h k = adopt_by lax r P b n w k (λ _ _ _. k)
    go (Move a b) w h k = cond_both (not lax || ltb b r.bridges) _ w P (λ _. k) (λ _. k)
    go (Forget b n a) w h k = k
    go (Crash b) w h k = k
    go (Turn b n a ok) w h k = k

-- every bridge has learnt where station d is, along tree number m
abbrev pub AllKnow : ℕ → ℕ → ℕ → (ℕ → ℕ → ℕ → Where) → Type 0
AllKnow n m d learned = (b : ℕ) → b < n → learned b m d ≡ Unknown → ⊥

pub quiet-known : (lax : Bool) (r : Rules) (t : Tree) (f d : ℕ) (e : Event) (w : World) → quiet t f d w e ≡ true → forgets t.number d e ≡ false → AllKnow r.bridges t.number d w.learned → AllKnow r.bridges t.number d (happen lax r e w).learned
unfolding send_by
quiet-known lax r t f d e w h g k = go e w h g k
  where
    P : World → Type 0
    P v = AllKnow r.bridges t.number d v.learned

    came : (bs : List ℕ) → came_by bs ≡ Unknown → ⊥
    came [] e = grind arith
    came (b ∷ bs) e = grind arith

    go : (e : Event) (w : World) → quiet t f d w e ≡ true → forgets t.number d e ≡ false → P w → P (happen lax r e w)
    go (Send a b) w h g k = send_by_lem lax r P a b w k (λ _ _ _ _ _ _. k)
    go (Arrive i) w h g k = arrive_by lax r P i w.copies (with_copies (without i w.copies) w) (λ _. k) (λ _ _ _. k)
        (λ x _ _ _ _ b lb q. elim (at3-tells x.at x.frame.tree x.frame.from (came_by x.trail) w.learned b t.number d) [ inl h ↦ came x.trail (sym h.3 ∙ q) | inr h ↦ k b lb (sym h ∙ q) ])
    go (Lose i) w h g k = k
    go (Believe a b c) w h g k = k
    go (Announce u) w h g k = announce_by lax r P u w k (λ _. k)
    go (Adopt b n) w h g k = adopt_by lax r P b n w k (λ _ _ _. k)
    go (Move a b) w h g k = cond_both (not lax || ltb b r.bridges) _ w P (λ _. k) (λ _. k)
    go (Forget b n a) w h g k = λ p lp. cond_both (eqb p b && (eqb t.number n && eqb d a)) _ _ (λ v. v ≡ Unknown → ⊥) (λ e _. other (eqb p b) t.number n d a e g) (λ _. k p lp)
      where
        other : (x : Bool) (m n d a : ℕ) → (x && (eqb m n && eqb d a)) ≡ true → (eqb n m && eqb a d) ≡ false → ⊥
        other x m n d a p q = grind (arith, nat_tests)
    go (Crash b) w h g k = absurd (grind arith)
    go (Turn b n a ok) w h g k = λ p lp. cond_both (eqb p b && (eqb t.number n && eqb d a)) (turned b ok (w.learned p t.number d)) (w.learned p t.number d) (λ v. v ≡ Unknown → ⊥) (λ e _. other (eqb p b) (eqb t.number n) d a e h) (λ _. k p lp)
      where
        other : (x y : Bool) (d a : ℕ) → (x && (y && eqb d a)) ≡ true → not (eqb a d) ≡ true → ⊥
        other x y d a p q = grind (arith, nat_tests)

-- what holds of all that was handed over
pub given_step : (lax : Bool) (r : Rules) (Q : Got → Type 0) (e : Event) (w : World) →
    ((x : Copy) (v : World) (s : ℕ) → Memᴰ x w.copies → v.home ≡ w.home → may_hand lax r v x (goes_by lax x (knows w x)) s ≡ true → Q (record { frame = x.frame.number; station = s; bridge = x.at })) →
    ((g : Got) → Memᴰ g w.got → Q g) → (g : Got) → Memᴰ g (happen lax r e w).got → Q g
unfolding send_by
given_step lax r Q e w h k = go e w h k
  where
    P : World → Type 0
    P v = (g : Got) → Memᴰ g v.got → Q g

    go : (e : Event) (w : World) →
        ((x : Copy) (v : World) (s : ℕ) → Memᴰ x w.copies → v.home ≡ w.home → may_hand lax r v x (goes_by lax x (knows w x)) s ≡ true → Q (record { frame = x.frame.number; station = s; bridge = x.at })) →
        P w → P (happen lax r e w)
    go (Send a b) w h k = send_by_lem lax r P a b w k (λ _ _ _ _ _ _. k)
    go (Arrive i) w h k = arrive_by lax r P i w.copies (with_copies (without i w.copies) w) (λ _. k) (λ _ _ _. k)
        (λ x _ p _ _ g m. elim (Memᴰ.append_cases (handed lax r (with_copies (without i w.copies) w) x (goes_by lax x (knows w x)) r.stations) m) [ inl m' ↦ new x p g (handed-mem lax r (with_copies (without i w.copies) w) x (goes_by lax x (knows w x)) r.stations g m') | inr m' ↦ k g m' ])
      where
        new : (x : Copy) → Pick x i w.copies → (g : Got) → (s : ℕ) × (g ≡ record { frame = x.frame.number; station = s; bridge = x.at }) × (may_hand lax r (with_copies (without i w.copies) w) x (goes_by lax x (knows w x)) s ≡ true) → Q g
        new x p g q = subst Q (sym q.1) (h x (with_copies (without i w.copies) w) q.0 (pick_mem p) refl q.2)
    go (Lose i) w h k = k
    go (Believe a b c) w h k = k
    go (Announce u) w h k = announce_by lax r P u w k (λ _. k)
    go (Adopt b n) w h k = adopt_by lax r P b n w k (λ _ _ _. k)
    go (Move a b) w h k = cond_both (not lax || ltb b r.bridges) _ w P (λ _. k) (λ _. k)
    go (Forget b n a) w h k = k
    go (Crash b) w h k = k
    go (Turn b n a ok) w h k = k

-- losing a copy of another frame
pub count-lost : (p : Copy → Bool) (f i : ℕ) (xs : List Copy) → ((x : Copy) → p x ≡ true → x.frame.number ≡ f) → is_copy_of f i xs ≡ false → count p (without i xs) ≡ count p xs
unfolding count without is_copy_of
count-lost p f zero [] h e = refl
count-lost p f (suc i) [] h e = refl
count-lost p f zero (x ∷ xs) h e = go (p x) refl
  where
    go : (b : Bool) → p x ≡ b → count p xs ≡ one (p x) + count p xs
    go true q = absurd (eqb-false _ _ e (h x q))
    go false q = let z = one_same (p x) false q in omega arith
count-lost p f (suc i) (x ∷ xs) h e = let ih = count-lost p f i xs h e in omega arith

-- there is no copy at that place
pub count-no-pick : (p : Copy → Bool) (i : ℕ) (xs : List Copy) → ((x : Copy) → Pick x i xs → ⊥) → count p (without i xs) ≡ count p xs
unfolding count without
count-no-pick p zero [] h = refl
count-no-pick p (suc i) [] h = refl
count-no-pick p zero (x ∷ xs) h = absurd (h x (now refl))
count-no-pick p (suc i) (x ∷ xs) h = let ih = count-no-pick p i xs (λ y q. h y (later q)) in omega arith
