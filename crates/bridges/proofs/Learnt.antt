-- What is learnt along a tree of a station that hasn't moved since the tree was announced isn't wrong: its frames began
-- where it is, and whoever has come along the tree knows the way back. Assumes nothing.
use Rattle.std.proofs.Common.{◌≡◌, ℕ, ◌<◌, ◌≤◌, Bool, true, false, cond, not, ◌&&◌, ◌||◌, eqb, ltb, List, [], ◌∷◌, ◌++◌, sym, refl, ap, ◌∙◌, subst, inl, inr, arith}
use mathlib.Core.List.Memᴰ
use mathlib.Core.List.{Memᴰ}
use Rattle.std.proofs.lemmas.Bool.Decides.{nat_tests}
use Rattle.std.proofs.lemmas.Bool.{cond_both, and_parts, and_from, not-true, eq-eqb}
use Rattle.trees.specs.Tree.{Tree, looks, joined, Walk, all_below}
use Rattle.bridges.specs.Net.{Copy, Where, Unknown, Here, Behind, Rules, World, Found, NoTree, This, tree_of, came_by, toward, knows, without, with_copies, send_by, announce_if}
use Rattle.bridges.specs.Fabric.{Event, Send, Arrive, Lose, Believe, Announce, Adopt, Move, Forget, Crash, Turn, goes_by, forward, turned, happen, run}
use Rattle.trees.proofs.Under.{Under}
use Rattle.trees.proofs.Simple.{AllUnder, NoneUnder, also, Way, rose, fell, way, below_1, below_2}
use Rattle.trees.proofs.Ahead.{Leads, down, up, is_leads}
use Rattle.bridges.specs.Promise.{on_way, NotWrong}
use Rattle.bridges.specs.Guarantee.{moves, stays, origin}
use Rattle.bridges.proofs.Changes.{at3-tells, forget_tells, crash_tells, came_from, pick_mem, without-mem, arrive_by, announce_by, adopt_by, send_by_lem}
use Rattle.bridges.proofs.Keeps.{Walks, Keeps, keeps, tree-stays, Onward, toward-mem}
use Rattle.bridges.proofs.Twice.{walk_joined}
use Rattle.bridges.proofs.TopWays.{on_way_is}

-- as NotWrong, of a station at h
abbrev pub Right : ℕ → Tree → ℕ → ℕ → Where → Type 0
Right n t h b Unknown = Unit {0}
Right n t h b Here = h ≡ b
Right n t h b (Behind c) = on_way n t b h c ≡ true

pub right_not_wrong : (r : Rules) (w : World) (t : Tree) (b s : ℕ) (k : Where) → Right r.bridges t (w.home s) b k → NotWrong r w t b s k
right_not_wrong r w t b s Unknown h = h
right_not_wrong r w t b s Here h = h
right_not_wrong r w t b s (Behind c) h = h

pub not-wrong-right : (r : Rules) (w : World) (t : Tree) (b s : ℕ) (k : Where) → NotWrong r w t b s k → Right r.bridges t (w.home s) b k
not-wrong-right r w t b s Unknown h = h
not-wrong-right r w t b s Here h = h
not-wrong-right r w t b s (Behind c) h = h

origin-all : {n : ℕ} {t : Tree} {a : ℕ} (c : ℕ) (bs : List ℕ) → AllUnder n t a (c ∷ bs) → Under n t a (origin c bs)
unfolding origin
origin-all c [] (also u us) = u
origin-all c (b ∷ bs) (also u us) = origin-all b bs us

origin-none : {n : ℕ} {t : Tree} {a : ℕ} (c : ℕ) (bs : List ℕ) → NoneUnder n t a (c ∷ bs) → Under n t a (origin c bs) → ⊥
unfolding origin
origin-none c [] (also u us) = u
origin-none c (b ∷ bs) (also u us) = origin-none b bs us

-- whoever came from c knows that the beginning of the walk is behind c
way_back : (n : ℕ) (t : Tree) (b c : ℕ) (bs : List ℕ) → looks n t ≡ true → ((b : ℕ) → n ≤ b → t.above b ≡ b) → all_below n (b ∷ (c ∷ bs)) ≡ true → Walk t (b ∷ (c ∷ bs)) → on_way n t b (origin c bs) c ≡ true
way_back n t b c bs l out g w = on_way_is n t l out b (origin c bs) c ∙ and_from _ _ (turned_round t c b (walk_joined w))
    (is_leads n t l b c (origin c bs) (below_1 n b (c ∷ bs) g) (below_2 n b c bs g) (turned_round t c b (walk_joined w)) (go (way n t l g w)))
  where
    turned_round : (t : Tree) (b c : ℕ) → joined t b c ≡ true → joined t c b ≡ true
    turned_round t b c j = grind (arith, nat_tests)

    go : Way n t b c bs → Leads n t b c (origin c bs)
    go (rose e f a) = down e f (origin-all c bs a)
    go (fell e f a) = up e f (origin-none c bs a)

came_right : (n : ℕ) (t : Tree) (h b : ℕ) (bs : List ℕ) → looks n t ≡ true → ((b : ℕ) → n ≤ b → t.above b ≡ b) → all_below n (b ∷ bs) ≡ true → Walk t (b ∷ bs) → origin b bs ≡ h → Right n t h b (came_by bs)
unfolding origin
came_right n t h b [] l out g w e = sym e
came_right n t h b (c ∷ bs) l out g w e = subst (Right n t h b) (sym (came_from c bs)) (subst (λ z. on_way n t b z c ≡ true) e (way_back n t b c bs l out g w))

-- of a station s, along a tree t
pub record LearntOf (r : Rules) (t : Tree) (s : ℕ) (home : ℕ → ℕ) (trees : List Tree) (learned : ℕ → ℕ → ℕ → Where) (copies : List Copy) : Type 0 where
  pub is : tree_of t.number trees ≡ This t
  pub begun : (x : Copy) → Memᴰ x copies → x.frame.from ≡ s → x.frame.tree ≡ t.number → origin x.at x.trail ≡ home s
  pub right : (b : ℕ) → b < r.bridges → Right r.bridges t (home s) b (learned b t.number s)

abbrev pub Learnt : Rules → Tree → ℕ → World → Type 0
Learnt r t s w = LearntOf r t s w.home w.trees w.learned w.copies

module _ (lax : Bool) (r : Rules) (t : Tree) (s : ℕ) (out : (b : ℕ) → r.bridges ≤ b → t.above b ≡ b) where
  learnt_less : (i : ℕ) (w : World) → Learnt r t s w → Learnt r t s (with_copies (without i w.copies) w)
  learnt_less i w k = record { is = k.is; begun = λ x m. k.begun x (without-mem i w.copies m); right = k.right }

  learnt_forward : (x : Copy) (u : Tree) (w : World) → Walks r w.trees x → (x.frame.from ≡ s → x.frame.tree ≡ t.number → origin x.at x.trail ≡ w.home s) → Learnt r t s w → Learnt r t s (forward lax r x u w)
  learnt_forward x u w o og k = record {
    is = k.is;
    begun = λ y m. elim (Memᴰ.append_cases (toward u w.up x known r.bridges) m) [ inl m' ↦ made y (toward-mem u w.up x known r.bridges y m') | inr m' ↦ k.begun y m' ];
    right = λ b lt. elim (at3-tells x.at x.frame.tree x.frame.from (came_by x.trail) w.learned b t.number s) [
      | inl h ↦ subst (Right r.bridges t (w.home s) b) (sym h.3) (heard b lt (h.0, h.1, h.2))
      | inr h ↦ subst (Right r.bridges t (w.home s) b) (sym h) (k.right b lt)
    ];
  }
    where
      known : Where
      known = goes_by lax x (knows w x)

      made : (y : Copy) → Onward u w.up x known r.bridges y → y.frame.from ≡ s → y.frame.tree ≡ t.number → origin y.at y.trail ≡ w.home s
      made y o' = subst (λ z. z.frame.from ≡ s → z.frame.tree ≡ t.number → origin z.at z.trail ≡ w.home s) (sym o'.is) (unfold origin in og)

      heard : (b : ℕ) → b < r.bridges → (b ≡ x.at) × (t.number ≡ x.frame.tree) × (s ≡ x.frame.from) → Right r.bridges t (w.home s) b (came_by x.trail)
      heard b lt e = subst (λ c. Right r.bridges t (w.home s) c (came_by x.trail)) (sym e.0)
          (came_right r.bridges t (w.home s) x.at x.trail (subst (λ v. looks r.bridges v ≡ true) same o.good) out (o.inside (some_bridge lt)) (subst (λ v. Walk v (x.at ∷ x.trail)) same o.walk) (og (sym e.2) (sym e.1)))
        where
          same : o.t ≡ t
          same = let a = o.is in let b = subst (λ n. tree_of n w.trees ≡ This t) e.1 k.is in cc

          some_bridge : {a b : ℕ} → a < b → 0 < b
          some_bridge lt = omega arith

  pub learnt_step : (e : Event) (w : World) → Keeps lax r w → moves s e ≡ false → Learnt r t s w → Learnt r t s (happen lax r e w)
  unfolding send_by
  learnt_step (Send a d) w kp mv k = send_by_lem lax r (Learnt r t s) a d w k (λ n ns _ _ _ _. record {
    is = k.is;
    right = k.right;
    begun = λ y m. elim (Memᴰ.cases_cons m) [ inl q ↦ subst (λ z. z.frame.from ≡ s → z.frame.tree ≡ t.number → origin z.at z.trail ≡ w.home s) (sym q) (unfold origin in λ e _. ap w.home e) | inr m' ↦ k.begun y m' ];
  })
  learnt_step (Arrive i) w kp mv k = let less = learnt_less i w k in arrive_by lax r (Learnt r t s) i w.copies (with_copies (without i w.copies) w) (λ _. less) (λ _ _ _. less)
      (λ x u p _ _. learnt_forward x u (with_copies (without i w.copies) w) (kp.walks x (pick_mem p)) (k.begun x (pick_mem p)) less)
  learnt_step (Lose i) w kp mv k = learnt_less i w k
  learnt_step (Believe a b c) w kp mv k = k
  learnt_step (Announce u) w kp mv k = announce_by lax r (Learnt r t s) u w k (λ e. record { is = tree-stays u t t.number w.trees e k.is; begun = k.begun; right = k.right })
  learnt_step (Adopt b n) w kp mv k = adopt_by lax r (Learnt r t s) b n w k (λ _ _ _. k)
  learnt_step (Move a b) w kp mv k = cond_both (not lax || ltb b r.bridges) _ w (Learnt r t s) (λ _. record {
    is = k.is;
    begun = λ x m p q. k.begun x m p q ∙ sym home_is;
    right = λ c lt. subst (λ h. Right r.bridges t h c (w.learned c t.number s)) (sym home_is) (k.right c lt);
  }) (λ _. k)
    where
      other : (a s : ℕ) → eqb a s ≡ false → eqb s a ≡ false
      other a s h = grind (arith, nat_tests)

      home_is : cond (eqb s a) b (w.home s) ≡ w.home s
      home_is = ap (λ x. cond x b (w.home s)) (other a s mv)
  learnt_step (Forget b n a) w kp mv k = record {
    is = k.is;
    begun = k.begun;
    right = λ c lt. elim (forget_tells lax r b n a w c t.number s) [ inl h ↦ subst (Right r.bridges t (w.home s) c) (sym h) tt | inr h ↦ subst (Right r.bridges t (w.home s) c) (sym h) (k.right c lt) ];
  }
  learnt_step (Crash b) w kp mv k = record {
    is = k.is;
    begun = k.begun;
    right = λ c lt. elim (crash_tells lax r b w c t.number s) [ inl h ↦ subst (Right r.bridges t (w.home s) c) (sym h) tt | inr h ↦ subst (Right r.bridges t (w.home s) c) (sym h) (k.right c lt) ];
  }
  learnt_step (Turn b n a ok) w kp mv k = record {
    is = k.is;
    begun = k.begun;
    right = λ c lt. cond_both (eqb c b && (eqb t.number n && eqb s a)) (turned b ok (w.learned c t.number s)) (w.learned c t.number s) (Right r.bridges t (w.home s) c)
        (λ h. absurd (other (eqb c b) (eqb t.number n) h mv)) (λ _. k.right c lt);
  }
    where
      other : (x y : Bool) → (x && (y && eqb s a)) ≡ true → eqb a s ≡ false → ⊥
      other x y p q = grind (arith, nat_tests)

  -- when the tree is announced, nothing is learnt along it, and nothing under way
  learnt_start : (w : World) → Keeps lax r w → tree_of t.number w.trees ≡ NoTree → Learnt r t s (happen lax r (Announce t) w)
  unfolding tree_of
  learnt_start w k e = subst (λ f. Learnt r t s (announce_if t f w)) (sym e) (record {
    is = ap (λ b. cond b (This t) (tree_of t.number w.trees)) (eq-eqb t.number t.number refl);
    begun = λ x m _ q. absurd (no_tree_lem (k.walks x m).t (k.walks x m).is (subst (λ n. tree_of n w.trees ≡ NoTree) (sym q) e));
    right = λ b _. subst (Right r.bridges t (w.home s) b) (sym (k.blank b t.number s e)) tt;
  })
    where
      no_tree_lem : {f : Found} (u : Tree) → f ≡ This u → f ≡ NoTree → ⊥
      no_tree_lem u p q = grind arith

  learnt_since : (later before : List Event) → tree_of t.number (run lax r before).trees ≡ NoTree → stays s later ≡ true → Learnt r t s (run lax r (later ++ (Announce t ∷ before)))
  unfolding run stays
  learnt_since [] before e h = learnt_start (run lax r before) (keeps lax r before) e
  learnt_since (e' ∷ later) before e h = learnt_step e' (run lax r (later ++ (Announce t ∷ before))) (keeps lax r (later ++ (Announce t ∷ before))) (not-true _ (and_parts (not (moves s e')) _ h).0) (learnt_since later before e (and_parts (not (moves s e')) _ h).1)

pub learnt_right : (lax : Bool) (r : Rules) (es later before : List Event) (t : Tree) → es ≡ later ++ (Announce t ∷ before) → tree_of t.number (run lax r before).trees ≡ NoTree → ((b : ℕ) → r.bridges ≤ b → t.above b ≡ b) →
    (s b : ℕ) → s < r.stations → b < r.bridges → stays s later ≡ true → NotWrong r (run lax r es) t b s ((run lax r es).learned b t.number s)
learnt_right lax r es later before t q e out s b ls lb h =
    subst (λ fs. NotWrong r (run lax r fs) t b s ((run lax r fs).learned b t.number s)) (sym q)
    (right_not_wrong r (run lax r (later ++ (Announce t ∷ before))) t b s _ ((learnt_since lax r t s out later before e h).right b lb))
