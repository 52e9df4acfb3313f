-- What each kind of event does, by cases: one lemma for each place where an event looks something up. Assumes nothing.
use Rattle.std.proofs.Common.{◌≡◌, ℕ, zero, suc, ◌<◌, Bool, true, false, ◌&&◌, ◌||◌, eqb, ltb, ◌⊎◌, List, [], ◌∷◌, sym, refl, subst, inl, inr, arith}
use mathlib.Core.List.Memᴰ
use mathlib.Core.List.{Memᴰ}
use Rattle.std.proofs.lemmas.Bool.Decides.{nat_tests}
use Rattle.std.proofs.lemmas.Bool.{cond_both}
use Rattle.trees.specs.Tree.{Tree, looks, joined, is_in}
use Rattle.bridges.specs.Net.{Copy, Where, Unknown, Behind, Rules, World, Found, NoTree, This, at, at3, tree_of, came_by, not_back, copy_to, floods, toward, without, two, send_by, announce_if}
use Rattle.bridges.specs.Fabric.{Send, Forget, Crash, goes_by, forward, receive, arrives, adopt_if, happen}

-- the copy at a place of a list
pub data Pick (x : Copy) : ℕ → List Copy → Type 0 where
  now : {y : Copy} {ys : List Copy} → y ≡ x → Pick x zero (y ∷ ys)
  later : {i : ℕ} {y : Copy} {ys : List Copy} → Pick x i ys → Pick x (suc i) (y ∷ ys)

pub pick_mem : {x : Copy} {i : ℕ} {xs : List Copy} → Pick x i xs → Memᴰ x xs
pick_mem (now e) = Memᴰ.head (sym e)
pick_mem (later p) = Memᴰ.tail (pick_mem p)

pub without-mem : {x : Copy} (i : ℕ) (xs : List Copy) → Memᴰ x (without i xs) → Memᴰ x xs
unfolding without
without-mem zero [] m = m
without-mem (suc i) [] m = m
without-mem zero (y ∷ ys) m = Memᴰ.tail m
without-mem (suc i) (y ∷ ys) m = elim (Memᴰ.cases_cons m) [ inl e ↦ Memᴰ.head e | inr m' ↦ Memᴰ.tail (without-mem i ys m') ]

-- a bridge that doesn't have the tree drops a copy, and one that has it doesn't
pub receive-drops : (lax : Bool) (r : Rules) (x : Copy) (t : Tree) (w : World) → is_in x.frame.tree (w.holds x.at) ≡ false → receive lax r x (This t) w ≡ w
receive-drops lax r x t w e = grind arith

pub receive-takes : (lax : Bool) (r : Rules) (x : Copy) (t : Tree) (w : World) → is_in x.frame.tree (w.holds x.at) ≡ true → receive lax r x (This t) w ≡ forward lax r x t w
receive-takes lax r x t w e = grind arith

-- what doesn't look like a tree isn't adopted
pub adopt_refuses : (lax : Bool) (r : Rules) (b n : ℕ) (t : Tree) (w : World) → looks r.bridges t ≡ false → adopt_if lax r b n (This t) w ≡ w
adopt_refuses lax r b n t w e = grind arith

-- one entry of a table is written: that of a bridge, a tree and a station
pub at3-tells : {A : Type 0} (i j k : ℕ) (x : A) (f : ℕ → ℕ → ℕ → A) (p q s : ℕ) → ((p ≡ i) × (q ≡ j) × (s ≡ k) × (at3 i j k x f p q s ≡ x)) ⊎ (at3 i j k x f p q s ≡ f p q s)
at3-tells i j k x f p q s = grind (arith, nat_tests)

-- forgetting writes nothing but that nothing is known
pub forget_tells : (lax : Bool) (r : Rules) (b n s : ℕ) (w : World) (p m q : ℕ) → ((happen lax r (Forget b n s) w).learned p m q ≡ Unknown) ⊎ ((happen lax r (Forget b n s) w).learned p m q ≡ w.learned p m q)
forget_tells lax r b n s w p m q = grind arith

pub crash_tells : (lax : Bool) (r : Rules) (b : ℕ) (w : World) (p m q : ℕ) → ((happen lax r (Crash b) w).learned p m q ≡ Unknown) ⊎ ((happen lax r (Crash b) w).learned p m q ≡ w.learned p m q)
crash_tells lax r b w p m q = grind arith

-- a bridge goes by what it has learnt, or by whence the frame came
pub goes_tells : (lax : Bool) (x : Copy) (k : Where) → (goes_by lax x k ≡ came_by x.trail) ⊎ (goes_by lax x k ≡ k)
goes_tells lax x k = grind arith

-- a frame that isn't to its sender goes by what is learnt
pub goes_is : (lax : Bool) (x : Copy) (k : Where) → (x.frame.from ≡ x.frame.to → ⊥) → goes_by lax x k ≡ k
goes_is lax x k ne = grind (arith, nat_tests)

-- who came by c has the way it came from behind c
pub came_from : (c : ℕ) (bs : List ℕ) → came_by (c ∷ bs) ≡ Behind c
came_from c bs = refl

-- not back is not to where it came from
pub not_back_is : (a : ℕ) (bs : List ℕ) (c : ℕ) → not_back (a ∷ bs) c ≡ true → eqb c a ≡ false
not_back_is a bs c h = grind (arith, nat_tests)

-- a copy goes on along the tree, by a link that is up, and not back
pub floods-tells : (c : ℕ) (t : Tree) (up : ℕ → ℕ → Bool) (x : Copy) → (floods (suc c) t up x ≡ floods c t up x) ⊎
    ((floods (suc c) t up x ≡ copy_to x c ∷ floods c t up x) × (joined t x.at c ≡ true) × (up x.at c ≡ true) × (not_back x.trail c ≡ true))
unfolding floods
floods-tells c t up x = grind arith

pub toward-tells : (t : Tree) (up : ℕ → ℕ → Bool) (x : Copy) (c n : ℕ) → (toward t up x (Behind c) n ≡ []) ⊎
    ((toward t up x (Behind c) n ≡ copy_to x c ∷ []) × (joined t x.at c ≡ true) × (up x.at c ≡ true) × (not_back x.trail c ≡ true))
toward-tells t up x c n = grind arith

-- why a bridge drops a copy: its tree was never announced, or the bridge doesn't have it
abbrev pub Refused : World → Copy → Type 0
Refused w x = (tree_of x.frame.tree w.trees ≡ NoTree) ⊎ (is_in x.frame.tree (w.holds x.at) ≡ false)

module _ (lax : Bool) (r : Rules) (P : World → Type 0) where
  receive-by : (x : Copy) (w : World) → (Refused w x → P w) →
      ((t : Tree) → tree_of x.frame.tree w.trees ≡ This t → is_in x.frame.tree (w.holds x.at) ≡ true → P (forward lax r x t w)) →
      (f : Found) → tree_of x.frame.tree w.trees ≡ f → P (receive lax r x f w)
  receive-by x w drop go NoTree e = drop (inl e)
  receive-by x w drop go (This t) e = by (is_in x.frame.tree (w.holds x.at)) refl
    where
      by : (b : Bool) → is_in x.frame.tree (w.holds x.at) ≡ b → P (receive lax r x (This t) w)
      by true h = subst P (sym (receive-takes lax r x t w h)) (go t e h)
      by false h = subst P (sym (receive-drops lax r x t w h)) (drop (inr h))

  -- a copy arrives: there is none at that place, or it is dropped, or it is handed on
  pub arrive_by : (i : ℕ) (xs : List Copy) (w : World) → (((x : Copy) → Pick x i xs → ⊥) → P w) → ((x : Copy) → Pick x i xs → Refused w x → P w) →
      ((x : Copy) (t : Tree) → Pick x i xs → tree_of x.frame.tree w.trees ≡ This t → is_in x.frame.tree (w.holds x.at) ≡ true → P (forward lax r x t w)) →
      P (arrives lax r i xs w)
  unfolding arrives
  arrive_by zero [] w none drop go = none (λ x p. elim_none p)
    where
      elim_none : {x : Copy} {i : ℕ} → Pick x i [] → ⊥
      elim_none p = elim p [ ]
  arrive_by (suc i) [] w none drop go = none (λ x p. elim_none p)
    where
      elim_none : {x : Copy} {i : ℕ} → Pick x i [] → ⊥
      elim_none p = elim p [ ]
  arrive_by zero (x ∷ xs) w none drop go = receive-by x w (λ h. drop x (now refl) h) (λ t e h. go x t (now refl) e h) (tree_of x.frame.tree w.trees) refl
  arrive_by (suc i) (x ∷ xs) w none drop go = arrive_by i xs w (λ k. none (λ y p. k y (before p))) (λ y p h. drop y (later p) h) (λ y t p e h. go y t (later p) e h)
    where
      before : {y : Copy} → Pick y (suc i) (x ∷ xs) → Pick y i xs
      before (later p) = p

  -- a tree is announced: unless its number is taken
  pub announce_by : (t : Tree) (w : World) → P w → (tree_of t.number w.trees ≡ NoTree → P (announce_if t NoTree w)) → P (announce_if t (tree_of t.number w.trees) w)
  announce_by t w old new = go (tree_of t.number w.trees) refl
    where
      go : (f : Found) → tree_of t.number w.trees ≡ f → P (announce_if t f w)
      go NoTree e = new e
      go (This u) e = old

  -- a tree is adopted: if it was announced and looks like one
  pub adopt_by : (b n : ℕ) (w : World) → P w →
      ((t : Tree) → tree_of n w.trees ≡ This t → looks r.bridges t ≡ true →
      P (record { home = w.home; up = w.up; trees = w.trees; holds = at b (two (n ∷ w.holds b)) w.holds; learned = w.learned; copies = w.copies; got = w.got; next = w.next })) →
      P (adopt_if lax r b n (tree_of n w.trees) w)
  adopt_by b n w old new = go (tree_of n w.trees) refl
    where
      by : (t : Tree) → tree_of n w.trees ≡ This t → (x : Bool) → looks r.bridges t ≡ x → P (adopt_if lax r b n (This t) w)
      by t e true l = cond_both _ w _ P (λ _. old) (λ _. new t e l)
      by t e false l = subst P (sym (adopt_refuses lax r b n t w l)) old

      go : (f : Found) → tree_of n w.trees ≡ f → P (adopt_if lax r b n f w)
      go NoTree e = old
      go (This t) e = by t e (looks r.bridges t) refl

  -- a station sends: both are there, it is plugged in, and its bridge has a tree
  pub send_by_lem : (s d : ℕ) (w : World) → P w →
      ((n : ℕ) (ns : List ℕ) → w.holds (w.home s) ≡ n ∷ ns → (lax || ltb (w.home s) r.bridges) ≡ true → s < r.stations → d < r.stations → P (send_by r s d (n ∷ ns) w)) →
      P (happen lax r (Send s d) w)
  unfolding send_by
  send_by_lem s d w old new = cond_both _ (send_by r s d (w.holds (w.home s)) w) w P (λ h. go (parts _ r.stations h) (w.holds (w.home s)) refl) (λ _. old)
    where
      parts : (p : Bool) (x : ℕ) → (p && (ltb s x && ltb d x)) ≡ true → (p ≡ true) × (s < x) × (d < x)
      parts p x h = grind (arith, nat_tests)

      go : ((lax || ltb (w.home s) r.bridges) ≡ true) × (s < r.stations) × (d < r.stations) → (hs : List ℕ) → w.holds (w.home s) ≡ hs → P (send_by r s d hs w)
      go h [] e = old
      go h (n ∷ ns) e = new n ns e h.0 h.1 h.2
