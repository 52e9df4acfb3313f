-- The premises of arrival and of what is learnt can be met, all at once. Assumes nothing.
use Rattle.std.proofs.Common.{◌≡◌, ℕ, zero, suc, ◌<◌, Bool, true, false, not, ◌&&◌, ◌||◌, eqb, List, [], ◌∷◌, ◌++◌, sym, refl, ap, ◌∙◌, subst, arith}
use mathlib.Core.List.{Memᴰ}
use Rattle.std.proofs.lemmas.Bool.Decides.{nat_tests}
use Rattle.std.proofs.lemmas.Bool.{false≢true}
use Rattle.trees.specs.Tree.{Tree, looks, joined, is_in}
use Rattle.bridges.specs.Net.{Copy, Where, Unknown, Here, Behind, Rules, NoTree, This, tree_of, floods, without, two, send_by}
use Rattle.bridges.specs.Promise.{NotWrong, Rests, Linked, zeroth, over, on_way, top_way, count_got, none_of}
use Rattle.bridges.specs.Fabric.{Event, Send, run, handed, arrives}
use Rattle.bridges.specs.Guarantee.{Assured, count_all, stays, remembered, is_copy_of, quietly, origin}
use Rattle.bridges.specs.Cases.{after, ring, tree_of0, cabled}
use Rattle.bridges.specs.Witness.{ArrivesIf, LearntIf, settled, before_send, meanwhile, Met}

-- the records ask what the promise asks: given them, it gives its conclusions
pub arrives-if : (lax : Bool) (r : Rules) (es : List Event) (t : Tree) (s d : ℕ) (fs : List Event) → Assured lax r es → ArrivesIf lax r es t s d fs →
    (count_all (run lax r es).next d (run lax r (fs ++ (Send s d ∷ es))).got ≡ 1) ×
    ((q : ℕ) → (q ≡ d → ⊥) → count_all (run lax r es).next q (run lax r (fs ++ (Send s d ∷ es))).got ≡ 0)
arrives-if lax r es t s d fs a p = (z.1, λ q nq. z.2 p.all_know p.none_forgets q nq)
  where
    z : (count_got (run lax r es).next d ((run lax r es).home d) (run lax r (fs ++ (Send s d ∷ es))).got ≡ 1) ×
        (count_all (run lax r es).next d (run lax r (fs ++ (Send s d ∷ es))).got ≡ 1) ×
        (((b : ℕ) → b < r.bridges → (run lax r es).learned b t.number d ≡ Unknown → ⊥) → remembered t.number d fs ≡ true →
        (q : ℕ) → (q ≡ d → ⊥) → count_all (run lax r es).next q (run lax r (fs ++ (Send s d ∷ es))).got ≡ 0)
    z = a.arrives t p.is_tree p.at_rest s d p.sender p.receiver p.apart p.one_vlan p.sender_home p.receiver_home
        p.right p.under_way fs p.quiet_so p.all_came

pub learnt_if : (lax : Bool) (r : Rules) (es later before : List Event) (t : Tree) (s b : ℕ) → Assured lax r es → LearntIf lax r es later before t s b →
    NotWrong r (run lax r es) t b s ((run lax r es).learned b t.number s)
learnt_if lax r es later before t s b a p = a.learnt_right later before t p.since p.new p.outside s b p.station_there p.bridge_there p.still

below3 : (P : ℕ → Type 0) → P 0 → P 1 → P 2 → (b : ℕ) → b < 3 → P b
below3 P p q r zero h = p
below3 P p q r (suc zero) h = q
below3 P p q r (suc (suc zero)) h = r
below3 P p q r (suc (suc (suc b))) h = absurd (omega arith)

-- every copy passes a test
each : (Copy → Bool) → List Copy → Bool
each p [] = true
each p (x ∷ xs) = p x && each p xs

each_so : (p : Copy → Bool) (xs : List Copy) (x : Copy) → each p xs ≡ true → Memᴰ x xs → p x ≡ true
unfolding each
each_so p [] x e m = elim m [ ]
each_so p (y ∷ ys) x e (Memᴰ.head q) = ap p q ∙ grind (arith, nat_tests)
each_so p (y ∷ ys) x e (Memᴰ.tail m) = each_so p ys x (grind (arith, nat_tests)) m

-- of the receiver's frames along the tree, those under way began at bridge 1
abbrev began_at1 : Copy → Bool
began_at1 x = not (eqb x.frame.from 0 && eqb x.frame.tree 1) || eqb (origin x.at x.trail) 1

began : (x : Copy) → began_at1 x ≡ true → x.frame.from ≡ 0 → x.frame.tree ≡ 1 → origin x.at x.trail ≡ 1
began x e f t = grind (arith, nat_tests)

-- what computes
record Computed (lax : Bool) : Type 0 where
  there : tree_of 1 (run lax ring before_send).trees ≡ This tree_of0
  newest : (b : ℕ) → b < 3 → (ns : List ℕ) × ((run lax ring before_send).holds b ≡ 1 ∷ ns)
  links : (b : ℕ) → b < 3 → (c : ℕ) → c < 3 → joined tree_of0 b c ≡ true → (run lax ring before_send).up b c ≡ true
  home_0 : (run lax ring before_send).home 0 ≡ 1
  home_1 : (run lax ring before_send).home 1 ≡ 2
  learned_0 : (run lax ring before_send).learned 0 1 0 ≡ Behind 1
  learned_1 : (run lax ring before_send).learned 1 1 0 ≡ Here
  learned_2 : (run lax ring before_send).learned 2 1 0 ≡ Behind 0
  all_began : each began_at1 (run lax ring before_send).copies ≡ true
  quiet_so : quietly lax ring tree_of0 (run lax ring before_send).next 0 (Send 1 0 ∷ before_send) meanwhile ≡ true
  all_came : none_of (run lax ring before_send).next (run lax ring (meanwhile ++ (Send 1 0 ∷ before_send))).copies ≡ true
  new : tree_of 1 (run lax ring cabled).trees ≡ NoTree
  learnt : (run lax ring (meanwhile ++ (Send 1 0 ∷ before_send))).learned 2 1 0 ≡ Behind 0

no_way : {A : Type 0} → false ≡ true → A
no_way e = absurd (false≢true e)

known_behind : (v : Where) (c : ℕ) → v ≡ Behind c → v ≡ Unknown → ⊥
known_behind v c p q = grind arith

known_here : (v : Where) → v ≡ Here → v ≡ Unknown → ⊥
known_here v p q = grind arith

three_links : (P : ℕ → ℕ → Type 0) → P 0 1 → P 0 2 → P 1 0 → P 1 2 → P 2 0 → P 2 1 → P 0 0 → P 1 1 → P 2 2 → (b : ℕ) → b < 3 → (c : ℕ) → c < 3 → P b c
three_links P a b c d e f g h i =
    below3 (λ (x : ℕ). (y : ℕ) → y < 3 → P x y) (below3 (P 0) g a b) (below3 (P 1) c h d) (below3 (P 2) e f i)

computed : (lax : Bool) → Computed lax
unfolding looks is_in tree_of floods without two send_by handed arrives run after cabled settled before_send meanwhile quietly is_copy_of none_of each origin
computed true = record {
  there = refl;
  newest = below3 _ ([], refl) ([], refl) ([], refl);
  links = three_links _ (λ _. refl) (λ _. refl) (λ _. refl) (λ _. refl) (λ _. refl) (λ _. refl) (λ e. no_way e) (λ e. no_way e) (λ e. no_way e);
  home_0 = refl;
  home_1 = refl;
  learned_0 = refl;
  learned_1 = refl;
  learned_2 = refl;
  all_began = refl;
  quiet_so = refl;
  all_came = refl;
  new = refl;
  learnt = refl;
}
computed false = record {
  there = refl;
  newest = below3 _ ([], refl) ([], refl) ([], refl);
  links = three_links _ (λ _. refl) (λ _. refl) (λ _. refl) (λ _. refl) (λ _. refl) (λ _. refl) (λ e. no_way e) (λ e. no_way e) (λ e. no_way e);
  home_0 = refl;
  home_1 = refl;
  learned_0 = refl;
  learned_1 = refl;
  learned_2 = refl;
  all_began = refl;
  quiet_so = refl;
  all_came = refl;
  new = refl;
  learnt = refl;
}

module _ (lax : Bool) (k : Computed lax) where
  rests : Rests ring (run lax ring before_send) tree_of0
  unfolding is_in top_way
  rests = record {
    there = k.there;
    newest = k.newest;
    links = λ b c h g. k.links b h c g;
    inside = λ b. (λ h. grind (arith, nat_tests), λ h. grind (arith, nat_tests));
    top = 0;
    together = below3 _ refl refl refl;
  }

  right : (b : ℕ) → b < 3 → NotWrong ring (run lax ring before_send) tree_of0 b 0 ((run lax ring before_send).learned b 1 0)
  unfolding is_in top_way
  right = below3 _ (behind 0 1 k.learned_0 refl) (subst (NotWrong ring (run lax ring before_send) tree_of0 1 0) (sym k.learned_1) k.home_0) (behind 2 0 k.learned_2 refl)
    where
      behind : (b c : ℕ) → (run lax ring before_send).learned b 1 0 ≡ Behind c → on_way 3 tree_of0 b 1 c ≡ true →
          NotWrong ring (run lax ring before_send) tree_of0 b 0 ((run lax ring before_send).learned b 1 0)
      behind b c e w = subst (NotWrong ring (run lax ring before_send) tree_of0 b 0) (sym e) (subst (λ (h : ℕ). on_way 3 tree_of0 b h c ≡ true) (sym k.home_0) w)

  met_arrives : ArrivesIf lax ring before_send tree_of0 1 0 meanwhile
  unfolding looks remembered meanwhile after
  met_arrives = record {
    is_tree = refl;
    at_rest = rests;
    sender = omega arith;
    receiver = omega arith;
    apart = omega arith;
    one_vlan = refl;
    sender_home = omega (arith, k.home_1);
    receiver_home = omega (arith, k.home_0);
    right = right;
    under_way = λ x m f t. began x (each_so began_at1 (run lax ring before_send).copies x k.all_began m) f t ∙ sym k.home_0;
    quiet_so = k.quiet_so;
    all_came = k.all_came;
    all_know = below3 _ (λ e. known_behind _ 1 k.learned_0 e) (λ e. known_here _ k.learned_1 e) (λ e. known_behind _ 0 k.learned_2 e);
    none_forgets = refl;
  }

  met_learnt : LearntIf lax ring (meanwhile ++ (Send 1 0 ∷ before_send)) (meanwhile ++ (Send 1 0 ∷ settled)) cabled tree_of0 0 2
  unfolding stays meanwhile settled before_send after
  met_learnt = record {
    since = refl;
    new = k.new;
    outside = λ c h. grind (arith, nat_tests);
    station_there = omega arith;
    bridge_there = omega arith;
    still = refl;
  }

  met_linked : (b : ℕ) → b < 3 → Linked ring (run lax ring before_send) b
  met_linked = below3 _ zeroth (from_0 1 (omega arith) refl refl) (from_0 2 (omega arith) refl refl)
    where
      from_0 : (b : ℕ) → b < 3 → joined tree_of0 0 b ≡ true → joined tree_of0 b 0 ≡ true → Linked ring (run lax ring before_send) b
      from_0 b h j i = over zeroth h (k.links 0 (omega arith) b h j) (k.links b h 0 (omega arith) i)

pub met : Met
met lax = (met_arrives lax (computed lax), met_learnt lax (computed lax), (computed lax).learnt, met_linked lax (computed lax))
