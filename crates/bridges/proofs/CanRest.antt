-- Wherever links that are up join all bridges, one tree announced and adopted by each brings rest. Assumes nothing.
use Rattle.std.proofs.Common.{◌≡◌, ℕ, zero, suc, ◌+◌, ◌<◌, ◌≤◌, Bool, true, not, ◌&&◌, ◌||◌, T, eqb, List, [], ◌∷◌, ◌++◌, length, sym, refl, ap, subst, arith}
use Rattle.std.proofs.lemmas.Bool.Decides.{nat_tests}
use Rattle.std.proofs.lemmas.Bool.{cond_both, both_ways, eqb-true}
use Rattle.trees.specs.Tree.{Tree, looks}
use Rattle.bridges.specs.Net.{Rules, World, Found, NoTree, This, tree_of, two, at, announce_if}
use Rattle.bridges.specs.Promise.{Rests, Linked, zeroth, over}
use Rattle.bridges.specs.Fabric.{Event, Announce, Adopt, run, happen, adopt_if, is_newest}
use Rattle.bridges.specs.Guarantee.{only_trees}
use Rattle.bridges.proofs.Spanning as Sp

reached : (r : Rules) (w : World) {b : ℕ} → Linked r w b → Sp.Reached r.bridges w.up b
reached r w zeroth = Sp.zeroth
reached r w (over l h u v) = Sp.over (reached r w l) h u v

-- a number that no tree has
fresh : List Tree → ℕ
fresh [] = 0
fresh (t ∷ ts) = suc t.number + fresh ts

fresh_no : (n : ℕ) (ts : List Tree) → fresh ts ≤ n → tree_of n ts ≡ NoTree
unfolding fresh tree_of
fresh_no n [] h = refl
fresh_no n (t ∷ ts) h = grind (arith, nat_tests, fresh_no n ts)

-- one tree announced, then adopted by the first k bridges
rolled : Tree → ℕ → List Event
rolled t zero = Announce t ∷ []
rolled t (suc k) = Adopt k t.number ∷ rolled t k

rolled_trees : (t : Tree) (k : ℕ) → T (only_trees (rolled t k))
unfolding rolled only_trees
rolled_trees t zero = tt
rolled_trees t (suc k) = rolled_trees t k

rolled_length : (t : Tree) (k : ℕ) → length (rolled t k) ≡ suc k
unfolding rolled
rolled_length t zero = refl
rolled_length t (suc k) = ap suc (rolled_length t k)

-- what the first k bridges have of it
record Rolled (w v : World) (t : Tree) (k : ℕ) : Type 0 where
  trees_so : v.trees ≡ t ∷ w.trees
  up-so : v.up ≡ w.up
  newest_so : (b : ℕ) → b < k → (ns : List ℕ) × (v.holds b ≡ t.number ∷ ns)

two-first : (n : ℕ) (ns : List ℕ) → (ms : List ℕ) × (two (n ∷ ns) ≡ n ∷ ms)
unfolding two
two-first n [] = ([], refl)
two-first n (m ∷ ns) = (m ∷ [], refl)

newest_is : (n : ℕ) (ns : List ℕ) → is_newest n ns ≡ true → (ms : List ℕ) × (ns ≡ n ∷ ms)
newest_is n [] e = absurd (both_ways _ refl e)
newest_is n (x ∷ xs) e = (xs, ap (λ y. y ∷ xs) (grind (arith, nat_tests)))

found_first : (t : Tree) (ts : List Tree) → tree_of t.number (t ∷ ts) ≡ This t
unfolding tree_of
found_first t ts = grind (arith, nat_tests)

newest_at : (v : World) (n k b : ℕ) → b < suc k → (b < k → (ns : List ℕ) × (v.holds b ≡ n ∷ ns)) → (ns : List ℕ) × (at k (two (n ∷ v.holds k)) v.holds b ≡ n ∷ ns)
newest_at v n k b h old =
    cond_both (eqb b k) _ _ (λ (xs : List ℕ). (ns : List ℕ) × (xs ≡ n ∷ ns)) (λ e. two-first n (v.holds k)) (λ e. old (grind (arith, nat_tests)))

newest_now : (v : World) (n k b : ℕ) → b < suc k → is_newest n (v.holds k) ≡ true → (b < k → (ns : List ℕ) × (v.holds b ≡ n ∷ ns)) → (ns : List ℕ) × (v.holds b ≡ n ∷ ns)
newest_now v n k b h e old = cond_both (eqb b k) (v.holds b) (v.holds b) (λ _. (ns : List ℕ) × (v.holds b ≡ n ∷ ns))
    (λ q. subst (λ (j : ℕ). (ns : List ℕ) × (v.holds j ≡ n ∷ ns)) (sym (eqb-true b k q)) (newest_is n (v.holds k) e))
    (λ q. old (grind (arith, nat_tests)))

adopts : (lax : Bool) (r : Rules) (w v : World) (t : Tree) (k : ℕ) → looks r.bridges t ≡ true → Rolled w v t k → Rolled w (happen lax r (Adopt k t.number) v) t (suc k)
adopts lax r w v t k l i = subst (λ (f : Found). Rolled w (adopt_if lax r k t.number f v) t (suc k)) (sym found) done
  where
    found : tree_of t.number v.trees ≡ This t
    found = subst (λ (ts : List Tree). tree_of t.number ts ≡ This t) (sym i.trees_so) (found_first t w.trees)

    already : (not (looks r.bridges t) || (not lax && is_newest t.number (v.holds k))) ≡ true → is_newest t.number (v.holds k) ≡ true
    already e = grind (arith, nat_tests)

    done : Rolled w (adopt_if lax r k t.number (This t) v) t (suc k)
    done = cond_both _ v _ (λ (u : World). Rolled w u t (suc k))
        (λ e. record { trees_so = i.trees_so; up-so = i.up-so; newest_so = λ b h. newest_now v t.number k b h (already e) (i.newest_so b) })
        (λ e. record { trees_so = i.trees_so; up-so = i.up-so; newest_so = λ b h. newest_at v t.number k b h (i.newest_so b) })

rolls : (lax : Bool) (r : Rules) (es : List Event) (t : Tree) → tree_of t.number (run lax r es).trees ≡ NoTree → looks r.bridges t ≡ true → (k : ℕ) →
    Rolled (run lax r es) (run lax r (rolled t k ++ es)) t k
unfolding rolled run
rolls lax r es t new l zero = subst (λ (f : Found). Rolled (run lax r es) (announce_if t f (run lax r es)) t 0) (sym new)
    (record { trees_so = refl; up-so = refl; newest_so = λ b h. absurd (omega arith) })
rolls lax r es t new l (suc k) = adopts lax r (run lax r es) (run lax r (rolled t k ++ es)) t k l (rolls lax r es t new l k)

pub can_rest : (lax : Bool) (r : Rules) (es : List Event) → 0 < r.bridges → ((b : ℕ) → b < r.bridges → Linked r (run lax r es) b) →
    (fs : List Event) × T (only_trees fs) × (length fs ≤ suc r.bridges) × (t : Tree) × (looks r.bridges t ≡ true) × Rests r (run lax r (fs ++ es)) t
can_rest lax r es some all = (
  rolled t n,
  rolled_trees t n,
  omega (arith, rolled_length t n),
  t,
  fine,
  record {
    there = subst (λ (ts : List Tree). tree_of t.number ts ≡ This t) (sym i.trees_so) (found_first t w.trees);
    newest = i.newest_so;
    links = λ b c h k j. subst (λ (u : ℕ → ℕ → Bool). u b c ≡ true) (sym i.up-so) (Sp.spanning_links n w.up s t.number b c h k j);
    inside = Sp.spanning_inside n w.up s t.number;
    top = 0;
    together = Sp.spanning_together n w.up s t.number;
  },
)
  where
    n : ℕ
    n = r.bridges

    w : World
    w = run lax r es

    s : Sp.Spanning n w.up
    s = Sp.spanning n w.up some (λ b h. reached r w (all b h))

    t : Tree
    t = Sp.tree_by (fresh w.trees) s

    fine : looks n t ≡ true
    fine = Sp.spanning_looks n w.up s t.number

    i : Rolled w (run lax r (rolled t n ++ es)) t n
    i = rolls lax r es t (fresh_no t.number w.trees (omega arith)) fine n
