-- Lists of events that happen one after another, to any world.
use Rattle.std.proofs.Common.{◌≡◌, ℕ, zero, suc, Bool, false, cond, ◌&&◌, eqb, ltb, List, [], ◌∷◌, ◌++◌, sym, refl, ap, ◌∙◌, subst, arith}
use native.Mathlib.Decide.{ℕ_discrete}
use Rattle.std.proofs.lemmas.Bool.Decides.{nat_tests}
use Rattle.trees.specs.Tree.{Tree, is_in}
use Rattle.bridges.specs.Net.{Where, Unknown, World, Found, NoTree, This}
use Rattle.bridges.specs.Fabric.{Event, Believe, Forget, happen, run}
use Rattle.forwarding.specs.State.{is_tree}
use Rattle.network.specs.Network.{rules}

-- the latest first
unfoldable pub follow : List Event → World → World
follow [] w = w
follow (e ∷ es) w = happen false rules e (follow es w)

pub run-follow : (fs es : List Event) → run false rules (fs ++ es) ≡ follow fs (run false rules es)
unfolding run follow
run-follow [] es = refl
run-follow (e ∷ fs) es = ap (happen false rules e) (run-follow fs es)

pub follow-append : (fs es : List Event) (w : World) → follow (fs ++ es) w ≡ follow fs (follow es w)
unfolding follow
follow-append [] es w = refl
follow-append (e ∷ fs) es w = ap (happen false rules e) (follow-append fs es w)

-- a world in which bridges have learnt something else, or have other beliefs of their links
abbrev pub relearnt : (ℕ → ℕ → ℕ → Where) → World → World
relearnt f w = record { home = w.home; up = w.up; trees = w.trees; holds = w.holds; learned = f; copies = w.copies; got = w.got; next = w.next }

abbrev pub believed : (ℕ → ℕ → Bool) → World → World
believed f w = record { home = w.home; up = f; trees = w.trees; holds = w.holds; learned = w.learned; copies = w.copies; got = w.got; next = w.next }

relearnt-path : (f g : ℕ → ℕ → ℕ → Where) (w : World) → ((p t q : ℕ) → f p t q ≡ g p t q) → relearnt f w ≡ relearnt g w
relearnt-path f g w h = ap (λ k. relearnt k w) (λ i p t q. h p t q i)

believed-path : (f g : ℕ → ℕ → Bool) (w : World) → ((p q : ℕ) → f p q ≡ g p q) → believed f w ≡ believed g w
believed-path f g w h = ap (λ k. believed k w) (λ i p q. h p q i)

-- a bridge forgets some stations along a tree, if there is one
unfoldable pub forgets_all : ℕ → ℕ → List ℕ → List Event
forgets_all b n [] = []
forgets_all b n (q ∷ qs) = Forget b n q ∷ forgets_all b n qs

abbrev pub forgets_in : ℕ → Found → List ℕ → List Event
forgets_in b NoTree qs = []
forgets_in b (This t) qs = forgets_all b t.number qs

abbrev pub forgot_in : ℕ → Found → List ℕ → (ℕ → ℕ → ℕ → Where) → ℕ → ℕ → ℕ → Where
forgot_in b tree qs f p t q = cond (eqb p b && (is_tree t tree && is_in q qs)) Unknown (f p t q)

forget_more : (b n s p t q : ℕ) (qs : List ℕ) (k : Where) →
    cond (eqb p b && (eqb t n && eqb q s)) Unknown (cond (eqb p b && (eqb n t && is_in q qs)) Unknown k) ≡ cond (eqb p b && (eqb n t && is_in q (s ∷ qs))) Unknown k
unfolding is_in
forget_more b n s p t q qs k = grind (arith, nat_tests)

forgets_all_lem : (b : ℕ) (u : Tree) (qs : List ℕ) (w : World) → follow (forgets_all b u.number qs) w ≡ relearnt (forgot_in b (This u) qs w.learned) w
unfolding follow forgets_all is_in
forgets_all_lem b u [] w = relearnt-path w.learned (forgot_in b (This u) [] w.learned) w (λ p t q. grind (arith, nat_tests))
forgets_all_lem b u (s ∷ qs) w = ap (happen false rules (Forget b u.number s)) (forgets_all_lem b u qs w) ∙
    relearnt-path _ (forgot_in b (This u) (s ∷ qs) w.learned) w (λ p t q. forget_more b u.number s p t q qs (w.learned p t q))

pub forgets_so : (b : ℕ) (tree : Found) (qs : List ℕ) (w : World) → follow (forgets_in b tree qs) w ≡ relearnt (forgot_in b tree qs w.learned) w
unfolding follow
forgets_so b NoTree qs w = relearnt-path w.learned (forgot_in b NoTree qs w.learned) w (λ p t q. grind (arith, nat_tests))
forgets_so b (This u) qs w = forgets_all_lem b u qs w

-- a bridge believes something of its links to the first k bridges
unfoldable pub believes_all : ℕ → (ℕ → Bool) → ℕ → List Event
believes_all b f zero = []
believes_all b f (suc c) = Believe b c (f c) ∷ believes_all b f c

abbrev pub beliefs : ℕ → (ℕ → Bool) → ℕ → (ℕ → ℕ → Bool) → ℕ → ℕ → Bool
beliefs b f k up p c = cond (eqb p b && ltb c k) (f c) (up p c)

believe_more : (b k p c : ℕ) (f : ℕ → Bool) (v : Bool) → cond (eqb p b && eqb c k) (f k) (cond (eqb p b && ltb c k) (f c) v) ≡ cond (eqb p b && ltb c (suc k)) (f c) v
believe_more b k p c f v = grind (arith, nat_tests)

pub believes_so : (b : ℕ) (f : ℕ → Bool) (k : ℕ) (w : World) → follow (believes_all b f k) w ≡ believed (beliefs b f k w.up) w
unfolding follow believes_all
believes_so b f zero w = believed-path w.up (beliefs b f 0 w.up) w (λ p c. grind (arith, nat_tests))
believes_so b f (suc k) w = ap (happen false rules (Believe b k (f k))) (believes_so b f k w) ∙
    believed-path _ (beliefs b f (suc k) w.up) w (λ p c. believe_more b k p c f (w.up p c))

-- and so do all of the first k bridges
unfoldable pub believes_up_to : (ℕ → ℕ → Bool) → ℕ → ℕ → List Event
believes_up_to f m zero = []
believes_up_to f m (suc b) = believes_all b (f b) m ++ believes_up_to f m b

believe_bridge : (f : ℕ → ℕ → Bool) (m k p c : ℕ) (v : Bool) →
    cond (eqb p k && ltb c m) (f k c) (cond (ltb p k && ltb c m) (f p c) v) ≡ cond (ltb p (suc k) && ltb c m) (f p c) v
believe_bridge f m k p c v = elim (ℕ_discrete p k) [
  | yes h ↦ subst (λ p. cond (eqb p k && ltb c m) (f k c) (cond (ltb p k && ltb c m) (f p c) v) ≡ cond (ltb p (suc k) && ltb c m) (f p c) v) (sym h) (grind (arith, nat_tests))
  | no h ↦ grind (arith, nat_tests)
]

pub believes_up_to_lem : (f : ℕ → ℕ → Bool) (m k : ℕ) (w : World) → follow (believes_up_to f m k) w ≡ believed (λ p c. cond (ltb p k && ltb c m) (f p c) (w.up p c)) w
unfolding follow believes_up_to
believes_up_to_lem f m zero w = believed-path w.up (λ p c. cond (ltb p 0 && ltb c m) (f p c) (w.up p c)) w (λ p c. grind (arith, nat_tests))
believes_up_to_lem f m (suc k) w = follow-append (believes_all k (f k) m) (believes_up_to f m k) w ∙ (ap (follow (believes_all k (f k) m)) (believes_up_to_lem f m k w) ∙
    (believes_so k (f k) m _ ∙ believed-path _ (λ p c. cond (ltb p (suc k) && ltb c m) (f p c) (w.up p c)) w (λ p c. believe_bridge f m k p c (w.up p c))))
