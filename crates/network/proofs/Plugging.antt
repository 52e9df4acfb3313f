-- A station is plugged in somewhere else: what bridges know of it at a port of theirs is then right, or a dead end.
use Rattle.std.proofs.Common.{◌≡◌, ℕ, zero, suc, ◌<◌, ◌≤◌, Bool, true, false, cond, ◌&&◌, eqb, ltb, List, [], ◌∷◌, ◌++◌, sym, refl, ap, ◌∙◌, subst, arith}
use native.Mathlib.Decide.{ℕ_discrete}
use Rattle.std.proofs.lemmas.Bool.Decides.{nat_tests}
use Rattle.std.proofs.lemmas.Bool.{eq-eqb, ne_eqb}
use Rattle.bridges.specs.Net.{Where, Here, Behind, World, Found, NoTree, This, at}
use Rattle.bridges.specs.Fabric.{Event, Move, Turn, turned}
use Rattle.ports.specs.Ports.{ports_of}
use Rattle.ports.specs.Outward.{serves}
use Rattle.ports.specs.Places.{Place, Nowhere, AtPort, Toward}
use Rattle.forwarding.specs.State.{State, is_tree, look_in}
use Rattle.network.specs.Network.{Network, Plug, vlan_of}
use Rattle.network.specs.Simulation.{place_in, where_is, home_of, Simulates}
use Rattle.network.proofs.Tests.{by_test, by_eq}
use Rattle.network.proofs.Worlds.{follow, follow-append, relearnt}
use Rattle.network.proofs.Standing.{Stands, stands, simulates}

-- is the port that a bridge knows the one where the station is now
abbrev is_there : ℕ → Plug → ℕ → Bool
is_there b pl i = eqb pl.bridge b && eqb pl.port i

turn_at : ℕ → Plug → ℕ → ℕ → Place → List Event
turn_at b pl q t Nowhere = []
turn_at b pl q t (AtPort i) = Turn b t q (is_there b pl i) ∷ []
turn_at b pl q t (Toward c) = []

abbrev retold : ℕ → Plug → Place → Where → Where
retold b pl Nowhere k = k
retold b pl (AtPort i) k = turned b (is_there b pl i) k
retold b pl (Toward c) k = k

-- along one tree of a bridge, if there is one
abbrev turn_in : ℕ → Plug → ℕ → State → Found → List Event
turn_in b pl q s NoTree = []
turn_in b pl q s (This t) = turn_at b pl q t.number (place_in s t.number q)

abbrev turned_in : ℕ → Plug → ℕ → State → Found → (ℕ → ℕ → ℕ → Where) → ℕ → ℕ → ℕ → Where
turned_in b pl q s tree f p t r = cond (eqb p b && (is_tree t tree && eqb r q)) (retold b pl (place_in s t q) (f p t r)) (f p t r)

turn_world : (b : ℕ) (pl : Plug) (q : ℕ) (s : State) (tree : Found) (w : World) → follow (turn_in b pl q s tree) w ≡ relearnt (turned_in b pl q s tree w.learned) w
unfolding follow turn_at
turn_world b pl q s NoTree w = ap (λ f. relearnt f w) (λ i p t r. same p t r i)
  where
    same : (p t r : ℕ) → w.learned p t r ≡ turned_in b pl q s NoTree w.learned p t r
    same p t r = grind (arith, nat_tests)
turn_world b pl q s (This u) w = go (place_in s u.number q) refl
  where
    test : ℕ → ℕ → ℕ → Bool
    test p t r = eqb p b && (eqb u.number t && eqb r q)

    -- along that tree the place is the one that was looked at
    at-tree : (k : Place) → place_in s u.number q ≡ k → (f : ℕ → ℕ → ℕ → Where) (p t r : ℕ) → cond (test p t r) (retold b pl k (f p t r)) (f p t r) ≡ turned_in b pl q s (This u) f p t r
    at-tree k e f p t r = by_test (eqb p b) (λ v. cond (v && (eqb u.number t && eqb r q)) (retold b pl k (f p t r)) (f p t r) ≡ cond (v && (eqb u.number t && eqb r q)) (retold b pl (place_in s t q) (f p t r)) (f p t r))
        (λ _. elim (ℕ_discrete u.number t) [
          | yes h ↦ subst (λ t. cond (eqb u.number t && eqb r q) (retold b pl k (f p t r)) (f p t r) ≡ cond (eqb u.number t && eqb r q) (retold b pl (place_in s t q) (f p t r)) (f p t r)) h
              (ap (λ k. cond (eqb u.number u.number && eqb r q) (retold b pl k (f p u.number r)) (f p u.number r)) (sym e))
          | no h ↦ rw (ne_eqb u.number t h)
        ]) (λ _. refl)

    stay : (k : Where) (p t r : ℕ) → k ≡ cond (test p t r) k k
    stay k p t r = grind (arith, nat_tests)

    turn : (i p t r : ℕ) → cond (eqb p b && (eqb t u.number && eqb r q)) (turned b (is_there b pl i) (w.learned p t r)) (w.learned p t r) ≡ cond (test p t r) (retold b pl (AtPort i) (w.learned p t r)) (w.learned p t r)
    turn i p t r = ap (λ v. cond (eqb p b && (v && eqb r q)) (turned b (is_there b pl i) (w.learned p t r)) (w.learned p t r)) (flip t u.number)
      where
        flip : (a b : ℕ) → eqb a b ≡ eqb b a
        flip a b = grind (arith, nat_tests)

    go : (k : Place) → place_in s u.number q ≡ k → follow (turn_at b pl q u.number k) w ≡ relearnt (turned_in b pl q s (This u) w.learned) w
    go Nowhere e = ap (λ f. relearnt f w) (λ i p t r. (stay (w.learned p t r) p t r ∙ at-tree Nowhere e w.learned p t r) i)
    go (AtPort a) e = ap (λ f. relearnt f w) (λ i p t r. (turn a p t r ∙ at-tree (AtPort a) e w.learned p t r) i)
    go (Toward c) e = ap (λ f. relearnt f w) (λ i p t r. (stay (w.learned p t r) p t r ∙ at-tree (Toward c) e w.learned p t r) i)

-- what is known of the station is put right
retold-once : (b : ℕ) (old pl : Plug) (p : Place) (k : Where) → where_is b old p ≡ k → retold b pl p k ≡ where_is b pl p
retold-once b old pl Nowhere k h = sym h
retold-once b old pl (AtPort i) k h = subst (λ k. turned b (is_there b pl i) k ≡ where_is b pl (AtPort i)) h
    (by_test (is_there b old i) (λ v. turned b (is_there b pl i) (cond v Here (Behind b)) ≡ cond (is_there b pl i) Here (Behind b)) (λ _. refl) (λ _. again (is_there b pl i)))
  where
    again : (v : Bool) → cond (v && eqb b b) Here (Behind b) ≡ cond v Here (Behind b)
    again v = grind (arith, nat_tests)
retold-once b old pl (Toward c) k h = sym h

-- once both trees are looked at
retold-right : (b : ℕ) (old pl : Plug) (m o : Bool) (p r : Place) (k : Where) → where_is b old (cond m p (cond o r Nowhere)) ≡ k →
    where_is b pl (cond m p (cond o r Nowhere)) ≡ cond m (retold b pl (cond m p (cond o r Nowhere)) (cond o (retold b pl (cond m p (cond o r Nowhere)) k) k)) (cond o (retold b pl (cond m p (cond o r Nowhere)) k) k)
retold-right b old pl true true p r k h = sym (ap (retold b pl p) (retold-once b old pl p k h) ∙ retold-once b pl pl p (where_is b pl p) refl)
retold-right b old pl true false p r k h = sym (retold-once b old pl p k h)
retold-right b old pl false true p r k h = sym (retold-once b old pl r k h)
retold-right b old pl false false p r k h = h

and_yes : (v : Bool) → (v && true) ≡ v
and_yes v = grind (arith, nat_tests)

and_no : (v : Bool) → (v && false) ≡ false
and_no v = grind (arith, nat_tests)

module _ (n : Network) (q : ℕ) (pl : Plug) where
  turns_of : ℕ → List Event
  turns_of b = turn_in b pl q (n.bridge b) (n.bridge b).newest.tree ++ turn_in b pl q (n.bridge b) (n.bridge b).older.tree

  abbrev turned_of : ℕ → (ℕ → ℕ → ℕ → Where) → ℕ → ℕ → ℕ → Where
  turned_of b f = turned_in b pl q (n.bridge b) (n.bridge b).newest.tree (turned_in b pl q (n.bridge b) (n.bridge b).older.tree f)

  turns_world : (b : ℕ) (w : World) → follow (turns_of b) w ≡ relearnt (turned_of b w.learned) w
  unfolding turns_of
  turns_world b w = follow-append (turn_in b pl q (n.bridge b) (n.bridge b).newest.tree) _ w ∙
      (ap (follow (turn_in b pl q (n.bridge b) (n.bridge b).newest.tree)) (turn_world b pl q (n.bridge b) (n.bridge b).older.tree w) ∙
      turn_world b pl q (n.bridge b) (n.bridge b).newest.tree (relearnt (turned_in b pl q (n.bridge b) (n.bridge b).older.tree w.learned) w))

  -- a bridge's part, once it is turned
  turned-here : (b : ℕ) (w : World) → Stands n.plug b (n.bridge b) w → Stands (at q pl n.plug) b (n.bridge b) (relearnt (turned_of b w.learned) w)
  turned-here b w i = record {
    holds_so = i.holds_so;
    held_so = i.held_so;
    learned_so = λ t r. rw (eq-eqb b b refl) (by_eq r q
        (λ r v. where_is b (cond v pl (n.plug r)) (place_in (n.bridge b) t r) ≡
        cond (is_tree t (n.bridge b).newest.tree && v) (retold b pl (place_in (n.bridge b) t q) (cond (is_tree t (n.bridge b).older.tree && v) (retold b pl (place_in (n.bridge b) t q) (w.learned b t r)) (w.learned b t r)))
        (cond (is_tree t (n.bridge b).older.tree && v) (retold b pl (place_in (n.bridge b) t q) (w.learned b t r)) (w.learned b t r)))
        (rw (and_yes (is_tree t (n.bridge b).newest.tree), and_yes (is_tree t (n.bridge b).older.tree))
        (retold-right b (n.plug q) pl (is_tree t (n.bridge b).newest.tree) (is_tree t (n.bridge b).older.tree) (look_in (n.bridge b).newest q) (look_in (n.bridge b).older q) (w.learned b t q) (i.learned_so t q)))
        (λ _. rw (and_no (is_tree t (n.bridge b).newest.tree), and_no (is_tree t (n.bridge b).older.tree)) (i.learned_so t r)));
    links_so = i.links_so;
  }

  -- all others stay
  turned-other : (plug : ℕ → Plug) (b c : ℕ) (s : State) (w : World) → (c ≡ b → ⊥) → Stands plug c s w → Stands plug c s (relearnt (turned_of b w.learned) w)
  turned-other plug b c s w k i = record { holds_so = i.holds_so; held_so = i.held_so; learned_so = λ t r. rw (ne_eqb c b k) (i.learned_so t r); links_so = i.links_so }

  abbrev plugged : Network
  plugged = record { bridge = n.bridge; plug = at q pl n.plug; trees = n.trees; flying = n.flying; got = n.got; next = n.next }

  turns_up_to : ℕ → List Event
  turns_up_to zero = []
  turns_up_to (suc b) = turns_of b ++ turns_up_to b

  -- the first k bridges are turned
  record Turning (k : ℕ) (w : World) : Type 0 where
    done : (b : ℕ) → b < 128 → b < k → Stands (at q pl n.plug) b (n.bridge b) w
    left : (b : ℕ) → b < 128 → k ≤ b → Stands n.plug b (n.bridge b) w
    home_so : (r : ℕ) → home_of plugged r ≡ w.home r
    trees_so : n.trees ≡ w.trees
    flying_so : n.flying ≡ w.copies
    got_so : n.got ≡ w.got
    next_so : n.next ≡ w.next

  turning_more : (k : ℕ) (w : World) → Turning k w → Turning (suc k) (relearnt (turned_of k w.learned) w)
  turning_more k w i = record {
    done = λ b lt h. elim (ℕ_discrete b k) [
      | yes e ↦ subst (λ b. b < 128 → Stands (at q pl n.plug) b (n.bridge b) (relearnt (turned_of k w.learned) w)) (sym e) (λ l. turned-here k w (i.left k l (omega arith))) lt
      | no e ↦ turned-other (at q pl n.plug) k b (n.bridge b) w e (i.done b lt (less b h e))
    ];
    left = λ b lt h. turned-other n.plug k b (n.bridge b) w (more b h) (i.left b lt (omega arith));
    home_so = i.home_so;
    trees_so = i.trees_so;
    flying_so = i.flying_so;
    got_so = i.got_so;
    next_so = i.next_so;
  }
    where
      less : (b : ℕ) → b < suc k → (b ≡ k → ⊥) → b < k
      less b h e = omega arith

      more : (b : ℕ) → suc k ≤ b → b ≡ k → ⊥
      more b h e = omega arith

  turning_up : (k : ℕ) (w : World) → Turning 0 w → Turning k (follow (turns_up_to k) w)
  unfolding turns_up_to follow
  turning_up zero w i = i
  turning_up (suc k) w i = subst (λ u. Turning (suc k) u) (sym (follow-append (turns_of k) (turns_up_to k) w ∙ turns_world k (follow (turns_up_to k) w))) (turning_more k (follow (turns_up_to k) w) (turning_up k w i))

  -- the home of a station, by where it is plugged in
  abbrev home_by : Plug → ℕ → ℕ
  home_by at r = cond (ltb at.bridge 128 && (eqb at.bridge at.bridge && serves (ports_of (n.bridge at.bridge).ports at.port) (vlan_of r))) at.bridge 128

  -- a station is plugged in: it moves, and all bridges are turned
  pub plugging : (w : World) → Simulates n w → (fs : List Event) × Simulates plugged (follow fs w)
  unfolding follow
  plugging w i = (
    turns_up_to 128 ++ (Move q (home_of plugged q) ∷ []),
    subst (λ u. Simulates plugged u) (sym (follow-append (turns_up_to 128) (Move q (home_of plugged q) ∷ []) w))
        (let v = turning_up 128 moved start in simulates plugged (follow (turns_up_to 128) moved) (λ b lt. v.done b lt lt) v.home_so v.trees_so v.flying_so v.got_so v.next_so),
  )
    where
      moved : World
      moved = follow (Move q (home_of plugged q) ∷ []) w

      start : Turning 0 moved
      start = record {
        done = λ b lt h. absurd (omega arith);
        left = λ b lt h. stands n w i b lt;
        home_so = λ r. by_eq r q (λ r v. home_by (cond v pl (n.plug r)) r ≡ cond v (home_of plugged q) (w.home r)) (rw (eq-eqb q q refl)) (λ _. i.home_so r);
        trees_so = i.trees_so;
        flying_so = i.flying_so;
        got_so = i.got_so;
        next_so = i.next_so;
      }
