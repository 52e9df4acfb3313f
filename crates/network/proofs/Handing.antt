-- The stations that a bridge's answer hands a frame to are those that get it in the net of the promise.
use Rattle.std.proofs.Common.{◌≡◌, ℕ, zero, suc, ◌<◌, Bool, true, false, cond, not, ◌&&◌, ◌||◌, eqb, ltb, List, [], ◌∷◌, sym, refl, ap, ◌∙◌, subst, arith}
use native.Mathlib.Decide.{ℕ_discrete}
use Rattle.std.proofs.lemmas.Bool.Decides.{nat_tests}
use Rattle.std.proofs.lemmas.Bool.{eq-eqb, ne_eqb, and_right}
use Rattle.trees.specs.Tree.{Tree}
use Rattle.bridges.specs.Net.{Copy, Here, Behind, Got, World}
use Rattle.bridges.specs.Fabric.{may_hand, handed}
use Rattle.ports.specs.Ports.{Kind, ports_of, onward}
use Rattle.ports.specs.Places.{Place, Nowhere, AtPort, Toward, Came, ByPort, ByBridge, not_by_port}
use Rattle.ports.specs.Outward.{serves, may_go_to, out_by}
use Rattle.network.specs.Network.{Network, rules, vlan_of, is_here, getters, reaches, came_by_port}
use Rattle.network.specs.Simulation.{where_is, home_of}
use Rattle.network.proofs.Tests.{by_test}

-- a station is here just if here is its home
pub home_here : (n : Network) (b q : ℕ) → b < 128 → eqb (home_of n q) b ≡ is_here n b q
home_here n b q lt = elim (ℕ_discrete (n.plug q).bridge b) [
  | yes h ↦ subst (λ b. b < 128 → eqb (home_of n q) b ≡ is_here n b q) h (λ lt. here (n.plug q).bridge (serves (ports_of (n.bridge (n.plug q).bridge).ports (n.plug q).port) (vlan_of q)) lt) lt
  | no k ↦ away (n.plug q).bridge b (is_here n (n.plug q).bridge q) (serves (ports_of (n.bridge b).ports (n.plug q).port) (vlan_of q)) k lt
]
  where
    here : (p : ℕ) (s : Bool) → p < 128 → eqb (cond (ltb p 128 && (eqb p p && s)) p 128) p ≡ (eqb p p && s)
    here p s lt = grind (arith, nat_tests)

    away : (p b : ℕ) (s u : Bool) → (p ≡ b → ⊥) → b < 128 → eqb (cond (ltb p 128 && s) p 128) b ≡ (eqb p b && u)
    away p b s u k lt = grind (arith, nat_tests)

-- by the port by which it came, or by another
port_either : (came : Came) (p : ℕ) → (not_by_port came p || came_by_port came p) ≡ true
port_either (ByPort q) p = grind (arith, nat_tests)
port_either (ByBridge b) p = refl

serves-same : (k : Kind) (v u : ℕ) → eqb v u ≡ true → serves k u ≡ serves k v
serves-same k v u e = let h : v ≡ u = grind (arith, nat_tests) in ap (serves k) (sym h)

-- who gets a frame to a station of which nothing is known
all_get : (e sv su vu f nb cb o : Bool) → (nb || cb) ≡ true → (vu ≡ true → su ≡ sv) →
    ((e && sv) && (vu && (f && (((su && nb) || o) || cb)))) ≡ (f && ((e && sv) && (vu && f)))
all_get e sv su true f nb cb o n s = let q = s refl in grind (arith, nat_tests)
all_get e sv su false f nb cb o n s = grind (arith, nat_tests)

-- who gets one to a station that is known to be at a port: that one, if it is there
one_gets : (e sv su vu f nb cb i : Bool) → (nb || cb) ≡ true → (vu ≡ true → su ≡ sv) → i ≡ true →
    ((e && sv) && (vu && (f && ((i && (su && nb)) || (cb && i))))) ≡ (f && ((e && sv) && vu))
one_gets e sv su true f nb cb i n s h = let q = s refl in grind (arith, nat_tests)
one_gets e sv su false f nb cb i n s h = grind (arith, nat_tests)

none_gets : (e sv su vu f nb cb i j : Bool) → (e && j) ≡ false → i ≡ j → ((e && sv) && (vu && (f && ((i && (su && nb)) || (cb && i))))) ≡ false
none_gets e sv su vu f nb cb i j h k = grind (arith, nat_tests)

flip : (a b : ℕ) → eqb a b ≡ eqb b a
flip a b = grind (arith, nat_tests)

module _ (n : Network) (w : World) (x : Copy) (t : Tree) (came : Came) (out : ℕ → Bool) (inside : x.at < 128) (homes : (q : ℕ) → home_of n q ≡ w.home q) where
  gets_one : (k : Place) (q : ℕ) → ((p : ℕ) → out p ≡ out_by (ports_of (n.bridge x.at).ports) x.at t x.frame.colour came k p) →
      (is_here n x.at q && (eqb (vlan_of q) x.frame.colour && (not (eqb q x.frame.from) && reaches out came k x.frame.to q (n.plug q).port))) ≡
      may_hand false rules w x (where_is x.at (n.plug x.frame.to) k) q
  gets_one Nowhere q h =
      rw (h (n.plug q).port, ← homes q, home_here n x.at q inside)
      (all_get (eqb (n.plug q).bridge x.at) (serves (ports_of (n.bridge x.at).ports (n.plug q).port) (vlan_of q)) (serves (ports_of (n.bridge x.at).ports (n.plug q).port) x.frame.colour) (eqb (vlan_of q) x.frame.colour) (not (eqb q x.frame.from)) (not_by_port came (n.plug q).port) (came_by_port came (n.plug q).port)
      (onward (may_go_to x.at t came) (ports_of (n.bridge x.at).ports) (n.plug q).port) (port_either came (n.plug q).port) (serves-same (ports_of (n.bridge x.at).ports (n.plug q).port) (vlan_of q) x.frame.colour))
  gets_one (AtPort i) q h = by_test (eqb (n.plug x.frame.to).bridge x.at && eqb (n.plug x.frame.to).port i) (λ v. side ≡ may_hand false rules w x (cond v Here (Behind x.at)) q) right wrong
    where
      p : ℕ
      p = (n.plug q).port

      e : Bool
      e = eqb (n.plug q).bridge x.at

      sv : Bool
      sv = serves (ports_of (n.bridge x.at).ports p) (vlan_of q)

      su : Bool
      su = serves (ports_of (n.bridge x.at).ports p) x.frame.colour

      vu : Bool
      vu = eqb (vlan_of q) x.frame.colour

      f : Bool
      f = not (eqb q x.frame.from)

      side : Bool
      side = is_here n x.at q && (vu && (f && reaches out came (AtPort i) x.frame.to q p))

      other : (q ≡ x.frame.to → ⊥) → side ≡ false
      other k = rw (ne_eqb q x.frame.to k) (nobody (is_here n x.at q) vu f)
        where
          nobody : (a b c : Bool) → (a && (b && (c && false))) ≡ false
          nobody a b c = grind (arith, nat_tests)

      right : (eqb (n.plug x.frame.to).bridge x.at && eqb (n.plug x.frame.to).port i) ≡ true → side ≡ may_hand false rules w x Here q
      right b = elim (ℕ_discrete q x.frame.to) [
        | yes r ↦ rw (eq-eqb q x.frame.to r, h p, ← homes q, home_here n x.at q inside)
            (one_gets e sv su vu f (not_by_port came p) (came_by_port came p) (eqb i p) (port_either came p) (serves-same (ports_of (n.bridge x.at).ports p) (vlan_of q) x.frame.colour)
            (subst (λ s. eqb i (n.plug s).port ≡ true) (sym r) (there (n.plug x.frame.to).bridge (n.plug x.frame.to).port b)))
        | no k ↦ other k ∙ rw (ne_eqb q x.frame.to k) (sym (and_right f false refl))
      ]
        where
          there : (c o : ℕ) → (eqb c x.at && eqb o i) ≡ true → eqb i o ≡ true
          there c o b = grind (arith, nat_tests)

      wrong : (eqb (n.plug x.frame.to).bridge x.at && eqb (n.plug x.frame.to).port i) ≡ false → side ≡ may_hand false rules w x (Behind x.at) q
      wrong b = elim (ℕ_discrete q x.frame.to) [
        | yes r ↦ rw (eq-eqb q x.frame.to r, h p)
            (none_gets e sv su vu f (not_by_port came p) (came_by_port came p) (eqb i p) (eqb p i) (subst (λ s. (eqb (n.plug s).bridge x.at && eqb (n.plug s).port i) ≡ false) (sym r) b) (flip i p) ∙
            sym (and_right f false refl))
        | no k ↦ other k ∙ sym (and_right f false refl)
      ]
  gets_one (Toward c) q h = nobody (is_here n x.at q) (eqb (vlan_of q) x.frame.colour) (not (eqb q x.frame.from))
    where
      nobody : (a b c : Bool) → (a && (b && (c && false))) ≡ (c && false)
      nobody a b c = grind (arith, nat_tests)

  pub getters-so : (k : Place) → ((p : ℕ) → out p ≡ out_by (ports_of (n.bridge x.at).ports) x.at t x.frame.colour came k p) →
      (m : ℕ) → getters n out came k x m ≡ handed false rules w x (where_is x.at (n.plug x.frame.to) k) m
  unfolding getters handed
  getters-so k h zero = refl
  getters-so k h (suc q) = rw (gets_one k q h, getters-so k h q)

-- nobody gets what goes out by no port, and came from a neighbour
pub none_get : (n : Network) (x : Copy) (b : ℕ) (out : ℕ → Bool) → ((p : ℕ) → out p ≡ false) → (m : ℕ) → getters n out (ByBridge b) Nowhere x m ≡ []
unfolding getters
none_get n x b out h zero = refl
none_get n x b out h (suc q) = rw (h (n.plug q).port, none_get n x b out h q) (dropped (is_here n x.at q) (eqb (vlan_of q) x.frame.colour) (not (eqb q x.frame.from)) _)
  where
    dropped : (a b c : Bool) (g : Got) → cond (a && (b && (c && false))) (g ∷ []) [] ≡ []
    dropped a b c g = grind (arith, nat_tests)

-- who gets a frame doesn't turn on what is under way
pub getters-same : (n : Network) (flying : List Copy) (next : ℕ) (out : ℕ → Bool) (came : Came) (k : Place) (x : Copy) (m : ℕ) →
    getters (record { bridge = n.bridge; plug = n.plug; trees = n.trees; flying = flying; got = n.got; next = next }) out came k x m ≡ getters n out came k x m
unfolding getters
getters-same n flying next out came k x zero = refl
getters-same n flying next out came k x (suc q) = rw (getters-same n flying next out came k x q)
