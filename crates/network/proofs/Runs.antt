-- Whatever a net of bridges does, the net of the promise does too, in a few events; so all that is promised there holds of it.
use Rattle.std.proofs.Common.{◌≡◌, ℕ, ◌<◌, Bool, true, false, cond, not, ◌&&◌, ltb, List, [], ◌∷◌, ◌++◌, sym, refl, ap, ◌∙◌, subst, inl, inr}
use mathlib.Core.List.Memᴰ
use Rattle.std.proofs.lemmas.Bool.{lt-ltb, ltb-false, cond_both}
use Rattle.trees.specs.Tree.{Tree, looks}
use Rattle.bridges.specs.Net.{World, This, tree_of, without}
use Rattle.bridges.specs.Fabric.{Event, Announce, Adopt, Crash, Lose, begin, run}
use Rattle.bridges.proofs.Guaranteed.{guaranteed}
use Rattle.fdb.specs.Entries.{find}
use Rattle.fdb.specs.Contents.{empty, aged}
use Rattle.ports.specs.declared.port.Port.{Port}
use Rattle.ports.specs.Ports.{ports_of, none_below}
use Rattle.forwarding.specs.State.{is_tree, adopted}
use Rattle.network.specs.Network.{Network, rules, begins, Steps, announces, adopts, links, ages, crashes, plugs, sends, comes, loses, Reached, first, then}
use Rattle.network.specs.Simulation.{Simulates, RunsAsNet, GoesOnAsNet, numbers}
use Rattle.network.proofs.Tables.{remembered-fades}
use Rattle.network.proofs.Onward.{none_beyond}
use Rattle.network.proofs.Tests.{by_test}
use Rattle.network.proofs.Worlds.{follow, run-follow, believed, believes_up_to, believes_up_to_lem}
use Rattle.network.proofs.Standing.{with_bridge, bridge_same}
use Rattle.network.proofs.Learning.{with_tables, forgetting}
use Rattle.network.proofs.Changes.{announcing, crashing, adopting, linking}
use Rattle.network.proofs.Plugging.{plugging}
use Rattle.network.proofs.Arriving.{coming, sending, has_tree}
use Rattle.network.proofs.Steady.{Steady, steady}

as_it_is : (n : Network) (w : World) (b : ℕ) → Simulates n w → Simulates (with_bridge n b (n.bridge b)) w
as_it_is n w b i = subst (λ m. Simulates m w) (sym (bridge_same n b)) i

-- a tree is adopted: what is known along the one that is dropped is forgotten first
take_on : (n : Network) (w : World) (b : ℕ) (t : Tree) → b < 128 → tree_of t.number n.trees ≡ This t → looks 128 t ≡ true → Steady n → Simulates n w →
    (fs : List Event) × Simulates (with_bridge n b (adopted t (n.bridge b))) (follow fs w)
unfolding follow find
take_on n w b t lt known good k i = cond_both (is_tree t.number (n.bridge b).newest.tree) _ _ (λ s. (fs : List Event) × Simulates (with_bridge n b s) (follow fs w)) (λ _. ([], as_it_is n w b i))
    (λ d. (Adopt b t.number ∷ forgot.0, adopting n b (n.bridge b) t (follow forgot.0 w) lt (k.kept b).older-last d known good forgot.1))
  where
    forgot : (fs : List Event) × Simulates (with_bridge n b (with_tables (n.bridge b) (n.bridge b).newest.table empty)) (follow fs w)
    forgot = forgetting n b (n.bridge b) (n.bridge b).newest.table empty w lt (λ q. inl refl) (λ q. inr refl) (as_it_is n w b i)

-- what happens to a net happens in the net of the promise
pub follows : {n m : Network} (w : World) → Steady n → Simulates n w → Steps n m → (fs : List Event) × Simulates m (follow fs w)
unfolding follow
follows {n} w k i (announces t e) = (Announce t ∷ [], announcing n w t e i)
follows {n} w k i (adopts b t lt known good) = take_on n w b t lt known good k i
follows {n} w k i (links b p l lt) = linking n b p l (n.bridge b) w lt (as_it_is n w b i)
follows {n} w k i (ages b tick lt) = forgetting n b (n.bridge b) (aged tick (n.bridge b).newest.table) (aged tick (n.bridge b).older.table) w lt
    (remembered-fades tick (n.bridge b).newest.table.entries (k.kept b).newest-sorted) (remembered-fades tick (n.bridge b).older.table.entries (k.kept b).older-sorted) (as_it_is n w b i)
follows {n} w k i (crashes b lt) = (Crash b ∷ [], crashing n b (n.bridge b) w lt (as_it_is n w b i))
follows {n} w k i (plugs q pl) = plugging n q pl w i
follows {n} w k i (sends q to tick lt here lq lto same has) = let t = has_tree (n.bridge (n.plug q).bridge).newest.tree has in sending n w q to tick i k lt here lq lto t.0 t.1
follows {n} w k i (comes j tick x e) = coming n w j tick x i k e
follows {n} w k i (loses j) = (
  Lose j ∷ [],
  record {
    holds_so = i.holds_so;
    held_so = i.held_so;
    learned_so = i.learned_so;
    links_so = i.links_so;
    home_so = i.home_so;
    trees_so = i.trees_so;
    flying_so = ap (without j) i.flying_so;
    got_so = i.got_so;
    next_so = i.next_so;
  },
)

-- at first each bridge comes to believe what its ports say
abbrev believes_first : (ℕ → List Port) → ℕ → ℕ → Bool
believes_first ports b c = not (none_below (ports_of (ports b)) c 16)

begins-so : (ports : ℕ → List Port) → Simulates (begins ports) (believed (λ b c. cond (ltb b 128 && ltb c 128) (believes_first ports b c) false) (begin false rules))
unfolding numbers find
begins-so ports = record {
  holds_so = λ b lt. refl;
  held_so = λ b t lt m. absurd (Memᴰ.not-nil m);
  learned_so = λ b t q lt. refl;
  links_so = λ b c lt. rw (lt-ltb b 128 lt) (by_test (ltb c 128) (λ v. believes_first ports b c ≡ cond v (believes_first ports b c) false) (λ _. refl)
      (λ e. ap not (none_beyond (ports b) c 16 (ltb-false c 128 e))));
  home_so = λ q. refl;
  trees_so = refl;
  flying_so = refl;
  got_so = refl;
  next_so = refl;
}

stands_for : (ports : ℕ → List Port) {n : Network} → Reached ports n → (es : List Event) × Simulates n (run false rules es)
unfolding run
stands_for ports first = (
  believes_up_to (believes_first ports) 128 128 ++ [],
  subst (λ u. Simulates (begins ports) u) (sym (run-follow (believes_up_to (believes_first ports) 128 128) [] ∙ believes_up_to_lem (believes_first ports) 128 128 (begin false rules)))
      (begins-so ports),
)
stands_for ports (then {n} {m} r s) = let e = stands_for ports r in let f = follows (run false rules e.0) (steady ports r) e.1 s in (f.0 ++ e.0, subst (λ u. Simulates m u) (sym (run-follow f.0 e.0)) f.1)

pub runs_as_net : RunsAsNet
runs_as_net ports n r = let e = stands_for ports r in (e.0, e.1, guaranteed false rules e.0)

pub goes_on_as_net : GoesOnAsNet
goes_on_as_net ports n m r s es i = let f = follows (run false rules es) (steady ports r) i s in (f.0, subst (λ u. Simulates m u) (sym (run-follow f.0 es)) f.1)
