-- What is promised, in the net's own words.
use Rattle.std.proofs.Common.{◌≡◌, ◌≤◌, true, false, List, sym, ap, ◌∙◌, subst}
use mathlib.Core.List.{Memᴰ}
use Rattle.bridges.specs.Promise.{count_got}
use Rattle.bridges.specs.Fabric.{Event, run}
use Rattle.bridges.specs.Guarantee.{Assured, sent_by}
use Rattle.network.specs.Network.{Network, rules, vlan_of}
use Rattle.network.specs.Simulation.{Simulates, Safe, AlwaysSafe}
use Rattle.network.proofs.Runs.{runs_as_net}

safe_if : (n : Network) (es : List Event) → Simulates n (run false rules es) → Assured false rules es → Safe n
safe_if n es i a = record {
  no_round = λ x m. a.no_round x (subst (λ xs. Memᴰ x xs) i.flying_so m);
  not_twice = λ f s b. subst (λ gs. count_got f s b gs ≤ 1) (sym i.got_so) (a.not_twice f s b);
  own_vlan = λ f g h mg mh eg eh.
      let p = a.right_vlan g (subst (λ xs. Memᴰ g xs) i.got_so mg) in
      let q = a.right_vlan h (subst (λ xs. Memᴰ h xs) i.got_so mh) in
      let one = a.one_sender f p.0 p.1 q.0 q.1 (subst (λ k. sent_by false rules es k p.0 p.1 ≡ true) eg p.2) (subst (λ k. sent_by false rules es k q.0 q.1 ≡ true) eh q.2) in
      p.3 ∙ (ap vlan_of one.0 ∙ sym q.3);
}

pub always_safe : AlwaysSafe
always_safe ports n r = let e = runs_as_net ports n r in safe_if n e.0 e.1 e.2
