-- The whole promise, of its parts. Assumes nothing.
use Rattle.bridges.specs.Guarantee.{Guaranteed}
use Rattle.bridges.proofs.NoRound.{no_round}
use Rattle.bridges.proofs.Twice.{not_twice, once_if_still}
use Rattle.bridges.proofs.Vlan.{right_vlan, one_sender}
use Rattle.bridges.proofs.Learnt.{learnt_right}
use Rattle.bridges.proofs.Arrives.{arrives_once}
use Rattle.bridges.proofs.CanRest.{can_rest}

pub guaranteed : Guaranteed
guaranteed lax r es = record {
  no_round = no_round lax r es;
  not_twice = not_twice lax r es;
  once_if_still = once_if_still lax r es;
  right_vlan = right_vlan lax r es;
  one_sender = one_sender lax r es;
  learnt_right = learnt_right lax r es;
  arrives = arrives_once lax r es;
  can_rest = can_rest lax r es;
}
