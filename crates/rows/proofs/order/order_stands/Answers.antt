use Rattle.rows.proofs.Orders.{in_order, accounted, nothing_lost, never_above_16}
use Rattle.rows.proofs.order.order_stands.Goals as goal

pub returns : goal.returns
returns c = record { order = in_order; accounted = accounted; whole = nothing_lost; small = never_above_16 }
