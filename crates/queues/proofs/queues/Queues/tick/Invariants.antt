use Rattle.std.proofs.Common.{◌≡◌, ◌++◌, map, length, take, drop}
use Rattle.queues.specs.Port.{port_of, refilled}
use Rattle.queues.specs.Ports.{ports_of}
use Rattle.queues.proofs.queues.Queues.tick.Given as goal

abbrev pub invariant-loop-port : goal.invariant-loop-port
invariant-loop-port l = record {
  long : length l.port-items ≡ 16;
  so : map port_of l.port-items ≡ map refilled (take l.port-index (ports_of l.fn.self)) ++ drop l.port-index (ports_of l.fn.self);
}
