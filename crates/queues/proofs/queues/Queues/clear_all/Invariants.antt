use Rattle.std.proofs.Common.{◌≡◌, ◌++◌, map, length, take, drop}
use Rattle.queues.specs.Port.{port_of, emptied}
use Rattle.queues.specs.Ports.{ports_of}
use Rattle.queues.proofs.queues.Queues.clear_all.Given as goal

abbrev pub invariant-loop-queue : goal.invariant-loop-queue
invariant-loop-queue l = record {
  long : length l.queue-items ≡ 16;
  so : map port_of l.queue-items ≡ map emptied (take l.queue-index (ports_of l.fn.self)) ++ drop l.queue-index (ports_of l.fn.self);
}
