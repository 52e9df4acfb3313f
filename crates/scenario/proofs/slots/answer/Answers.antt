use Rattle.std.proofs.Common.{◌≡◌, Some, sym, ap, ◌∙◌}
use Rattle.std.specs.Result.{result_ok}
use Rattle.scenario.proofs.slots.answer.Goals as goal

pub returns : goal.returns
returns g c = let held : c.args.slot.now ≡ Some c.in_ok-bridge.bridge = sym c.take.ensures.value ∙ c.ok_or.ensures.ok_part ∙ ap result_ok c.in_ok-bridge.was in rw held c.take_in-bridge.ensures
