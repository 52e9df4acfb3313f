-- A record, used by no other proof: `fallen` and `started`, by one rule for both ways, mean what a table for each would say.
use Rattle.std.proofs.Common.{◌≡◌, ℕ, cond, List, Ok, Err, Result, refl}
use Rattle.script.specs.declared.faults.Expected.{Expected}
use Rattle.script.specs.declared.faults.Expected.TheVariants as expected
use Rattle.script.specs.Grammar.{thus}
use Rattle.wiring.specs.declared.boxes.Power.{Power}
use Rattle.wiring.specs.declared.boxes.Power.TheVariants as power
use Rattle.wiring.specs.declared.boxes.Node.{Node}
use Rattle.wiring.specs.Boxes.{power_at, with_power}
use Rattle.wiring.specs.Rules.{want_box, is_same, fallen, started}

abbrev fallen_from : Power → Result (List Node) Expected → Result (List Node) Expected
fallen_from power.Absent x = Err expected.BoxThere
fallen_from power.On x = x
fallen_from power.Off x = Err expected.BoxOn

abbrev started_from : Power → Result (List Node) Expected → Result (List Node) Expected
started_from power.Absent x = Err expected.BoxThere
started_from power.On x = Err expected.BoxOff
started_from power.Off x = x

module _ (ns : List Node) (n : ℕ) where
  pub same_fallen : fallen ns n ≡ fallen_from (power_at ns n) (Ok (with_power ns n power.Off))
  same_fallen = go (power_at ns n) (Ok (with_power ns n power.Off))
    where
      go : (p : Power) (x : Result (List Node) Expected) → thus (want_box p) (λ _. cond (is_same p power.Off) (Err expected.BoxOn) x) ≡ fallen_from p x
      go power.Absent x = refl
      go power.On x = refl
      go power.Off x = refl

  pub same_started : started ns n ≡ started_from (power_at ns n) (Ok (with_power ns n power.On))
  same_started = go (power_at ns n) (Ok (with_power ns n power.On))
    where
      go : (p : Power) (x : Result (List Node) Expected) → thus (want_box p) (λ _. cond (is_same p power.On) (Err expected.BoxOff) x) ≡ started_from p x
      go power.Absent x = refl
      go power.On x = refl
      go power.Off x = refl
