-- A record, used by no other proof: the commands of two ports, and those of a box, read by one definition, mean what each would say by itself.
use Rattle.std.proofs.Common.{◌≡◌, ℕ, List, Ok, Err, Result, refl, ◌∙◌}
use Rattle.scan.specs.declared.parts.PortRef.{PortRef}
use Rattle.scan.specs.Parts.{number_in, port_of}
use Rattle.script.specs.declared.faults.Expected.{Expected}
use Rattle.script.specs.declared.faults.Expected.TheVariants as expected
use Rattle.script.specs.Grammar.{Said, cable, pull, fall, start, part, tail, ended, thus, all_said, box, port, one_box_of, two_ports_of, cable_of, pull_of, fall_of, start_of}

thus_thus : {A B C : Type 0} (r : Result A Expected) (f : A → Result B Expected) (g : B → Result C Expected) → thus (thus r f) g ≡ thus r (λ x. thus (f x) g)
thus_thus (Ok x) f g = refl
thus_thus (Err e) f g = refl

module _ (ws : List (List ℕ)) where
  two_ports : (said : PortRef → PortRef → Said) → thus (two_ports_of ws) (λ r. Ok (said r.0 r.1)) ≡ port ws (λ p ws. port ws (λ q ws. all_said ws (said p q)))
  two_ports said =
      let say : PortRef × PortRef → Result Said Expected = λ r. Ok (said r.0 r.1) in
      let one : Result PortRef Expected = part port_of expected.PortName ws in
      let other : Result PortRef Expected = part port_of expected.PortName (tail ws) in
      let end : Result (Unit {0}) Expected = ended (tail (tail ws)) in
      thus_thus one (λ p. thus other (λ q. thus end (λ _. Ok (p, q)))) say
      ∙ (λ i. thus one (λ p. (thus_thus other (λ q. thus end (λ _. Ok (p, q))) say ∙ (λ j. thus other (λ q. thus_thus end (λ _. Ok (p, q)) say j))) i))

  one_box : (said : ℕ → Said) → thus (one_box_of ws) (λ n. Ok (said n)) ≡ box ws (λ n ws. all_said ws (said n))
  one_box said =
      let say : ℕ → Result Said Expected = λ n. Ok (said n) in
      let node : Result ℕ Expected = part (number_in 0 5) expected.BoxNumber ws in
      let end : Result (Unit {0}) Expected = ended (tail ws) in
      thus_thus node (λ n. thus end (λ _. Ok n)) say
      ∙ (λ i. thus node (λ n. thus_thus end (λ _. Ok n) say i))

  pub same_cable : cable_of ws ≡ port ws (λ p ws. port ws (λ q ws. all_said ws (cable p q)))
  same_cable = two_ports cable

  pub same_pull : pull_of ws ≡ port ws (λ p ws. port ws (λ q ws. all_said ws (pull p q)))
  same_pull = two_ports pull

  pub same_fall : fall_of ws ≡ box ws (λ n ws. all_said ws (fall n))
  same_fall = one_box fall

  pub same_start : start_of ws ≡ box ws (λ n ws. all_said ws (start n))
  same_start = one_box start
