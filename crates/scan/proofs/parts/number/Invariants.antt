use Rattle.std.proofs.Common.{◌≡◌, drop}
use Rattle.std.specs.List.{list_all}
use Rattle.scan.specs.declared.bytes.Kind.TheVariants.{Digit}
use Rattle.scan.specs.Bytes.{is_of}
use Rattle.scan.specs.Parts.{value_after}
use Rattle.scan.proofs.parts.number.Given as goal

abbrev pub invariant-loop-b : goal.invariant-loop-b
invariant-loop-b l = record {
  value : value_after l.value (drop l.b-index l.word) ≡ value_after 0 l.word;
  digits : list_all (is_of Digit) (drop l.b-index l.word) ≡ list_all (is_of Digit) l.word;
}
