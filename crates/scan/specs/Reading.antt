-- What a reader has left.
use Rattle.std.specs.Prelude.{ℕ, List}
use Rattle.scan.specs.declared.reader.Words.{Words}
use Rattle.scan.specs.Words.{words_of}

abbrev pub left : Words → List (List ℕ)
left r = words_of r.rest.now

abbrev pub unread : Words → List ℕ
unread r = r.rest.now
