-- A script read line by line.
use Rattle.std.specs.Prelude.{◌≡◌, ℕ, ◌+◌, ◌-◌, ◌^◌, ◌<◌, min, List, [], ◌++◌, length, take, drop, codes, decimal, Some, None, Ok, Err, Option, Result}
use Rattle.std.specs.List.{prefix_len}
use Rattle.scan.specs.declared.bytes.Kind.TheVariants.{Line}
use Rattle.scan.specs.Bytes.{is_of}
use Rattle.script.specs.declared.faults.Expected.{Expected}
use Rattle.script.specs.declared.lines.Command.{Command}
use Rattle.script.specs.Faults.{words_for}
use Rattle.script.specs.Grammar.{thus, meant, command_of}
use Rattle.layout.specs.declared.session.Fault.{Fault}
use Rattle.layout.specs.declared.session.Session.{Session}
use Rattle.layout.specs.Net.{State, state_of, applied}

-- the line in front of a text, up to a line feed or the end
abbrev pub line_in : List ℕ → List ℕ
line_in bs = take (prefix_len (is_of Line) bs) bs

-- what stands after the line in front
abbrev pub after_line : List ℕ → List ℕ
after_line bs = drop (prefix_len (is_of Line) bs + 1) bs

-- lines are counted up to the largest number of 64 bits
abbrev pub number_after : ℕ → ℕ
number_after n = min (n + 1) (2 ^ 64 - 1)

-- what is not read yet
abbrev pub unread_of : Session → List ℕ
unread_of s = s.rest.now

-- a fault in words
abbrev pub told : Fault → List ℕ
told f = codes "line " ++ decimal f.line ++ codes ": fault " ++ decimal 10 ++ codes ": expected " ++ words_for f.expected

-- a line is read and done, or the net stays as it was
abbrev pub Stepped : State → List ℕ → Result Command Expected → State → Type 0
Stepped s line (Ok c) t = (command_of line ≡ Ok (meant c)) × (applied s (meant c) ≡ Ok t)
Stepped s line (Err e) t = (thus (command_of line) (λ c. applied s c) ≡ Err e) × (t ≡ s)

-- at the end of the script nothing is read; a fault ends it
abbrev pub Reads : Session → Option (Result Command Fault) → Session → Type 0
Reads s None t = (s.rest.now ≡ []) × (t.rest.now ≡ []) × (t.line ≡ s.line) × (state_of t.layout ≡ state_of s.layout)
Reads s (Some (Ok c)) t =
    (0 < length s.rest.now) × Stepped (state_of s.layout) (line_in s.rest.now) (Ok c) (state_of t.layout)
    × (t.line ≡ number_after s.line) × (t.rest.now ≡ after_line s.rest.now)
Reads s (Some (Err f)) t =
    (0 < length s.rest.now) × Stepped (state_of s.layout) (line_in s.rest.now) (Err f.expected) (state_of t.layout)
    × (t.line ≡ number_after s.line) × (f.line ≡ t.line) × (t.rest.now ≡ [])
