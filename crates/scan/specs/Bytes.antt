-- The kinds of bytes of a script.
use Rattle.std.specs.Prelude.{ℕ, Bool, not, ◌&&◌, ◌||◌, ◌==◌, nat_le}
use Rattle.scan.specs.declared.bytes.Kind.{Kind}
use Rattle.scan.specs.declared.bytes.Kind.TheVariants.{Blank, Solid, Plain, Code, Line, Digit, BoxDigit, Letter}

-- space, tab and carriage return
abbrev pub blank : ℕ → Bool
blank b = b == 32 || b == 9 || b == 13

abbrev pub between : ℕ → ℕ → ℕ → Bool
between low high b = nat_le low b && nat_le b high

abbrev pub is_of : Kind → ℕ → Bool
is_of Blank b = blank b
is_of Solid b = not (blank b)
-- a character that is printed, or a blank
is_of Plain b = between 32 126 b || blank b
-- what stands before a comment
is_of Code b = not (b == 35)
-- what stands before the end of a line
is_of Line b = not (b == 10)
is_of Digit b = between 48 57 b
-- the number of a box
is_of BoxDigit b = between 48 53 b
-- what a name is made of
is_of Letter b = between 97 122 b || between 65 90 b || between 48 57 b || b == 45
