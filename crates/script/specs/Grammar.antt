-- The commands of a script, and the words that give them.
use Rattle.std.specs.Prelude.{◌≡◌, ℕ, ◌-◌, cond, List, [], ◌∷◌, length, take, Some, None, Ok, Err, codes, Option, Result}
use Rattle.std.specs.Borrow.{Bor}
use Rattle.std.specs.Option.{ok_or}
use Rattle.std.specs.Str.{bytes_eq}
use Rattle.scan.specs.declared.parts.PortRef.{PortRef}
use Rattle.script.specs.declared.faults.Expected.{Expected}
use Rattle.script.specs.declared.faults.Expected.TheVariants as expected
use Rattle.script.specs.declared.lines.Command.{Command}
use Rattle.script.specs.declared.lines.Command.TheVariants as command
use Rattle.script.specs.declared.lines.Target.{Target}
use Rattle.script.specs.declared.lines.Target.TheVariants as target
use Rattle.std.specs.List.{prefix_len, suffix_len, list_all}
use Rattle.scan.specs.declared.bytes.Kind.TheVariants.{Blank, Plain, Code}
use Rattle.script.specs.declared.verbs.Verb.{Verb}
use Rattle.script.specs.declared.verbs.Verb.TheVariants as verb
use Rattle.script.specs.Verbs.{verb_of}
use Rattle.scan.specs.Bytes.{between, is_of}
use Rattle.scan.specs.Words.{words_of, after_of, skipped}
use Rattle.scan.specs.Parts.{is_name, number_in, port_of, name_of, address_of, parents_of}

-- to whom a station sends
pub data Aim : Type 0 where
  everyone : Aim
  one : List ℕ → Aim

-- what a line says
pub data Said : Type 0 where
  blank : Said
  -- box, ports, bridge number
  bridge : ℕ → ℕ → ℕ → Said
  -- port, vlan
  access : PortRef → ℕ → Said
  cable : PortRef → PortRef → Said
  pull : PortRef → PortRef → Said
  -- name, address, port
  station : List ℕ → List ℕ → PortRef → Said
  move : List ℕ → PortRef → Said
  -- from, to, text
  send : List ℕ → Aim → List ℕ → Said
  tick : ℕ → Said
  -- port, packets
  lose : PortRef → ℕ → Said
  fall : ℕ → Said
  start : ℕ → Said
  rest : Said
  -- sequence number, box, the box above each box
  tree : ℕ → ℕ → List ℕ → Said
  -- box, sequence number
  adopt : ℕ → ℕ → Said

abbrev pub aimed : Target → Aim
aimed target.All = everyone
aimed (target.Station n) = one n.now

-- what a command of the code says
abbrev pub meant : Command → Said
meant command.Blank = blank
meant (command.Bridge n p k) = bridge n p k
meant (command.Access p v) = access p v
meant (command.Cable p q) = cable p q
meant (command.Pull p q) = pull p q
meant (command.Station n a p) = station n.now a p
meant (command.Move n p) = move n.now p
meant (command.Send a b t) = send a.now (aimed b) t.now
meant (command.Tick n) = tick n
meant (command.Lose p n) = lose p n
meant (command.Fall n) = fall n
meant (command.Start n) = start n
meant command.Rest = rest
meant (command.Tree q n ps) = tree q n ps
meant (command.Adopt n q) = adopt n q

abbrev pub told : Result Command Expected → Result Said Expected
told (Ok c) = Ok (meant c)
told (Err e) = Err e

-- the first word, read; else what was expected
unfoldable pub part : {A : Type 0} → (List ℕ → Option A) → Expected → List (List ℕ) → Result A Expected
part f e [] = Err e
part f e (w ∷ ws) = ok_or (f w) e

-- the same, where R says what the first word may give
abbrev pub IsPart : {A : Type 0} → (Bor (List ℕ) → Option A → Type 0) → Expected → List (List ℕ) → Result A Expected → Type 0
IsPart R e [] r = r ≡ Err e
IsPart {A} R e (w ∷ ws) r = (b : Bor (List ℕ)) × (o : Option A) × (b.now ≡ w) × R b o × (r ≡ ok_or o e)

unfoldable pub tail : List (List ℕ) → List (List ℕ)
tail [] = []
tail (w ∷ ws) = ws

-- no more words
unfoldable pub ended : List (List ℕ) → Result (Unit {0}) Expected
ended [] = Ok tt
ended (w ∷ ws) = Err expected.End

abbrev pub thus : {A B : Type 0} → Result A Expected → (A → Result B Expected) → Result B Expected
thus (Ok x) k = k x
thus (Err e) k = Err e

-- the first word read, and then the others
abbrev pub reads : {A B : Type 0} → (List ℕ → Option A) → Expected → List (List ℕ) → (A → List (List ℕ) → Result B Expected) → Result B Expected
reads f e ws k = thus (part f e ws) (λ x. k x (tail ws))

-- no more words after what was said
abbrev pub all_said : {A : Type 0} → List (List ℕ) → A → Result A Expected
all_said ws s = thus (ended ws) (λ _. Ok s)

-- BOX, a box
abbrev pub box : {A : Type 0} → List (List ℕ) → (ℕ → List (List ℕ) → Result A Expected) → Result A Expected
box = reads (number_in 0 5) expected.BoxNumber

-- BOX.PORT, a port
abbrev pub port : {A : Type 0} → List (List ℕ) → (PortRef → List (List ℕ) → Result A Expected) → Result A Expected
port = reads port_of expected.PortName

-- NAME, the name of a station
abbrev pub name : List (List ℕ) → (List ℕ → List (List ℕ) → Result Said Expected) → Result Said Expected
name = reads name_of expected.Name

-- nothing, or as NUMBER
abbrev pub numbered : ℕ → ℕ → List (List ℕ) → Result Said Expected
numbered n p [] = Ok (bridge n p n)
numbered n p (w ∷ ws) = cond (bytes_eq w (codes "as")) (reads (number_in 0 127) expected.BridgeNumber ws (λ k ws. all_said ws (bridge n p k))) (Err expected.End)

abbrev pub bridge_of : List (List ℕ) → Result Said Expected
bridge_of ws = box ws (λ n ws. reads (number_in 1 16) expected.PortCount ws (λ p ws. numbered n p ws))

abbrev pub access_of : List (List ℕ) → Result Said Expected
access_of ws = port ws (λ p ws. reads (number_in 1 4094) expected.Vlan ws (λ v ws. all_said ws (access p v)))

-- BOX and nothing more
abbrev pub one_box_of : List (List ℕ) → Result ℕ Expected
one_box_of ws = box ws (λ n ws. all_said ws n)

-- two ports and nothing more
abbrev pub two_ports_of : List (List ℕ) → Result (PortRef × PortRef) Expected
two_ports_of ws = port ws (λ p ws. port ws (λ q ws. all_said ws (p, q)))

abbrev pub cable_of : List (List ℕ) → Result Said Expected
cable_of ws = thus (two_ports_of ws) (λ r. Ok (cable r.0 r.1))

abbrev pub pull_of : List (List ℕ) → Result Said Expected
pull_of ws = thus (two_ports_of ws) (λ r. Ok (pull r.0 r.1))

abbrev pub station_of : List (List ℕ) → Result Said Expected
station_of ws = name ws (λ n ws. reads address_of expected.Address ws (λ a ws. port ws (λ p ws. all_said ws (station n a p))))

abbrev pub move_of : List (List ℕ) → Result Said Expected
move_of ws = name ws (λ n ws. port ws (λ p ws. all_said ws (move n p)))

abbrev pub tick_of : List (List ℕ) → Result Said Expected
tick_of ws = reads (number_in 1 100000) expected.Ticks ws (λ n ws. all_said ws (tick n))

abbrev pub lose_of : List (List ℕ) → Result Said Expected
lose_of ws = port ws (λ p ws. reads (number_in 1 1000) expected.Packets ws (λ n ws. all_said ws (lose p n)))

abbrev pub fall_of : List (List ℕ) → Result Said Expected
fall_of ws = thus (one_box_of ws) (λ n. Ok (fall n))

abbrev pub start_of : List (List ℕ) → Result Said Expected
start_of ws = thus (one_box_of ws) (λ n. Ok (start n))

-- SEQ, a sequence number
abbrev pub sequence : List (List ℕ) → (ℕ → List (List ℕ) → Result Said Expected) → Result Said Expected
sequence = reads (number_in 1 1000) expected.Sequence

abbrev pub tree_of : List (List ℕ) → Result Said Expected
tree_of ws = sequence ws (λ q ws. box ws (λ n ws. reads parents_of expected.Parents ws (λ ps ws. all_said ws (tree q n ps))))

abbrev pub adopt_of : List (List ℕ) → Result Said Expected
adopt_of ws = box ws (λ n ws. sequence ws (λ q ws. all_said ws (adopt n q)))

-- NAME or all
abbrev pub aim_of : List ℕ → Option Aim
aim_of w = cond (bytes_eq w (codes "all")) (Some everyone) (cond (is_name w) (Some (one w)) None)

-- TEXT, of 2 to 1500 bytes
unfoldable pub text_of : List ℕ → Result (List ℕ) Expected
text_of t = cond (between 2 1500 (length t)) (Ok t) (Err expected.Message)

-- what stands after two words
abbrev pub text_in : List ℕ → List ℕ
text_in bs = skipped (after_of (after_of bs))

abbrev pub send_of : List (List ℕ) → List ℕ → Result Said Expected
send_of ws t = name ws (λ n ws. reads aim_of expected.Name ws (λ a ws. thus (text_of t) (λ t. Ok (send n a t))))

abbrev pub rest_of : List (List ℕ) → Result Said Expected
rest_of ws = all_said ws rest

-- what follows the first word of a command, where t is its text
abbrev pub said_by : Verb → List (List ℕ) → List ℕ → Result Said Expected
said_by verb.Bridge ws t = bridge_of ws
said_by verb.Access ws t = access_of ws
said_by verb.Cable ws t = cable_of ws
said_by verb.Pull ws t = pull_of ws
said_by verb.Station ws t = station_of ws
said_by verb.Move ws t = move_of ws
said_by verb.Send ws t = send_of ws t
said_by verb.Tick ws t = tick_of ws
said_by verb.Lose ws t = lose_of ws
said_by verb.Fall ws t = fall_of ws
said_by verb.Start ws t = start_of ws
said_by verb.Rest ws t = rest_of ws
said_by verb.Tree ws t = tree_of ws
said_by verb.Adopt ws t = adopt_of ws

abbrev pub said_for : Option Verb → List (List ℕ) → List ℕ → Result Said Expected
said_for None ws t = Err expected.Command
said_for (Some v) ws t = said_by v ws t

-- the words of a line, where t is what follows its third word
abbrev pub grammar : List (List ℕ) → List ℕ → Result Said Expected
grammar [] t = Ok blank
grammar (w ∷ ws) t = said_for (verb_of w) ws t

-- without blanks at the end
abbrev pub trimmed_of : List ℕ → List ℕ
trimmed_of bs = take (length bs - suffix_len (is_of Blank) bs) bs

-- what stands before a comment
abbrev pub code_of : List ℕ → List ℕ
code_of bs = trimmed_of (take (prefix_len (is_of Code) bs) bs)

-- a line of a script
abbrev pub command_of : List ℕ → Result Said Expected
command_of bs = cond (list_all (is_of Plain) bs) (grammar (words_of (code_of bs)) (text_in (after_of (code_of bs)))) (Err expected.Text)
