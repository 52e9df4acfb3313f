-- What is said of each fault.
use Rattle.std.specs.Prelude.{ℕ, List, codes}
use Rattle.script.specs.declared.faults.Expected.{Expected}
use Rattle.script.specs.declared.faults.Expected.TheVariants as expected

abbrev pub words_for : Expected → List ℕ
words_for expected.Text = codes "printed characters of ASCII"
words_for expected.Command = codes "a command"
words_for expected.BoxNumber = codes "a box from 0 to 5"
words_for expected.PortCount = codes "a number of ports from 1 to 16"
words_for expected.BridgeNumber = codes "a bridge number from 0 to 127"
words_for expected.PortName = codes "a port, as BOX.PORT"
words_for expected.Vlan = codes "a VLAN from 1 to 4094"
words_for expected.Name = codes "a name of 1 to 16 letters, digits or '-', and not 'all'"
words_for expected.Address = codes "an address of six hex pairs with colons, whose first byte is even"
words_for expected.Message = codes "a text of 2 to 1500 bytes"
words_for expected.Ticks = codes "a number of ticks from 1 to 100000"
words_for expected.Packets = codes "a number of packets from 1 to 1000"
words_for expected.End = codes "the end of the line"
words_for expected.NewBox = codes "a box that is not there yet"
words_for expected.BoxThere = codes "a box that is there"
words_for expected.PortThere = codes "a port that is there, as BOX.PORT"
words_for expected.FreePort = codes "a port that is free"
words_for expected.AccessPort = codes "an access port"
words_for expected.CableThere = codes "a cable that is there"
words_for expected.NewName = codes "a name that no station has yet"
words_for expected.NewAddress = codes "an address that no station has yet"
words_for expected.StationThere = codes "a station that is there"
words_for expected.StationRoom = codes "no more than 32 stations"
words_for expected.BoxOn = codes "a box that is on"
words_for expected.BoxOff = codes "a box that is off"
words_for expected.Sequence = codes "a sequence number from 1 to 1000"
words_for expected.Parents = codes "a word of 1 to 6 digits from 0 to 5"
