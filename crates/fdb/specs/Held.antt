-- What a table in memory stands for.
use Rattle.std.specs.Prelude.{List, vec_items}
use Rattle.fdb.specs.declared.table.Table.{Table}
use Rattle.fdb.specs.declared.entry.Entry.{Entry}
use Rattle.fdb.specs.Contents.{Contents}

abbrev pub held : Table → List Entry
held t = vec_items t.entries

abbrev pub contents : Table → Contents
contents t = record { entries = held t; heard = t.heard }
