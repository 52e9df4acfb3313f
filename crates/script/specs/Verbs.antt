-- The word that begins each command.
use Rattle.std.specs.Prelude.{ℕ, cond, List, Some, None, codes, Option}
use Rattle.std.specs.Str.{bytes_eq}
use Rattle.script.specs.declared.verbs.Verb.{Verb}
use Rattle.script.specs.declared.verbs.Verb.TheVariants as verb

abbrev pub verb_of : List ℕ → Option Verb
verb_of w =
    cond (bytes_eq w (codes "bridge")) (Some verb.Bridge)
    (cond (bytes_eq w (codes "access")) (Some verb.Access)
    (cond (bytes_eq w (codes "cable")) (Some verb.Cable)
    (cond (bytes_eq w (codes "pull")) (Some verb.Pull)
    (cond (bytes_eq w (codes "station")) (Some verb.Station)
    (cond (bytes_eq w (codes "move")) (Some verb.Move)
    (cond (bytes_eq w (codes "send")) (Some verb.Send)
    (cond (bytes_eq w (codes "tick")) (Some verb.Tick)
    (cond (bytes_eq w (codes "lose")) (Some verb.Lose)
    (cond (bytes_eq w (codes "fall")) (Some verb.Fall)
    (cond (bytes_eq w (codes "start")) (Some verb.Start)
    (cond (bytes_eq w (codes "rest")) (Some verb.Rest)
    (cond (bytes_eq w (codes "tree")) (Some verb.Tree)
    (cond (bytes_eq w (codes "adopt")) (Some verb.Adopt) None)))))))))))))
