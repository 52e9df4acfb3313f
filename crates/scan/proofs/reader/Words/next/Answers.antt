use Rattle.scan.proofs.Wording.{takes, cut_word}
use Rattle.scan.proofs.reader.Words.next.Goals as goal

pub returns : goal.returns
returns c =
    let cut = cut_word c.args.self.now.rest.now _ c.skip.ensures c.run.ensures.value c.split_at.ensures.front c.split_at.ensures.back in
    record { cases = takes c.args.self.now.rest.now _ c.split_at.result.0 c.then_some.result c.is_empty.result cut.0 cut.1 c.is_empty.ensures c.then_some.ensures; after = cut.1 }
