use Rattle.std.proofs.Common.{rules}
use Rattle.values.proofs.Lines.{sliced}
use Rattle.values.proofs.writing.append_text.Goals as goal

pub returns : goal.returns
returns c =
    let text = sliced c.args.line.now c.args.start c.requires in
    search rules
