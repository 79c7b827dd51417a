use Rattle.std.proofs.Common.{◌∙◌}
use Rattle.names.proofs.Theorems.{one-length}
use Rattle.index_file.proofs.AskedName.is.Goals as goal

pub returns-then-self : goal.returns-then-self
returns-then-self c = let a = c.args.self in c.same.ensures ∙ one-length a.bytes.now _ a.has_size.0 a.has_size.1 c.if-self.true
