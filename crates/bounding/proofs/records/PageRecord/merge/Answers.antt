use Rattle.std.proofs.Common.{sym, ◌∙◌, ap₂, rules}
use Rattle.bounding.specs.Record.{merge}
use Rattle.bounding.specs.Walk.{kept}
use Rattle.bounding.proofs.Gathers.{merges}
use Rattle.bounding.proofs.records.PageRecord.merge.Goals as goal

pub returns-clause-law : goal.returns-clause-law
returns-clause-law c h a b p q = ◌∙◌ {b = merge (kept c.args.self.now) (kept c.args.other.now)} (search rules) (ap₂ merge p q ∙ sym (merges h a b))
