use Rattle.bounding.proofs.Exact.{runs-exact, hulls-exact}
use Rattle.bounding.proofs.Gathers.{merges, merges_pages, keeps-members}
use Rattle.bounding.proofs.Alikes.{tells-members}
use Rattle.bounding.proofs.Members.{numbers-exact}
use Rattle.bounding.proofs.laws.laws_hold.Goals as goal

pub returns : goal.returns
returns c = record { runs = runs-exact; hulls = hulls-exact; lists = merges; pages = merges_pages; kept = keeps-members; told = tells-members; codes = numbers-exact }
