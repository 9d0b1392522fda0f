use Rattle.lines.proofs.Naming.{index_none, index_put}
use Rattle.lines.proofs.label.put_index.Goals as goal

pub returns-then-index-lt0 : goal.returns-then-index-lt0
returns-then-index-lt0 c = search index_none

pub returns : goal.returns
returns c = search index_put
