-- `keywords::stands_at`: by the reading. Assumes nothing.
use Rattle.keywords.proofs.Starts.{starts-at}
use Rattle.keywords.proofs.stands_at.Goals as goal

-- (what the call ensures is left to be found, so that nothing here names which function is called)
pub returns-in-First : goal.returns-in-First
returns-in-First c = cc (starts-at c.args.key.now c.args.s.now c.args.at)

pub returns-in-Strict : goal.returns-in-Strict
returns-in-Strict c = cc
