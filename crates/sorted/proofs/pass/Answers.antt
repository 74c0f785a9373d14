-- `sorted::pass`: no entry in the middle, one that comes before the name, or one that does not. Assumes nothing.
use Rattle.std.proofs.Common.{rules}
use Rattle.sorted.proofs.Found.{pass-end, pass-is}
use Rattle.sorted.proofs.pass.Goals as goal

pub returns-in_default : goal.returns-in_default
returns-in_default c = pass-end _ _ _ _ _ _ (search rules)

pub returns-then-is_before : goal.returns-then-is_before
returns-then-is_before c = pass-is _ _ _ _ _ _ c.in-Some.offset.now _ _ _ (search rules) (search rules) c.bytes_at-entry.ensures c.is_before.ensures c.if-is_before.true

pub returns-else-is_before : goal.returns-else-is_before
returns-else-is_before c = pass-is _ _ _ _ _ _ c.in-Some.offset.now _ _ _ (search rules) (search rules) c.bytes_at-entry.ensures c.is_before.ensures c.if-is_before.false
