-- `columns::byte_before`: at the start, or the byte there. Assumes nothing.
use mathlib.Core.Path.{sym}
use Rattle.columns.proofs.Before.{before-start, before-byte}
use Rattle.columns.proofs.byte_before.Goals as goal

pub returns-then-at-lt1 : goal.returns-then-at-lt1
returns-then-at-lt1 c = sym (before-start _ _ c.if-at-lt1.true)

pub returns-else-at-lt1 : goal.returns-else-at-lt1
returns-else-at-lt1 c = sym (before-byte _ _ c.if-at-lt1.false c.requires)
