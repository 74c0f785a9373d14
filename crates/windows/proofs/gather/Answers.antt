-- `windows::gather`: the offsets fit the table. Assumes nothing.
use Rattle.std.proofs.Common.{arith}
use Rattle.steps.proofs.Steps.{met-before, reached-next}
use Rattle.tables.proofs.Tables.{fewer}
use Rattle.windows.proofs.gather.Goals as goal

pub loop-n-init : goal.loop-n-init
loop-n-init c = (omega arith, c.requires.0)

pub next-requires : goal.next-requires
next-requires c = c.loop-n.invariant.1.counted

pub loop-n-smaller : goal.loop-n-smaller
loop-n-smaller c = fewer c.args.scope _ _ c.in-Some.ensures

pub loop-n-preserved : goal.loop-n-preserved
loop-n-preserved c = (c.keep-n.ensures, reached-next _ _ _ _ _ c.loop-n.invariant.1 (met-before _ _ _ _ c.in-Some.field-0 c.in-Some.ensures).meets)

pub returns : goal.returns
returns c = omega arith
