-- `lines::screen_bytes`: the earlier of two scans. Assumes nothing.
use Rattle.lines.proofs.Lines.{screen-control, screen-long, screen-fine}
use Rattle.lines.proofs.screen_bytes.Goals as goal

pub returns-then-control-long : goal.returns-then-control-long
returns-then-control-long c = screen-control _ _ _ c.short_end-long.ensures c.control_end-control.ensures c.if-control-long.true

pub returns-then-long-s : goal.returns-then-long-s
returns-then-long-s c = screen-long _ _ _ c.short_end-long.ensures c.control_end-control.ensures c.if-control-long.false c.if-long-s.true

pub returns : goal.returns
returns c = screen-fine _ _ _ c.short_end-long.ensures c.control_end-control.ensures c.if-control-long.false c.if-long-s.false
