-- `lines::fits`: by both scans. Assumes nothing.
use mathlib.Core.Path.{refl, sym}
use Rattle.lines.proofs.Lines.{fits-long, fits-control}
use Rattle.lines.proofs.fits.Goals as goal

pub returns-then-short_end-s : goal.returns-then-short_end-s
returns-then-short_end-s c = sym (fits-long _ _ _ _ c.short_end.ensures refl c.if-short_end-s.true)

pub returns : goal.returns
returns c = sym (fits-control _ _ _ _ c.short_end.ensures c.control_end.ensures c.if-short_end-s.false)
