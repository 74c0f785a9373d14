-- `numbers::bracket_at`: a bracket that isn't closed is absent. Assumes nothing.
use mathlib.Core.Path.{sym, ◌∙◌}
use native.Mathlib.Omega.{arith}
use borrow.Author.Tests.{eq-eqb, ne_eqb}
use lib.Dec.{lit<}
use Rattle.text.specs.Bytes.{is}
use Rattle.cuts.specs.Cuts.{bracket_at}
use Rattle.cuts.proofs.Bounds.{byte-within}
use Rattle.cuts.proofs.bracket_at.Goals as goal

pub returns-then-byte_at-ne40 : goal.returns-then-byte_at-ne40
unfolding bracket_at is
returns-then-byte_at-ne40 c = rw (← c.byte_at.ensures, ne_eqb _ _ c.if-byte_at-ne40.true) c.nowhere.ensures

pub overflow_add-digits : goal.overflow_add-digits
overflow_add-digits c = omega (arith, byte-within c.args.w.now c.args.at 40 (lit< tt) (sym c.byte_at.ensures ∙ c.if-byte_at-ne40.false))

pub returns-then-byte_at-ne41 : goal.returns-then-byte_at-ne41
unfolding bracket_at is
returns-then-byte_at-ne41 c = rw (← c.byte_at.ensures, eq-eqb _ _ c.if-byte_at-ne40.false, ← c.digits_end-end.ensures, ← c.byte_at-2.ensures, ne_eqb _ _ c.if-byte_at-ne41.true) c.nowhere-then-byte_at-ne41.ensures

pub overflow_add-result : goal.overflow_add-result
overflow_add-result c = omega (arith, byte-within c.args.w.now c.digits_end-end.result 41 (lit< tt) (sym c.byte_at-2.ensures ∙ c.if-byte_at-ne41.false))

pub returns : goal.returns
unfolding bracket_at is
returns c = rw (← c.byte_at.ensures, eq-eqb _ _ c.if-byte_at-ne40.false, ← c.digits_end-end.ensures, ← c.byte_at-2.ensures, eq-eqb _ _ c.if-byte_at-ne41.false)
