-- `sizes::Sizes::with`: one record's lengths and content more; all stays below the word's end. Assumes nothing.
use mathlib.Core.Path.{◌∙◌}
use native.Mathlib.Omega.{arith}
use Rattle.text.specs.Limits.{limit}
use Rattle.sizes.proofs.Room.{shape-small, content-least, added-steps}
use Rattle.sizes.proofs.Sizes.with.Goals as goal

pub overflow_add-result : goal.overflow_add-result
unfolding limit
overflow_add-result c = omega arith

pub overflow_add-result-2 : goal.overflow_add-result-2
unfolding limit
overflow_add-result-2 c = omega (arith, (shape-small c.shape.result).0, c.length-body.ensures)

pub overflow_add-result-3 : goal.overflow_add-result-3
unfolding limit
overflow_add-result-3 c = omega arith

pub overflow_add-result-4 : goal.overflow_add-result-4
unfolding limit
overflow_add-result-4 c = omega (arith, c.min.ensures)

pub overflow_add-result-5 : goal.overflow_add-result-5
unfolding limit
overflow_add-result-5 c = omega (arith, content-least c.of-kind.result c.args.size, c.content_length.ensures)

pub returns : goal.returns
returns c = added-steps _ c.args.kind c.args.size _ _ _ (c.length-body.ensures ∙ rw (c.shape.ensures, c.of-kind.ensures)) c.min.ensures (c.content_length.ensures ∙ rw c.of-kind.ensures)
