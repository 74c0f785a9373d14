-- `check_leaves::leaves::split_number`: the word behind the space is a part of the text. Assumes nothing.
use native.Mathlib.Omega.{arith}
use Rattle.gaps.proofs.Gaps.{gap_within}
use Rattle.words.proofs.Words.{word-within}
use Rattle.check_leaves.proofs.leaves.split_number.Goals as goal

pub split_at-requires : goal.split_at-requires
split_at-requires c = rw c.gap_end.ensures (gap_within _ _ (omega arith))

pub split_at-requires-2 : goal.split_at-requires-2
split_at-requires-2 c = rw c.parse_identifier.ensures (word-within _ _ (omega arith))
