-- `check_leaves::leaves::moved`: offset 0 is a place of every text. Assumes nothing.
use Rattle.places.proofs.Places.{is-start}
use Rattle.check_leaves.proofs.leaves.moved.Goals as goal

pub trim_comments_and_whitespace-requires : goal.trim_comments_and_whitespace-requires
trim_comments_and_whitespace-requires g c = is-start _
