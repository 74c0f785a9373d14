-- `naming::check_names`: soundness first, then the earliest repeat of all. Assumes nothing.
use Rattle.std.proofs.Common.{sym, ◌∙◌}
use Rattle.naming.proofs.Repeats.{check-unsound, check_sound, fresh-follows}
use Rattle.naming.proofs.check_names.Goals as goal

pub returns-then-not-is_sound : goal.returns-then-not-is_sound
returns-then-not-is_sound c = check-unsound _ _ _ (sym c.is_sound.ensures ∙ c.if-not-is_sound.true)

pub first_repeat-requires : goal.first_repeat-requires
first_repeat-requires c = rw c.start.ensures (fresh-follows _ _ _ c.fresh_end.ensures)

pub returns : goal.returns
returns c = c.first_repeat.ensures ∙ rw c.start.ensures (check_sound _ _ _ _ (sym c.is_sound.ensures ∙ c.if-not-is_sound.false) c.fresh_end.ensures)
