-- `changes::of_new`: without a partner, or with one. Assumes nothing.
use Rattle.changes.proofs.Changes.{new-missing, new_is}
use Rattle.changes.proofs.of_new.Goals as goal

pub returns-in-Some : goal.returns-in-Some
returns-in-Some c = new_is _ _ _ _ c.args.x _ c.requires _ c.in-Some.is

pub returns-in-None : goal.returns-in-None
returns-in-None c = new-missing _ _ _ _ c.args.x _ c.requires c.in-None.is
