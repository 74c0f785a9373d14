-- `keywords::at_save`: the keyword `save_`. Assumes nothing.
use Rattle.keywords.specs.Keywords.{key_save}
use Rattle.keywords.proofs.at_save.Goals as goal

pub returns : goal.returns
unfolding key_save
returns c = c.start_with.ensures
