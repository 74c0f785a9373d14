-- `keywords::at_data`: the keyword `data_`. Assumes nothing.
use Rattle.keywords.specs.Keywords.{key_data}
use Rattle.keywords.proofs.at_data.Goals as goal

pub returns : goal.returns
unfolding key_data
returns c = c.start_with.ensures
