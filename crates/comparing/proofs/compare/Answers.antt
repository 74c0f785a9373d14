-- `comparing::compare`: what both stores say, then the list. Assumes nothing.
use mathlib.Core.Path.{◌∙◌}
use Rattle.std.proofs.lemmas.Result.{err_from_is_err_and}
use Rattle.comparing.proofs.Answers.{compared-refused, compared-list, both-ready}
use Rattle.comparing.proofs.compare.Goals as goal

pub returns-in_err-refusal : goal.returns-in_err-refusal
returns-in_err-refusal c =
    let e = err_from_is_err_and c.from_residual.result c.from_residual.ensures.1 in
    rw (e.1, e.2) (compared-refused _ _ _ _ _ _ _ (c.refusal.ensures ∙ rw (c.judge-judged.ensures, c.judge.ensures)) _ c.in_err-refusal.was)

pub write_list-requires : goal.write_list-requires
write_list-requires c =
    let a = c.args in
    both-ready a.reading a.store.now a.area.now a.store2.now a.area2.now a.list.now _ (c.refusal.ensures ∙ rw (c.judge-judged.ensures, c.judge.ensures)) c.in_ok-refusal.was

pub returns : goal.returns
returns c = compared-list _ _ _ _ _ _ _ (c.refusal.ensures ∙ rw (c.judge-judged.ensures, c.judge.ensures)) _ _ c.in_ok-refusal.was c.write_list.ensures
