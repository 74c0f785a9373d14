-- `judging::decide_screened`: what is found among the bytes, or what the tokens say. Assumes nothing.
use mathlib.Core.Path.{sym, ◌∙◌}
use Rattle.std.proofs.lemmas.Result.{err_from_is_err_and}
use Rattle.judging.proofs.Judgements.{screens-fine, screens-flawed}
use Rattle.judging.proofs.decide_screened.Goals as goal

pub returns-in_err-screen_bytes : goal.returns-in_err-screen_bytes
returns-in_err-screen_bytes c =
    let e = err_from_is_err_and c.from_residual.result c.from_residual.ensures.1 in
    rw (e.1, e.2) (screens-flawed _ _ (sym c.screen_bytes.ensures ∙ c.in_err-screen_bytes.was))

pub returns : goal.returns
returns c = c.lex_cif.ensures ∙ screens-fine _ (sym c.screen_bytes.ensures ∙ c.in_ok-screen_bytes.was)
