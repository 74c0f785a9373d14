-- `lines::behind_last`: from the end back, by blocks, then byte by byte. Assumes nothing.
use Rattle.std.proofs.Common.{◌≡◌, ◌+◌, ◌-◌, false, true, get_or, refl, sym, ◌∙◌, arith}
use Rattle.text.specs.Bytes.{is_eol}
use Rattle.lines.proofs.Lines.{last-here, last-back, last_none, last_block}
use Rattle.lines.proofs.behind_last.Goals as goal

pub loop-n-preserved : goal.loop-n-preserved
loop-n-preserved c =
    let clear = sym c.ends_no_line.ensures ∙ c.if-ends_no_line.true in
    (omega arith, c.loop-n.invariant.1 ∙ last_block _ _ _ _ c.loop-n-test.true refl clear)

pub returns-then-is_eol : goal.returns-then-is_eol
returns-then-is_eol c =
    let a = c.args in
    let i = c.loop-i.i in
    let here : a.from + (i - 1 - a.from) ≡ i - 1 = omega arith in
    let ends : is_eol (get_or a.s.now (a.from + (i - 1 - a.from)) 0) ≡ true = rw here (sym c.is_eol.ensures ∙ c.if-is_eol.true) in
    sym (c.loop-i.invariant.1 ∙ last-here _ _ (i - a.from) (i - 1 - a.from) (omega arith) ends ∙ omega arith)

pub loop-i-preserved : goal.loop-i-preserved
loop-i-preserved c =
    let a = c.args in
    let i = c.loop-i.i in
    let here : a.from + (i - 1 - a.from) ≡ i - 1 = omega arith in
    let goes : is_eol (get_or a.s.now (a.from + (i - 1 - a.from)) 0) ≡ false = rw here (sym c.is_eol.ensures ∙ c.if-is_eol.false) in
    (omega arith, c.loop-i.invariant.1 ∙ last-back _ _ (i - a.from) (i - 1 - a.from) (omega arith) goes)

pub returns : goal.returns
returns c =
    let none : c.loop-i.i - c.args.from ≡ 0 = omega arith in
    sym (c.loop-i.invariant.1 ∙ rw none (last_none _ _))
