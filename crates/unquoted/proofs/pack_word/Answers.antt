-- `unquoted::pack_word`: a number, or else bare. Assumes nothing.
use native.Mathlib.Omega.{arith}
use Rattle.words.proofs.Words.{word-from, word-within}
use Rattle.unquoted.specs.Pieces.{word_at}
use Rattle.unquoted.proofs.pack_word.Goals as goal

pub overflow_sub-end : goal.overflow_sub-end
overflow_sub-end c = rw c.parse_identifier-end.ensures (word-from _ _)

pub number_or-requires : goal.number_or-requires
number_or-requires c =
    let a = c.args in
    let p = c.requires in
    let l = word-within a.s.now a.at (omega (arith, p.1)) in
    let f = word-from a.s.now a.at in
    let e = c.parse_identifier-end.ensures in
    (omega (arith, e, f), omega (arith, e, l), p.0, omega (arith, e, l, p.0))

pub returns : goal.returns
unfolding word_at
returns c = rw (c.number_or.ensures, c.parse_identifier-end.ensures)
