-- `found::pack_bare`: the word's length. Assumes nothing.
use native.Mathlib.Omega.{arith}
use Rattle.words.proofs.Words.{word-from, word-within}
use Rattle.found.proofs.pack_bare.Goals as goal

pub overflow_sub-end : goal.overflow_sub-end
overflow_sub-end c = rw c.parse_identifier-end.ensures (word-from _ _)

pub packed-requires : goal.packed-requires
packed-requires c =
    let a = c.args in
    let p = c.requires in
    omega (arith, c.parse_identifier-end.ensures, word-within a.s.now a.at (omega (arith, p.1)), p.0)

pub returns : goal.returns
returns c = rw (c.packed.ensures, c.parse_identifier-end.ensures)
