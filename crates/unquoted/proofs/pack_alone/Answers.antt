-- `unquoted::pack_alone`: by the word's length. Assumes nothing.
use native.Mathlib.Omega.{arith}
use borrow.Author.Tests.{eq-eqb, ne_eqb}
use Rattle.words.proofs.Words.{word-from, word-within}
use Rattle.unquoted.specs.Pieces.{word_at, alone_at}
use Rattle.unquoted.proofs.pack_alone.Goals as goal

pub overflow_sub-end : goal.overflow_sub-end
overflow_sub-end c = rw c.parse_identifier-end.ensures (word-from _ _)

pub returns-then-end-at-eq1 : goal.returns-then-end-at-eq1
unfolding alone_at
returns-then-end-at-eq1 c = rw (c.packed.ensures, ← c.parse_identifier-end.ensures, eq-eqb _ _ c.if-end-at-eq1.true)

pub overflow_sub-end-2 : goal.overflow_sub-end-2
overflow_sub-end-2 c = rw c.parse_identifier-end.ensures (word-from _ _)

pub number_or-requires : goal.number_or-requires
number_or-requires c =
    let a = c.args in
    let p = c.requires in
    let l = word-within a.s.now a.at (omega (arith, p.1)) in
    let f = word-from a.s.now a.at in
    let e = c.parse_identifier-end.ensures in
    (omega (arith, e, f), omega (arith, e, l), p.0, omega (arith, e, l, p.0))

pub returns : goal.returns
unfolding alone_at word_at
returns c = rw (c.number_or.ensures, ← c.parse_identifier-end.ensures, ne_eqb _ _ c.if-end-at-eq1.false)
