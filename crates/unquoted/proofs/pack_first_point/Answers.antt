-- `unquoted::pack_first_point`: by the byte behind the point. Assumes nothing.
use Prim.Native.Nat.{◌+◌}
use mathlib.Core.Path.{◌≡◌, sym, ◌∙◌}
use mathlib.Core.Bool.{false}
use native.Mathlib.Omega.{arith}
use lib.ListN.{get_or}
use Rattle.text.specs.Bytes.{is_digit}
use Rattle.text.proofs.Runs.{past_end}
use Rattle.words.proofs.Words.{word-from, word-within}
use Rattle.unquoted.specs.Pieces.{first_point}
use Rattle.unquoted.proofs.pack_first_point.Goals as goal
use Rattle.unquoted.proofs.pack_first_point.Goals.{then-s-next-via-then-s-next, then-s-next-via-else-s-next+then-not-is_digit}

pub returns-then-s-next : goal.returns-then-s-next
unfolding first_point
returns-then-s-next c =
    let a = c.args in
    let d : is_digit (get_or a.s.now (a.at + 1) 0) ≡ false =
    elim c.then-s-next.branch [
      | then-s-next-via-then-s-next w ↦ unfold is_digit in rw (past_end a.s.now (a.at + 1) w.if-s-next.true)
      | then-s-next-via-else-s-next+then-not-is_digit w ↦ sym w.is_digit.ensures ∙ w.if-not-is_digit.true
    ] in
    rw (c.packed.ensures, d)

pub number_or-requires : goal.number_or-requires
number_or-requires c =
    let a = c.args in
    let p = c.requires in
    let l = word-within a.s.now a.at (omega (arith, p.1)) in
    let f = word-from a.s.now a.at in
    let e = c.parse_identifier-end.ensures in
    (omega (arith, e, f), omega (arith, e, l), p.0, omega arith)

pub returns : goal.returns
unfolding first_point
returns c =
    rw (c.number_or.ensures, c.parse_identifier-end.ensures, sym c.is_digit.ensures ∙ c.if-not-is_digit.false)
