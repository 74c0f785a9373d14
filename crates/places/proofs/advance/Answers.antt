-- `places::advance`: by the count of LF where no CR stands. Assumes nothing.
use Prim.Native.Nat.{◌+◌, ◌-◌}
use native.Mathlib.Omega.{arith}
use Rattle.places.proofs.Places.{place-line, place-column}
use Rattle.places.proofs.Feeds.{Free, feeds-told, part-feeds, last_within, place_same, place-later}
use Rattle.places.proofs.advance.Goals as goal

pub overflow_add-result : goal.overflow_add-result
overflow_add-result c =
    let a = c.args in
    let i = c.requires in
    omega (arith, place-column a.s.now a.p i.0.at)

pub returns-then-feeds-eq0 : goal.returns-then-feeds-eq0
returns-then-feeds-eq0 c =
    let a = c.args in
    let i = c.requires in
    let n = c.line_feeds-feeds in
    let f : Free a.s.now a.p.offset (a.to - a.p.offset) n.result = feeds-told (a.to - a.p.offset + 1) _ _ _ _ (part-feeds a.s.now a.p.offset a.to _ i.1 i.2 n.ensures) (omega arith) in
    place_same a.s.now a.p a.to _ i.0 i.1 i.2 f c.if-feeds-eq0.true

pub overflow_add-result-2 : goal.overflow_add-result-2
overflow_add-result-2 c =
    let a = c.args in
    let i = c.requires in
    omega (arith, place-line a.s.now a.p i.0.at)

pub overflow_sub-result-2 : goal.overflow_sub-result-2
overflow_sub-result-2 c =
    let a = c.args in
    omega (arith, c.last_start-start.ensures, last_within (a.to - a.p.offset) a.s.now a.p.offset)

pub returns : goal.returns
returns c =
    let a = c.args in
    let i = c.requires in
    let n = c.line_feeds-feeds in
    let f : Free a.s.now a.p.offset (a.to - a.p.offset) n.result = feeds-told (a.to - a.p.offset + 1) _ _ _ _ (part-feeds a.s.now a.p.offset a.to _ i.1 i.2 n.ensures) (omega arith) in
    rw c.last_start-start.ensures (place-later a.s.now a.p a.to _ i.0 i.1 i.2 f (omega arith))
