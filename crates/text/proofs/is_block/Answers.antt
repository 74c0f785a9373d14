-- `text::is_block`: whether all of the first bytes of a block pass. Assumes nothing.
use Rattle.std.proofs.Common.{◌≡◌, ◌<◌, length, ap, sym, arith}
use Rattle.text.specs.Runs.{Tells}
use Rattle.text.specs.Parts.{part}
use Rattle.text.proofs.Runs.{runs_none, runs-short, runs-more}
use Rattle.text.proofs.Parts.{part_length, part-at}
use Rattle.text.proofs.is_block.Goals as goal

pub returns-in_default : goal.returns-in_default
returns-in_default g c = record { fits = λ e. (cc); passed = λ p t. sym (runs-short p _ _ _ c.in_default.ensures c.requires.wide) }

pub loop-b-init : goal.loop-b-init
loop-b-init g c = λ p t. sym (runs_none p _ _)

pub loop-b-preserved : goal.loop-b-preserved
unfolding Tells
loop-b-preserved g c = λ p t.
    let e = c.in-Some.ensures in
    let l = c.loop-b in
    let a = c.args in
    let n : length (part a.s.now a.at g.row.N) ≡ g.row.N = part_length a.s.now a.at g.row.N e.0 in
    let k : l.b-index < g.row.N = rw (e.1, n) at c.loop-b-test.true in
    let h = t _ _ c.passes-all.ensures in
    rw (h, l.invariant p t, e.1, part-at a.s.now a.at g.row.N l.b-index k) (sym (runs-more p a.s.now a.at l.b-index (omega (arith, e.0))))

pub returns : goal.returns
returns g c =
    let e = c.in-Some.ensures in
    let all : c.loop-b.b-index ≡ g.row.N = omega (arith, ap length e.1, part_length c.args.s.now c.args.at g.row.N e.0) in
    record { fits = λ t. e.0; passed = λ p t. rw all at (c.loop-b.invariant p t) }
