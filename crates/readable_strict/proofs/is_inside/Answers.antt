-- `readable_strict::is_inside`: byte by byte, and whether the mark stands before. Assumes nothing.
use mathlib.Core.Path.{◌≡◌, sym, ◌∙◌}
use mathlib.Core.Bool.{false, true, ◌&&◌, true≢false}
use lib.ListN.{get_or}
use Rattle.text.specs.Bytes.{is, is_space}
use Rattle.quotes.proofs.Content.{strict-go, strict-eol, strict-space, strict-over}
use Rattle.readable_strict.proofs.is_inside.Goals as goal
use Rattle.readable_strict.proofs.is_inside.Goals.{then-is_eol-via-then-is_eol, then-is_eol-via-else-is_eol+then-is_space, then-closes, else-closes}

pub returns-then-is_eol : goal.returns-then-is_eol
returns-then-is_eol c =
    let now = c.loop-b in
    elim c.then-is_eol.branch [
      | then-is_eol-via-then-is_eol w ↦ sym (now.invariant ∙ strict-eol _ _ _ _ c.loop-b-test.true (sym c.is_eol.ensures ∙ w.if-is_eol.true))
      | then-is_eol-via-else-is_eol+then-is_space w ↦
          let shut : (now.closes && is_space (get_or c.args.inside.now now.b-index 0)) ≡ true = elim w.if-closes.branch [
            | then-closes v ↦ rw v.if-closes.true (sym v.is_space.ensures ∙ sym v.value-is ∙ w.if-is_space.true)
            | else-closes v ↦ absurd (true≢false (sym w.if-is_space.true ∙ v.value-is ∙ v.if-closes.false))
          ] in
          sym (now.invariant ∙ strict-space _ _ _ _ c.loop-b-test.true shut)
    ]

pub loop-b-preserved : goal.loop-b-preserved
unfolding is
loop-b-preserved c =
    let now = c.loop-b in
    let clear : (now.closes && is_space (get_or c.args.inside.now now.b-index 0)) ≡ false = elim c.if-closes.branch [
      | then-closes v ↦ rw v.if-closes.true (sym v.is_space.ensures ∙ sym v.value-is ∙ c.if-is_space.false)
      | else-closes v ↦ rw v.if-closes.false
    ] in
    now.invariant ∙ strict-go _ _ _ _ c.loop-b-test.true clear (sym c.is_eol.ensures ∙ c.if-is_eol.false)

pub returns : goal.returns
returns c = sym (c.loop-b.invariant ∙ strict-over _ _ _ _ c.loop-b-test.false)
