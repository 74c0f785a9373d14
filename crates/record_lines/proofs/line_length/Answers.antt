-- `record_lines::line_length` meets its contract: the length of the token and LF, and of the space before it. Assumes nothing.
use mathlib.Core.Path.{sym, ap, ◌∙◌}
use native.Mathlib.Omega.{arith}
use Prim.Native.Nat.{◌+◌}
use Rattle.record_lines.proofs.Lines.{rule-digits, plain-few, length-led, length-plain}
use Rattle.record_lines.proofs.line_length.Goals as goal

pub plain_length-plain-requires : goal.plain_length-plain-requires
plain_length-plain-requires c = rule-digits c.args.reading c.args.area.now c.args.kind c.args.fields c.requires

pub overflow_add-result : goal.overflow_add-result
overflow_add-result c =
    let few = plain-few c.args.reading c.args.area.now c.args.kind c.args.fields c.requires (sym c.is_led.ensures ∙ c.if-is_led.true) in
    omega (arith, few, c.plain_length-plain.ensures)

pub returns-then-is_led : goal.returns-then-is_led
returns-then-is_led c =
    ap (λ n. 1 + n) c.plain_length-plain.ensures ∙ sym (length-led c.args.reading c.args.area.now c.args.kind c.args.fields (sym c.is_led.ensures ∙ c.if-is_led.true))

pub returns : goal.returns
returns c =
    c.plain_length-plain.ensures ∙ sym (length-plain c.args.reading c.args.area.now c.args.kind c.args.fields (sym c.is_led.ensures ∙ c.if-is_led.false))
