-- `readable::is_bare`: by the value that stands there. Assumes nothing.
use borrow.Enum.Refused.{opened}
use mathlib.Core.Path.{◌≡◌, sym, ◌∙◌}
use borrow.Author.Tests.{eq-eqb, ne_eqb}
use Rattle.values.specs.Finding.{found_at}
use Rattle.found.proofs.Choices.{not-value}
use Rattle.values.proofs.Packs.{found-packed}
use Rattle.values.proofs.Alone.{bare-value, bare-other}
use Rattle.readable.proofs.is_bare.Goals as goal

pub returns-in_default : goal.returns-in_default
returns-in_default c =
    let found : c.of.result ≡ found_at c.args.reading c.args.content.now 0 =
    found-packed _ _ _ _ _ c.pack_value.ensures c.of.ensures in
    sym (bare-other _ _ (λ k n q. not-value c.of.result (opened c.in_default.in_default-own.keys2) k n (found ∙ q)))

pub returns-else-kind-eq-BARE : goal.returns-else-kind-eq-BARE
returns-else-kind-eq-BARE c =
    let found : c.of.result ≡ found_at c.args.reading c.args.content.now 0 =
    found-packed _ _ _ _ _ c.pack_value.ensures c.of.ensures in
    sym (bare-value _ _ _ _ (sym (found) ∙ c.in-Value.is) ∙ rw (ne_eqb _ _ c.if-kind-eq-BARE.false))

pub returns-then-kind-eq-BARE : goal.returns-then-kind-eq-BARE
returns-then-kind-eq-BARE c =
    let found : c.of.result ≡ found_at c.args.reading c.args.content.now 0 =
    found-packed _ _ _ _ _ c.pack_value.ensures c.of.ensures in
    sym (bare-value _ _ _ _ (sym (found) ∙ c.in-Value.is) ∙ rw (eq-eqb _ _ c.if-kind-eq-BARE.true))
