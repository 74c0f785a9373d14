-- `entries::read_record`: each return by the tests that led there. Assumes nothing.
use Prim.Native.Nat.{◌<◌, ◌≤◌, ◌-◌, ◌+◌}
use mathlib.Core.Path.{◌≡◌, refl, sym, ap, ◌∙◌}
use mathlib.Core.Bool.{true, true≢false}
use mathlib.Core.List.{[], ◌∷◌}
use native.Mathlib.Omega.{arith}
use borrow.Author.Tests.{ltb-true}
use borrow.Enum.Refused.{opened}
use lib.ListN.{length, get_or}
use Rattle.kinds.specs.declared.Kind.TheVariants.{NoKind}
use Rattle.kinds.specs.Kinds.{kind_of, number_of, body_length}
use Rattle.kinds.proofs.Numbering.{told}
use Rattle.entries.specs.Entries.{is_kind}
use Rattle.entries.proofs.Entering.{entry-over, entry-none, entry-short, entry_whole}
use Rattle.entries.proofs.read_record.Goals as goal
use Rattle.entries.proofs.read_record.Goals.{in-NoKind, in_default}

pub returns-in_err-get : goal.returns-in_err-get
returns-in_err-get c =
    c.from_residual.ensures ∙ sym (entry-over c.args.store.now c.args.at c.in_err-get.ensures.lookup.3)

pub returns-then-matches : goal.returns-then-matches
returns-then-matches c =
    let inside = c.in_ok-get.ensures.lookup.3.0 in
    let byte = c.in_ok-get.ensures.lookup.3.1 0 in
    let z : c.of-kind.result ≡ NoKind = elim c.match-matches.branch [ in-NoKind w ↦ w.in-NoKind.is | in_default w ↦ absurd (true≢false (sym c.if-matches.true ∙ w.matches-is)) ] in
    sym (entry-none c.args.store.now c.args.at inside (ap number_of (ap kind_of (sym byte) ∙ sym c.of-kind.ensures ∙ z)))

pub returns-then-store-body : goal.returns-then-store-body
unfolding body_length
returns-then-store-body c =
    let s = c.args.store.now in
    let at = c.args.at in
    let inside = c.in_ok-get.ensures.lookup.3.0 in
    let byte = c.in_ok-get.ensures.lookup.3.1 0 in
    let e : length s - (at + 1) < body_length (get_or s at 0) = rw (← byte, ← c.of-kind.ensures, ← c.shape-shape.ensures, ← c.length-length.ensures) c.if-store-body.true in
    sym (entry-short s at inside e)

pub returns : goal.returns
unfolding body_length is_kind kind_of
returns c =
    let s = c.args.store.now in
    let at = c.args.at in
    let inside = c.in_ok-get.ensures.lookup.3.0 in
    let byte = c.in_ok-get.ensures.lookup.3.1 0 in
    let known : is_kind c.of-kind.result ≡ true = elim c.match-matches.branch [
      | in-NoKind w ↦ absurd (true≢false (sym w.matches-is ∙ c.if-matches.false))
      | in_default w ↦ sym (told is_kind true 1 (2 ∷ 3 ∷ 4 ∷ 5 ∷ 6 ∷ 7 ∷ 8 ∷ 9 ∷ 10 ∷ 11 ∷ 12 ∷ 13 ∷ 14 ∷ 15 ∷ 16 ∷ []) refl c.of-kind.result (opened w.in_default.in_default-own.keys2))
    ] in
    let some : 0 < number_of (kind_of (get_or s at 0)) = rw (← byte, ← c.of-kind.ensures) (ltb-true 0 _ known) in
    let fits : body_length (get_or s at 0) ≤ length s - (at + 1) = rw (← byte, ← c.of-kind.ensures, ← c.shape-shape.ensures, ← c.length-length.ensures) (omega arith) in
    rw (entry_whole s at inside some fits, c.fields_at.ensures, c.length-length.ensures, c.shape-shape.ensures, c.of-kind.ensures, byte)
