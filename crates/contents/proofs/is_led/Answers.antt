-- `contents::is_led`: only a bare value may be, and it has content. Assumes nothing.
use mathlib.Core.Path.{◌≡◌, refl, sym, ◌∙◌}
use mathlib.Core.Bool.{false, true≢false}
use mathlib.Core.List.{[], ◌∷◌}
use borrow.Enum.Refused.{opened}
use Rattle.kinds.specs.declared.Kind.TheVariants.{Bare}
use Rattle.kinds.specs.Kinds.{kind_of, shape_of, is_content}
use Rattle.kinds.proofs.Numbering.{told}
use Rattle.readable.specs.Tokens.{is_bare_field}
use Rattle.readable.proofs.Readable.{led-other}
use Rattle.contents.specs.Contents.{content_bytes}
use Rattle.contents.proofs.Kept.{own-lies}
use Rattle.contents.proofs.is_led.Goals as goal
use Rattle.contents.proofs.is_led.Goals.{in-Bare, in_default}

pub content_of-requires : goal.content_of-requires
unfolding shape_of is_content
content_of-requires c =
    let given = c.args in
    let bare : given.kind ≡ Bare = elim c.match-matches.branch [ in-Bare w ↦ w.in-Bare.is | in_default w ↦ absurd (true≢false (sym c.if-matches.true ∙ w.matches-is)) ] in
    own-lies given.reading given.area.now given.kind given.fields c.requires (rw bare)

pub returns-else-matches : goal.returns-else-matches
unfolding kind_of is_bare_field
returns-else-matches c =
    let given = c.args in
    let content = content_bytes given.area.now given.kind given.fields in
    let other : is_bare_field given.kind content ≡ false = elim c.match-matches.branch [
      | in-Bare w ↦ absurd (true≢false (sym w.matches-is ∙ c.if-matches.false))
      | in_default w ↦ sym (told (λ k. is_bare_field k content) false 0 (1 ∷ 2 ∷ 3 ∷ 4 ∷ 5 ∷ 6 ∷ 7 ∷ 8 ∷ 9 ∷ 11 ∷ 12 ∷ 13 ∷ 14 ∷ 15 ∷ 16 ∷ []) refl given.kind (opened w.in_default.in_default-own.keys2))
    ] in
    c.if-matches.false ∙ sym (led-other given.reading given.kind content other)
