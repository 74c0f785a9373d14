-- THE EXPORTED FUNCTIONS keep demands 2 and 3 (document 01; document 02, Three). Proved of what the contracts in crates/chuntarek say that they answer and
-- leave in the lent buffers, for any buffers:
-- chuntarek_outline, whatever number names the reading, answers the same, in number, place, detail and lengths, and leaves the same bytes in the store, for two texts
-- where digits alone differ, refusals included (outline-hides-digits), and by the first reading where contents of a text that is read differ too
-- (outline-hides-contents);
-- what chuntarek_read writes is sound by the reading that the call names (read-gives-sound), and chuntarek_render answers to it by the rendering's length alone: done, 1
-- or 11, never 12 (read-is-rendered);
-- by either reading chuntarek_render of a sound store, and chuntarek_read of that text, are done, and what is read back has the lengths of the store and
-- its area and says the same (read_back);
-- to a plain text (crates/alike) chuntarek_read and chuntarek_outline answer by the one reading as by the other, and leave the
-- same bytes in store and area (plain-read-alike); so they do to a text of the class that asks nothing of bytes
-- (unquoted-read-alike).
-- Assumes nothing.
use Prim.Native.Nat.{ℕ}
use mathlib.Core.Bool.{true}
use mathlib.Core.Path.{◌≡◌, refl, sym, ap, ◌∙◌}
use mathlib.Core.List.{List}
use lib.ListN.{length}
use Rattle.rules.specs.declared.Reading.{Reading}
use Rattle.rules.specs.declared.Reading.TheVariants.{First, Strict}
use Rattle.std.specs.Prelude.{Option, Some, None}
use Rattle.rules.specs.Rules.{reading_number, named}
use Rattle.exports.specs.Exports.{exported}
use Rattle.answers.specs.Answers.{read_by, read_gives, store_by, store_left, area_by, area_left, outline_by, outline_gives, outlined_by, outline_left, render_by, render_gives, rendered_by, render_left}
use Rattle.grammar.specs.Machine.{Rec, done}
use Rattle.grammar.specs.Reading.{outline}
use Rattle.stores.specs.Soundness.{sound}
use Rattle.rendering.specs.Rendering.{rendering, render_room, render_answer}
use Rattle.hidden.specs.Differences.{DigitsDiffer, ContentsDiffer}
use Rattle.written.specs.Results.{store_bytes, area_bytes}
use Rattle.sound.specs.Claims.{IsRead}
use Rattle.round_trip.specs.Claims.{rendered_bytes, Renderable}
use Rattle.reading.specs.Services.{read_answer, read_store, read_area}
use Rattle.outlining.specs.Outlining.{outline_answer, outline_store}
use Rattle.alike.specs.Plain.{Plain, Unquoted}
use Rattle.promises.specs.Exported.{text_given, store_given, area_given, OutlinedAlike, ReadAlike, ReadBack}
use Rattle.hidden.proofs.Outlined.{digits-unseen, contents-unseen}
use Rattle.sound.proofs.ReadIsSound.{read-is-sound}
use Rattle.round_trip.proofs.RoundTrip.{round_trip}
use Rattle.alike.proofs.Equal.{equal-records, unquoted-records}

pub outline-hides-digits : (n : ℕ) (s t store : List ℕ) → DigitsDiffer s t → OutlinedAlike n s t store
unfolding outline_gives outline_left outline_by outlined_by
outline-hides-digits n s t store d = record { answers = answers (named n); stores = stores (named n) }
  where
    answers : (x : Option Reading) → outline_by x s store ≡ outline_by x t store
    answers (Some r) = ap exported (digits-unseen r s t store d).answers
    answers None = refl

    stores : (x : Option Reading) → outlined_by x s store ≡ outlined_by x t store
    stores (Some r) = (digits-unseen r s t store d).stores
    stores None = refl

pub outline-hides-contents : (s t store : List ℕ) (rs : List Rec) → outline First s ≡ done rs → ContentsDiffer rs s t → OutlinedAlike 1 s t store
unfolding outline_gives outline_left outline_by outlined_by named
outline-hides-contents s t store rs e d =
    let same = contents-unseen s t store rs e d in
    record { answers = ap exported same.answers; stores = same.stores }

pub read-gives-sound : (r : Reading) (s store area : List ℕ) → (read_gives (reading_number r) s store area).number ≡ 0
    → sound r (store_given (reading_number r) s store area) (area_given (reading_number r) s store area) ≡ true
unfolding IsRead exported read_gives read_by store_left store_by area_left area_by named store_given area_given store_bytes area_bytes
read-gives-sound First s store area e = read-is-sound First s store area e
read-gives-sound Strict s store area e = read-is-sound Strict s store area e

-- by the reading that read it, what is read is rendered
abbrev rendered_length : Reading → (s store area : List ℕ) → ℕ
rendered_length r s store area = length (rendering r (store_given (reading_number r) s store area) (area_given (reading_number r) s store area))

pub read-is-rendered : (r : Reading) (s store area out : List ℕ) → (read_gives (reading_number r) s store area).number ≡ 0
    → render_gives (reading_number r) (store_given (reading_number r) s store area) (area_given (reading_number r) s store area) out ≡ exported (render_room (rendered_length r s store area) (length out))
unfolding render_gives render_by named render_answer
read-is-rendered First s store area out e = rw (read-gives-sound First s store area e)
read-is-rendered Strict s store area out e = rw (read-gives-sound Strict s store area e)

pub read_back : (r : Reading) (st ar text store area : List ℕ) → Renderable r st ar text store area → ReadBack r st ar text store area
unfolding exported read_gives read_by store_left store_by area_left area_by render_gives render_by render_left rendered_by named text_given store_given area_given rendered_bytes store_bytes area_bytes
read_back First st ar text store area h =
    let trip = round_trip First st ar text store area h in
    record { rendered = ap exported trip.rendered; read = ap exported trip.read; same = trip.same }
read_back Strict st ar text store area h =
    let trip = round_trip Strict st ar text store area h in
    record { rendered = ap exported trip.rendered; read = ap exported trip.read; same = trip.same }

-- whatever the services answer and write goes through the text's records alone
one_answer : (s store area : List ℕ) → outline First s ≡ outline Strict s → ReadAlike 1 2 s store area
unfolding read_gives read_by store_left store_by area_left area_by outline_gives outline_by outline_left outlined_by named read_answer read_store read_area outline_answer outline_store
one_answer s store area e = record { answers = rw e; stores = rw e; areas = rw e; outlines = rw e; outlined = rw e }

pub plain-read-alike : (s store area : List ℕ) (rs : List Rec) → Plain s rs → ReadAlike 1 2 s store area
plain-read-alike s store area rs p = one_answer s store area (equal-records s rs p ∙ sym p.accepted)

pub unquoted-read-alike : (s store area : List ℕ) (rs : List Rec) → Unquoted s rs → ReadAlike 1 2 s store area
unquoted-read-alike s store area rs p = one_answer s store area (unquoted-records s rs p ∙ sym p.accepted)
