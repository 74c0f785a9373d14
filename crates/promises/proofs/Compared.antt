-- CHUNTAREK_COMPARE keeps what document 02, Four, lets one expect of a comparison. Proved of what its contract says that it answers and leaves in the lent list, for any
-- buffers: a store that may be compared, compared with itself, gives an empty list (itself-unchanged), and so it does compared with what chuntarek_read gives of what
-- chuntarek_render writes of it (reread-unchanged); of two stores the other way round the list has the same entries, turned (swaps). Assumes nothing.
use Prim.Native.Nat.{ℕ}
use mathlib.Core.Path.{◌≡◌, refl, ap, ◌∙◌}
use mathlib.Core.List.{List, []}
use native.Mathlib.Omega.{arith}
use lib.ListN.{length, take}
use Rattle.rules.specs.declared.Reading.{Reading}
use Rattle.rules.specs.declared.Reading.TheVariants.{First, Strict}
use Rattle.std.specs.Prelude.{Option, Some, None, Result, Ok}
use Rattle.rules.specs.Rules.{reading_number, named}
use Rattle.places.specs.Reports.{success}
use Rattle.changes.specs.declared.Change.{Change}
use Rattle.changes.specs.Changes.{changes, changes_bytes}
use Rattle.comparing.specs.declared.CompareError.{CompareError}
use Rattle.comparing.specs.Comparing.{bytes_of, judged, comparing_report}
use Rattle.exports.specs.Exports.{exported, no_reading}
use Rattle.answers.specs.Answers.{read_gives, read_by, store_left, store_by, area_left, area_by, render_gives, render_by, render_left, rendered_by, compare_by, compare_gives, compared_by, list_left}
use Rattle.written.specs.Results.{store_bytes, area_bytes}
use Rattle.round_trip.specs.Claims.{rendered_bytes, Renderable}
use Rattle.soles.specs.Members.{In}
use Rattle.compared.specs.Turned.{turned}
use Rattle.compared.proofs.Itself.{itself-empty, empty-compared, empty-kept}
use Rattle.compared.proofs.Done.{Done, done, done-list}
use Rattle.compared.proofs.Rendered.{rendered-judged, rendered-empty}
use Rattle.compared.proofs.Swapped.{swapped}
use Rattle.promises.specs.Exported.{text_given, store_given, area_given}
use Rattle.promises.specs.Compared.{Comparable, list_given, Unchanged, Swaps}

-- where the list is empty
module _ (r : Reading) (st ar st' ar' list : List ℕ) (e : judged r st ar ≡ Ok tt) (e' : judged r st' ar' ≡ Ok tt) (none : bytes_of st ar st' ar' ≡ []) where
  none_answers : compare_by (Some r) st ar st' ar' list ≡ exported (success 0 0)
  unfolding compare_by comparing_report
  none_answers = ap (λ (c : Result ℕ CompareError). exported (comparing_report c)) (empty-compared r st ar st' ar' e e' none (length list))

  none-lists : compared_by (Some r) st ar st' ar' list ≡ list
  unfolding compared_by
  none-lists = empty-kept r st ar st' ar' e e' none list

pub itself-unchanged : (n : ℕ) (st ar list : List ℕ) → Comparable n st ar → Unchanged n st ar st ar list
unfolding Comparable compare_gives list_left compare_by compared_by exported no_reading
itself-unchanged n st ar list h = record { answers = answers (named n) h; lists = lists (named n) h }
  where
    fit : (r : Reading) → (compare_by (Some r) st ar st ar []).number ≡ 0 → judged r st ar ≡ Ok tt
    fit r q = (done r st ar st ar 0 q).old

    answers : (x : Option Reading) → (compare_by x st ar st ar []).number ≡ 0 → compare_by x st ar st ar list ≡ exported (success 0 0)
    answers (Some r) q = none_answers r st ar st ar list (fit r q) (fit r q) (itself-empty r st ar (fit r q))
    answers None q = absurd (omega (arith, q))

    lists : (x : Option Reading) → (compare_by x st ar st ar []).number ≡ 0 → compared_by x st ar st ar list ≡ list
    lists (Some r) q = none-lists r st ar st ar list (fit r q) (fit r q) (itself-empty r st ar (fit r q))
    lists None q = refl

-- what is read of what is rendered
abbrev again_store : (r : Reading) (st ar text store area : List ℕ) → List ℕ
again_store r st ar text store area = store_given (reading_number r) (text_given (reading_number r) st ar text) store area

abbrev again_area : (r : Reading) (st ar text store area : List ℕ) → List ℕ
again_area r st ar text store area = area_given (reading_number r) (text_given (reading_number r) st ar text) store area

pub reread-unchanged :
    (r : Reading) (st ar text store area list : List ℕ) → Renderable r st ar text store area → Comparable (reading_number r) st ar →
    Unchanged (reading_number r) st ar (again_store r st ar text store area) (again_area r st ar text store area) list
unfolding Comparable compare_gives compare_by list_left compared_by exported read_gives read_by store_left store_by area_left area_by render_gives render_by render_left rendered_by named text_given store_given area_given rendered_bytes store_bytes area_bytes
reread-unchanged First st ar text store area list h q =
    let e = (done First st ar st ar 0 q).old in
    let e' = rendered-judged First st ar text store area h e in
    let none = rendered-empty First st ar text store area h e in
    record { answers = none_answers First st ar _ _ list e e' none; lists = none-lists First st ar _ _ list e e' none }
reread-unchanged Strict st ar text store area list h q =
    let e = (done Strict st ar st ar 0 q).old in
    let e' = rendered-judged Strict st ar text store area h e in
    let none = rendered-empty Strict st ar text store area h e in
    record { answers = none_answers Strict st ar _ _ list e e' none; lists = none-lists Strict st ar _ _ list e e' none }

pub swaps : (n : ℕ) (st ar st' ar' list list' : List ℕ) → (compare_gives n st ar st' ar' list).number ≡ 0 → (compare_gives n st' ar' st ar list').number ≡ 0 → Swaps n st ar st' ar' list list'
unfolding compare_gives compare_by list_left compared_by list_given exported no_reading bytes_of
swaps n st ar st' ar' list list' h h' = record { lists = listed st ar st' ar' list (named n) h; back = listed st' ar' st ar list' (named n) h'; turns = turns (named n) h }
  where
    listed :
        (u v u' v' l : List ℕ) (x : Option Reading) → (compare_by x u v u' v' l).number ≡ 0 → take (compare_by x u v u' v' l).first (compared_by x u v u' v' l) ≡ changes_bytes (changes u v u' v')
    listed u v u' v' l (Some r) q = done-list r u v u' v' l (done r u v u' v' (length l) q)
    listed u v u' v' l None q = absurd (omega (arith, q))

    turns : (x : Option Reading) → (compare_by x st ar st' ar' list).number ≡ 0 → (c : Change) → In c (changes st ar st' ar') → In (turned c) (changes st' ar' st ar)
    turns (Some r) q = swapped r st ar st' ar' (done r st ar st' ar' (length list) q).old
    turns None q = absurd (omega (arith, q))
