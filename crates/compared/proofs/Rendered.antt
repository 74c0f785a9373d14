-- A STORE COMPARED WITH WHAT READ GIVES OF ITS OWN RENDERING (document 02, Four): that may be compared too, and the list is empty. Assumes nothing.
use Prim.Native.Nat.{ℕ}
use mathlib.Core.Bool.{true}
use mathlib.Core.Path.{◌≡◌, sym, ap}
use mathlib.Core.List.{List, []}
use Rattle.std.specs.Prelude.{Ok}
use Rattle.rules.specs.declared.Reading.{Reading}
use Rattle.places.specs.declared.Report.{Report}
use Rattle.places.specs.Reports.{success}
use Rattle.stores.specs.Soundness.{sound}
use Rattle.changes.specs.Changes.{changes_bytes}
use Rattle.comparing.specs.Comparing.{bytes_of, judged}
use Rattle.written.specs.Results.{store_bytes, area_bytes}
use Rattle.sound.specs.Claims.{IsRead}
use Rattle.written.specs.Sayings.{SaySame}
use Rattle.round_trip.specs.Claims.{Renderable, rendered_bytes}
use Rattle.round_trip.proofs.RoundTrip.{round_trip}
use Rattle.sound.proofs.ReadIsSound.{read-is-sound}
use Rattle.compared.proofs.Said.{said-empty}
use Rattle.compared.proofs.Judged.{said-judged}

module _ (r : Reading) (st ar text store area : List ℕ) (h : Renderable r st ar text store area) (e : judged r st ar ≡ Ok tt) where
  t : List ℕ
  t = rendered_bytes r st ar text

  sound-again : sound r (store_bytes r t store area) (area_bytes r t store area) ≡ true
  unfolding success IsRead t
  sound-again = read-is-sound r t store area (ap (λ (a : Report). a.number) (round_trip r st ar text store area h).read)

  says_same : SaySame st ar (store_bytes r t store area) (area_bytes r t store area)
  unfolding SaySame t
  says_same = sym (round_trip r st ar text store area h).same

  pub rendered-judged : judged r (store_bytes r (rendered_bytes r st ar text) store area) (area_bytes r (rendered_bytes r st ar text) store area) ≡ Ok tt
  unfolding t
  rendered-judged = said-judged r st ar _ _ e sound-again says_same

  pub rendered-empty : bytes_of st ar (store_bytes r (rendered_bytes r st ar text) store area) (area_bytes r (rendered_bytes r st ar text) store area) ≡ []
  unfolding bytes_of changes_bytes t
  rendered-empty = ap changes_bytes (said-empty r st ar _ _ e sound-again says_same)
