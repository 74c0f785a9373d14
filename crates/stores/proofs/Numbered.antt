-- Laws of a store's records by their numbers: which record has one, where it stands, and that in a sound store it keeps its own rule. Assumes nothing.
use Prim.Native.Nat.{ℕ, zero, suc, ◌-◌, ◌≤◌, ◌<◌}
use mathlib.Core.Path.{◌≡◌, refl, sym, ap, ◌∙◌}
use mathlib.Core.Bool.{Bool, true, false}
use mathlib.Core.List.{List, [], ◌∷◌}
use native.Mathlib.Omega.{arith}
use borrow.Author.Tests.{leb-true, leb-false}
use lib.Dec.{leb}
use lib.ListN.{length, drop}
use Rattle.rules.specs.declared.Reading.{Reading}
use Rattle.kinds.specs.declared.Kind.{Kind}
use Rattle.entries.specs.declared.Fields.{Fields}
use Rattle.entries.specs.declared.Entry.{Entry}
use Rattle.entries.specs.Entries.{entry_at, whole}
use Rattle.entries.specs.Walk.{entries}
use Rattle.entries.proofs.Entering.{entry-over}
use Rattle.entries.proofs.Walking.{rest, rest_over, rest-none, next-at}
use Rattle.contents.specs.Contents.{own_rule}
use Rattle.stores.specs.Soundness.{Owned, more}
use Rattle.stores.specs.Content.{nth}
use Rattle.std.specs.Prelude.{Option, Some, None}
use Rattle.entries.proofs.Wholes.{one}

pub nth-none : (i : ℕ) → nth [] i ≡ None
unfolding nth
nth-none i = refl

pub nth_here : (e : Option Entry) (es : List (Option Entry)) → nth (e ∷ es) 0 ≡ e
unfolding nth
nth_here e es = refl

pub nth-more : (e : Option Entry) (es : List (Option Entry)) (i : ℕ) → nth (e ∷ es) (suc i) ≡ nth es i
unfolding nth
nth-more e es i = refl

-- the first of those from a number on
pub nth_drop : (es : List (Option Entry)) (i : ℕ) → nth es i ≡ nth (drop i es) 0
unfolding nth
nth_drop [] zero = refl
nth_drop [] (suc i) = refl
nth_drop (e ∷ es) zero = refl
nth_drop (e ∷ es) (suc i) = nth_drop es i

-- what is said of a record whatever its end, by its offset or as the first of those from there on
module _ {A : Type 0} (F : Option Entry → A) (same : (k : Kind) (f : Fields) (n m : ℕ) → F (whole k f n) ≡ F (whole k f m)) (st : List ℕ) (at : ℕ) where
  first-at : F (entry_at st at) ≡ F (nth (rest st at) 0)
  unfolding nth
  first-at = by (leb (length st) at) refl
    where
      within : at < length st → (e : Option Entry) → entry_at st at ≡ e → F e ≡ F (nth (rest st at) 0)
      within h None q = rw (rest-none st at h q)
      within h (Some e) q = rw (next-at st at e.kind e.fields e.next h q).here (same e.kind e.fields e.next (e.next - at))

      by : (t : Bool) → leb (length st) at ≡ t → F (entry_at st at) ≡ F (nth (rest st at) 0)
      by true q =
          let h : length st ≤ at = leb-true (length st) at q in
          rw (entry-over st at h, rest_over st at h)
      by false q = within (leb-false (length st) at q) (entry_at st at) refl

  -- by its number
  pub nth-at : (i : ℕ) → rest st at ≡ drop i (entries st) → F (entry_at st at) ≡ F (nth (entries st) i)
  nth-at i e = first-at ∙ ap (λ (es : List (Option Entry)). F (nth es 0)) e ∙ ap F (sym (nth_drop (entries st) i))

-- every record of a sound store keeps its own rule
pub owned-nth : (r : Reading) (ar : List ℕ) (es : List (Option Entry)) (i : ℕ) (k : Kind) (f : Fields) (next : ℕ) → Owned r ar es → nth es i ≡ whole k f next → own_rule r ar k f ≡ true
unfolding nth
owned-nth r ar [] i k f next o e =
    let z : ◌≡◌ {A = ℕ} 0 1 = cc in
    absurd (omega arith)
owned-nth r ar (Some x ∷ es) zero k f next (more h o) e =
    let w = one x.kind k x.fields f x.next next e in
    rw (← w.kind, ← w.fields) h
owned-nth r ar (Some x ∷ es) (suc i) k f next (more h o) e = owned-nth r ar es i k f next o e
owned-nth r ar (None ∷ es) i k f next o e = elim o [ ]
