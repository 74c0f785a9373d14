-- What a writer keeps, and the cursor behind space and comments: what is left to write is the same there. Assumes nothing.
use Prim.Native.Nat.{◌≤◌}
use mathlib.Core.Path.{◌≡◌, refl, ◌∙◌}
use lib.ListN.{drop}
use Rattle.gaps.specs.Gaps.{gap, gap_end}
use Rattle.gaps.proofs.Gaps.{gap_from}
use Rattle.desk.specs.declared.Cursor.{Cursor}
use Rattle.desk.specs.declared.Writer.{Writer}
use Rattle.desk.specs.Writer.{desk_of, Same}
use Rattle.walking.specs.Walk.{behind_gap, names_from, behind_names, values_from, behind_values}
use Rattle.walking.proofs.SoFar.{SoFar}
use Rattle.walking.proofs.Lists.{value-gap, name-gap, gap-again, trim-bare}
use Rattle.walking.proofs.Values.{trim-offset}

-- what is kept is kept on
pub same-then : (u v w : Writer) → Same u v → Same v w → Same u w
same-then u v w m n =
    record {
      reading = n.reading ∙ m.reading;
      text = n.text ∙ m.text;
      full = n.full ∙ m.full;
      store = n.store ∙ m.store;
      area = n.area ∙ m.area;
    }

pub same-own : (w : Writer) → Same w w
same-own w = record { reading = refl; text = refl; full = refl; store = refl; area = refl }

module _ (w l : Writer) (m : Same w l) (b h : Cursor) (e : h ≡ behind_gap l.text.now b) where
  trim-cursor : h ≡ behind_gap w.text.now b
  trim-cursor = rw m.text at e

  pub value-gone : (c : Cursor) → SoFar w.full w.text.now (values_from w.reading w.text.now) (behind_values w.reading w.text.now) (desk_of w c) (desk_of l b)
      → SoFar w.full w.text.now (values_from w.reading w.text.now) (behind_values w.reading w.text.now) (desk_of w c) (desk_of l h)
  value-gone c i = value-gap w.reading w.full w.text.now (desk_of w c) b h l.store.now l.area.now i trim-cursor

  pub name-gone : (c : Cursor) → SoFar w.full w.text.now (names_from w.reading w.text.now) (behind_names w.reading w.text.now) (desk_of w c) (desk_of l b)
      → SoFar w.full w.text.now (names_from w.reading w.text.now) (behind_names w.reading w.text.now) (desk_of w c) (desk_of l h)
  name-gone c i = name-gap w.reading w.full w.text.now (desk_of w c) b h l.store.now l.area.now i trim-cursor

  pub gone-bare : gap (drop h.place.offset w.text.now) ≡ 0
  gone-bare = trim-bare w.text.now b h trim-cursor

  pub gone-again : gap_end w.text.now h.place.offset ≡ h.place.offset
  gone-again = gap-again w.text.now b h trim-cursor

  pub gone-further : b.place.offset ≤ h.place.offset
  gone-further = rw (trim-offset w.text.now b h trim-cursor) (gap_from w.text.now b.place.offset)
