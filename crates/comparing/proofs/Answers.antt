-- Laws of Compare: one store by itself, what both say, and the list. Assumes nothing.
use Prim.Native.Nat.{ℕ, ◌+◌, ◌≤◌, ◌<◌}
use mathlib.Core.Path.{◌≡◌, refl, sym, ap, ap₂, ◌∙◌}
use mathlib.Core.Bool.{Bool, true, false, cond, ◌&&◌}
use mathlib.Core.List.{List, ◌++◌}
use native.Mathlib.Omega.{arith}
use borrow.Author.Tests.{le-leb, lt-leb}
use lib.Dec.{ltb}
use lib.ListN.{length, length-append}
use Rattle.text.proofs.Bools.{and_l, and_r}
use Rattle.rules.specs.declared.Reading.{Reading}
use Rattle.records.specs.Put.{front, put}
use Rattle.records.proofs.Putting.{front-next, put-zero, length_front}
use Rattle.stores.specs.Soundness.{sound}
use Rattle.names.specs.Names.{names}
use Rattle.naming.specs.declared.NameError.{NameError}
use Rattle.naming.specs.declared.NameError.TheVariants.{NotSound, Repeated}
use Rattle.naming.specs.Names.{Repeat, fresh, repeats, first_repeat, naming_of, name_check}
use Rattle.frames.specs.Frames.{frames, earlier, first_twice, is_single}
use Rattle.soles.specs.Singular.{Singular}
use Rattle.soles.proofs.Singular.{singular}
use Rattle.changes.specs.Changes.{changes, side_of, changes_bytes}
use Rattle.changes.specs.Steps.{Comparable}
use Rattle.changes.proofs.Changes.{bytes-append, side-fits}
use Rattle.std.specs.Prelude.{Result, Ok, Err}
use Rattle.comparing.specs.declared.CompareError.{CompareError}
use Rattle.comparing.specs.declared.CompareError.TheVariants.{NoRoom}
use Rattle.comparing.specs.Comparing.{bytes_of, judged, refusal_of, fitted, answered, comparing, list_after, Compares}
use Rattle.comparing.specs.Steps.{of_names, earlier_of, Writes}

-- ONE STORE
earlier-naming : (x y : Repeat) → earlier_of (naming_of x) (naming_of y) ≡ naming_of (earlier x y)
unfolding earlier_of naming_of earlier
earlier-naming fresh y = refl
earlier-naming (repeats i j) fresh = refl
earlier-naming (repeats i j) (repeats k l) = by (ltb l j)
  where
    by : (t : Bool) → cond t (Err (Repeated k l)) (Err (Repeated i j)) ≡ naming_of (cond t (repeats k l) (repeats i j))
    by true = refl
    by false = refl

module _ (r : Reading) (st ar : List ℕ) where
  pub judged-several : is_single st ≡ false → Err NotSound ≡ judged r st ar
  unfolding judged
  judged-several e = rw e (by (sound r st ar))
    where
      by : (t : Bool) → Err NotSound ≡ cond (t && false) (naming_of (first_twice st ar)) (Err NotSound)
      by true = refl
      by false = refl

  pub judged-single : is_single st ≡ true → earlier_of (name_check r st ar) (naming_of (first_repeat (frames st ar))) ≡ judged r st ar
  unfolding judged name_check first_twice earlier_of
  judged-single e = rw e (by (sound r st ar))
    where
      by : (t : Bool) → earlier_of (cond t (naming_of (first_repeat (names st ar))) (Err NotSound)) (naming_of (first_repeat (frames st ar))) ≡ cond (t && true) (naming_of (earlier (first_repeat (names st ar)) (first_repeat (frames st ar)))) (Err NotSound)
      by true = earlier-naming (first_repeat (names st ar)) (first_repeat (frames st ar))
      by false = refl

  -- what is not refused is sound
  pub judged-sound : judged r st ar ≡ Ok tt → sound r st ar ≡ true
  unfolding judged
  judged-sound e = by (sound r st ar) (is_single st) e
    where
      by : (s t : Bool) → cond (s && t) (naming_of (first_twice st ar)) (Err NotSound) ≡ Ok tt → s ≡ true
      by true t q = refl
      by false t q =
          let z : ◌≡◌ {A = ℕ} 0 1 = cc in
          absurd (omega arith)

both-fresh : (a b : Repeat) → naming_of (earlier a b) ≡ Ok tt → (a ≡ fresh) × (b ≡ fresh)
unfolding earlier naming_of
both-fresh fresh fresh e = (refl, refl)
both-fresh fresh (repeats k l) e =
    let z : ◌≡◌ {A = ℕ} 0 1 = cc in
    absurd (omega arith)
both-fresh (repeats i j) fresh e =
    let z : ◌≡◌ {A = ℕ} 0 1 = cc in
    absurd (omega arith)
both-fresh (repeats i j) (repeats k l) e = by (ltb l j) e
  where
    by : (t : Bool) → naming_of (cond t (repeats k l) (repeats i j)) ≡ Ok tt → (repeats i j ≡ fresh) × (repeats k l ≡ fresh)
    by true e =
        let z : ◌≡◌ {A = ℕ} 0 1 = cc in
        absurd (omega arith)
    by false e =
        let z : ◌≡◌ {A = ℕ} 0 1 = cc in
        absurd (omega arith)

-- and may be compared
pub judged-singular : (r : Reading) (st ar : List ℕ) → judged r st ar ≡ Ok tt → Singular st ar
unfolding judged first_twice
judged-singular r st ar e = by (sound r st ar && is_single st) refl e
  where
    by : (t : Bool) → (sound r st ar && is_single st) ≡ t → cond t (naming_of (first_twice st ar)) (Err NotSound) ≡ Ok tt → Singular st ar
    by true q e =
        let names_fresh = both-fresh (first_repeat (names st ar)) (first_repeat (frames st ar)) e in
        singular r st ar (and_l (sound r st ar) _ q) (and_r (sound r st ar) _ q) names_fresh.0 names_fresh.1
    by false q e =
        let z : ◌≡◌ {A = ℕ} 0 1 = cc in
        absurd (omega arith)

-- BOTH
pub refusal-none : (a b : Result Unit NameError) → refusal_of a b ≡ Ok tt → (a ≡ Ok tt) × (b ≡ Ok tt)
unfolding refusal_of
refusal-none (Ok u) b e = (refl, e)
refusal-none (Err NotSound) b e =
    let z : ◌≡◌ {A = ℕ} 0 1 = cc in
    absurd (omega arith)
refusal-none (Err (Repeated i j)) (Err NotSound) e =
    let z : ◌≡◌ {A = ℕ} 0 1 = cc in
    absurd (omega arith)
refusal-none (Err (Repeated i j)) (Ok u) e =
    let z : ◌≡◌ {A = ℕ} 0 1 = cc in
    absurd (omega arith)
refusal-none (Err (Repeated i j)) (Err (Repeated k l)) e =
    let z : ◌≡◌ {A = ℕ} 0 1 = cc in
    absurd (omega arith)

-- THE LIST
module _ (st ar st' ar' : List ℕ) where
  parted : bytes_of st ar st' ar' ≡ changes_bytes (side_of true st ar st' ar') ++ changes_bytes (side_of false st' ar' st ar)
  unfolding bytes_of changes
  parted = bytes-append (side_of true st ar st' ar') (side_of false st' ar' st ar)

  module _ (a b : ℕ) (p : a ≡ length (changes_bytes (side_of true st ar st' ar'))) (q : b ≡ length (changes_bytes (side_of false st' ar' st ar))) where
    pub needs : a + b ≡ length (bytes_of st ar st' ar')
    needs = ap₂ (λ (x y : ℕ). x + y) p q ∙ sym (ap length parted ∙ length-append (changes_bytes (side_of true st ar st' ar')) (changes_bytes (side_of false st' ar' st ar)))

    -- no sum wraps: each store's entries take no more bytes than it has
    pub needs-within : a + b ≤ length st + length st'
    needs-within = omega (arith, side-fits true st ar st' ar', side-fits false st' ar' st ar)

    pub lacks-room : (l : List ℕ) → length l < a + b → Writes st ar st' ar' l (Err (NoRoom (a + b))) l
    unfolding fitted list_after
    lacks-room l h = record { answers = rw (← needs, lt-leb (a + b) (length l) h); list = refl }

    pub has_room : (l l' l'' : List ℕ) → a + b ≤ length l → l' ≡ put 0 (changes_bytes (side_of true st ar st' ar')) l → l'' ≡ put a (changes_bytes (side_of false st' ar' st ar)) l' → Writes st ar st' ar' l (Ok (a + b)) l''
    unfolding fitted list_after
    has_room l l' l'' h e f =
        record {
          answers = rw (← needs, le-leb (a + b) (length l) h);
          list =
              f ∙ ap (put a (changes_bytes (side_of false st' ar' st ar))) (e ∙ put-zero (changes_bytes (side_of true st ar st' ar')) l)
              ∙ front-next a (changes_bytes (side_of true st ar st' ar')) (changes_bytes (side_of false st' ar' st ar)) l (sym p)
              ∙ ap (λ (v : List ℕ). front v l) (sym parted);
        }

    -- the first part leaves the list as long as it was
    pub second-room : (l l' : List ℕ) → a + b ≤ length l → l' ≡ put 0 (changes_bytes (side_of true st ar st' ar')) l → a + length (changes_bytes (side_of false st' ar' st ar)) ≤ length l'
    second-room l l' h e =
        omega (arith, ap length (e ∙ put-zero (changes_bytes (side_of true st ar st' ar')) l), length_front (changes_bytes (side_of true st ar st' ar')) l (omega arith))

-- THE ANSWER
module _ (r : Reading) (st ar st' ar' l : List ℕ) (n : Result Unit NameError) (e : n ≡ refusal_of (judged r st ar) (judged r st' ar')) where
  pub compared-refused : (x : NameError) → n ≡ Err x → Compares r st ar st' ar' l (Err (of_names x)) l
  unfolding comparing answered list_after of_names
  compared-refused NotSound q = record { answers = rw (← e, q); list = refl }
  compared-refused (Repeated i j) q = record { answers = rw (← e, q); list = refl }

  pub compared-list : (c : Result ℕ CompareError) (l' : List ℕ) → n ≡ Ok tt → Writes st ar st' ar' l c l' → Compares r st ar st' ar' l c l'
  unfolding comparing answered
  compared-list c l' q w = record { answers = w.answers ∙ rw (← e, q); list = w.list }

  both-distinct : n ≡ Ok tt → (judged r st ar ≡ Ok tt) × (judged r st' ar' ≡ Ok tt)
  both-distinct q = refusal-none (judged r st ar) (judged r st' ar') (sym e ∙ q)

  pub both-ready : n ≡ Ok tt → Comparable st ar st' ar' × Comparable st' ar' st ar
  both-ready q =
      let d = both-distinct q in
      let s = judged-sound r st ar d.0 in
      let s' = judged-sound r st' ar' d.1 in
      (record { reading = r; here = s; there = s'; singular = judged-singular r st' ar' d.1 }, record { reading = r; here = s'; there = s; singular = judged-singular r st ar d.0 })
