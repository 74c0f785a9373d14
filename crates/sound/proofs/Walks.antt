-- The records of a text that is read are nested as a store's must be. Proved: nested-written. Assumes nothing.
use Prim.Native.Nat.{ℕ, zero, suc, ◌+◌, ◌%◌, ◌≤◌}
use mathlib.Core.Bool.{Bool, true, false, cond}
use mathlib.Core.Path.{◌≡◌, refl, sym, ap, ◌∙◌}
use mathlib.Core.List.{List, [], ◌∷◌, ◌++◌, append_assoc, append-nil}
use native.Mathlib.Omega.{arith}
use native.Mathlib.Nat.{zero-mod, zero-add}
use borrow.Author.Tests.{eqb-true, ne_eqb}
use lib.Dec.{eqb}
use Rattle.rules.specs.declared.Reading.{Reading}
use Rattle.rules.specs.declared.Reading.TheVariants.{First, Strict}
use Rattle.kinds.specs.Kinds.{kind_of, shape_of, is_value_kind}
use Rattle.values.specs.Values.{value}
use Rattle.values.proofs.Laws.{found-lies, found-value}
use Rattle.grammar.specs.Machine.{Rec, loop_end}
use Rattle.sizes.specs.Sizes.{content_size}
use Rattle.walking.specs.Writing.{tags_of}
use Rattle.nesting.specs.declared.Standing.{Standing}
use Rattle.nesting.specs.declared.Where.{Where}
use Rattle.nesting.specs.declared.Where.TheVariants.{Start, Items, Names, Values, Wants}
use Rattle.nesting.specs.Nesting.{opens_loop, at_items, after_name, at_names, at_values, standing, ended, follow, nested_from, nested}
use Rattle.written.proofs.Lexing.{mode_of, never}
use Rattle.written.proofs.Taken.{Took, Tags, opens, named, Rows, first, next, Taken, heading, single, rows, no_rows, opened, further, shut, Outline}
use Rattle.written.proofs.Sources.{Each, none, also, each_map, sources, value-reads, value_found, Facts, facts}
use Rattle.written.proofs.Written.{fields_in, entry_of, written}
use Rattle.std.specs.Prelude.{Option, Some, None}

-- records nested, by their kinds; a loop counts the tags that stand directly behind it
unfoldable nest_recs : Reading → List Rec → Bool → Where → Bool
nest_recs g [] f w = ended f w
nest_recs g (r ∷ rs) f w = follow (standing g f w r.kind (tags_of rs)) (λ f' w'. nest_recs g rs f' w')

-- the number matters to a loop alone
second : (t u : Bool) (x y z rest : Option Standing) → (u ≡ true → y ≡ z) → cond t x (cond u y rest) ≡ cond t x (cond u z rest)
second true u x y z rest e = refl
second false true x y z rest e = e refl
second false false x y z rest e = refl

standing-number : (g : Reading) (f : Bool) (w : Where) (k n m : ℕ) → (eqb k 5 ≡ true → n ≡ m) → standing g f w k n ≡ standing g f w k m
unfolding standing at_items
standing-number g f Start k n m e = refl
standing-number g f (Items x) k n m e = second (eqb k 4) (eqb k 5) _ (opens_loop f n) (opens_loop f m) _ (λ q. ap (opens_loop f) (e q))
standing-number g f (Names total left) k n m e = refl
standing-number g f (Values total j) k n m e = refl
standing-number g f Wants k n m e = refl

nested-recs : (g : Reading) (s : List ℕ) {rs : List Rec} → Each (Facts g s) rs → (a : ℕ) (f : Bool) (w : Where) → nested_from g (written s a rs) f w ≡ nest_recs g rs f w
unfolding nested_from nest_recs written entry_of
nested-recs g s none a f w = refl
nested-recs g s (also {r = r} {rs = rs} p h) a f w =
    let x = shape_of (kind_of r.kind) in
    let n = (fields_in x s a (tags_of rs) r).number in
    rw (p.known, standing-number g f w r.kind n (tags_of rs) (λ e. unfold kind_of shape_of fields_in in rw (eqb-true r.kind 5 e)))
    (by (standing g f w r.kind (tags_of rs)) (λ f w. nested-recs g s h (a + content_size r.kind r.size) f w))
  where
    by : (x : Option Standing) → ((f : Bool) (w : Where) → nested_from g (written s (a + content_size r.kind r.size) rs) f w ≡ nest_recs g rs f w) → follow x (λ f w. nested_from g (written s (a + content_size r.kind r.size) rs) f w) ≡ follow x (λ f w. nest_recs g rs f w)
    by (Some s) ih = unfold follow in ih s.frame s.place
    by None ih = unfold follow in refl

-- The walk over each form

-- behind a loop's tags, of which so many are left
unfoldable behind : ℕ → ℕ → Where
behind total zero = Values total 0
behind total (suc left) = Names total (suc left)

-- a record of kind k, and what follows it
step : (g : Reading) (r : Rec) (k : ℕ) (rest : List Rec) (f : Bool) (w : Where) → r.kind ≡ k → nest_recs g (r ∷ rest) f w ≡ follow (standing g f w k (tags_of rest)) (λ f w. nest_recs g rest f w)
unfolding nest_recs
step g r k rest f w e = rw e

-- a value's kind
Among : ℕ → Type 0
Among k = (8 ≤ k) × (is_value_kind k ≡ true)

value-kind : (g : Reading) (s : List ℕ) (f : Bool) (r : Rec) (k : ℕ) → Took g s (mode_of f) (value k) k r → Among k
unfolding Among
value-kind g s f r k t =
    let v = value_found g s r.at k r.size (value-reads f k t) in
    ((found-lies g s r.at k r.size v).low, found-value g s r.at k r.size v)

tags-none : (r : Rec) (rest : List Rec) (k : ℕ) → r.kind ≡ k → eqb k 6 ≡ false → tags_of (r ∷ rest) ≡ 0
unfolding tags_of
tags-none r rest k q e = rw (q, e)

tags-one : (r : Rec) (rest : List Rec) → r.kind ≡ 6 → tags_of (r ∷ rest) ≡ suc (tags_of rest)
unfolding tags_of
tags-one r rest q = rw q

-- what each record leads to
module _ (g : Reading) (f : Bool) (rest : List Rec) where
  go : Bool → Where → Bool
  go f w = nest_recs g rest f w

  wanted : (k n : ℕ) → Among k → follow (standing g f Wants k n) go ≡ go f (Items false)
  unfolding follow standing Among
  wanted k n b = rw b.1

  listed : (k n total j : ℕ) → Among k → follow (standing g f (Values total j) k n) go ≡ go f (Values total (suc j))
  unfolding follow standing at_values Among
  listed k n total j b = rw (ne_eqb k 7 (λ q. omega (arith, b.0)), b.1)

  loop-opens : (n : ℕ) (e : Bool) → 1 ≤ n → follow (standing g f (Items e) 5 n) go ≡ go f (behind (0 + n) n)
  unfolding follow standing at_items opens_loop behind
  loop-opens zero e l = absurd (omega arith)
  loop-opens (suc n) e l = rw (zero-add (suc n))

  name-stands : (n total left : ℕ) → follow (standing g f (Names total (suc left)) 6 n) go ≡ go f (behind total left)
  unfolding follow standing at_names after_name behind
  name-stands n total zero = refl
  name-stands n total (suc left) = refl

  tag-stands : (n : ℕ) → follow (standing g f (Items false) 4 n) go ≡ go f Wants
  unfolding follow standing at_items
  tag-stands n = refl

-- a loop ends: behind whole rows, in either reading; without any, in the first one
rows_end : (g : Reading) (f : Bool) (rest : List Rec) (n total j : ℕ) → suc j % total ≡ 0 → follow (standing g f (Values total (suc j)) 7 n) (λ f w. nest_recs g rest f w) ≡ nest_recs g rest f (Items false)
unfolding follow standing at_values
rows_end First f rest n total j z = rw (z, ne_eqb (suc j) 0 (λ q. omega arith))
rows_end Strict f rest n total j z = rw (z, ne_eqb (suc j) 0 (λ q. omega arith))

bare_ends : (g : Reading) → g ≡ First → (f : Bool) (rest : List Rec) (n total : ℕ) → follow (standing g f (Values (suc total) 0) 7 n) (λ f w. nest_recs g rest f w) ≡ nest_recs g rest f (Items true)
unfolding follow standing at_values
bare_ends First q f rest n total = let z : 0 % suc total ≡ 0 = zero-mod (suc total) in rw z
bare_ends Strict q f rest n total = never (cc)

-- a further heading, in the strict reading
heading-follows : (g : Reading) → g ≡ Strict → (rest : List Rec) (e : Bool) (n : ℕ) → follow (standing g false (Items e) 1 n) (λ f w. nest_recs g rest f w) ≡ nest_recs g rest false (Items false)
unfolding follow standing at_items
heading-follows First q rest e n = never (cc)
heading-follows Strict q rest e n = refl

heading-stands : (g : Reading) (rest : List Rec) (n : ℕ) → follow (standing g false Start 1 n) (λ f w. nest_recs g rest f w) ≡ nest_recs g rest false (Items false)
unfolding follow standing
heading-stands g rest n = refl

frame-opens : (g : Reading) (rest : List Rec) (e : Bool) (n : ℕ) → follow (standing g false (Items e) 2 n) (λ f w. nest_recs g rest f w) ≡ nest_recs g rest true (Items false)
unfolding follow standing at_items
frame-opens g rest e n = refl

frame-shuts : (g : Reading) (rest : List Rec) (e : Bool) (n : ℕ) → follow (standing g true (Items e) 3 n) (λ f w. nest_recs g rest f w) ≡ nest_recs g rest false (Items false)
unfolding follow standing at_items
frame-shuts g rest e n = refl

end-kind : loop_end.kind ≡ 7
unfolding loop_end
end-kind = refl

-- The walk over each form

tags-walk : {g : Reading} {s : List ℕ} {f : Bool} {n : ℕ} {h : List Rec} → Tags g s f n h → (e : Bool) (rest : List Rec) → 1 ≤ n + tags_of rest → nest_recs g (h ++ rest) f (Items e) ≡ nest_recs g rest f (behind (n + tags_of rest) (tags_of rest))
unfolding go behind
tags-walk {g = g} {f = f} (opens {r = r} t) e rest l = step g r 5 rest f (Items e) t.kind ∙ loop-opens g f rest (tags_of rest) e (omega arith)
tags-walk {g = g} {f = f} (named {n = n} {h = h} {r = r} y t w) e rest l =
    let q = tags-one r rest t.kind in
    let m : n + suc (tags_of rest) ≡ suc n + tags_of rest = omega arith in
    ap (λ (x : List Rec). nest_recs g x f (Items e)) (append_assoc h (r ∷ []) rest)
    ∙ tags-walk y e (r ∷ rest) (omega arith)
    ∙ ap (λ (x : ℕ). nest_recs g (r ∷ rest) f (behind (n + x) x)) q
    ∙ step g r 6 rest f (Names (n + suc (tags_of rest)) (suc (tags_of rest))) t.kind
    ∙ name-stands g f rest (tags_of rest) (n + suc (tags_of rest)) (tags_of rest)
    ∙ ap (λ (x : ℕ). nest_recs g rest f (behind x (tags_of rest))) m

rows-walk : {g : Reading} {s : List ℕ} {f : Bool} {n j : ℕ} {h : List Rec} → Rows g s f n j h → 1 ≤ n → (e : Bool) (rest : List Rec) → nest_recs g (h ++ rest) f (Items e) ≡ nest_recs g rest f (Values n j)
unfolding go behind Among
rows-walk {g = g} {s = s} {f = f} {n = n} (first {h = h} {r = r} k y t) l e rest =
    let b = value-kind g s f r k t in
    let q = tags-none r rest k t.kind (ne_eqb k 6 (λ q. omega (arith, b.0))) in
    let m : n + 0 ≡ n = omega arith in
    ap (λ (x : List Rec). nest_recs g x f (Items e)) (append_assoc h (r ∷ []) rest)
    ∙ tags-walk y e (r ∷ rest) (omega arith)
    ∙ ap (λ (x : ℕ). nest_recs g (r ∷ rest) f (behind (n + x) x)) q
    ∙ ap (λ (x : ℕ). nest_recs g (r ∷ rest) f (Values x 0)) m
    ∙ step g r k rest f (Values n 0) t.kind
    ∙ listed g f rest k (tags_of rest) n 0 b
rows-walk {g = g} {s = s} {f = f} {n = n} (next {j = j} {h = h} {r = r} k y t) l e rest =
    ap (λ (x : List Rec). nest_recs g x f (Items e)) (append_assoc h (r ∷ []) rest)
    ∙ rows-walk y l e (r ∷ rest)
    ∙ step g r k rest f (Values n j) t.kind
    ∙ listed g f rest k (tags_of rest) n j (value-kind g s f r k t)

join : (a b c rest : List Rec) → a ++ b ++ c ++ rest ≡ a ++ (b ++ (c ++ rest))
join a b c rest = simp append_assoc

taken-walk : {g : Reading} {s : List ℕ} {f e : Bool} {rs : List Rec} → Taken g s f e rs → (rest : List Rec) → nest_recs g (rs ++ rest) false Start ≡ nest_recs g rest f (Items e)
unfolding go behind
taken-walk {g = g} (heading {r = r} t w) rest = step g r 1 rest false Start t.kind ∙ heading-stands g rest (tags_of rest)
taken-walk {g = g} {s = s} {f = f} (single {out = out} {t = t} {v = v} k h y z w) rest =
    ap (λ (x : List Rec). nest_recs g x false Start) (join out (t ∷ []) (v ∷ []) rest)
    ∙ taken-walk h (t ∷ v ∷ rest)
    ∙ step g t 4 (v ∷ rest) f (Items false) y.kind
    ∙ tag-stands g f (v ∷ rest) (tags_of (v ∷ rest))
    ∙ step g v k rest f Wants w.kind
    ∙ wanted g f rest k (tags_of rest) (value-kind g s f v k w)
taken-walk {g = g} {f = f} (rows {e = e} {n = n} {j = j} {out = out} {h = h} y r z) rest =
    ap (λ (x : List Rec). nest_recs g x false Start) (join out h (loop_end ∷ []) rest)
    ∙ taken-walk y (h ++ (loop_end ∷ rest))
    ∙ rows-walk r (omega arith) e (loop_end ∷ rest)
    ∙ step g loop_end 7 rest f (Values (suc n) (suc j)) end-kind
    ∙ rows_end g f rest (tags_of rest) (suc n) j z
taken-walk {g = g} {f = f} (no_rows {e = e} {n = n} {out = out} {h = h} z y r) rest =
    let q = tags-none loop_end rest 7 end-kind refl in
    let m : suc n + 0 ≡ suc n = omega arith in
    ap (λ (x : List Rec). nest_recs g x false Start) (join out h (loop_end ∷ []) rest)
    ∙ taken-walk y (h ++ (loop_end ∷ rest))
    ∙ tags-walk r e (loop_end ∷ rest) (omega arith)
    ∙ ap (λ (x : ℕ). nest_recs g (loop_end ∷ rest) f (behind (suc n + x) x)) q
    ∙ ap (λ (x : ℕ). nest_recs g (loop_end ∷ rest) f (Values x 0)) m
    ∙ step g loop_end 7 rest f (Values (suc n) 0) end-kind
    ∙ bare_ends g z f rest (tags_of rest) n
taken-walk {g = g} (opened {e = e} {out = out} {r = r} h t w) rest =
    ap (λ (x : List Rec). nest_recs g x false Start) (append_assoc out (r ∷ []) rest)
    ∙ taken-walk h (r ∷ rest)
    ∙ step g r 2 rest false (Items e) t.kind
    ∙ frame-opens g rest e (tags_of rest)
taken-walk {g = g} (further {e = e} {out = out} {r = r} q h t w) rest =
    ap (λ (x : List Rec). nest_recs g x false Start) (append_assoc out (r ∷ []) rest)
    ∙ taken-walk h (r ∷ rest)
    ∙ step g r 1 rest false (Items e) t.kind
    ∙ heading-follows g q rest e (tags_of rest)
taken-walk {g = g} (shut {e = e} {out = out} {r = r} h t) rest =
    ap (λ (x : List Rec). nest_recs g x false Start) (append_assoc out (r ∷ []) rest)
    ∙ taken-walk h (r ∷ rest)
    ∙ step g r 3 rest true (Items e) t.kind
    ∙ frame-shuts g rest e (tags_of rest)

-- NESTED AS A STORE MUST BE
pub nested-written : (g : Reading) (s : List ℕ) (rs : List Rec) → Outline g s rs → nested g (written s 0 rs) ≡ true
unfolding nested
nested-written g s rs h =
    nested-recs g s (each_map (λ r. facts) (sources h.read.taken)) 0 false Start
    ∙ ap (λ (x : List Rec). nest_recs g x false Start) (sym (append-nil rs))
    ∙ taken-walk h.read.taken []
    ∙ unfold nest_recs ended in refl
