-- Laws of sizes: those of appended records add up, and records take at most 64 bytes for each byte of text. Assumes nothing.
use Prim.Native.Nat.{ℕ, suc, ◌+◌, ◌-◌, ◌≤◌}
use mathlib.Core.Path.{◌≡◌, refl}
use mathlib.Core.Bool.{Bool, true, false, cond}
use mathlib.Core.List.{List, [], ◌∷◌, ◌++◌}
use native.Mathlib.Omega.{arith}
use Rattle.std.specs.Prelude.{min}
use Rattle.kinds.specs.declared.Kind.{Kind}
use Rattle.kinds.specs.declared.Shape.{Shape}
use Rattle.kinds.specs.declared.Shape.TheVariants.{Empty, Place, Content, Count, Parts, PartsUncertain}
use Rattle.kinds.specs.Kinds.{kind_of, shape_of, shape_length, outline_shape, marks_of, body_length, outline_length, is_content, has_content}
use Rattle.sizes.specs.declared.Sizes.{Sizes}
use Rattle.grammar.specs.Machine.{Rec}
use Rattle.sizes.specs.Sizes.{content_size, store_size, outline_size, area_size, sizes_of, no_sizes, added, joined, Upto}

-- two sizes with equal parts are equal
same : {z y : Sizes} → z.store ≡ y.store → z.outline ≡ y.outline → z.area ≡ y.area → z ≡ y
same e f g = λ i. record { store = e i; outline = f i; area = g i }

store-append : (a b : List Rec) → store_size (a ++ b) ≡ store_size a + store_size b
unfolding store_size
store-append [] b = omega arith
store-append (r ∷ a) b = omega (arith, store-append a b)

outline-append : (a b : List Rec) → outline_size (a ++ b) ≡ outline_size a + outline_size b
unfolding outline_size
outline-append [] b = omega arith
outline-append (r ∷ a) b = omega (arith, outline-append a b)

area-append : (a b : List Rec) → area_size (a ++ b) ≡ area_size a + area_size b
unfolding area_size
area-append [] b = omega arith
area-append (r ∷ a) b = omega (arith, area-append a b)

-- the sizes of appended records add up
pub sizes-append : (a b : List Rec) → sizes_of (a ++ b) ≡ joined (sizes_of a) (sizes_of b)
unfolding sizes_of joined
sizes-append a b = same (store-append a b) (outline-append a b) (area-append a b)

pub sizes-none : sizes_of [] ≡ no_sizes
unfolding sizes_of no_sizes store_size outline_size area_size
sizes-none = refl

-- the room that is given by default
pub default-none : {z : Sizes} → (z.store ≡ 0) × ((z.outline ≡ 0) × (z.area ≡ 0)) → z ≡ no_sizes
unfolding no_sizes
default-none e = same e.0 e.1.0 e.1.1

-- one record
pub sizes-one : (r : Rec) → sizes_of (r ∷ []) ≡ added no_sizes r.kind r.size
unfolding sizes_of no_sizes added store_size outline_size area_size
sizes-one r = same (omega arith) (omega arith) (omega arith)

-- one record more
pub sizes-snoc : (rs : List Rec) (r : Rec) → sizes_of (rs ++ (r ∷ [])) ≡ added (sizes_of rs) r.kind r.size
unfolding sizes_of joined added store_size outline_size area_size
sizes-snoc rs r = same (omega (arith, store-append rs (r ∷ []))) (omega (arith, outline-append rs (r ∷ []))) (omega (arith, area-append rs (r ∷ [])))

pub joined-assoc : (x y z : Sizes) → joined (joined x y) z ≡ joined x (joined y z)
unfolding joined
joined-assoc x y z = same (omega arith) (omega arith) (omega arith)

pub none-joined : (z : Sizes) → joined no_sizes z ≡ z
unfolding joined no_sizes
none-joined z = same (omega arith) (omega arith) (omega arith)

-- a body is at most 38 bytes
pub shape-small : (x : Shape) → (shape_length x ≤ 38) × (shape_length (outline_shape x) ≤ 38)
unfolding shape_length outline_shape
shape-small Empty = (omega arith, omega arith)
shape-small Place = (omega arith, omega arith)
shape-small Content = (omega arith, omega arith)
shape-small Count = (omega arith, omega arith)
shape-small Parts = (omega arith, omega arith)
shape-small PartsUncertain = (omega arith, omega arith)

pub body-small : (k : ℕ) → body_length k ≤ 38
unfolding body_length
body-small k = (shape-small (shape_of (kind_of k))).0

pub outline-small : (k : ℕ) → outline_length k ≤ 38
unfolding outline_length
outline-small k = (shape-small (shape_of (kind_of k))).1

pub content-least : (k : Kind) (n : ℕ) → cond (is_content (shape_of k)) (n - marks_of k) 0 ≤ n
content-least k n = by (is_content (shape_of k))
  where
    by : (b : Bool) → cond b (n - marks_of k) 0 ≤ n
    by true = omega arith
    by false = omega arith

pub content-small : (k n : ℕ) → content_size k n ≤ n
unfolding content_size has_content
content-small k n = content-least (kind_of k) n

-- what records of so many bytes of text take
pub upto-none : (n : ℕ) → Upto n no_sizes
unfolding no_sizes
upto-none n = record { store = omega arith; outline = omega arith; area = omega arith }

pub upto-added : (n k size p : ℕ) (z : Sizes) → Upto n z → suc n ≤ p → n + size ≤ p → Upto p (added z k size)
unfolding added
upto-added n k size p z h a b =
    record {
      store = omega (arith, body-small k);
      outline = omega (arith, outline-small k);
      area = omega (arith, content-small k size);
    }

pub upto-joined : (n m p : ℕ) (z y : Sizes) → Upto n z → Upto m y → n + m ≤ p → Upto p (joined z y)
unfolding joined
upto-joined n m p z y h g e = record { store = omega arith; outline = omega arith; area = omega arith }

pub upto-more : (n p : ℕ) (z : Sizes) → Upto n z → n ≤ p → Upto p z
upto-more n p z h e = record { store = omega arith; outline = omega arith; area = omega arith }

-- one record before others
pub sizes-cons : (r : Rec) (rs : List Rec) → sizes_of (r ∷ rs) ≡ joined (added no_sizes r.kind r.size) (sizes_of rs)
unfolding sizes_of joined added no_sizes store_size outline_size area_size
sizes-cons r rs = same (omega arith) (omega arith) (omega arith)

pub added-joined : (z y : Sizes) (k n : ℕ) → joined (added z k n) y ≡ joined z (joined (added no_sizes k n) y)
unfolding joined added no_sizes
added-joined z y k n = same (omega arith) (omega arith) (omega arith)

pub added_none : (z : Sizes) (k n : ℕ) → joined z (added no_sizes k n) ≡ added z k n
unfolding joined added no_sizes
added_none z k n = same (omega arith) (omega arith) (omega arith)

pub joined-none : (z : Sizes) → joined z no_sizes ≡ z
unfolding joined no_sizes
joined-none z = same (omega arith) (omega arith) (omega arith)

-- a body begins with its place, and the outline has no more of it
pub outline-least : (x : Shape) → min (shape_length x) 16 ≡ shape_length (outline_shape x)
unfolding shape_length outline_shape
outline-least Empty = refl
outline-least Place = refl
outline-least Content = refl
outline-least Count = refl
outline-least Parts = refl
outline-least PartsUncertain = refl

-- a shape other than Content
pub no-content : (x : Shape) → (x ≡ Content → ⊥) → is_content x ≡ false
unfolding is_content
no-content Content n = absurd (n refl)
no-content Empty n = refl
no-content Place n = refl
no-content Count n = refl
no-content Parts n = refl
no-content PartsUncertain n = refl

-- as the code adds them
pub added-steps : (z : Sizes) (k n a b d : ℕ) → a ≡ shape_length (shape_of (kind_of k)) → b ≡ min a 16 → d ≡ cond (is_content (shape_of (kind_of k))) (n - marks_of (kind_of k)) 0
    → record { store = z.store + 1 + a; outline = z.outline + 1 + b; area = z.area + d } ≡ added z k n
unfolding added body_length outline_length content_size has_content
added-steps z k n a b d e f g =
    let o : b ≡ shape_length (outline_shape (shape_of (kind_of k))) = rw (f, e) (outline-least (shape_of (kind_of k))) in
    same (omega arith) (omega arith) (omega arith)
