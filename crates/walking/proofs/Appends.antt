-- Records one after the other: their lengths, bytes and contents. Assumes nothing.
use Prim.Native.Nat.{ℕ, ◌+◌}
use mathlib.Core.Path.{◌≡◌, refl, sym, ap, ◌∙◌}
use mathlib.Core.Bool.{Bool, true, false}
use mathlib.Core.List.{List, [], ◌∷◌, ◌++◌, append_assoc}
use native.Mathlib.Omega.{arith}
use native.Mathlib.Nat.{add-zero}
use lib.ListN.{length, length-append}
use Rattle.grammar.specs.Machine.{Rec}
use Rattle.sizes.specs.Sizes.{content_size, store_size, outline_size, area_size}
use Rattle.desk.specs.Written.{record_bytes}
use Rattle.walking.specs.Writing.{tags_of, store_of, area_of}
use Rattle.desk.specs.Desk.{stored_length}
use Rattle.desk.proofs.Bytes.{record-length, store-none}

-- the store's bytes are as many as the sizes say
pub store_length : (full : Bool) (s : List ℕ) (a : ℕ) (rs : List Rec) → length (store_of full s a rs) ≡ stored_length full rs
unfolding store_of
store_length full s a [] = sym (store-none full)
store_length full s a (r ∷ rs) =
    length-append (record_bytes full s a (tags_of rs) r) (store_of full s (a + content_size r.kind r.size) rs)
    ∙ ap (λ m. length (record_bytes full s a (tags_of rs) r) + m) (store_length full s (a + content_size r.kind r.size) rs)
    ∙ record-length full s a (tags_of rs) r rs

-- One after the other. A loop counts the tags behind it, so what follows must not start with one

tags-append : (xs ys : List Rec) → tags_of ys ≡ 0 → tags_of (xs ++ ys) ≡ tags_of xs
unfolding tags_of
tags-append [] ys e = e
tags-append (x ∷ xs) ys e = rw (tags-append xs ys e)

pub area-size-append : (xs ys : List Rec) → area_size (xs ++ ys) ≡ area_size xs + area_size ys
unfolding area_size
area-size-append [] ys = omega arith
area-size-append (x ∷ xs) ys = omega (arith, area-size-append xs ys)

store-size-append : (xs ys : List Rec) → store_size (xs ++ ys) ≡ store_size xs + store_size ys
unfolding store_size
store-size-append [] ys = omega arith
store-size-append (x ∷ xs) ys = omega (arith, store-size-append xs ys)

outline-size-append : (xs ys : List Rec) → outline_size (xs ++ ys) ≡ outline_size xs + outline_size ys
unfolding outline_size
outline-size-append [] ys = omega arith
outline-size-append (x ∷ xs) ys = omega (arith, outline-size-append xs ys)

pub store-length-append : (full : Bool) (xs ys : List Rec) → stored_length full (xs ++ ys) ≡ stored_length full xs + stored_length full ys
unfolding stored_length
store-length-append true xs ys = store-size-append xs ys
store-length-append false xs ys = outline-size-append xs ys

pub area-append : (s : List ℕ) (xs ys : List Rec) → area_of s (xs ++ ys) ≡ area_of s xs ++ area_of s ys
unfolding area_of
area-append s [] ys = refl
area-append s (x ∷ xs) ys = rw (area-append s xs ys, append_assoc)

pub store-append : (full : Bool) (s : List ℕ) (a : ℕ) (xs ys : List Rec) → tags_of ys ≡ 0 → store_of full s a (xs ++ ys) ≡ store_of full s a xs ++ store_of full s (a + area_size xs) ys
unfolding store_of area_size
store-append full s a [] ys e = let z : a + 0 ≡ a = add-zero a in rw z
store-append full s a (x ∷ xs) ys e =
    let n = content_size x.kind x.size in
    let z : a + n + area_size xs ≡ a + (n + area_size xs) = omega arith in
    rw (tags-append xs ys e, store-append full s (a + n) xs ys e, z, append_assoc)
