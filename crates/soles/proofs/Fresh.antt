-- Names of which none is repeated: no two of them are the same. Assumes nothing.
use Prim.Native.Nat.{ℕ}
use mathlib.Core.Path.{◌≡◌, refl, sym, ap, ◌∙◌}
use mathlib.Core.Bool.{Bool, true, false, cond, true≢false}
use mathlib.Core.List.{List, [], ◌∷◌, ◌++◌}
use mathlib.Core.Option.{Option, none, some}
use native.Mathlib.Omega.{arith}
use Rattle.folding.proofs.Same.{same-folded, folded-same}
use Rattle.names.specs.Names.{Name, same_both}
use Rattle.names.proofs.Same.{same-scope, same_bytes, same-within}
use Rattle.naming.specs.Names.{Repeat, fresh, first_same, repeat_or, repeat_from, first_repeat}
use Rattle.soles.specs.Members.{In, here, there}

in_left : {x : Name} {xs : List Name} (ys : List Name) → In x xs → In x (xs ++ ys)
in_left ys (here e) = here e
in_left ys (there m) = there (in_left ys m)

in-last : (xs : List Name) (x : Name) → In x (xs ++ (x ∷ []))
in-last [] x = here refl
in-last (y ∷ xs) x = there (in-last xs x)

-- none of those before is the same
none_before : (before : List Name) (x : Name) → first_same before x ≡ none → (y : Name) → In y before → same_both y x ≡ false
unfolding first_same
none_before (z ∷ zs) x e y m = by (same_both z x) refl e m (λ q p. none_before zs x q y p)
  where
    by : (t : Bool) → same_both z x ≡ t → cond t (some z.number) (first_same zs x) ≡ none → In y (z ∷ zs) → (first_same zs x ≡ none → In y zs → same_both y x ≡ false) → same_both y x ≡ false
    by true q e m again =
        let z : ◌≡◌ {A = ℕ} 0 1 = cc in
        absurd (omega arith)
    by false q e (here p) again = ap (λ (n : Name). same_both n x) (sym p) ∙ q
    by false q e (there p) again = again e p
none_before [] x e y m = elim m [ ]

fresh-none : (o : Option ℕ) (j : ℕ) (rest : Repeat) → repeat_or o j rest ≡ fresh → (o ≡ none) × (rest ≡ fresh)
unfolding repeat_or
fresh-none none j rest e = (refl, e)
fresh-none (some i) j rest e =
    let z : ◌≡◌ {A = ℕ} 0 1 = cc in
    absurd (omega arith)

apart_from : (before xs : List Name) → repeat_from before xs ≡ fresh → (y x : Name) → In y before → In x xs → same_both y x ≡ false
unfolding repeat_from
apart_from before (z ∷ xs) e y x m (here p) = ap (same_both y) (sym p) ∙ none_before before z (fresh-none (first_same before z) z.number _ e).0 y m
apart_from before (z ∷ xs) e y x m (there p) = apart_from (before ++ (z ∷ [])) xs (fresh-none (first_same before z) z.number _ e).1 y x (in_left (z ∷ []) m) p
apart_from before [] e y x m x5 = elim x5 [ ]

same-turned : (x y : Name) → same_both x y ≡ true → same_both y x ≡ true
same-turned x y e = sym (same-within y x (sym (same-scope x y e))) ∙ folded-same y.bytes x.bytes (sym (same-folded x.bytes y.bytes (same_bytes x y e)))

sole-from : (before xs : List Name) → repeat_from before xs ≡ fresh → (x y : Name) → In x xs → In y xs → same_both x y ≡ true → x ≡ y
unfolding repeat_from
sole-from before (z ∷ xs) e x y (here p) (here q) s = sym p ∙ q
sole-from before (z ∷ xs) e x y (here p) (there q) s =
    absurd (true≢false (sym s ∙ ap (λ (n : Name). same_both n y) (sym p) ∙ apart_from (before ++ (z ∷ [])) xs (fresh-none (first_same before z) z.number _ e).1 z y (in-last before z) q))
sole-from before (z ∷ xs) e x y (there p) (here q) s =
    absurd (true≢false (sym (same-turned x y s) ∙ ap (λ (n : Name). same_both n x) (sym q) ∙ apart_from (before ++ (z ∷ [])) xs (fresh-none (first_same before z) z.number _ e).1 z x (in-last before z) p))
sole-from before (z ∷ xs) e x y (there p) (there q) s = sole-from (before ++ (z ∷ [])) xs (fresh-none (first_same before z) z.number _ e).1 x y p q s
sole-from before [] e x y x6 _ s = elim x6 [ ]

pub fresh-sole : (xs : List Name) → first_repeat xs ≡ fresh → (x y : Name) → In x xs → In y xs → same_both x y ≡ true → x ≡ y
unfolding first_repeat
fresh-sole xs e = sole-from [] xs e
