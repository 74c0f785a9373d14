-- Two records found that are one have one kind, one body and one end. Assumes nothing.
use Prim.Native.Nat.{ℕ}
use mathlib.Core.Path.{◌≡◌, ap}
use Rattle.kinds.specs.declared.Kind.{Kind}
use Rattle.entries.specs.declared.Fields.{Fields}
use Rattle.entries.specs.declared.Entry.{Entry}
use Rattle.entries.specs.Entries.{whole}

pub record Same (k j : Kind) (f g : Fields) (n m : ℕ) : Type 0 where
  pub kind : k ≡ j
  pub fields : f ≡ g
  pub next : n ≡ m

pub one : (k j : Kind) (f g : Fields) (n m : ℕ) → whole k f n ≡ whole j g m → Same k j f g n m
one k j f g n m e =
    let r : ◌≡◌ {A = Entry} (record { kind = k; fields = f; next = n }) (record { kind = j; fields = g; next = m }) = cc in
    record { kind = ap (λ (x : Entry). x.kind) r; fields = ap (λ (x : Entry). x.fields) r; next = ap (λ (x : Entry). x.next) r }
