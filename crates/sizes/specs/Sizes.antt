-- The room that records take: in the store, in the outline's store and in the area. Assumes nothing.
use Rattle.std.specs.Prelude.{ℕ, suc, ◌+◌, ◌-◌, ◌*◌, ◌≤◌, cond, List, [], ◌∷◌}
use Rattle.kinds.specs.Kinds.{kind_of, marks_of, body_length, outline_length, has_content}
use Rattle.grammar.specs.Machine.{Rec}
use Rattle.sizes.specs.declared.Sizes.{Sizes}

-- content is the token less the marks, for the kinds that have one
unfoldable pub content_size : ℕ → ℕ → ℕ
content_size k n = cond (has_content k) (n - marks_of (kind_of k)) 0

-- one byte of kind and the body
unfoldable pub store_size : List Rec → ℕ
store_size [] = 0
store_size (r ∷ rs) = suc (body_length r.kind) + store_size rs

unfoldable pub outline_size : List Rec → ℕ
outline_size [] = 0
outline_size (r ∷ rs) = suc (outline_length r.kind) + outline_size rs

unfoldable pub area_size : List Rec → ℕ
area_size [] = 0
area_size (r ∷ rs) = content_size r.kind r.size + area_size rs

unfoldable pub sizes_of : List Rec → Sizes
sizes_of rs = record { store = store_size rs; outline = outline_size rs; area = area_size rs }

-- no records; one more, of kind k and of a token with n bytes; those of both
unfoldable pub no_sizes : Sizes
no_sizes = record { store = 0; outline = 0; area = 0 }

unfoldable pub added : Sizes → ℕ → ℕ → Sizes
added z k n =
    record {
      store = z.store + suc (body_length k);
      outline = z.outline + suc (outline_length k);
      area = z.area + content_size k n;
    }

unfoldable pub joined : Sizes → Sizes → Sizes
joined z y = record { store = z.store + y.store; outline = z.outline + y.outline; area = z.area + y.area }

-- the room that records of n bytes of text can take
pub record Upto (n : ℕ) (z : Sizes) : Type 0 where
  pub store : z.store ≤ 64 * n
  pub outline : z.outline ≤ 64 * n
  pub area : z.area ≤ 64 * n
